-- What the host of a program tells, where its ports go, and what it holds.
use Rattle.std.specs.Prelude.{◌≡◌, ◌≢◌, ◌⊎◌, ℕ, ◌<◌, List, length, Option, None, slice_index}
use Rattle.mlt_base.specs.declared.port.Port.{Port}
use Rattle.mlt_host.specs.declared.disk_host.DiskHost.{DiskHost}
use Rattle.mlt_host.specs.Host.{HostState}
use Rattle.mlt_host.specs.Ports.{index_of}
use Rattle.mlt_host.specs.Outlet.{Place, FileOf, place_at, file_at, sink_at}
use Rattle.mlt_host.specs.Streams.{SinkState}
use Rattle.mlt_host.specs.Disk.{DiskState}

-- what it tells as a host, by what its disk tells: the files of the disk, and its counts
abbrev pub disk_state : {D O E R F : Type 0} → (D → DiskState) → DiskHost D O E R F → HostState
disk_state disk host = record {
  files = (disk host.disk).files;
  asked = None;
  port = λ _. None;
  load_faults = host.load_faults;
  faults = λ port. slice_index host.faults (index_of port);
  creates = λ port. slice_index host.creates (index_of port);
}

-- its disk
abbrev pub disk_of : {D O E R F : Type 0} → DiskHost D O E R F → D
disk_of host = host.disk

-- what writes to standard output
abbrev pub stdout_of : {D O E R F : Type 0} → DiskHost D O E R F → O
stdout_of host = host.stdout

-- what writes to standard error
abbrev pub stderr_of : {D O E R F : Type 0} → DiskHost D O E R F → E
stderr_of host = host.stderr

-- where the port goes
abbrev pub disk_place : {D O E R F : Type 0} → DiskHost D O E R F → Port → Place
disk_place host port = place_at host.outlets port

-- the file that the port has open, where it has one
abbrev pub disk_open : {D O E R F : Type 0} → DiskHost D O E R F → Port → Option F
disk_open host port = file_at host.outlets port

-- what the file or the stream tells to which the port goes, where it goes to one, by what each of them tells
abbrev pub sink_of : {D O E R F : Type 0} → (F → SinkState) → (O → SinkState) → (E → SinkState) → DiskHost D O E R F → Port → Option SinkState
sink_of file stdout stderr host port = sink_at file (stdout host.stdout) (stderr host.stderr) host.outlets port

-- another port has the file of that name open, or the name is too long
abbrev pub IsTaken : {D O E R F : Type 0} → DiskHost D O E R F → Port → List ℕ → Type 0
IsTaken host port name = ((other : Port) × (other ≢ port) × (disk_place host other ≡ FileOf name)) ⊎ (4096 < length name)

-- nothing but its counts and its disk has changed
pub record OnlyDisk {D O E R F : Type 0} (old new : DiskHost D O E R F) : Type 0 where
  pub stdout : new.stdout ≡ old.stdout
  pub stderr : new.stderr ≡ old.stderr
  pub outlets : new.outlets ≡ old.outlets
