-- What a host in memory with a list of failing calls tells, and which of its calls fail.
use Rattle.std.specs.Prelude.{◌≡◌, ◌⊎◌, ℕ, List, length, take, Option, Some, None, Result, Err, IsSomeAnd, option_map, slice_get, slice_index}
use Rattle.mlt_base.specs.declared.port.Port.{Port}
use Rattle.mlt_host.specs.declared.host.LoadFault.{LoadFault}
use Rattle.mlt_host.specs.declared.host.LoadFault.TheVariants.{Failed}
use Rattle.mlt_host.specs.declared.kept.Kept.{Kept}
use Rattle.mlt_host.specs.declared.failures.Failure.{Failure}
use Rattle.mlt_host.specs.declared.mem_host.MemHost.{MemHost}
use Rattle.mlt_host.specs.Host.{HostState, cut_short}
use Rattle.mlt_host.specs.Ports.{index_of}
use Rattle.mlt_host.specs.Count.{next}
use Rattle.mlt_host.specs.Kept.{kept_state, LacksRoom}
use Rattle.mlt_host.specs.Failures.{failure_at}
use Rattle.mlt_host.specs.Files.{file_in, names_in, answer_of}

-- the bytes of the file of that name
abbrev pub mem_file : MemHost → List ℕ → Option (List ℕ)
mem_file host = file_in host.files

-- what it tells: everything
abbrev pub mem_state : MemHost → HostState
mem_state host = record {
  files = Some (mem_file host);
  asked = Some (names_in host.asked.items);
  port = λ port. option_map kept_state (slice_get host.ports (index_of port));
  load_faults = host.load_faults;
  faults = λ port. slice_index host.faults (index_of port);
  creates = λ port. slice_index host.creates (index_of port);
}

-- what it keeps of the port
abbrev pub mem_port : MemHost → Port → Option Kept
mem_port host port = slice_get host.ports (index_of port)

-- the number of the next call of load, create or append
abbrev pub calls_of : MemHost → ℕ
calls_of host = host.calls

-- the calls that are to fail
abbrev pub failures_of : MemHost → List Failure
failures_of host = host.failures.items

-- how many bytes the next call keeps, where it is to fail
abbrev pub next_failure : MemHost → Option ℕ
next_failure host = failure_at (failures_of host) (calls_of host)

-- the call has taken its number, and the same calls are to fail
pub record TakesNumber (old new : MemHost) : Type 0 where
  pub calls : calls_of new ≡ next (calls_of old)
  pub failures : failures_of new ≡ failures_of old

-- the answer of a load where memory suffices: one that is to fail fails, else the file decides
abbrev pub load_answer : Option ℕ → Option (List ℕ) → ℕ → Result (List ℕ) LoadFault
load_answer (Some kept) file limit = Err Failed
load_answer None file limit = answer_of file limit

-- an append that fails has kept the front of the piece; or nothing, but only where the front lacked room
abbrev pub KeepsFront : MemHost → MemHost → Port → List ℕ → ℕ → Type 0
KeepsFront old new port piece kept =
    IsSomeAnd ((mem_state old).port port) (λ before. (mem_state new).port port ≡ Some (cut_short before piece kept))
    ⊎ LacksRoom (mem_port old port) (length (take kept piece)) × ((mem_state new).port port ≡ (mem_state old).port port)
