-- What a run leaves on a host, by its answer.
use Rattle.std.specs.Prelude.{◌≡◌, ◌≢◌, ◌⊎◌, ◌<◌, ◌≤◌, ◌+◌, ◌++◌, ◌||◌, ℕ, nat_lt, Bool, true, false, if◌then◌else◌, List, length, take, Option, None, Some, IfSome}
use Rattle.mlt_base.specs.declared.port.Port.{Port}
use Rattle.mlt_base.specs.declared.port.Port.TheVariants.{Video, Audio, Script, Text}
use Rattle.mlt_host.specs.Count.{next}
use Rattle.mlt_host.specs.Host.{PortState, HostState, Rose}
use Rattle.mlt_tree.specs.Show.{Run, bytes_to, loads_to}
use Rattle.melt_run.specs.declared.status.Tally.{Tally}
use Rattle.melt_run.specs.declared.status.Status.{Status}
use Rattle.melt_run.specs.declared.status.Status.TheVariants.{Done, Refused, SourceFault, SinkFault, Memory}

-- ---- the accounts

-- nothing was done
abbrev pub no_tally : Tally
no_tally = record { frames = 0; loads = 0; handed = 0; taken = 0; destroyed = 0 }

-- so many frames were made, and the bytes of all of them appended
abbrev pub full_tally : Run → ℕ → Tally
full_tally run count = record { frames = count; loads = loads_to run count; handed = count; taken = count; destroyed = 0 }

-- an append of the frame after these has failed: it was taken, and what else was handed out was destroyed, at most as
-- many frames as may be in work or waiting
pub record IsStopped (run : Run) (tally : Tally) : Type 0 where
  pub short : tally.frames < run.frames
  pub loads : tally.loads ≡ loads_to run tally.frames
  pub taken : tally.taken ≡ tally.frames + 1
  pub handed : tally.handed ≡ tally.taken + tally.destroyed
  pub destroyed : tally.destroyed ≤ run.buffer

-- ---- the outputs

-- the outputs that a run writes, each by its port and its name
abbrev pub EachOutput : Run → (Port → List ℕ → Type 0) → Type 0
EachOutput run P = (port : Port) → IfSome (run.name port) (P port)

-- an output that has exactly the first so many positions, all of them acknowledged
abbrev pub fronted : Run → Port → List ℕ → ℕ → PortState
fronted run port name count = record { name = name; bytes = bytes_to run port count; acknowledged = length (bytes_to run port count) }

-- whether an output is created, and each position appended to it, before another one
abbrev pub comes_before : Port → Port → Bool
comes_before Video Video = false
comes_before Video Audio = true
comes_before Video Script = false
comes_before Video Text = false
comes_before Audio port = false
comes_before Script port = false
comes_before Text port = false

-- how many whole positions an output has where the append of one to another output has failed
abbrev pub whole_at : (failed port : Port) → ℕ → ℕ
whole_at failed port count = if comes_before port failed then count + 1 else count

-- an output that has so many whole positions, and of the next one a part at most; that too where its own append failed alone
pub record IsCutAt (run : Run) (failed port : Port) (name : List ℕ) (count : ℕ) (now : PortState) : Type 0 where
  pub named : now.name ≡ name
  pub kept : ℕ
  pub itself : port ≢ failed → kept ≡ 0
  pub bytes : now.bytes ≡ bytes_to run port (whole_at failed port count) ++ take kept (run.gives port (whole_at failed port count))
  pub acknowledged : now.acknowledged ≡ length (bytes_to run port (whole_at failed port count))

-- a create has failed: an output that comes before has its name and no byte, and another is as before
abbrev pub IsUncreated : Bool → Run → Port → List ℕ → Option PortState → Option PortState → Type 0
IsUncreated true run port name old new = IfSome new (λ now. now ≡ fronted run port name 0)
IsUncreated false run port name old new = new ≡ old

-- an append has failed: each output has its whole positions, and the failed one a part of the next
pub record IsCut (run : Run) (failed : Port) (tally : Tally) (new : HostState) : Type 0 where
  pub counts : IsStopped run tally
  pub cut : EachOutput run (λ port name. IfSome (new.port port) (IsCutAt run failed port name tally.frames))

abbrev pub Stops : Run → Port → Tally → HostState → HostState → Type 0
Stops run failed tally old new =
    (tally ≡ no_tally) × EachOutput run (λ port name. IsUncreated (comes_before port failed) run port name (old.port port) (new.port port)) ⊎ IsCut run failed tally new

-- the ports that a run does not write
abbrev pub EachOther : Run → (Port → Type 0) → Type 0
EachOther run P = (port : Port) → run.name port ≡ None → P port

-- what the outputs have got
abbrev pub Plays : Run → Status → HostState → HostState → Type 0
Plays run (Done tally) old new =
    (tally ≡ full_tally run run.frames) × EachOutput run (λ port name. IfSome (new.port port) (λ now. now ≡ fronted run port name run.frames))
Plays run (Refused refusal) old new = ⊥
Plays run (SourceFault place) old new = ⊥
Plays run (SinkFault failed tally) old new = (run.name failed ≢ None) × Stops run failed tally old new
Plays run Memory old new = EachOutput run (λ port name. new.port port ≡ old.port port)

-- ---- the counts

-- a port's count of faults stays, but for that of a port that has failed, and none falls
abbrev pub CountsFaults : Status → (Port → ℕ) → (Port → ℕ) → Type 0
CountsFaults (Done tally) old new = (port : Port) → new port ≡ old port
CountsFaults (Refused refusal) old new = (port : Port) → new port ≡ old port
CountsFaults (SourceFault place) old new = (port : Port) → new port ≡ old port
CountsFaults (SinkFault failed tally) old new =
    Rose (old failed) (new failed) × ((port : Port) → old port ≤ new port) × ((port : Port) → port ≢ failed → new port ≡ old port)
CountsFaults Memory old new = (port : Port) → new port ≡ old port

-- whether an output was created before a fault: each of them where a frame was taken, else those that come before the
-- one that failed
abbrev pub was_created : (port failed : Port) → Tally → Bool
was_created port failed tally = nat_lt 0 tally.taken || comes_before port failed

-- how often an output was created
abbrev pub IsCreated : Port → Status → ℕ → ℕ → Type 0
IsCreated port (Done tally) old new = new ≡ next old
IsCreated port (Refused refusal) old new = new ≡ old
IsCreated port (SourceFault place) old new = new ≡ old
IsCreated port (SinkFault failed tally) old new = new ≡ (if was_created port failed tally then next old else old)
IsCreated port Memory old new = new ≡ old

-- each output that has a name once at most, and once where all is done; no other port
abbrev pub CreatesOnce : Port → Option (List ℕ) → Status → ℕ → ℕ → Type 0
CreatesOnce port None status old new = new ≡ old
CreatesOnce port (Some name) status old new = IsCreated port status old new

-- what playing keeps beside its outputs, and how the counts go
pub record KeepsElse (run : Run) (status : Status) (old new : HostState) : Type 0 where
  pub files : new.files ≡ old.files
  pub asked : new.asked ≡ old.asked
  pub loads : new.load_faults ≡ old.load_faults
  pub others : EachOther run (λ port. new.port port ≡ old.port port)
  pub faults : CountsFaults status old.faults new.faults
  pub creates : (port : Port) → CreatesOnce port (run.name port) status (old.creates port) (new.creates port)

-- a run on one thread destroys no frame: it takes each one that it hands out
abbrev pub DestroysNothing : Status → Type 0
DestroysNothing (Done tally) = tally.destroyed ≡ 0
DestroysNothing (Refused refusal) = Unit {0}
DestroysNothing (SourceFault place) = Unit {0}
DestroysNothing (SinkFault port tally) = tally.destroyed ≡ 0
DestroysNothing Memory = Unit {0}
