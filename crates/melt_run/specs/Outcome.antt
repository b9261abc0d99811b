-- What the top call leaves on a host, by its answer and by what the words mean.
use Rattle.std.specs.Prelude.{◌≡◌, ◌≢◌, ◌⊎◌, ◌≤◌, ◌++◌, ℕ, true, List, [], ◌∷◌, length, Option, None, Some, Ok, Err, IfSome}
use Rattle.std.specs.Option.{option_map}
use Rattle.mlt_base.specs.declared.port.Port.{Port}
use Rattle.mlt_base.specs.declared.port.Port.TheVariants.{Text}
use Rattle.mlt_host.specs.Count.{next}
use Rattle.mlt_host.specs.Host.{PortState, HostState, Rose, Appends, AppendsFront}
use Rattle.mlt_tree.specs.Lines.{refusal_line, source_line, sink_line, memory_line, has_line}
use Rattle.mlt_tree.specs.Loading.{Load}
use Rattle.mlt_tree.specs.Reading.{Reading, Play, Print, Written, job_port, text_bytes}
use Rattle.mlt_tree.specs.Show.{played, written_name, written_frames}
use Rattle.melt_build.specs.Loads.{Asks, AsksUpTo, AsksSome, names_of}
use Rattle.melt_run.specs.declared.status.Tally.{Tally}
use Rattle.melt_run.specs.declared.status.Status.{Status}
use Rattle.melt_run.specs.declared.status.Status.TheVariants.{Done, Refused, SourceFault, SinkFault, Memory}
use Rattle.melt_run.specs.Play.{no_tally, full_tally, Stops, IsCreated, CreatesOnce}
use Rattle.melt_run.specs.Status.{line_of}

-- ---- what each output has got

-- the port has this name and a front of these bytes
pub record HasFrontOf (wanted : Written) (port : PortState) : Type 0 where
  pub name : port.name ≡ wanted.name
  pub front : (rest : List ℕ) × (port.bytes ++ rest ≡ wanted.bytes)

-- the port is as before, because it was not created, or has its name and a front of its bytes
abbrev pub Leaves : Option Written → Option PortState → Option PortState → Type 0
Leaves None old new = new ≡ old
Leaves (Some wanted) old new = (new ≡ old) ⊎ IfSome new (HasFrontOf wanted)

-- the port has its name and all of its bytes, each of them acknowledged; it is as before if the run does not write it
abbrev pub IsWritten : Option Written → Option PortState → Option PortState → Type 0
IsWritten None old new = new ≡ old
IsWritten (Some wanted) old new =
    IfSome new (λ port. port ≡ record { name = wanted.name; bytes = wanted.bytes; acknowledged = length wanted.bytes })

-- a port that the run does not write is not created; an output is created once at most, and once where all is done
abbrev pub IsCreatedOnce : Port → Option Written → Status → ℕ → ℕ → Type 0
IsCreatedOnce port wanted status old new = CreatesOnce port (option_map (λ w. w.name) wanted) status old new

-- nothing was created
pub record CreatesNothing (old new : HostState) : Type 0 where
  pub ports : (port : Port) → port ≢ Text → new.port port ≡ old.port port
  pub creates : (port : Port) → new.creates port ≡ old.creates port

-- ---- how a run ends

-- the accounts of a run that is done
abbrev pub IsWholeTally : Reading → Tally → Type 0
IsWholeTally (Ok (Play show)) tally = tally ≡ full_tally (played show) (written_frames show)
IsWholeTally (Ok (Print job)) tally = tally ≡ no_tally
IsWholeTally (Err stop) tally = ⊥

-- a port that the run writes has failed: each output has the positions before the fault, and the failed one a part of the next
abbrev pub FailsAt : Reading → Port → Tally → HostState → HostState → Type 0
FailsAt (Ok (Play show)) port tally old new =
    (written_name show port ≢ None) × Rose (old.faults port) (new.faults port) × Stops (played show) port tally old new
FailsAt (Ok (Print job)) port tally old new =
    (port ≡ job_port job) × (tally ≡ no_tally) × Rose (old.faults port) (new.faults port)
FailsAt (Err stop) port tally old new = ⊥

-- the call counted no fault
pub record MeetsNoFault (old new : HostState) : Type 0 where
  pub loads : ¬ Rose old.load_faults new.load_faults
  pub ports : (port : Port) → ¬ Rose (old.faults port) (new.faults port)

-- all is done, or memory was wanting
abbrev pub IsDoneOrMemory : Status → Type 0
IsDoneOrMemory (Done tally) = Unit {0}
IsDoneOrMemory (Refused refusal) = ⊥
IsDoneOrMemory (SourceFault place) = ⊥
IsDoneOrMemory (SinkFault port tally) = ⊥
IsDoneOrMemory Memory = Unit {0}

-- whether there is something to play or to print
abbrev pub IsAccepted : Reading → Type 0
IsAccepted (Ok job) = Unit {0}
IsAccepted (Err stop) = ⊥

-- ---- what a person has read

-- the text that a person reads has got a line: whole, or a front of it where the count of its faults rose
abbrev pub Tells : List ℕ → HostState → HostState → Type 0
Tells [] old new = (new.port Text ≡ old.port Text) × (new.faults Text ≡ old.faults Text)
Tells (c ∷ line) old new =
    (Appends Text old new (c ∷ line) × (new.faults Text ≡ old.faults Text)) ⊎ (AppendsFront Text old new (c ∷ line) × Rose (old.faults Text) (new.faults Text))

-- what the text that a person reads has got: an answer, whole or a front of it where the count of its
-- faults rose, and no line then; else the line of the run's end
abbrev pub Says : Reading → Status → HostState → HostState → Type 0
Says (Ok (Play show)) status old new = Tells (line_of status) old new
Says (Ok (Print job)) (Done tally) old new = Appends Text old new (text_bytes (Ok (Print job)))
Says (Ok (Print job)) (Refused refusal) old new = ⊥
Says (Ok (Print job)) (SourceFault place) old new = Tells (line_of (SourceFault place)) old new
Says (Ok (Print job)) (SinkFault port tally) old new = AppendsFront Text old new (text_bytes (Ok (Print job)))
Says (Ok (Print job)) Memory old new = Tells (line_of Memory) old new
Says (Err stop) status old new = Tells (line_of status) old new

-- all of these files were asked for, in order; those up to the one that can't be read, or some of the first of them
-- where memory was wanting
abbrev pub AsksFor : Status → List Load → HostState → HostState → Type 0
AsksFor (Done tally) loads old new = Asks (names_of loads) old new
AsksFor (Refused refusal) loads old new = Asks (names_of loads) old new
AsksFor (SourceFault place) loads old new = AsksUpTo place loads old new
AsksFor (SinkFault port tally) loads old new = Asks (names_of loads) old new
AsksFor Memory loads old new = AsksSome loads old new

-- ---- what holds on every host, whatever it tells

-- a line was told, and no count of faults but the text's may have risen
pub record CountsLine (line : List ℕ) (old new : HostState) : Type 0 where
  pub others : (port : Port) → port ≢ Text → new.faults port ≡ old.faults port
  pub told : Tells line old new

-- the count of the port that failed rose, and no other but the text's; whether it was created follows from the accounts;
-- and a line was told where the port has one
pub record CountsFault (failed : Port) (tally : Tally) (old new : HostState) : Type 0 where
  pub rose : Rose (old.faults failed) (new.faults failed)
  pub others : (port : Port) → port ≢ failed → port ≢ Text → new.faults port ≡ old.faults port
  pub created : failed ≢ Text → IsCreated failed (SinkFault failed tally) (old.creates failed) (new.creates failed)
  pub told : has_line failed ≡ true → Tells (sink_line failed) old new

-- how the count of loads that failed goes: it has risen where a file can't be read, and else it is as before
abbrev pub CountsLoads : Status → HostState → HostState → Type 0
CountsLoads (Done tally) old new = new.load_faults ≡ old.load_faults
CountsLoads (Refused refusal) old new = new.load_faults ≡ old.load_faults
CountsLoads (SourceFault place) old new = Rose old.load_faults new.load_faults
CountsLoads (SinkFault port tally) old new = new.load_faults ≡ old.load_faults
CountsLoads Memory old new = new.load_faults ≡ old.load_faults

-- how the ports' counts of faults go: none has risen where all is done
abbrev pub CountsPorts : Status → HostState → HostState → Type 0
CountsPorts (Done tally) old new = (port : Port) → new.faults port ≡ old.faults port
CountsPorts (Refused refusal) old new = CountsLine (refusal_line refusal) old new
CountsPorts (SourceFault place) old new = CountsLine (source_line place) old new
CountsPorts (SinkFault port tally) old new = CountsFault port tally old new
CountsPorts Memory old new = CountsLine memory_line old new

-- how all counts of faults go
pub record CountsRun (status : Status) (old new : HostState) : Type 0 where
  pub loads : CountsLoads status old new
  pub ports : CountsPorts status old new

-- the files stay, no count of faults has fallen, and no port was created twice
pub record KeepsHost (old new : HostState) : Type 0 where
  pub files : new.files ≡ old.files
  pub never_falls_loads : old.load_faults ≤ new.load_faults
  pub never_falls : (port : Port) → old.faults port ≤ new.faults port
  pub once : (port : Port) → (new.creates port ≡ old.creates port) ⊎ (new.creates port ≡ next (old.creates port))
