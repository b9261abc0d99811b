-- How a run ends, by what the words mean.
use Rattle.std.specs.Prelude.{◌≡◌, ◌≢◌, None, Ok, Err}
use Rattle.mlt_base.specs.declared.port.Port.{Port}
use Rattle.mlt_base.specs.declared.port.Port.TheVariants.{Text}
use Rattle.mlt_host.specs.Host.{HostState, Rose}
use Rattle.mlt_tree.specs.Lines.{source_line, memory_line}
use Rattle.mlt_tree.specs.Loading as read
use Rattle.mlt_tree.specs.Loading.{Stop}
use Rattle.mlt_tree.specs.Reading.{Reading, Play, Print, TextJob, job_text}
use Rattle.mlt_tree.specs.Show.{Run, played}
use Rattle.melt_run.specs.declared.status.Status.{Status}
use Rattle.melt_run.specs.declared.status.Status.TheVariants.{Done, Refused, SourceFault, SinkFault, Memory}
use Rattle.melt_run.specs.Outcome.{Tells}
use Rattle.melt_run.specs.Play.{EachOutput, Plays, CreatesOnce}
use Rattle.melt_run.specs.Prints.{Prints}
use Rattle.melt_run.specs.Status.{line_of, IfSinkFault}

-- what the outputs have got; each is as before where a file can't be read
abbrev pub PlaysOrTells : Run → Status → HostState → HostState → Type 0
PlaysOrTells run (Done tally) old new = Plays run (Done tally) old new
PlaysOrTells run (Refused refusal) old new = ⊥
PlaysOrTells run (SourceFault place) old new = EachOutput run (λ port name. new.port port ≡ old.port port)
PlaysOrTells run (SinkFault port tally) old new = Plays run (SinkFault port tally) old new
PlaysOrTells run Memory old new = Plays run Memory old new

-- a run was played, and a line told where it was not played whole
pub record EndsRun (run : Run) (status : Status) (old new : HostState) : Type 0 where
  pub plays : PlaysOrTells run status old new
  pub rose : IfSinkFault status (λ port tally. Rose (old.faults port) (new.faults port))
  pub others : (port : Port) → port ≢ Text → run.name port ≡ None → new.port port ≡ old.port port
  pub creates : (port : Port) → CreatesOnce port (run.name port) status (old.creates port) (new.creates port)
  pub line : Tells (line_of status) old new

-- no port but the text has changed
pub record OnlyTells (old new : HostState) : Type 0 where
  pub others : (port : Port) → port ≢ Text → new.port port ≡ old.port port
  pub creates : (port : Port) → new.creates port ≡ old.creates port

-- an answer was printed; where a file can't be read, or memory was wanting, that was told in its place
abbrev pub PrintsOrTells : TextJob → Status → HostState → HostState → Type 0
PrintsOrTells job (Done tally) old new = Prints (job_text job) (Done tally) old new
PrintsOrTells job (Refused refusal) old new = ⊥
PrintsOrTells job (SourceFault place) old new = Tells (source_line place) old new
PrintsOrTells job (SinkFault port tally) old new = Prints (job_text job) (SinkFault port tally) old new
PrintsOrTells job Memory old new = Tells memory_line old new

pub record EndsPrint (job : TextJob) (status : Status) (old new : HostState) : Type 0 where
  pub prints : PrintsOrTells job status old new
  pub rest : OnlyTells old new

-- the answer where words are not read to their end: the refusal, or a file that can't be read
abbrev pub IsStop : Stop → Status → Type 0
IsStop stop (Done tally) = ⊥
IsStop stop (Refused refusal) = stop ≡ read.Refused refusal
IsStop stop (SourceFault place) = Unit {0}
IsStop stop (SinkFault port tally) = ⊥
IsStop stop Memory = Unit {0}

-- why they are not was told, or that memory was wanting
pub record EndsStopped (stop : Stop) (status : Status) (old new : HostState) : Type 0 where
  pub answer : IsStop stop status
  pub line : Tells (line_of status) old new
  pub rest : OnlyTells old new

abbrev pub Ends : Reading → Status → HostState → HostState → Type 0
Ends (Ok (Play show)) status old new = EndsRun (played show) status old new
Ends (Ok (Print job)) status old new = EndsPrint job status old new
Ends (Err stop) status old new = EndsStopped stop status old new
