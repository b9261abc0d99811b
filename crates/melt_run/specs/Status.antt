-- How a run ends, by cases.
use Rattle.std.specs.Prelude.{ℕ, if◌then◌else◌, List, []}
use Rattle.mlt_base.specs.declared.port.Port.{Port}
use Rattle.mlt_tree.specs.declared.refusal.Refusal.{Refusal}
use Rattle.mlt_tree.specs.Lines.{refusal_line, source_line, sink_line, memory_line, has_line}
use Rattle.melt_run.specs.declared.status.Tally.{Tally}
use Rattle.melt_run.specs.declared.status.Status.{Status}
use Rattle.melt_run.specs.declared.status.Status.TheVariants.{Done, Refused, SourceFault, SinkFault, Memory}

-- the exit status
abbrev pub code_of : Status → ℕ
code_of (Done tally) = 0
code_of (Refused refusal) = 1
code_of (SourceFault place) = 2
code_of (SinkFault port tally) = 3
code_of Memory = 4

-- the line that tells a person, none where all is done, nor where a port that has none failed
abbrev pub line_of : Status → List ℕ
line_of (Done tally) = []
line_of (Refused refusal) = refusal_line refusal
line_of (SourceFault place) = source_line place
line_of (SinkFault port tally) = if has_line port then sink_line port else []
line_of Memory = memory_line

abbrev pub IfDone : Status → (Tally → Type 0) → Type 0
IfDone (Done tally) P = P tally
IfDone (Refused refusal) P = Unit {0}
IfDone (SourceFault place) P = Unit {0}
IfDone (SinkFault port tally) P = Unit {0}
IfDone Memory P = Unit {0}

abbrev pub IfRefused : Status → (Refusal → Type 0) → Type 0
IfRefused (Done tally) P = Unit {0}
IfRefused (Refused refusal) P = P refusal
IfRefused (SourceFault place) P = Unit {0}
IfRefused (SinkFault port tally) P = Unit {0}
IfRefused Memory P = Unit {0}

abbrev pub IfSourceFault : Status → (ℕ → Type 0) → Type 0
IfSourceFault (Done tally) P = Unit {0}
IfSourceFault (Refused refusal) P = Unit {0}
IfSourceFault (SourceFault place) P = P place
IfSourceFault (SinkFault port tally) P = Unit {0}
IfSourceFault Memory P = Unit {0}

abbrev pub IfSinkFault : Status → (Port → Tally → Type 0) → Type 0
IfSinkFault (Done tally) P = Unit {0}
IfSinkFault (Refused refusal) P = Unit {0}
IfSinkFault (SourceFault place) P = Unit {0}
IfSinkFault (SinkFault port tally) P = P port tally
IfSinkFault Memory P = Unit {0}

abbrev pub IfMemory : Status → Type 0 → Type 0
IfMemory (Done tally) P = Unit {0}
IfMemory (Refused refusal) P = Unit {0}
IfMemory (SourceFault place) P = Unit {0}
IfMemory (SinkFault port tally) P = Unit {0}
IfMemory Memory P = P
