-- What printing leaves on the text that a person reads, by its answer.
use Rattle.std.specs.Prelude.{◌≡◌, ℕ, List}
use Rattle.mlt_base.specs.declared.port.Port.TheVariants.{Text}
use Rattle.mlt_host.specs.Host.{HostState, Rose, Appends, AppendsFront}
use Rattle.melt_run.specs.declared.status.Status.{Status}
use Rattle.melt_run.specs.declared.status.Status.TheVariants.{Done, Refused, SourceFault, SinkFault, Memory}
use Rattle.melt_run.specs.Play.{no_tally}

abbrev pub Prints : List ℕ → Status → HostState → HostState → Type 0
Prints text (Done tally) old new = (tally ≡ no_tally) × Appends Text old new text × (new.faults Text ≡ old.faults Text)
Prints text (Refused refusal) old new = ⊥
Prints text (SourceFault place) old new = ⊥
Prints text (SinkFault port tally) old new =
    (port ≡ Text) × (tally ≡ no_tally) × AppendsFront Text old new text × Rose (old.faults Text) (new.faults Text)
Prints text Memory old new = ⊥
