-- The show of groups: their composition, and then its end.
use Rattle.std.proofs.Common.{ℕ, ◌≡◌, List, Ok, Err, refl, sym, subst}
use Rattle.mlt_base.specs.Try as tried
use Rattle.mlt_base.specs.declared.refusal.Try.{Try}
use Rattle.mlt_host.specs.Host.{HostState}
use Rattle.mlt_tree.specs.declared.group.Group.{Group}
use Rattle.mlt_tree.specs.declared.refusal.Refusal.{Refusal}
use Rattle.mlt_tree.specs.Composing.{composed, show_of}
use Rattle.mlt_tree.specs.Composition.{State}
use Rattle.mlt_tree.specs.Loading.{Files, Read, plainly, ◌>>=◌}
use Rattle.mlt_tree.specs.Sealing.{seal}
use Rattle.mlt_tree.specs.Show.{Show}
use Rattle.melt_build.specs.declared.fault.BuildFault.{BuildFault}
use Rattle.melt_build.specs.Failing.{fault_of}
use Rattle.melt_build.specs.Loads.{names_of, Asks, TellsFiles, StepFails}
use Rattle.melt_build.proofs.Going.{asks_none, goes_then, fails_first, plain_fails, tells_first}

module _ (files : Files) (count : ℕ) (gs : List Group) where
  abbrev rest : State → Read Show
  rest s = plainly (seal count s)

  whole_is : show_of files count gs ≡ (composed files count gs >>= rest)
  unfolding show_of
  whole_is = refl

  pub tells_composed : (host : HostState) → TellsFiles files (show_of files count gs) host → TellsFiles files (composed files count gs) host
  tells_composed host tells = tells_first files (composed files count gs) rest host (subst (λ step. TellsFiles files step host) whole_is tells)

  pub composed_fails : (fault : BuildFault) (a b : HostState) → StepFails fault (composed files count gs) a b → StepFails fault (show_of files count gs) a b
  composed_fails fault a b fails = subst (λ step. StepFails fault step a b) (sym whole_is) (fails_first fault (composed files count gs) rest a b fails)

  module _ (s : State) (a b : HostState) (did : ((composed files count gs).end ≡ Ok s) × Asks (names_of (composed files count gs).loads) a b) where
    pub seal_fails : (refused : Try Refusal) → tried.TryFails refused (seal count s) → StepFails (fault_of refused) (show_of files count gs) a b
    seal_fails refused fails =
        subst (λ step. StepFails (fault_of refused) step a b) (sym whole_is) (goes_then {X = State} {Y = Show} {Z = Show} (λ x. x) (Err (fault_of refused)) (composed files count gs) rest s a b b did (plain_fails refused (seal count s) b b refl fails))

    pub seal_goes : (show : Show) → seal count s ≡ Ok show → ((show_of files count gs).end ≡ Ok show) × Asks (names_of (show_of files count gs).loads) a b
    seal_goes show is =
        subst (λ step. (step.end ≡ Ok show) × Asks (names_of step.loads) a b) (sym whole_is) (goes_then {X = State} {Y = Show} {Z = Show} (λ x. x) (Ok show) (composed files count gs) rest s a b b did (subst (λ r. ((plainly r).end ≡ Ok show) × Asks (names_of (plainly r).loads) b b) (sym is) (refl, asks_none b b refl)))
