-- The composition of groups, step by step.
use Rattle.std.proofs.Common.{ℕ, ◌≡◌, ◌+◌, ◌<◌, List, length, get_or, drop, Ok, Err, refl, ap, subst}
use Rattle.mlt_tree.specs.declared.refusal.Refusal.{Refusal}
use Rattle.mlt_tree.specs.declared.group.Group.{Group}
use Rattle.mlt_tree.specs.declared.group.GroupKind.TheVariants as kind
use Rattle.mlt_tree.specs.Composing.{no_words, producer, effect, composed}
use Rattle.mlt_tree.specs.Merging.{transition, mixer}
use Rattle.mlt_base.specs.Profile.{Measures}
use Rattle.mlt_tree.specs.Composition.{State, begun}
use Rattle.mlt_tree.specs.Sealing.{profiled}
use Rattle.mlt_tree.specs.Loading.{Files, Read, Refused, stopped, plainly, through, ◌>>=◌}
use Rattle.mlt_host.specs.Host.{HostState}
use Rattle.melt_build.specs.declared.fault.BuildFault.{BuildFault}
use Rattle.melt_build.specs.Loads.{names_of, Asks, TellsFiles, StepFails}
use Rattle.melt_build.proofs.Going.{GoesOn, on_step, on_goes, on_tells, fails_first, tells_first}
use Rattle.melt_build.proofs.Over.{next_is}

pub composed_refused : (files : Files) (count : ℕ) (gs : List Group) (refusal : Refusal) → profiled gs ≡ Err refusal → composed files count gs ≡ stopped (Refused refusal)
unfolding composed
composed_refused files count gs refusal h = ap (λ r. plainly r >>= λ profile. through (effect files no_words) (begun profile count) gs) h

pub composed_profiled : (files : Files) (count : ℕ) (gs : List Group) (profile : Measures) → profiled gs ≡ Ok profile → composed files count gs ≡ through (effect files no_words) (begun profile count) gs
unfolding composed
composed_profiled files count gs profile h = ap (λ r. plainly r >>= λ profile. through (effect files no_words) (begun profile count) gs) h

-- a group of a producer
pub effect_producer : (files : Files) (s : State) (g : Group) → g.kind ≡ kind.Producer → effect files no_words s g ≡ producer files no_words s g
unfolding effect
effect_producer files s g h = rw h refl

-- one of a merge
pub effect_transition : (files : Files) (s : State) (g : Group) → g.kind ≡ kind.Transition → effect files no_words s g ≡ transition files s g
unfolding effect
effect_transition files s g h = rw h refl

pub effect_mixer : (files : Files) (s : State) (g : Group) → g.kind ≡ kind.Mixer → effect files no_words s g ≡ mixer files s g
unfolding effect
effect_mixer files s g h = rw h refl

-- the rest of the elements, where one is next
through_next : {S X : Type 0} (step : S → X → Read S) (s : S) (xs : List X) (i : ℕ) (x : X) → i < length xs → x ≡ get_or xs i x → through step s (drop i xs) ≡ (step s x >>= λ t. through step t (drop (i + 1) xs))
through_next step s xs i x below here = ap (through step s) (next_is xs i x below here)

module _ {S X : Type 0} (step : S → X → Read S) (files : Files) (whole : Read S) (s : S) where
  module _ (t : S) (xs : List X) (i : ℕ) (x : X) (below : i < length xs) (here : x ≡ get_or xs i x) (a b c : HostState) (on : GoesOn whole (through step s (drop i xs)) a b) (same : b.files ≡ a.files) (tells : TellsFiles files whole a) where
    abbrev next : Read S
    next = step s x >>= λ u. through step u (drop (i + 1) xs)

    on_this : GoesOn whole next a b
    on_this = subst (λ rest. GoesOn whole rest a b) (through_next step s xs i x below here) on

    tells_next : TellsFiles files (step s x) b
    tells_next = tells_first files (step s x) (λ u. through step u (drop (i + 1) xs)) b (on_tells files whole next a b on_this same tells)

    pub on_next : (TellsFiles files (step s x) b → ((step s x).end ≡ Ok t) × Asks (names_of (step s x).loads) b c) → GoesOn whole (through step t (drop (i + 1) xs)) a c
    on_next did = on_step whole (step s x) (λ u. through step u (drop (i + 1) xs)) t a b c on_this (did tells_next)

  module _ (xs : List X) (i : ℕ) (x : X) (below : i < length xs) (here : x ≡ get_or xs i x) (fault : BuildFault) (a b c : HostState) (on : GoesOn whole (through step s (drop i xs)) a b) (same : b.files ≡ a.files) (tells : TellsFiles files whole a) where
    pub next_fails : (TellsFiles files (step s x) b → StepFails fault (step s x) b c) → StepFails fault whole a c
    next_fails fails =
        on_goes {X = S} {Y = S} (λ u. u) (Err fault) whole (next s xs i x below here a b c on same tells) a b c (on_this s xs i x below here a b c on same tells) (fails_first fault (step s x) (λ u. through step u (drop (i + 1) xs)) b c (fails (tells_next s xs i x below here a b c on same tells)))
