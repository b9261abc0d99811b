-- The first step of a reading, and what comes behind it.
use Rattle.std.proofs.Common.{◌≡◌, Result, Ok, Err, refl, sym, ap, ◌∙◌, subst}
use Rattle.mlt_base.specs.Try as tried
use Rattle.mlt_base.specs.declared.refusal.Try.{Try}
use Rattle.mlt_host.specs.Host.{HostState}
use Rattle.mlt_tree.specs.declared.refusal.Refusal.{Refusal}
use Rattle.mlt_tree.specs.Loading.{Files, Read, plainly, ◌>>=◌}
use Rattle.melt_build.specs.declared.fault.BuildFault.{BuildFault}
use Rattle.melt_build.specs.declared.fault.BuildFault.TheVariants.{Refused, Memory}
use Rattle.melt_build.specs.Failing.{fault_of}
use Rattle.melt_build.specs.Loads.{names_of, Asks, TellsFiles, StepFails, Goes}
use Rattle.melt_build.proofs.Going.{asks_none, goes_then, fails_first, plain_fails, tells_first, memory_first}

module _ {X Y : Type 0} (whole : Read Y) where
  -- a first step that looks up no file
  module _ (first : Result X Refusal) (second : X → Read Y) (is : whole ≡ (plainly first >>= second)) where
    pub plain_refused : (refusal : Refusal) (a : HostState) → first ≡ Err refusal → StepFails (Refused refusal) whole a a
    plain_refused refusal a h =
        subst (λ step. StepFails (Refused refusal) step a a) (sym is) (fails_first (Refused refusal) (plainly first) second a a (subst (λ r. StepFails (Refused refusal) (plainly r) a a) (sym h) (refl, asks_none a a refl)))

    pub plain_then : (x : X) → first ≡ Ok x → whole ≡ second x
    plain_then x h = is ∙ ap (λ r. plainly r >>= second) h

  -- a first step that may look up files
  module _ (first : Read X) (second : X → Read Y) (is : whole ≡ (first >>= second)) where
    pub read_tells : (files : Files) (host : HostState) → TellsFiles files whole host → TellsFiles files first host
    read_tells files host tells = tells_first files first second host (subst (λ step. TellsFiles files step host) is tells)

    pub read_fails : (fault : BuildFault) (a b : HostState) → StepFails fault first a b → StepFails fault whole a b
    read_fails fault a b fails = subst (λ step. StepFails fault step a b) (sym is) (fails_first fault first second a b fails)

    module _ (x : X) (a b : HostState) (did : (first.end ≡ Ok x) × Asks (names_of first.loads) a b) where
      pub read_then : {Z : Type 0} (view : Z → Y) (result : Result Z BuildFault) → Goes view result (second x) b b → Goes view result whole a b
      read_then view result goes = subst (λ step. Goes view result step a b) (sym is) (goes_then view result first second x a b b did goes)

      -- what comes behind looks up no file
      module _ (last : Result Y Refusal) (ends : second x ≡ plainly last) where
        pub ends_well : {Z : Type 0} (view : Z → Y) (z : Z) → last ≡ Ok (view z) → Goes view (Ok z) whole a b
        ends_well view z h =
            read_then view (Ok z) (subst (λ step. Goes view (Ok z) step b b) (sym (ends ∙ ap plainly h)) (refl, asks_none b b refl))

        pub ends_badly : (refused : Try Refusal) → tried.TryFails refused last → StepFails (fault_of refused) whole a b
        ends_badly refused fails =
            read_then {Z = Y} (λ y. y) (Err (fault_of refused)) (subst (λ step. StepFails (fault_of refused) step b b) (sym ends) (plain_fails refused last b b refl fails))

      pub memory_then : StepFails Memory whole a b
      memory_then = read_then {Z = Y} (λ y. y) (Err Memory) (memory_first (second x) b b refl)
