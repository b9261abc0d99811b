-- A producer's steps, one behind the other, as the code takes them.
use Rattle.std.proofs.Common.{◌≡◌, Ok, Err, refl, ap, sym, ◌∙◌, subst}
use Rattle.mlt_base.specs.Try as tried
use Rattle.mlt_base.specs.Try.{TryGives}
use Rattle.mlt_base.specs.declared.refusal.Try.{Try}
use Rattle.mlt_host.specs.Host.{HostState}
use Rattle.mlt_tree.specs.declared.group.Group.{Group}
use Rattle.mlt_tree.specs.declared.refusal.Refusal.{Refusal}
use Rattle.mlt_tree.specs.Clips.{Origin, Wanted, Product, asked_for, clip_added}
use Rattle.mlt_tree.specs.Composing.{no_words, product_of, producer}
use Rattle.mlt_tree.specs.Composition.{State, Made}
use Rattle.mlt_tree.specs.Loading.{Files, Read, plainly, ◌>>=◌}
use Rattle.melt_build.specs.declared.fault.BuildFault.{BuildFault}
use Rattle.melt_build.specs.declared.fault.BuildFault.TheVariants.{Refused}
use Rattle.melt_build.specs.Failing.{fault_of}
use Rattle.melt_build.specs.Loads.{names_of, Asks, TellsFiles, StepFails, Goes}
use Rattle.melt_build.proofs.Going.{asks_none, goes_then, fails_first, plain_fails, tells_first}

module _ (files : Files) (s : State) (g : Group) where
  abbrev asked_step : Read (Origin × Wanted)
  asked_step = plainly (asked_for s g)

  abbrev made_step : Origin × Wanted → Read State
  made_step asked = product_of files no_words s g asked.0 asked.1 >>= λ made. plainly (clip_added s g made asked.1)

  whole_is : producer files no_words s g ≡ (asked_step >>= made_step)
  unfolding producer
  whole_is = refl

  -- a word that asks for nothing that there is
  pub asked_fails : (refusal : Refusal) (a : HostState) → asked_for s g ≡ Err refusal → StepFails (Refused refusal) (producer files no_words s g) a a
  asked_fails refusal a h =
      subst (λ step. StepFails (Refused refusal) step a a) (sym whole_is) (fails_first (Refused refusal) asked_step made_step a a (subst (λ r. StepFails (Refused refusal) (plainly r) a a) (sym h) (refl, asks_none a a refl)))

  module _ (origin : Origin) (asked : Wanted) (is : asked_for s g ≡ Ok (origin, asked)) where
    abbrev product_step : Read Product
    product_step = product_of files no_words s g origin asked

    abbrev clip_step : Product → Read State
    clip_step made = plainly (clip_added s g made asked)

    rest_is : producer files no_words s g ≡ (product_step >>= clip_step)
    rest_is = whole_is ∙ ap (λ r. plainly r >>= made_step) is

    pub tells_product : (host : HostState) → TellsFiles files (producer files no_words s g) host → TellsFiles files product_step host
    tells_product host tells = tells_first files product_step clip_step host (subst (λ step. TellsFiles files step host) rest_is tells)

    pub product_fails : (fault : BuildFault) (a b : HostState) → StepFails fault product_step a b → StepFails fault (producer files no_words s g) a b
    product_fails fault a b fails = subst (λ step. StepFails fault step a b) (sym rest_is) (fails_first fault product_step clip_step a b fails)

    module _ (product : Product) (a b : HostState) (did : (product_step.end ≡ Ok product) × Asks (names_of product_step.loads) a b) where
      -- what was made is there already where the clip is added
      clip_there : (m : Made) → clip_added (record s { made = m }) g product asked ≡ clip_added s g product asked
      unfolding clip_added
      clip_there m = refl

      pub clip_goes : {X : Type 0} (view : X → State) (x : X) (m : Made) → clip_added (record s { made = m }) g product asked ≡ Ok (view x) → Goes view (Ok x) (producer files no_words s g) a b
      clip_goes view x m h =
          subst (λ step. Goes view (Ok x) step a b) (sym rest_is) (goes_then view (Ok x) product_step clip_step product a b b did (subst (λ r. Goes view (Ok x) (plainly r) b b) (sym (sym (clip_there m) ∙ h)) (refl, asks_none b b refl)))

      pub clip_fails : (refused : Try Refusal) (m : Made) → tried.TryFails refused (clip_added (record s { made = m }) g product asked) → StepFails (fault_of refused) (producer files no_words s g) a b
      clip_fails refused m fails =
          subst (λ step. StepFails (fault_of refused) step a b) (sym rest_is) (goes_then {X = Product} {Y = State} {Z = State} (λ x. x) (Err (fault_of refused)) product_step clip_step product a b b did (plain_fails refused (clip_added s g product asked) b b refl (subst (tried.TryFails refused) (clip_there m) fails)))
