-- Files that are loaded, step by step.
use Rattle.std.proofs.Common.{ℕ, ◌≡◌, ◌≤◌, ◌<◌, inl, inr, Bool, true, false, cond, leb, List, [], ◌∷◌, ◌++◌, length, Option, None, Some, IfSome, IsSomeAnd, Result, Ok, Err, refl, sym, ap, ◌∙◌, subst, arith}
use Rattle.std.proofs.lemmas.Bool.Decides.{nat_tests}
use Rattle.mlt_base.specs.declared.profile.SourceNo.{SourceNo}
use Rattle.mlt_base.specs.Ppm.{ppm}
use Rattle.mlt_base.specs.Profile.{Measures}
use Rattle.mlt_base.specs.Still.{Picture}
use Rattle.mlt_base.specs.Try as tried
use Rattle.mlt_base.specs.declared.refusal.Try.{Try}
use Rattle.mlt_host.specs.Host.{HostState, with_name}
use Rattle.mlt_tree.specs.declared.refusal.Cause.TheVariants as cause
use Rattle.mlt_tree.specs.declared.refusal.Refusal.{Refusal}
use Rattle.mlt_tree.specs.Clips.{Wanted, Product, source_made}
use Rattle.mlt_tree.specs.Composition.{Made}
use Rattle.mlt_tree.specs.Loaded.{load_limit, file_within, picture_in, picture_loaded, picture_made, with_loaded}
use Rattle.mlt_tree.specs.Merging.{with_map, map_made}
use Rattle.mlt_tree.specs.Loading as read
use Rattle.mlt_tree.specs.Loading.{Files, Load, Read, found, look_up, plainly, done, ◌>>=◌}
use Rattle.mlt_tree.specs.Refusing.{refuse, refusal_at}
use Rattle.mlt_tree.specs.Show.{Source, Drawn}
use Rattle.melt_build.specs.declared.fault.BuildFault.{BuildFault}
use Rattle.melt_build.specs.declared.fault.BuildFault.TheVariants.{Refused, SourceFault}
use Rattle.melt_build.specs.Failing.{fault_of}
use Rattle.melt_build.specs.Loads.{names_of, Asks, TellsFiles, StepFails, Goes}
use Rattle.melt_build.proofs.Going.{asks_none, fails_first, plain_fails}
use Rattle.melt_build.proofs.Steps.{read_tells, read_fails, read_then}

-- ---- one file

-- a name that was asked for
pub asks_one : (name : List ℕ) (a b : HostState) → b.asked ≡ with_name name a.asked → Asks (name ∷ []) a b
asks_one name a b h = subst (λ asked. IfSome asked (λ after. IsSomeAnd a.asked (λ before. after ≡ before ++ name ∷ []))) (sym h) (go a.asked) where
  go : (asked : Option (List (List ℕ))) → IfSome (with_name name asked) (λ after. IsSomeAnd asked (λ before. after ≡ before ++ name ∷ []))
  go None = tt
  go (Some names) = refl

module _ (files : Files) (place : ℕ) (name : List ℕ) (limit : ℕ) where
  abbrev one : List Load
  one = record { place = place; name = name } ∷ []

  within : List ℕ → Result (List ℕ) Refusal
  within bytes = cond (leb (length bytes) limit) (Ok bytes) (refuse place (cause.FileTooLarge limit))

  abbrev step : Option (List ℕ) → Read (List ℕ)
  step file = record { loads = one; end = found place file } >>= λ bytes. plainly (cond (leb (length bytes) limit) (Ok bytes) (refuse place (cause.FileTooLarge limit)))

  step_is : file_within files place name limit ≡ step (files name)
  unfolding file_within
  step_is = refl

  looked_up : (file : Option (List ℕ)) → (step file).loads ≡ one
  looked_up None = refl
  looked_up (Some bytes) = by (leb (length bytes) limit) where
    by : (b : Bool) → (read.after one (plainly (cond b (Ok bytes) (refuse place (cause.FileTooLarge limit))))).loads ≡ one
    by true = refl
    by false = refl

  -- exactly this file
  pub one_load : (file_within files place name limit).loads ≡ one
  one_load = ap (λ (r : Read (List ℕ)). r.loads) step_is ∙ looked_up (files name)

  -- a host that tells its files tells this one
  pub told : (host : HostState) → TellsFiles files (file_within files place name limit) host → host.files ≡ Some files
  told host (inl h) = h
  told host (inr h) = absurd (not_nothing (sym one_load ∙ h)) where
    not_nothing : one ≡ [] → ⊥
    not_nothing e = grind arith

  pub loaded : (bytes : List ℕ) → files name ≡ Some bytes → length bytes ≤ limit → (file_within files place name limit).end ≡ Ok bytes
  loaded bytes h fits = ap (λ (r : Read (List ℕ)). r.end) (step_is ∙ ap step h) ∙ by (leb (length bytes) limit) refl where
    by : (b : Bool) → leb (length bytes) limit ≡ b → (read.after one (plainly (cond b (Ok bytes) (refuse place (cause.FileTooLarge limit))))).end ≡ Ok bytes
    by true is = refl
    by false is = absurd (no_fit is fits) where
      no_fit : leb (length bytes) limit ≡ false → length bytes ≤ limit → ⊥
      no_fit e f = grind (arith, nat_tests)

  pub too_long : (bytes : List ℕ) → files name ≡ Some bytes → limit < length bytes → (file_within files place name limit).end ≡ Err (read.Refused (refusal_at place (cause.FileTooLarge limit)))
  too_long bytes h long = ap (λ (r : Read (List ℕ)). r.end) (step_is ∙ ap step h) ∙ by (leb (length bytes) limit) refl where
    by : (b : Bool) → leb (length bytes) limit ≡ b → (read.after one (plainly (cond b (Ok bytes) (refuse place (cause.FileTooLarge limit))))).end ≡ Err (read.Refused (refusal_at place (cause.FileTooLarge limit)))
    by false is = refl
    by true is = absurd (no_fit is long) where
      no_fit : leb (length bytes) limit ≡ true → limit < length bytes → ⊥
      no_fit e f = grind (arith, nat_tests)

  module _ (a b : HostState) (asked : b.asked ≡ with_name name a.asked) where
    all_asked : Asks (names_of (file_within files place name limit).loads) a b
    all_asked = subst (λ loads. Asks (names_of loads) a b) (sym one_load) (asks_one name a b asked)

    pub goes_loaded : (bytes : List ℕ) → IfSome a.files (λ file. file name ≡ Some bytes) → length bytes ≤ limit → TellsFiles files (file_within files place name limit) a → ((file_within files place name limit).end ≡ Ok bytes) × Asks (names_of (file_within files place name limit).loads) a b
    goes_loaded bytes is fits tells =
        (loaded bytes (subst (λ (fs : Option Files). IfSome fs (λ file. file name ≡ Some bytes)) (told a tells) is) fits, all_asked)

    pub fails_long : IfSome a.files (λ file. IsSomeAnd (file name) (λ bytes. limit < length bytes)) → TellsFiles files (file_within files place name limit) a → StepFails (Refused (refusal_at place (cause.FileTooLarge limit))) (file_within files place name limit) a b
    fails_long is tells = (by (files name) refl (subst (λ (fs : Option Files). IfSome fs (λ file. IsSomeAnd (file name) (λ bytes. limit < length bytes))) (told a tells) is), all_asked) where
      by : (file : Option (List ℕ)) → files name ≡ file → IsSomeAnd file (λ bytes. limit < length bytes) → (file_within files place name limit).end ≡ Err (read.Refused (refusal_at place (cause.FileTooLarge limit)))
      by None here long = absurd long
      by (Some bytes) here long = too_long bytes here long

    pub fails_reading : StepFails (SourceFault place) (file_within files place name limit) a b
    fails_reading = record { before = []; name = name; rest = []; order = one_load; asked = asks_one name a b asked }

-- ---- the picture of a file

module _ (files : Files) (made : Made) (place : ℕ) (name : List ℕ) (limit : ℕ) (is : limit ≡ load_limit made.loaded) where
  abbrev bytes_step : Read (List ℕ)
  bytes_step = file_within files place name limit

  abbrev picture_step : List ℕ → Read (Made × Picture)
  picture_step bytes = plainly (picture_in place (ppm bytes)) >>= λ picture. done (with_loaded made (length bytes), picture)

  abbrev whole : Read (Made × Picture)
  whole = picture_loaded files made place name

  whole_is : whole ≡ (bytes_step >>= picture_step)
  unfolding picture_loaded
  whole_is = ap (λ n. file_within files place name n >>= picture_step) (sym is)

  pub tells_bytes : (host : HostState) → TellsFiles files whole host → TellsFiles files bytes_step host
  tells_bytes host tells = read_tells whole bytes_step picture_step whole_is files host tells

  pub bytes_fail : (fault : BuildFault) (a b : HostState) → StepFails fault bytes_step a b → StepFails fault whole a b
  bytes_fail fault a b fails = read_fails whole bytes_step picture_step whole_is fault a b fails

  module _ (bytes : List ℕ) (a b : HostState) (did : (bytes_step.end ≡ Ok bytes) × Asks (names_of bytes_step.loads) a b) where
    pub picture_fails : (refused : Try Refusal) → tried.TryFails refused (picture_in place (ppm bytes)) → StepFails (fault_of refused) whole a b
    picture_fails refused fails =
        read_then whole bytes_step picture_step whole_is bytes a b did {Z = Made × Picture} (λ x. x) (Err (fault_of refused)) (fails_first (fault_of refused) (plainly (picture_in place (ppm bytes))) (λ picture. done (with_loaded made (length bytes), picture)) b b (plain_fails refused (picture_in place (ppm bytes)) b b refl fails))

    pub goes_loaded_picture : {X : Type 0} (view : X → Made × Picture) (x : X) (picture : Picture) → picture_in place (ppm bytes) ≡ Ok picture → view x ≡ (with_loaded made (length bytes), picture) → Goes view (Ok x) whole a b
    goes_loaded_picture view x picture is made_is =
        read_then whole bytes_step picture_step whole_is bytes a b did view (Ok x) (subst (λ r. Goes view (Ok x) (plainly r >>= λ picture. done (with_loaded made (length bytes), picture)) b b) (sym is) (ap Ok (sym made_is), asks_none b b refl))

-- ---- the source of a picture's file

module _ (files : Files) (profile : Measures) (made : Made) (place : ℕ) (name : List ℕ) (asked : Wanted) where
  abbrev pub source_step : Made × Picture → Read Product
  source_step read = done (source_made profile read.0 (Drawn read.1) asked)

  pub source_is : picture_made files profile made place name asked ≡ (picture_loaded files made place name >>= source_step)
  unfolding picture_made
  source_is = refl

-- ---- the source of a map

module _ (files : Files) (made : Made) (place : ℕ) where
  abbrev pub map_step : Made × Picture → Read (Made × Option SourceNo)
  map_step read = done (with_map read.0 read.1)

  pub no_map : map_made files made place None ≡ done (made, None)
  unfolding map_made
  no_map = refl

  pub map_is : (name : List ℕ) → map_made files made place (Some name) ≡ (picture_loaded files made place name >>= map_step)
  unfolding map_made
  map_is name = refl

abbrev source_at : ℕ → Option SourceNo
source_at k = Some (record { 0 = k })

pub map_gives : (mid : Made) (picture : Picture) (table : List Source) (source : SourceNo) → table ≡ mid.sources ++ Drawn picture ∷ [] → source.0 ≡ length mid.sources → with_map mid picture ≡ (record mid { sources = table }, Some source)
map_gives mid picture table source added at =
    ap (λ t. (record mid { sources = t }, source_at (length mid.sources))) (sym added) ∙ ap (λ k. (record mid { sources = table }, source_at k)) (sym at)
