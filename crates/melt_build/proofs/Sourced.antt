-- A table with one source more, and a unit of that source.
use Rattle.std.proofs.Common.{ℕ, ◌≡◌, ◌<◌, true, ◌≤◌, List, [], ◌∷◌, ◌++◌, length, slice_get, Option, None, Some, option_map, IsSomeAnd, All, refl, sym, ap, ◌∙◌, subst, arith}
use Rattle.std.proofs.lemmas.Grind.{common_steps}
use Rattle.std.proofs.lemmas.List.{get_or_append_left, get_or_push}
use Rattle.std.proofs.lemmas.List.Elements.{All-nil, All-cons, All-weaker}
use Rattle.std.proofs.lemmas.Option.{slice_get_within, slice_get-get_or, get_or_from_slice_get}
use Rattle.std.specs.List.{flat_map}
use Rattle.mlt_base.specs.declared.profile.SourceNo.{SourceNo}
use Rattle.mlt_base.specs.Still.{Picture}
use Rattle.mlt_tree.specs.declared.node.Body.{Body}
use Rattle.mlt_tree.specs.declared.node.Body.TheVariants as body
use Rattle.mlt_tree.specs.declared.node.Node.{Node}
use Rattle.mlt_tree.specs.declared.tree.SourceKind.{SourceKind}
use Rattle.mlt_tree.specs.Medium.{Pictures, makes}
use Rattle.mlt_tree.specs.Show.{Source, Drawn, kind_of}
use Rattle.mlt_tree.specs.Sources.{HasSource, HasPicture, FitsBody, maps_of, numbered}
use Rattle.mlt_tree.specs.Units.{source_unit, IsMix}
use Rattle.melt_build.specs.declared.state.Made.{Made}
use Rattle.melt_build.specs.State.{FitsUnits, IsMore}
use Rattle.melt_build.proofs.Mixed.{mix_stays}
use Rattle.melt_build.proofs.Sealed.{fits_more}

longer : {A : Type 0} (xs : List A) (x : A) (i : ℕ) → i < length xs → i < length (xs ++ x ∷ [])
longer xs x i h = grind (arith, common_steps)

-- what stood there stands there still
seen_more : {A : Type 0} (xs : List A) (new : A) (i : ℕ) (x : A) → slice_get xs i ≡ Some x → slice_get (xs ++ new ∷ []) i ≡ Some x
seen_more xs new i x h =
    let inside : i < length xs = slice_get_within xs i x h in
    slice_get-get_or (xs ++ new ∷ []) i x (longer xs new i inside) ∙ ap Some (get_or_append_left xs (new ∷ []) x i inside ∙ get_or_from_slice_get xs i x x h)

behind : {A : Type 0} (xs : List A) (x : A) → length xs < length (xs ++ x ∷ [])
behind xs x = grind (arith, common_steps)

seen_last : {A : Type 0} (xs : List A) (x : A) (i : ℕ) → i ≡ length xs → slice_get (xs ++ x ∷ []) i ≡ Some x
seen_last xs x i h =
    ap (slice_get (xs ++ x ∷ [])) h ∙ slice_get-get_or (xs ++ x ∷ []) (length xs) x (behind xs x) ∙ ap Some (get_or_push xs x x (length xs) refl)

source_more : (table : List Source) (new : Source) (named : ℕ × SourceKind) → HasSource table named → HasSource (table ++ new ∷ []) named
source_more table new named h = by (slice_get table named.0) refl where
  by : (seen : Option Source) → slice_get table named.0 ≡ seen → HasSource (table ++ new ∷ []) named
  by None is = absurd (none (sym (ap (option_map kind_of) is) ∙ h)) where
    none : None ≡ Some named.1 → ⊥
    none e = grind arith
  by (Some s) is = ap (option_map kind_of) (seen_more table new named.0 s is) ∙ sym (ap (option_map kind_of) is) ∙ h

pub picture_more : (table : List Source) (new : Source) (number : ℕ) → HasPicture table number → HasPicture (table ++ new ∷ []) number
picture_more table new number h = by (slice_get table number) refl h where
  IsShown : Option Source → Type 0
  IsShown seen = IsSomeAnd seen (λ s. makes Pictures (kind_of s) ≡ true)

  by : (seen : Option Source) → slice_get table number ≡ seen → IsShown seen → HasPicture (table ++ new ∷ []) number
  by None is h = absurd h
  by (Some s) is h = subst IsShown (sym (seen_more table new number s is)) h

pub body_more : (table : List Source) (new : Source) (b : Body) → FitsBody table b → FitsBody (table ++ new ∷ []) b
body_more table new (body.Source number kind frames) h = source_more table new (number.0, kind) h
body_more table new (body.Entries entries) h = tt
body_more table new (body.Tractor tracks plants) h = All-weaker (HasPicture table) (HasPicture (table ++ new ∷ [])) (picture_more table new) (flat_map maps_of plants) h

-- a source more, and a unit of it
pub source_fits : (table : List Source) (units : List Node) (new : Source) (number : SourceNo) (kind : SourceKind) (frames : ℕ) → number.0 ≡ length table → kind ≡ kind_of new → FitsUnits table units → FitsUnits (table ++ new ∷ []) (units ++ source_unit number kind frames ∷ [])
source_fits table units new number kind frames at is fits =
    let own : HasSource (table ++ new ∷ []) (number.0, kind) = ap (option_map kind_of) (seen_last table new number.0 at) ∙ ap Some (sym is) in
    fits_more (table ++ new ∷ []) units (source_unit number kind frames) own (λ unit node below here. body_more table new node.body (fits unit node below here))

longer_by_one : {A : Type 0} (xs : List A) (x : A) → length xs ≤ length (xs ++ x ∷ [])
longer_by_one xs x = grind (arith, common_steps)

-- what was made before is there where there is a source more, and a unit more
pub more_made : (old new : Made) (source : Source) (unit : Node) → new.table ≡ old.table ++ source ∷ [] → new.graph ≡ old.graph ++ unit ∷ [] → IsMore old new
more_made old new source unit table graph = record {
  units = subst (λ us. length old.graph ≤ length us) (sym graph) (longer_by_one old.graph unit);
  mixes = λ k h. subst (λ us. IsMix us k) (sym graph) (mix_stays old.graph unit k h);
  pictures = λ k h. subst (λ t. HasPicture t k) (sym table) (picture_more old.table source k h);
}

-- a source more that is no unit's
pub sources_fit : (table : List Source) (units : List Node) (new : Source) → FitsUnits table units → FitsUnits (table ++ new ∷ []) units
sources_fit table units new fits unit node below here = body_more table new node.body (fits unit node below here)

pub more_sources : (old new : Made) (source : Source) → new.table ≡ old.table ++ source ∷ [] → new.graph ≡ old.graph → IsMore old new
more_sources old new source table graph = record {
  units = subst (λ us. length old.graph ≤ length us) (sym graph) (omega arith);
  mixes = λ k h. subst (λ us. IsMix us k) (sym graph) h;
  pictures = λ k h. subst (λ t. HasPicture t k) (sym table) (picture_more old.table source k h);
}

-- a picture that was just added is there
pub map_there : (old new : List Source) (picture : Picture) (number : SourceNo) → new ≡ old ++ Drawn picture ∷ [] → number.0 ≡ length old → All (HasPicture new) (numbered (Some number))
map_there old new picture number is at =
    let seen : slice_get new number.0 ≡ Some (Drawn picture) = ap (λ t. slice_get t number.0) is ∙ seen_last old (Drawn picture) number.0 at in
    All-cons (HasPicture new) number.0 [] (subst (λ o. IsSomeAnd o (λ s. makes Pictures (kind_of s) ≡ true)) (sym seen) refl) (All-nil (HasPicture new))
