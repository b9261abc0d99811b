-- Units that are mixes: they stay that, and can be merged.
use Rattle.std.proofs.Common.{ℕ, ◌≡◌, ◌≢◌, ◌<◌, ◌≤◌, Bool, true, false, eqb, List, [], ◌∷◌, ◌++◌, length, get_or, set, All, refl, sym, ap, ◌∙◌, subst, arith}
use Rattle.std.specs.List.{flat_map}
use Rattle.std.proofs.lemmas.Bool.Decides.{nat_tests}
use Rattle.std.proofs.lemmas.Grind.{common_steps, flat_map-append}
use Rattle.std.proofs.lemmas.List.{map-append, append-nil, get_or_default, get_or_append_left, get_or-set_same, get_or-set_other, get_or_push, length-set}
use Rattle.std.proofs.lemmas.List.Elements.{All-append}
use Rattle.mlt_tree.specs.declared.entry.Entry.{Entry}
use Rattle.mlt_tree.specs.declared.merge.MergeSpec.{MergeSpec}
use Rattle.mlt_tree.specs.declared.node.Body.{Body}
use Rattle.mlt_tree.specs.declared.node.Body.TheVariants.{Tractor, Source as SourceOf, Entries}
use Rattle.mlt_tree.specs.declared.node.Node.{Node}
use Rattle.mlt_tree.specs.declared.node.Track.TheVariants.{Half}
use Rattle.mlt_tree.specs.declared.tree.Attached.{Attached}
use Rattle.mlt_tree.specs.declared.tree.Plant.{Plant}
use Rattle.mlt_tree.specs.Show.{Source}
use Rattle.mlt_tree.specs.Sources.{FitsBody, HasPicture, maps_of, maps_of_merge}
use Rattle.mlt_tree.specs.Units.{list_unit, mix_of, mix_unit, mixer, mix_frames, planted_more, with_merge, with_mixer, with_filter, with_unit_filter, IsMix, IsMixOf}
use Rattle.melt_build.specs.State.{FitsUnits}

longer : (us : List Node) (u : Node) (k : ℕ) → k < length us → k < length (us ++ u ∷ [])
longer us u k h = grind (arith, common_steps)

-- ---- one unit more

-- a mix stays one
pub mix_stays : (us : List Node) (u : Node) (k : ℕ) → IsMix us k → IsMix (us ++ u ∷ []) k
mix_stays us u k h = record {
  there = longer us u k h.there;
  mix = subst (λ (n : Node). IsMixOf n.body) (sym (get_or_append_left us (u ∷ []) (list_unit []) k h.there)) h.mix;
}

behind : (us : List Node) (u : Node) (k : ℕ) → k ≡ length us → k < length (us ++ u ∷ [])
behind us u k h = grind (arith, common_steps)

-- the unit of a mix is one
pub mix_made : (us : List Node) (a b : Entry) (frames k : ℕ) → 1 ≤ frames → k ≡ length us → IsMix (us ++ mix_unit a b frames ∷ []) k
mix_made us a b frames k some h = record {
  there = behind us (mix_unit a b frames) k h;
  mix = subst (λ (n : Node). IsMixOf n.body) (sym (get_or_push us (mix_unit a b frames) (list_unit []) k (sym h))) (record { a = a; b = b; frames = frames; merges = []; some = some; is = refl });
}

-- ---- one unit changed

-- what holds of the new unit, and of the others, holds of each
pub each_set : (us : List Node) (unit k : ℕ) (new node : Node) (P : Node → Type 0) → k < length us → (unit < length us → P new) → ((n : Node) → n ≡ get_or us k n → P n) → node ≡ get_or (set us unit new) k node → P node
each_set us unit k new node P below own each is = by (eqb k unit) refl where
  by : (b : Bool) → eqb k unit ≡ b → P node
  by true test =
      let same : k ≡ unit = grind (arith, nat_tests) in
      let inside : unit < length us = omega (arith, same, below) in
      subst P (sym (is ∙ ap (λ k. get_or (set us unit new) k node) same ∙ get_or-set_same us unit new node inside)) (own inside)
  by false test =
      let apart : k ≢ unit = grind (arith, nat_tests) in
      each node (is ∙ get_or-set_other us unit k new node apart)

pub unit_there : (us : List Node) (unit : ℕ) → unit < length us → get_or us unit (list_unit []) ≡ get_or us unit (get_or us unit (list_unit []))
unit_there us unit inside = get_or_default us unit (list_unit []) (get_or us unit (list_unit [])) inside

-- mixes stay mixes, where a mix is changed to one
mix_set : (us : List Node) (unit : ℕ) (new : Node) (k : ℕ) → (IsMixOf (get_or us unit (list_unit [])).body → IsMixOf new.body) → IsMix us k → IsMix (set us unit new) k
mix_set us unit new k keeps h = record {
  there = subst (λ n. k < n) (sym (length-set us unit new)) h.there;
  mix = by (eqb k unit) refl;
}
  where
    by : (b : Bool) → eqb k unit ≡ b → IsMixOf (get_or (set us unit new) k (list_unit [])).body
    by true test =
        let same : k ≡ unit = grind (arith, nat_tests) in
        let inside : unit < length us = omega (arith, same, h.there) in
        subst (λ (n : Node). IsMixOf n.body) (sym (ap (λ k. get_or (set us unit new) k (list_unit [])) same ∙ get_or-set_same us unit new (list_unit []) inside)) (keeps (subst (λ k. IsMixOf (get_or us k (list_unit [])).body) same h.mix))
    by false test =
        let apart : k ≢ unit = grind (arith, nat_tests) in
        subst (λ (n : Node). IsMixOf n.body) (sym (get_or-set_other us unit k new (list_unit []) apart)) h.mix

-- with a filter more
pub filter_mixes : (us : List Node) (unit : ℕ) (filter : Attached) (k : ℕ) → IsMix us k → IsMix (with_unit_filter us unit filter) k
filter_mixes us unit filter k h = mix_set us unit (with_filter (get_or us unit (list_unit [])) filter) k (λ mix. mix) h

-- a mix with one merge more, which acts after those that it has
more_merged : (a b : Entry) (frames : ℕ) (merges : List MergeSpec) (spec : MergeSpec) → planted_more (mix_of a b frames merges) (mixer frames spec) ≡ mix_of a b frames (merges ++ spec ∷ [])
more_merged a b frames merges spec = ap (Tractor (Half a frames ∷ Half b frames ∷ [])) (sym (map-append (mixer frames) merges (spec ∷ [])))

planted_mix : (body : Body) (spec : MergeSpec) → IsMixOf body → IsMixOf (planted_more body (mixer (mix_frames body) spec))
planted_mix body spec h = record {
  a = h.a;
  b = h.b;
  frames = h.frames;
  some = h.some;
  merges = h.merges ++ spec ∷ [];
  is = ap (λ body. planted_more body (mixer (mix_frames body) spec)) h.is ∙ more_merged h.a h.b h.frames h.merges spec;
}

-- with a merge more
pub merge_mixes : (us : List Node) (unit : ℕ) (spec : MergeSpec) (k : ℕ) → IsMix us k → IsMix (with_mixer us unit spec) k
merge_mixes us unit spec k h =
    let old : Node = get_or us unit (list_unit []) in
    mix_set us unit (with_merge old spec) k (planted_mix old.body spec) h

pub merge_length : (us : List Node) (unit : ℕ) (spec : MergeSpec) → length (with_mixer us unit spec) ≡ length us
merge_length us unit spec =
    length-set us unit (with_merge (get_or us unit (list_unit [])) spec)

maps_both : (plants : List Plant) (plant : Plant) → flat_map maps_of (plants ++ plant ∷ []) ≡ flat_map maps_of plants ++ maps_of plant
maps_both plants plant = flat_map-append maps_of plants (plant ∷ []) ∙ ap (λ maps. flat_map maps_of plants ++ maps) (append-nil (maps_of plant))

planted_fits : (table : List Source) (body : Body) (plant : Plant) → All (HasPicture table) (maps_of plant) → FitsBody table body → FitsBody table (planted_more body plant)
planted_fits table (SourceOf source kind frames) plant map fits = fits
planted_fits table (Entries entries) plant map fits = tt
planted_fits table (Tractor tracks plants) plant map fits =
    subst (All (HasPicture table)) (sym (maps_both plants plant)) (All-append (HasPicture table) (flat_map maps_of plants) (maps_of plant) fits map)

pub merge_fits : (table : List Source) (us : List Node) (unit : ℕ) (spec : MergeSpec) → All (HasPicture table) (maps_of_merge spec) → FitsUnits table us → FitsUnits table (with_mixer us unit spec)
merge_fits table us unit spec map fits k node below is =
    let old : Node = get_or us unit (list_unit []) in
    let inside : k < length us = subst (λ n. k < n) (merge_length us unit spec) below in
    each_set us unit k (with_merge old spec) node (λ n. FitsBody table n.body) inside (λ there. planted_fits table old.body (mixer (mix_frames old.body) spec) map (fits unit old there (unit_there us unit there))) (λ n here. fits k n inside here) is
