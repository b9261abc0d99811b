-- What is known of a composition's tracks and units.
use Rattle.std.proofs.Common.{ℕ, ◌≡◌, ◌≤◌, List, [], ◌∷◌, ◌++◌, length, map, All, IfSome, Option, None, Some, sym, ap, ◌∙◌, subst, arith}
use Rattle.std.specs.List.{flat_map}
use Rattle.std.proofs.lemmas.Grind.{common_steps}
use Rattle.std.proofs.lemmas.List.Elements.{All-nil, All-push, All-append, All-head, All-tail, All-weaker}
use Rattle.mlt_base.specs.declared.value.UnitId.{UnitId}
use Rattle.mlt_tree.specs.declared.draft.Draft.{Draft}
use Rattle.mlt_tree.specs.declared.draft.PendingPlant.{PendingPlant}
use Rattle.mlt_tree.specs.declared.draft.PendingPlant.TheVariants.{OnTrack, Between}
use Rattle.mlt_tree.specs.declared.entry.Entry.{Entry}
use Rattle.mlt_tree.specs.declared.node.Node.{Node}
use Rattle.mlt_tree.specs.Show.{Source}
use Rattle.mlt_tree.specs.Sources.{HasPicture, maps_of, maps_of_merge}
use Rattle.mlt_tree.specs.Units.{Level, drafts_of, plant_within, with_plant, with_entries, IsEntryBelow, IsMix}
use Rattle.melt_build.specs.declared.state.Made.{Made}
use Rattle.melt_build.specs.declared.state.State.{State}
use Rattle.melt_build.specs.State.{HasMap, IsKnown, IsKnownDraft, IsKnownLevel, IsMade, IsComposed, IsMore}
use Rattle.melt_build.proofs.Keeps.{all_known_more}

-- with other entries in the last track
pub known_entries : (count : ℕ) (table : List Source) (level : Level) (entries : List Entry) → IsKnownLevel count table level → All (IsKnown count) entries → IsKnownLevel count table (with_entries level entries)
known_entries count table level entries h known = record {
  closed = h.closed;
  current = known;
  maps = h.maps;
}

pub composed_with : (s : State) (entries : List Entry) → IsComposed s → All (IsKnown (length s.made.graph)) entries → IsComposed (record s { level = with_entries s.level entries })
composed_with s entries h known = record {
  made = h.made;
  level = known_entries (length s.made.graph) s.made.table s.level entries h.level known;
  mix = h.mix;
  placed = h.placed;
}

draft_more : (n m : ℕ) → n ≤ m → (draft : Draft) → IsKnownDraft n draft → IsKnownDraft m draft
draft_more n m h draft known = all_known_more n m draft.entries h known

-- the pictures of one table are in the other
abbrev pub Keeps : (old new : List Source) → Type 0
Keeps old new = (source : ℕ) → HasPicture old source → HasPicture new source

map_more : (old new : List Source) → Keeps old new → (plant : PendingPlant) → HasMap old plant → HasMap new plant
map_more old new keeps (OnTrack track spec first last) h = tt
map_more old new keeps (Between a b spec first last) h =
    All-weaker (HasPicture old) (HasPicture new) keeps (maps_of_merge spec) h

-- with more units and more sources
pub level_more : (n m : ℕ) (old new : List Source) (level : Level) → n ≤ m → Keeps old new → IsKnownLevel n old level → IsKnownLevel m new level
level_more n m old new level h keeps known = record {
  closed = All-weaker (IsKnownDraft n) (IsKnownDraft m) (draft_more n m h) level.closed known.closed;
  current = draft_more n m h level.current known.current;
  maps = All-weaker (HasMap old) (HasMap new) (map_more old new keeps) level.plants known.maps;
}

pub mix_more : (old new : List Node) → ((unit : ℕ) → IsMix old unit → IsMix new unit) → (mix : Option UnitId) → IfSome mix (λ unit. IsMix old unit.0) → IfSome mix (λ unit. IsMix new unit.0)
mix_more old new keeps None h = tt
mix_more old new keeps (Some unit) h = keeps unit.0 h

-- with more that is made
pub composed_more : (s : State) (made : Made) → IsComposed s → IsMade made → IsMore s.made made → IsComposed (record s { made = made })
composed_more s made h now more = record {
  made = now;
  level = level_more (length s.made.graph) (length made.graph) s.made.table made.table s.level more.units more.pictures h.level;
  mix = mix_more s.made.graph made.graph more.mixes s.last_mix h.mix;
  placed = h.placed;
}

pub more_same : (old new : Made) → new.graph ≡ old.graph → new.table ≡ old.table → IsMore old new
more_same old new graph table = record {
  units = subst (λ us. length old.graph ≤ length us) (sym graph) (omega arith);
  mixes = λ unit h. subst (λ us. IsMix us unit) (sym graph) h;
  pictures = λ source h. subst (λ t. HasPicture t source) (sym table) h;
}

-- what was made before is there, where it was there between
pub more_behind : (old mid new : Made) → mid.graph ≡ old.graph → mid.table ≡ old.table → IsMore mid new → IsMore old new
more_behind old mid new graph table more = record {
  units = subst (λ us. length us ≤ length new.graph) graph more.units;
  mixes = λ unit h. more.mixes unit (subst (λ us. IsMix us unit) (sym graph) h);
  pictures = λ source h. more.pictures source (subst (λ t. HasPicture t source) (sym table) h);
}

pub all_drafts : (count : ℕ) (table : List Source) (level : Level) → IsKnownLevel count table level → All (IsKnownDraft count) (drafts_of level)
all_drafts count table level known =
    All-push (IsKnownDraft count) level.closed level.current known.closed known.current

-- the units of all tracks are there
pub level_below : (count : ℕ) (table : List Source) (level : Level) → IsKnownLevel count table level → All (λ draft. All (IsEntryBelow count) draft.entries) (drafts_of level)
level_below count table level known =
    All-weaker (IsKnownDraft count) (λ draft. All (IsEntryBelow count) draft.entries) (λ draft h. All-weaker (IsKnown count) (IsEntryBelow count) (λ e k. k.below) draft.entries h) (drafts_of level) (all_drafts count table level known)

-- ---- what is planted

-- with one plant more, whose map is in the table
pub level_planted : (count : ℕ) (table : List Source) (level : Level) (plant : PendingPlant) → IsKnownLevel count table level → HasMap table plant → IsKnownLevel count table (with_plant level plant)
level_planted count table level plant known h = record {
  closed = known.closed;
  current = known.current;
  maps = All-push (HasMap table) level.plants plant known.maps h;
}

place_more : (places : List ℕ) (plants : List PendingPlant) (place : ℕ) (plant : PendingPlant) → length places ≡ length plants → length (places ++ place ∷ []) ≡ length (plants ++ plant ∷ [])
place_more places plants place plant h = grind (arith, common_steps)

-- with its place, each plant still has one
pub placed_more : (level new : Level) (places more : List ℕ) (place : ℕ) (plant : PendingPlant) → length places ≡ length level.plants → new ≡ with_plant level plant → more ≡ places ++ place ∷ [] → length more ≡ length new.plants
placed_more level new places more place plant h on at =
    ap length at ∙ place_more places level.plants place plant h ∙ sym (ap (λ (l : Level). length l.plants) on)

map_within : (table : List Source) (frames : ℕ) (plant : PendingPlant) → HasMap table plant → All (HasPicture table) (maps_of (plant_within frames plant))
map_within table frames (OnTrack track spec first last) h = All-nil (HasPicture table)
map_within table frames (Between a b spec first last) h = h

-- the table has the maps of all plants
pub maps_within : (table : List Source) (frames : ℕ) (plants : List PendingPlant) → All (HasMap table) plants → All (HasPicture table) (flat_map maps_of (map (plant_within frames) plants))
maps_within table frames [] h = All-nil (HasPicture table)
maps_within table frames (plant ∷ plants) h =
    All-append (HasPicture table) (maps_of (plant_within frames plant)) (flat_map maps_of (map (plant_within frames) plants)) (map_within table frames plant (All-head (HasMap table) plant plants h)) (maps_within table frames plants (All-tail (HasMap table) plant plants h))
