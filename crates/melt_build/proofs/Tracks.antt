-- Edits of the last entry, with the refusals of their groups.
use Rattle.std.proofs.Common.{ℕ, ◌≡◌, ◌+◌, ◌-◌, ◌<◌, ◌≤◌, ◌^◌, Bool, true, false, cond, ltb, Option, Some, IfSome, take, drop, List, [], ◌∷◌, ◌++◌, length, Result, Ok, Err, All, OnOk, refl, sym, ap, ◌∙◌, subst, arith}
use Rattle.std.proofs.lemmas.Grind.{common_steps}
use Rattle.std.proofs.lemmas.List.Elements.{All-nil}
use Rattle.std.specs.Result.{result_unwrap_or}
use Rattle.mlt_base.specs.Steps.{◌>>=◌}
use Rattle.mlt_base.specs.Try.{TryFails, TryGives}
use Rattle.mlt_base.specs.declared.faults.PlayFault.{PlayFault}
use Rattle.mlt_base.specs.declared.limits.TheConstants.{MOST_ENTRIES}
use Rattle.mlt_base.specs.declared.refusal.Try.{Try}
use Rattle.mlt_base.specs.declared.refusal.Try.TheVariants.{Fault, Memory}
use Rattle.mlt_base.specs.declared.value.UnitId.{UnitId}
use Rattle.mlt_tree.specs.declared.entry.Entry.{Entry}
use Rattle.mlt_tree.specs.declared.group.Group.{Group}
use Rattle.mlt_tree.specs.declared.node.Node.{Node}
use Rattle.mlt_tree.specs.declared.refusal.Refusal.{Refusal}
use Rattle.mlt_tree.specs.declared.tree.Hide.{Hide}
use Rattle.mlt_tree.specs.Composition as meaning
use Rattle.mlt_tree.specs.Composition.{on_last, edited, track, with_track, repeat}
use Rattle.mlt_tree.specs.Edits as edit
use Rattle.mlt_tree.specs.Edits.{Edited, Mixed, clip, frames_in}
use Rattle.mlt_tree.specs.Planting.{mix_kept, begin_track, mixed_at}
use Rattle.mlt_tree.specs.Props.{counted}
use Rattle.mlt_tree.specs.Refusing.{at_group}
use Rattle.mlt_tree.specs.Show.{Source}
use Rattle.mlt_tree.specs.Sources.{FitsBody, HasPicture}
use Rattle.mlt_tree.specs.Units.{Level, list_unit, mix_unit, with_entries, new_track, drafts_of, empty_draft, IsMix}
use Rattle.mlt_graph.specs.Drafts.{Begins}
use Rattle.mlt_playlist.specs.declared.playlist.MixParts.{MixParts}
use Rattle.mlt_playlist.specs.Overlaps.{answer_of}
use Rattle.mlt_playlist.specs.Parts.{mixed_view}
use Rattle.mlt_playlist.specs.Playlist.{Does, DoesAlways, IsList}
use Rattle.melt_build.specs.Edited.{edited_at}
use Rattle.melt_build.specs.declared.state.State.{State}
use Rattle.melt_build.specs.State.{IsComposed, IsKnown, IsKnownLevel, FitsUnits, state_view}
use Rattle.melt_build.proofs.Keeps.{keeps_join, joined_is, all_known_more, mixed_parts_are, mixed_known}
use Rattle.melt_build.proofs.Levels.{composed_with, known_entries, level_more, mix_more, all_drafts}
use Rattle.melt_build.proofs.Mixed.{mix_stays, mix_made}
use Rattle.melt_build.proofs.Sealed.{fits_more}

-- a fault, or this one where there is none
abbrev err_or : {A : Type 0} → Try Refusal → Result A (Try Refusal) → Try Refusal
err_or d (Ok x) = d
err_or d (Err e) = e

-- a state with a mix
abbrev with_mix : meaning.State → Mixed × List Entry → meaning.State
with_mix s done =
    record (with_track s done.1) { made = record s.made { units = s.made.units ++ mix_unit done.0.a done.0.b done.0.frames ∷ [] }; last_mix = Some (length s.made.units) }

-- with other entries in its track
abbrev pub changed : State → List Entry → State
changed s entries = record s { level = with_entries s.level entries }

pub on_last_is : (s : meaning.State) (g : Group) (act : ℕ → Result meaning.State Refusal) (last : ℕ) → length (track s) ≡ last + 1 → on_last s g act ≡ act last
on_last_is s g act last h = by (track s) h where
  run : List Entry → Result meaning.State Refusal
  run [] = on_last (with_track s []) g act
  run (e ∷ es) = act (length es)

  by : (es : List Entry) → length es ≡ last + 1 → run es ≡ act last
  by [] h = absurd (omega (arith, h))
  by (e ∷ es) h = ap act (omega (arith, h))

module _ {A : Type 0} where
  pub edited_gives : (s t : meaning.State) (g : Group) (done : Edited A) (old new : List Entry) (r : Result A (Try PlayFault)) → t ≡ with_track s new → Does done old new r → TryGives (λ x. t) (edited_at g.place r) (edited s g done)
  edited_gives s t g done old new (Ok x) is h =
      ap (λ d. meaning.edited s g d) h ∙ ap (λ u. Ok u) (sym is)
  edited_gives s t g done old new (Err (Fault fault)) is h = ap (λ d. meaning.edited s g d) h.0
  edited_gives s t g done old new (Err Memory) is h = tt

  pub last_gives : (s : State) (g : Group) (act : ℕ → Edited A) (last : ℕ) (new : List Entry) (r : Result A (Try PlayFault)) → IsComposed s → length s.level.current.entries ≡ last + 1 → Does (act last) s.level.current.entries new r → TryGives (λ x. state_view (changed s new)) (edited_at g.place r) (on_last (state_view s) g (λ last. edited (state_view s) g (act last)))
  last_gives s g act last new r composed there h =
      subst (TryGives (λ x. state_view (changed s new)) (edited_at g.place r)) (sym (on_last_is (state_view s) g (λ last. edited (state_view s) g (act last)) last there)) (edited_gives (state_view s) (state_view (changed s new)) g (act last) s.level.current.entries new r refl h)

  pub stays_composed : (s : State) (place : ℕ) (done : Edited A) (new : List Entry) (r : Result A (Try PlayFault)) → IsComposed s → Does done s.level.current.entries new r → ((x : A) → done ≡ Ok (x, new) → All (IsKnown (length s.made.graph)) new) → OnOk (edited_at place r) (IsComposed (changed s new))
  stays_composed s place done new (Ok x) composed h keeps = composed_with s new composed (keeps x h)
  stays_composed s place done new (Err (Fault fault)) composed h keeps = tt
  stays_composed s place done new (Err Memory) composed h keeps = tt

  -- an edit that was not refused is done
  pub edited_done : (place : ℕ) (done : Edited A) (old new : List Entry) (r : Result A (Try PlayFault)) (x : A) → edited_at place r ≡ Ok x → Does done old new r → done ≡ Ok (x, new)
  edited_done place done old new (Ok y) x is h =
      h ∙ ap (λ (r : Result A (Try Refusal)). Ok (result_unwrap_or r x, new)) is
  edited_done place done old new (Err (Fault fault)) x is h = let apart : ⊥ = grind arith in absurd apart
  edited_done place done old new (Err Memory) x is h = let apart : ⊥ = grind arith in absurd apart

  -- the same of an edit that takes no memory
  pub grouped_done : (place : ℕ) (done : Edited A) (old new : List Entry) (r : Result A PlayFault) (x : A) → at_group place r ≡ Ok x → DoesAlways done old new r → done ≡ Ok (x, new)
  grouped_done place done old new (Ok y) x is h =
      h ∙ ap (λ (r : Result A Refusal). Ok (result_unwrap_or r x, new)) is
  grouped_done place done old new (Err fault) x is h = let apart : ⊥ = grind arith in absurd apart

pub repeat_is : (s : meaning.State) (g : Group) (n : ℕ) → Ok n ≡ counted 1 MOST_ENTRIES g.place g.arg → repeat s g ≡ on_last s g (λ last. edited s g (edit.repeat_clip last n (track s)))
unfolding repeat
repeat_is s g n h =
    ap (λ (r : Result ℕ Refusal). r >>= λ n. on_last s g (λ last. edited s g (edit.repeat_clip last n (track s)))) (sym h)

-- ---- units that are made of the last entries

more_units : (us : List Node) (u : Node) → length us ≤ length (us ++ u ∷ [])
more_units us u = grind (arith, common_steps)

last_unit_below : (us : List Node) (u : Node) (unit : ℕ) → unit ≡ length us → unit < length (us ++ u ∷ [])
last_unit_below us u unit h = grind (arith, common_steps)

-- with one unit more, other entries, and a mix that is a unit
module _ (s : State) (u : Node) (entries : List Entry) (mix : Option UnitId) (composed : IsComposed s) (fits : FitsBody s.made.table u.body) where
  abbrev graph : List Node
  graph = s.made.graph

  abbrev all : List Node
  all = graph ++ u ∷ []

  pub unit_composed : (units : List Node) → units ≡ all → All (IsKnown (length all)) entries → IfSome mix (λ unit. IsMix all unit.0) → IsComposed (record s { made = record s.made { graph = units }; level = with_entries s.level entries; last_mix = mix })
  unit_composed units is known mixed =
      let table : List Source = s.made.table in
      let now : IsKnownLevel (length all) table s.level = level_more (length graph) (length all) table table s.level (more_units graph u) (λ source h. h) composed.level in
      record {
        made = record {
          few = composed.made.few;
          fits = subst (FitsUnits table) (sym is) (fits_more table graph u fits composed.made.fits);
        };
        level = subst (λ us. IsKnownLevel (length us) table (with_entries s.level entries)) (sym is) (known_entries (length all) table s.level entries now known);
        mix = subst (λ us. IfSome mix (λ unit. IsMix us unit.0)) (sym is) mixed;
        placed = composed.placed;
      }

-- with a clip of a new unit of what was joined
pub joined_composed : (s : State) (units : List Node) (at n unit : ℕ) (new joined : List Entry) → frames_in joined < 2 ^ 31 → IsComposed s → units ≡ s.made.graph ++ list_unit joined ∷ [] → unit ≡ length s.made.graph → edit.join at n unit s.level.current.entries ≡ Ok (joined, new) → IsComposed (record s { made = record s.made { graph = units }; level = with_entries s.level new })
joined_composed s units at n unit new joined short composed is number done =
    let graph : List Node = s.made.graph in
    let all : List Node = graph ++ list_unit joined ∷ [] in
    let now : All (IsKnown (length all)) s.level.current.entries = all_known_more (length graph) (length all) s.level.current.entries (more_units graph (list_unit joined)) composed.level.current in
    let clip_known : IsKnown (length all) (clip unit 0 (frames_in (take n (drop at s.level.current.entries)) - 1) []) = record { below = last_unit_below graph (list_unit joined) unit number; short = subst (λ part. frames_in part - 1 < 2 ^ 31) (sym (joined_is at n unit s.level.current.entries new joined done)) (omega (arith, short)) } in
    let known : All (IsKnown (length all)) new = keeps_join (IsKnown (length all)) at n unit s.level.current.entries new joined now clip_known done in
    unit_composed s (list_unit joined) new s.last_mix composed tt units is known (mix_more graph all (λ k h. mix_stays graph (list_unit joined) k h) s.last_mix composed.mix)

-- ---- mixes

-- a mix that was not refused is done
pub mix_done : (place : ℕ) (done : Edited Mixed) (old new : List Entry) (r : Result MixParts (Try PlayFault)) (parts : MixParts) → edited_at place r ≡ Ok parts → Does done old new (answer_of r) → done ≡ Ok (mixed_view parts, new)
mix_done place done old new (Ok x) parts is h =
    h ∙ ap (λ (r : Result MixParts (Try Refusal)). Ok (mixed_view (result_unwrap_or r parts), new)) is
mix_done place done old new (Err (Fault fault)) parts is h = let apart : ⊥ = grind arith in absurd apart
mix_done place done old new (Err Memory) parts is h = let apart : ⊥ = grind arith in absurd apart

-- with a clip of a new unit of two entries that overlap
pub mixed_composed : (s : State) (units : List Node) (at n : ℕ) (unit : UnitId) (new : List Entry) (parts : MixParts) → 1 ≤ n → IsList s.level.current.entries → IsComposed s → units ≡ s.made.graph ++ mix_unit parts.a parts.b parts.frames ∷ [] → unit.0 ≡ length s.made.graph → edit.mix at n unit.0 s.level.current.entries ≡ Ok (mixed_view parts, new) → IsComposed (record s { made = record s.made { graph = units }; level = with_entries s.level new; last_mix = Some unit })
mixed_composed s units at n unit new parts some list composed is number done =
    let graph : List Node = s.made.graph in
    let u : Node = mix_unit parts.a parts.b parts.frames in
    let all : List Node = graph ++ u ∷ [] in
    let es : List Entry = s.level.current.entries in
    let are = mixed_parts_are (length graph) at n unit.0 es new (mixed_view parts) some list composed.level.current done in
    let now : All (IsKnown (length all)) es = all_known_more (length graph) (length all) es (more_units graph u) composed.level.current in
    let known : All (IsKnown (length all)) new = mixed_known (length all) at n unit.0 es new (mixed_view parts) (last_unit_below graph u unit.0 number) are.short now done in
    unit_composed s u new (Some unit) composed (All-nil (HasPicture s.made.table)) units is known (mix_made graph parts.a parts.b parts.frames unit.0 are.some number)

module _ (s : meaning.State) (g : Group) (n : ℕ) (new : List Entry) where
  abbrev asked : Edited Mixed
  asked = edit.mix (length (track s) - 2) n (length s.made.units) (track s)

  not_ok : {A E : Type 0} (x : A) (e : E) → Ok x ≡ (Err e) → ⊥
  not_ok x e h = grind arith

  -- a mix that is refused
  pub mix_fails : (r : Result MixParts (Try PlayFault)) (refused : Try Refusal) → edited_at g.place r ≡ Err refused → Does asked (track s) new (answer_of r) → TryFails refused (mixed_at s g (length (track s) - 2) n)
  mix_fails (Ok x) refused is h = absurd (not_ok x refused is)
  mix_fails (Err (Fault fault)) refused is h =
      subst (λ f. TryFails f (mixed_at s g (length (track s) - 2) n)) (ap (err_or {A = MixParts} refused) is) (ap (λ d. at_group g.place d >>= λ done. Ok (with_mix s done)) h.0)
  mix_fails (Err Memory) refused is h =
      subst (λ f. TryFails f (mixed_at s g (length (track s) - 2) n)) (ap (err_or {A = MixParts} refused) is) tt

  -- one that is not
  pub mix_gives : (parts : MixParts) (units : List Node) (unit : ℕ) → asked ≡ Ok (mixed_view parts, new) → units ≡ s.made.units ++ mix_unit parts.a parts.b parts.frames ∷ [] → unit ≡ length s.made.units → mixed_at s g (length (track s) - 2) n ≡ Ok (record (with_track s new) { made = record s.made { units = units }; last_mix = Some unit })
  mix_gives parts units unit done is number =
      ap (λ d. at_group g.place d >>= λ done. Ok (with_mix s done)) done
      ∙ ap (λ us. Ok (record (with_track s new) { made = record s.made { units = us }; last_mix = Some (length s.made.units) })) (sym is)
      ∙ ap (λ k. Ok (record (with_track s new) { made = record s.made { units = units }; last_mix = Some k })) (sym number)

-- ---- tracks

-- a track more, or another hide
pub track_known : (count : ℕ) (table : List Source) (level new : Level) (hide : Hide) → IsKnownLevel count table level → new_track level hide ≡ Ok new → IsKnownLevel count table new
track_known count table level new hide known is = by level.current.entries refl is where
  stays : Level
  stays = record level { current = record level.current { hide = hide } }

  begins : Level
  begins = record level { closed = drafts_of level; current = empty_draft hide }

  run : List Entry → Result Level PlayFault
  run [] = Ok stays
  run (e ∷ es) = cond (ltb (length (drafts_of level)) 256) (Ok begins) (Err (PlayFault.TooMany 256))

  okay : Level → Result Level PlayFault
  okay level = Ok level

  same : (a b : Level) → okay a ≡ okay b → a ≡ b
  same a b h = ap (λ (r : Result Level PlayFault). result_unwrap_or r a) h

  full : (b : Bool) → cond b (okay begins) (Err (PlayFault.TooMany 256)) ≡ okay new → IsKnownLevel count table new
  full true h =
      subst (IsKnownLevel count table) (same begins new h) (record { closed = all_drafts count table level known; current = All-nil (IsKnown count); maps = known.maps })
  full false h = let apart : ⊥ = grind arith in absurd apart

  by : (es : List Entry) → level.current.entries ≡ es → run es ≡ Ok new → IsKnownLevel count table new
  by [] here h =
      subst (IsKnownLevel count table) (same stays new h) (record { closed = known.closed; current = known.current; maps = known.maps })
  by (e ∷ es) here h = full (ltb (length (drafts_of level)) 256) h

-- the plants stay
pub track_plants : (level new : Level) (hide : Hide) → new_track level hide ≡ Ok new → new.plants ≡ level.plants
track_plants level new hide is = by level.current.entries is where
  stays : Level
  stays = record level { current = record level.current { hide = hide } }

  begins : Level
  begins = record level { closed = drafts_of level; current = empty_draft hide }

  run : List Entry → Result Level PlayFault
  run [] = Ok stays
  run (e ∷ es) = cond (ltb (length (drafts_of level)) 256) (Ok begins) (Err (PlayFault.TooMany 256))

  okay : Level → Result Level PlayFault
  okay level = Ok level

  same : (level : Level) → okay level ≡ okay new → new.plants ≡ level.plants
  same level h = ap (λ (r : Result Level PlayFault). (result_unwrap_or r level).plants) (sym h)

  full : (b : Bool) → cond b (okay begins) (Err (PlayFault.TooMany 256)) ≡ okay new → new.plants ≡ level.plants
  full true h = same begins h
  full false h = let apart : ⊥ = grind arith in absurd apart

  by : (es : List Entry) → run es ≡ Ok new → new.plants ≡ level.plants
  by [] h = same stays h
  by (e ∷ es) h = full (ltb (length (drafts_of level)) 256) h

module _ (video audio : Bool) (s : meaning.State) (g : Group) (new : Level) where
  abbrev hide : Hide
  hide = record { video = video; audio = audio }

  -- a track that begins
  pub begun : new_track s.level hide ≡ Ok new → begin_track video audio s g ≡ Ok (record s { level = new; last_mix = mix_kept (track s) s.last_mix })
  unfolding begin_track
  begun h = ap (λ d. at_group g.place d >>= λ level. Ok (record s { level = level; last_mix = mix_kept (track s) s.last_mix })) h

  no_track : {A E : Type 0} (x : A) (e : E) → Ok x ≡ (Err e) → ⊥
  no_track x e h = grind arith

  -- a track that is refused
  pub track_fails : (r : Result (Unit {0}) (Try PlayFault)) (refused : Try Refusal) → edited_at g.place r ≡ Err refused → Begins (new_track s.level hide) s.level new r → TryFails refused (begin_track video audio s g)
  unfolding begin_track
  track_fails (Ok x) refused is h = absurd (no_track x refused is)
  track_fails (Err (Fault fault)) refused is h =
      subst (λ f. TryFails f (begin_track video audio s g)) (ap (err_or {A = Unit {0}} refused) is) (ap (λ d. at_group g.place d >>= λ level. Ok (record s { level = level; last_mix = mix_kept (track s) s.last_mix })) h.0)
  track_fails (Err Memory) refused is h =
      subst (λ f. TryFails f (begin_track video audio s g)) (ap (err_or {A = Unit {0}} refused) is) tt

-- a track that was not refused has begun
pub track_done : (place : ℕ) (done : Result Level PlayFault) (old new : Level) (r : Result (Unit {0}) (Try PlayFault)) (x : Unit {0}) → edited_at place r ≡ Ok x → Begins done old new r → done ≡ Ok new
track_done place done old new (Ok y) x is h = h
track_done place done old new (Err (Fault fault)) x is h = let apart : ⊥ = grind arith in absurd apart
track_done place done old new (Err Memory) x is h = let apart : ⊥ = grind arith in absurd apart
