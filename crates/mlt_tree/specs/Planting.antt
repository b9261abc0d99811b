-- Tracks, mixes, and filters that words plant on tracks.
use Rattle.std.specs.Prelude.{ℕ, ◌-◌, ◌++◌, Bool, List, [], ◌∷◌, length, Option, None, Some, unwrap_or, Result, Ok}
use Rattle.mlt_base.specs.declared.limits.TheConstants.{MOST_FRAMES}
use Rattle.mlt_base.specs.Steps.{◌>>=◌}
use Rattle.mlt_tree.specs.declared.draft.PendingPlant.{PendingPlant}
use Rattle.mlt_tree.specs.declared.draft.PendingPlant.TheVariants.{OnTrack}
use Rattle.mlt_tree.specs.declared.entry.Entry.{Entry}
use Rattle.mlt_tree.specs.declared.group.Group.{Group}
use Rattle.mlt_tree.specs.declared.group.Prop.{Prop}
use Rattle.mlt_tree.specs.declared.refusal.Cause.TheVariants as cause
use Rattle.mlt_tree.specs.declared.refusal.Refusal.{Refusal}
use Rattle.mlt_tree.specs.declared.services.FilterRow.{FilterRow}
use Rattle.mlt_tree.specs.declared.services.TheConstants as row
use Rattle.mlt_tree.specs.Attaching.{asked_by, filter_props}
use Rattle.mlt_tree.specs.Composition.{State, track, with_track}
use Rattle.mlt_tree.specs.Edits as edit
use Rattle.mlt_tree.specs.Props.{counted, number, moment, moment_or_first}
use Rattle.mlt_tree.specs.Refusing.{or_refuse, at_group}
use Rattle.mlt_tree.specs.Services.{called, filter_named}
use Rattle.mlt_tree.specs.Units.{new_track, with_plant, mix_unit}

-- ---- tracks

-- the last mix, where the track stays
abbrev pub mix_kept : List Entry → Option ℕ → Option ℕ
mix_kept [] mix = mix
mix_kept (e ∷ es) mix = None

-- a track begins, which gives no picture or no sound
unfoldable pub begin_track : (video audio : Bool) → State → Group → Result State Refusal
begin_track video audio s g = do
  level ← at_group g.place (new_track s.level (record { video = video; audio = audio }))
  Ok (record s { level = level; last_mix = mix_kept (track s) s.last_mix })

-- ---- mixes

-- two entries from an index on overlap, by a new unit
abbrev pub mixed_at : State → Group → (at n : ℕ) → Result State Refusal
mixed_at s g at n = do
  done ← at_group g.place (edit.mix at n (length s.made.units) (track s))
  Ok (record (with_track s done.1) { made = record s.made { units = s.made.units ++ mix_unit done.0.a done.0.b done.0.frames ∷ [] }; last_mix = Some (length s.made.units) })

-- the last two entries overlap
unfoldable pub mix : State → Group → Result State Refusal
mix s g = counted 1 MOST_FRAMES g.place g.arg >>= λ n. mixed_at s g (length (track s) - 2) n

-- ---- filters on tracks

-- with one plant more; its place is kept, since the tracks are known when all words are read
abbrev pub with_planted : State → (place : ℕ) → PendingPlant → State
with_planted s place plant =
    record s { level = with_plant s.level plant; plant_places = s.plant_places ++ place ∷ [] }

-- the number of the current track
abbrev pub current : State → ℕ
current s = length s.level.closed

unfoldable pub filter_planted : State → Group → FilterRow → Result State Refusal
filter_planted s g service = do
  named ← number row.TRACK (filter_props s g service)
  asked ← asked_by s g service.kind (filter_props s g service)
  Ok (with_planted s g.place (OnTrack (unwrap_or named (current s)) asked.spec asked.first asked.last))

unfoldable pub plant_filter : State → Group → Result State Refusal
plant_filter s g = or_refuse g.place cause.UnknownService (filter_named (called g.arg).id) >>= filter_planted s g

-- ---- which tracks a merge is planted on

-- two tracks, from a position to another
pub record Crossing : Type 0 where
  pub a : ℕ
  pub b : ℕ
  pub first : ℕ
  pub last : Option ℕ

-- b is the current track where it isn't given, and a the one below b
unfoldable pub crossing : State → List Prop → Result Crossing Refusal
crossing s props = do
  a ← number row.A_TRACK props
  b ← number row.B_TRACK props
  first ← moment_or_first row.IN s.profile props
  last ← moment row.OUT s.profile props
  Ok (record { a = unwrap_or a (unwrap_or b (current s) - 1); b = unwrap_or b (current s); first = first; last = last })
