-- The tracks of a tractor that is not made yet.
use Rattle.std.specs.Prelude.{ℕ, ◌≡◌, ◌≤◌, ◌<◌, ◌^◌, length, All, Option, IfSome, Result, Ok, Err}
use Rattle.mlt_base.specs.declared.faults.PlayFault.{PlayFault}
use Rattle.mlt_base.specs.declared.refusal.Try.{Try}
use Rattle.mlt_base.specs.declared.refusal.Try.TheVariants.{Fault, Memory}
use Rattle.mlt_base.specs.declared.limits.TheConstants.{MOST_TRACKS}
use Rattle.mlt_tree.specs.declared.draft.Draft.{Draft}
use Rattle.mlt_tree.specs.declared.draft.Pending.{Pending}
use Rattle.mlt_tree.specs.declared.draft.PendingPlant.{PendingPlant}
use Rattle.mlt_tree.specs.declared.draft.PendingPlant.TheVariants.{OnTrack, Between}
use Rattle.mlt_tree.specs.Ranges.{IsFilter, IsMerge}
use Rattle.mlt_tree.specs.Units.{Level}
use Rattle.mlt_playlist.specs.Playlist.{IsList}

-- positions from the first on: a last one, where it is given, is not before the first, and is below 2^31
abbrev pub IsOpenSpan : (first : ℕ) → Option ℕ → Type 0
IsOpenSpan first last = IfSome last (λ end. (first ≤ end) × (end < 2 ^ 31))

-- a filter in its range, at such positions
pub record IsPending (filter : Pending) : Type 0 where
  pub spec : IsFilter filter.spec
  pub span : IsOpenSpan filter.first filter.last

-- a filter or a merge in its range, at such positions
abbrev pub IsPlanned : PendingPlant → Type 0
IsPlanned (OnTrack track spec first last) = IsFilter spec × IsOpenSpan first last
IsPlanned (Between a b spec first last) = IsMerge spec × IsOpenSpan first last

-- a playlist's entries, and filters that can act on them
pub record IsFinished (draft : Draft) : Type 0 where
  pub list : IsList draft.entries
  pub filters : All IsPending draft.filters

-- only so many tracks, with filters that can act on them; plants in their ranges, which a u32 can number
pub record IsLevel (level : Level) : Type 0 where
  pub few : length level.closed < MOST_TRACKS
  pub closed : All IsFinished level.closed
  pub filters : All IsPending level.current.filters
  pub plants : All IsPlanned level.plants
  pub few_plants : length level.plants < 2 ^ 32

-- a call begins a track: it leaves the level with the track, or gives the refusal and leaves the level as it was,
-- as it also does where memory is wanted
abbrev pub Begins : Result Level PlayFault → (old new : Level) → Result (Unit {0}) (Try PlayFault) → Type 0
Begins track old new (Ok done) = track ≡ Ok new
Begins track old new (Err (Fault fault)) = (track ≡ Err fault) × (new ≡ old)
Begins track old new (Err Memory) = new ≡ old
