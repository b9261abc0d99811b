-- What a playlist is, and what a call does that edits one.
use Rattle.std.specs.Prelude.{ℕ, ◌≡◌, ◌≤◌, ◌<◌, ◌^◌, List, All, length, map, Result, Ok, Err}
use Rattle.mlt_base.specs.declared.faults.PlayFault.{PlayFault}
use Rattle.mlt_base.specs.declared.faults.PlayFault.TheVariants.{TooLong}
use Rattle.mlt_base.specs.declared.refusal.Try.{Try}
use Rattle.mlt_base.specs.declared.refusal.Try.TheVariants.{Fault, Memory}
use Rattle.mlt_base.specs.declared.limits.TheConstants.{MOST_ENTRIES}
use Rattle.mlt_tree.specs.declared.entry.Entry.{Entry}
use Rattle.mlt_tree.specs.Edits.{Edited, frames_in, grown}
use Rattle.mlt_tree.specs.Ranges.{IsEntry, frames}

-- the entries of a playlist: each in its range, not too many, and not too many frames
pub record IsList (es : List Entry) : Type 0 where
  pub entries : All IsEntry es
  pub few : length es ≤ MOST_ENTRIES
  pub short : frames_in es < 2 ^ 31

-- a list beside its entries' numbers of frames, in order
pub record IsIndexed (es : List Entry) (ns : List ℕ) : Type 0 where
  pub list : IsList es
  pub starts : ns ≡ map frames es

-- a list beside the number of its frames
pub record IsCounted (es : List Entry) (frames : ℕ) : Type 0 where
  pub list : IsList es
  pub counted : frames ≡ frames_in es

-- a call does an edit: it gives the edit's answer and leaves its list, or gives its refusal and leaves
-- the list as it was, as it also does where memory is wanted
abbrev pub Does : {A : Type 0} → Edited A → (old new : List Entry) → Result A (Try PlayFault) → Type 0
Does edit old new (Ok x) = edit ≡ Ok (x, new)
Does edit old new (Err (Fault fault)) = (edit ≡ Err fault) × (new ≡ old)
Does edit old new (Err Memory) = new ≡ old

-- a call that takes no memory does an edit
abbrev pub DoesAlways : {A : Type 0} → Edited A → (old new : List Entry) → Result A PlayFault → Type 0
DoesAlways edit old new (Ok x) = edit ≡ Ok (x, new)
DoesAlways edit old new (Err fault) = (edit ≡ Err fault) × (new ≡ old)

-- a number of frames as that of a list, or why no list has so many
abbrev pub IsLength : ℕ → Result ℕ PlayFault → Type 0
IsLength frames (Ok length) = (frames < 2 ^ 31) × (length ≡ frames)
IsLength frames (Err fault) = (2 ^ 31 ≤ frames) × (fault ≡ TooLong frames)

-- a list that may have grown is a playlist again, and this is the number of its frames; or it is refused
abbrev pub IsTested : List Entry → Result ℕ PlayFault → Type 0
IsTested es (Ok frames) = (length es ≤ MOST_ENTRIES) × (frames_in es < 2 ^ 31) × (frames ≡ frames_in es)
IsTested es (Err fault) = grown (tt {0}) es ≡ Err fault
