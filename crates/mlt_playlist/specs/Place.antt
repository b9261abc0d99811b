-- Where a position lies in a list of entries, and an entry that is cut there.
use Rattle.std.specs.Prelude.{ℕ, ◌+◌, ◌^◌, ◌≡◌, ◌≤◌, ◌<◌, min, nat_lt, if◌then◌else◌, List, [], ◌∷◌, ◌++◌, length, map, take, drop, slice_index_or, Result, Ok, Err}
use Rattle.mlt_base.specs.declared.faults.PlayFault.{PlayFault}
use Rattle.mlt_base.specs.declared.faults.PlayFault.TheVariants.{TooMany, TooLong}
use Rattle.mlt_base.specs.declared.limits.TheConstants.{MOST_ENTRIES}
use Rattle.mlt_tree.specs.declared.entry.Entry.{Entry}
use Rattle.mlt_tree.specs.declared.entry.Entry.TheVariants.{Gap}
use Rattle.mlt_tree.specs.Ranges.{frames}
use Rattle.mlt_tree.specs.Edits.{cut, frames_in, first_frames, frames_from}

-- the entry at an index of a list that has one there
abbrev pub entry_at : List Entry → ℕ → Entry
entry_at es at = slice_index_or es at (Gap 0)

-- the frames of an entry before a place, and those from there on, of an entry that is cut
abbrev pub before : Entry → ℕ → List Entry
before e place = if nat_lt 0 place then cut e 0 place ∷ [] else []

abbrev pub rest : Entry → ℕ → List Entry
rest e place = if nat_lt 0 place then cut e place (frames e) ∷ [] else []

-- a list without what stands from a place in an entry to before one in a later, or in it if none stays
abbrev pub without_part : List Entry → (from first to last : ℕ) → List Entry
without_part es from first to last =
    take from es ++ (before (entry_at es from) first ++ (rest (entry_at es to) last ++ drop (to + min last 1) es))

-- a position of a list: so many entries stand before it, and so many frames of the next one
pub record IsAt (es : List Entry) (position index place : ℕ) : Type 0 where
  pub within : index ≤ length es
  pub there : 0 < place → index < length es
  pub inside : 0 < place → place < frames (entry_at es index)
  pub counted : position ≡ frames_in (take index es) + place
  pub first : first_frames es position ≡ take index es ++ before (entry_at es index) place
  pub from : frames_from es position ≡ rest (entry_at es index) place ++ drop (index + min place 1) es

-- an entry in two: its frames before a place, other entries, and its frames from a place on
abbrev pub divided : Entry → (place from : ℕ) → List Entry → List Entry
divided e place from between = cut e 0 place ∷ (between ++ cut e from (frames e) ∷ [])

-- the numbers of frames of such entries
abbrev pub divided_numbers : (first : ℕ) → List Entry → (last : ℕ) → List ℕ
divided_numbers first between last = first ∷ (map frames between ++ last ∷ [])

-- the number of frames of a list with so many entries and frames, or why there is no such list
abbrev pub sized : (count frames : ℕ) → Result ℕ PlayFault
sized count frames =
    if nat_lt MOST_ENTRIES count then Err (TooMany MOST_ENTRIES) else (if nat_lt frames (2 ^ 31) then Ok frames else Err (TooLong frames))
