-- The parts of two entries that overlap, and what is left of them.
use Rattle.std.specs.Prelude.{ℕ, ◌-◌, nat_lt, if◌then◌else◌, List, [], ◌∷◌, Option, Some, None, Result, Ok, Err}
use Rattle.mlt_base.specs.declared.faults.PlayFault.{PlayFault}
use Rattle.mlt_base.specs.declared.refusal.Try.{Try}
use Rattle.mlt_tree.specs.declared.entry.Entry.{Entry}
use Rattle.mlt_tree.specs.Edits.{Mixed, cut}
use Rattle.mlt_tree.specs.Ranges.{frames}
use Rattle.mlt_playlist.specs.declared.playlist.MixParts.{MixParts}
use Rattle.mlt_playlist.specs.Parts.{mixed_view}

-- the last frames of an entry that has more, and the first
abbrev pub last_part : Entry → ℕ → Option Entry
last_part e n = if nat_lt n (frames e) then Some (cut e (frames e - n) (frames e)) else None

abbrev pub first_part : Entry → ℕ → Option Entry
first_part e n = if nat_lt n (frames e) then Some (cut e 0 n) else None

-- an entry without its last frames, and without its first, if any are left
abbrev pub without_last : Entry → ℕ → List Entry
without_last e n = if nat_lt n (frames e) then cut e 0 (frames e - n) ∷ [] else []

abbrev pub without_first : Entry → ℕ → List Entry
without_first e n = if nat_lt n (frames e) then cut e n (frames e) ∷ [] else []

-- what a mix answers, with the parts as its meaning names them
abbrev pub answer_of : Result MixParts (Try PlayFault) → Result Mixed (Try PlayFault)
answer_of (Ok parts) = Ok (mixed_view parts)
answer_of (Err e) = Err e
