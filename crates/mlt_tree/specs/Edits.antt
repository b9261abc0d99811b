-- Edits of a playlist: each gives its answer and the new list, or why it is refused, by take, drop and
-- append of lists alone. Where more than one refusal holds, the one that is tested first here counts.
use Rattle.std.specs.Prelude.{ℕ, ◌+◌, ◌-◌, ◌^◌, ℤ, pos, negsuc, Bool, ◌&&◌, nat_le, nat_lt, min, if◌then◌else◌, List, [], ◌∷◌, ◌++◌, length, take, drop, map, replicate, sum_by, slice_get, Option, None, Some, Result, Ok, Err}
use Rattle.mlt_base.specs.Reading.{held}
use Rattle.mlt_base.specs.Span.{span}
use Rattle.mlt_base.specs.Walk.{walk}
use Rattle.mlt_base.specs.declared.faults.PlayFault.{PlayFault}
use Rattle.mlt_base.specs.declared.faults.PlayFault.TheVariants.{BadClip, BadSplit, BadRange, TooFew, TooMany, TooLong}
use Rattle.mlt_base.specs.declared.limits.TheConstants.{MOST_ENTRIES}
use Rattle.mlt_tree.specs.declared.entry.Entry.{Entry}
use Rattle.mlt_tree.specs.declared.entry.Entry.TheVariants.{Clip, Gap}
use Rattle.mlt_tree.specs.declared.tree.Attached.{Attached}
use Rattle.mlt_tree.specs.Ranges.{frames}

-- what an edit answers, and the list that it leaves; or its refusal, and then the list stays
abbrev pub Edited : Type 0 → Type 0
Edited A = Result (A × List Entry) PlayFault

-- how many frames the entries have together
abbrev pub frames_in : List Entry → ℕ
frames_in es = sum_by frames es

-- the frames of a unit from first to last
abbrev pub clip : (unit first last : ℕ) → List Attached → Entry
clip unit first last filters = Clip (record { 0 = unit }) (span first last) filters

-- the frames of an entry from a to before b, with the filters as they are
abbrev pub cut : Entry → (a b : ℕ) → Entry
cut (Clip unit s filters) a b = clip unit.0 (s.first.0 + a) (s.first.0 + b - 1) filters
cut (Gap count) a b = Gap (b - a)

-- the list with new entries in place of n from an index on
abbrev pub replaced : List Entry → (at n : ℕ) → List Entry → List Entry
replaced es at n new = take at es ++ (new ++ drop (at + n) es)

-- a list that may have grown: not too many entries, and not too many frames
abbrev pub grown : {A : Type 0} → A → List Entry → Edited A
grown answer es =
    if nat_lt MOST_ENTRIES (length es) then Err (TooMany MOST_ENTRIES) else (if nat_lt (frames_in es) (2 ^ 31) then Ok (answer, es) else Err (TooLong (frames_in es)))

-- no entry, or no clip, is there
abbrev pub bad_clip : {A : Type 0} → List Entry → ℕ → Edited A
bad_clip es at = Err (BadClip (held at) (length es))

-- what is done with the entry at an index
abbrev pub with_entry : {A : Type 0} → List Entry → ℕ → (Entry → Edited A) → Edited A
with_entry {A} es at act = by (slice_get es at) where
  by : Option Entry → Edited A
  by None = bad_clip es at
  by (Some e) = act e

abbrev pub append : Entry → List Entry → Edited (Unit {0})
append entry es = grown tt (es ++ entry ∷ [])

abbrev pub append_io : (unit length first last : ℕ) → List Entry → Edited (Unit {0})
append_io unit length first last es =
    if nat_le first last && nat_lt last length then append (clip unit first last []) es else Err (BadRange first last length)

-- a gap of last + 1 frames
abbrev pub blank : ℕ → List Entry → Edited (Unit {0})
blank last es = append (Gap (last + 1)) es

abbrev pub insert : ℕ → Entry → List Entry → Edited (Unit {0})
insert at entry es =
    if nat_le at (length es) then grown tt (replaced es at 0 (entry ∷ [])) else bad_clip es at

-- the entry is handed out
abbrev pub remove : ℕ → List Entry → Edited Entry
remove at es = with_entry es at (λ e. Ok (e, replaced es at 1 []))

-- taken out, and put in again at an index of the list without it
abbrev pub move_clip : (from to : ℕ) → List Entry → Edited (Unit {0})
move_clip from to es =
    with_entry es from (λ e. if nat_lt to (length es) then Ok (tt, replaced (replaced es from 1 []) to 0 (e ∷ [])) else bad_clip es to)

-- the span of a clip becomes first to last, within the length; a gap gets as many frames
abbrev pub resize_clip : (at first last length : ℕ) → List Entry → Edited (Unit {0})
resize_clip at first last length es = with_entry es at resized where
  resized : Entry → Edited (Unit {0})
  resized (Clip unit s filters) =
      if nat_le first last && nat_lt last length then grown tt (replaced es at 1 (clip unit.0 first last filters ∷ [])) else Err (BadRange first last length)
  resized (Gap count) =
      if nat_le first last then grown tt (replaced es at 1 (Gap (last + 1 - first) ∷ [])) else Err (BadRange first last length)

-- an entry as its first so many frames, and the rest
abbrev pub halves : Entry → ℕ → List Entry
halves e count = cut e 0 count ∷ cut e count (frames e) ∷ []

-- how many frames come before a split at k, counted from the end where k is below 0; both halves have some
abbrev pub before_split : ℕ → ℤ → Option ℕ
before_split count (pos k) = if nat_lt (k + 1) count then Some (k + 1) else None
before_split count (negsuc k) = if nat_lt (k + 1) count then Some (count - 1 - k) else None

-- frames 0 to k, then the rest
abbrev pub split : ℕ → ℤ → List Entry → Edited (Unit {0})
split at k es = with_entry es at (λ e. by e (before_split (frames e) k)) where
  by : Entry → Option ℕ → Edited (Unit {0})
  by e None = Err (BadSplit k (frames e))
  by e (Some count) = grown tt (replaced es at 1 (halves e count))

-- the entries of the first n frames, the last one cut where n lies in it
abbrev pub first_frames : List Entry → ℕ → List Entry
first_frames [] n = []
first_frames (e ∷ es) n =
    if nat_le (frames e) n then e ∷ first_frames es (n - frames e) else (if nat_lt 0 n then cut e 0 n ∷ [] else [])

-- the entries of the frames from n on, the first one cut where n lies in it
abbrev pub frames_from : List Entry → ℕ → List Entry
frames_from [] n = []
frames_from (e ∷ es) n =
    if nat_le (frames e) n then frames_from es (n - frames e) else (if nat_lt 0 n then cut e n (frames e) ∷ es else e ∷ es)

-- cut so that an entry starts at a position; its index
abbrev pub split_at : ℕ → List Entry → Edited ℕ
split_at at es =
    if nat_le at (frames_in es) then grown (length (first_frames es at)) (first_frames es at ++ frames_from es at) else Err (BadRange at at (frames_in es))

-- too few of the entries from an index on
abbrev pub too_few : {A : Type 0} → List Entry → (at asked : ℕ) → Edited A
too_few es at asked = Err (TooFew asked (length es - at))

-- n entries become one clip of a unit that is made of them; they are handed out
abbrev pub join : (at n unit : ℕ) → List Entry → Edited (List Entry)
join at n unit es = by (take n (drop at es)) where
  by : List Entry → Edited (List Entry)
  by joined =
      if nat_lt 0 n && nat_le (at + n) (length es) then Ok (joined, replaced es at n (clip unit 0 (frames_in joined - 1) [] ∷ [])) else too_few es at (held n)

-- what a mix is made of: the last frames of one entry, the first of the next, and how many
pub record Mixed : Type 0 where
  pub a : Entry
  pub b : Entry
  pub frames : ℕ

-- two entries overlap by n frames, or as many as the shorter one has: the first without them, a clip of
-- the unit that is made of them, the second without them, none of them without a frame
abbrev pub mixed_of : (unit m : ℕ) → (a b : Entry) → List Entry
mixed_of unit m a b =
    (if nat_lt m (frames a) then cut a 0 (frames a - m) ∷ [] else []) ++ (clip unit 0 (m - 1) [] ∷ (if nat_lt m (frames b) then cut b m (frames b) ∷ [] else []))

abbrev pub mixed_parts : ℕ → (a b : Entry) → Mixed
mixed_parts m a b = record { a = cut a (frames a - m) (frames a); b = cut b 0 m; frames = m }

abbrev pub mix : (at n unit : ℕ) → List Entry → Edited Mixed
mix at n unit es = by (drop at es) where
  by : List Entry → Edited Mixed
  by [] = too_few es at 2
  by (a ∷ []) = too_few es at 2
  by (a ∷ b ∷ rest) =
      let m = min n (min (frames a) (frames b)) in grown (mixed_parts m a b) (replaced es at 2 (mixed_of unit m a b))

abbrev pub repeat_clip : (at n : ℕ) → List Entry → Edited (Unit {0})
repeat_clip at n es = with_entry es at (λ e. grown tt (replaced es at 1 (replicate n e)))

abbrev pub insert_blank : (at last : ℕ) → List Entry → Edited (Unit {0})
insert_blank at last es = insert at (Gap (last + 1)) es

-- the entry is handed out
abbrev pub replace_with_blank : ℕ → List Entry → Edited Entry
replace_with_blank at es = with_entry es at (λ e. Ok (e, replaced es at 1 (Gap (frames e) ∷ [])))

-- an entry before a list, as one gap where both begin with one
abbrev pub before_gap : Entry → List Entry → List Entry
before_gap (Gap n) (Gap m ∷ es) = Gap (n + m) ∷ es
before_gap (Gap n) [] = Gap n ∷ []
before_gap (Gap n) (Clip unit s filters ∷ es) = Gap n ∷ Clip unit s filters ∷ es
before_gap (Clip unit s filters) es = Clip unit s filters ∷ es

-- neighbouring gaps as one
abbrev pub gaps_merged : List Entry → List Entry
gaps_merged [] = []
gaps_merged (e ∷ es) = before_gap e (gaps_merged es)

-- without a gap at the end
abbrev pub without_last_gap : List Entry → List Entry
without_last_gap [] = []
without_last_gap (Gap n ∷ []) = []
without_last_gap (Gap n ∷ e ∷ es) = Gap n ∷ without_last_gap (e ∷ es)
without_last_gap (Clip unit s filters ∷ es) = Clip unit s filters ∷ without_last_gap es

abbrev pub consolidate_blanks : Bool → List Entry → Edited (Unit {0})
consolidate_blanks keep es = Ok (tt, if keep then gaps_merged es else without_last_gap (gaps_merged es))

-- without n frames from a position on
abbrev pub remove_region : (at n : ℕ) → List Entry → Edited (Unit {0})
remove_region at n es =
    if nat_lt 0 n && nat_le (at + n) (frames_in es) then grown tt (first_frames es at ++ frames_from es (at + n)) else Err (BadRange at (held (at + n - min n 1)) (frames_in es))

-- at a position, behind a gap where that lies past the end
abbrev pub insert_at : ℕ → Entry → List Entry → Edited (Unit {0})
insert_at at entry es =
    if nat_le at (frames_in es) then grown tt (first_frames es at ++ (entry ∷ frames_from es at)) else grown tt (es ++ (Gap (at - frames_in es) ∷ entry ∷ []))

-- the last two entries the other way round
abbrev pub swap_last : List Entry → Edited (Unit {0})
swap_last es = by (drop (length es - 2) es) where
  by : List Entry → Edited (Unit {0})
  by [] = too_few es 0 2
  by (a ∷ []) = too_few es 0 2
  by (a ∷ b ∷ rest) = Ok (tt, take (length es - 2) es ++ (b ∷ a ∷ []))

-- a filter behind those of a clip
abbrev pub attach : ℕ → Attached → List Entry → Edited (Unit {0})
attach at filter es = with_entry es at attached where
  attached : Entry → Edited (Unit {0})
  attached (Clip unit s filters) = Ok (tt, replaced es at 1 (Clip unit s (filters ++ filter ∷ []) ∷ []))
  attached (Gap count) = bad_clip es at

-- the entry that has a position, and the place in it
abbrev pub clip_at : List Entry → ℕ → Option (ℕ × ℕ)
clip_at es at = walk (map frames es) at
