-- Entries that are kept one after another, neighbouring gaps as one.
use Rattle.std.specs.Prelude.{ℕ, ◌+◌, ◌≡◌, List, [], ◌∷◌, ◌++◌, map, take, drop, Option, None, Some, slice_index_or}
use Rattle.mlt_tree.specs.declared.entry.Entry.{Entry}
use Rattle.mlt_tree.specs.declared.entry.Entry.TheVariants.{Clip, Gap}
use Rattle.mlt_tree.specs.Edits.{before_gap, gaps_merged}
use Rattle.mlt_tree.specs.Ranges.{frames}

-- the frames of two gaps together
abbrev pub both_gaps : Entry → Entry → Option ℕ
both_gaps (Gap n) (Gap m) = Some (n + m)
both_gaps (Gap n) (Clip unit s filters) = None
both_gaps (Clip unit s filters) e = None

-- one more entry behind a list, as one gap with the last one where both are gaps
abbrev pub pushed : List Entry → Entry → List Entry
pushed [] entry = entry ∷ []
pushed (e ∷ []) entry = before_gap e (entry ∷ [])
pushed (e ∷ f ∷ es) entry = e ∷ pushed (f ∷ es) entry

-- one more entry of a list behind others
abbrev pub pushed_at : List Entry → List Entry → ℕ → List Entry
pushed_at kept es at = pushed kept (slice_index_or es at (Gap 0))

-- how many frames the gap has that a list begins with, if it begins with one
abbrev pub first_gap : List Entry → ℕ
first_gap [] = 0
first_gap (Gap n ∷ es) = n
first_gap (Clip unit s filters ∷ es) = 0

-- the numbers of frames of a list whose gaps are merged from an index on, and those of the gap there
pub record IsMergedFrom (es : List Entry) (at : ℕ) (ns : List ℕ) (n : ℕ) : Type 0 where
  pub starts : ns ≡ map frames (take at es ++ gaps_merged (drop at es))
  pub behind : n ≡ first_gap (gaps_merged (drop at es))
