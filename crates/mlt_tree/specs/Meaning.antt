-- What a composition has at a position: its picture or its sound, or nothing.
use Rattle.std.specs.Prelude.{ℕ, ◌+◌, ◌-◌, ◌&&◌, nat_lt, if◌then◌else◌, List, [], ◌∷◌, fold, get_or, set, Option, None, Some}
use Rattle.std.specs.Option.{option_map}
use Rattle.mlt_tree.specs.declared.filter.FilterStep.{FilterStep}
use Rattle.mlt_tree.specs.declared.merge.MergeStep.{MergeStep}
use Rattle.mlt_tree.specs.declared.tree.Attached.{Attached}
use Rattle.mlt_tree.specs.declared.tree.Plant.{Plant}
use Rattle.mlt_tree.specs.declared.tree.Plant.TheVariants.{OnTrack, Between}
use Rattle.mlt_tree.specs.Acting.{holds, passed, span_frames, filter_step, merge_step}
use Rattle.mlt_tree.specs.Medium.{Medium, makes, hides, merges}
use Rattle.mlt_tree.specs.Tree.{Tree, Parts, Tracks, Src, Blank, Part, Seq, With, Rows, End, Then, NoTrack, Track, len}

-- what one medium is made of: what a source, by its number, has at a position; what a filter makes of it; and
-- what a merge makes of a row and one above it, of which the lower may have nothing. A filter of the other
-- medium leaves it as it is
pub record Matter (A : Type 0) : Type 0 where
  pub source : ℕ → ℕ → A
  pub filter : FilterStep → A → A
  pub merge : MergeStep → Option A → A → A

-- a filter acts where the position lies in its span
abbrev pub filtered_by : {A : Type 0} → Matter A → ℕ → A → Attached → A
filtered_by m n x f = if holds f.span n then m.filter (filter_step f.spec (passed f.span n)) x else x

-- what a row has that it is put into another, which has nothing afterwards
abbrev pub merged_into : {A : Type 0} → (Option A → A → A) → (a b : ℕ) → List (Option A) → Option A → List (Option A)
merged_into merge a b rows None = rows
merged_into merge a b rows (Some z) = set (set rows a (Some (merge (get_or rows a None) z))) b None

-- what a plant makes of the rows: a filter changes its row, where that has something; a merge of this medium
-- puts row b into row a, where b has something, and leaves b with nothing
abbrev pub planted : {A : Type 0} → Medium → Matter A → ℕ → List (Option A) → Plant → List (Option A)
planted v m n rows (OnTrack k spec span) =
    if holds span n then set rows k (option_map (m.filter (filter_step spec (passed span n))) (get_or rows k None)) else rows
planted v m n rows (Between a b spec span) =
    if holds span n && merges v spec then merged_into (m.merge (merge_step spec (passed span n) (span_frames span))) a b rows (get_or rows b None) else rows

-- the first, or what lies under it where there is nothing
abbrev pub or_under : {A : Type 0} → Option A → Option A → Option A
or_under None under = under
or_under (Some x) under = Some x

-- of rows, the highest-numbered one that has something, or nothing
abbrev pub shown : {A : Type 0} → List (Option A) → Option A
shown [] = None
shown (row ∷ rows) = or_under (shown rows) row

abbrev mutual
  -- what a tree has at position n, its picture or its sound, or nothing
  pub mean : {A : Type 0} → Medium → Matter A → Tree → ℕ → Option A
  mean v m (Src source kind frames) n = if makes v kind && nat_lt n frames then Some (m.source source n) else None
  mean v m (Blank frames) n = None
  mean v m (Part t first last) n = if nat_lt n (last + 1 - first) then mean v m t (first + n) else None
  mean v m (Seq parts) n = mean_in v m parts n
  mean v m (With t filters) n = option_map (λ x. fold (filtered_by m n) x filters) (mean v m t n)
  mean v m (Rows tracks plants) n = shown (fold (planted v m n) (rows v m tracks n) plants)

  -- the first part's where n lies in it, else that of the remaining parts at n less its length
  pub mean_in : {A : Type 0} → Medium → Matter A → Parts → ℕ → Option A
  mean_in v m End n = None
  mean_in v m (Then t parts) n = if nat_lt n (len t) then mean v m t n else mean_in v m parts (n - len t)

  -- each track's, nothing where it is hidden
  pub rows : {A : Type 0} → Medium → Matter A → Tracks → ℕ → List (Option A)
  rows v m NoTrack n = []
  rows v m (Track t hide tracks) n = (if hides v hide then None else mean v m t n) ∷ rows v m tracks n
