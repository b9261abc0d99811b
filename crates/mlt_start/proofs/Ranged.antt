-- Where the filters and plants of all units are in their ranges, so are those of trees, and the operations of these.
use Rattle.std.proofs.Common.{ℕ, ◌≡◌, ◌-◌, ◌+◌, ◌<◌, Bool, true, false, ◌&&◌, ltb, cond, List, [], ◌∷◌, None, Some, All, refl, arith}
use Rattle.std.proofs.lemmas.Bool.Decides.{nat_tests}
use Rattle.std.proofs.lemmas.List.Elements.{All-nil, All-cons, All-append, recursion_from_All}
use Rattle.std.specs.List.{AllByRecursion, flat_map}
use Rattle.mlt_frame.specs.declared.op.Op.{Op}
use Rattle.mlt_frame.specs.declared.op.Op.TheVariants.{Filter, Merge}
use Rattle.mlt_frame.specs.Ranges.{IsInRange}
use Rattle.mlt_tree.specs.declared.filter.FilterStep.{FilterStep}
use Rattle.mlt_tree.specs.declared.tree.Attached.{Attached}
use Rattle.mlt_tree.specs.declared.tree.Plant.{Plant}
use Rattle.mlt_tree.specs.declared.tree.Plant.TheVariants.{OnTrack, Between}
use Rattle.mlt_base.specs.declared.value.Span.{Span}
use Rattle.mlt_tree.specs.declared.merge.MergeStep.{MergeStep}
use Rattle.mlt_tree.specs.Acting.{holds, passed, span_frames, filter_step, merge_step}
use Rattle.mlt_tree.specs.Medium.{Medium, makes, hides, merges}
use Rattle.mlt_tree.specs.Ranges.{IsAttached, IsPlant, IsFilterStep, IsMergeStep}
use Rattle.mlt_tree.specs.Tree.{Tree, Parts, Tracks, Src, Blank, Part, Seq, With, Rows, End, Then, NoTrack, Track, len}
use Rattle.mlt_tree.proofs.StepRanges.{filter_step-in_range, merge_step-in_range}
use Rattle.mlt_start.specs.Code.{merges_at, plant_ops, code, code_in, rows_code, filter_ops, with_filters, load_of, or_absent}
use Rattle.mlt_start.proofs.Counted.{Where, where-cond, where-map, EachWhere, rows-all, filled-named}

abbrev mutual
  -- a tree whose filters and plants are in their ranges
  pub IsRanged : Tree → Type 0
  IsRanged (Src source kind frames) = Unit {0}
  IsRanged (Blank frames) = Unit {0}
  IsRanged (Part t first last) = IsRanged t
  IsRanged (Seq parts) = AreRangedParts parts
  IsRanged (With t filters) = IsRanged t × All IsAttached filters
  IsRanged (Rows tracks plants) = AreRangedTracks tracks × AllByRecursion IsPlant plants

  pub AreRangedParts : Parts → Type 0
  AreRangedParts End = Unit {0}
  AreRangedParts (Then t parts) = IsRanged t × AreRangedParts parts

  pub AreRangedTracks : Tracks → Type 0
  AreRangedTracks NoTrack = Unit {0}
  AreRangedTracks (Track t hide tracks) = IsRanged t × AreRangedTracks tracks

-- ---- their operations

abbrev AreInRange : List Op → Type 0
AreInRange ops = All IsInRange ops

filter-in_range : (t : Bool) (depth : ℕ) (step : FilterStep) → IsFilterStep step → AreInRange (cond t (Filter depth step ∷ []) [])
filter-in_range true depth step h = All-cons IsInRange (Filter depth step) [] h (All-nil IsInRange)
filter-in_range false depth step h = All-nil IsInRange

filters-in_range : (n : ℕ) (filters : List Attached) → AllByRecursion IsAttached filters → AreInRange (flat_map (filter_ops n) filters)
filters-in_range n [] h = All-nil IsInRange
filters-in_range n (f ∷ filters) h =
    let step = filter_step f.spec (passed f.span n) in
    All-append IsInRange (filter_ops n f) (flat_map (filter_ops n) filters)
    (filter-in_range (holds f.span n) 0 step (filter_step-in_range f.spec (passed f.span n) h.0.0))
    (filters-in_range n filters h.1)

with_filters-in_range : (n : ℕ) (filters : List Attached) → All IsAttached filters → (ops : List Op) → AreInRange ops → AreInRange (with_filters n filters ops)
with_filters-in_range n filters h ops in_range =
    All-append IsInRange ops (flat_map (filter_ops n) filters) in_range (filters-in_range n filters (recursion_from_All IsAttached filters h))

-- so many frames of its span have passed at a position in it
passed-most : (span : Span) (n : ℕ) → holds span n ≡ true → passed span n < span_frames span
passed-most span n is = grind (arith, nat_tests)

first-holds : (s t : Bool) → (s && t) ≡ true → s ≡ true
first-holds true t is = refl
first-holds false t is = is

merge-in_range : (t : Bool) (i j : ℕ) (step : MergeStep) → (t ≡ true → IsMergeStep step) → AreInRange (cond t (Merge i j step ∷ []) [])
merge-in_range true i j step h = All-cons IsInRange (Merge i j step) [] (h refl) (All-nil IsInRange)
merge-in_range false i j step h = All-nil IsInRange

plant-in_range : (v : Medium) (n : ℕ) (plant : Plant) → IsPlant plant → (count : ℕ) → AreInRange (plant_ops v n count plant)
plant-in_range v n (OnTrack k spec span) h count =
    filter-in_range (holds span n) (count - 1 - k) (filter_step spec (passed span n)) (filter_step-in_range spec (passed span n) h.0)
plant-in_range v n (Between a b spec span) h count =
    merge-in_range (merges_at v n spec span) (count - 1 - a) (count - 1 - b) (merge_step spec (passed span n) (span_frames span))
    (λ is. merge_step-in_range spec (passed span n) (span_frames span) (passed-most span n (first-holds (holds span n) (merges v spec) is)) h.0)

plants-in_range : (v : Medium) (n : ℕ) (plants : List Plant) → AllByRecursion IsPlant plants → AllByRecursion (λ plant. (count : ℕ) → AreInRange (plant_ops v n count plant)) plants
plants-in_range v n [] h = tt
plants-in_range v n (plant ∷ plants) h = (plant-in_range v n plant h.0, plants-in_range v n plants h.1)

mutual
  code-in_range : (v : Medium) (t : Tree) (n : ℕ) → IsRanged t → Where AreInRange (code v t n)
  code-in_range v (Src source kind frames) n h =
      where-cond AreInRange (makes v kind && ltb n frames) (Some (load_of source n ∷ [])) None (All-cons IsInRange (load_of source n) [] tt (All-nil IsInRange)) tt
  code-in_range v (Blank frames) n h = tt
  code-in_range v (Part t first last) n h =
      where-cond AreInRange (ltb n (last + 1 - first)) (code v t (first + n)) None (code-in_range v t (first + n) h) tt
  code-in_range v (Seq parts) n h = code_in-in_range v parts n h
  code-in_range v (With t filters) n h =
      where-map AreInRange AreInRange (with_filters n filters) (with_filters-in_range n filters h.1) (code v t n) (code-in_range v t n h.0)
  code-in_range v (Rows tracks plants) n h =
      rows-all IsInRange tt (λ row count. tt) v n (rows_code v tracks n) plants (rows-in_range v tracks n h.0) (plants-in_range v n plants h.1)

  code_in-in_range : (v : Medium) (parts : Parts) (n : ℕ) → AreRangedParts parts → Where AreInRange (code_in v parts n)
  code_in-in_range v End n h = tt
  code_in-in_range v (Then t parts) n h =
      where-cond AreInRange (ltb n (len t)) (code v t n) (code_in v parts (n - len t)) (code-in_range v t n h.0) (code_in-in_range v parts (n - len t) h.1)

  rows-in_range : (v : Medium) (tracks : Tracks) (n : ℕ) → AreRangedTracks tracks → EachWhere AreInRange (rows_code v tracks n)
  rows-in_range v NoTrack n h = tt
  rows-in_range v (Track t hide tracks) n h =
      (where-cond AreInRange (hides v hide) None (code v t n) tt (code-in_range v t n h.0), rows-in_range v tracks n h.1)

pub or_absent-in_range : (v : Medium) (t : Tree) → IsRanged t → (n : ℕ) → All IsInRange (or_absent (code v t n))
or_absent-in_range v t h n = filled-named IsInRange (code v t n) tt (code-in_range v t n h)
