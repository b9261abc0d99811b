-- The operations that make what a tree has at a position. A tree that has nothing there has no operations.
use Rattle.std.specs.Prelude.{ℕ, ◌+◌, ◌-◌, ◌&&◌, nat_lt, nat_eq, Bool, true, false, if◌then◌else◌, is_some, List, [], ◌∷◌, ◌++◌, length, map, fold, get_or, set, Option, None, Some}
use Rattle.std.specs.List.{flat_map, list_any}
use Rattle.std.specs.Option.{option_map}
use Rattle.mlt_frame.specs.declared.op.Op.{Op}
use Rattle.mlt_frame.specs.declared.op.Op.TheVariants.{Load, Absent, Filter, Merge, Keep}
use Rattle.mlt_base.specs.declared.value.Span.{Span}
use Rattle.mlt_tree.specs.declared.merge.MergeSpec.{MergeSpec}
use Rattle.mlt_tree.specs.declared.tree.Attached.{Attached}
use Rattle.mlt_tree.specs.declared.tree.Plant.{Plant}
use Rattle.mlt_tree.specs.declared.tree.Plant.TheVariants.{OnTrack, Between}
use Rattle.mlt_tree.specs.Acting.{holds, passed, span_frames, filter_step, merge_step}
use Rattle.mlt_tree.specs.Meaning.{shown}
use Rattle.mlt_tree.specs.Medium.{Medium, makes, hides, merges}
use Rattle.mlt_tree.specs.Tree.{Tree, Parts, Tracks, Src, Blank, Part, Seq, With, Rows, End, Then, NoTrack, Track, len}

abbrev pub load_of : (source n : ℕ) → Op
load_of source n = Load (record { 0 = source }) (record { 0 = n })

-- a filter acts on the top register where the position lies in its span
abbrev pub filter_ops : ℕ → Attached → List Op
filter_ops n f = if holds f.span n then Filter 0 (filter_step f.spec (passed f.span n)) ∷ [] else []

-- operations, and then those of filters
abbrev pub with_filters : ℕ → List Attached → List Op → List Op
with_filters n filters ops = ops ++ flat_map (filter_ops n) filters

-- the operations, if there are any
abbrev pub or_empty : Option (List Op) → List Op
or_empty None = []
or_empty (Some ops) = ops

-- what makes one register, be there something or not
abbrev pub or_absent : Option (List Op) → List Op
or_absent None = Absent ∷ []
or_absent (Some ops) = ops

-- ---- plants

-- whether a merge of two rows is one of the medium, and its span has the position
abbrev pub merges_at : Medium → ℕ → MergeSpec → Span → Bool
merges_at v n spec span = holds span n && merges v spec

-- whether a plant acts
abbrev pub acts : Medium → ℕ → Plant → Bool
acts v n (OnTrack k spec span) = holds span n
acts v n (Between a b spec span) = merges_at v n spec span

-- whether a row is moved by a merge: row b is, where it has something
abbrev pub moves : Medium → ℕ → List Bool → (b : ℕ) → MergeSpec → Span → Bool
moves v n has b spec span = merges_at v n spec span && get_or has b false

-- which rows have something after a plant, by which have something before it
abbrev pub has_after : Medium → ℕ → List Bool → Plant → List Bool
has_after v n has (OnTrack k spec span) = has
has_after v n has (Between a b spec span) = if moves v n has b spec span then set (set has a true) b false else has

-- the row that what row j has is in after a plant
abbrev pub goes : Medium → ℕ → List Bool → ℕ → Plant → ℕ
goes v n has j (OnTrack k spec span) = j
goes v n has j (Between a b spec span) = if moves v n has b spec span && nat_eq j b then a else j

-- and after all plants
abbrev pub ends_in : Medium → ℕ → List Bool → List Plant → ℕ → ℕ
ends_in v n has [] j = j
ends_in v n has (plant ∷ plants) j = ends_in v n (has_after v n has plant) plants (goes v n has j plant)

-- one row further up; the lowest where there is none above it, and it has something
abbrev pub higher : Bool → Option ℕ → Option ℕ
higher has (Some row) = Some (row + 1)
higher true None = Some 0
higher false None = None

-- the highest row that has something
abbrev pub highest : List Bool → Option ℕ
highest [] = None
highest (h ∷ has) = higher h (highest has)

-- ---- rows on which plants act: each row is a register, row 0 the lowest of them

-- the rows that are wanted, from a number on, and nothing for the others
abbrev pub row_ops : (wanted : ℕ → Bool) → (from : ℕ) → List (Option (List Op)) → List Op
row_ops wanted from [] = []
row_ops wanted from (row ∷ rows) = (if wanted from then or_absent row else Absent ∷ []) ++ row_ops wanted (from + 1) rows

-- a plant on so many registers
abbrev pub plant_ops : Medium → ℕ → (count : ℕ) → Plant → List Op
plant_ops v n count (OnTrack k spec span) =
    if holds span n then Filter (count - 1 - k) (filter_step spec (passed span n)) ∷ [] else []
plant_ops v n count (Between a b spec span) =
    if merges_at v n spec span then Merge (count - 1 - a) (count - 1 - b) (merge_step spec (passed span n) (span_frames span)) ∷ [] else []

-- one of so many registers stays
abbrev pub keep_ops : (count row : ℕ) → List Op
keep_ops count row = if nat_lt 1 count then Keep row count ∷ [] else []

-- what makes a row after the plants: the rows that end in it, the plants, and then it alone
abbrev pub planted_row : Medium → ℕ → List Plant → List (Option (List Op)) → (row : ℕ) → List Op
planted_row v n plants rows row =
    row_ops (λ j. nat_eq (ends_in v n (map is_some rows) plants j) row) 0 rows
    ++ (flat_map (plant_ops v n (length rows)) plants ++ keep_ops (length rows) row)

-- what makes the row that shows after the plants
abbrev pub planted_rows : Medium → ℕ → List Plant → List (Option (List Op)) → Option (List Op)
planted_rows v n plants rows =
    option_map (planted_row v n plants rows) (highest (fold (has_after v n) (map is_some rows) plants))

-- ---- trees

abbrev mutual
  -- what makes the top register of what a tree has at n; none where it has nothing
  pub code : Medium → Tree → ℕ → Option (List Op)
  code v (Src source kind frames) n = if makes v kind && nat_lt n frames then Some (load_of source n ∷ []) else None
  code v (Blank frames) n = None
  code v (Part t first last) n = if nat_lt n (last + 1 - first) then code v t (first + n) else None
  code v (Seq parts) n = code_in v parts n
  code v (With t filters) n = option_map (with_filters n filters) (code v t n)
  code v (Rows tracks plants) n =
      if list_any (acts v n) plants then planted_rows v n plants (rows_code v tracks n) else shown (rows_code v tracks n)

  pub code_in : Medium → Parts → ℕ → Option (List Op)
  code_in v End n = None
  code_in v (Then t parts) n = if nat_lt n (len t) then code v t n else code_in v parts (n - len t)

  -- of each track by itself
  pub rows_code : Medium → Tracks → ℕ → List (Option (List Op))
  rows_code v NoTrack n = []
  rows_code v (Track t hide tracks) n = (if hides v hide then None else code v t n) ∷ rows_code v tracks n
