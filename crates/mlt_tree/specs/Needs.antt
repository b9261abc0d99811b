-- The sources that a picture is made of. A merge's map is not one of them: it is no part of the picture, and is read
-- wherever the merge acts.
use Rattle.std.specs.Prelude.{ℕ, ◌+◌, ◌-◌, ◌&&◌, ◌≡◌, ◌≤◌, nat_lt, nat_eq, if◌then◌else◌, List, [], ◌∷◌, ◌++◌, fold, Option, None, Some}
use Rattle.std.specs.List.{list_any}
use Rattle.std.specs.Option.{option_map}
use Rattle.mlt_tree.specs.declared.tree.Plant.{Plant}
use Rattle.mlt_tree.specs.Meaning.{Matter, mean, rows, planted, shown}
use Rattle.mlt_tree.specs.Medium.{Pictures, Sounds, makes}
use Rattle.mlt_tree.specs.Tree.{Tree, Parts, Tracks, Src, Blank, Part, Seq, With, Rows, End, Then, NoTrack, Track, len}

-- whether there is something, whatever it looks like
abbrev pub presence : Matter (Unit {0})
presence = record { source = λ source n. tt; filter = λ step x. x; merge = λ step under x. x }

-- the rows of a set, below those of another
abbrev pub rows_joined : Option (List ℕ) → List ℕ → List ℕ
rows_joined None set = set
rows_joined (Some under) set = under ++ set

-- the rows that a row's picture is made of: filters leave them, and a merge joins them
abbrev pub row_sets : Matter (List ℕ)
row_sets = record { source = λ source n. []; filter = λ step set. set; merge = λ step. rows_joined }

-- from the given number on, each row that has something is made of itself alone
abbrev pub alone : {A : Type 0} → ℕ → List (Option A) → List (Option (List ℕ))
alone row [] = []
alone row (x ∷ rows) = option_map (λ _. row ∷ []) x ∷ alone (row + 1) rows

abbrev pub or_none : Option (List ℕ) → List ℕ
or_none None = []
or_none (Some set) = set

-- the rows that the shown picture is made of
abbrev pub rows_shown : Tracks → List Plant → ℕ → List ℕ
rows_shown tracks plants n = or_none (shown (fold (planted Pictures row_sets n) (alone 0 (rows Pictures presence tracks n)) plants))

abbrev mutual
  -- the sources whose pictures position n is made of, in order
  pub needs : Tree → ℕ → List ℕ
  needs (Src source kind frames) n = if makes Pictures kind && nat_lt n frames then source ∷ [] else []
  needs (Blank frames) n = []
  needs (Part t first last) n = if nat_lt n (last + 1 - first) then needs t (first + n) else []
  needs (Seq parts) n = needs_in parts n
  needs (With t filters) n = needs t n
  needs (Rows tracks plants) n = needs_of_rows (rows_shown tracks plants n) 0 tracks n

  pub needs_in : Parts → ℕ → List ℕ
  needs_in End n = []
  needs_in (Then t parts) n = if nat_lt n (len t) then needs t n else needs_in parts (n - len t)

  -- those of the rows in the set, in row order; the first track here has the given number
  pub needs_of_rows : List ℕ → ℕ → Tracks → ℕ → List ℕ
  needs_of_rows set row NoTrack n = []
  needs_of_rows set row (Track t hide tracks) n =
      (if list_any (nat_eq row) set then needs t n else []) ++ needs_of_rows set (row + 1) tracks n

-- past its length a tree has no picture and no sound, and needs no source
pub record IsSilentPast (t : Tree) (n : ℕ) : Type 0 where
  pub picture : (m : Matter (List ℕ)) → mean Pictures m t n ≡ None
  pub sound : (m : Matter (List (List ℕ))) → mean Sounds m t n ≡ None
  pub needs : needs t n ≡ []

abbrev pub EndsAtItsLength : Type 0
EndsAtItsLength = (t : Tree) (n : ℕ) → len t ≤ n → IsSilentPast t n
