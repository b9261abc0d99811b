-- What a composition is, and how long it is.
use Rattle.std.specs.Prelude.{ℕ, ◌+◌, ◌-◌, max, List}
use Rattle.mlt_tree.specs.declared.tree.Attached.{Attached}
use Rattle.mlt_tree.specs.declared.tree.Hide.{Hide}
use Rattle.mlt_tree.specs.declared.tree.Plant.{Plant}
use Rattle.mlt_tree.specs.declared.tree.SourceKind.{SourceKind}

mutual
  -- a composition, or a piece of one
  pub data Tree : Type 0 where
    -- a source by its number and kind, and how many frames it has
    Src : (source : ℕ) (kind : SourceKind) (frames : ℕ) → Tree
    -- frames with nothing
    Blank : (frames : ℕ) → Tree
    -- a cut: the frames of the inner tree from first to last
    Part : Tree → (first last : ℕ) → Tree
    -- one after another
    Seq : Parts → Tree
    -- filters on the whole, in order
    With : Tree → List Attached → Tree
    -- tracks over each other, the later ones above, with what is planted on them, in order
    Rows : Tracks → List Plant → Tree

  pub data Parts : Type 0 where
    End : Parts
    Then : Tree → Parts → Parts

  pub data Tracks : Type 0 where
    NoTrack : Tracks
    Track : Tree → Hide → Tracks → Tracks

abbrev mutual
  -- how many frames a tree has
  pub len : Tree → ℕ
  len (Src source kind frames) = frames
  len (Blank frames) = frames
  len (Part t first last) = last + 1 - first
  len (Seq parts) = len_in parts
  len (With t filters) = len t
  len (Rows tracks plants) = longest tracks

  pub len_in : Parts → ℕ
  len_in End = 0
  len_in (Then t parts) = len t + len_in parts

  pub longest : Tracks → ℕ
  longest NoTrack = 0
  longest (Track t hide tracks) = max (len t) (longest tracks)
