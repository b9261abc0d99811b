-- The lists of entries that a unit is made of, as a Sealed keeps them.
use Rattle.std.specs.Prelude.{ℕ, ◌≡◌, ◌<◌, if◌then◌else◌, List, length, Option, None}
use Rattle.mlt_frame.specs.declared.op.Op.{Op}
use Rattle.mlt_tree.specs.declared.entry.Entry.{Entry}
use Rattle.mlt_tree.specs.declared.node.Node.{Node}
use Rattle.mlt_tree.specs.declared.node.Track.{Track}
use Rattle.mlt_tree.specs.Meaning.{shown}
use Rattle.mlt_tree.specs.Medium.{Medium, hides}
use Rattle.mlt_tree.specs.Tree.{Tree}
use Rattle.mlt_tree.specs.Units.{track_tree, tracks_of, hide_of}
use Rattle.mlt_graph.specs.Lists.{lists_of, list_of}
use Rattle.mlt_start.specs.Code.{code, rows_code}

-- these are the entries of a list of a unit, by their numbers
pub record IsListOf (nodes : List Node) (unit list : ℕ) (entries : List Entry) : Type 0 where
  pub there : list < length (lists_of nodes unit)
  pub are : list_of nodes unit list ≡ entries

-- the operations of a track by itself, where the trees of units are given
abbrev pub row_code : Medium → (ℕ → Tree) → ℕ → Track → Option (List Op)
row_code v units n track = if hides v (hide_of track) then None else code v (track_tree units track) n

-- those of the highest track that has something
abbrev pub shown_code : Medium → (ℕ → Tree) → ℕ → List Track → Option (List Op)
shown_code v units n tracks = shown (rows_code v (tracks_of units tracks) n)
