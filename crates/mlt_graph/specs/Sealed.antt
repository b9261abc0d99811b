-- What is played: units, and which of them.
use Rattle.std.specs.Prelude.{◌≡◌, ◌≤◌, ◌<◌, ◌^◌, ℕ, List, length, All}
use Rattle.mlt_base.specs.declared.limits.TheConstants.{MOST_DEPTH, MOST_WEIGHT}
use Rattle.mlt_tree.specs.declared.node.Node.{Node}
use Rattle.mlt_tree.specs.Sizes.{need, weight, ops}
use Rattle.mlt_tree.specs.Tree.{Tree, len}
use Rattle.mlt_tree.specs.Units.{tree_of, depth_of, IsGraph}
use Rattle.mlt_graph.specs.Graph.{HasFewTracks}

pub record Shown : Type 0 where
  pub units : List Node
  pub top : ℕ

-- the tree that it stands for
abbrev pub tree : Shown → Tree
tree shown = tree_of shown.units shown.top

-- it stands for a tree, since units refer to lower-numbered ones, and the one that is played is there; tractors
-- have only so many tracks
pub record IsSealed (shown : Shown) : Type 0 where
  pub graph : IsGraph shown.units
  pub top : shown.top < length shown.units
  pub tracks : All (λ node. HasFewTracks node.body) shown.units

-- what else holds of it, with the numbers that are kept of it
pub record IsKept (shown : Shown) (count buffers operations : ℕ) : Type 0 where
  pub is : IsSealed shown
  pub depth : depth_of shown.units shown.top ≤ MOST_DEPTH
  pub weight : weight (tree shown) ≤ MOST_WEIGHT
  pub length : count ≡ len (tree shown)
  pub some : 1 ≤ count
  pub short : count < 2 ^ 31
  pub need : buffers ≡ need (tree shown)
  pub few_buffers : buffers ≤ 4369
  pub ops : operations ≡ ops (tree shown)
  pub few_ops : operations ≤ 131072
