-- The units of a graph, and what holds of them and of what is kept beside them.
use Rattle.std.specs.Prelude.{◌≡◌, ◌≤◌, ◌<◌, ◌^◌, ℕ, nat_eq, if◌then◌else◌, List, length, All, Option, None, Some, Result, Err, IfErr}
use Rattle.mlt_base.specs.declared.limits.TheConstants.{MOST_TRACKS}
use Rattle.mlt_tree.specs.declared.node.Body.{Body}
use Rattle.mlt_tree.specs.declared.node.Body.TheVariants.{Source, Entries, Tractor}
use Rattle.mlt_tree.specs.declared.node.Node.{Node}
use Rattle.mlt_tree.specs.Tree.{Tree, len}
use Rattle.mlt_tree.specs.Units.{Level, Misplaced, OffTracks, Doubled, tree_of, depth_of, drafts_of, level_misplaced, IsGraph}
use Rattle.mlt_graph.specs.declared.fault.GraphFault.{GraphFault}
use Rattle.mlt_graph.specs.declared.fault.GraphFault.TheVariants.{BadTrack, SameTrack, NoProducer, Memory}
use Rattle.mlt_graph.specs.declared.size.Size.{Size}
use Rattle.mlt_graph.specs.declared.weight.Weight.{Weight}
use Rattle.mlt_graph.specs.Lists.{HaveStarts}
use Rattle.mlt_graph.specs.Sizes.{AreSizes}

-- a unit has a frame, and fewer than 2^31 of them
pub record HasLength (tree : Tree) : Type 0 where
  pub some : 1 ≤ len tree
  pub short : len tree < 2 ^ 31

-- a tractor has only so many tracks
abbrev pub HasFewTracks : Body → Type 0
HasFewTracks (Source source kind frames) = Unit {0}
HasFewTracks (Entries entries) = Unit {0}
HasFewTracks (Tractor tracks plants) = length tracks ≤ MOST_TRACKS

-- the fault of a numbered plant that is misplaced, among so many tracks
abbrev pub misplaced_fault : (tracks : ℕ) → ℕ × Misplaced → GraphFault
misplaced_fault tracks (plant, OffTracks track) = BadTrack plant track tracks
misplaced_fault tracks (plant, Doubled track) = SameTrack plant track

-- that of a plant, else that there is no frame
abbrev pub placed_or_empty : (tracks frames : ℕ) → Option (ℕ × Misplaced) → Option GraphFault
placed_or_empty tracks frames (Some wrong) = Some (misplaced_fault tracks wrong)
placed_or_empty tracks frames None = if nat_eq frames 0 then Some NoProducer else None

-- why a level becomes no tractor: its first misplaced plant, else that it has no frame
abbrev pub tractor_fault : Level → (frames : ℕ) → Option GraphFault
tractor_fault level frames = placed_or_empty (length (drafts_of level)) frames (level_misplaced level)

-- that fault, else want of memory alone
abbrev pub FailsBy : {A : Type 0} → Option GraphFault → Result A GraphFault → Type 0
FailsBy (Some fault) result = result ≡ Err fault
FailsBy None result = IfErr result (λ fault. fault ≡ Memory)

-- units of a graph, with the table of their sizes
pub record IsSized (nodes : List Node) (sizes : List Size) : Type 0 where
  pub graph : IsGraph nodes
  pub few : length nodes < 2 ^ 32
  pub long : length sizes ≡ length nodes
  pub told : AreSizes sizes (tree_of nodes) (depth_of nodes)
  pub lengths : (unit : ℕ) → unit < length nodes → HasLength (tree_of nodes unit)
  pub tracks : All (λ node. HasFewTracks node.body) nodes

-- units of a graph, with what is kept beside them: their sizes, room for their weights, and where the entries of
-- their lists begin
pub record IsBuilt (nodes : List Node) (sizes : List Size) (weights : List Weight) (starts : List (List (List ℕ))) : Type 0 where
  pub sized : IsSized nodes sizes
  pub room : length weights ≡ length nodes
  pub lists : HaveStarts nodes starts
