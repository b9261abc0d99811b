-- A started frame: its operations make what a position of a tree has.
use Rattle.std.specs.Prelude.{◌≡◌, ◌≤◌, ◌<◌, ℕ, List, [], ◌∷◌, length, All}
use Rattle.mlt_frame.specs.declared.op.Op.{Op}
use Rattle.mlt_frame.specs.Fits.{FitsRegisters}
use Rattle.mlt_frame.specs.Frame.{FrameParts}
use Rattle.mlt_frame.specs.Loads.{loads, maps}
use Rattle.mlt_frame.specs.Names.{Names}
use Rattle.mlt_frame.specs.Ranges.{IsInRange}
use Rattle.mlt_frame.specs.Registers.{regs}
use Rattle.mlt_tree.specs.Meaning.{Matter, mean}
use Rattle.mlt_tree.specs.Medium.{Medium, Pictures, Sounds}
use Rattle.mlt_tree.specs.Needs.{needs}
use Rattle.mlt_tree.specs.Show.{Source}
use Rattle.mlt_tree.specs.Sizes.{need}
use Rattle.mlt_tree.specs.Sizes.{ops as most_ops}
use Rattle.mlt_tree.specs.Sources.{Fits}
use Rattle.mlt_tree.specs.Tree.{Tree}

-- operations leave what a tree has of a medium at a position. They find the registers that they name, of as many as
-- the tree needs; their numbers are in their ranges; they are not more than the tree has; and they name its sources and
-- maps alone
pub record Makes (v : Medium) (A : Type 0) (t : Tree) (at : ℕ) (ops : List Op) : Type 0 where
  pub means : (m : Matter A) → regs m [] ops ≡ mean v m t at ∷ []
  pub fits : FitsRegisters (need t) 0 ops
  pub ranges : All IsInRange ops
  pub few : length ops ≤ most_ops t
  pub names : All (Names v t) ops

-- the frame of a position is started: its operations make the picture and the sound, and load the sources that the
-- picture is made of
pub record IsStarted (t : Tree) (frame : FrameParts) : Type 0 where
  pub image : Makes Pictures (List ℕ) t frame.at.0 frame.image.ops
  pub sound : Makes Sounds (List (List ℕ)) t frame.at.0 frame.sound.ops
  pub needed : loads frame.image.ops ≡ needs t frame.at.0

-- operations can be worked out in so many blocks, on a table of so many sources
pub record CanRun (blocks sources : ℕ) (ops : List Op) : Type 0 where
  pub ranges : All IsInRange ops
  pub fits : FitsRegisters blocks 0 ops
  pub loads : All (λ source. source < sources) (loads ops)
  pub maps : All (λ source. source < sources) (maps ops)

-- a started frame can be rendered in as many blocks as its tree needs, on a table that fits the tree
abbrev pub StartedFramesRun : Type 0
StartedFramesRun =
    (table : List Source) (t : Tree) (frame : FrameParts) → Fits table t → IsStarted t frame → CanRun (need t) (length table) frame.image.ops
