use Rattle.std.proofs.Common.{◌≡◌, ◌*◌, ◌<◌, [], length, drop, All}
use Rattle.mlt_base.specs.ProfileView.{measures_of}
use Rattle.mlt_eval.specs.Blocks.{AreBlocks}
use Rattle.mlt_eval.specs.Registers.{registers, IsThere}
use Rattle.mlt_eval.specs.Still.{IsStill}
use Rattle.mlt_frame.specs.Fits.{FitsRegisters}
use Rattle.mlt_frame.specs.Loads.{loads, maps}
use Rattle.mlt_frame.specs.Registers.{regs}
use Rattle.mlt_tree.specs.Show.{pixels_of, pictures_of}
use Rattle.mlt_eval.proofs.operation.run.Given as goal

-- what is left to be done makes of the registers what all operations make of none
abbrev pub invariant-loop-op : goal.invariant-loop-op
invariant-loop-op g l = record {
  blocks : AreBlocks l._size l.blocks l.states;
  there : All (IsThere (length l.scene.fitted.now.fits)) l.states;
  fits : FitsRegisters (length l.initial.blocks) l.count (drop l.op-index l.ops);
  sources : All (λ source. source < length l.scene.table.now) (loads (drop l.op-index l.ops));
  maps : All (λ source. source < length l.scene.table.now) (maps (drop l.op-index l.ops));
  registers : regs (pictures_of (measures_of l.scene.profile.now) l.scene.table.now) (registers (pixels_of (measures_of l.scene.profile.now) * 4) l.scene.fitted.now.fits l.blocks l.states l.count) (drop l.op-index l.ops)
      ≡ regs (pictures_of (measures_of l.scene.profile.now) l.scene.table.now) [] l.ops;
  still : All (IsStill l.scene.fitted.now.fits) l.ops → l.blocks ≡ l.initial.blocks;
}
