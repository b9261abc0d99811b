use Rattle.mlt_base.specs.Still.{Picture}
use Rattle.mlt_tree.specs.Merges.{offset_in}
use Rattle.mlt_trans.proofs.Laid.{near_is, not_laid}
use Rattle.mlt_trans.proofs.composite.Layer.lay.Goals as goal

pub returns-in_default-clause-row : goal.returns-in_default-clause-row
returns-in_default-clause-row c =
    let layer = c.args.self.now in let geometry = layer.geometry in
    let above : Picture = record { width = layer.width; height = layer.height; pixels = layer.b.now } in
    not_laid geometry above (offset_in geometry.y geometry.height c.args.number) c.args.row.now (rw (near_is geometry.y layer.placed.y_near) at c.in_default.ensures.value)
