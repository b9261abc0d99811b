use Rattle.std.proofs.Common.{rules, ◌*◌, ◌<◌, length, arith}
use Rattle.mlt_base.specs.ProfileView.{measures_of}
use Rattle.mlt_eval.specs.Pictures.{merge_of}
use Rattle.mlt_tree.specs.Show.{pixels_of}
use Rattle.mlt_eval.proofs.Merged.{high_sized, high_merged}
use Rattle.mlt_eval.proofs.merging.merge_pair.Goals as goal

pub returns-else-a-b-clause-sizes : goal.returns-else-a-b-clause-sizes
returns-else-a-b-clause-sizes g c =
    let parts = c.split_at_mut-below-else-a-b in let merged = c.merge_blocks-else-a-b in
    let some : 0 < length parts.result.1.now = omega (arith, parts.ensures.back_len, c.requires.inside.0) in
    high_sized c.args._size c.args.blocks.now parts.result.0.now parts.result.1.now merged.new.block c.index-above-0-else-a-b.result parts.ensures.value
    c.requires.sizes some merged.ensures.long

pub returns-else-a-b-clause-into : goal.returns-else-a-b-clause-into
returns-else-a-b-clause-into g c =
    let scene = c.args.scene.now in let profile = measures_of scene.profile.now in
    let parts = c.split_at_mut-below-else-a-b in let merged = c.merge_blocks-else-a-b in
    let some : 0 < length parts.result.1.now = omega (arith, parts.ensures.back_len, c.requires.inside.0) in
    let lt : c.args.b < c.args.a = search rules in
    high_merged (pixels_of profile * 4) scene.fitted.now.fits c.args.states.now (merge_of profile scene.table.now c.args.step.now)
    c.args.blocks.now parts.result.0.now parts.result.1.now merged.new.block c.index-above-0-else-a-b.result c.index-below-b.result c.args.a c.args.b
    parts.ensures.value parts.ensures.front_len lt some merged.ensures.picture
