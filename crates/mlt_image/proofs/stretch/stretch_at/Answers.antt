use Rattle.std.proofs.Common.{arith}
use Rattle.mlt_base.specs.Still.{Picture}
use Rattle.mlt_image.proofs.Mixes.{row_within, pixel_is}
use Rattle.mlt_image.proofs.stretch.stretch_at.Goals as goal

pub across_one-bottom-requires-clause-row : goal.across_one-bottom-requires-clause-row
across_one-bottom-requires-clause-row c = omega (arith, row_within c.next.result c.args.width c.args.height c.next.ensures.within)

pub down_one-requires-3-clause-top : goal.down_one-requires-3-clause-top
down_one-requires-3-clause-top c = c.across_one-top.ensures.most 2

pub down_one-requires-4-clause-top : goal.down_one-requires-4-clause-top
down_one-requires-4-clause-top c = c.across_one-top.ensures.most 3

pub down_one-requires-4-clause-bottom : goal.down_one-requires-4-clause-bottom
down_one-requires-4-clause-bottom c = c.across_one-bottom.ensures.most 3

pub returns : goal.returns
returns c =
    let source : Picture = record { width = c.args.width; height = c.args.height; pixels = c.args.src.now } in
    rw (← c.along-column.ensures.value, ← c.along-row.ensures.value)
    (pixel_is source c.along-column.result c.along-row.result c.next.result c.down_one.result c.down_one-2.result c.down_one-3.result c.down_one-4.result
    c.across_one-top.result c.across_one-bottom.result c.across_one-top.ensures.value c.across_one-bottom.ensures.value c.next.ensures.value
    c.down_one.ensures c.down_one-2.ensures c.down_one-3.ensures c.down_one-4.ensures)
