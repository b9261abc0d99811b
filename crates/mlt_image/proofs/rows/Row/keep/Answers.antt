use Rattle.std.proofs.Common.{◌*◌, length, ap, ◌∙◌, arith, length-take}
use Rattle.mlt_base.specs.Mixing.{table}
use Rattle.mlt_image.specs.Kept.{across_at}
use Rattle.mlt_image.proofs.RowsKept.{is_row}
use Rattle.mlt_image.proofs.rows.Row.keep.Goals as goal

pub returns-in_default-clause-kept : goal.returns-in_default-clause-kept
returns-in_default-clause-kept c =
    let places = c.args.places.now in
    is_row c.args.pixels.now c.args.width places c.args.y c.across.new.out _
    (c.across.ensures ∙ ap (λ n. table n (across_at c.args.pixels.now c.args.width places c.args.y)) (omega (arith, length-take (length places * 4) c.args.self.now.values)))
