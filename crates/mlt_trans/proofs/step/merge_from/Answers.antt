use Rattle.std.proofs.Common.{◌/◌, ◌*◌, length, arith}
use Rattle.std.specs.Option.{option_copied}
use Rattle.std.proofs.Math.Nat.{div-add-mod}
use Rattle.mlt_trans.proofs.Merged.{picture_merged}
use Rattle.mlt_trans.proofs.step.merge_from.Goals as goal

pub returns-then-height-gt0-clause-picture : goal.returns-then-height-gt0-clause-picture
returns-then-height-gt0-clause-picture g c =
    let xs = c.args.from.now in let width = c.args.width in
    picture_merged c.args.step.now (option_copied c.args.map) width (length xs / (width * 4)) xs c.args.b.now (omega arith) (let all = div-add-mod (length xs) (width * 4) in omega (arith, all))
    c.run_from.new.picture (rw c.new-rows.ensures at c.run_from.ensures)
