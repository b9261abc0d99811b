use Rattle.std.proofs.Common.{refl, w64}
use Rattle.std.proofs.lemmas.Int.{to_z-of_z}
use Rattle.melt_run.proofs.line.out_of_range.Goals as goal

pub returns-clause-text : goal.returns-clause-text
returns-clause-text c =
    let value = rw (to_z-of_z w64 c.args.value c.ranges.value) at c.number.ensures.text in
    let low = rw (to_z-of_z w64 c.args.low c.ranges.low) at c.number-2.ensures.text in
    let high = rw (to_z-of_z w64 c.args.high c.ranges.high) at c.number-3.ensures.text in
    rw (value, low, high) refl
