use Rattle.std.proofs.Common.{length, refl, ◌∙◌, arith}
use Rattle.std.proofs.lemmas.List.FromFn.{fill_by_all}
use Rattle.mlt_base.specs.Mixing.{scaled}
use Rattle.mlt_kernel.proofs.Levels.{scaled_same, scaled_held}
use Rattle.mlt_kernel.proofs.scale.scale.Goals as goal

pub returns-then-level-lt65536 : goal.returns-then-level-lt65536
returns-then-level-lt65536 c =
    let old = c.args.dst.now in
    fill_by_all (scaled c.args.level.0 old) c.darken.new.dst (length old) 0 (omega arith) (λ k lt. c.darken.ensures k lt)

pub returns-then-level-gt65536 : goal.returns-then-level-gt65536
returns-then-level-gt65536 c =
    let old = c.args.dst.now in
    fill_by_all (scaled c.args.level.0 old) c.brighten.new.dst (length old) 0 (omega arith)
    (λ k lt. c.brighten.ensures k lt ∙ scaled_held c.args.level.0 c.min.result old k (omega arith))

pub returns-else-level-gt65536 : goal.returns-else-level-gt65536
returns-else-level-gt65536 c =
    let old = c.args.dst.now in
    fill_by_all (scaled c.args.level.0 old) old (length old) 0 refl (λ k lt. scaled_same c.args.level.0 old k (omega arith) (omega (arith, c.type_inv.dst k)))
