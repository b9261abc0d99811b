use Rattle.std.proofs.Common.{ℕ, ◌∙◌, cond, nat_eq, slice_set, slice_index, ap, arith}
use Rattle.std.proofs.lemmas.List.{get_or_default}
use Rattle.std.proofs.lemmas.List.Edits.{map_over_more}
use Rattle.mlt_start.proofs.plan.redirect.Goals as goal

pub loop-row-preserved : goal.loop-row-preserved
loop-row-preserved c =
    let ends = c.loop-row.ends in
    let row = c.loop-row.row in
    ap (λ y. slice_set ends row y) c.redirected.ensures
    ∙ map_over_more (λ (row : ℕ). cond (nat_eq row c.args.b) c.args.a row) c.args.ends.now ends row (slice_index ends row) (omega arith) c.loop-row.invariant (get_or_default ends row 0 (slice_index ends row) (omega (arith, c.loop-row.auto.ends)))
