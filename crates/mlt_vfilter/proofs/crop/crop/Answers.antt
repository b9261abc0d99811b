use Rattle.std.proofs.Common.{length, sym, ◌∙◌, arith}
use Rattle.std.proofs.lemmas.List.FromFn.{fill_by_all}
use Rattle.mlt_vfilter.specs.Places.{cut_row}
use Rattle.mlt_vfilter.proofs.crop.crop.Goals as goal

pub returns-then-is_cut : goal.returns-then-is_cut
returns-then-is_cut c =
    let cut = sym c.is_cut.ensures ∙ c.if-is_cut.true in
    rw (cut, cut_row) (fill_by_all (λ k. 0) c.clear.new.bytes (length c.args.row.now) 0 (omega arith) (λ k lt. c.clear.ensures k))

pub returns-else-is_cut : goal.returns-else-is_cut
returns-else-is_cut c = let kept = sym c.is_cut.ensures ∙ c.if-is_cut.false in rw (kept, cut_row) c.clear_columns.ensures
