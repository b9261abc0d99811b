use Rattle.std.proofs.Common.{◌≡◌, ℕ, ◌+◌, ◌-◌, ◌*◌, length, take, drop, ap, ◌∙◌, arith, length-take, length-drop}
use Rattle.std.proofs.lemmas.List.FromFn.{length-map-range_with_len}
use Rattle.mlt_base.specs.Mixing.{laid_over}
use Rattle.mlt_image.proofs.RowsKept.{tabled}
use Rattle.mlt_slice.proofs.Parts.{put_inside}
use Rattle.mlt_trans.proofs.Laid.{part_laid}
use Rattle.mlt_trans.proofs.composite.lay.Goals as goal

pub returns-clause-done : goal.returns-clause-done
returns-clause-done c = λ j lt.
    let row = c.args.row.now in let top = c.args.top.now in let o = c.args.opacity in let from = c.args.from in let at : ℕ = from * 4 in let count : ℕ = at + length top - at in
    let part = take count (drop at row) in let new = c.over.new.dst in
    let old_long : length part ≡ count = simp (length-take, length-drop) (omega arith) in
    let long : length new ≡ count = ap length c.over.ensures ∙ length-map-range_with_len (laid_over o part top) 0 (length part) ∙ old_long in
    put_inside row new at count j (omega arith) long (omega arith)
    ∙ tabled (laid_over o part top) (length part) j new c.over.ensures (omega (arith, old_long))
    ∙ part_laid o from count j row top (omega arith) (omega arith)
