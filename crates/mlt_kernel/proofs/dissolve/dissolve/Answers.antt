use Rattle.std.proofs.Common.{length, get_or, refl, ap, ◌∙◌, arith}
use Rattle.std.proofs.lemmas.List.FromFn.{fill_by_all}
use Rattle.mlt_base.specs.Mixing.{dissolved}
use Rattle.mlt_kernel.proofs.Mixed.{mixed_whole, mixed_none}
use Rattle.mlt_kernel.proofs.dissolve.dissolve.Goals as goal

pub returns-then-q-eq65536 : goal.returns-then-q-eq65536
returns-then-q-eq65536 c =
    let old = c.args.dst.now in let src = c.args.src.now in
    fill_by_all (dissolved c.args.q.0 old src) c.copy_from_slice.new.self (length old) 0 c.copy_from_slice.ensures.len
    (λ k lt. ap (λ l. get_or l k 0) c.copy_from_slice.ensures.after ∙ mixed_whole c.args.q.0 (get_or old k 0) (get_or src k 0) c.if-q-eq65536.true)

pub returns-else-q-gt0 : goal.returns-else-q-gt0
returns-else-q-gt0 c =
    let old = c.args.dst.now in let src = c.args.src.now in
    fill_by_all (dissolved c.args.q.0 old src) old (length old) 0 refl (λ k lt. mixed_none c.args.q.0 (get_or old k 0) (get_or src k 0) (omega arith))
