use Rattle.std.proofs.Common.{◌*◌, length, get_or, ap, ◌∙◌, sym, arith}
use Rattle.std.proofs.lemmas.List.FromFn.{fill_by_all}
use Rattle.mlt_base.specs.Fitting.{fitted}
use Rattle.mlt_image.proofs.Frames.{fitted_same}
use Rattle.mlt_image.proofs.frame.fit.Goals as goal

pub returns-then-height : goal.returns-then-height
returns-then-height c =
    let source = c.args.src.now in
    let width = c.width.ensures.value in let height = c.height.ensures.value in
    rw (← c.if-width.true, ← c.if-height.true, width, height)
    (fill_by_all (fitted source source.width source.height) c.copy_from_slice.new.self (source.width * source.height * 4) 0 (ap length c.copy_from_slice.ensures.after ∙ c.pixels.ensures.sized)
    (λ k lt. ap (λ l. get_or l k 0) (c.copy_from_slice.ensures.after ∙ c.pixels.ensures.value) ∙ sym (fitted_same source k (omega arith) lt)))
