use Rattle.std.proofs.Common.{ℕ, ◌+◌, ◌-◌, ◌*◌, ◌≤◌, get_or, drop, sym, ap, ◌∙◌, arith}
use Rattle.std.proofs.lemmas.Nat.{row_fits}
use Rattle.std.proofs.lemmas.List.{get_or-take, get_or-drop}
use Rattle.mlt_base.specs.Fitting.{inset, framed}
use Rattle.mlt_image.proofs.Parts.{put_part}
use Rattle.mlt_image.proofs.Frames.{copied_is, row_done}
use Rattle.mlt_image.proofs.frame.copy_rows.Goals as goal

pub loop-v-preserved : goal.loop-v-preserved
loop-v-preserved c =
    let source = c.args.src.now in let frame = c.args.frame.now in let v = c.loop-v.v in let bytes = c.row_bytes-bytes.result in
    let own = frame.wide * 4 in let at = v * own in
    let room : v * bytes + bytes ≤ frame.high * (frame.width * 4) = row_fits v bytes frame.high (frame.width * 4) (omega arith) (omega arith) in
    let byte = λ (k : ℕ). framed source frame.width frame.height frame.wide frame.high (inset frame.height frame.high * (frame.width * 4) + k) in
    λ k lt.
    put_part byte c.loop-v.rows c.copy_row.new.row (v * bytes) (v * bytes + bytes - v * bytes) (omega arith) (omega arith) c.loop-v.invariant
    (λ j below.
    row_done source frame.width frame.height frame.wide frame.high v _ c.copy_row.new.row (omega arith) (omega arith) c.copy_row.ensures
    (λ i within. get_or-take (at + own - at) (drop at c.pixels.result.now) i 0 (omega arith) ∙ get_or-drop at c.pixels.result.now i 0 ∙ ap (λ l. get_or l (at + i) 0) c.pixels.ensures.value
    ∙ copied_is source frame.wide frame.high v i c.requires.wide c.requires.high (omega arith) within)
    j (omega arith)
    ∙ ap (λ b. byte (v * b + j)) (sym c.row_bytes-bytes.ensures))
    k (omega arith)
