use Rattle.std.proofs.Common.{◌≡◌, ◌+◌, ◌*◌, ◌++◌, length, get_or, refl, arith, length-append}
use Rattle.std.proofs.lemmas.List.FromFn.{fill_by_all}
use Rattle.mlt_base.specs.Fitting.{inset, framed}
use Rattle.mlt_image.proofs.Parts.{bordered}
use Rattle.mlt_image.proofs.Frames.{rows_within, frame_done}
use Rattle.mlt_image.proofs.frame.fit_inside.Goals as goal

pub split_at_mut-above-requires : goal.split_at_mut-above-requires
split_at_mut-above-requires c =
    let frame = c.args.frame.now in
    let above : c.top.result * c.row_bytes.result ≡ inset frame.height frame.high * (frame.width * 4) = rw (c.top.ensures, c.row_bytes.ensures) refl in
    omega (arith, rows_within (inset frame.height frame.high) frame.width frame.height (omega arith))

pub split_at_mut-middle-requires : goal.split_at_mut-middle-requires
split_at_mut-middle-requires c =
    let frame = c.args.frame.now in
    let above : c.top.result * c.row_bytes.result ≡ inset frame.height frame.high * (frame.width * 4) = rw (c.top.ensures, c.row_bytes.ensures) refl in
    let taken : frame.high * c.row_bytes-2.result ≡ frame.high * (frame.width * 4) = rw c.row_bytes-2.ensures refl in
    omega (arith, rows_within (inset frame.height frame.high + frame.high) frame.width frame.height (omega arith))

pub returns : goal.returns
returns c =
    let source = c.args.src.now in let frame = c.args.frame.now in
    let above : c.top.result * c.row_bytes.result ≡ inset frame.height frame.high * (frame.width * 4) = rw (c.top.ensures, c.row_bytes.ensures) refl in
    let taken : frame.high * c.row_bytes-2.result ≡ frame.high * (frame.width * 4) = rw c.row_bytes-2.ensures refl in
    let room = rows_within (inset frame.height frame.high + frame.high) frame.width frame.height (omega arith) in
    let rows = c.write_rows.new.rows in
    let is = bordered (inset frame.height frame.high * (frame.width * 4)) (frame.high * (frame.width * 4)) (λ k. get_or rows k 0) c.clear.new.bytes rows c.clear-2.new.bytes
    (omega arith) (omega arith) c.clear.ensures (λ k lt. refl) c.clear-2.ensures in
    fill_by_all (framed source frame.width frame.height frame.wide frame.high) (c.clear.new.bytes ++ (rows ++ c.clear-2.new.bytes)) (length c.args.dst.now) 0
    (simp length-append (omega arith))
    (λ k lt. frame_done source frame.width frame.height frame.wide frame.high (λ k. get_or rows k 0) (c.clear.new.bytes ++ (rows ++ c.clear-2.new.bytes)) (omega arith) is (λ i within. c.write_rows.ensures i (omega arith)) k)
