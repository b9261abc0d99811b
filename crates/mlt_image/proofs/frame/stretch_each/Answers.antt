use Rattle.std.proofs.Common.{◌≡◌, ℕ, ◌+◌, ◌-◌, ◌*◌, ◌≤◌, sym, ap, ◌∙◌, arith}
use Rattle.std.proofs.lemmas.Nat.{row_fits}
use Rattle.mlt_base.specs.Fitting.{inset, along, framed}
use Rattle.mlt_base.specs.Mixing.{table}
use Rattle.mlt_image.specs.Kept.{stretched_row}
use Rattle.mlt_image.proofs.Parts.{put_part}
use Rattle.mlt_image.proofs.Frames.{columns_are, columns_inside, stretched_row_is, row_done}
use Rattle.mlt_image.proofs.frame.stretch_each.Goals as goal

pub stretch_row-requires-clause-inside : goal.stretch_row-requires-clause-inside
stretch_row-requires-clause-inside c =
    let source = c.args.src.now in let frame = c.args.frame.now in
    columns_inside source.width frame.wide c.places.new.out (columns_are c.width.result source.width _ frame.wide c.places.new.out c.places.ensures c.width.ensures.value c.requires.columns)

pub loop-v-preserved : goal.loop-v-preserved
loop-v-preserved c =
    let source = c.args.src.now in let frame = c.args.frame.now in let v = c.loop-v.v in let bytes = c.row_bytes-bytes.result in
    let columns : c.places.new.out ≡ table frame.wide (along source.width frame.wide) = columns_are c.width.result source.width _ frame.wide c.places.new.out c.places.ensures c.width.ensures.value c.requires.columns in
    let place : c.along-place.result ≡ along source.height frame.high v = c.along-place.ensures.value ∙ ap (λ h. along h frame.high v) c.height.ensures.value in
    let room : v * bytes + bytes ≤ frame.high * (frame.width * 4) = row_fits v bytes frame.high (frame.width * 4) (omega arith) (omega arith) in
    let byte = λ (k : ℕ). framed source frame.width frame.height frame.wide frame.high (inset frame.height frame.high * (frame.width * 4) + k) in
    let row = stretched_row source.pixels source.width source.height c.places.new.out c.along-place.result in
    record {
      kept = c.stretch_row.ensures.kept;
      done = λ k lt.
          put_part byte c.loop-v.rows c.stretch_row.new.row (v * bytes) (v * bytes + bytes - v * bytes) (omega arith) (omega arith) c.loop-v.invariant.done
          (λ j below.
          row_done source frame.width frame.height frame.wide frame.high v row c.stretch_row.new.row (omega arith) (omega arith) c.stretch_row.ensures.row
          (λ i within. ap (λ p. stretched_row source.pixels source.width source.height c.places.new.out p i) place ∙ stretched_row_is source frame.wide frame.high v i c.places.new.out columns within)
          j (omega arith)
          ∙ ap (λ b. byte (v * b + j)) (sym c.row_bytes-bytes.ensures))
          k (omega arith);
    }
