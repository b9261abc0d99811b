use Rattle.std.proofs.Common.{◌≡◌, ℕ, ◌+◌, ◌-◌, ◌*◌, ◌/◌, ◌≤◌, length, take, drop, ap, ◌∙◌, arith}
use Rattle.std.proofs.Math.Nat.{div-mul-le_self}
use Rattle.std.proofs.lemmas.Nat.{row_fits}
use Rattle.mlt_slice.specs.Rows.{row_of}
use Rattle.mlt_slice.proofs.Bytes.{length-row_of}
use Rattle.mlt_slice.proofs.EachRow.{next_done, next_left}
use Rattle.mlt_slice.proofs.each.ByRowsRowWork.work.Goals as goal

pub loop-k-preserved : goal.loop-k-preserved
loop-k-preserved g c =
    let rows = c.args.self.now in let w = rows.row_bytes in let first = c.args.first_row in let old = c.args.band.now in
    let k = c.loop-k.k in let band = c.loop-k.band in let so_far = c.loop-k.invariant in
    let f = g.W.RowByRow.makes rows.work.now in
    let below : k * w + w ≤ length old / w * w = row_fits k w (length old / w) w (omega arith) (omega arith) in
    let room : (k + 1) * w ≤ length band = omega (arith, below, div-mul-le_self (length old) w) in
    let count : ℕ = k * w + w - k * w in
    let own : count ≡ w = omega arith in
    let row = take count (drop (k * w) band) in
    let is : row ≡ row_of w k old = ap (λ n. take n (drop (k * w) band)) own ∙ so_far.left k (omega arith) room in
    let long : length c.row.new.row ≡ w = c.row.ensures.long ∙ ap length is ∙ length-row_of w k old (omega (arith, room)) in
    let made : c.row.new.row ≡ f (first + k) (row_of w k old) = c.row.ensures.row ∙ ap (f (first + k)) is in
    record {
      keeps = c.row.ensures.keeps;
      done = next_done f w first k count old band c.row.new.row own room (omega arith) long made so_far.done;
      left = next_left f w first k count old band c.row.new.row own room (omega arith) long made so_far.left;
    }
