use Rattle.std.proofs.Common.{◌≡◌, ◌+◌, ◌-◌, ◌≤◌, min, length, arith, ap, subst, ◌∙◌, length-append, length-drop, length-take}
use Rattle.mlt_image.proofs.Tiled.{IsTiled, length_more, tiled_more, tiled_whole, whole_more}
use Rattle.mlt_image.proofs.tile.tile.Goals as goal

pub loop-filled-preserved : goal.loop-filled-preserved
loop-filled-preserved c =
    let pixel = c.args.pixel.now in
    let old = c.loop-filled.bytes in
    let filled = c.loop-filled.filled in
    let more = c.min-more.result in
    let enough : more ≤ filled = omega arith in
    let room : filled + more ≤ length old = omega arith in
    let whole = c.loop-filled.invariant.whole c.loop-filled-test.true in
    let long : length c.copy_front.new.bytes ≡ length old = length_more pixel old c.copy_front.new.bytes filled more enough room c.copy_front.ensures in
    record {
      some = omega arith;
      within = omega arith;
      whole = λ h. whole_more filled 12288 (length old) more (length pixel) (c.min-more.ensures ∙ ap (λ m. min m (length old - filled)) c.min.ensures) whole c.requires.block (omega arith);
      tiled = tiled_more pixel old c.copy_front.new.bytes filled more enough room c.copy_front.ensures whole c.loop-filled.invariant.tiled;
    }

pub returns : goal.returns
returns c = λ count long.
    let done : c.loop-filled.filled ≡ length c.loop-filled.bytes = omega arith in
    let same = simp (length-append, length-drop) at c.loop-filled.auto.bytes in
    let first = simp length-take at c.copy_from_slice.ensures.len in
    tiled_whole c.args.pixel.now c.loop-filled.bytes count c.requires.some (omega (arith, same, first, long)) (subst (IsTiled c.args.pixel.now c.loop-filled.bytes) done c.loop-filled.invariant.tiled)
