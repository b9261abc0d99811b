-- The raster that is written, and its reading.
use Rattle.std.proofs.Common.{◌≡◌, ℕ, ◌+◌, ◌*◌, ◌/◌, ◌%◌, ◌<◌, ◌≤◌, List, ◌++◌, length, take, drop, get_or, map, refl, sym, ap, ◌∙◌, arith, append_assoc}
use Rattle.std.specs.List.{range_with_len}
use Rattle.std.specs.Simd.Lanes.{chunk}
use Rattle.std.proofs.lemmas.Simd.{get_or-chunk, length-chunk}
use Rattle.std.proofs.lemmas.List.FromFn.{fill_by_all, length-map-range_with_len, get_or-map-range_with_len}
use Rattle.mlt_ppm.specs.Written.{colour}
use Rattle.mlt_ppm.proofs.Pixels.{AreBytes, AreBytes-append}

-- the colours of one pixel more
pub colours_more : (pixels : List ℕ) (p : ℕ) → p * 4 + 4 ≤ length pixels → map (colour pixels) (range_with_len 0 (p * 3)) ++ chunk (p * 4) 3 pixels ≡ map (colour pixels) (range_with_len 0 ((p + 1) * 3))
colours_more pixels p room =
    let front = map (colour pixels) (range_with_len 0 (p * 3)) in
    let held : AreBytes (colour pixels) (p * 3) front = record {
      long = length-map-range_with_len (colour pixels) 0 (p * 3);
      each = λ k h. get_or-map-range_with_len (colour pixels) 0 (p * 3) k k 0 h (omega arith);
    } in
    let part : length (chunk (p * 4) 3 pixels) ≡ 3 = length-chunk (p * 4) 3 pixels (omega arith) in
    let more = AreBytes-append (colour pixels) (p * 3) 3 front (chunk (p * 4) 3 pixels) (front ++ chunk (p * 4) 3 pixels) held refl part (here) in
    fill_by_all (colour pixels) (front ++ chunk (p * 4) 3 pixels) ((p + 1) * 3) 0 (omega (arith, more.long)) (λ k h. more.each k (omega arith))
  where
    here : (j : ℕ) → j < 3 → get_or (chunk (p * 4) 3 pixels) j 0 ≡ colour pixels (p * 3 + j)
    here j h =
        let d : (p * 3 + j) / 3 ≡ p = omega arith in
        let m : (p * 3 + j) % 3 ≡ j = omega arith in
        get_or-chunk (p * 4) 3 pixels j 0 h ∙ sym (rw (d, m) refl)

-- and behind what stands before the raster
pub written_more : (pixels old file new : List ℕ) (p n : ℕ) → p * 4 + 4 ≤ length pixels → n ≡ 3 → file ≡ old ++ map (colour pixels) (range_with_len 0 (p * 3)) → new ≡ file ++ take n (drop (p * 4) pixels) → new ≡ old ++ map (colour pixels) (range_with_len 0 ((p + 1) * 3))
written_more pixels old file new p n room three so_far e =
    let front = map (colour pixels) (range_with_len 0 (p * 3)) in
    e ∙ (ap (λ (n : ℕ). file ++ take n (drop (p * 4) pixels)) three ∙ (ap (λ (xs : List ℕ). xs ++ chunk (p * 4) 3 pixels) so_far ∙ (append_assoc old front (chunk (p * 4) 3 pixels) ∙ ap (λ (xs : List ℕ). old ++ xs) (colours_more pixels p room))))
