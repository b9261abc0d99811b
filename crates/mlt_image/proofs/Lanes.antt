-- Four pixels at once: twelve of their sixteen bytes, without the alphas.
use Rattle.std.proofs.Common.{◌≡◌, ℕ, zero, suc, ◌+◌, ◌-◌, ◌*◌, ◌/◌, ◌%◌, ◌<◌, ◌≤◌, ◌⊎◌, inl, inr, bit_and, List, [], ◌∷◌, ◌++◌, length, get_or, map, ap, subst, ◌∙◌, arith, rules}
use Rattle.std.specs.List.{All, range_with_len}
use Rattle.std.specs.Simd.Lanes.{chunk, put_chunk, zip2}
use Rattle.std.proofs.lemmas.Bool.{cases_lt}
use Rattle.std.proofs.lemmas.Nat.{and_le_l, and_le_r}
use Rattle.std.proofs.lemmas.List.{get_or-map, get_or_append_left}
use Rattle.std.proofs.lemmas.List.Elements.{All-get_or}
use Rattle.std.proofs.lemmas.List.FromFn.{get_or-range_with_len}
use Rattle.std.proofs.lemmas.Simd.{get_or-chunk, length-chunk, get_or-put_chunk_below, get_or-put_chunk_at, get_or-zip2}
use Rattle.mlt_base.specs.Picture.{on_black}
use Rattle.mlt_image.specs.Packed.{packed}

-- where each byte comes from: the colours first, then the alphas
abbrev pub places : List ℕ
places = 0 ∷ 1 ∷ 2 ∷ 4 ∷ 5 ∷ 6 ∷ 8 ∷ 9 ∷ 10 ∷ 12 ∷ 13 ∷ 14 ∷ 3 ∷ 7 ∷ 11 ∷ 15 ∷ []

abbrev place : ℕ → ℕ
place j = j / 3 * 4 + j % 3

places_are : All (λ j. get_or places j 0 ≡ place j) (range_with_len 0 12)
places_are = search rules

place_is : (j : ℕ) → j < 12 → get_or places j 0 ≡ place j
place_is j h = subst (λ (i : ℕ). get_or places i 0 ≡ place i) (get_or-range_with_len 0 12 j 0 h ∙ omega arith) (All-get_or (λ j. get_or places j 0 ≡ place j) (range_with_len 0 12) j 0 h places_are)

-- the sixteen bytes, twice, as a rearrangement reads them
abbrev pub lanes : List ℕ → ℕ → List ℕ
lanes src at = chunk at 16 src ++ chunk at 16 src

lane_is : (src : List ℕ) (at i : ℕ) → at + 16 ≤ length src → i < 16 → get_or (lanes src at) i 0 ≡ get_or src (at + i) 0
lane_is src at i room h =
    let long : length (chunk at 16 src) ≡ 16 = length-chunk at 16 src room in
    get_or_append_left (chunk at 16 src) _ 0 i (omega arith) ∙ get_or-chunk at 16 src i 0 h

-- an opaque colour stays
opaque_is : (colour alpha : ℕ) → alpha ≡ 255 → colour ≡ on_black colour alpha
opaque_is colour alpha e = rw e (omega arith)

-- the bytes of four pixels, in their new places
abbrev pub moved : List ℕ → ℕ → List ℕ
moved src at = map (λ k. get_or (lanes src at) k 0) places

-- colour k of a picture
abbrev pub colour : List ℕ → ℕ → ℕ
colour src k = get_or src (k / 3 * 4 + k % 3) 0

-- byte j of the twelve is a colour
moved_is : (src : List ℕ) (p j : ℕ) → p * 4 + 16 ≤ length src → j < 12 → get_or (moved src (p * 4)) j 0 ≡ colour src (p * 3 + j)
moved_is src p j room h =
    let same : p * 4 + place j ≡ (p * 3 + j) / 3 * 4 + (p * 3 + j) % 3 = omega arith in
    get_or-map (λ k. get_or (lanes src (p * 4)) k 0) places j 0 0 (omega arith)
    ∙ ap (λ k. get_or (lanes src (p * 4)) k 0) (place_is j h)
    ∙ lane_is src (p * 4) (place j) room (omega arith)
    ∙ ap (λ k. get_or src k 0) same

-- stored behind colours that were moved, they are moved too
stored_if : (src dst : List ℕ) (low p k : ℕ) → p * 4 + 16 ≤ length src → p * 3 + 16 ≤ length dst
    → ((k : ℕ) → low * 3 ≤ k → k < p * 3 → get_or dst k 0 ≡ colour src k)
    → low * 3 ≤ k → k < (p + 4) * 3 → (k < p * 3) ⊎ (p * 3 ≤ k) → get_or (put_chunk (p * 3) dst (moved src (p * 4))) k 0 ≡ colour src k
stored_if src dst low p k room space done from lt (inl below) = get_or-put_chunk_below (p * 3) dst (moved src (p * 4)) k 0 below ∙ done k from below
stored_if src dst low p k room space done from lt (inr above) =
    let here : k ≡ p * 3 + (k - p * 3) = omega arith in
    rw here (get_or-put_chunk_at (p * 3) dst (moved src (p * 4)) (k - p * 3) 0 (omega arith) space ∙ moved_is src p (k - p * 3) room (omega arith))

pub stored : (src dst : List ℕ) (low p k : ℕ) → p * 4 + 16 ≤ length src → p * 3 + 16 ≤ length dst
    → ((k : ℕ) → low * 3 ≤ k → k < p * 3 → get_or dst k 0 ≡ colour src k)
    → low * 3 ≤ k → k < (p + 4) * 3 → get_or (put_chunk (p * 3) dst (moved src (p * 4))) k 0 ≡ colour src k
stored src dst low p k room space done from lt = stored_if src dst low p k room space done from lt (cases_lt k (p * 3))

-- ---- the bits that the bytes have in common which were loaded, lane by lane

-- no alpha of these pixels, each fourth of which is in one lane, is less than those bits
abbrev pub AreCommon : (src : List ℕ) (low p : ℕ) → List ℕ → Type 0
AreCommon src low p common =
    (i q : ℕ) → i < 4 → low ≤ q → q < p → q % 4 ≡ (low + i) % 4 → get_or common (i * 4 + 3) 0 ≤ get_or src (q * 4 + 3) 0

-- with four more
pub common_more : (src common : List ℕ) (low p : ℕ) → length common ≡ 16 → low ≤ p → (p - low) % 4 ≡ 0 → p * 4 + 16 ≤ length src
    → AreCommon src low p common → AreCommon src low (p + 4) (zip2 bit_and common (chunk (p * 4) 16 src))
common_more src common low p long from fours room so_far i q small above below same = by (cases_lt q p) where
  chunk_long : length (chunk (p * 4) 16 src) ≡ 16
  chunk_long = length-chunk (p * 4) 16 src room

  lane : ℕ
  lane = i * 4 + 3

  is : get_or (zip2 bit_and common (chunk (p * 4) 16 src)) lane 0 ≡ bit_and (get_or common lane 0) (get_or src (p * 4 + lane) 0)
  is =
      get_or-zip2 bit_and common (chunk (p * 4) 16 src) lane 0 0 0 (omega (arith, long)) (omega (arith, chunk_long))
      ∙ ap (bit_and (get_or common lane 0)) (get_or-chunk (p * 4) 16 src lane 0 (omega arith))

  by : (q < p) ⊎ (p ≤ q) → get_or (zip2 bit_and common (chunk (p * 4) 16 src)) lane 0 ≤ get_or src (q * 4 + 3) 0
  by (inl before) = omega (arith, is, and_le_l (get_or common lane 0) (get_or src (p * 4 + lane) 0), so_far i q small above before same)
  by (inr here) =
      let at : p * 4 + lane ≡ q * 4 + 3 = omega arith in
      omega (arith, is, and_le_r (get_or common lane 0) (get_or src (p * 4 + lane) 0), ap (λ k. get_or src k 0) at)

-- all four of those lanes
four_lanes : (common : List ℕ) → 255 ≤ get_or common 3 0 → 255 ≤ get_or common 7 0 → 255 ≤ get_or common 11 0 → 255 ≤ get_or common 15 0 → (i : ℕ) → i < 4 → 255 ≤ get_or common (i * 4 + 3) 0
four_lanes common a b c d zero lt = a
four_lanes common a b c d (suc zero) lt = b
four_lanes common a b c d (suc (suc zero)) lt = c
four_lanes common a b c d (suc (suc (suc zero))) lt = d
four_lanes common a b c d (suc (suc (suc (suc i)))) lt = absurd (omega arith)

-- where they have all bits, the colours that were moved are packed
pub all_opaque : (src dst common : List ℕ) (low p : ℕ) → ((k : ℕ) → get_or src k 0 ≤ 255) → AreCommon src low p common
    → 255 ≤ get_or common 3 0 → 255 ≤ get_or common 7 0 → 255 ≤ get_or common 11 0 → 255 ≤ get_or common 15 0
    → ((k : ℕ) → low * 3 ≤ k → k < p * 3 → get_or dst k 0 ≡ colour src k)
    → (k : ℕ) → low * 3 ≤ k → k < p * 3 → get_or dst k 0 ≡ packed src k
all_opaque src dst common low p bytes is a b c d done k from lt =
    let q : ℕ = k / 3 in let i : ℕ = (q - low) % 4 in
    let most : get_or common (i * 4 + 3) 0 ≤ get_or src (q * 4 + 3) 0 = is i q (omega arith) (omega arith) (omega arith) (omega arith) in
    let opaque : get_or src (q * 4 + 3) 0 ≡ 255 = omega (arith, most, four_lanes common a b c d i (omega arith), bytes (q * 4 + 3)) in
    done k from lt ∙ opaque_is (colour src k) (get_or src (q * 4 + 3) 0) opaque
