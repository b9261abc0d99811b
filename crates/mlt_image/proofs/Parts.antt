-- Lists that are put together of parts.
use Rattle.std.proofs.Common.{◌≡◌, ℕ, ◌+◌, ◌-◌, ◌<◌, ◌≤◌, ◌⊎◌, inl, inr, List, ◌++◌, length, get_or, take, ap, ◌∙◌, arith, length-take}
use borrow.Rule.Slice.PartMut.{put_mid, post_of}
use Rattle.std.proofs.lemmas.Bool.{cases_lt}
use Rattle.std.proofs.lemmas.List.{get_or_append_left, get_or-append_right, get_or-take}
use Rattle.mlt_image.specs.Bordered.{IsBordered}

-- zeros, then f, then zeros
pub bordered : (left count : ℕ) (f : ℕ → ℕ) (xs ys zs : List ℕ) → length xs ≡ left → length ys ≡ count
    → ((k : ℕ) → get_or xs k 0 ≡ 0) → ((k : ℕ) → k < count → get_or ys k 0 ≡ f k) → ((k : ℕ) → get_or zs k 0 ≡ 0)
    → IsBordered left count f (xs ++ (ys ++ zs))
bordered left count f xs ys zs front middle before inside behind =
    record {
      before = λ k lt. get_or_append_left xs (ys ++ zs) 0 k (omega arith) ∙ before k;
      inside = λ j lt. get_or-append_right xs (ys ++ zs) left (left + j) 0 front (omega arith) ∙ ap (λ i. get_or (ys ++ zs) i 0) (omega arith) ∙ get_or_append_left ys zs 0 j (omega arith) ∙ inside j lt;
      behind = λ j.
          get_or-append_right xs (ys ++ zs) left (left + count + j) 0 front (omega arith)
          ∙ get_or-append_right ys zs count (left + count + j - left) 0 middle (omega arith)
          ∙ behind (left + count + j - left - count);
    }

-- what lies before a part that was written
put_before : (xs ys : List ℕ) (at count i : ℕ) → at ≤ length xs → i < at → get_or (put_mid at count xs ys) i 0 ≡ get_or xs i 0
put_before xs ys at count i room lt =
    let long : length (take at xs) ≡ at = omega (arith, length-take at xs) in
    get_or_append_left (take at xs) _ 0 i (omega arith) ∙ get_or-take at xs i 0 lt

-- what lies in it
put_inside : (xs ys : List ℕ) (at count j : ℕ) → at ≤ length xs → length ys ≡ count → j < count → get_or (put_mid at count xs ys) (at + j) 0 ≡ get_or ys j 0
put_inside xs ys at count j room long lt =
    let front : length (take at xs) ≡ at = omega (arith, length-take at xs) in
    let own : at + j - at ≡ j = omega arith in
    get_or-append_right (take at xs) _ at (at + j) 0 front (omega arith) ∙ ap (λ i. get_or (ys ++ post_of at count xs) i 0) own ∙ get_or_append_left ys _ 0 j (omega arith)

-- bytes that are F of their places before a part are so up to its end, if the part is
pub put_part : (F : ℕ → ℕ) (xs ys : List ℕ) (at count : ℕ) → at ≤ length xs → length ys ≡ count
    → ((i : ℕ) → i < at → get_or xs i 0 ≡ F i) → ((j : ℕ) → j < count → get_or ys j 0 ≡ F (at + j))
    → (i : ℕ) → i < at + count → get_or (put_mid at count xs ys) i 0 ≡ F i
put_part F xs ys at count room long before inside i lt = by (cases_lt i at) where
  by : (i < at) ⊎ (at ≤ i) → get_or (put_mid at count xs ys) i 0 ≡ F i
  by (inl below) = put_before xs ys at count i room below ∙ before i below
  by (inr above) =
      let place : i ≡ at + (i - at) = omega arith in
      rw place (put_inside xs ys at count (i - at) room long (omega arith) ∙ inside (i - at) (omega arith))
