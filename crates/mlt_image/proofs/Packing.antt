-- Pictures over black: the list of the bytes, and the bytes one by one.
use Rattle.std.proofs.Common.{◌≡◌, ℕ, zero, suc, ◌+◌, ◌*◌, ◌/◌, ◌%◌, ◌<◌, List, [], ◌∷◌, length, get_or, refl, sym, ◌∙◌, arith}
use Rattle.std.proofs.lemmas.List.{ext_get_or}
use Rattle.mlt_base.specs.Picture.{over_black}
use Rattle.mlt_image.specs.Packed.{packed}

-- behind a pixel the bytes are those of the rest
packed_more : (r g b a k : ℕ) (xs : List ℕ) → packed (r ∷ g ∷ b ∷ a ∷ xs) (suc (suc (suc k))) ≡ packed xs k
packed_more r g b a k xs =
    let colour : suc (suc (suc k)) / 3 * 4 + suc (suc (suc k)) % 3 ≡ suc (suc (suc (suc (k / 3 * 4 + k % 3)))) = omega arith in
    let alpha : suc (suc (suc k)) / 3 * 4 + 3 ≡ suc (suc (suc (suc (k / 3 * 4 + 3)))) = omega arith in
    rw (colour, alpha) refl

-- three bytes a pixel
length-over_black : (n : ℕ) (xs : List ℕ) → length xs ≡ n * 4 → length (over_black xs) ≡ n * 3
length-over_black zero [] e = refl
length-over_black zero (r ∷ xs) e = absurd (omega arith)
length-over_black (suc n) [] e = absurd (omega arith)
length-over_black (suc n) (r ∷ []) e = absurd (omega arith)
length-over_black (suc n) (r ∷ g ∷ []) e = absurd (omega arith)
length-over_black (suc n) (r ∷ g ∷ b ∷ []) e = absurd (omega arith)
length-over_black (suc n) (r ∷ g ∷ b ∷ a ∷ xs) e = omega (arith, length-over_black n xs (omega arith))

-- byte k
get_or-over_black : (n k : ℕ) (xs : List ℕ) → length xs ≡ n * 4 → k < n * 3 → get_or (over_black xs) k 0 ≡ packed xs k
get_or-over_black zero k xs e lt = absurd (omega arith)
get_or-over_black (suc n) k [] e lt = absurd (omega arith)
get_or-over_black (suc n) k (r ∷ []) e lt = absurd (omega arith)
get_or-over_black (suc n) k (r ∷ g ∷ []) e lt = absurd (omega arith)
get_or-over_black (suc n) k (r ∷ g ∷ b ∷ []) e lt = absurd (omega arith)
get_or-over_black (suc n) zero (r ∷ g ∷ b ∷ a ∷ xs) e lt = refl
get_or-over_black (suc n) (suc zero) (r ∷ g ∷ b ∷ a ∷ xs) e lt = refl
get_or-over_black (suc n) (suc (suc zero)) (r ∷ g ∷ b ∷ a ∷ xs) e lt = refl
get_or-over_black (suc n) (suc (suc (suc k))) (r ∷ g ∷ b ∷ a ∷ xs) e lt =
    get_or-over_black n k xs (omega arith) (omega arith) ∙ sym (packed_more r g b a k xs)

-- so a list of so many bytes, each of which is as it should be, is the picture over black
pub over_black_is : (n : ℕ) (xs ys : List ℕ) → length xs ≡ n * 4 → length ys ≡ n * 3 → ((k : ℕ) → k < n * 3 → get_or ys k 0 ≡ packed xs k) → ys ≡ over_black xs
over_black_is n xs ys from to each =
    ext_get_or 0 ys (over_black xs) (to ∙ sym (length-over_black n xs from)) (λ k lt. each k (omega arith) ∙ sym (get_or-over_black n k xs from (omega arith)))
