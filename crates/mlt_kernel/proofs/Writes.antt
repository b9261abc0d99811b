-- Four bytes that are written at a place of a list: what stands there then, and what stays.
use Rattle.std.proofs.Common.{◌≡◌, ◌≢◌, ℕ, zero, suc, ◌+◌, ◌-◌, ◌<◌, ◌≤◌, ◌⊎◌, inl, inr, List, [], ◌∷◌, length, get_or, set, sym, ◌∙◌, ap, arith}
use Rattle.std.proofs.lemmas.List.{length-set, get_or-set_same, get_or-set_other, ext_get_or}
use Rattle.std.proofs.lemmas.Simd.{length-put_chunk, get_or-put_chunk_below, get_or-put_chunk_at, get_or-put_chunk_above}
use Rattle.std.proofs.lemmas.Bool.{cases_lt}
use lib.Lanes.{put_chunk}
use Rattle.mlt_kernel.specs.Words.{four}

-- the list keeps its length
pub length-four : (xs : List ℕ) (i a b c d : ℕ) → length (four xs i a b c d) ≡ length xs
length-four xs i a b c d = simp length-set

-- a byte at none of the four places stays
four_apart : (xs : List ℕ) (i a b c d k : ℕ) → k ≢ i → k ≢ i + 1 → k ≢ i + 2 → k ≢ i + 3 → get_or (four xs i a b c d) k 0 ≡ get_or xs k 0
four_apart xs i a b c d k first second third fourth =
    get_or-set_other _ (i + 3) k d 0 fourth ∙ get_or-set_other _ (i + 2) k c 0 third ∙ get_or-set_other _ (i + 1) k b 0 second ∙ get_or-set_other xs i k a 0 first

-- a byte before the four or behind them stays
pub four_other : (xs : List ℕ) (i a b c d k : ℕ) → (k < i) ⊎ (i + 4 ≤ k) → get_or (four xs i a b c d) k 0 ≡ get_or xs k 0
four_other xs i a b c d k (inl lt) = four_apart xs i a b c d k (omega arith) (omega arith) (omega arith) (omega arith)
four_other xs i a b c d k (inr le) = four_apart xs i a b c d k (omega arith) (omega arith) (omega arith) (omega arith)

-- the four bytes
pub four_at : (xs : List ℕ) (i a b c d : ℕ) → i + 4 ≤ length xs
    → (get_or (four xs i a b c d) i 0 ≡ a) × (get_or (four xs i a b c d) (i + 1) 0 ≡ b) × (get_or (four xs i a b c d) (i + 2) 0 ≡ c) × (get_or (four xs i a b c d) (i + 3) 0 ≡ d)
four_at xs i a b c d le =
    let one = set xs i a in
    let two = set one (i + 1) b in
    let three = set two (i + 2) c in
    let len1 : length one ≡ length xs = length-set xs i a in
    let len2 : length two ≡ length xs = length-set one (i + 1) b ∙ len1 in
    let len3 : length three ≡ length xs = length-set two (i + 2) c ∙ len2 in (
      get_or-set_other three (i + 3) i d 0 (omega arith) ∙ get_or-set_other two (i + 2) i c 0 (omega arith) ∙ get_or-set_other one (i + 1) i b 0 (omega arith) ∙ get_or-set_same xs i a 0 (omega arith),
      get_or-set_other three (i + 3) (i + 1) d 0 (omega arith) ∙ get_or-set_other two (i + 2) (i + 1) c 0 (omega arith) ∙ get_or-set_same one (i + 1) b 0 (omega arith),
      get_or-set_other three (i + 3) (i + 2) d 0 (omega arith) ∙ get_or-set_same two (i + 2) c 0 (omega arith),
      get_or-set_same three (i + 3) d 0 (omega arith),
    )

-- the same where only an equation says what was written
pub put_other : (xs ys : List ℕ) (i a b c d k : ℕ) → ys ≡ four xs i a b c d → (k < i) ⊎ (i + 4 ≤ k) → get_or ys k 0 ≡ get_or xs k 0
put_other xs ys i a b c d k e apart = ap (λ l. get_or l k 0) e ∙ four_other xs i a b c d k apart

-- bytes that are F of their places before the four are so up to behind the four, if the four are
pub put_done : (F : ℕ → ℕ) (xs ys : List ℕ) (low i a b c d : ℕ) → ys ≡ four xs i a b c d → i + 4 ≤ length xs
    → ((k : ℕ) → low ≤ k → k < i → get_or xs k 0 ≡ F k) → a ≡ F i → b ≡ F (i + 1) → c ≡ F (i + 2) → d ≡ F (i + 3)
    → (k : ℕ) → low ≤ k → k < i + 4 → get_or ys k 0 ≡ F k
put_done F xs ys low i a b c d e le before ea eb ec ed k above below =
    let at = four_at xs i a b c d le in
    let other = four_other xs i a b c d k in
    grind (arith, before k, other, at.0, at.1, at.2, at.3)

-- ---- as std's store of lanes says it

-- byte j of the four
four_within : (xs : List ℕ) (i a b c d j : ℕ) → i + 4 ≤ length xs → j < 4 → get_or (four xs i a b c d) (i + j) 0 ≡ get_or (a ∷ b ∷ c ∷ d ∷ []) j 0
four_within xs i a b c d zero le lt = ap (λ k. get_or (four xs i a b c d) k 0) (omega arith) ∙ (four_at xs i a b c d le).0
four_within xs i a b c d (suc zero) le lt = (four_at xs i a b c d le).1
four_within xs i a b c d (suc (suc zero)) le lt = (four_at xs i a b c d le).2
four_within xs i a b c d (suc (suc (suc zero))) le lt = (four_at xs i a b c d le).3
four_within xs i a b c d (suc (suc (suc (suc j)))) le lt = absurd (omega arith)

-- a byte that isn't before the four lanes is the same in both
stored_from : (xs : List ℕ) (i a b c d k : ℕ) → i + 4 ≤ length xs → i ≤ k → (k < i + 4) ⊎ (i + 4 ≤ k)
    → get_or (put_chunk i xs (a ∷ b ∷ c ∷ d ∷ [])) k 0 ≡ get_or (four xs i a b c d) k 0
stored_from xs i a b c d k le from (inl lt) =
    let place : k ≡ i + (k - i) = omega arith in
    rw place (get_or-put_chunk_at i xs (a ∷ b ∷ c ∷ d ∷ []) (k - i) 0 (omega arith) le ∙ sym (four_within xs i a b c d (k - i) le (omega arith)))
stored_from xs i a b c d k le from (inr past) = get_or-put_chunk_above i xs (a ∷ b ∷ c ∷ d ∷ []) k 0 past ∙ sym (four_other xs i a b c d k (inr past))

-- and so is any byte
stored : (xs : List ℕ) (i a b c d k : ℕ) → i + 4 ≤ length xs → (k < i) ⊎ (i ≤ k)
    → get_or (put_chunk i xs (a ∷ b ∷ c ∷ d ∷ [])) k 0 ≡ get_or (four xs i a b c d) k 0
stored xs i a b c d k le (inl lt) = get_or-put_chunk_below i xs (a ∷ b ∷ c ∷ d ∷ []) k 0 lt ∙ sym (four_other xs i a b c d k (inl lt))
stored xs i a b c d k le (inr from) = stored_from xs i a b c d k le from (cases_lt k (i + 4))

-- four lanes that are stored at a place are four bytes written there
pub four_is : (xs : List ℕ) (i a b c d : ℕ) → i + 4 ≤ length xs → put_chunk i xs (a ∷ b ∷ c ∷ d ∷ []) ≡ four xs i a b c d
four_is xs i a b c d le =
    ext_get_or 0 _ _ (length-put_chunk i xs (a ∷ b ∷ c ∷ d ∷ []) ∙ sym (length-four xs i a b c d)) (λ k lt. stored xs i a b c d k le (cases_lt k i))
