-- One pixel again and again, byte by byte.
use Rattle.std.proofs.Common.{ℕ, ◌≡◌, ◌+◌, ◌-◌, ◌*◌, ◌%◌, ◌<◌, ◌≤◌, zero, suc, min, Bool, true, false, ltb, List, [], ◌∷◌, ◌++◌, length, get_or, take, drop, replicate, refl, sym, ap, ◌∙◌, arith, length-append, length-take, length-drop}
use Rattle.std.specs.List.{concat}
use Rattle.std.proofs.Math.Nat.{add-mod_left, add-mod-mod, mod-eq_of_lt, suc-mul}
use Rattle.std.proofs.lemmas.Bool.Decides.{nat_tests}
use Rattle.std.proofs.lemmas.List.{ext_get_or, get_or-drop, get_or-take, get_or_append_left, get_or-append_right, take-append-drop}

-- the first so many bytes are those of the pixel again and again
pub record IsTiled (pixel bytes : List ℕ) (count : ℕ) : Type 0 where
  pub each : (k : ℕ) → k < count → get_or bytes k 0 ≡ get_or pixel (k % length pixel) 0

-- whole pixels later stands the same byte
later : (k whole size : ℕ) → whole % size ≡ 0 → (k + whole) % size ≡ k % size
later k whole size h = sym (add-mod-mod k whole size) ∙ ap (λ m. (k + m) % size) h ∙ ap (λ m. m % size) (omega arith)

module _ (pixel old new : List ℕ) (filled more : ℕ) (enough : more ≤ filled) (room : filled + more ≤ length old)
    (copied : new ≡ take filled old ++ (take more old ++ drop (filled + more) old)) where
  pub length_more : length new ≡ length old
  length_more =
      ap length copied ∙ simp (length-append, length-take, length-drop) (omega arith)

  front_long : length (take filled old) ≡ filled
  front_long = omega (arith, length-take filled old)

  front : (k : ℕ) → k < filled → get_or new k 0 ≡ get_or old k 0
  front k h =
      ap (λ bytes. get_or bytes k 0) copied
      ∙ get_or_append_left (take filled old) (take more old ++ drop (filled + more) old) 0 k (omega (arith, front_long))
      ∙ get_or-take filled old k 0 h

  back : (k : ℕ) → k < more → get_or new (k + filled) 0 ≡ get_or old k 0
  back k h =
      ap (λ bytes. get_or bytes (k + filled) 0) copied
      ∙ get_or-append_right (take filled old) (take more old ++ drop (filled + more) old) filled (k + filled) 0 front_long (omega arith)
      ∙ ap (λ j. get_or (take more old ++ drop (filled + more) old) j 0) (omega arith)
      ∙ get_or_append_left (take more old) (drop (filled + more) old) 0 k (omega (arith, length-take more old))
      ∙ get_or-take more old k 0 h

  -- the first bytes are there once more
  pub tiled_more : filled % length pixel ≡ 0 → IsTiled pixel old filled → IsTiled pixel new (filled + more)
  tiled_more whole tiled = record { each = λ k below. by k below (ltb k filled) refl } where
    by : (k : ℕ) → k < filled + more → (t : Bool) → ltb k filled ≡ t → get_or new k 0 ≡ get_or pixel (k % length pixel) 0
    by k below true test =
        let h : k < filled = grind (arith, nat_tests, test) in
        front k h ∙ tiled.each k h
    by k below false test =
        let h : filled ≤ k = grind (arith, nat_tests, test) in
        let again : k ≡ k - filled + filled = omega arith in
        ap (λ j. get_or new j 0) again
        ∙ back (k - filled) (omega arith)
        ∙ tiled.each (k - filled) (omega arith)
        ∙ ap (λ j. get_or pixel j 0) (sym (later (k - filled) filled (length pixel) whole) ∙ ap (λ j. j % length pixel) (sym again))

-- how much is copied: all that is filled, or a block, or all that is left
pub whole_more : (filled block long more size : ℕ) → more ≡ min (min filled block) (long - filled) → filled % size ≡ 0 → block % size ≡ 0 → filled + more < long → (filled + more) % size ≡ 0
whole_more filled block long more size is whole block_whole h = by (ltb block filled) refl where
  by : (t : Bool) → ltb block filled ≡ t → (filled + more) % size ≡ 0
  by true test =
      let b : block < filled = grind (arith, nat_tests, test) in
      let e : more ≡ block = omega arith in
      later filled more size (ap (λ m. m % size) e ∙ block_whole) ∙ whole
  by false test =
      let b : filled ≤ block = grind (arith, nat_tests, test) in
      let e : more ≡ filled = omega arith in
      later filled more size (ap (λ m. m % size) e ∙ whole) ∙ whole

-- all bytes
pub tiled_whole : (pixel bytes : List ℕ) (count : ℕ) → 0 < length pixel → length bytes ≡ count * length pixel → IsTiled pixel bytes (length bytes) → bytes ≡ concat (replicate count pixel)
tiled_whole pixel [] zero some long tiled = refl
tiled_whole pixel (b ∷ bytes) zero some long tiled = absurd (omega arith)
tiled_whole pixel bytes (suc count) some long tiled =
    let size = length pixel in
    let more : length bytes ≡ count * size + size = long ∙ suc-mul count size in
    let front : length (take size bytes) ≡ size = omega (arith, length-take size bytes) in
    let here : take size bytes ≡ pixel = ext_get_or 0 (take size bytes) pixel front (λ k h. first k (omega arith)) in
    let rest : drop size bytes ≡ concat (replicate count pixel) =
    tiled_whole pixel (drop size bytes) count some (omega (arith, length-drop size bytes)) (record { each = λ k h. after k (omega (arith, length-drop size bytes)) }) in
    sym (take-append-drop size bytes) ∙ ap (λ xs. xs ++ drop size bytes) here ∙ ap (λ xs. pixel ++ xs) rest
  where
    first : (k : ℕ) → k < length pixel → get_or (take (length pixel) bytes) k 0 ≡ get_or pixel k 0
    first k h =
        let within : length pixel ≤ length bytes = omega (arith, suc-mul count (length pixel)) in
        get_or-take (length pixel) bytes k 0 h ∙ tiled.each k (omega arith) ∙ ap (λ j. get_or pixel j 0) (mod-eq_of_lt h)

    after : (k : ℕ) → length pixel + k < length bytes → get_or (drop (length pixel) bytes) k 0 ≡ get_or pixel (k % length pixel) 0
    after k h =
        get_or-drop (length pixel) bytes k 0 ∙ tiled.each (length pixel + k) h ∙ ap (λ j. get_or pixel j 0) (add-mod_left (length pixel) k)
