-- Whole numbers: what is read is one, and each that fits is read.
use Rattle.std.proofs.Common.{◌≡◌, ℕ, zero, suc, ◌+◌, ◌^◌, ◌≤◌, Bool, true, false, cond, eqb, ltb, leb, List, [], ◌∷◌, length, Ok, Err, inl, inr, refl, sym, ap, subst, ◌∙◌, arith}
use Rattle.std.specs.Prelude.{ℤ, pos, neg_ℤ, FitsSigned}
use Rattle.std.specs.Int.{w64}
use Rattle.std.proofs.lemmas.Bool.{cases_lt, eqb-true, ne_eqb, ltb-true, leb-true, lt-ltb, le-ltb, le-leb, lt-leb}
use Rattle.std.proofs.lemmas.List.{append-nil}
use Rattle.mlt_base.specs.declared.fault.NumFault.TheVariants.{TooLarge}
use Rattle.mlt_base.specs.Reading.{IsNumeral, number, digits_at, end_at}
use Rattle.mlt_base.specs.Steps.{◌>>=◌}
use Rattle.mlt_base.specs.Whole.{digits_to_end, positive, negative, whole}
use Rattle.mlt_base.specs.Grammar.{IsWhole, whole_text, whole_value}
use Rattle.mlt_base.proofs.Forms.{bind_ok, ok_is, digits_at-takes, digits_at-again, end_at-takes}

to_end_takes : (at : ℕ) (bytes digits : List ℕ) → digits_to_end at bytes ≡ Ok digits → IsNumeral bytes × (digits ≡ bytes)
unfolding digits_to_end
to_end_takes at [] digits e = absurd cc
to_end_takes at (b ∷ bytes) digits e =
    let first = bind_ok (digits_at at (b ∷ bytes)) (λ x. end_at x.1 x.2 >>= λ end. Ok x.0) digits e in
    let x = first.0 in
    let second = bind_ok (end_at x.1 x.2) (λ end. Ok x.0) digits first.2 in
    let t = digits_at-takes at (b ∷ bytes) x first.1 in
    let nothing : x.2 ≡ [] = end_at-takes x.1 x.2 second.0 second.1 in
    let same : x.0 ≡ b ∷ bytes = sym (t.parts ∙ rw nothing (append-nil x.0)) in
    (subst IsNumeral same t.numeral, sym (ok_is x.0 digits second.2) ∙ same)

to_end_again : (at : ℕ) (digits : List ℕ) → IsNumeral digits → digits_to_end at digits ≡ Ok digits
unfolding digits_to_end end_at
to_end_again at [] h = absurd (omega (arith, h.0))
to_end_again at (b ∷ bytes) h =
    let one : digits_at at (b ∷ bytes) ≡ Ok (b ∷ bytes, at + length (b ∷ bytes), []) = ap (digits_at at) (sym (append-nil (b ∷ bytes))) ∙ digits_at-again at (b ∷ bytes) [] h refl in
    rw one refl

positive_takes : (n : ℕ) (z : ℤ) → positive n ≡ Ok z → (z ≡ pos n) × FitsSigned w64 z
unfolding positive
positive_takes n z e = go (ltb n (2 ^ 63)) refl e
  where
    go : (t : Bool) → ltb n (2 ^ 63) ≡ t → cond t (Ok (pos n)) (Err TooLarge) ≡ Ok z → (z ≡ pos n) × FitsSigned w64 z
    go true h e = let same : pos n ≡ z = ok_is (pos n) z e in (sym same, subst (λ (y : ℤ). FitsSigned w64 y) same (record { sfits = ltb-true n (2 ^ 63) h }))
    go false h e = absurd cc

negative_fits : (n : ℕ) → n ≤ 2 ^ 63 → FitsSigned w64 (neg_ℤ (pos n))
negative_fits zero h = record { sfits = omega arith }
negative_fits (suc n) h = record { sfits = omega arith }

negative_limit : (n : ℕ) → FitsSigned w64 (neg_ℤ (pos n)) → n ≤ 2 ^ 63
negative_limit zero h = omega arith
negative_limit (suc n) h = omega (arith, h.sfits)

negative_takes : (n : ℕ) (z : ℤ) → negative n ≡ Ok z → (z ≡ neg_ℤ (pos n)) × FitsSigned w64 z
unfolding negative
negative_takes n z e = go (leb n (2 ^ 63)) refl e
  where
    go : (t : Bool) → leb n (2 ^ 63) ≡ t → cond t (Ok (neg_ℤ (pos n))) (Err TooLarge) ≡ Ok z → (z ≡ neg_ℤ (pos n)) × FitsSigned w64 z
    go true h e = let same : neg_ℤ (pos n) ≡ z = ok_is (neg_ℤ (pos n)) z e in (sym same, subst (λ (y : ℤ). FitsSigned w64 y) same (negative_fits n (leb-true n (2 ^ 63) h)))
    go false h e = absurd cc

pub whole_takes : (text : List ℕ) (z : ℤ) → whole text ≡ Ok z → IsWhole text z × FitsSigned w64 z
unfolding whole
whole_takes [] z e = absurd cc
whole_takes (b ∷ bytes) z e = go (eqb b 45) refl e
  where
    go : (t : Bool) → eqb b 45 ≡ t → cond t (digits_to_end 1 bytes >>= λ digits. negative (number digits)) (digits_to_end 0 (b ∷ bytes) >>= λ digits. positive (number digits)) ≡ Ok z → IsWhole (b ∷ bytes) z × FitsSigned w64 z
    go true h e =
        let first = bind_ok (digits_to_end 1 bytes) (λ digits. negative (number digits)) z e in
        let d = to_end_takes 1 bytes first.0 first.1 in
        let v = negative_takes (number first.0) z first.2 in
        ((true, bytes, d.0, ap (λ (m : ℕ). m ∷ bytes) (eqb-true b 45 h), v.0 ∙ ap (λ (ds : List ℕ). neg_ℤ (pos (number ds))) d.1), v.1)
    go false h e =
        let first = bind_ok (digits_to_end 0 (b ∷ bytes)) (λ digits. positive (number digits)) z e in
        let d = to_end_takes 0 (b ∷ bytes) first.0 first.1 in
        let v = positive_takes (number first.0) z first.2 in
        ((false, b ∷ bytes, d.0, refl, v.0 ∙ ap (λ (ds : List ℕ). pos (number ds)) d.1), v.1)

-- without regard to its size
pub whole_again : (negative_sign : Bool) (digits : List ℕ) → IsNumeral digits → whole (whole_text negative_sign digits) ≡ cond negative_sign (negative (number digits)) (positive (number digits))
unfolding whole
whole_again true digits h = rw (to_end_again 1 digits h) refl
whole_again false [] h = absurd (omega (arith, h.0))
whole_again false (b ∷ bytes) h =
    let other : eqb b 45 ≡ false = ne_eqb b 45 (λ e. omega (arith, h.1.0)) in
    rw (other, to_end_again 0 (b ∷ bytes) h) refl

pub whole_accepted : (text : List ℕ) (z : ℤ) → IsWhole text z → FitsSigned w64 z → whole text ≡ Ok z
unfolding positive negative
whole_accepted text z (sign, digits, numeral, spelled, is) fits = ap whole spelled ∙ (whole_again sign digits numeral ∙ go sign is fits)
  where
    go : (sign : Bool) → z ≡ whole_value sign digits → FitsSigned w64 z → cond sign (negative (number digits)) (positive (number digits)) ≡ Ok z
    go true is fits = let small = negative_limit (number digits) (subst (λ (y : ℤ). FitsSigned w64 y) is fits) in rw (le-leb (number digits) (2 ^ 63) small, ← is) refl
    go false is fits = let small = (subst (λ (y : ℤ). FitsSigned w64 y) is fits).sfits in rw (lt-ltb (number digits) (2 ^ 63) small, ← is) refl

pub whole_large : (text : List ℕ) (z : ℤ) → IsWhole text z → ¬ FitsSigned w64 z → whole text ≡ Err TooLarge
unfolding positive negative
whole_large text z (sign, digits, numeral, spelled, is) large = ap whole spelled ∙ (whole_again sign digits numeral ∙ go sign is large)
  where
    go : (sign : Bool) → z ≡ whole_value sign digits → ¬ FitsSigned w64 z → cond sign (negative (number digits)) (positive (number digits)) ≡ Err TooLarge
    go true is large =
        elim (cases_lt (2 ^ 63) (number digits)) [
          | inl lt ↦ rw (lt-leb (number digits) (2 ^ 63) lt) refl
          | inr le ↦ absurd (large (subst (λ (y : ℤ). FitsSigned w64 y) (sym is) (negative_fits (number digits) le)))
        ]
    go false is large =
        elim (cases_lt (number digits) (2 ^ 63)) [
          | inl lt ↦ absurd (large (subst (λ (y : ℤ). FitsSigned w64 y) (sym is) (record { sfits = lt })))
          | inr le ↦ rw (le-ltb (number digits) (2 ^ 63) le) refl
        ]
