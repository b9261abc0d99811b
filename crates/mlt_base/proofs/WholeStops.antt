-- Whole numbers: the texts that are too short, and the place where the others can't go on.
use Rattle.std.proofs.Common.{◌≡◌, ℕ, ◌^◌, ◌⊎◌, inl, inr, Bool, true, false, cond, eqb, ltb, leb, List, [], ◌∷◌, Ok, Err, refl, sym, ap, subst, ◌∙◌, arith}
use Rattle.std.specs.Prelude.{ℤ, pos, neg_ℤ, FitsSigned}
use Rattle.std.specs.Int.{w64}
use Rattle.std.proofs.lemmas.Bool.{eqb-true}
use Rattle.mlt_base.specs.declared.fault.NumFault.TheVariants.{Empty, TooLarge}
use Rattle.mlt_base.specs.Reading.{IsNumeral, number, digits_at, end_at}
use Rattle.mlt_base.specs.Steps.{◌>>=◌}
use Rattle.mlt_base.specs.Stop.{Texts}
use Rattle.mlt_base.specs.Whole.{digits_to_end, positive, negative, whole}
use Rattle.mlt_base.specs.Grammar.{IsWhole, whole_value}
use Rattle.mlt_base.proofs.Stops.{Told, Missing, Never, IsNone, Sized, first_is, told_behind, told_then}
use Rattle.mlt_base.proofs.NumeralStops.{numeral_told}
use Rattle.mlt_base.proofs.WholeForms.{whole_again, whole_accepted}

-- one or more digits and nothing behind them
to_end_told : (at : ℕ) (bytes : List ℕ) → Told IsNone IsNumeral (digits_to_end at) at bytes
unfolding digits_to_end
to_end_told at [] = Missing refl
to_end_told at (b ∷ bytes) =
    told_behind IsNone IsNumeral Never IsNumeral (digits_to_end at) (λ other. digits_at at other >>= λ x. end_at x.1 x.2 >>= λ end. Ok x.0) at [] (b ∷ bytes)
    (λ other e. let (more, is) = first_is other b e in ap (digits_to_end at) is ∙ ap (λ (l : List ℕ). digits_at at l >>= λ x. end_at x.1 x.2 >>= λ end. Ok x.0) (sym is))
    (λ other h. absurd h) (λ other h. h)
    (subst (λ (n : ℕ). Told Never IsNumeral (λ other. digits_at at other >>= λ x. end_at x.1 x.2 >>= λ end. Ok x.0) n (b ∷ bytes)) (omega arith) (numeral_told at (b ∷ bytes)))

-- nothing stands where a whole number should
abbrev pub LacksDigits : List ℕ → Type 0
LacksDigits text = (text ≡ []) ⊎ (text ≡ 45 ∷ [])

-- a whole number
pub whole_told : (text : List ℕ) → Told LacksDigits (Texts IsWhole) whole 0 text
unfolding whole
whole_told [] = Missing (inl refl)
whole_told (b ∷ bytes) = go (eqb b 45) refl
  where
    go : (t : Bool) → eqb b 45 ≡ t → Told LacksDigits (Texts IsWhole) whole 0 (b ∷ bytes)
    go true h =
        subst (Told LacksDigits (Texts IsWhole) whole 0) (ap (λ (c : ℕ). c ∷ bytes) (sym (eqb-true b 45 h)))
        (told_behind LacksDigits (Texts IsWhole) IsNone IsNumeral whole (λ other. digits_to_end 1 other >>= λ digits. negative (number digits)) 0 (45 ∷ []) bytes
        (λ other e. refl) (λ other e. inr (ap (λ (l : List ℕ). 45 ∷ l) e)) (λ other numeral. (whole_value true other, (true, other, numeral, refl, refl)))
        (told_then IsNone IsNumeral (digits_to_end 1) (λ digits. negative (number digits)) 1 bytes (to_end_told 1 bytes)))
    go false h =
        told_behind LacksDigits (Texts IsWhole) IsNone IsNumeral whole (λ other. digits_to_end 0 other >>= λ digits. positive (number digits)) 0 [] (b ∷ bytes)
        (λ other e. let (more, is) = first_is other b e in ap whole is ∙ (rw h refl ∙ ap (λ (l : List ℕ). digits_to_end 0 l >>= λ digits. positive (number digits)) (sym is)))
        (λ other e. inl e) (λ other numeral. (whole_value false other, (false, other, numeral, refl, refl)))
        (told_then IsNone IsNumeral (digits_to_end 0) (λ digits. positive (number digits)) 0 (b ∷ bytes) (to_end_told 0 (b ∷ bytes)))

-- nothing is there, so that is told
pub whole_missing : (text : List ℕ) → LacksDigits text → whole text ≡ Err Empty
unfolding whole digits_to_end
whole_missing text (inl e) = ap whole e
whole_missing text (inr e) = ap whole e

-- either is read, or is too large
up : (n : ℕ) → Sized (positive n)
unfolding positive
up n = go (ltb n (2 ^ 63))
  where
    go : (t : Bool) → Sized (cond t (Ok (pos n)) (Err TooLarge))
    go true = inl (pos n, refl)
    go false = inr refl

down : (n : ℕ) → Sized (negative n)
unfolding negative
down n = go (leb n (2 ^ 63))
  where
    go : (t : Bool) → Sized (cond t (Ok (neg_ℤ (pos n))) (Err TooLarge))
    go true = inl (neg_ℤ (pos n), refl)
    go false = inr refl

-- a whole number is read, or is too large
pub whole_sized : (text : List ℕ) → Texts IsWhole text → Sized (whole text)
whole_sized text (z, (sign, digits, numeral, spelled, is)) = subst Sized (sym (ap whole spelled ∙ whole_again sign digits numeral)) (go sign)
  where
    go : (sign : Bool) → Sized (cond sign (negative (number digits)) (positive (number digits)))
    go true = down (number digits)
    go false = up (number digits)

-- a number that is too large doesn't fit
pub whole_unfit : (text : List ℕ) (z : ℤ) → IsWhole text z → whole text ≡ Err TooLarge → ¬ FitsSigned w64 z
whole_unfit text z is e fits = let read = whole_accepted text z is fits in absurd cc
