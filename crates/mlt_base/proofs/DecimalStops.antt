-- Decimal numbers: the place where a text can't go on.
use Rattle.std.proofs.Common.{◌≡◌, ℕ, ◌+◌, ◌^◌, ◌<◌, ◌≤◌, ◌⊎◌, inl, inr, Bool, true, false, eqb, ltb, List, [], ◌∷◌, ◌++◌, length, take, drop, Err, refl, sym, ap, subst, ◌∙◌, arith, append-nil, length-append, length-drop}
use Rattle.std.proofs.lemmas.Bool.{cases_lt, eqb-true, lt-ltb}
use Rattle.std.proofs.lemmas.List.{take-append-drop, take_at, drop_at, nil_from_length}
use Rattle.mlt_base.specs.declared.fault.NumFault.TheVariants.{Empty, BadDigit, TooLarge}
use Rattle.mlt_base.specs.Reading.{held, AreDigits, digit_count, below}
use Rattle.mlt_base.specs.Stop.{Texts}
use Rattle.mlt_base.specs.Decimal.{fraction_at, point_at, decimal_parts, decimal_value, decimal}
use Rattle.mlt_base.specs.Grammar.{IsDecimal, IsDecimalText}
use Rattle.mlt_base.proofs.Forms.{AreDigits-take, AreDigits-all, digit_count-append, digit_count-le, digits_end}
use Rattle.mlt_base.proofs.DecimalForms.{parts_begin, whole_decimal}
use Rattle.mlt_base.proofs.Stops.{Told, Missing, Right, Never, IsNone, Sized, below_sized, below_unfit, first_none, first_is, some_first, first_no_digit, wrong_here, told_behind, told_then}
use Rattle.mlt_base.proofs.NumeralStops.{zero_numeral, one_more}

-- digits on both sides of the `.`, one at least
decimal_there : (text whole fraction : List ℕ) → AreDigits whole → AreDigits fraction → 0 < length whole + length fraction → IsDecimalText text whole fraction → Texts IsDecimal text
decimal_there text whole fraction hw hf some spelled = (decimal_value whole fraction, (whole, fraction, hw, hf, some, spelled, refl))

-- the reader of a fraction refuses a byte that is no digit
fraction_refuses : (at : ℕ) (whole front other : List ℕ) → AreDigits front → digit_count other ≡ 0 → 0 < length other → fraction_at at whole (front ++ other) ≡ Err (BadDigit (held (at + length front)))
unfolding fraction_at
fraction_refuses at whole front other h none some =
    let n : digit_count (front ++ other) ≡ length front = digit_count-append front other h ∙ omega (arith, none) in
    let more : ltb (length front) (length (front ++ other)) ≡ true = lt-ltb (length front) (length (front ++ other)) (omega (arith, length-append front other)) in
    rw (n, more) refl

-- and where no digit stands on either side
fraction_empty : (at : ℕ) (whole : List ℕ) → whole ≡ [] → fraction_at at whole [] ≡ Err (BadDigit (held at))
unfolding fraction_at
fraction_empty at whole none = ap (λ (w : List ℕ). fraction_at at w []) none ∙ ap (λ (n : ℕ). Err (BadDigit (held n))) (omega arith)

-- what stands behind the `.`
fraction_told : (at : ℕ) (whole fraction : List ℕ) → AreDigits whole → Told Never (λ t. Texts IsDecimal (whole ++ 46 ∷ t)) (fraction_at at whole) at fraction
fraction_told at whole fraction hw = go (cases_lt n (length fraction)) (cases_lt 0 (length whole + length fraction))
  where
    n : ℕ
    n = digit_count fraction

    front : List ℕ
    front = take n fraction

    rest : List ℕ
    rest = drop n fraction

    Good : List ℕ → Type 0
    Good t = Texts IsDecimal (whole ++ 46 ∷ t)

    go : (n < length fraction) ⊎ (length fraction ≤ n) → (0 < length whole + length fraction) ⊎ (length whole + length fraction ≤ 0) → Told Never Good (fraction_at at whole) at fraction
    go (inl less) some =
        let more = one_more front (AreDigits-take fraction) in
        subst (Told Never Good (fraction_at at whole) at) (take-append-drop n fraction)
        (told_behind Never Good Never (λ t. Good (front ++ t)) (fraction_at at whole) (λ other. Err (BadDigit (held (at + length front)))) at front rest
        (λ other e. fraction_refuses at whole front other (AreDigits-take fraction) (first_no_digit other rest e (digits_end fraction)) (some_first other rest e (omega (arith, length-drop n fraction))))
        (λ other h. h) (λ other h. h)
        (wrong_here Never (λ t. Good (front ++ t)) (λ other. Err (BadDigit (held (at + length front)))) (at + length front) rest (48 ∷ []) (λ other e. refl)
        (decimal_there (whole ++ 46 ∷ (front ++ 48 ∷ [])) whole (front ++ 48 ∷ []) hw more.1 (omega (arith, more.0)) (inr refl))))
    go (inr all) (inl some) = Right (decimal_there (whole ++ 46 ∷ fraction) whole fraction hw (AreDigits-all fraction (omega (arith, digit_count-le fraction))) some (inr refl))
    go (inr all) (inr none) =
        let no_fraction : fraction ≡ [] = nil_from_length fraction (omega arith) in
        wrong_here Never Good (fraction_at at whole) at fraction (48 ∷ [])
        (λ other e. ap (fraction_at at whole) (first_none other (e ∙ ap (take 1) no_fraction)) ∙ fraction_empty at whole (nil_from_length whole (omega arith)))
        (decimal_there (whole ++ 46 ∷ (48 ∷ [])) whole (48 ∷ []) hw zero_numeral.1 (omega arith) (inr refl))

-- what stands behind the first digits
point_told : (at : ℕ) (whole rest : List ℕ) → AreDigits whole → 0 < length whole + length rest → Told Never (λ t. Texts IsDecimal (whole ++ t)) (point_at at whole) at rest
unfolding point_at
point_told at whole [] hw some = Right (decimal_there (whole ++ []) whole [] hw tt some (inl (append-nil whole, refl)))
point_told at whole (b ∷ rest) hw some = go (eqb b 46) refl
  where
    Good : List ℕ → Type 0
    Good t = Texts IsDecimal (whole ++ t)

    go : (t : Bool) → eqb b 46 ≡ t → Told Never Good (point_at at whole) at (b ∷ rest)
    go true h =
        subst (Told Never Good (point_at at whole) at) (ap (λ (c : ℕ). c ∷ rest) (sym (eqb-true b 46 h)))
        (told_behind Never Good Never (λ t. Good (46 ∷ t)) (point_at at whole) (fraction_at (at + 1) whole) at (46 ∷ []) rest (λ other e. refl) (λ other h. h) (λ other h. h) (fraction_told (at + 1) whole rest hw))
    go false h =
        let more = one_more whole hw in
        wrong_here Never Good (point_at at whole) at (b ∷ rest) (48 ∷ [])
        (λ other e. let (behind, is) = first_is other b e in ap (point_at at whole) is ∙ rw h refl)
        (decimal_there (whole ++ 48 ∷ []) (whole ++ 48 ∷ []) [] more.1 tt (omega (arith, more.0)) (inl (refl, refl)))

-- the digits on both sides
parts_told : (at : ℕ) (text : List ℕ) → Told IsNone (Texts IsDecimal) (decimal_parts at) at text
parts_told at [] = Missing refl
parts_told at (b ∷ bytes) =
    subst (Told IsNone (Texts IsDecimal) (decimal_parts at) at) both
    (told_behind IsNone (Texts IsDecimal) Never (λ t. Texts IsDecimal (whole ++ t)) (decimal_parts at) (point_at (at + length whole) whole) at whole rest
    (λ other e. reads other (first_no_digit other rest e (digits_end text)) (lasting other e)) (λ other h. absurd h) (λ other h. h)
    (point_told (at + length whole) whole rest (AreDigits-take text) (omega (arith, length-append whole rest, ap length both))))
  where
    text : List ℕ
    text = b ∷ bytes

    whole : List ℕ
    whole = take (digit_count text) text

    rest : List ℕ
    rest = drop (digit_count text) text

    both : whole ++ rest ≡ text
    both = take-append-drop (digit_count text) text

    lasting : (other : List ℕ) → take 1 other ≡ take 1 rest → 0 < length (whole ++ other)
    lasting other e =
        elim (cases_lt 0 (length rest)) [
          | inl some ↦ omega (arith, length-append whole other, some_first other rest e some)
          | inr none ↦ omega (arith, length-append whole other, length-append whole rest, ap length both)
        ]

    reads : (other : List ℕ) → digit_count other ≡ 0 → 0 < length (whole ++ other) → decimal_parts at (whole ++ other) ≡ point_at (at + length whole) whole other
    reads other none some =
        let n : digit_count (whole ++ other) ≡ length whole = digit_count-append whole other (AreDigits-take text) ∙ omega (arith, none) in
        parts_begin at (whole ++ other) some ∙ rw (n, take_at whole other (length whole) refl, drop_at whole other (length whole) refl) refl

-- a decimal number, from any place on
pub decimal_told : (at : ℕ) (text : List ℕ) → Told IsNone (Texts IsDecimal) (decimal at) at text
unfolding decimal
decimal_told at text = told_then IsNone (Texts IsDecimal) (decimal_parts at) (λ parts. below (2 ^ 32) (decimal_value parts.0 parts.1)) at text (parts_told at text)

-- nothing is there, so that is told
pub decimal_missing : (at : ℕ) (text : List ℕ) → IsNone text → decimal at text ≡ Err Empty
unfolding decimal decimal_parts
decimal_missing at text e = ap (decimal at) e

-- a decimal number is read, or is too large
pub decimal_sized : (at : ℕ) (text : List ℕ) → Texts IsDecimal text → Sized (decimal at text)
decimal_sized at text (n, is) = subst Sized (sym (whole_decimal at text n is)) (below_sized (2 ^ 32) n)

-- a number that is too large doesn't fit
pub decimal_unfit : (at : ℕ) (text : List ℕ) (n : ℕ) → IsDecimal text n → decimal at text ≡ Err TooLarge → 2 ^ 32 ≤ n
decimal_unfit at text n is e = below_unfit (2 ^ 32) n (sym (whole_decimal at text n is) ∙ e)
