-- Where the pieces of a grammar can't go on: a numeral, a mark and the end of a text.
use Rattle.std.proofs.Common.{◌≡◌, ℕ, ◌+◌, Bool, true, false, eqb, List, [], ◌∷◌, ◌++◌, length, take, drop, Result, Ok, Err, refl, sym, ap, subst, ◌∙◌, arith, append-nil, length-append}
use Rattle.std.proofs.lemmas.Bool.{eqb-true, eqb-false, eq-eqb}
use Rattle.std.proofs.lemmas.List.{take-append-drop, length-take-le}
use Rattle.mlt_base.specs.declared.fault.NumFault.{NumFault}
use Rattle.mlt_base.specs.declared.fault.NumFault.TheVariants.{BadDigit}
use Rattle.mlt_base.specs.Reading.{held, AreDigits, IsNumeral, digit_count, digits_at, mark_at, end_at}
use Rattle.mlt_base.specs.Steps.{◌>>=◌}
use Rattle.mlt_base.proofs.Forms.{AreDigits-take, digit_count-le, digits_end, digits_at-again}
use Rattle.mlt_base.proofs.Stops.{Told, Right, Never, first_none, first_is, first_no_digit, wrong_here, told_behind}

-- ---- digits

-- the text begins with no digit, or with a numeral
pub data NumeralCase (bytes : List ℕ) : Type 0 where
  NoDigit : digit_count bytes ≡ 0 → NumeralCase bytes
  Numeral : (digits rest : List ℕ) → IsNumeral digits → digit_count rest ≡ 0 → bytes ≡ digits ++ rest → NumeralCase bytes

pub numeral_case : (bytes : List ℕ) → NumeralCase bytes
numeral_case bytes = go (eqb (digit_count bytes) 0) refl
  where
    go : (t : Bool) → eqb (digit_count bytes) 0 ≡ t → NumeralCase bytes
    go true h = NoDigit (eqb-true (digit_count bytes) 0 h)
    go false h =
        let long : length (take (digit_count bytes) bytes) ≡ digit_count bytes = length-take-le (digit_count bytes) bytes (digit_count-le bytes) in
        Numeral (take (digit_count bytes) bytes) (drop (digit_count bytes) bytes) (omega (arith, long, eqb-false (digit_count bytes) 0 h), AreDigits-take bytes) (digits_end bytes) (sym (take-append-drop (digit_count bytes) bytes))

-- no numeral is read where no digit is
pub digits_none : (at : ℕ) (bytes : List ℕ) → digit_count bytes ≡ 0 → digits_at at bytes ≡ Err (BadDigit (held at))
unfolding digits_at
digits_none at bytes none = rw none refl

-- `0` is a numeral
pub zero_numeral : IsNumeral (48 ∷ [])
zero_numeral = (omega arith, (omega arith, omega arith, tt))

-- digits and one more
pub one_more : (digits : List ℕ) → AreDigits digits → IsNumeral (digits ++ 48 ∷ [])
one_more digits h = (omega (arith, length-append digits (48 ∷ [])), all digits h)
  where
    all : (digits : List ℕ) → AreDigits digits → AreDigits (digits ++ 48 ∷ [])
    all [] h = (omega arith, omega arith, tt)
    all (b ∷ digits) h = (h.0, h.1, all digits h.2)

module _ {A : Type 0} (Good : List ℕ → Type 0) where
  -- a numeral, and then what another reader tells
  pub digits_told : (f : List ℕ × ℕ × List ℕ → Result A NumFault) (at : ℕ) (bytes more : List ℕ) → Good more
      → ((digits rest : List ℕ) → IsNumeral digits → digit_count rest ≡ 0 → bytes ≡ digits ++ rest → Told Never (λ t. Good (digits ++ t)) (λ other. f (digits, at + length digits, other)) (at + length digits) rest)
      → Told Never Good (λ other. digits_at at other >>= f) at bytes
  digits_told f at bytes more good later = go (numeral_case bytes)
    where
      go : NumeralCase bytes → Told Never Good (λ other. digits_at at other >>= f) at bytes
      go (NoDigit none) = wrong_here Never Good (λ other. digits_at at other >>= f) at bytes more (λ other e. ap (λ (r : Result (List ℕ × ℕ × List ℕ) NumFault). r >>= f) (digits_none at other (first_no_digit other bytes e none))) good
      go (Numeral digits rest numeral none is) =
          subst (Told Never Good (λ other. digits_at at other >>= f) at) (sym is)
          (told_behind Never Good Never (λ t. Good (digits ++ t)) (λ other. digits_at at other >>= f) (λ other. f (digits, at + length digits, other)) at digits rest
          (λ other e. ap (λ (r : Result (List ℕ × ℕ × List ℕ) NumFault). r >>= f) (digits_at-again at digits other numeral (first_no_digit other rest e none)))
          (λ other h. h) (λ other h. h) (later digits rest numeral none is))

  -- a mark, and then what another reader tells
  pub mark_told : (f : ℕ × List ℕ → Result A NumFault) (mark at : ℕ) (bytes more : List ℕ) → Good more
      → ((rest : List ℕ) → bytes ≡ mark ∷ rest → Told Never (λ t. Good (mark ∷ t)) (λ other. f (at + 1, other)) (at + 1) rest)
      → Told Never Good (λ other. mark_at mark at other >>= f) at bytes
  unfolding mark_at
  mark_told f mark at [] more good later = wrong_here Never Good (λ other. mark_at mark at other >>= f) at [] more (λ other e. ap (λ (l : List ℕ). mark_at mark at l >>= f) (first_none other e)) good
  mark_told f mark at (b ∷ rest) more good later = go (eqb b mark) refl
    where
      go : (t : Bool) → eqb b mark ≡ t → Told Never Good (λ other. mark_at mark at other >>= f) at (b ∷ rest)
      go true h =
          let same : b ∷ rest ≡ mark ∷ rest = ap (λ (c : ℕ). c ∷ rest) (eqb-true b mark h) in
          subst (Told Never Good (λ other. mark_at mark at other >>= f) at) (sym same)
          (told_behind Never Good Never (λ t. Good (mark ∷ t)) (λ other. mark_at mark at other >>= f) (λ other. f (at + 1, other)) at (mark ∷ []) rest
          (λ other e. rw (eq-eqb mark mark refl) refl) (λ other h. h) (λ other h. h) (later rest same))
      go false h = wrong_here Never Good (λ other. mark_at mark at other >>= f) at (b ∷ rest) more (λ other e. let (behind, is) = first_is other b e in ap (λ (l : List ℕ). mark_at mark at l >>= f) is ∙ rw h refl) good

  -- the end of the text
  pub end_told : (x : A) (at : ℕ) (bytes : List ℕ) → Good [] → Told Never Good (λ other. end_at at other >>= λ end. Ok x) at bytes
  unfolding end_at
  end_told x at [] good = Right good
  end_told x at (b ∷ rest) good = wrong_here Never Good (λ other. end_at at other >>= λ end. Ok x) at (b ∷ rest) [] (λ other e. let (behind, is) = first_is other b e in ap (λ (l : List ℕ). end_at at l >>= λ end. Ok x) is) good

-- a numeral that is all of the text
pub numeral_told : (at : ℕ) (bytes : List ℕ) → Told Never IsNumeral (λ other. digits_at at other >>= λ x. end_at x.1 x.2 >>= λ end. Ok x.0) at bytes
numeral_told at bytes =
    digits_told IsNumeral (λ x. end_at x.1 x.2 >>= λ end. Ok x.0) at bytes (48 ∷ []) zero_numeral
    (λ digits rest numeral none is. end_told (λ t. IsNumeral (digits ++ t)) digits (at + length digits) rest (subst IsNumeral (sym (append-nil digits)) numeral))
