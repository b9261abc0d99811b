-- Decimal numbers: what is read is one, and each that fits is read.
use Rattle.std.proofs.Common.{◌≡◌, ℕ, ◌+◌, ◌^◌, ◌<◌, ◌≤◌, Bool, true, false, cond, eqb, ltb, ◌||◌, List, [], ◌∷◌, ◌++◌, length, take, drop, Ok, Err, inl, inr, refl, sym, ap, subst, ◌∙◌, arith}
use Rattle.std.proofs.lemmas.Bool.{eqb-true, eqb-false, ne_eqb, ltb-false, le-ltb}
use Rattle.std.proofs.Math.Seq.{take-length, drop-length}
use Rattle.std.proofs.lemmas.List.{append-nil, take_at, drop_at, take-append-drop, length-append}
use Rattle.mlt_base.specs.declared.fault.NumFault.TheVariants.{BadDigit, TooLarge}
use Rattle.mlt_base.specs.Reading.{held, AreDigits, digit_count, below}
use Rattle.mlt_base.specs.Decimal.{fraction_at, point_at, decimal_parts, decimal_value, decimal}
use Rattle.mlt_base.specs.Grammar.{IsDecimalText, IsDecimal}
use Rattle.mlt_base.proofs.Below.{below_ok, below_err}
use Rattle.mlt_base.proofs.Forms.{bind_ok, ok_is, AreDigits-take, AreDigits-all, digit_count-append, digit_count-all, digit_count-le, below-takes}

-- the parts of a text that begins with the whole digits, one digit at least
pub record AreParts (text : List ℕ) (p : List ℕ × List ℕ) : Type 0 where
  pub whole : AreDigits p.0
  pub fraction : AreDigits p.1
  pub some : 0 < length p.0 + length p.1
  pub spelled : IsDecimalText text p.0 p.1

fraction_takes : (at : ℕ) (whole fraction : List ℕ) (p : List ℕ × List ℕ) → AreDigits whole → fraction_at at whole fraction ≡ Ok p → AreParts (whole ++ 46 ∷ fraction) p
unfolding fraction_at
fraction_takes at whole fraction p h e = go (ltb (digit_count fraction) (length fraction)) (eqb (length whole + digit_count fraction) 0) refl refl e
  where
    go : (more none : Bool) → ltb (digit_count fraction) (length fraction) ≡ more → eqb (length whole + digit_count fraction) 0 ≡ none → cond (more || none) (Err (BadDigit (held (at + digit_count fraction)))) (Ok (whole, fraction)) ≡ Ok p → AreParts (whole ++ 46 ∷ fraction) p
    go true none hm hn e = absurd cc
    go false true hm hn e = absurd cc
    go false false hm hn e =
        let all : digit_count fraction ≡ length fraction = omega (arith, digit_count-le fraction, ltb-false (digit_count fraction) (length fraction) hm) in
        subst (AreParts (whole ++ 46 ∷ fraction)) (ok_is (whole, fraction) p e) (record {
          whole = h;
          fraction = AreDigits-all fraction all;
          some = omega (arith, eqb-false (length whole + digit_count fraction) 0 hn);
          spelled = inr refl;
        })

point_takes : (at : ℕ) (whole rest : List ℕ) (p : List ℕ × List ℕ) → AreDigits whole → 0 < length whole + length rest → point_at at whole rest ≡ Ok p → AreParts (whole ++ rest) p
unfolding point_at
point_takes at whole [] p h some e = subst (AreParts (whole ++ [])) (ok_is (whole, []) p e) (record { whole = h; fraction = tt; some = some; spelled = inl (append-nil whole, refl) })
point_takes at whole (b ∷ rest) p h some e = go (eqb b 46) refl e
  where
    go : (t : Bool) → eqb b 46 ≡ t → cond t (fraction_at (at + 1) whole rest) (Err (BadDigit (held at))) ≡ Ok p → AreParts (whole ++ b ∷ rest) p
    go true hb e = subst (λ (c : ℕ). AreParts (whole ++ c ∷ rest) p) (sym (eqb-true b 46 hb)) (fraction_takes (at + 1) whole rest p h e)
    go false hb e = absurd cc

parts_take : (at : ℕ) (bytes : List ℕ) (p : List ℕ × List ℕ) → decimal_parts at bytes ≡ Ok p → AreParts bytes p
unfolding decimal_parts
parts_take at [] p e = absurd cc
parts_take at (b ∷ bytes) p e =
    let text = b ∷ bytes in
    let n = digit_count text in
    let both : take n text ++ drop n text ≡ text = take-append-drop n text in
    let some : 0 < length (take n text) + length (drop n text) = omega (arith, length-append (take n text) (drop n text), ap length both) in
    subst (λ (t : List ℕ). AreParts t p) both (point_takes (at + n) (take n text) (drop n text) p (AreDigits-take text) some e)

pub decimal_takes-at : (at : ℕ) (text : List ℕ) (n : ℕ) → decimal at text ≡ Ok n → IsDecimal text n × (n < 2 ^ 32)
unfolding decimal
decimal_takes-at at text n e =
    let first = bind_ok (decimal_parts at text) (λ p. below (2 ^ 32) (decimal_value p.0 p.1)) n e in
    let p = parts_take at text first.0 first.1 in
    let v = below-takes (2 ^ 32) (decimal_value first.0.0 first.0.1) n first.2 in
    ((first.0.0, first.0.1, p.whole, p.fraction, p.some, p.spelled, v.0), v.1)

pub decimal_takes : (text : List ℕ) (n : ℕ) → decimal 0 text ≡ Ok n → IsDecimal text n × (n < 2 ^ 32)
decimal_takes text n e = decimal_takes-at 0 text n e

-- the parts are found again
pub parts_begin : (at : ℕ) (bytes : List ℕ) → 0 < length bytes → decimal_parts at bytes ≡ point_at (at + digit_count bytes) (take (digit_count bytes) bytes) (drop (digit_count bytes) bytes)
unfolding decimal_parts
parts_begin at [] h = absurd (omega arith)
parts_begin at (b ∷ bytes) h = refl

parts_again : (at : ℕ) (text whole fraction : List ℕ) → AreDigits whole → AreDigits fraction → 0 < length whole + length fraction → IsDecimalText text whole fraction → decimal_parts at text ≡ Ok (whole, fraction)
unfolding point_at fraction_at
parts_again at text whole fraction hw hf some (inl (is, none)) =
    let n : digit_count whole ≡ length whole = digit_count-all whole hw in
    let all : take (length whole) whole ≡ whole = take-length whole in
    let rest : drop (length whole) whole ≡ [] = drop-length whole in
    ap (decimal_parts at) is ∙ (parts_begin at whole (omega (arith, ap length none)) ∙ rw (n, all, rest, none) refl)
parts_again at text whole fraction hw hf some (inr is) =
    let whole_text = whole ++ 46 ∷ fraction in
    let n : digit_count (whole ++ 46 ∷ fraction) ≡ length whole = digit_count-append whole (46 ∷ fraction) hw ∙ omega arith in
    let front : take (length whole) (whole ++ 46 ∷ fraction) ≡ whole = take_at whole (46 ∷ fraction) (length whole) refl in
    let rest : drop (length whole) (whole ++ 46 ∷ fraction) ≡ 46 ∷ fraction = drop_at whole (46 ∷ fraction) (length whole) refl in
    let all : digit_count fraction ≡ length fraction = digit_count-all fraction hf in
    let ended : ltb (length fraction) (length fraction) ≡ false = le-ltb (length fraction) (length fraction) (omega arith) in
    let one : eqb (length whole + length fraction) 0 ≡ false = ne_eqb (length whole + length fraction) 0 (λ e. omega arith) in
    ap (decimal_parts at) is ∙ (parts_begin at (whole ++ 46 ∷ fraction) (omega (arith, length-append whole (46 ∷ fraction))) ∙ rw (n, front, rest, all, ended, one) refl)

pub whole_decimal : (at : ℕ) (text : List ℕ) (n : ℕ) → IsDecimal text n → decimal at text ≡ below (2 ^ 32) n
unfolding decimal
whole_decimal at text n (whole, fraction, hw, hf, some, spelled, is) = rw (parts_again at text whole fraction hw hf some spelled, is) refl

pub decimal_accepted-at : (at : ℕ) (text : List ℕ) (n : ℕ) → IsDecimal text n → n < 2 ^ 32 → decimal at text ≡ Ok n
decimal_accepted-at at text n d small = whole_decimal at text n d ∙ sym (below_ok (2 ^ 32) n n small refl)

pub decimal_accepted : (text : List ℕ) (n : ℕ) → IsDecimal text n → n < 2 ^ 32 → decimal 0 text ≡ Ok n
decimal_accepted text n d small = decimal_accepted-at 0 text n d small

pub decimal_large : (text : List ℕ) (n : ℕ) → IsDecimal text n → 2 ^ 32 ≤ n → decimal 0 text ≡ Err TooLarge
decimal_large text n d large = whole_decimal 0 text n d ∙ sym (below_err (2 ^ 32) n large)
