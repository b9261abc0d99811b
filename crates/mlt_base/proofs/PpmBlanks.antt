-- White space and comments: how many bytes of them a text begins with, and that they are counted as written.
use Rattle.std.proofs.Common.{◌≡◌, ℕ, ◌+◌, ◌<◌, ◌≤◌, ◌⊎◌, inl, inr, Bool, true, false, cond, eqb, leb, ◌&&◌, ◌||◌, List, [], ◌∷◌, ◌++◌, length, refl, sym, ap, subst, ◌∙◌, arith, append_assoc, length-append}
use Rattle.std.specs.Char.{is_ascii_digit}
use Rattle.std.specs.List.{concat}
use Rattle.std.proofs.lemmas.Bool.{eqb-true, ne_eqb, leb-true, le-leb, lt-leb}
use Rattle.mlt_base.specs.Reading.{IsNumeral, digit_count}
use Rattle.mlt_base.specs.Ppm.{is_white, is_line_end, IsLine, IsBlank, AreBlank, IsSeparator, blank_count}

-- ---- single bytes

pub white_range : (b : ℕ) → is_white b ≡ true → (b ≡ 32) ⊎ ((9 ≤ b) × (b ≤ 13))
white_range b e = go (eqb b 32) (leb 9 b) refl refl e
  where
    go : (t s : Bool) → eqb b 32 ≡ t → leb 9 b ≡ s → (t || (s && leb b 13)) ≡ true → (b ≡ 32) ⊎ ((9 ≤ b) × (b ≤ 13))
    go true s h k e = inl (eqb-true b 32 h)
    go false true h k e = inr (leb-true 9 b k, leb-true b 13 e)
    go false false h k e = absurd cc

-- white space is no `#` and no digit
pub white_low : (b : ℕ) → is_white b ≡ true → b < 33
white_low b e = elim (white_range b e) [ inl h ↦ omega arith | inr h ↦ omega (arith, h.0, h.1) ]

pub low_no_digit : (b : ℕ) → b < 48 → is_ascii_digit b ≡ false
low_no_digit b h = rw (lt-leb 48 b h) refl

pub digit_no_white : (b : ℕ) → 48 ≤ b → b ≤ 57 → is_white b ≡ false
digit_no_white b low high =
    let one : eqb b 32 ≡ false = ne_eqb b 32 (λ h. omega arith) in
    let two : leb b 13 ≡ false = lt-leb b 13 (omega arith) in
    let three : leb 9 b ≡ true = le-leb 9 b (omega arith) in
    rw (one, two, three) refl

-- ---- counting what is written

-- a number has no white space before it
pub count_numeral : (digits rest : List ℕ) → IsNumeral digits → blank_count false (digits ++ rest) ≡ 0
count_numeral [] rest h = absurd (omega (arith, h.0))
count_numeral (b ∷ digits) rest h =
    let mark : eqb b 35 ≡ false = ne_eqb b 35 (λ e. omega (arith, h.1.0)) in
    let white : is_white b ≡ false = digit_no_white b h.1.0 h.1.1 in
    rw (mark, white) refl

count_comment : (line rest : List ℕ) (end : ℕ) → IsLine line → is_line_end end ≡ true → blank_count true (line ++ end ∷ rest) ≡ length line + 1 + blank_count false rest
count_comment [] rest end h e = rw e (omega arith)
count_comment (b ∷ line) rest end h e = rw h.0 (omega (arith, count_comment line rest end h.1 e))

count_blank : (text rest : List ℕ) → IsBlank text → blank_count false (text ++ rest) ≡ length text + blank_count false rest
count_blank text rest (inl (b, white, e)) =
    let mark : eqb b 35 ≡ false = ne_eqb b 35 (λ h. omega (arith, white_low b white)) in
    ap (λ (t : List ℕ). blank_count false (t ++ rest)) e ∙ (rw (mark, white) (omega arith) ∙ ap (λ (t : List ℕ). length t + blank_count false rest) (sym e))
count_blank text rest (inr (line, end, h, k, e)) =
    let joined : (line ++ end ∷ []) ++ rest ≡ line ++ end ∷ rest = append_assoc line (end ∷ []) rest in
    let long : length (line ++ end ∷ []) ≡ length line + 1 = length-append line (end ∷ []) in
    let own : blank_count true ((line ++ end ∷ []) ++ rest) + 1 ≡ length (35 ∷ (line ++ end ∷ [])) + blank_count false rest = rw joined (omega (arith, count_comment line rest end h k)) in
    ap (λ (t : List ℕ). blank_count false (t ++ rest)) e ∙ (own ∙ ap (λ (t : List ℕ). length t + blank_count false rest) (sym e))

pub count_blanks : (blanks : List (List ℕ)) (rest : List ℕ) → AreBlank blanks → blank_count false (concat blanks ++ rest) ≡ length (concat blanks) + blank_count false rest
count_blanks [] rest h = omega arith
count_blanks (text ∷ texts) rest h =
    ap (blank_count false) (append_assoc text (concat texts) rest) ∙ omega (arith, count_blank text (concat texts ++ rest) h.0, count_blanks texts rest h.1, length-append text (concat texts))

-- ---- a separator is not empty, and begins with no digit

blank_some : (text : List ℕ) → IsBlank text → (0 < length text) × (digit_count text ≡ 0)
blank_some text (inl (b, white, e)) =
    let none : is_ascii_digit b ≡ false = low_no_digit b (omega (arith, white_low b white)) in
    subst (λ (t : List ℕ). (0 < length t) × (digit_count t ≡ 0)) (sym e) (omega arith, rw none refl)
blank_some text (inr (line, end, h, k, e)) = subst (λ (t : List ℕ). (0 < length t) × (digit_count t ≡ 0)) (sym e) (omega arith, refl)

pub no_digit_before : (front rest : List ℕ) → 0 < length front → digit_count front ≡ 0 → digit_count (front ++ rest) ≡ 0
no_digit_before [] rest some e = absurd (omega arith)
no_digit_before (b ∷ front) rest some e = go (is_ascii_digit b) e
  where
    go : (t : Bool) → cond t (digit_count front + 1) 0 ≡ 0 → cond t (digit_count (front ++ rest) + 1) 0 ≡ 0
    go true e = absurd (omega arith)
    go false e = refl

pub separator_some : (text : List ℕ) → IsSeparator text → (0 < length text) × (digit_count text ≡ 0)
separator_some text ([], some, are, e) = absurd (omega arith)
separator_some text (blank ∷ blanks, some, are, e) =
    let first = blank_some blank are.0 in
    subst (λ (t : List ℕ). (0 < length t) × (digit_count t ≡ 0)) (sym e) (omega (arith, length-append blank (concat blanks), first.0), no_digit_before blank (concat blanks) first.0 first.1)
