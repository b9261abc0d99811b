-- What is counted as white space and comments is a separator, and the counts don't change with what stands far behind.
use Rattle.std.proofs.Common.{◌≡◌, ℕ, zero, suc, ◌+◌, ◌<◌, ◌≤◌, inl, inr, Bool, true, false, not, cond, eqb, List, [], ◌∷◌, ◌++◌, length, take, drop, refl, sym, ap, subst, ◌∙◌, arith, add-one, append_assoc, length-append}
use Rattle.std.specs.Char.{is_ascii_digit}
use Rattle.std.specs.List.{concat}
use Rattle.std.proofs.lemmas.Bool.{eqb-true}
use Rattle.std.proofs.lemmas.List.{append-nil, length-take-le}
use Rattle.mlt_base.specs.Reading.{digit_count}
use Rattle.mlt_base.specs.Ppm.{is_white, is_line_end, IsLine, AreBlank, IsSeparator, blank_count}

-- ---- what is counted

-- blanks from without a comment; the rest of a line and blanks from within one
abbrev Fits : Bool → List ℕ → Type 0
Fits false front = (blanks : List (List ℕ)) × AreBlank blanks × (front ≡ concat blanks)
Fits true front = (line : List ℕ) × (end : ℕ) × (blanks : List (List ℕ)) × IsLine line × (is_line_end end ≡ true) × AreBlank blanks × (front ≡ line ++ end ∷ concat blanks)

-- the first n bytes fit, perhaps with the end of the last line added where nothing stands behind them
record Ended (comment : Bool) (n : ℕ) (bytes : List ℕ) : Type 0 where
  more : List ℕ
  fits : Fits comment (take n bytes ++ more)
  none : 0 < length (drop n bytes) → more ≡ []

take_one : (n b : ℕ) (bytes more : List ℕ) → take (n + 1) (b ∷ bytes) ++ more ≡ b ∷ (take n bytes ++ more)
take_one n b bytes more = rw add-one refl

drop_one : (n b : ℕ) (bytes : List ℕ) → drop (n + 1) (b ∷ bytes) ≡ drop n bytes
drop_one n b bytes = rw add-one refl

behind_one : (n b : ℕ) (bytes more : List ℕ) → (0 < length (drop n bytes) → more ≡ []) → 0 < length (drop (n + 1) (b ∷ bytes)) → more ≡ []
behind_one n b bytes more h some = h (subst (λ (l : List ℕ). 0 < length l) (drop_one n b bytes) some)

ended_end : (n b : ℕ) (bytes : List ℕ) → is_line_end b ≡ true → Ended false n bytes → Ended true (n + 1) (b ∷ bytes)
ended_end n b bytes e h =
    let (blanks, are, is) = h.fits in
    record { more = h.more; fits = ([], b, blanks, tt, e, are, take_one n b bytes h.more ∙ ap (λ (l : List ℕ). b ∷ l) is); none = behind_one n b bytes h.more h.none }

ended_line : (n b : ℕ) (bytes : List ℕ) → is_line_end b ≡ false → Ended true n bytes → Ended true (n + 1) (b ∷ bytes)
ended_line n b bytes e h =
    let (line, end, blanks, own, last, are, is) = h.fits in
    record { more = h.more; fits = (b ∷ line, end, blanks, (e, own), last, are, take_one n b bytes h.more ∙ ap (λ (l : List ℕ). b ∷ l) is); none = behind_one n b bytes h.more h.none }

ended_mark : (n b : ℕ) (bytes : List ℕ) → b ≡ 35 → Ended true n bytes → Ended false (n + 1) (b ∷ bytes)
ended_mark n b bytes e h =
    let (line, end, blanks, own, last, are, is) = h.fits in
    record {
      more = h.more;
      fits = ((35 ∷ (line ++ end ∷ [])) ∷ blanks, (inr (line, end, own, last, refl), are), take_one n b bytes h.more ∙ (ap (λ (c : ℕ). c ∷ (take n bytes ++ h.more)) e ∙ (ap (λ (l : List ℕ). 35 ∷ l) (is ∙ sym (append_assoc line (end ∷ []) (concat blanks))))));
      none = behind_one n b bytes h.more h.none;
    }

ended_white : (n b : ℕ) (bytes : List ℕ) → is_white b ≡ true → Ended false n bytes → Ended false (n + 1) (b ∷ bytes)
ended_white n b bytes e h =
    let (blanks, are, is) = h.fits in
    record { more = h.more; fits = ((b ∷ []) ∷ blanks, (inl (b, e, refl), are), take_one n b bytes h.more ∙ ap (λ (l : List ℕ). b ∷ l) is); none = behind_one n b bytes h.more h.none }

ended : (comment : Bool) (bytes : List ℕ) → Ended comment (blank_count comment bytes) bytes
ended false [] = record { more = []; fits = ([], tt, refl); none = λ h. refl }
ended true [] = record { more = 10 ∷ []; fits = ([], 10, [], tt, refl, tt, refl); none = λ h. absurd (omega arith) }
ended true (b ∷ bytes) = go (is_line_end b) refl (ended false bytes) (ended true bytes)
  where
    go : (t : Bool) → is_line_end b ≡ t → Ended false (blank_count false bytes) bytes → Ended true (blank_count true bytes) bytes → Ended true (blank_count (not t) bytes + 1) (b ∷ bytes)
    go true e f h = ended_end _ b bytes e f
    go false e f h = ended_line _ b bytes e h
ended false (b ∷ bytes) = go (eqb b 35) (is_white b) refl refl (ended false bytes) (ended true bytes)
  where
    go : (t s : Bool) → eqb b 35 ≡ t → is_white b ≡ s → Ended false (blank_count false bytes) bytes → Ended true (blank_count true bytes) bytes → Ended false (cond t (blank_count true bytes + 1) (cond s (blank_count false bytes + 1) 0)) (b ∷ bytes)
    go true s e k f h = ended_mark _ b bytes (eqb-true b 35 e) h
    go false true e k f h = ended_white _ b bytes k f
    go false false e k f h = record { more = []; fits = ([], tt, refl); none = λ h. refl }

pub blank_count-le : (comment : Bool) (bytes : List ℕ) → blank_count comment bytes ≤ length bytes
blank_count-le false [] = omega arith
blank_count-le true [] = omega arith
blank_count-le true (b ∷ bytes) = omega (arith, blank_count-le (not (is_line_end b)) bytes)
blank_count-le false (b ∷ bytes) = go (eqb b 35) (is_white b) (blank_count-le false bytes) (blank_count-le true bytes)
  where
    go : (t s : Bool) → blank_count false bytes ≤ length bytes → blank_count true bytes ≤ length bytes → cond t (blank_count true bytes + 1) (cond s (blank_count false bytes + 1) 0) ≤ suc (length bytes)
    go true s f h = omega arith
    go false true f h = omega arith
    go false false f h = omega arith

-- the bytes that are counted begin a separator
pub record Begun (text : List ℕ) : Type 0 where
  pub more : List ℕ
  pub separator : IsSeparator (take (blank_count false text) text ++ more)
  pub none : 0 < length (drop (blank_count false text) text) → more ≡ []

pub begun : (text : List ℕ) → 0 < blank_count false text → Begun text
begun text some =
    let e = ended false text in
    let (blanks, are, is) = e.fits in
    let long : 0 < length (concat blanks) = omega (arith, ap length is, length-append (take (blank_count false text) text) e.more, length-take-le (blank_count false text) text (blank_count-le false text)) in
    record { more = e.more; separator = (blanks, not_empty blanks long, are, is); none = e.none }
  where
    not_empty : (blanks : List (List ℕ)) → 0 < length (concat blanks) → 0 < length blanks
    not_empty [] h = absurd (omega arith)
    not_empty (b ∷ blanks) h = omega arith

pub counted_separator : (text : List ℕ) → 0 < blank_count false text → 0 < length (drop (blank_count false text) text) → IsSeparator (take (blank_count false text) text)
counted_separator text some behind =
    let b = begun text some in
    subst IsSeparator (ap (λ (more : List ℕ). take (blank_count false text) text ++ more) (b.none behind) ∙ append-nil (take (blank_count false text) text)) b.separator

-- ---- what stands behind the next byte doesn't count

pub blank_count-stable : (comment : Bool) (bytes : List ℕ) (k : ℕ) (more : List ℕ) → blank_count comment bytes < k → k ≤ length bytes → blank_count comment (take k bytes ++ more) ≡ blank_count comment bytes
blank_count-stable comment [] k more low high = absurd (omega arith)
blank_count-stable comment (b ∷ bytes) zero more low high = absurd (omega arith)
blank_count-stable true (b ∷ bytes) (suc k) more low high = ap (λ (n : ℕ). n + 1) (blank_count-stable (not (is_line_end b)) bytes k more (omega arith) (omega arith))
blank_count-stable false (b ∷ bytes) (suc k) more low high = go (eqb b 35) (is_white b) low (λ h. blank_count-stable true bytes k more h (omega arith)) (λ h. blank_count-stable false bytes k more h (omega arith))
  where
    go : (t s : Bool) → cond t (blank_count true bytes + 1) (cond s (blank_count false bytes + 1) 0) < suc k → (blank_count true bytes < k → blank_count true (take k bytes ++ more) ≡ blank_count true bytes) → (blank_count false bytes < k → blank_count false (take k bytes ++ more) ≡ blank_count false bytes) → cond t (blank_count true (take k bytes ++ more) + 1) (cond s (blank_count false (take k bytes ++ more) + 1) 0) ≡ cond t (blank_count true bytes + 1) (cond s (blank_count false bytes + 1) 0)
    go true s low h f = ap (λ (n : ℕ). n + 1) (h (omega arith))
    go false true low h f = ap (λ (n : ℕ). n + 1) (f (omega arith))
    go false false low h f = refl

pub digit_count-stable : (bytes : List ℕ) (k : ℕ) (more : List ℕ) → digit_count bytes < k → k ≤ length bytes → digit_count (take k bytes ++ more) ≡ digit_count bytes
digit_count-stable [] k more low high = absurd (omega arith)
digit_count-stable (b ∷ bytes) zero more low high = absurd (omega arith)
digit_count-stable (b ∷ bytes) (suc k) more low high = go (is_ascii_digit b) low (λ h. digit_count-stable bytes k more h (omega arith))
  where
    go : (t : Bool) → cond t (digit_count bytes + 1) 0 < suc k → (digit_count bytes < k → digit_count (take k bytes ++ more) ≡ digit_count bytes) → cond t (digit_count (take k bytes ++ more) + 1) 0 ≡ cond t (digit_count bytes + 1) 0
    go true low h = ap (λ (n : ℕ). n + 1) (h (omega arith))
    go false low h = refl
