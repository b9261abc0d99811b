-- Times: what is read is one, and each that fits is read.
use Rattle.std.proofs.Common.{◌≡◌, ℕ, ◌+◌, ◌^◌, ◌<◌, ◌≤◌, Bool, true, false, cond, eqb, ltb, List, [], ◌∷◌, ◌++◌, length, Result, Ok, Err, inl, inr, refl, sym, ap, subst, ◌∙◌, append_assoc, arith}
use Rattle.std.proofs.lemmas.Bool.{eqb-true, ltb-false, le-ltb}
use Rattle.std.proofs.lemmas.List.{append-nil, length-append}
use Rattle.mlt_base.specs.declared.fault.NumFault.{NumFault}
use Rattle.mlt_base.specs.declared.fault.NumFault.TheVariants.{BadDigit, TooLarge}
use Rattle.mlt_base.specs.Reading.{held, IsNumeral, digit_count, digits_at, mark_at, end_at, below}
use Rattle.mlt_base.specs.Steps.{◌>>=◌}
use Rattle.mlt_base.specs.Time.{Form, Frames, Clock, Counted, frames_of, last_digits, fraction_digits, behind_seconds, behind_hours, behind_first, form_of, time}
use Rattle.mlt_base.specs.Grammar.{clock_text, IsClock, IsTime}
use Rattle.mlt_base.proofs.Below.{below_ok, below_err}
use Rattle.mlt_base.proofs.Forms.{TakesNumeral, bind_ok, ok_is, digits_at-takes, digits_at-again, mark_at-takes, end_at-takes, below-takes}

-- ---- what is read is a time

last_takes : (at : ℕ) (bytes digits : List ℕ) → last_digits at bytes ≡ Ok digits → IsNumeral digits × (bytes ≡ digits)
unfolding last_digits
last_takes at bytes digits e =
    let first = bind_ok (digits_at at bytes) (λ x. end_at x.1 x.2 >>= λ end. Ok x.0) digits e in
    let x = first.0 in
    let second = bind_ok (end_at x.1 x.2) (λ end. Ok x.0) digits first.2 in
    let t = digits_at-takes at bytes x first.1 in
    let nothing : x.2 ≡ [] = end_at-takes x.1 x.2 second.0 second.1 in
    let same : x.0 ≡ digits = ok_is x.0 digits second.2 in
    (subst IsNumeral same t.numeral, t.parts ∙ rw nothing (append-nil x.0 ∙ same))

fraction_takes : (at : ℕ) (bytes digits : List ℕ) → fraction_digits at bytes ≡ Ok digits → IsNumeral digits × (length digits ≤ 3) × (bytes ≡ digits)
unfolding fraction_digits
fraction_takes at bytes digits e =
    let first = bind_ok (digits_at at bytes) (λ x. cond (ltb 3 (length x.0)) (Err (BadDigit (held (at + 3)))) (end_at x.1 x.2 >>= λ end. Ok x.0)) digits e in
    go first.0 (digits_at-takes at bytes first.0 first.1) (ltb 3 (length first.0.0)) refl first.2
  where
    go : (x : List ℕ × ℕ × List ℕ) → TakesNumeral at bytes x → (t : Bool) → ltb 3 (length x.0) ≡ t → cond t (Err (BadDigit (held (at + 3)))) (end_at x.1 x.2 >>= λ end. Ok x.0) ≡ Ok digits → IsNumeral digits × (length digits ≤ 3) × (bytes ≡ digits)
    go x t true h e = absurd cc
    go x t false h e =
        let second = bind_ok (end_at x.1 x.2) (λ end. Ok x.0) digits e in
        let nothing : x.2 ≡ [] = end_at-takes x.1 x.2 second.0 second.1 in
        let same : x.0 ≡ digits = ok_is x.0 digits second.2 in
        (subst IsNumeral same t.numeral, subst (λ (ds : List ℕ). length ds ≤ 3) same (ltb-false 3 (length x.0) h), t.parts ∙ rw nothing (append-nil x.0 ∙ same))

seconds_take : (h m s : List ℕ) (at : ℕ) (rest : List ℕ) (form : Form) → IsClock h m s → behind_seconds h m s at rest ≡ Ok form → IsTime (clock_text h m s ++ rest) form
unfolding behind_seconds
seconds_take h m s at [] form clock e = subst (IsTime (clock_text h m s ++ [])) (ok_is (Clock h m s []) form e) (clock, inl (refl, append-nil (clock_text h m s)))
seconds_take h m s at (b ∷ rest) form clock e = go (eqb b 58) (eqb b 46) refl refl e
  where
    go : (colon point : Bool) → eqb b 58 ≡ colon → eqb b 46 ≡ point
        → cond colon (last_digits (at + 1) rest >>= λ frames. Ok (Counted h m s frames)) (cond point (fraction_digits (at + 1) rest >>= λ fraction. Ok (Clock h m s fraction)) (Err (BadDigit (held at)))) ≡ Ok form
        → IsTime (clock_text h m s ++ b ∷ rest) form
    go true point hc hp e =
        let first = bind_ok (last_digits (at + 1) rest) (λ frames. Ok (Counted h m s frames)) form e in
        let t = last_takes (at + 1) rest first.0 first.1 in
        let text : clock_text h m s ++ b ∷ rest ≡ clock_text h m s ++ 58 ∷ first.0 = ap (λ (x : List ℕ). clock_text h m s ++ x) (ap (λ (c : ℕ). c ∷ rest) (eqb-true b 58 hc) ∙ ap (λ (r : List ℕ). 58 ∷ r) t.1) in
        subst (IsTime (clock_text h m s ++ b ∷ rest)) (ok_is (Counted h m s first.0) form first.2) (clock, t.0, text)
    go false true hc hp e =
        let first = bind_ok (fraction_digits (at + 1) rest) (λ fraction. Ok (Clock h m s fraction)) form e in
        let t = fraction_takes (at + 1) rest first.0 first.1 in
        let text : clock_text h m s ++ b ∷ rest ≡ clock_text h m s ++ 46 ∷ first.0 = ap (λ (x : List ℕ). clock_text h m s ++ x) (ap (λ (c : ℕ). c ∷ rest) (eqb-true b 46 hp) ∙ ap (λ (r : List ℕ). 46 ∷ r) t.2) in
        subst (IsTime (clock_text h m s ++ b ∷ rest)) (ok_is (Clock h m s first.0) form first.2) (clock, inr (t.0, t.1, text))
    go false false hc hp e = absurd cc

-- the fields of a clock, and what stands behind them
pub regroup : (h m s rest : List ℕ) → clock_text h m s ++ rest ≡ h ++ 58 ∷ (m ++ 58 ∷ (s ++ rest))
regroup h m s rest = append_assoc h (58 ∷ (m ++ 58 ∷ s)) rest ∙ ap (λ (x : List ℕ). h ++ 58 ∷ x) (append_assoc m (58 ∷ s) rest)

-- behind the minutes: `:`, seconds and what stands behind them
abbrev pub behind_minutes : List ℕ → List ℕ → ℕ → List ℕ → Result Form NumFault
behind_minutes h m at bytes = mark_at 58 at bytes >>= λ second. digits_at second.0 second.1 >>= λ seconds. behind_seconds h m seconds.0 seconds.1 seconds.2

minutes_take : (h m : List ℕ) (at : ℕ) (bytes : List ℕ) (form : Form) → IsNumeral h → IsNumeral m → behind_minutes h m at bytes ≡ Ok form → IsTime (h ++ 58 ∷ (m ++ bytes)) form
minutes_take h m at bytes form hours minutes e =
    let c = bind_ok (mark_at 58 at bytes) (λ second. digits_at second.0 second.1 >>= λ seconds. behind_seconds h m seconds.0 seconds.1 seconds.2) form e in
    let d = bind_ok (digits_at c.0.0 c.0.1) (λ seconds. behind_seconds h m seconds.0 seconds.1 seconds.2) form c.2 in
    go c.0 d.0 (mark_at-takes 58 at bytes c.0 c.1) (digits_at-takes c.0.0 c.0.1 d.0 d.1) d.2
  where
    go : (second : ℕ × List ℕ) (seconds : List ℕ × ℕ × List ℕ) → (bytes ≡ 58 ∷ second.1) × (second.0 ≡ at + 1) → TakesNumeral second.0 second.1 seconds → behind_seconds h m seconds.0 seconds.1 seconds.2 ≡ Ok form → IsTime (h ++ 58 ∷ (m ++ bytes)) form
    go second seconds mark field e =
        let rest : bytes ≡ 58 ∷ (seconds.0 ++ seconds.2) = mark.0 ∙ ap (λ (x : List ℕ). 58 ∷ x) field.parts in
        let text : clock_text h m seconds.0 ++ seconds.2 ≡ h ++ 58 ∷ (m ++ bytes) = regroup h m seconds.0 seconds.2 ∙ ap (λ (x : List ℕ). h ++ 58 ∷ (m ++ x)) (sym rest) in
        subst (λ (t : List ℕ). IsTime t form) text (seconds_take h m seconds.0 seconds.1 seconds.2 form (hours, minutes, field.numeral) e)

hours_take : (h : List ℕ) (at : ℕ) (bytes : List ℕ) (form : Form) → IsNumeral h → behind_hours h at bytes ≡ Ok form → IsTime (h ++ bytes) form
unfolding behind_hours
hours_take h at bytes form hours e =
    let a = bind_ok (mark_at 58 at bytes) (λ first. digits_at first.0 first.1 >>= λ minutes. behind_minutes h minutes.0 minutes.1 minutes.2) form e in
    let b = bind_ok (digits_at a.0.0 a.0.1) (λ minutes. behind_minutes h minutes.0 minutes.1 minutes.2) form a.2 in
    go a.0 b.0 (mark_at-takes 58 at bytes a.0 a.1) (digits_at-takes a.0.0 a.0.1 b.0 b.1) b.2
  where
    go : (first : ℕ × List ℕ) (minutes : List ℕ × ℕ × List ℕ) → (bytes ≡ 58 ∷ first.1) × (first.0 ≡ at + 1) → TakesNumeral first.0 first.1 minutes → behind_minutes h minutes.0 minutes.1 minutes.2 ≡ Ok form → IsTime (h ++ bytes) form
    go first minutes mark field e =
        let rest : 58 ∷ (minutes.0 ++ minutes.2) ≡ bytes = sym (mark.0 ∙ ap (λ (x : List ℕ). 58 ∷ x) field.parts) in
        subst (λ (t : List ℕ). IsTime (h ++ t) form) rest (minutes_take h minutes.0 minutes.1 minutes.2 form hours field.numeral e)

first_takes : (digits : List ℕ) (at : ℕ) (bytes : List ℕ) (form : Form) → IsNumeral digits → behind_first digits at bytes ≡ Ok form → IsTime (digits ++ bytes) form
unfolding behind_first
first_takes digits at [] form numeral e = subst (IsTime (digits ++ [])) (ok_is (Frames digits) form e) (numeral, append-nil digits)
first_takes digits at (b ∷ rest) form numeral e = hours_take digits at (b ∷ rest) form numeral e

form_takes : (text : List ℕ) (form : Form) → form_of text ≡ Ok form → IsTime text form
unfolding form_of
form_takes [] form e = absurd cc
form_takes (b ∷ bytes) form e =
    let first = bind_ok (digits_at 0 (b ∷ bytes)) (λ x. behind_first x.0 x.1 x.2) form e in
    let t = digits_at-takes 0 (b ∷ bytes) first.0 first.1 in
    subst (λ (x : List ℕ). IsTime x form) (sym t.parts) (first_takes first.0.0 first.0.1 first.0.2 form t.numeral first.2)

pub time_takes : (num den : ℕ) (text : List ℕ) (n : ℕ) → time num den text ≡ Ok n → (form : Form) × IsTime text form × (n ≡ frames_of num den form) × (n < 2 ^ 31)
unfolding time
time_takes num den text n e =
    let first = bind_ok (form_of text) (λ form. below (2 ^ 31) (frames_of num den form)) n e in
    let v = below-takes (2 ^ 31) (frames_of num den first.0) n first.2 in
    (first.0, form_takes text first.0 first.1, v.0, v.1)

-- ---- a time is read

last_again : (at : ℕ) (digits : List ℕ) → IsNumeral digits → last_digits at digits ≡ Ok digits
unfolding last_digits end_at
last_again at digits h =
    let one : digits_at at digits ≡ Ok (digits, at + length digits, []) = ap (digits_at at) (sym (append-nil digits)) ∙ digits_at-again at digits [] h refl in
    rw one refl

fraction_again : (at : ℕ) (digits : List ℕ) → IsNumeral digits → length digits ≤ 3 → fraction_digits at digits ≡ Ok digits
unfolding fraction_digits end_at
fraction_again at digits h short =
    let one : digits_at at digits ≡ Ok (digits, at + length digits, []) = ap (digits_at at) (sym (append-nil digits)) ∙ digits_at-again at digits [] h refl in
    rw (one, le-ltb 3 (length digits) short) refl

form_begins : (bytes : List ℕ) → 0 < length bytes → form_of bytes ≡ (digits_at 0 bytes >>= λ first. behind_first first.0 first.1 first.2)
unfolding form_of
form_begins [] h = absurd (omega arith)
form_begins (b ∷ bytes) h = refl

-- where the seconds of a clock end
abbrev end_of : List ℕ → List ℕ → List ℕ → ℕ
end_of h m s = 0 + length h + 1 + length m + 1 + length s

clock_again : (h m s rest : List ℕ) → IsClock h m s → digit_count rest ≡ 0 → form_of (clock_text h m s ++ rest) ≡ behind_seconds h m s (end_of h m s) rest
unfolding behind_first behind_hours mark_at
clock_again h m s rest clock stop =
    let text = h ++ 58 ∷ (m ++ 58 ∷ (s ++ rest)) in
    let some : 0 < length (h ++ 58 ∷ (m ++ 58 ∷ (s ++ rest))) = omega (arith, length-append h (58 ∷ (m ++ 58 ∷ (s ++ rest)))) in
    let first = digits_at-again 0 h (58 ∷ (m ++ 58 ∷ (s ++ rest))) clock.0 refl in
    let second = digits_at-again (0 + length h + 1) m (58 ∷ (s ++ rest)) clock.1 refl in
    let third = digits_at-again (0 + length h + 1 + length m + 1) s rest clock.2 stop in
    ap form_of (regroup h m s rest) ∙ (form_begins text some ∙ rw (first, second, third) refl)

form_again : (text : List ℕ) (form : Form) → IsTime text form → form_of text ≡ Ok form
unfolding behind_first behind_seconds
form_again text (Frames frames) (numeral, is) =
    let one : digits_at 0 frames ≡ Ok (frames, 0 + length frames, []) = ap (digits_at 0) (sym (append-nil frames)) ∙ digits_at-again 0 frames [] numeral refl in
    ap form_of is ∙ (form_begins frames numeral.0 ∙ rw one refl)
form_again text (Clock h m s fraction) (clock, inl (none, is)) =
    ap form_of (is ∙ sym (append-nil (clock_text h m s))) ∙ (clock_again h m s [] clock refl ∙ rw none refl)
form_again text (Clock h m s fraction) (clock, inr (numeral, short, is)) =
    ap form_of is ∙ (clock_again h m s (46 ∷ fraction) clock refl ∙ rw (fraction_again (end_of h m s + 1) fraction numeral short) refl)
form_again text (Counted h m s frames) (clock, numeral, is) =
    ap form_of is ∙ (clock_again h m s (58 ∷ frames) clock refl ∙ rw (last_again (end_of h m s + 1) frames numeral) refl)

pub whole_time : (num den : ℕ) (text : List ℕ) (form : Form) → IsTime text form → time num den text ≡ below (2 ^ 31) (frames_of num den form)
unfolding time
whole_time num den text form h = rw (form_again text form h) refl

pub time_accepted : (num den : ℕ) (text : List ℕ) (form : Form) → IsTime text form → frames_of num den form < 2 ^ 31 → time num den text ≡ Ok (frames_of num den form)
time_accepted num den text form h small = whole_time num den text form h ∙ sym (below_ok (2 ^ 31) (frames_of num den form) (frames_of num den form) small refl)

pub time_large : (num den : ℕ) (text : List ℕ) (form : Form) → IsTime text form → 2 ^ 31 ≤ frames_of num den form → time num den text ≡ Err TooLarge
time_large num den text form h large = whole_time num den text form h ∙ sym (below_err (2 ^ 31) (frames_of num den form) large)
