-- Times: the place where a text can't go on.
use Rattle.std.proofs.Common.{◌≡◌, ℕ, zero, suc, ◌+◌, ◌^◌, ◌<◌, ◌≤◌, ◌⊎◌, inl, inr, Bool, true, false, cond, eqb, min, List, [], ◌∷◌, ◌++◌, length, take, Ok, Err, refl, sym, ap, subst, ◌∙◌, arith, append-nil}
use Rattle.std.specs.Char.{is_ascii_digit}
use Rattle.std.proofs.lemmas.Bool.{cases_lt, eqb-true, ne_eqb, lt-ltb, le-ltb}
use Rattle.std.proofs.lemmas.List.{length-take-le}
use Rattle.mlt_base.specs.declared.fault.NumFault.TheVariants.{Empty, BadDigit, TooLarge}
use Rattle.mlt_base.specs.Reading.{held, IsNumeral, digit_count, digits_at, end_at, below}
use Rattle.mlt_base.specs.Steps.{◌>>=◌}
use Rattle.mlt_base.specs.Stop.{Texts}
use Rattle.mlt_base.specs.Time.{Form, Frames, Clock, Counted, frames_of, last_digits, fraction_digits, behind_seconds, behind_hours, behind_first, form_of, time}
use Rattle.mlt_base.specs.Grammar.{clock_text, IsClock, IsTime}
use Rattle.mlt_base.proofs.Forms.{AreDigits-all, digit_count-append, digit_count-le, digits_at-again}
use Rattle.mlt_base.proofs.TimeForms.{regroup, behind_minutes, whole_time}
use Rattle.mlt_base.proofs.Stops.{Told, Missing, Wrong, Right, Never, IsNone, Sized, below_sized, below_unfit, first_is, first_no_digit, wrong_here, told_behind, told_as, told_then}
use Rattle.mlt_base.proofs.NumeralStops.{NumeralCase, NoDigit, Numeral, numeral_case, digits_none, zero_numeral, digits_told, mark_told, end_told, numeral_told}

-- ---- the last digits

last_told : (at : ℕ) (bytes : List ℕ) → Told Never IsNumeral (last_digits at) at bytes
unfolding last_digits
last_told at bytes = numeral_told at bytes

-- the digits among the first bytes of a text
digit_count-take : (n : ℕ) (text : List ℕ) → digit_count (take n text) ≡ min n (digit_count text)
digit_count-take zero text = omega arith
digit_count-take (suc n) [] = omega arith
digit_count-take (suc n) (b ∷ text) = go (is_ascii_digit b) (digit_count-take n text)
  where
    go : (t : Bool) → digit_count (take n text) ≡ min n (digit_count text) → cond t (digit_count (take n text) + 1) 0 ≡ min (suc n) (cond t (digit_count text + 1) 0)
    go true h = omega (arith, h)
    go false h = omega arith

-- of more than three digits the fourth doesn't fit
fraction_long : (at : ℕ) (text : List ℕ) → 3 < digit_count text → fraction_digits at text ≡ Err (BadDigit (held (at + 3)))
unfolding fraction_digits digits_at
fraction_long at text more =
    let long : length (take (digit_count text) text) ≡ digit_count text = length-take-le (digit_count text) text (digit_count-le text) in
    rw (ne_eqb (digit_count text) 0 (λ e. omega (arith, more, e)), long, lt-ltb 3 (digit_count text) more) refl

abbrev IsFraction : List ℕ → Type 0
IsFraction digits = IsNumeral digits × (length digits ≤ 3)

-- the first three digits of more are a fraction
first_three : (text : List ℕ) → 3 < digit_count text → IsFraction (take 3 text ++ [])
first_three text more =
    let long : length (take 3 text) ≡ 3 = length-take-le 3 text (omega (arith, more, digit_count-le text)) in
    subst IsFraction (sym (append-nil (take 3 text))) ((omega (arith, long), AreDigits-all (take 3 text) (digit_count-take 3 text ∙ omega (arith, long, more))), omega (arith, long))

-- one to three digits that are the last
fraction_told : (at : ℕ) (bytes : List ℕ) → Told Never IsFraction (fraction_digits at) at bytes
unfolding fraction_digits end_at
fraction_told at bytes = go (numeral_case bytes) (cases_lt 3 (digit_count bytes))
  where
    go : NumeralCase bytes → (3 < digit_count bytes) ⊎ (digit_count bytes ≤ 3) → Told Never IsFraction (fraction_digits at) at bytes
    go digits (inl more) =
        Wrong 3 (record {
          within = omega (arith, more, digit_count-le bytes);
          again = λ other e. fraction_long at other (omega (arith, more, digit_count-take 4 other, digit_count-take 4 bytes, ap digit_count e));
        }) ([], first_three bytes more)
    go (NoDigit none) (inr few) =
        wrong_here Never IsFraction (fraction_digits at) at bytes (48 ∷ [])
        (λ other e. rw (digits_none at other (first_no_digit other bytes e none)) refl) (zero_numeral, omega arith)
    go (Numeral digits rest numeral none is) (inr few) =
        let short : length digits ≤ 3 = omega (arith, few, ap digit_count is, digit_count-append digits rest numeral.1) in
        subst (Told Never IsFraction (fraction_digits at) at) (sym is)
        (told_behind Never IsFraction Never (λ t. IsFraction (digits ++ t)) (fraction_digits at) (λ other. end_at (at + length digits) other >>= λ end. Ok digits) at digits rest
        (λ other e. rw (digits_at-again at digits other numeral (first_no_digit other rest e none), le-ltb 3 (length digits) short) refl) (λ other h. h) (λ other h. h)
        (end_told (λ t. IsFraction (digits ++ t)) digits (at + length digits) rest (subst IsFraction (sym (append-nil digits)) (numeral, short))))

-- ---- a clock

-- what stands behind the seconds
seconds_told : (h m s : List ℕ) (at : ℕ) (rest : List ℕ) → IsClock h m s → Told Never (λ t. Texts IsTime (clock_text h m s ++ t)) (behind_seconds h m s at) at rest
unfolding behind_seconds
seconds_told h m s at [] clock = Right (Clock h m s [], (clock, inl (refl, append-nil (clock_text h m s))))
seconds_told h m s at (b ∷ rest) clock = go (eqb b 58) (eqb b 46) refl refl
  where
    Good : List ℕ → Type 0
    Good t = Texts IsTime (clock_text h m s ++ t)

    go : (colon point : Bool) → eqb b 58 ≡ colon → eqb b 46 ≡ point → Told Never Good (behind_seconds h m s at) at (b ∷ rest)
    go true point hc hp =
        subst (Told Never Good (behind_seconds h m s at) at) (ap (λ (c : ℕ). c ∷ rest) (sym (eqb-true b 58 hc)))
        (told_behind Never Good Never IsNumeral (behind_seconds h m s at) (λ other. last_digits (at + 1) other >>= λ frames. Ok (Counted h m s frames)) at (58 ∷ []) rest
        (λ other e. refl) (λ other h. h) (λ other numeral. (Counted h m s other, (clock, numeral, refl)))
        (told_then Never IsNumeral (last_digits (at + 1)) (λ frames. Ok (Counted h m s frames)) (at + 1) rest (last_told (at + 1) rest)))
    go false true hc hp =
        subst (Told Never Good (behind_seconds h m s at) at) (ap (λ (c : ℕ). c ∷ rest) (sym (eqb-true b 46 hp)))
        (told_behind Never Good Never IsFraction (behind_seconds h m s at) (λ other. fraction_digits (at + 1) other >>= λ fraction. Ok (Clock h m s fraction)) at (46 ∷ []) rest
        (λ other e. refl) (λ other h. h) (λ other fraction. (Clock h m s other, (clock, inr (fraction.0, fraction.1, refl))))
        (told_then Never IsFraction (fraction_digits (at + 1)) (λ fraction. Ok (Clock h m s fraction)) (at + 1) rest (fraction_told (at + 1) rest)))
    go false false hc hp =
        wrong_here Never Good (behind_seconds h m s at) at (b ∷ rest) []
        (λ other e. let (behind, is) = first_is other b e in ap (behind_seconds h m s at) is ∙ rw (hc, hp) refl)
        (Clock h m s [], (clock, inl (refl, append-nil (clock_text h m s))))

-- the shortest clock that begins so
minutes_there : (h m : List ℕ) → IsNumeral h → IsNumeral m → Texts IsTime (h ++ 58 ∷ (m ++ 58 ∷ 48 ∷ []))
minutes_there h m hours minutes = (Clock h m (48 ∷ []) [], ((hours, minutes, zero_numeral), inl (refl, refl)))

-- what stands behind the minutes
minutes_told : (h m : List ℕ) (at : ℕ) (bytes : List ℕ) → IsNumeral h → IsNumeral m → Told Never (λ t. Texts IsTime (h ++ 58 ∷ (m ++ t))) (behind_minutes h m at) at bytes
minutes_told h m at bytes hours minutes =
    mark_told (λ t. Texts IsTime (h ++ 58 ∷ (m ++ t))) (λ second. digits_at second.0 second.1 >>= λ seconds. behind_seconds h m seconds.0 seconds.1 seconds.2) 58 at bytes (58 ∷ 48 ∷ []) (minutes_there h m hours minutes)
    (λ rest is. digits_told (λ t. Texts IsTime (h ++ 58 ∷ (m ++ 58 ∷ t))) (λ seconds. behind_seconds h m seconds.0 seconds.1 seconds.2) (at + 1) rest (48 ∷ []) (minutes_there h m hours minutes)
    (λ s behind numeral none is.
    told_as Never (λ t. Texts IsTime (h ++ 58 ∷ (m ++ 58 ∷ (s ++ t)))) Never (λ t. Texts IsTime (clock_text h m s ++ t)) (behind_seconds h m s (at + 1 + length s)) (at + 1 + length s) behind
    (λ other h. h) (λ other good. subst (Texts IsTime) (regroup h m s other) good)
    (seconds_told h m s (at + 1 + length s) behind (hours, minutes, numeral))))

-- the shortest clock with these hours
hours_there : (h : List ℕ) → IsNumeral h → Texts IsTime (h ++ 58 ∷ 48 ∷ 58 ∷ 48 ∷ [])
hours_there h hours = minutes_there h (48 ∷ []) hours zero_numeral

-- frames alone
frames_there : (digits : List ℕ) → IsNumeral digits → Texts IsTime (digits ++ [])
frames_there digits numeral = (Frames digits, (numeral, append-nil digits))

-- what stands behind the hours
hours_told : (h : List ℕ) (at : ℕ) (bytes : List ℕ) → IsNumeral h → Told Never (λ t. Texts IsTime (h ++ t)) (behind_hours h at) at bytes
unfolding behind_hours
hours_told h at bytes hours =
    mark_told (λ t. Texts IsTime (h ++ t)) (λ first. digits_at first.0 first.1 >>= λ minutes. behind_minutes h minutes.0 minutes.1 minutes.2) 58 at bytes [] (frames_there h hours)
    (λ rest is. digits_told (λ t. Texts IsTime (h ++ 58 ∷ t)) (λ minutes. behind_minutes h minutes.0 minutes.1 minutes.2) (at + 1) rest (48 ∷ 58 ∷ 48 ∷ []) (hours_there h hours)
    (λ m behind numeral none is. minutes_told h m (at + 1 + length m) behind hours numeral))

-- what stands behind the first digits
first_told : (digits : List ℕ) (at : ℕ) (bytes : List ℕ) → IsNumeral digits → Told Never (λ t. Texts IsTime (digits ++ t)) (behind_first digits at) at bytes
unfolding behind_first
first_told digits at [] numeral = Right (frames_there digits numeral)
first_told digits at (b ∷ rest) numeral =
    told_behind Never (λ t. Texts IsTime (digits ++ t)) Never (λ t. Texts IsTime (digits ++ t)) (behind_first digits at) (behind_hours digits at) at [] (b ∷ rest)
    (λ other e. let (more, is) = first_is other b e in ap (behind_first digits at) is ∙ ap (behind_hours digits at) (sym is)) (λ other h. h) (λ other h. h)
    (subst (λ (n : ℕ). Told Never (λ t. Texts IsTime (digits ++ t)) (behind_hours digits at) n (b ∷ rest)) (omega arith) (hours_told digits at (b ∷ rest) numeral))

-- the form of a time
form_told : (text : List ℕ) → Told IsNone (Texts IsTime) form_of 0 text
unfolding form_of
form_told [] = Missing refl
form_told (b ∷ bytes) =
    told_behind IsNone (Texts IsTime) Never (Texts IsTime) form_of (λ other. digits_at 0 other >>= λ first. behind_first first.0 first.1 first.2) 0 [] (b ∷ bytes)
    (λ other e. let (more, is) = first_is other b e in ap form_of is ∙ ap (λ (l : List ℕ). digits_at 0 l >>= λ first. behind_first first.0 first.1 first.2) (sym is)) (λ other h. absurd h) (λ other h. h)
    (digits_told (Texts IsTime) (λ first. behind_first first.0 first.1 first.2) 0 (b ∷ bytes) (48 ∷ []) (Frames (48 ∷ []), (zero_numeral, refl))
    (λ digits rest numeral none is. first_told digits (0 + length digits) rest numeral))

-- ---- the whole

pub time_told : (num den : ℕ) (text : List ℕ) → Told IsNone (Texts IsTime) (time num den) 0 text
unfolding time
time_told num den text = told_then IsNone (Texts IsTime) form_of (λ form. below (2 ^ 31) (frames_of num den form)) 0 text (form_told text)

-- nothing is there, so that is told
pub time_missing : (num den : ℕ) (text : List ℕ) → IsNone text → time num den text ≡ Err Empty
unfolding time form_of
time_missing num den text e = ap (time num den) e

-- a time is read, or is too large
pub time_sized : (num den : ℕ) (text : List ℕ) → Texts IsTime text → Sized (time num den text)
time_sized num den text (form, is) = subst Sized (sym (whole_time num den text form is)) (below_sized (2 ^ 31) (frames_of num den form))

-- a time that is too large doesn't fit
pub time_unfit : (num den : ℕ) (text : List ℕ) (form : Form) → IsTime text form → time num den text ≡ Err TooLarge → 2 ^ 31 ≤ frames_of num den form
time_unfit num den text form is e = below_unfit (2 ^ 31) (frames_of num den form) (sym (whole_time num den text form is) ∙ e)
