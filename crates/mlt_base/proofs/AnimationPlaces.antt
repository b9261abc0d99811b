-- Animations: the place of a bad byte.
use Rattle.std.proofs.Common.{◌≡◌, ◌≢◌, ℕ, ◌+◌, ◌^◌, ◌<◌, ◌≤◌, ◌⊎◌, ◌↔◌, Bool, true, false, List, [], ◌∷◌, ◌++◌, length, take, drop, Result, Ok, Err, inl, inr, refl, sym, ap, subst, ◌∙◌, append_assoc, append-nil, length-append, arith}
use Rattle.std.specs.Prelude.{None}
use Rattle.std.proofs.lemmas.List.{length-take-le, take_at, drop_at, take-append-le, take-append-drop, drop-append-le}
use Rattle.mlt_base.specs.declared.fault.NumFault.{NumFault}
use Rattle.mlt_base.specs.declared.fault.NumFault.TheVariants.{Empty, BadDigit, TooLarge, Order, Smooth}
use Rattle.mlt_base.specs.declared.animation.Key.{Key}
use Rattle.mlt_base.specs.Reading.{held, IsNumeral, digit_count, number}
use Rattle.mlt_base.specs.Steps.{◌>>=◌}
use Rattle.mlt_base.specs.Stop.{Texts, StopsAt}
use Rattle.mlt_base.specs.Decimal.{decimal}
use Rattle.mlt_base.specs.Animation.{is_behind, Rises, key_mark, constant, animation}
use Rattle.mlt_base.specs.Grammar.{IsDecimal, sign_text, IsKeys, AreBefore, AreHeld, IsAnimation, HasEquals, IsHalfMark, IsBadAt, HasValue, HasLarge, HasOther}
use Rattle.mlt_base.proofs.AnimationForms.{animation_takes, Lacks-decimal}
use Rattle.mlt_base.proofs.Cuts.{Lacks, Lacks-digits}
use Rattle.mlt_base.proofs.Stops.{Told, Missing, Wrong, Right, Sized, Sticks, IsNone, stops_once, stops_from, law_bad}
use Rattle.mlt_base.proofs.NumeralStops.{zero_numeral}
use Rattle.mlt_base.proofs.DecimalStops.{decimal_told, decimal_missing, decimal_sized}
use Rattle.mlt_base.proofs.AnimationParts.{keys_in, last_of, front_fails, FaultAt}
use Rattle.mlt_base.proofs.AnimationMarks.{Refused, value_place, KeyFault, NoFrame, LargeFrame, WaveMark, BadMark, HalfMark, OutOfOrder, BadValue, err_is}
use Rattle.mlt_base.proofs.AnimationFaults.{AnimationCase, Keys, Constant, animation_case, animation_keys, one_fault, held_is, sign_append, key_of_fault, front_short, lacks-there, decimal_no_equals, law_order, law_smooth, law_no_value, law_large_animation}
use Rattle.mlt_base.proofs.AnimationStops.{keys_read, key_there, zero_there, keys_there, Refuses, no_frame_refuses, mark_refuses, half_refuses, value_refuses}

-- ---- the whole text

-- keys in front
front_refused : (front : List ℕ) (keys : List Key) (rest : List ℕ) → AreBefore front keys → Rises None keys → AreHeld keys → Refused (keys_in (last_of None keys) (0 + length front) rest) → Refused (keys_in None 0 (front ++ rest))
front_refused front keys rest before rise held (inl (place, e)) = inl (place, front_fails None 0 front keys rest (BadDigit place) before rise held e)
front_refused front keys rest before rise held (inr (place, e)) = inr (place, front_fails None 0 front keys rest (Smooth place) before rise held e)

never_refused : (text : List ℕ) → IsKeys text → ¬ Refused (keys_in None 0 text)
never_refused text (key, keys, are) = keys_read None 0 text key keys are

module _ (text : List ℕ) (fault : NumFault) (f : FaultAt None 0 text fault) where
  -- some bytes into the part at fault
  stop_in : (front rest : List ℕ) (k : ℕ) → f.part ++ f.ending ≡ front ++ rest → k ≤ length rest → Refuses (last_of None f.keys) (0 + length f.front) front rest k → (more : List ℕ) → IsKeys (front ++ (take k rest ++ more)) → StopsAt IsKeys text (length f.front + length front + k)
  stop_in front rest k is within refuses more are =
      let whole : text ≡ (f.front ++ front) ++ rest = f.spelled ∙ (ap (λ (l : List ℕ). f.front ++ l) is ∙ sym (append_assoc f.front front rest)) in
      let stop : StopsAt IsKeys ((f.front ++ front) ++ rest) (length (f.front ++ front) + k) =
      stops_from IsKeys (λ t. Refused (keys_in None 0 t)) never_refused (f.front ++ front) rest k within
      (λ other e. subst (λ (l : List ℕ). Refused (keys_in None 0 l)) (sym (append_assoc f.front front other)) (front_refused f.front f.keys (front ++ other) f.before f.rise f.held (refuses other e)))
      more (subst IsKeys (sym (append_assoc f.front front (take k rest ++ more))) (keys_there f.front f.keys (front ++ (take k rest ++ more)) f.before are)) in
      subst (λ (l : List ℕ). StopsAt IsKeys l (length f.front + length front + k)) (sym whole) (subst (StopsAt IsKeys ((f.front ++ front) ++ rest)) (omega (arith, length-append f.front front)) stop)

-- a part of a text that lacks a byte
Lacks-behind : (mark : ℕ) (front back : List ℕ) → Lacks mark (front ++ back) → Lacks mark back
Lacks-behind mark [] back lacks = lacks
Lacks-behind mark (b ∷ front) back lacks = Lacks-behind mark front back lacks.1

-- bytes in front
Lacks-front : (mark : ℕ) (front back : List ℕ) → Lacks mark (front ++ back) → Lacks mark front
Lacks-front mark [] back lacks = tt
Lacks-front mark (b ∷ front) back lacks = (lacks.0, Lacks-front mark front back lacks.1)

-- bytes before the place where the text can't go on, none of which is `|`
no_half : (text front bytes rest : List ℕ) (at : ℕ) → text ≡ (front ++ bytes) ++ rest → at ≡ length front + length bytes → 0 < length bytes → Lacks 124 bytes → StopsAt IsKeys text at → (bar : ℕ) → ¬ IsHalfMark text bar
no_half text front bytes rest at is place some lacks stop bar (before, behind, spelled, long, half) =
    let same : bar + 1 ≡ at = stops_once IsKeys text (bar + 1) at half stop in
    let n : ℕ = length front + length bytes in
    let one : take n text ≡ front ++ bytes = ap (take n) is ∙ take_at (front ++ bytes) rest n (length-append front bytes) in
    let grouped : text ≡ (before ++ 124 ∷ []) ++ behind = spelled ∙ sym (append_assoc before (124 ∷ []) behind) in
    let two : take n text ≡ before ++ 124 ∷ [] = ap (take n) grouped ∙ take_at (before ++ 124 ∷ []) behind n (omega (arith, length-append before (124 ∷ []))) in
    let back : drop (length front) before ++ 124 ∷ [] ≡ bytes =
    sym (drop-append-le (length front) before (124 ∷ []) (omega arith)) ∙ (ap (drop (length front)) (sym two ∙ one) ∙ drop_at front bytes (length front) refl) in
    lacks-there 124 (drop (length front) before) [] (subst (Lacks 124) (sym back) lacks)

-- what stands before the `=` of a mark
abbrev before_equals : Bool → List ℕ
before_equals false = []
before_equals true = 124 ∷ []

-- a mark is that and `=`
mark_length : (discrete : Bool) → length (sign_text discrete []) ≡ length (before_equals discrete) + 1
mark_length false = refl
mark_length true = refl

regroup_value : (front frame : List ℕ) (discrete : Bool) (bytes rest : List ℕ) → front ++ ((frame ++ sign_text discrete []) ++ (bytes ++ rest)) ≡ ((front ++ (frame ++ before_equals discrete)) ++ 61 ∷ bytes) ++ rest
regroup_value front frame false bytes rest = simp (append_assoc, append-nil) refl
regroup_value front frame true bytes rest = simp append_assoc refl

-- keys end with `;`, if there are any
before_end : (front : List ℕ) (keys : List Key) → AreBefore front keys → (front ≡ []) ⊎ ((bytes : List ℕ) × (front ≡ bytes ++ 59 ∷ []))
before_end front [] is = inl is
before_end front (key ∷ keys) (part, rest, is, before, spelled) = inr (go (before_end rest keys before))
  where
    go : (rest ≡ []) ⊎ ((bytes : List ℕ) × (rest ≡ bytes ++ 59 ∷ [])) → (bytes : List ℕ) × (front ≡ bytes ++ 59 ∷ [])
    go (inl none) = (part, spelled ∙ ap (λ (l : List ℕ). part ++ 59 ∷ l) none)
    go (inr (bytes, e)) = (part ++ 59 ∷ bytes, spelled ∙ (ap (λ (l : List ℕ). part ++ 59 ∷ l) e ∙ sym (append_assoc part (59 ∷ bytes) (59 ∷ []))))

module _ (text : List ℕ) (at : ℕ) (short : length text < 2 ^ 32) (f : FaultAt None 0 text (BadDigit at)) where
  inside : (front rest : List ℕ) → f.part ≡ front ++ rest → length f.front + (length front + length rest) < 2 ^ 32
  inside front rest is = omega (arith, front_short text (BadDigit at) f short, ap length is, length-append front rest)

  -- the place that is told
  told_at : (n : ℕ) → n < 2 ^ 32 → BadDigit at ≡ BadDigit (held n) → at ≡ n
  told_at n small same = let place : at ≡ held n = cc in place ∙ held_is n small

  -- the end of some bytes of the part, none of which is `|`
  bad_behind : (front bytes rest : List ℕ) → text ≡ (front ++ bytes) ++ rest → at ≡ length front + length bytes → 0 < length bytes → Lacks 124 bytes → StopsAt IsKeys text at → IsBadAt text at
  bad_behind front bytes rest is place some lacks stop = inl (stop, no_half text front bytes rest at is place some lacks stop)

  -- no frame: the text ends, or its `;` is behind it
  no_frame_bad : digit_count f.part ≡ 0 → at ≡ 0 + length f.front → IsBadAt text at
  no_frame_bad none exact = go (before_end f.front f.keys f.before)
    where
      stop : StopsAt IsKeys text at
      stop = subst (StopsAt IsKeys text) (omega (arith, exact))
          (stop_in text (BadDigit at) f [] (f.part ++ f.ending) 0 refl (omega arith) (no_frame_refuses (last_of None f.keys) (0 + length f.front) f.part f.ending none f.end f.some)
          (48 ∷ 61 ∷ 48 ∷ []) (key_there (48 ∷ []) false (48 ∷ []) zero_numeral zero_there))

      go : (f.front ≡ []) ⊎ ((bytes : List ℕ) × (f.front ≡ bytes ++ 59 ∷ [])) → IsBadAt text at
      go (inl empty) = inl (stop, λ bar (before, behind, spelled, long, half). omega (arith, exact, ap length empty, stops_once IsKeys text (bar + 1) at half stop))
      go (inr (bytes, e)) =
          bad_behind bytes (59 ∷ []) (f.part ++ f.ending) (f.spelled ∙ ap (λ (l : List ℕ). l ++ (f.part ++ f.ending)) e) (omega (arith, exact, ap length e, length-append bytes (59 ∷ []))) (omega arith) ((λ e. omega (arith, e)), tt) stop

  -- no mark behind a frame
  mark_bad : (frame rest : List ℕ) → IsNumeral frame → digit_count rest ≡ 0 → number frame < 2 ^ 31 → f.part ≡ frame ++ rest
      → ((other : List ℕ) → take 1 other ≡ take 1 rest → Refused (key_mark (0 + length f.front + length frame) other)) → at ≡ 0 + length f.front + length frame → IsBadAt text at
  mark_bad frame rest numeral none small spelled refused exact =
      let part : f.part ++ f.ending ≡ frame ++ (rest ++ f.ending) = ap (λ (l : List ℕ). l ++ f.ending) spelled ∙ append_assoc frame rest f.ending in
      let lacks : Lacks 59 rest = Lacks-behind 59 frame rest (subst (Lacks 59) spelled f.lacks) in
      let whole : text ≡ (f.front ++ frame) ++ (rest ++ f.ending) = f.spelled ∙ (ap (λ (l : List ℕ). f.front ++ l) part ∙ sym (append_assoc f.front frame (rest ++ f.ending))) in
      bad_behind f.front frame (rest ++ f.ending) whole (omega (arith, exact)) numeral.0 (Lacks-digits 124 frame (inr (omega arith)) numeral.1)
      (subst (StopsAt IsKeys text) (omega (arith, exact))
      (stop_in text (BadDigit at) f frame (rest ++ f.ending) 0 part (omega arith) (mark_refuses (last_of None f.keys) (0 + length f.front) frame rest f.ending numeral small none lacks f.end refused)
      (61 ∷ 48 ∷ []) (key_there frame false (48 ∷ []) numeral zero_there)))

  -- half a mark behind a frame
  half_bad : (frame more : List ℕ) → IsNumeral frame → number frame < 2 ^ 31 → f.part ≡ frame ++ 124 ∷ more
      → ((other : List ℕ) → take 1 other ≡ take 1 more → key_mark (0 + length f.front + length frame) (124 ∷ other) ≡ Err (BadDigit (held (0 + length f.front + length frame)))) → at ≡ 0 + length f.front + length frame → IsBadAt text at
  half_bad frame more numeral small spelled refused exact =
      let place : length f.front + length (frame ++ 124 ∷ []) + 0 ≡ at + 1 = omega (arith, exact, length-append frame (124 ∷ [])) in
      let part : f.part ++ f.ending ≡ frame ++ 124 ∷ (more ++ f.ending) = ap (λ (l : List ℕ). l ++ f.ending) spelled ∙ append_assoc frame (124 ∷ more) f.ending in
      let lacks : Lacks 59 (124 ∷ more) = Lacks-behind 59 frame (124 ∷ more) (subst (Lacks 59) spelled f.lacks) in
      let stop : StopsAt IsKeys text (at + 1) =
      subst (StopsAt IsKeys text) place
      (stop_in text (BadDigit at) f (frame ++ 124 ∷ []) (more ++ f.ending) 0 (part ∙ sym (append_assoc frame (124 ∷ []) (more ++ f.ending))) (omega arith) (half_refuses (last_of None f.keys) (0 + length f.front) frame more f.ending numeral small lacks.1 f.end refused)
      (61 ∷ 48 ∷ []) (subst IsKeys (sym (append_assoc frame (124 ∷ []) (61 ∷ 48 ∷ []))) (key_there frame true (48 ∷ []) numeral zero_there))) in
      let whole : text ≡ (f.front ++ frame) ++ 124 ∷ (more ++ f.ending) = f.spelled ∙ (ap (λ (l : List ℕ). f.front ++ l) part ∙ sym (append_assoc f.front frame (124 ∷ (more ++ f.ending)))) in
      inr (f.front ++ frame, more ++ f.ending, whole, omega (arith, exact, length-append f.front frame), stop)

  -- some bytes into a value, with which a decimal begins
  value_bad : (frame : List ℕ) (discrete : Bool) (value more : List ℕ) (k : ℕ) → IsNumeral frame → number frame < 2 ^ 31 → f.part ≡ frame ++ sign_text discrete value → is_behind (last_of None f.keys) (number frame) ≡ true
      → Sticks (decimal (value_place (0 + length f.front + length frame) discrete)) (value_place (0 + length f.front + length frame) discrete) value k → Texts IsDecimal (take k value ++ more) → at ≡ value_place (0 + length f.front + length frame) discrete + k → IsBadAt text at
  value_bad frame discrete value more k numeral small spelled order stuck there exact =
      let mark : List ℕ = sign_text discrete [] in
      let bar : List ℕ = before_equals discrete in
      let cut : value ++ f.ending ≡ take k value ++ (drop k value ++ f.ending) = ap (λ (l : List ℕ). l ++ f.ending) (sym (take-append-drop k value)) ∙ append_assoc (take k value) (drop k value) f.ending in
      let whole : text ≡ ((f.front ++ (frame ++ bar)) ++ 61 ∷ take k value) ++ (drop k value ++ f.ending) =
      f.spelled ∙ (ap (λ (l : List ℕ). f.front ++ l) (part ∙ ap (λ (l : List ℕ). (frame ++ mark) ++ l) cut) ∙ regroup_value f.front frame discrete (take k value) (drop k value ++ f.ending)) in
      let here : at ≡ length (f.front ++ (frame ++ bar)) + length (61 ∷ take k value) = omega (arith, exact, mark_length discrete, length-append f.front (frame ++ bar), length-append frame bar, length-take-le k value stuck.within) in
      let no_bar : Lacks 124 (take k value) = Lacks-front 124 (take k value) more (Lacks-decimal 124 (take k value ++ more) there.0 (λ e. omega (arith, e)) (inr (omega arith)) there.1) in
      bad_behind (f.front ++ (frame ++ bar)) (61 ∷ take k value) (drop k value ++ f.ending) whole here (omega arith) ((λ e. omega (arith, e)), no_bar)
      (subst (StopsAt IsKeys text) (omega (arith, exact, length-append frame mark))
      (stop_in text (BadDigit at) f (frame ++ mark) (value ++ f.ending) k part (omega (arith, stuck.within, length-append value f.ending))
      (value_refuses (last_of None f.keys) (0 + length f.front) frame discrete value f.ending k numeral small order (lacks_value discrete (Lacks-behind 59 frame (sign_text discrete value) (subst (Lacks 59) spelled f.lacks))) f.end stuck)
      more good))
    where
      part : f.part ++ f.ending ≡ (frame ++ sign_text discrete []) ++ (value ++ f.ending)
      part = ap (λ (l : List ℕ). l ++ f.ending) (spelled ∙ ap (λ (l : List ℕ). frame ++ l) (sym (sign_append discrete [] value)) ∙ sym (append_assoc frame (sign_text discrete []) value)) ∙ append_assoc (frame ++ sign_text discrete []) value f.ending

      good : IsKeys ((frame ++ sign_text discrete []) ++ (take k (value ++ f.ending) ++ more))
      good =
          let bytes : List ℕ = take k (value ++ f.ending) ++ more in
          subst IsKeys (sym (append_assoc frame (sign_text discrete []) bytes ∙ ap (λ (l : List ℕ). frame ++ l) (sign_append discrete [] bytes)))
          (key_there frame discrete bytes numeral (subst (λ (l : List ℕ). Texts IsDecimal (l ++ more)) (sym (take-append-le k value f.ending stuck.within)) there))

      lacks_value : (discrete : Bool) → Lacks 59 (sign_text discrete value) → Lacks 59 value
      lacks_value false lacks = lacks.1
      lacks_value true lacks = lacks.1.1

  -- the fault of a value
  bad_value : (frame : List ℕ) (discrete : Bool) (value : List ℕ) → IsNumeral frame → number frame < 2 ^ 31 → f.part ≡ frame ++ sign_text discrete value → is_behind (last_of None f.keys) (number frame) ≡ true
      → decimal (value_place (0 + length f.front + length frame) discrete) value ≡ Err (BadDigit at) → IsBadAt text at
  bad_value frame discrete value numeral small spelled order is = bad (decimal_told start value)
    where
      start : ℕ
      start = value_place (0 + length f.front + length frame) discrete

      sized : Sized (decimal start value) → IsBadAt text at
      sized (inl (n, ok)) = absurd cc
      sized (inr large) = absurd cc

      bad : Told IsNone (Texts IsDecimal) (decimal start) start value → IsBadAt text at
      bad (Missing none) = absurd (let empty = decimal_missing start value none in cc)
      bad (Right good) = sized (decimal_sized start value good)
      bad (Wrong k stuck (more, there)) =
          let fault : BadDigit at ≡ BadDigit (held (start + k)) = err_is (BadDigit at) (BadDigit (held (start + k))) (decimal start value) is (stuck.again value refl) in
          let long : length (sign_text discrete value) ≡ length (sign_text discrete []) + length value = ap length (sym (sign_append discrete [] value)) ∙ length-append (sign_text discrete []) value in
          value_bad frame discrete value more k numeral small spelled order stuck there (told_at (start + k) (omega (arith, long, stuck.within, inside frame (sign_text discrete value) spelled)) fault)

  -- each bad byte is one of these
  key_bad : KeyFault (last_of None f.keys) (0 + length f.front) f.part (BadDigit at) → IsBadAt text at
  key_bad (LargeFrame frame rest numeral none large spelled is) = absurd cc
  key_bad (WaveMark frame value numeral small spelled is) = absurd cc
  key_bad (OutOfOrder frame discrete value numeral small spelled order is) = absurd cc
  key_bad (NoFrame none is) = no_frame_bad none (told_at (0 + length f.front) (omega (arith, front_short text (BadDigit at) f short)) is)
  key_bad (BadMark frame rest numeral none small spelled refused is) =
      mark_bad frame rest numeral none small spelled refused (told_at (0 + length f.front + length frame) (omega (arith, inside frame rest spelled)) is)
  key_bad (HalfMark frame more numeral small spelled refused is) =
      half_bad frame more numeral small spelled refused (told_at (0 + length f.front + length frame) (omega (arith, inside frame (124 ∷ more) spelled)) is)
  key_bad (BadValue frame discrete value numeral small spelled order is) = bad_value frame discrete value numeral small spelled order is

bad_of : (text : List ℕ) (at : ℕ) → length text < 2 ^ 32 → keys_in None 0 text ≡ Err (BadDigit at) → IsBadAt text at
bad_of text at short e = let (f, key) = key_of_fault text (BadDigit at) e in key_bad text at short f key

-- ---- the laws

-- a text of keys doesn't go wrong
bad_no_keys : (text : List ℕ) (at : ℕ) → IsBadAt text at → ¬ IsKeys text
bad_no_keys text at (inl (stop, none)) are = stop.unfinished are
bad_no_keys text at (inr (front, rest, spelled, place, stop)) are = stop.unfinished are

-- and a text goes wrong at one place
bad_once : (text : List ℕ) (a b : ℕ) → IsBadAt text a → IsBadAt text b → a ≡ b
bad_once text a b (inl (first, none)) (inl (second, none')) = stops_once IsKeys text a b first second
bad_once text a b (inl (first, none)) (inr half) = absurd (none b half)
bad_once text a b (inr half) (inl (second, none)) = absurd (none a half)
bad_once text a b (inr (front, rest, spelled, place, first)) (inr (front', rest', spelled', place', second)) = omega (arith, stops_once IsKeys text (a + 1) (b + 1) first second)

-- what is read has only keys
read_keys : (text : List ℕ) (keys : List Key) → HasEquals text → animation text ≡ Ok keys → IsKeys text
read_keys text keys equals e = go keys (animation_takes text keys e).is
  where
    go : (keys : List Key) → IsAnimation text keys → IsKeys text
    go [] is = absurd is
    go (key ∷ keys) (inl are) = (key, keys, are)
    go (key ∷ keys) (inr (is, one)) = absurd (decimal_no_equals text key.value.0 is equals)

-- a bad byte exactly where the text goes wrong and nothing else is at fault
pub law_bad_keys : (text : List ℕ) (at : ℕ) → length text < 2 ^ 32 → HasEquals text → animation text ≡ Err (BadDigit at) ↔ (IsBadAt text at × (¬ HasOther text))
law_bad_keys text at short equals = ((λ e. (bad_of text at short (sym (animation_keys text equals) ∙ e), others e)), λ (bad, none). back bad none (animation text) refl)
  where
    others : animation text ≡ Err (BadDigit at) → ¬ HasOther text
    others e (inl large) = absurd (let is = (law_large_animation text).1 (inr (equals, large)) in cc)
    others e (inr (inl empty)) = absurd (let is = (law_no_value text).1 (inr empty) in cc)
    others e (inr (inr (inl (place, order)))) = absurd (let is = (law_order text place short).1 order in cc)
    others e (inr (inr (inr (place, smooth)))) = absurd (let is = (law_smooth text place short).1 smooth in cc)

    nothing : (text ≡ []) ⊎ HasValue IsNone text → HasOther text
    nothing (inl none) = absurd (let (front, rest, spelled) = equals in omega (arith, ap length none, ap length spelled, length-append front (61 ∷ rest)))
    nothing (inr empty) = inr (inl empty)

    large : ((n : ℕ) × IsDecimal text n × (2 ^ 32 ≤ n)) ⊎ (HasEquals text × HasLarge text) → HasOther text
    large (inl (n, is, big)) = absurd (decimal_no_equals text n is equals)
    large (inr (some, has)) = inl has

    back : IsBadAt text at → ¬ HasOther text → (r : Result (List Key) NumFault) → animation text ≡ r → animation text ≡ Err (BadDigit at)
    back bad none (Ok keys) e = absurd (bad_no_keys text at bad (read_keys text keys equals e))
    back bad none (Err Empty) e = absurd (none (nothing ((law_no_value text).0 e)))
    back bad none (Err TooLarge) e = absurd (none (large ((law_large_animation text).0 e)))
    back bad none (Err (Order place)) e = absurd (none (inr (inr (inl (place, (law_order text place short).0 e)))))
    back bad none (Err (Smooth place)) e = absurd (none (inr (inr (inr (place, (law_smooth text place short).0 e)))))
    back bad none (Err (BadDigit place)) e = e ∙ ap (λ (n : ℕ). Err (BadDigit n)) (bad_once text place at (bad_of text place short (sym (animation_keys text equals) ∙ e)) bad)

-- of a text that isn't of keys
pub law_bad_value : (text : List ℕ) (at : ℕ) → length text < 2 ^ 32 → ¬ HasEquals text → animation text ≡ Err (BadDigit at) ↔ ((text ≢ []) × StopsAt (Texts IsDecimal) text at)
law_bad_value text at short none = go (animation_case text)
  where
    go : AnimationCase text → animation text ≡ Err (BadDigit at) ↔ ((text ≢ []) × StopsAt (Texts IsDecimal) text at)
    go (Keys equals is) = absurd (none equals)
    go (Constant lacks is) =
        let law = law_bad IsNone (Texts IsDecimal) (decimal 0) (decimal_told 0) (decimal_missing 0) (decimal_sized 0) text at short in
        ((λ e. law.0 (one_fault text (BadDigit at) (sym is ∙ e))), λ stop. is ∙ ap (λ (r : Result ℕ NumFault). r >>= λ value. Ok (constant value ∷ [])) (law.1 stop))
