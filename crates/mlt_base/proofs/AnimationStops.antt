-- Keys: no text of them is refused, and texts that begin so are.
use Rattle.std.proofs.Common.{◌≡◌, ℕ, zero, suc, ◌+◌, ◌^◌, ◌<◌, ◌≤◌, Bool, true, false, List, [], ◌∷◌, ◌++◌, length, take, Result, Ok, Err, inl, inr, refl, sym, ap, subst, ◌∙◌, append_assoc, arith}
use Rattle.std.specs.Prelude.{Option, Some}
use Rattle.std.specs.List.{slice_split}
use Rattle.std.proofs.lemmas.Bool.{cases_lt}
use Rattle.mlt_base.specs.declared.fault.NumFault.{NumFault}
use Rattle.mlt_base.specs.declared.fault.NumFault.TheVariants.{BadDigit, TooLarge, Order, Smooth}
use Rattle.mlt_base.specs.declared.animation.Key.{Key}
use Rattle.mlt_base.specs.Reading.{held, IsNumeral, digit_count, number}
use Rattle.mlt_base.specs.Steps.{◌>>=◌}
use Rattle.mlt_base.specs.Stop.{Texts}
use Rattle.mlt_base.specs.Decimal.{decimal_value, decimal}
use Rattle.mlt_base.specs.Animation.{is_behind, key_mark, key_at, keys_of, is_semicolon}
use Rattle.mlt_base.specs.Grammar.{IsDecimal, sign_text, IsKey, AreKeys, IsKeys, AreBefore, IsEnd}
use Rattle.mlt_base.proofs.AnimationForms.{no_digit, key_some, split_none, split_at, Lacks-key}
use Rattle.mlt_base.proofs.Cuts.{Lacks}
use Rattle.mlt_base.proofs.Stops.{Sized, Sticks, first_no_digit, some_first}
use Rattle.mlt_base.proofs.NumeralStops.{zero_numeral}
use Rattle.mlt_base.proofs.DecimalStops.{decimal_sized}
use Rattle.mlt_base.proofs.AnimationParts.{keys_in, split_of, split_front, part_fails}
use Rattle.mlt_base.proofs.AnimationMarks.{Refused, value_place, marked, key_of, frame_reads, frame_large, frame_none, mark_read, order_fails, order_passes}
use Rattle.mlt_base.proofs.AnimationFaults.{split_key, Lacks-frame, some_front, first_part_none, none_on, sign_append}

-- ---- no text of keys is refused

-- a key is read, or its frame or its value isn't one that can be
data KeyRead (at : ℕ) (r : Result Key NumFault) : Type 0 where
  Read : (key : Key) → r ≡ Ok key → KeyRead at r
  Large : r ≡ Err TooLarge → KeyRead at r
  Late : r ≡ Err (Order (held at)) → KeyRead at r

-- each key has one of these answers
key_read : (last : Option ℕ) (at : ℕ) (part : List ℕ) (key : Key) → IsKey part key → KeyRead at (key_at last at part)
key_read last at part key (frame, value, numeral, same, is, spelled) =
    subst (λ (l : List ℕ). KeyRead at (key_at last at l)) (sym spelled)
    (elim (cases_lt (number frame) (2 ^ 31)) [ inl small ↦ order small (is_behind last (number frame)) refl | inr large ↦ Large (frame_large last at frame (sign_text key.discrete value) numeral (no_digit key.discrete value) large) ])
  where
    place : ℕ
    place = value_place (at + length frame) key.discrete

    sized : {r : Result Key NumFault} → r ≡ (decimal place value >>= key_of (number frame) key.discrete) → Sized (decimal place value) → KeyRead at r
    sized e (inl (n, ok)) = Read (record { frame = number frame; value = record { 0 = n }; discrete = key.discrete }) (e ∙ ap (λ (r : Result ℕ NumFault). r >>= key_of (number frame) key.discrete) ok)
    sized e (inr large) = Large (e ∙ ap (λ (r : Result ℕ NumFault). r >>= key_of (number frame) key.discrete) large)

    order : number frame < 2 ^ 31 → (t : Bool) → is_behind last (number frame) ≡ t → KeyRead at (key_at last at (frame ++ sign_text key.discrete value))
    order small true h = sized (mark_read last at frame key.discrete value numeral small ∙ order_passes last at (number frame) (key.discrete, place, value) h) (decimal_sized place value (key.value.0, is))
    order small false h = Late (mark_read last at frame key.discrete value numeral small ∙ order_fails last at (number frame) (key.discrete, place, value) h)

-- nor is what stands behind it
then_read : (at : ℕ) (r : Result Key NumFault) (f : Key → Result (List Key) NumFault) → KeyRead at r → ((key : Key) → ¬ Refused (f key)) → ¬ Refused (r >>= f)
then_read at r f (Read key is) never bad = never key (subst Refused (ap (λ (r : Result Key NumFault). r >>= f) is) bad)
then_read at r f (Large is) never bad = go (subst Refused (ap (λ (r : Result Key NumFault). r >>= f) is) bad)
  where
    go : Refused {A = List Key} (Err TooLarge) → ⊥
    go (inl (place, e)) = absurd cc
    go (inr (place, e)) = absurd cc
then_read at r f (Late is) never bad = go (subst Refused (ap (λ (r : Result Key NumFault). r >>= f) is) bad)
  where
    go : Refused {A = List Key} (Err (Order (held at))) → ⊥
    go (inl (place, e)) = absurd cc
    go (inr (place, e)) = absurd cc

-- what is read isn't refused
fine_then : (keys : List Key) → ¬ Refused {A = List Key} (Ok keys)
fine_then keys (inl (place, e)) = absurd cc
fine_then keys (inr (place, e)) = absurd cc

cons_refused : (key : Key) (r : Result (List Key) NumFault) → Refused (r >>= λ keys. Ok (key ∷ keys)) → Refused r
cons_refused key (Ok keys) (inl (place, e)) = absurd cc
cons_refused key (Ok keys) (inr (place, e)) = absurd cc
cons_refused key (Err fault) (inl (place, e)) = inl (place, let same : fault ≡ BadDigit place = cc in ap (λ (f : NumFault). Err f) same)
cons_refused key (Err fault) (inr (place, e)) = inr (place, let same : fault ≡ Smooth place = cc in ap (λ (f : NumFault). Err f) same)

-- a key, and parts that aren't refused behind it
first_read : (last : Option ℕ) (at : ℕ) (part : List ℕ) (parts : List (List ℕ)) (key : Key) → IsKey part key → ((k : Key) → ¬ Refused (keys_of (Some k.frame) (at + length part + 1) parts)) → ¬ Refused (keys_of last at (part ∷ parts))
first_read last at part parts key is later bad =
    let read : keys_of last at (part ∷ parts) ≡ (key_at last at part >>= λ k. keys_of (Some k.frame) (at + length part + 1) parts >>= λ ks. Ok (k ∷ ks)) = rw (key_some part key is parts) refl in
    then_read at (key_at last at part) (λ k. keys_of (Some k.frame) (at + length part + 1) parts >>= λ ks. Ok (k ∷ ks)) (key_read last at part key is) (λ k bad. later k (cons_refused k (keys_of (Some k.frame) (at + length part + 1) parts) bad)) (subst Refused read bad)

-- no text of keys is
pub keys_read : (last : Option ℕ) (at : ℕ) (text : List ℕ) (key : Key) (keys : List Key) → AreKeys text key keys → ¬ Refused (keys_in last at text)
keys_read last at text key [] (inl is) bad = first_read last at text [] key is (λ k. fine_then []) (subst Refused (ap (keys_of last at) (split_none text (Lacks-key text key is))) bad)
keys_read last at text key [] (inr (front, is, e)) bad =
    first_read last at front ([] ∷ []) key is (λ k. fine_then []) (subst Refused (ap (keys_in last at) e ∙ ap (keys_of last at) (split_at front [] (Lacks-key front key is))) bad)
keys_read last at text key (next ∷ keys) (front, rest, is, are, e) bad =
    first_read last at front (slice_split is_semicolon rest) key is (λ k. keys_read (Some k.frame) (at + length front + 1) rest next keys are) (subst Refused (ap (keys_in last at) e ∙ ap (keys_of last at) (split_at front rest (Lacks-key front key is))) bad)

-- ---- the shortest texts of keys that begin so

-- a decimal behind a frame and a mark
pub key_there : (frame : List ℕ) (discrete : Bool) (value : List ℕ) → IsNumeral frame → Texts IsDecimal value → IsKeys (frame ++ sign_text discrete value)
key_there frame discrete value numeral (n, is) = (record { frame = number frame; value = record { 0 = n }; discrete = discrete }, [], inl (frame, value, numeral, refl, is, refl))

-- `0`
pub zero_there : Texts IsDecimal (48 ∷ [])
zero_there = (decimal_value (48 ∷ []) [], (48 ∷ [], [], zero_numeral.1, tt, omega arith, inl (refl, refl), refl))

-- keys behind keys
pub keys_there : (front : List ℕ) (keys : List Key) (text : List ℕ) → AreBefore front keys → IsKeys text → IsKeys (front ++ text)
keys_there front [] text is are = subst (λ (l : List ℕ). IsKeys (l ++ text)) (sym is) are
keys_there front (key ∷ keys) text (part, rest, is, before, spelled) are =
    let (next, others, behind) = keys_there rest keys text before are in
    (key, next ∷ others, (part, rest ++ text, is, behind, ap (λ (l : List ℕ). l ++ text) spelled ∙ append_assoc part (59 ∷ rest) text))

-- ---- where keys can't go on

-- the same first byte before the ends of two parts
first_of_part : (part ending part' ending' : List ℕ) → Lacks 59 part → IsEnd ending → Lacks 59 part' → IsEnd ending' → take 1 (part' ++ ending') ≡ take 1 (part ++ ending) → take 1 part' ≡ take 1 part
first_of_part [] ending [] ending' lacks end lacks' end' e = refl
first_of_part (b ∷ part) ending (c ∷ part') ending' lacks end lacks' end' e = e
first_of_part [] ending (c ∷ part') ending' lacks (inl is) lacks' end' e = absurd (let none : take 1 ending ≡ [] = ap (take 1) is in cc)
first_of_part [] ending (c ∷ part') ending' lacks (inr (more, is)) lacks' end' e = absurd (lacks'.0 (let one : take 1 ending ≡ 59 ∷ [] = ap (take 1) is in cc))
first_of_part (b ∷ part) ending [] ending' lacks end lacks' (inl is) e = absurd (let none : take 1 ending' ≡ [] = ap (take 1) is in cc)
first_of_part (b ∷ part) ending [] ending' lacks end lacks' (inr (more, is)) e = absurd (lacks.0 (let one : take 1 ending' ≡ 59 ∷ [] = ap (take 1) is in cc))

-- the same first bytes, which are in the first part
bytes_of_part : (k : ℕ) (part ending part' ending' : List ℕ) → k ≤ length part → Lacks 59 part → IsEnd ending → Lacks 59 part' → IsEnd ending' → take (k + 1) (part' ++ ending') ≡ take (k + 1) (part ++ ending) → take (k + 1) part' ≡ take (k + 1) part
bytes_of_part zero part ending part' ending' within lacks end lacks' end' e = first_of_part part ending part' ending' lacks end lacks' end' e
bytes_of_part (suc k) [] ending part' ending' within lacks end lacks' end' e = absurd (omega arith)
bytes_of_part (suc k) (b ∷ part) ending part' ending' within lacks end lacks' end' e = go part' lacks' (ap (λ (n : ℕ). take n (part' ++ ending')) (sym on) ∙ (e ∙ ap (λ (n : ℕ). take n (b ∷ (part ++ ending))) on)) (λ part' lacks'. bytes_of_part k part ending part' ending' (omega arith) lacks.1 end lacks' end')
  where
    on : suc k + 1 ≡ suc (k + 1)
    on = omega arith

    go : (part' : List ℕ) → Lacks 59 part' → take (suc (k + 1)) (part' ++ ending') ≡ b ∷ take (k + 1) (part ++ ending)
        → ((part' : List ℕ) → Lacks 59 part' → take (k + 1) (part' ++ ending') ≡ take (k + 1) (part ++ ending) → take (k + 1) part' ≡ take (k + 1) part)
        → take (suc k + 1) part' ≡ take (suc k + 1) (b ∷ part)
    go [] h e later = absurd (ended end' e)
      where
        ended : IsEnd ending' → take (suc (k + 1)) ending' ≡ b ∷ take (k + 1) (part ++ ending) → ⊥
        ended (inl is) e = let none : take (suc (k + 1)) ending' ≡ [] = ap (take (suc (k + 1))) is in cc
        ended (inr (more, is)) e = lacks.0 (let one : take (suc (k + 1)) ending' ≡ 59 ∷ take (k + 1) more = ap (take (suc (k + 1))) is in cc)
    go (c ∷ part') h e later =
        let first : c ≡ b = cc in
        let others : take (k + 1) (part' ++ ending') ≡ take (k + 1) (part ++ ending) = cc in
        let rest : take (k + 1) part' ≡ take (k + 1) part = later part' h.1 others in
        let both : c ∷ take (k + 1) part' ≡ b ∷ take (k + 1) part = cc in
        ap (λ (n : ℕ). take n (c ∷ part')) on ∙ (both ∙ ap (λ (n : ℕ). take n (b ∷ part)) (sym on))

-- a text whose first part is refused
part_refused : (last : Option ℕ) (at : ℕ) (text part : List ℕ) (parts : List (List ℕ)) → slice_split is_semicolon text ≡ part ∷ parts → 0 < length part + length parts → Refused (key_at last at part) → Refused (keys_in last at text)
part_refused last at text part parts is some (inl (place, e)) = inl (place, part_fails last at text part parts (BadDigit place) is some e)
part_refused last at text part parts is some (inr (place, e)) = inr (place, part_fails last at text part parts (Smooth place) is some e)

-- a key whose mark is refused
mark_refused : (last : Option ℕ) (at frame : ℕ) (r : Result (Bool × ℕ × List ℕ) NumFault) → Refused r → Refused (r >>= marked last at frame)
mark_refused last at frame r (inl (place, e)) = inl (place, ap (λ (r : Result (Bool × ℕ × List ℕ) NumFault). r >>= marked last at frame) e)
mark_refused last at frame r (inr (place, e)) = inr (place, ap (λ (r : Result (Bool × ℕ × List ℕ) NumFault). r >>= marked last at frame) e)

-- each text that goes on so behind these bytes is refused
abbrev pub Refuses : Option ℕ → ℕ → List ℕ → List ℕ → ℕ → Type 0
Refuses last at front rest k = (other : List ℕ) → take (k + 1) other ≡ take (k + 1) rest → Refused (keys_in last at (front ++ other))

-- no digit where a frame should stand
pub no_frame_refuses : (last : Option ℕ) (at : ℕ) (part ending : List ℕ) → digit_count part ≡ 0 → IsEnd ending → 0 < length (part ++ ending) → Refuses last at [] (part ++ ending) 0
no_frame_refuses last at part ending none end some other e =
    let s = split_of other in
    let no_digits : digit_count other ≡ 0 = first_no_digit other (part ++ ending) e (none_on part ending none end) in
    part_refused last at other s.part s.parts s.is (s.some (some_first other (part ++ ending) e some)) (inl (held at, frame_none last at s.part (first_part_none s.part s.ending (sym (ap digit_count s.spelled) ∙ no_digits))))

-- no mark behind a frame
pub mark_refuses : (last : Option ℕ) (at : ℕ) (frame rest ending : List ℕ) → IsNumeral frame → number frame < 2 ^ 31 → digit_count rest ≡ 0 → Lacks 59 rest → IsEnd ending
    → ((other : List ℕ) → take 1 other ≡ take 1 rest → Refused (key_mark (at + length frame) other)) → Refuses last at frame (rest ++ ending) 0
mark_refuses last at frame rest ending numeral small none lacks end refused other e =
    let s = split_of other in
    let same : take 1 s.part ≡ take 1 rest = first_of_part rest ending s.part s.ending lacks end s.lacks s.end (ap (take 1) (sym s.spelled) ∙ e) in
    let read : key_at last at (frame ++ s.part) ≡ (key_mark (at + length frame) s.part >>= marked last at (number frame)) = frame_reads last at frame s.part numeral (first_no_digit s.part rest same none) small in
    part_refused last at (frame ++ other) (frame ++ s.part) s.parts (split_front frame other s.part s.parts (Lacks-frame frame numeral) s.is) (some_front frame s.part (length s.parts) numeral)
    (subst Refused (sym read) (mark_refused last at (number frame) (key_mark (at + length frame) s.part) (refused s.part same)))

-- `|` without `=` behind a frame
pub half_refuses : (last : Option ℕ) (at : ℕ) (frame more ending : List ℕ) → IsNumeral frame → number frame < 2 ^ 31 → Lacks 59 more → IsEnd ending
    → ((other : List ℕ) → take 1 other ≡ take 1 more → key_mark (at + length frame) (124 ∷ other) ≡ Err (BadDigit (held (at + length frame)))) → Refuses last at (frame ++ 124 ∷ []) (more ++ ending) 0
half_refuses last at frame more ending numeral small lacks end refused other e =
    let s = split_of other in
    let same : take 1 s.part ≡ take 1 more = first_of_part more ending s.part s.ending lacks end s.lacks s.end (ap (take 1) (sym s.spelled) ∙ e) in
    let read : key_at last at (frame ++ 124 ∷ s.part) ≡ (key_mark (at + length frame) (124 ∷ s.part) >>= marked last at (number frame)) = frame_reads last at frame (124 ∷ s.part) numeral refl small in
    let cut : slice_split is_semicolon (frame ++ 124 ∷ other) ≡ (frame ++ 124 ∷ s.part) ∷ s.parts = split_front frame (124 ∷ other) (124 ∷ s.part) s.parts (Lacks-frame frame numeral) (rw s.is refl) in
    subst (λ (l : List ℕ). Refused (keys_in last at l)) (sym (append_assoc frame (124 ∷ []) other))
    (part_refused last at (frame ++ 124 ∷ other) (frame ++ 124 ∷ s.part) s.parts cut (some_front frame (124 ∷ s.part) (length s.parts) numeral)
    (subst Refused (sym read) (mark_refused last at (number frame) (key_mark (at + length frame) (124 ∷ s.part)) (inl (held (at + length frame), refused s.part same)))))

-- a value that can't go on
pub value_refuses : (last : Option ℕ) (at : ℕ) (frame : List ℕ) (discrete : Bool) (value ending : List ℕ) (k : ℕ) → IsNumeral frame → number frame < 2 ^ 31 → is_behind last (number frame) ≡ true → Lacks 59 value → IsEnd ending
    → Sticks (decimal (value_place (at + length frame) discrete)) (value_place (at + length frame) discrete) value k → Refuses last at (frame ++ sign_text discrete []) (value ++ ending) k
value_refuses last at frame discrete value ending k numeral small order lacks end stuck other e =
    let s = split_of other in
    let place : ℕ = value_place (at + length frame) discrete in
    let same : take (k + 1) s.part ≡ take (k + 1) value = bytes_of_part k value ending s.part s.ending stuck.within lacks end s.lacks s.end (ap (take (k + 1)) (sym s.spelled) ∙ e) in
    let read : key_at last at (frame ++ sign_text discrete s.part) ≡ (decimal place s.part >>= key_of (number frame) discrete) = mark_read last at frame discrete s.part numeral small ∙ order_passes last at (number frame) (discrete, place, s.part) order in
    let bad : key_at last at (frame ++ sign_text discrete s.part) ≡ Err (BadDigit (held (place + k))) = read ∙ ap (λ (r : Result ℕ NumFault). r >>= key_of (number frame) discrete) (stuck.again s.part same) in
    let spelled : (frame ++ sign_text discrete []) ++ other ≡ frame ++ sign_text discrete other = append_assoc frame (sign_text discrete []) other ∙ ap (λ (l : List ℕ). frame ++ l) (sign_append discrete [] other) in
    subst (λ (l : List ℕ). Refused (keys_in last at l)) (sym spelled)
    (part_refused last at (frame ++ sign_text discrete other) (frame ++ sign_text discrete s.part) s.parts (split_key frame discrete other s.part s.parts numeral s.is) (some_front frame (sign_text discrete s.part) (length s.parts) numeral) (inl (held (place + k), bad)))
