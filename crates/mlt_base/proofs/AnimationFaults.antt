-- The faults of animations, apart from the places where they can't go on.
use Rattle.std.proofs.Common.{◌≡◌, ℕ, ◌+◌, ◌^◌, ◌<◌, ◌≤◌, ◌⊎◌, ◌↔◌, Bool, true, false, cond, eqb, ◌||◌, List, [], ◌∷◌, ◌++◌, length, Result, Ok, Err, inl, inr, refl, sym, ap, subst, ◌∙◌, append_assoc, append-nil, length-append, arith}
use Rattle.std.specs.Prelude.{Option, Some, None}
use Rattle.std.specs.Char.{is_ascii_digit}
use Rattle.std.specs.List.{list_any, slice_split}
use Rattle.std.proofs.lemmas.Bool.{eqb-true}
use Rattle.mlt_base.specs.declared.fault.NumFault.{NumFault}
use Rattle.mlt_base.specs.declared.fault.NumFault.TheVariants.{Empty, BadDigit, TooLarge, Order, Smooth}
use Rattle.mlt_base.specs.declared.animation.Key.{Key}
use Rattle.mlt_base.specs.Reading.{held, IsNumeral, digit_count, number}
use Rattle.mlt_base.specs.Steps.{◌>>=◌}
use Rattle.mlt_base.specs.Stop.{Texts}
use Rattle.mlt_base.specs.Decimal.{decimal}
use Rattle.mlt_base.specs.Animation.{is_behind, key_at, is_semicolon, constant, animation}
use Rattle.mlt_base.specs.Grammar.{IsDecimal, sign_text, HasEquals, HasPart, HasFrame, last_frame, IsUnordered, IsSmooth, IsEnd, HasValue, HasLarge}
use Rattle.mlt_base.proofs.DecimalForms.{whole_decimal}
use Rattle.mlt_base.proofs.AnimationForms.{any_behind, split_none, split_at, Lacks-decimal}
use Rattle.mlt_base.proofs.Below.{below_err}
use Rattle.mlt_base.proofs.Cuts.{Lacks, Lacks-digits}
use Rattle.mlt_base.proofs.Stops.{Told, Missing, Wrong, Right, Sized, IsNone}
use Rattle.mlt_base.proofs.DecimalStops.{decimal_told, decimal_missing, decimal_sized, decimal_unfit}
use Rattle.mlt_base.proofs.AnimationParts.{keys_in, split_of, split_front, part_fails, last_of, front_fails, FaultAt, fault_at}
use Rattle.mlt_base.proofs.AnimationMarks.{value_place, marked, key_of, wave_reads, frame_reads, frame_large, mark_read, order_fails, order_passes, KeyFault, NoFrame, LargeFrame, WaveMark, BadMark, HalfMark, OutOfOrder, BadValue, key_fault, err_is}

-- ---- keys, or one value

-- an `=` behind a front, and in a mark
pub equals_behind : (front back : List ℕ) → HasEquals back → HasEquals (front ++ back)
equals_behind front back (f, rest, is) = (front ++ f, rest, ap (λ (l : List ℕ). front ++ l) is ∙ sym (append_assoc front f (61 ∷ rest)))

pub sign_equals : (discrete : Bool) (value : List ℕ) → HasEquals (sign_text discrete value)
sign_equals false value = ([], value, refl)
sign_equals true value = (124 ∷ [], value, refl)

-- the reader looks for an `=`
any_equals : (text : List ℕ) → HasEquals text → list_any (λ b. eqb b 61) text ≡ true
any_equals text (front, rest, is) = ap (list_any (λ b. eqb b 61)) is ∙ any_behind front (61 ∷ rest) refl

equals_of : (text : List ℕ) → list_any (λ b. eqb b 61) text ≡ true → HasEquals text
equals_of [] e = absurd cc
equals_of (b ∷ text) e = go (eqb b 61) refl e (equals_of text)
  where
    go : (t : Bool) → eqb b 61 ≡ t → (t || list_any (λ c. eqb c 61) text) ≡ true → (list_any (λ c. eqb c 61) text ≡ true → HasEquals text) → HasEquals (b ∷ text)
    go true h e later = ([], text, ap (λ (c : ℕ). c ∷ text) (eqb-true b 61 h))
    go false h e later = equals_behind (b ∷ []) text (later e)

abbrev pub one_value : List ℕ → Result (List Key) NumFault
one_value text = decimal 0 text >>= λ value. Ok (constant value ∷ [])

pub data AnimationCase (text : List ℕ) : Type 0 where
  Keys : HasEquals text → animation text ≡ keys_in None 0 text → AnimationCase text
  Constant : ¬ HasEquals text → animation text ≡ one_value text → AnimationCase text

pub animation_case : (text : List ℕ) → AnimationCase text
unfolding animation
animation_case text = go (list_any (λ b. eqb b 61) text) refl
  where
    go : (t : Bool) → list_any (λ b. eqb b 61) text ≡ t → AnimationCase text
    go true h = Keys (equals_of text h) (ap (λ (t : Bool). cond t (keys_in None 0 text) (one_value text)) h)
    go false h = Constant (λ equals. let some = any_equals text equals in absurd cc) (ap (λ (t : Bool). cond t (keys_in None 0 text) (one_value text)) h)

pub animation_keys : (text : List ℕ) → HasEquals text → animation text ≡ keys_in None 0 text
animation_keys text equals = go (animation_case text)
  where
    go : AnimationCase text → animation text ≡ keys_in None 0 text
    go (Keys some is) = is
    go (Constant none is) = absurd (none equals)

-- ---- the faults of a value

pub data DecimalFault (at : ℕ) (text : List ℕ) (fault : NumFault) : Type 0 where
  NoByte : text ≡ [] → fault ≡ Empty → DecimalFault at text fault
  BadByte : (place : ℕ) → fault ≡ BadDigit place → DecimalFault at text fault
  LargeValue : (n : ℕ) → IsDecimal text n → 2 ^ 32 ≤ n → fault ≡ TooLarge → DecimalFault at text fault

-- each fault of a decimal is one of these
pub decimal_fault : (at : ℕ) (text : List ℕ) (fault : NumFault) → decimal at text ≡ Err fault → DecimalFault at text fault
decimal_fault at text fault e = go (decimal_told at text)
  where
    right : (n : ℕ) → IsDecimal text n → Sized (decimal at text) → DecimalFault at text fault
    right n is (inl (x, ok)) = absurd cc
    right n is (inr large) = LargeValue n is (decimal_unfit at text n is large) (err_is fault TooLarge (decimal at text) e large)

    go : Told IsNone (Texts IsDecimal) (decimal at) at text → DecimalFault at text fault
    go (Missing none) = NoByte none (err_is fault Empty (decimal at text) e (decimal_missing at text none))
    go (Wrong k stuck begins) = BadByte (held (at + k)) (err_is fault (BadDigit (held (at + k))) (decimal at text) e (stuck.again text refl))
    go (Right (n, is)) = right n is (decimal_sized at text (n, is))

decimal_large-at : (at : ℕ) (text : List ℕ) → ((n : ℕ) × IsDecimal text n × (2 ^ 32 ≤ n)) → decimal at text ≡ Err TooLarge
decimal_large-at at text (n, is, large) = whole_decimal at text n is ∙ sym (below_err (2 ^ 32) n large)

-- ---- from what a text has to its fault

-- the last key's frame is that of the definition
last_same : (key : Key) (keys : List Key) → last_of (Some key.frame) keys ≡ last_frame (key ∷ keys)
last_same key [] = refl
last_same key (next ∷ keys) = last_same next keys

pub last_is : (keys : List Key) → last_of None keys ≡ last_frame keys
last_is [] = refl
last_is (key ∷ keys) = last_same key keys

-- the part behind the keys isn't read, so the text isn't
part_at : (Says : List Key → ℕ → List ℕ → Type 0) (text : List ℕ) (fault : NumFault)
    → ((keys : List Key) (start : ℕ) (rest : List ℕ) → start + length rest ≡ length text → Says keys start rest → keys_in (last_of None keys) start rest ≡ Err fault) → HasPart Says text → keys_in None 0 text ≡ Err fault
part_at Says text fault fails (front, keys, rest, before, rise, held, says, spelled) =
    let whole : length front + length rest ≡ length text = omega (arith, ap length spelled, length-append front rest) in
    ap (keys_in None 0) spelled
    ∙ front_fails None 0 front keys rest fault before rise held (ap (λ (n : ℕ). keys_in (last_of None keys) n rest) (omega arith) ∙ fails keys (length front) rest whole says)

-- a frame has no `;`, and some byte
pub Lacks-frame : (frame : List ℕ) → IsNumeral frame → Lacks 59 frame
Lacks-frame frame numeral = Lacks-digits 59 frame (inr (omega arith)) numeral.1

-- bytes behind the mark of a key
pub split_key : (frame : List ℕ) (discrete : Bool) (bytes part : List ℕ) (parts : List (List ℕ)) → IsNumeral frame → slice_split is_semicolon bytes ≡ part ∷ parts → slice_split is_semicolon (frame ++ sign_text discrete bytes) ≡ (frame ++ sign_text discrete part) ∷ parts
split_key frame discrete bytes part parts numeral e = split_front frame (sign_text discrete bytes) (sign_text discrete part) parts (Lacks-frame frame numeral) (go discrete)
  where
    go : (discrete : Bool) → slice_split is_semicolon (sign_text discrete bytes) ≡ sign_text discrete part ∷ parts
    go false = rw e refl
    go true = rw e refl

pub some_front : (frame rest : List ℕ) (n : ℕ) → IsNumeral frame → 0 < length (frame ++ rest) + n
some_front frame rest n numeral = omega (arith, numeral.0, length-append frame rest)

-- a place, where the text is short enough
pub held_is : (n : ℕ) → n < 2 ^ 32 → held n ≡ n
unfolding held
held_is n small = omega arith

-- each text with such a part has that fault
order_at : (text : List ℕ) (at : ℕ) → length text < 2 ^ 32 → IsUnordered text at → keys_in None 0 text ≡ Err (Order at)
order_at text at short =
    part_at (λ keys start. HasFrame (λ frame end rest. (discrete : Bool) × (value : List ℕ) × (rest ≡ sign_text discrete value) × (is_behind (last_frame keys) frame ≡ false) × (at ≡ start)) start) text (Order at)
    (λ keys start part whole (frame, rest, numeral, small, (discrete, value, sign, order, place), is).
    let s = split_of value in
    let spelled : part ≡ frame ++ sign_text discrete value = is ∙ ap (λ (l : List ℕ). frame ++ l) sign in
    let behind : is_behind (last_of None keys) (number frame) ≡ false = ap (λ (last : Option ℕ). is_behind last (number frame)) (last_is keys) ∙ order in
    let key : key_at (last_of None keys) start (frame ++ sign_text discrete s.part) ≡ Err (Order (held start)) = mark_read (last_of None keys) start frame discrete s.part numeral small ∙ order_fails (last_of None keys) start (number frame) (discrete, value_place (start + length frame) discrete, s.part) behind in
    part_fails (last_of None keys) start part (frame ++ sign_text discrete s.part) s.parts (Order at) (ap (slice_split is_semicolon) spelled ∙ split_key frame discrete value s.part s.parts numeral s.is) (some_front frame (sign_text discrete s.part) (length s.parts) numeral)
    (key ∙ ap (λ (n : ℕ). Err (Order n)) (held_is start (omega arith) ∙ sym place)))

smooth_at : (text : List ℕ) (at : ℕ) → length text < 2 ^ 32 → IsSmooth text at → keys_in None 0 text ≡ Err (Smooth at)
smooth_at text at short =
    part_at (λ keys. HasFrame (λ frame end rest. (value : List ℕ) × (rest ≡ 126 ∷ 61 ∷ value) × (at ≡ end))) text (Smooth at)
    (λ keys start part whole (frame, rest, numeral, small, (value, mark, place), is).
    let s = split_of value in
    let spelled : part ≡ frame ++ 126 ∷ 61 ∷ value = is ∙ ap (λ (l : List ℕ). frame ++ l) mark in
    let cut : slice_split is_semicolon (frame ++ 126 ∷ 61 ∷ value) ≡ (frame ++ 126 ∷ 61 ∷ s.part) ∷ s.parts = split_front frame (126 ∷ 61 ∷ value) (126 ∷ 61 ∷ s.part) s.parts (Lacks-frame frame numeral) (rw s.is refl) in
    let key : key_at (last_of None keys) start (frame ++ 126 ∷ 61 ∷ s.part) ≡ Err (Smooth (held (start + length frame))) =
    frame_reads (last_of None keys) start frame (126 ∷ 61 ∷ s.part) numeral refl small ∙ ap (λ (r : Result (Bool × ℕ × List ℕ) NumFault). r >>= marked (last_of None keys) start (number frame)) (wave_reads (start + length frame) s.part) in
    part_fails (last_of None keys) start part (frame ++ 126 ∷ 61 ∷ s.part) s.parts (Smooth at) (ap (slice_split is_semicolon) spelled ∙ cut) (some_front frame (126 ∷ 61 ∷ s.part) (length s.parts) numeral)
    (key ∙ ap (λ (n : ℕ). Err (Smooth n)) (held_is (start + length frame) (omega (arith, ap length spelled, length-append frame (126 ∷ 61 ∷ value))) ∙ sym place)))

-- a value and the end of its part
pub split_end : (part ending : List ℕ) → Lacks 59 part → IsEnd ending → (parts : List (List ℕ)) × (slice_split is_semicolon (part ++ ending) ≡ part ∷ parts)
split_end part ending lacks (inl none) = ([], ap (slice_split is_semicolon) (ap (λ (l : List ℕ). part ++ l) none ∙ append-nil part) ∙ split_none part lacks)
split_end part ending lacks (inr (more, is)) = (slice_split is_semicolon more, ap (λ (l : List ℕ). slice_split is_semicolon (part ++ l)) is ∙ split_at part more lacks)

-- a value that isn't read
value_at : (Says : List ℕ → Type 0) (text : List ℕ) (fault : NumFault) → ((value : List ℕ) → Says value → Lacks 59 value) → ((place : ℕ) (value : List ℕ) → Says value → decimal place value ≡ Err fault) → HasValue Says text → keys_in None 0 text ≡ Err fault
value_at Says text fault lacks fails =
    part_at (λ keys. HasFrame (λ frame end rest. (discrete : Bool) × (value : List ℕ) × (more : List ℕ) × (is_behind (last_frame keys) frame ≡ true) × Says value × IsEnd more × (rest ≡ sign_text discrete (value ++ more)))) text fault
    (λ keys start part whole (frame, rest, numeral, small, (discrete, value, more, order, says, end, sign), is).
    let (parts, cut) = split_end value more (lacks value says) end in
    let spelled : part ≡ frame ++ sign_text discrete (value ++ more) = is ∙ ap (λ (l : List ℕ). frame ++ l) sign in
    let behind : is_behind (last_of None keys) (number frame) ≡ true = ap (λ (last : Option ℕ). is_behind last (number frame)) (last_is keys) ∙ order in
    let place : ℕ = value_place (start + length frame) discrete in
    let key : key_at (last_of None keys) start (frame ++ sign_text discrete value) ≡ (decimal place value >>= key_of (number frame) discrete) =
    mark_read (last_of None keys) start frame discrete value numeral small ∙ order_passes (last_of None keys) start (number frame) (discrete, place, value) behind in
    part_fails (last_of None keys) start part (frame ++ sign_text discrete value) parts fault (ap (slice_split is_semicolon) spelled ∙ split_key frame discrete (value ++ more) value parts numeral cut) (some_front frame (sign_text discrete value) (length parts) numeral)
    (key ∙ ap (λ (r : Result ℕ NumFault). r >>= key_of (number frame) discrete) (fails place value says)))

-- the first part begins with no digit where the text does
pub first_part_none : (part ending : List ℕ) → digit_count (part ++ ending) ≡ 0 → digit_count part ≡ 0
first_part_none [] ending e = refl
first_part_none (b ∷ part) ending e = go (is_ascii_digit b) e
  where
    go : (t : Bool) → cond t (digit_count (part ++ ending) + 1) 0 ≡ 0 → cond t (digit_count part + 1) 0 ≡ 0
    go true e = absurd (omega (arith, e))
    go false e = refl

large_at : (text : List ℕ) → HasLarge text → keys_in None 0 text ≡ Err TooLarge
large_at text (inl has) =
    part_at (λ keys start part. (frame : List ℕ) × (rest : List ℕ) × IsNumeral frame × (digit_count rest ≡ 0) × (2 ^ 31 ≤ number frame) × (part ≡ frame ++ rest)) text TooLarge
    (λ keys start part whole (frame, rest, numeral, none, large, spelled).
    let s = split_of rest in
    part_fails (last_of None keys) start part (frame ++ s.part) s.parts TooLarge (ap (slice_split is_semicolon) spelled ∙ split_front frame rest s.part s.parts (Lacks-frame frame numeral) s.is) (some_front frame s.part (length s.parts) numeral)
    (frame_large (last_of None keys) start frame s.part numeral (first_part_none s.part s.ending (sym (ap digit_count s.spelled) ∙ none)) large))
    has
large_at text (inr has) = value_at (λ value. (n : ℕ) × IsDecimal value n × (2 ^ 32 ≤ n)) text TooLarge (λ value (n, is, large). Lacks-decimal 59 value n (λ e. omega (arith, e)) (inr (omega arith)) is) decimal_large-at has

empty_at : (text : List ℕ) → HasValue IsNone text → keys_in None 0 text ≡ Err Empty
empty_at text has = value_at IsNone text Empty (λ value none. subst (Lacks 59) (sym none) tt) decimal_missing has

-- ---- from a fault to what the text has

-- bytes behind a value belong to what stands behind its mark
pub sign_append : (discrete : Bool) (value more : List ℕ) → sign_text discrete value ++ more ≡ sign_text discrete (value ++ more)
sign_append false value more = refl
sign_append true value more = refl

module _ (text : List ℕ) (fault : NumFault) (f : FaultAt None 0 text fault) where
  pub there : (Says : List Key → ℕ → List ℕ → Type 0) → Says f.keys (length f.front) (f.part ++ f.ending) → HasPart Says text
  there Says says = (f.front, f.keys, f.part ++ f.ending, f.before, f.rise, f.held, says, f.spelled)

  -- the part at fault lies within the text
  pub front_short : length text < 2 ^ 32 → length f.front + length f.part < 2 ^ 32
  front_short short = omega (arith, short, ap length f.spelled, length-append f.front (f.part ++ f.ending), length-append f.part f.ending)

  -- the order of its frame
  ordered : (frame : ℕ) (t : Bool) → is_behind (last_of None f.keys) frame ≡ t → is_behind (last_frame f.keys) frame ≡ t
  ordered frame t e = ap (λ (last : Option ℕ). is_behind last frame) (sym (last_is f.keys)) ∙ e

  -- its value goes on to the end of the text
  pub spelled_on : (frame : List ℕ) (discrete : Bool) (value : List ℕ) → f.part ≡ frame ++ sign_text discrete value → f.part ++ f.ending ≡ frame ++ sign_text discrete (value ++ f.ending)
  spelled_on frame discrete value is = ap (λ (l : List ℕ). l ++ f.ending) is ∙ (append_assoc frame (sign_text discrete value) f.ending ∙ ap (λ (l : List ℕ). frame ++ l) (sign_append discrete value f.ending))

  -- its value is one of which something is said
  value_there : (Says : List ℕ → Type 0) (frame : List ℕ) (discrete : Bool) (value : List ℕ) → IsNumeral frame → number frame < 2 ^ 31 → f.part ≡ frame ++ sign_text discrete value → is_behind (last_of None f.keys) (number frame) ≡ true → Says value → HasValue Says text
  value_there Says frame discrete value numeral small is order says =
      there (λ keys. HasFrame (λ frame end rest. (discrete : Bool) × (value : List ℕ) × (more : List ℕ) × (is_behind (last_frame keys) frame ≡ true) × Says value × IsEnd more × (rest ≡ sign_text discrete (value ++ more))))
      (frame, sign_text discrete (value ++ f.ending), numeral, small, (discrete, value, f.ending, ordered (number frame) true order, says, f.end, refl), spelled_on frame discrete value is)

-- the key of the part at fault
pub key_of_fault : (text : List ℕ) (fault : NumFault) → keys_in None 0 text ≡ Err fault → (f : FaultAt None 0 text fault) × KeyFault (last_of None f.keys) (0 + length f.front) f.part fault
key_of_fault text fault e = let f = fault_at None 0 text fault e in (f, key_fault (last_of None f.keys) (0 + length f.front) f.part fault f.is)

-- each fault comes of such a part
order_of : (text : List ℕ) (at : ℕ) → length text < 2 ^ 32 → keys_in None 0 text ≡ Err (Order at) → IsUnordered text at
order_of text at short e = let (f, key) = key_of_fault text (Order at) e in go f key
  where
    go : (f : FaultAt None 0 text (Order at)) → KeyFault (last_of None f.keys) (0 + length f.front) f.part (Order at) → IsUnordered text at
    go f (NoFrame none is) = absurd cc
    go f (LargeFrame frame rest numeral none large spelled is) = absurd cc
    go f (WaveMark frame value numeral small spelled is) = absurd cc
    go f (BadMark frame rest numeral none small spelled mark is) = absurd cc
    go f (HalfMark frame more numeral small spelled mark is) = absurd cc
    go f (BadValue frame discrete value numeral small spelled order is) = bad (decimal_fault _ value (Order at) is)
      where
        bad : {place : ℕ} → DecimalFault place value (Order at) → IsUnordered text at
        bad (NoByte none same) = absurd cc
        bad (BadByte place same) = absurd cc
        bad (LargeValue n value_is large same) = absurd cc
    go f (OutOfOrder frame discrete value numeral small spelled order is) =
        let same : at ≡ held (0 + length f.front) = cc in
        let place : at ≡ length f.front = same ∙ (ap held (omega arith) ∙ held_is (length f.front) (omega (arith, front_short text (Order at) f short))) in
        there text (Order at) f (λ keys start. HasFrame (λ frame end rest. (discrete : Bool) × (value : List ℕ) × (rest ≡ sign_text discrete value) × (is_behind (last_frame keys) frame ≡ false) × (at ≡ start)) start)
        (frame, sign_text discrete (value ++ f.ending), numeral, small, (discrete, value ++ f.ending, refl, ordered text (Order at) f (number frame) false order, place), spelled_on text (Order at) f frame discrete value spelled)

smooth_of : (text : List ℕ) (at : ℕ) → length text < 2 ^ 32 → keys_in None 0 text ≡ Err (Smooth at) → IsSmooth text at
smooth_of text at short e = let (f, key) = key_of_fault text (Smooth at) e in go f key
  where
    go : (f : FaultAt None 0 text (Smooth at)) → KeyFault (last_of None f.keys) (0 + length f.front) f.part (Smooth at) → IsSmooth text at
    go f (NoFrame none is) = absurd cc
    go f (LargeFrame frame rest numeral none large spelled is) = absurd cc
    go f (BadMark frame rest numeral none small spelled mark is) = absurd cc
    go f (HalfMark frame more numeral small spelled mark is) = absurd cc
    go f (OutOfOrder frame discrete value numeral small spelled order is) = absurd cc
    go f (BadValue frame discrete value numeral small spelled order is) = bad (decimal_fault _ value (Smooth at) is)
      where
        bad : {place : ℕ} → DecimalFault place value (Smooth at) → IsSmooth text at
        bad (NoByte none same) = absurd cc
        bad (BadByte place same) = absurd cc
        bad (LargeValue n value_is large same) = absurd cc
    go f (WaveMark frame value numeral small spelled is) =
        let same : at ≡ held (0 + length f.front + length frame) = cc in
        let inside : length f.part ≡ length frame + length (126 ∷ 61 ∷ value) = ap length spelled ∙ length-append frame (126 ∷ 61 ∷ value) in
        let place : at ≡ length f.front + length frame = same ∙ (ap held (omega arith) ∙ held_is (length f.front + length frame) (omega (arith, inside, front_short text (Smooth at) f short))) in
        there text (Smooth at) f (λ keys. HasFrame (λ frame end rest. (value : List ℕ) × (rest ≡ 126 ∷ 61 ∷ value) × (at ≡ end)))
        (frame, 126 ∷ 61 ∷ (value ++ f.ending), numeral, small, (value ++ f.ending, refl, place), ap (λ (l : List ℕ). l ++ f.ending) spelled ∙ append_assoc frame (126 ∷ 61 ∷ value) f.ending)

empty_of : (text : List ℕ) → keys_in None 0 text ≡ Err Empty → HasValue IsNone text
empty_of text e = let (f, key) = key_of_fault text Empty e in go f key
  where
    go : (f : FaultAt None 0 text Empty) → KeyFault (last_of None f.keys) (0 + length f.front) f.part Empty → HasValue IsNone text
    go f (NoFrame none is) = absurd cc
    go f (LargeFrame frame rest numeral none large spelled is) = absurd cc
    go f (WaveMark frame value numeral small spelled is) = absurd cc
    go f (BadMark frame rest numeral none small spelled mark is) = absurd cc
    go f (HalfMark frame more numeral small spelled mark is) = absurd cc
    go f (OutOfOrder frame discrete value numeral small spelled order is) = absurd cc
    go f (BadValue frame discrete value numeral small spelled order is) = bad (decimal_fault _ value Empty is)
      where
        bad : {place : ℕ} → DecimalFault place value Empty → HasValue IsNone text
        bad (NoByte none same) = value_there text Empty f IsNone frame discrete value numeral small spelled order none
        bad (BadByte place same) = absurd cc
        bad (LargeValue n value_is large same) = absurd cc

-- no digit begins the end of a part
pub none_on : (rest ending : List ℕ) → digit_count rest ≡ 0 → IsEnd ending → digit_count (rest ++ ending) ≡ 0
none_on [] ending none (inl is) = ap digit_count is
none_on [] ending none (inr (more, is)) = ap digit_count is
none_on (b ∷ rest) ending none end = go (is_ascii_digit b) none
  where
    go : (t : Bool) → cond t (digit_count rest + 1) 0 ≡ 0 → cond t (digit_count (rest ++ ending) + 1) 0 ≡ 0
    go true e = absurd (omega (arith, e))
    go false e = refl

large_of : (text : List ℕ) → keys_in None 0 text ≡ Err TooLarge → HasLarge text
large_of text e = let (f, key) = key_of_fault text TooLarge e in go f key
  where
    go : (f : FaultAt None 0 text TooLarge) → KeyFault (last_of None f.keys) (0 + length f.front) f.part TooLarge → HasLarge text
    go f (NoFrame none is) = absurd cc
    go f (WaveMark frame value numeral small spelled is) = absurd cc
    go f (BadMark frame rest numeral none small spelled mark is) = absurd cc
    go f (HalfMark frame more numeral small spelled mark is) = absurd cc
    go f (OutOfOrder frame discrete value numeral small spelled order is) = absurd cc
    go f (LargeFrame frame rest numeral none large spelled is) =
        inl (there text TooLarge f (λ keys start part. (frame : List ℕ) × (rest : List ℕ) × IsNumeral frame × (digit_count rest ≡ 0) × (2 ^ 31 ≤ number frame) × (part ≡ frame ++ rest))
        (frame, rest ++ f.ending, numeral, none_on rest f.ending none f.end, large, ap (λ (l : List ℕ). l ++ f.ending) spelled ∙ append_assoc frame rest f.ending))
    go f (BadValue frame discrete value numeral small spelled order is) = bad (decimal_fault _ value TooLarge is)
      where
        bad : {place : ℕ} → DecimalFault place value TooLarge → HasLarge text
        bad (NoByte none same) = absurd cc
        bad (BadByte place same) = absurd cc
        bad (LargeValue n value_is large same) = inr (value_there text TooLarge f (λ value. (n : ℕ) × IsDecimal value n × (2 ^ 32 ≤ n)) frame discrete value numeral small spelled order (n, value_is, large))

-- ---- the laws

-- a text with such a part has an `=`
part_equals : (Says : List Key → ℕ → List ℕ → Type 0) (text : List ℕ) → ((keys : List Key) (start : ℕ) (rest : List ℕ) → Says keys start rest → HasEquals rest) → HasPart Says text → HasEquals text
part_equals Says text some (front, keys, rest, before, rise, held, says, spelled) = subst HasEquals (sym spelled) (equals_behind front rest (some keys (length front) rest says))

order_equals : (text : List ℕ) (at : ℕ) → IsUnordered text at → HasEquals text
order_equals text at =
    part_equals (λ keys start. HasFrame (λ frame end rest. (discrete : Bool) × (value : List ℕ) × (rest ≡ sign_text discrete value) × (is_behind (last_frame keys) frame ≡ false) × (at ≡ start)) start) text
    (λ keys start part (frame, rest, numeral, small, (discrete, value, sign, order, place), is). subst HasEquals (sym (is ∙ ap (λ (l : List ℕ). frame ++ l) sign)) (equals_behind frame (sign_text discrete value) (sign_equals discrete value)))

smooth_equals : (text : List ℕ) (at : ℕ) → IsSmooth text at → HasEquals text
smooth_equals text at =
    part_equals (λ keys. HasFrame (λ frame end rest. (value : List ℕ) × (rest ≡ 126 ∷ 61 ∷ value) × (at ≡ end))) text
    (λ keys start part (frame, rest, numeral, small, (value, mark, place), is). subst HasEquals (sym (is ∙ ap (λ (l : List ℕ). frame ++ l) mark)) (equals_behind frame (126 ∷ 61 ∷ value) (126 ∷ [], value, refl)))

value_equals : (Says : List ℕ → Type 0) (text : List ℕ) → HasValue Says text → HasEquals text
value_equals Says text =
    part_equals (λ keys. HasFrame (λ frame end rest. (discrete : Bool) × (value : List ℕ) × (more : List ℕ) × (is_behind (last_frame keys) frame ≡ true) × Says value × IsEnd more × (rest ≡ sign_text discrete (value ++ more)))) text
    (λ keys start part (frame, rest, numeral, small, (discrete, value, more, order, says, end, sign), is). subst HasEquals (sym (is ∙ ap (λ (l : List ℕ). frame ++ l) sign)) (equals_behind frame (sign_text discrete (value ++ more)) (sign_equals discrete (value ++ more))))

-- the fault of one value
pub one_fault : (text : List ℕ) (fault : NumFault) → one_value text ≡ Err fault → decimal 0 text ≡ Err fault
one_fault text fault e = go (decimal 0 text) refl e
  where
    go : (r : Result ℕ NumFault) → decimal 0 text ≡ r → (r >>= λ value. Ok (constant value ∷ [])) ≡ Err fault → decimal 0 text ≡ Err fault
    go (Ok n) is e = absurd cc
    go (Err other) is e = is ∙ (let same : other ≡ fault = cc in ap (λ (f : NumFault). Err f) same)

-- the mark is there
pub lacks-there : (mark : ℕ) (front rest : List ℕ) → ¬ Lacks mark (front ++ mark ∷ rest)
lacks-there mark [] rest lacks = lacks.0 refl
lacks-there mark (b ∷ front) rest lacks = lacks-there mark front rest lacks.1

-- a decimal has no `=`
pub decimal_no_equals : (text : List ℕ) (n : ℕ) → IsDecimal text n → ¬ HasEquals text
decimal_no_equals text n is (front, rest, spelled) = lacks-there 61 front rest (subst (Lacks 61) spelled (Lacks-decimal 61 text n (λ e. omega (arith, e)) (inr (omega arith)) is))

-- exactly the texts with such a part have that fault
pub law_order : (text : List ℕ) (at : ℕ) → length text < 2 ^ 32 → animation text ≡ Err (Order at) ↔ IsUnordered text at
law_order text at short = ((λ e. go e (animation_case text)), λ is. animation_keys text (order_equals text at is) ∙ order_at text at short is)
  where
    bad : {place : ℕ} → DecimalFault place text (Order at) → IsUnordered text at
    bad (NoByte none same) = absurd cc
    bad (BadByte place same) = absurd cc
    bad (LargeValue n value_is large same) = absurd cc

    go : animation text ≡ Err (Order at) → AnimationCase text → IsUnordered text at
    go e (Keys some is) = order_of text at short (sym is ∙ e)
    go e (Constant lacks is) = bad (decimal_fault 0 text (Order at) (one_fault text (Order at) (sym is ∙ e)))

pub law_smooth : (text : List ℕ) (at : ℕ) → length text < 2 ^ 32 → animation text ≡ Err (Smooth at) ↔ IsSmooth text at
law_smooth text at short = ((λ e. go e (animation_case text)), λ is. animation_keys text (smooth_equals text at is) ∙ smooth_at text at short is)
  where
    bad : {place : ℕ} → DecimalFault place text (Smooth at) → IsSmooth text at
    bad (NoByte none same) = absurd cc
    bad (BadByte place same) = absurd cc
    bad (LargeValue n value_is large same) = absurd cc

    go : animation text ≡ Err (Smooth at) → AnimationCase text → IsSmooth text at
    go e (Keys some is) = smooth_of text at short (sym is ∙ e)
    go e (Constant lacks is) = bad (decimal_fault 0 text (Smooth at) (one_fault text (Smooth at) (sym is ∙ e)))

pub law_no_value : (text : List ℕ) → animation text ≡ Err Empty ↔ ((text ≡ []) ⊎ HasValue IsNone text)
unfolding animation
law_no_value text = ((λ e. go e (animation_case text)), back)
  where
    bad : {place : ℕ} → DecimalFault place text Empty → (text ≡ []) ⊎ HasValue IsNone text
    bad (NoByte none same) = inl none
    bad (BadByte place same) = absurd cc
    bad (LargeValue n value_is large same) = absurd cc

    go : animation text ≡ Err Empty → AnimationCase text → (text ≡ []) ⊎ HasValue IsNone text
    go e (Keys some is) = inr (empty_of text (sym is ∙ e))
    go e (Constant lacks is) = bad (decimal_fault 0 text Empty (one_fault text Empty (sym is ∙ e)))

    back : (text ≡ []) ⊎ HasValue IsNone text → animation text ≡ Err Empty
    back (inl none) = ap animation none ∙ ap (λ (r : Result ℕ NumFault). r >>= λ value. Ok (constant value ∷ [])) (decimal_missing 0 [] refl)
    back (inr has) = animation_keys text (value_equals IsNone text has) ∙ empty_at text has

pub law_large_animation : (text : List ℕ) → animation text ≡ Err TooLarge ↔ (((n : ℕ) × IsDecimal text n × (2 ^ 32 ≤ n)) ⊎ (HasEquals text × HasLarge text))
law_large_animation text = ((λ e. go e (animation_case text)), back)
  where
    bad : {place : ℕ} → DecimalFault place text TooLarge → (n : ℕ) × IsDecimal text n × (2 ^ 32 ≤ n)
    bad (NoByte none same) = absurd cc
    bad (BadByte place same) = absurd cc
    bad (LargeValue n value_is large same) = (n, value_is, large)

    go : animation text ≡ Err TooLarge → AnimationCase text → ((n : ℕ) × IsDecimal text n × (2 ^ 32 ≤ n)) ⊎ (HasEquals text × HasLarge text)
    go e (Keys some is) = inr (some, large_of text (sym is ∙ e))
    go e (Constant lacks is) = inl (bad (decimal_fault 0 text TooLarge (one_fault text TooLarge (sym is ∙ e))))

    one : (n : ℕ) → IsDecimal text n → 2 ^ 32 ≤ n → AnimationCase text → animation text ≡ Err TooLarge
    one n is large (Constant lacks read) = read ∙ ap (λ (r : Result ℕ NumFault). r >>= λ value. Ok (constant value ∷ [])) (decimal_large-at 0 text (n, is, large))
    one n is large (Keys equals read) = absurd (decimal_no_equals text n is equals)

    back : ((n : ℕ) × IsDecimal text n × (2 ^ 32 ≤ n)) ⊎ (HasEquals text × HasLarge text) → animation text ≡ Err TooLarge
    back (inl (n, is, large)) = one n is large (animation_case text)
    back (inr (some, has)) = animation_keys text some ∙ large_at text has
