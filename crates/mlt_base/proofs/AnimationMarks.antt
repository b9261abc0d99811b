-- The marks of keys, and the fault of a key that isn't read.
use Rattle.std.proofs.Common.{◌≡◌, ℕ, ◌+◌, ◌^◌, ◌<◌, ◌≤◌, ◌⊎◌, Bool, true, false, cond, eqb, ◌&&◌, List, [], ◌∷◌, ◌++◌, length, take, Result, Ok, Err, inl, inr, refl, sym, ap, subst, ◌∙◌}
use Rattle.std.specs.Prelude.{Option}
use Rattle.std.proofs.lemmas.Bool.{cases_lt, eqb-true}
use Rattle.mlt_base.specs.declared.fault.NumFault.{NumFault}
use Rattle.mlt_base.specs.declared.fault.NumFault.TheVariants.{BadDigit, TooLarge, Order, Smooth}
use Rattle.mlt_base.specs.declared.animation.Key.{Key}
use Rattle.mlt_base.specs.Reading.{held, IsNumeral, digit_count, number}
use Rattle.mlt_base.specs.Steps.{◌>>=◌}
use Rattle.mlt_base.specs.Decimal.{decimal}
use Rattle.mlt_base.specs.Animation.{is_behind, key_mark, in_order, key_at}
use Rattle.mlt_base.specs.Grammar.{sign_text}
use Rattle.mlt_base.proofs.Below.{below_ok, below_err}
use Rattle.mlt_base.proofs.Forms.{digits_at-again}
use Rattle.mlt_base.proofs.AnimationForms.{no_digit}
use Rattle.mlt_base.proofs.Stops.{first_none, first_is}
use Rattle.mlt_base.proofs.NumeralStops.{NumeralCase, NoDigit, Numeral, numeral_case, digits_none}

-- ---- marks

-- a fault that no text of keys has, whatever their frames and values are
abbrev pub Refused : {A : Type 0} → Result A NumFault → Type 0
Refused r = ((place : ℕ) × (r ≡ Err (BadDigit place))) ⊎ ((place : ℕ) × (r ≡ Err (Smooth place)))

pub data MarkCase (at : ℕ) (rest : List ℕ) : Type 0 where
  Mark : (discrete : Bool) (value : List ℕ) → rest ≡ sign_text discrete value → MarkCase at rest
  Wave : (value : List ℕ) → rest ≡ 126 ∷ 61 ∷ value → MarkCase at rest
  Half : (more : List ℕ) → rest ≡ 124 ∷ more → ((other : List ℕ) → take 1 other ≡ take 1 more → key_mark at (124 ∷ other) ≡ Err (BadDigit (held at))) → MarkCase at rest
  NoMark : key_mark at rest ≡ Err (BadDigit (held at)) → ((other : List ℕ) → take 1 other ≡ take 1 rest → Refused (key_mark at other)) → MarkCase at rest

-- `|` and no `=`
half_one : (at c : ℕ) (more : List ℕ) → eqb c 61 ≡ false → key_mark at (124 ∷ c ∷ more) ≡ Err (BadDigit (held at))
unfolding key_mark
half_one at c more h = rw h refl

-- behind a byte that is neither `=` nor `|`
none_one : (at b : ℕ) (more : List ℕ) → eqb b 61 ≡ false → eqb b 124 ≡ false → Refused (key_mark at (b ∷ more))
unfolding key_mark
none_one at b [] h k = inl (held at, rw h refl)
none_one at b (c ∷ more) h k = subst Refused (sym read) (go (eqb b 126 && eqb c 61))
  where
    read : key_mark at (b ∷ c ∷ more) ≡ cond (eqb b 126 && eqb c 61) (Err (Smooth (held at))) (Err (BadDigit (held at)))
    read = rw (h, k) refl

    go : (t : Bool) → Refused {A = Bool × ℕ × List ℕ} (cond t (Err (Smooth (held at))) (Err (BadDigit (held at))))
    go true = inr (held at, refl)
    go false = inl (held at, refl)

pub mark_case : (at : ℕ) (rest : List ℕ) → MarkCase at rest
unfolding key_mark
mark_case at [] = NoMark refl (λ other e. inl (held at, ap (key_mark at) (first_none other e)))
mark_case at (b ∷ []) = go (eqb b 61) (eqb b 124) refl refl
  where
    go : (plain bar : Bool) → eqb b 61 ≡ plain → eqb b 124 ≡ bar → MarkCase at (b ∷ [])
    go true bar h k = Mark false [] (ap (λ (c : ℕ). c ∷ []) (eqb-true b 61 h))
    go false true h k = Half [] (ap (λ (c : ℕ). c ∷ []) (eqb-true b 124 k)) (λ other e. ap (λ (l : List ℕ). key_mark at (124 ∷ l)) (first_none other e))
    go false false h k = NoMark (rw h refl) (λ other e. let (more, is) = first_is other b e in subst (λ (l : List ℕ). Refused (key_mark at l)) (sym is) (none_one at b more h k))
mark_case at (b ∷ c ∷ rest) = go (eqb b 61) (eqb b 124) (eqb c 61) (eqb b 126) refl refl refl refl
  where
    none : (wave equals : Bool) → eqb b 61 ≡ false → eqb b 124 ≡ false → eqb b 126 ≡ wave → eqb c 61 ≡ equals → (wave && equals) ≡ false → MarkCase at (b ∷ c ∷ rest)
    none wave equals h k hw he not_both =
        NoMark (rw (h, k, hw, he, not_both) refl) (λ other e. let (more, is) = first_is other b e in subst (λ (l : List ℕ). Refused (key_mark at l)) (sym is) (none_one at b more h k))

    go : (plain bar equals wave : Bool) → eqb b 61 ≡ plain → eqb b 124 ≡ bar → eqb c 61 ≡ equals → eqb b 126 ≡ wave → MarkCase at (b ∷ c ∷ rest)
    go true bar equals wave h k he hw = Mark false (c ∷ rest) (ap (λ (d : ℕ). d ∷ c ∷ rest) (eqb-true b 61 h))
    go false true true wave h k he hw = Mark true rest (ap (λ (d : ℕ). d ∷ c ∷ rest) (eqb-true b 124 k) ∙ ap (λ (d : ℕ). 124 ∷ d ∷ rest) (eqb-true c 61 he))
    go false true false wave h k he hw =
        Half (c ∷ rest) (ap (λ (d : ℕ). d ∷ c ∷ rest) (eqb-true b 124 k))
        (λ other e. let (more, is) = first_is other c e in ap (λ (l : List ℕ). key_mark at (124 ∷ l)) is ∙ half_one at c more he)
    go false false true true h k he hw = Wave rest (ap (λ (d : ℕ). d ∷ c ∷ rest) (eqb-true b 126 hw) ∙ ap (λ (d : ℕ). 126 ∷ d ∷ rest) (eqb-true c 61 he))
    go false false true false h k he hw = none false true h k hw he refl
    go false false false true h k he hw = none true false h k hw he refl
    go false false false false h k he hw = none false false h k hw he refl

-- where the bytes of a value begin
abbrev pub value_place : ℕ → Bool → ℕ
value_place at discrete = at + length (sign_text discrete [])

-- a mark is read, and `~=` isn't
pub mark_reads : (at : ℕ) (discrete : Bool) (value : List ℕ) → key_mark at (sign_text discrete value) ≡ Ok (discrete, value_place at discrete, value)
unfolding key_mark
mark_reads at false [] = refl
mark_reads at false (b ∷ value) = refl
mark_reads at true value = refl

pub wave_reads : (at : ℕ) (value : List ℕ) → key_mark at (126 ∷ 61 ∷ value) ≡ Err (Smooth (held at))
unfolding key_mark
wave_reads at value = refl

-- ---- a key

-- the key of a frame and a value
abbrev pub key_of : ℕ → Bool → ℕ → Result Key NumFault
key_of frame discrete value = Ok (record { frame = frame; value = record { 0 = value }; discrete = discrete })

-- behind its mark: its order and its value
abbrev pub marked : Option ℕ → ℕ → ℕ → Bool × ℕ × List ℕ → Result Key NumFault
marked last at frame mark = in_order last at frame >>= λ ordered. decimal mark.1 mark.2 >>= key_of frame mark.0

-- a frame and its mark, a frame that is too large, and no frame
pub frame_reads : (last : Option ℕ) (at : ℕ) (frame rest : List ℕ) → IsNumeral frame → digit_count rest ≡ 0 → number frame < 2 ^ 31 → key_at last at (frame ++ rest) ≡ (key_mark (at + length frame) rest >>= marked last at (number frame))
unfolding key_at
frame_reads last at frame rest numeral none small = rw (digits_at-again at frame rest numeral none, ← below_ok (2 ^ 31) (number frame) (number frame) small refl) refl

pub frame_large : (last : Option ℕ) (at : ℕ) (frame rest : List ℕ) → IsNumeral frame → digit_count rest ≡ 0 → 2 ^ 31 ≤ number frame → key_at last at (frame ++ rest) ≡ Err TooLarge
unfolding key_at
frame_large last at frame rest numeral none large = rw (digits_at-again at frame rest numeral none, ← below_err (2 ^ 31) (number frame) large) refl

pub frame_none : (last : Option ℕ) (at : ℕ) (part : List ℕ) → digit_count part ≡ 0 → key_at last at part ≡ Err (BadDigit (held at))
unfolding key_at
frame_none last at part none = rw (digits_none at part none) refl

-- a key's frame and mark are read
pub mark_read : (last : Option ℕ) (at : ℕ) (frame : List ℕ) (discrete : Bool) (value : List ℕ) → IsNumeral frame → number frame < 2 ^ 31 → key_at last at (frame ++ sign_text discrete value) ≡ marked last at (number frame) (discrete, value_place (at + length frame) discrete, value)
mark_read last at frame discrete value numeral small =
    frame_reads last at frame (sign_text discrete value) numeral (no_digit discrete value) small ∙ ap (λ (r : Result (Bool × ℕ × List ℕ) NumFault). r >>= marked last at (number frame)) (mark_reads (at + length frame) discrete value)

-- a frame that isn't behind the last one, and one that is
pub order_fails : (last : Option ℕ) (at frame : ℕ) (mark : Bool × ℕ × List ℕ) → is_behind last frame ≡ false → marked last at frame mark ≡ Err (Order (held at))
unfolding in_order
order_fails last at frame mark e = rw e refl

pub order_passes : (last : Option ℕ) (at frame : ℕ) (mark : Bool × ℕ × List ℕ) → is_behind last frame ≡ true → marked last at frame mark ≡ (decimal mark.1 mark.2 >>= key_of frame mark.0)
unfolding in_order
order_passes last at frame mark e = rw e refl

-- ---- its fault

pub data KeyFault (last : Option ℕ) (at : ℕ) (part : List ℕ) (fault : NumFault) : Type 0 where
  NoFrame : digit_count part ≡ 0 → fault ≡ BadDigit (held at) → KeyFault last at part fault
  LargeFrame : (frame rest : List ℕ) → IsNumeral frame → digit_count rest ≡ 0 → 2 ^ 31 ≤ number frame → part ≡ frame ++ rest → fault ≡ TooLarge → KeyFault last at part fault
  WaveMark : (frame value : List ℕ) → IsNumeral frame → number frame < 2 ^ 31 → part ≡ frame ++ 126 ∷ 61 ∷ value → fault ≡ Smooth (held (at + length frame)) → KeyFault last at part fault
  BadMark : (frame rest : List ℕ) → IsNumeral frame → digit_count rest ≡ 0 → number frame < 2 ^ 31 → part ≡ frame ++ rest → ((other : List ℕ) → take 1 other ≡ take 1 rest → Refused (key_mark (at + length frame) other)) → fault ≡ BadDigit (held (at + length frame)) → KeyFault last at part fault
  HalfMark : (frame more : List ℕ) → IsNumeral frame → number frame < 2 ^ 31 → part ≡ frame ++ 124 ∷ more → ((other : List ℕ) → take 1 other ≡ take 1 more → key_mark (at + length frame) (124 ∷ other) ≡ Err (BadDigit (held (at + length frame)))) → fault ≡ BadDigit (held (at + length frame)) → KeyFault last at part fault
  OutOfOrder : (frame : List ℕ) (discrete : Bool) (value : List ℕ) → IsNumeral frame → number frame < 2 ^ 31 → part ≡ frame ++ sign_text discrete value → is_behind last (number frame) ≡ false → fault ≡ Order (held at) → KeyFault last at part fault
  BadValue : (frame : List ℕ) (discrete : Bool) (value : List ℕ) → IsNumeral frame → number frame < 2 ^ 31 → part ≡ frame ++ sign_text discrete value → is_behind last (number frame) ≡ true → decimal (value_place (at + length frame) discrete) value ≡ Err fault → KeyFault last at part fault

pub err_is : {A : Type 0} (a b : NumFault) (r : Result A NumFault) → r ≡ Err a → r ≡ Err b → a ≡ b
err_is a b r first second = cc

pub key_fault : (last : Option ℕ) (at : ℕ) (part : List ℕ) (fault : NumFault) → key_at last at part ≡ Err fault → KeyFault last at part fault
key_fault last at part fault e = go (numeral_case part)
  where
    value : (frame : List ℕ) (discrete : Bool) (value : List ℕ) → IsNumeral frame → number frame < 2 ^ 31 → part ≡ frame ++ sign_text discrete value → is_behind last (number frame) ≡ true
        → (r : Result ℕ NumFault) → decimal (value_place (at + length frame) discrete) value ≡ r → (r >>= key_of (number frame) discrete) ≡ Err fault → KeyFault last at part fault
    value frame discrete bytes numeral small is order (Ok v) h bad = absurd cc
    value frame discrete bytes numeral small is order (Err other) h bad = BadValue frame discrete bytes numeral small is order (h ∙ cc)

    order : (frame : List ℕ) (discrete : Bool) (bytes : List ℕ) → IsNumeral frame → number frame < 2 ^ 31 → part ≡ frame ++ sign_text discrete bytes → (t : Bool) → is_behind last (number frame) ≡ t → KeyFault last at part fault
    order frame discrete bytes numeral small is true h =
        let read = mark_read last at frame discrete bytes numeral small ∙ order_passes last at (number frame) (discrete, value_place (at + length frame) discrete, bytes) h in
        value frame discrete bytes numeral small is h (decimal (value_place (at + length frame) discrete) bytes) refl (sym read ∙ (ap (key_at last at) (sym is) ∙ e))
    order frame discrete bytes numeral small is false h =
        OutOfOrder frame discrete bytes numeral small is h
        (err_is fault (Order (held at)) (key_at last at part) e (ap (key_at last at) is ∙ (mark_read last at frame discrete bytes numeral small ∙ order_fails last at (number frame) (discrete, value_place (at + length frame) discrete, bytes) h)))

    mark : (frame rest : List ℕ) → IsNumeral frame → digit_count rest ≡ 0 → number frame < 2 ^ 31 → part ≡ frame ++ rest → MarkCase (at + length frame) rest → KeyFault last at part fault
    mark frame rest numeral none small is (Mark discrete bytes spelled) = order frame discrete bytes numeral small (is ∙ ap (λ (l : List ℕ). frame ++ l) spelled) (is_behind last (number frame)) refl
    mark frame rest numeral none small is (Wave bytes spelled) =
        WaveMark frame bytes numeral small (is ∙ ap (λ (l : List ℕ). frame ++ l) spelled)
        (err_is fault (Smooth (held (at + length frame))) (key_at last at part) e
        (ap (key_at last at) is ∙ (frame_reads last at frame rest numeral none small ∙ ap (λ (r : Result (Bool × ℕ × List ℕ) NumFault). r >>= marked last at (number frame)) (ap (key_mark (at + length frame)) spelled ∙ wave_reads (at + length frame) bytes))))
    mark frame rest numeral none small is (Half more spelled refused) =
        HalfMark frame more numeral small (is ∙ ap (λ (l : List ℕ). frame ++ l) spelled) refused
        (err_is fault (BadDigit (held (at + length frame))) (key_at last at part) e
        (ap (key_at last at) is ∙ (frame_reads last at frame rest numeral none small ∙ ap (λ (r : Result (Bool × ℕ × List ℕ) NumFault). r >>= marked last at (number frame)) (ap (key_mark (at + length frame)) spelled ∙ refused more refl))))
    mark frame rest numeral none small is (NoMark bad refused) =
        BadMark frame rest numeral none small is refused
        (err_is fault (BadDigit (held (at + length frame))) (key_at last at part) e
        (ap (key_at last at) is ∙ (frame_reads last at frame rest numeral none small ∙ ap (λ (r : Result (Bool × ℕ × List ℕ) NumFault). r >>= marked last at (number frame)) bad)))

    go : NumeralCase part → KeyFault last at part fault
    go (NoDigit none) = NoFrame none (err_is fault (BadDigit (held at)) (key_at last at part) e (frame_none last at part none))
    go (Numeral frame rest numeral none is) =
        elim (cases_lt (number frame) (2 ^ 31)) [
          | inl small ↦ mark frame rest numeral none small is (mark_case (at + length frame) rest)
          | inr large ↦ LargeFrame frame rest numeral none large is (err_is fault TooLarge (key_at last at part) e (ap (key_at last at) is ∙ frame_large last at frame rest numeral none large))
        ]
