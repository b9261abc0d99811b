-- Animations: what is read is one, and each that is one is read.
use Rattle.std.proofs.Common.{◌≡◌, ◌≢◌, ℕ, ◌+◌, ◌^◌, ◌<◌, ◌⊎◌, Bool, true, false, cond, eqb, ◌&&◌, ◌||◌, List, [], ◌∷◌, ◌++◌, length, Ok, Err, inl, inr, refl, sym, ap, subst, ◌∙◌, arith}
use Rattle.std.specs.Prelude.{Option, Some, None}
use Rattle.std.specs.List.{list_any, slice_split, join_with_byte}
use Rattle.std.proofs.lemmas.Bool.{eqb-true, ne_eqb, or_right}
use Rattle.std.proofs.lemmas.List.Splits.{join_with_byte-slice_split}
use Rattle.mlt_base.specs.declared.fault.NumFault.TheVariants.{BadDigit, Order, Smooth}
use Rattle.mlt_base.specs.declared.animation.Key.{Key}
use Rattle.mlt_base.specs.Reading.{held, digit_count, number, digits_at, below}
use Rattle.mlt_base.specs.Steps.{◌>>=◌}
use Rattle.mlt_base.specs.Decimal.{decimal}
use Rattle.mlt_base.specs.Animation.{is_behind, Rises, key_mark, in_order, key_at, is_skipped, keys_of, is_semicolon, constant, animation}
use Rattle.mlt_base.specs.Grammar.{IsDecimal, sign_text, IsKey, AreKeys, IsAnimation, AreHeld}
use Rattle.mlt_base.proofs.Below.{below_ok}
use Rattle.mlt_base.proofs.Forms.{bind_ok, ok_is, digits_at-takes, digits_at-again, below-takes}
use Rattle.mlt_base.proofs.DecimalForms.{decimal_takes-at, decimal_takes, decimal_accepted-at, decimal_accepted}
use Rattle.mlt_base.proofs.Cuts.{Lacks, Lacks-append, Lacks-digits}

-- ---- one key is read

mark_takes : (at : ℕ) (bytes : List ℕ) (x : Bool × ℕ × List ℕ) → key_mark at bytes ≡ Ok x → bytes ≡ sign_text x.0 x.2
unfolding key_mark
mark_takes at [] x e = absurd cc
mark_takes at (b ∷ []) x e = go (eqb b 61) refl e
  where
    go : (t : Bool) → eqb b 61 ≡ t → cond t (Ok (false, at + 1, [])) (Err (BadDigit (held at))) ≡ Ok x → b ∷ [] ≡ sign_text x.0 x.2
    go true h e = subst (λ (y : Bool × ℕ × List ℕ). b ∷ [] ≡ sign_text y.0 y.2) (ok_is (false, at + 1, []) x e) (ap (λ (c : ℕ). c ∷ []) (eqb-true b 61 h))
    go false h e = absurd cc
mark_takes at (b ∷ c ∷ rest) x e = go (eqb b 61) (eqb b 124) (eqb c 61) (eqb b 126) refl refl refl e
  where
    go : (plain bar equals wave : Bool) → eqb b 61 ≡ plain → eqb b 124 ≡ bar → eqb c 61 ≡ equals
        → cond plain (Ok (false, at + 1, c ∷ rest)) (cond (bar && equals) (Ok (true, at + 2, rest)) (cond (wave && equals) (Err (Smooth (held at))) (Err (BadDigit (held at))))) ≡ Ok x
        → b ∷ c ∷ rest ≡ sign_text x.0 x.2
    go true bar equals wave hp hb he e = subst (λ (y : Bool × ℕ × List ℕ). b ∷ c ∷ rest ≡ sign_text y.0 y.2) (ok_is (false, at + 1, c ∷ rest) x e) (ap (λ (d : ℕ). d ∷ c ∷ rest) (eqb-true b 61 hp))
    go false true true wave hp hb he e =
        subst (λ (y : Bool × ℕ × List ℕ). b ∷ c ∷ rest ≡ sign_text y.0 y.2) (ok_is (true, at + 2, rest) x e)
        (ap (λ (d : ℕ). d ∷ c ∷ rest) (eqb-true b 124 hb) ∙ ap (λ (d : ℕ). 124 ∷ d ∷ rest) (eqb-true c 61 he))
    go false true false true hp hb he e = absurd cc
    go false true false false hp hb he e = absurd cc
    go false false true true hp hb he e = absurd cc
    go false false true false hp hb he e = absurd cc
    go false false false true hp hb he e = absurd cc
    go false false false false hp hb he e = absurd cc

order_takes : (last : Option ℕ) (at frame : ℕ) (x : Unit {0}) → in_order last at frame ≡ Ok x → is_behind last frame ≡ true
unfolding in_order
order_takes last at frame x e = go (is_behind last frame) e
  where
    go : (t : Bool) → cond t (Ok tt) (Err (Order (held at))) ≡ Ok x → t ≡ true
    go true e = refl
    go false e = absurd cc

pub record TakesKey (last : Option ℕ) (part : List ℕ) (key : Key) : Type 0 where
  pub is : IsKey part key
  pub behind : is_behind last key.frame ≡ true
  pub frame : key.frame < 2 ^ 31
  pub value : key.value.0 < 2 ^ 32

pub key_takes : (last : Option ℕ) (at : ℕ) (part : List ℕ) (key : Key) → key_at last at part ≡ Ok key → TakesKey last part key
unfolding key_at
key_takes last at part key e =
    let one = bind_ok (digits_at at part) _ key e in
    let two = bind_ok (below (2 ^ 31) (number one.0.0)) _ key one.2 in
    let three = bind_ok (key_mark one.0.1 one.0.2) _ key two.2 in
    let four = bind_ok (in_order last at two.0) _ key three.2 in
    let five = bind_ok (decimal three.0.1 three.0.2) _ key four.2 in
    let digits = digits_at-takes at part one.0 one.1 in
    let frame = below-takes (2 ^ 31) (number one.0.0) two.0 two.1 in
    let value = decimal_takes-at three.0.1 three.0.2 five.0 five.1 in
    let text : part ≡ one.0.0 ++ sign_text three.0.0 three.0.2 = digits.parts ∙ ap (λ (t : List ℕ). one.0.0 ++ t) (mark_takes one.0.1 one.0.2 three.0 three.1) in
    subst (TakesKey last part) (ok_is (record { frame = two.0; value = record { 0 = five.0 }; discrete = three.0.0 }) key five.2) (record {
      is = (one.0.0, three.0.2, digits.numeral, sym frame.0, value.0, text);
      behind = order_takes last at two.0 four.0 four.1;
      frame = frame.1;
      value = value.1;
    })

-- ---- and all of them

pub record TakesKeys (last : Option ℕ) (text : List ℕ) (key : Key) (keys : List Key) : Type 0 where
  pub are : AreKeys text key keys
  pub rise : Rises last (key ∷ keys)
  pub held : AreHeld (key ∷ keys)

-- what stands behind a key
abbrev TakeBehind : Option ℕ → List (List ℕ) → List Key → Type 0
TakeBehind last [] keys = keys ≡ []
TakeBehind last (part ∷ parts) [] = (part ≡ []) × (parts ≡ [])
TakeBehind last (part ∷ parts) (key ∷ keys) = TakesKeys last (join_with_byte 59 (part ∷ parts)) key keys

first_take : (last : Option ℕ) (part : List ℕ) (parts : List (List ℕ)) (key : Key) (keys : List Key) → TakesKey last part key → TakeBehind (Some key.frame) parts keys → TakesKeys last (join_with_byte 59 (part ∷ parts)) key keys
first_take last part [] key [] t back = record { are = inl t.is; rise = (t.behind, t.frame, tt); held = (t.value, tt) }
first_take last part [] key (next ∷ keys) t back = absurd cc
first_take last part (other ∷ parts) key [] t back =
    let nothing : other ∷ parts ≡ [] ∷ [] = ap (λ (p : List ℕ). p ∷ parts) back.0 ∙ ap (λ (ps : List (List ℕ)). [] ∷ ps) back.1 in
    subst (λ (ps : List (List ℕ)). TakesKeys last (join_with_byte 59 (part ∷ ps)) key []) (sym nothing)
    (record { are = inr (part, t.is, refl); rise = (t.behind, t.frame, tt); held = (t.value, tt) })
first_take last part (other ∷ parts) key (next ∷ keys) t back = record {
  are = (part, join_with_byte 59 (other ∷ parts), t.is, back.are, refl);
  rise = (t.behind, t.frame, back.rise);
  held = (t.value, back.held);
}

skipped : (part : List ℕ) (parts : List (List ℕ)) → is_skipped part parts ≡ true → (part ≡ []) × (parts ≡ [])
skipped [] [] e = (refl, refl)
skipped [] (other ∷ parts) e = absurd cc
skipped (b ∷ part) parts e = absurd cc

keys_take : (last : Option ℕ) (at : ℕ) (parts : List (List ℕ)) (keys : List Key) → keys_of last at parts ≡ Ok keys → TakeBehind last parts keys
keys_take last at [] keys e = sym (ok_is [] keys e)
keys_take last at (part ∷ parts) keys e = go (is_skipped part parts) refl (λ last at keys. keys_take last at parts keys) e
  where
    go : (t : Bool) → is_skipped part parts ≡ t → ((last : Option ℕ) (at : ℕ) (keys : List Key) → keys_of last at parts ≡ Ok keys → TakeBehind last parts keys)
        → cond t (Ok []) (key_at last at part >>= λ k. keys_of (Some k.frame) (at + length part + 1) parts >>= λ ks. Ok (k ∷ ks)) ≡ Ok keys → TakeBehind last (part ∷ parts) keys
    go true h back e = subst (TakeBehind last (part ∷ parts)) (ok_is [] keys e) (skipped part parts h)
    go false h back e =
        let one = bind_ok (key_at last at part) _ keys e in
        let two = bind_ok (keys_of (Some one.0.frame) (at + length part + 1) parts) _ keys one.2 in
        subst (TakeBehind last (part ∷ parts)) (ok_is (one.0 ∷ two.0) keys two.2)
        (first_take last part parts one.0 two.0 (key_takes last at part one.0 one.1) (back (Some one.0.frame) (at + length part + 1) two.0 two.1))

-- ---- what is read is an animation

pub record IsRead (text : List ℕ) (keys : List Key) : Type 0 where
  pub is : IsAnimation text keys
  pub rise : Rises None keys
  pub held : AreHeld keys

constant_is : (text : List ℕ) (n : ℕ) → decimal 0 text ≡ Ok n → IsRead text (constant n ∷ [])
constant_is text n e =
    let is = decimal_takes text n e in
    record { is = inr (is.0, refl); rise = (refl, omega arith, tt); held = (is.1, tt) }

parts_are : (text : List ℕ) (parts : List (List ℕ)) (keys : List Key) → join_with_byte 59 parts ≡ text → list_any (λ b. eqb b 61) text ≡ true → TakeBehind None parts keys → IsRead text keys
parts_are text [] keys e some t = absurd (both (ap (list_any (λ b. eqb b 61)) e ∙ some))
  where
    both : false ≡ true → ⊥
    both e = absurd cc
parts_are text (part ∷ parts) [] e some t = absurd (both (ap (list_any (λ b. eqb b 61)) (sym (ap (join_with_byte 59) (ap (λ (p : List ℕ). p ∷ parts) t.0 ∙ ap (λ (ps : List (List ℕ)). [] ∷ ps) t.1)) ∙ e) ∙ some))
  where
    both : false ≡ true → ⊥
    both e = absurd cc
parts_are text (part ∷ parts) (key ∷ keys) e some t = record { is = inl (subst (λ (x : List ℕ). AreKeys x key keys) e t.are); rise = t.rise; held = t.held }

pub animation_takes : (text : List ℕ) (keys : List Key) → animation text ≡ Ok keys → IsRead text keys
unfolding animation
animation_takes text keys e = go (list_any (λ b. eqb b 61) text) refl e
  where
    go : (t : Bool) → list_any (λ b. eqb b 61) text ≡ t → cond t (keys_of None 0 (slice_split is_semicolon text)) (decimal 0 text >>= λ value. Ok (constant value ∷ [])) ≡ Ok keys → IsRead text keys
    go true h e = parts_are text (slice_split is_semicolon text) keys (join_with_byte-slice_split 59 text) h (keys_take None 0 (slice_split is_semicolon text) keys e)
    go false h e =
        let one = bind_ok (decimal 0 text) _ keys e in
        subst (IsRead text) (ok_is (constant one.0 ∷ []) keys one.2) (constant_is text one.0 one.1)

-- ---- each that is one is read

mark_again : (at : ℕ) (discrete : Bool) (value : List ℕ) → (place : ℕ) × (key_mark at (sign_text discrete value) ≡ Ok (discrete, place, value))
unfolding key_mark
mark_again at false [] = (at + 1, refl)
mark_again at false (b ∷ value) = (at + 1, refl)
mark_again at true value = (at + 2, refl)

pub no_digit : (discrete : Bool) (value : List ℕ) → digit_count (sign_text discrete value) ≡ 0
no_digit false value = refl
no_digit true value = refl

pub key_again : (last : Option ℕ) (at : ℕ) (part : List ℕ) (key : Key) → IsKey part key → is_behind last key.frame ≡ true → key.frame < 2 ^ 31 → key.value.0 < 2 ^ 32 → key_at last at part ≡ Ok key
unfolding key_at in_order
key_again last at part key (frame, value, numeral, is, decimal, spelled) behind small held =
    let mark = mark_again (at + length frame) key.discrete value in
    ap (key_at last at) spelled
    ∙ rw (
      digits_at-again at frame (sign_text key.discrete value) numeral (no_digit key.discrete value),
      is,
      ← below_ok (2 ^ 31) key.frame key.frame small refl,
      mark.1,
      behind,
      decimal_accepted-at mark.0 value key.value.0 decimal held,
    ) refl

-- ---- and all of them

pub Lacks-decimal : (mark : ℕ) (text : List ℕ) (n : ℕ) → mark ≢ 46 → ((mark < 48) ⊎ (57 < mark)) → IsDecimal text n → Lacks mark text
Lacks-decimal mark text n ne far (whole, fraction, hw, hf, some, inl (is, none), e) = subst (Lacks mark) (sym is) (Lacks-digits mark whole far hw)
Lacks-decimal mark text n ne far (whole, fraction, hw, hf, some, inr is, e) =
    subst (Lacks mark) (sym is) (Lacks-append mark whole (46 ∷ fraction) (Lacks-digits mark whole far hw) ((λ e. ne (sym e)), Lacks-digits mark fraction far hf))

pub Lacks-key : (text : List ℕ) (key : Key) → IsKey text key → Lacks 59 text
Lacks-key text key (frame, value, numeral, is, decimal, spelled) =
    subst (Lacks 59) (sym spelled) (Lacks-append 59 frame (sign_text key.discrete value) (Lacks-digits 59 frame (inr (omega arith)) numeral.1) (sign key.discrete))
  where
    back : Lacks 59 value
    back = Lacks-decimal 59 value key.value.0 (λ e. omega (arith, e)) (inr (omega arith)) decimal

    sign : (discrete : Bool) → Lacks 59 (sign_text discrete value)
    sign false = ((λ e. omega (arith, e)), back)
    sign true = ((λ e. omega (arith, e)), ((λ e. omega (arith, e)), back))

-- a key is not empty, and has an `=`
pub key_some : (text : List ℕ) (key : Key) → IsKey text key → (parts : List (List ℕ)) → is_skipped text parts ≡ false
key_some text key ([], value, numeral, is, decimal, spelled) parts = absurd (omega (arith, numeral.0))
key_some text key (b ∷ frame, value, numeral, is, decimal, spelled) parts = ap (λ (t : List ℕ). is_skipped t parts) spelled

pub any_behind : (front back : List ℕ) → list_any (λ b. eqb b 61) back ≡ true → list_any (λ b. eqb b 61) (front ++ back) ≡ true
any_behind [] back h = h
any_behind (b ∷ front) back h = or_right (eqb b 61) (list_any (λ c. eqb c 61) (front ++ back)) (any_behind front back h)

any_front : (front back : List ℕ) → list_any (λ b. eqb b 61) front ≡ true → list_any (λ b. eqb b 61) (front ++ back) ≡ true
any_front [] back h = absurd cc
any_front (b ∷ front) back h = go (eqb b 61) h (any_front front back)
  where
    go : (t : Bool) → (t || list_any (λ c. eqb c 61) front) ≡ true → (list_any (λ c. eqb c 61) front ≡ true → list_any (λ c. eqb c 61) (front ++ back) ≡ true) → (t || list_any (λ c. eqb c 61) (front ++ back)) ≡ true
    go true h later = refl
    go false h later = later h

key_equals : (text : List ℕ) (key : Key) → IsKey text key → list_any (λ b. eqb b 61) text ≡ true
key_equals text key (frame, value, numeral, is, decimal, spelled) =
    ap (list_any (λ b. eqb b 61)) spelled ∙ any_behind frame (sign_text key.discrete value) (sign key.discrete)
  where
    sign : (discrete : Bool) → list_any (λ b. eqb b 61) (sign_text discrete value) ≡ true
    sign false = refl
    sign true = refl

pub keys_equals : (text : List ℕ) (key : Key) (keys : List Key) → AreKeys text key keys → list_any (λ b. eqb b 61) text ≡ true
keys_equals text key [] (inl is) = key_equals text key is
keys_equals text key [] (inr (front, is, e)) = ap (list_any (λ b. eqb b 61)) e ∙ any_front front (59 ∷ []) (key_equals front key is)
keys_equals text key (next ∷ keys) (front, rest, is, are, e) = ap (list_any (λ b. eqb b 61)) e ∙ any_front front (59 ∷ rest) (key_equals front key is)

pub split_none : (text : List ℕ) → Lacks 59 text → slice_split is_semicolon text ≡ text ∷ []
split_none [] h = refl
split_none (b ∷ text) h = rw (ne_eqb b 59 h.0, split_none text h.1) refl

pub split_at : (front back : List ℕ) → Lacks 59 front → slice_split is_semicolon (front ++ 59 ∷ back) ≡ front ∷ slice_split is_semicolon back
split_at [] back h = refl
split_at (b ∷ front) back h = rw (ne_eqb b 59 h.0, split_at front back h.1) refl

-- a key, with the parts behind it
step : (last : Option ℕ) (at : ℕ) (part : List ℕ) (parts : List (List ℕ)) (key : Key) (keys : List Key)
    → IsKey part key → Rises last (key ∷ keys) → AreHeld (key ∷ keys) → keys_of (Some key.frame) (at + length part + 1) parts ≡ Ok keys → keys_of last at (part ∷ parts) ≡ Ok (key ∷ keys)
step last at part parts key keys is rise held back = rw (key_some part key is parts, key_again last at part key is rise.0 rise.1 held.0, back) refl

keys_again : (last : Option ℕ) (at : ℕ) (text : List ℕ) (key : Key) (keys : List Key) → AreKeys text key keys → Rises last (key ∷ keys) → AreHeld (key ∷ keys) → keys_of last at (slice_split is_semicolon text) ≡ Ok (key ∷ keys)
keys_again last at text key [] (inl is) rise held = ap (keys_of last at) (split_none text (Lacks-key text key is)) ∙ step last at text [] key [] is rise held refl
keys_again last at text key [] (inr (front, is, e)) rise held =
    ap (λ (t : List ℕ). keys_of last at (slice_split is_semicolon t)) e ∙ (ap (keys_of last at) (split_at front [] (Lacks-key front key is)) ∙ step last at front ([] ∷ []) key [] is rise held refl)
keys_again last at text key (next ∷ keys) (front, rest, is, are, e) rise held =
    ap (λ (t : List ℕ). keys_of last at (slice_split is_semicolon t)) e
    ∙ (ap (keys_of last at) (split_at front rest (Lacks-key front key is))
    ∙ step last at front (slice_split is_semicolon rest) key (next ∷ keys) is rise held (keys_again (Some key.frame) (at + length front + 1) rest next keys are rise.2 held.1))

pub any_none : (text : List ℕ) → Lacks 61 text → list_any (λ b. eqb b 61) text ≡ false
any_none [] h = refl
any_none (b ∷ text) h = rw (ne_eqb b 61 h.0) (any_none text h.1)

pub animation_accepted : (text : List ℕ) (keys : List Key) → IsAnimation text keys → Rises None keys → AreHeld keys → animation text ≡ Ok keys
unfolding animation
animation_accepted text [] is rise held = absurd is
animation_accepted text (key ∷ keys) (inl are) rise held =
    ap (λ (t : Bool). cond t (keys_of None 0 (slice_split is_semicolon text)) (decimal 0 text >>= λ value. Ok (constant value ∷ []))) (keys_equals text key keys are)
    ∙ keys_again None 0 text key keys are rise held
animation_accepted text (key ∷ keys) (inr (is, e)) rise held =
    let none = any_none text (Lacks-decimal 61 text key.value.0 (λ e. omega (arith, e)) (inr (omega arith)) is) in
    ap (λ (t : Bool). cond t (keys_of None 0 (slice_split is_semicolon text)) (decimal 0 text >>= λ value. Ok (constant value ∷ []))) none
    ∙ (ap (λ r. r >>= λ value. Ok (constant value ∷ [])) (decimal_accepted text key.value.0 is held.0) ∙ ap (λ (ks : List Key). Ok ks) (sym e))
