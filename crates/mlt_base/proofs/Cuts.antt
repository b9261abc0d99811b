-- A text that is cut at a mark, and texts without the mark.
use Rattle.std.proofs.Common.{◌≡◌, ◌≢◌, ℕ, ◌+◌, ◌<◌, Bool, true, false, cond, eqb, ltb, ◌⊎◌, inl, inr, List, [], ◌∷◌, ◌++◌, length, drop, get_or, refl, sym, ap, subst, ◌∙◌, arith}
use Rattle.std.specs.Prelude.{Option, Some, None}
use Rattle.std.specs.Option.{option_and_then}
use Rattle.std.specs.List.{position_or_len, before_first, after_first}
use Rattle.std.proofs.lemmas.Bool.{eqb-true, ne_eqb, eq-eqb, ltb-true, lt-ltb, le-ltb}
use Rattle.std.proofs.lemmas.List.{append_assoc, length-append, length_push, take_at, drop_at}
use Rattle.std.proofs.lemmas.List.Sums.{split_at_first, passes_at_first}
use Rattle.mlt_base.specs.Reading.{AreDigits}
use Rattle.mlt_base.specs.SplitOnce.{split_once}

-- the value of a step that gave one
pub bind_some : {A B : Type 0} (o : Option A) (f : A → Option B) (y : B) → option_and_then f o ≡ Some y → (x : A) × (o ≡ Some x) × (f x ≡ Some y)
bind_some None f y e = absurd cc
bind_some (Some x) f y e = (x, refl, e)

-- no byte is the mark
abbrev pub Lacks : ℕ → List ℕ → Type 0
Lacks mark [] = Unit {0}
Lacks mark (b ∷ bytes) = (b ≢ mark) × Lacks mark bytes

pub Lacks-append : (mark : ℕ) (front back : List ℕ) → Lacks mark front → Lacks mark back → Lacks mark (front ++ back)
Lacks-append mark [] back hf hb = hb
Lacks-append mark (b ∷ front) back hf hb = (hf.0, Lacks-append mark front back hf.1 hb)

-- digits have none that is no digit
pub Lacks-digits : (mark : ℕ) (digits : List ℕ) → ((mark < 48) ⊎ (57 < mark)) → AreDigits digits → Lacks mark digits
Lacks-digits mark [] far h = tt
Lacks-digits mark (b ∷ digits) (inl low) h = ((λ e. omega (arith, h.0, e)), Lacks-digits mark digits (inl low) h.2)
Lacks-digits mark (b ∷ digits) (inr high) h = ((λ e. omega (arith, h.1, e)), Lacks-digits mark digits (inr high) h.2)

-- the mark is the first
position_at : (mark : ℕ) (front back : List ℕ) → Lacks mark front → position_or_len (λ b. eqb b mark) (front ++ mark ∷ back) ≡ length front
position_at mark [] back h = rw (eq-eqb mark mark refl) refl
position_at mark (b ∷ front) back h = rw (ne_eqb b mark h.0, position_at mark front back h.1) (omega arith)

position_none : (mark : ℕ) (text : List ℕ) → Lacks mark text → position_or_len (λ b. eqb b mark) text ≡ length text
position_none mark [] h = refl
position_none mark (b ∷ text) h = rw (ne_eqb b mark h.0, position_none mark text h.1) (omega arith)

pub cut_again : (mark : ℕ) (front back : List ℕ) → Lacks mark front → split_once mark (front ++ mark ∷ back) ≡ Some (front, back)
unfolding split_once
cut_again mark front back h =
    let behind : drop (length front + 1) (front ++ mark ∷ back) ≡ back =
    ap (drop (length front + 1)) (sym (append_assoc front (mark ∷ []) back)) ∙ drop_at (front ++ mark ∷ []) back (length front + 1) (length_push front mark) in
    rw (position_at mark front back h, lt-ltb (length front) (length (front ++ mark ∷ back)) (omega (arith, length-append front (mark ∷ back))), take_at front (mark ∷ back) (length front) refl, behind) refl

pub cut_none : (mark : ℕ) (text : List ℕ) → Lacks mark text → split_once mark text ≡ None
unfolding split_once
cut_none mark text h = rw (position_none mark text h, le-ltb (length text) (length text) (omega arith)) refl

pub some_is : {A : Type 0} (x y : A) → Some x ≡ Some y → x ≡ y
some_is x y e = cc

pub cut_takes : (mark : ℕ) (text : List ℕ) (parts : List ℕ × List ℕ) → split_once mark text ≡ Some parts → text ≡ parts.0 ++ mark ∷ parts.1
unfolding split_once
cut_takes mark text parts e = go (ltb (position_or_len (λ b. eqb b mark) text) (length text)) refl e
  where
    go : (t : Bool) → ltb (position_or_len (λ b. eqb b mark) text) (length text) ≡ t → cond t (Some (before_first (λ b. eqb b mark) text, after_first (λ b. eqb b mark) text)) None ≡ Some parts → text ≡ parts.0 ++ mark ∷ parts.1
    go false h e = absurd cc
    go true h e =
        let lt = ltb-true (position_or_len (λ b. eqb b mark) text) (length text) h in
        let there = eqb-true (get_or text (position_or_len (λ b. eqb b mark) text) 0) mark (passes_at_first (λ b. eqb b mark) text 0 lt) in
        let whole : text ≡ before_first (λ b. eqb b mark) text ++ mark ∷ after_first (λ b. eqb b mark) text =
        split_at_first (λ b. eqb b mark) text 0 lt ∙ ap (λ (m : ℕ). before_first (λ b. eqb b mark) text ++ m ∷ after_first (λ b. eqb b mark) text) there in
        subst (λ (p : List ℕ × List ℕ). text ≡ p.0 ++ mark ∷ p.1) (some_is (before_first (λ b. eqb b mark) text, after_first (λ b. eqb b mark) text) parts e) whole
