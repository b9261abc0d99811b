-- What the pieces of a grammar take, and that they take what is written so.
use Rattle.std.proofs.Common.{◌≡◌, ℕ, suc, ◌+◌, ◌<◌, ◌≤◌, Bool, true, false, cond, eqb, ltb, leb, ◌&&◌, List, [], ◌∷◌, ◌++◌, length, take, drop, Result, Ok, Err, refl, sym, ap, subst, ◌∙◌, arith, add-one}
use Rattle.std.specs.Char.{is_ascii_digit}
use Rattle.std.proofs.lemmas.Bool.{eqb-true, eqb-false, ne_eqb, ltb-true, leb-true, le-leb}
use Rattle.std.proofs.Math.Seq.{take-length}
use Rattle.std.proofs.lemmas.List.{take_at, drop_at, take-append-drop, length-take-le}
use Rattle.mlt_base.specs.declared.fault.NumFault.{NumFault}
use Rattle.mlt_base.specs.declared.fault.NumFault.TheVariants.{BadDigit, TooLarge}
use Rattle.mlt_base.specs.Reading.{held, AreDigits, IsNumeral, digit_count, digits_at, mark_at, end_at, below}
use Rattle.mlt_base.specs.Steps.{◌>>=◌}

-- the value of a step that did not fail
pub bind_ok : {A B : Type 0} (r : Result A NumFault) (f : A → Result B NumFault) (y : B) → (r >>= f) ≡ Ok y → (x : A) × (r ≡ Ok x) × (f x ≡ Ok y)
bind_ok (Ok x) f y e = (x, refl, e)
bind_ok (Err fault) f y e = absurd cc

abbrev done : {A : Type 0} → A → Result A NumFault
done x = Ok x

pub ok_is : {A : Type 0} (x y : A) → done x ≡ done y → x ≡ y
ok_is x y e = cc

-- ---- digits

pub digit_true : (b : ℕ) → 48 ≤ b → b ≤ 57 → is_ascii_digit b ≡ true
digit_true b low high = rw (le-leb 48 b low, le-leb b 57 high) refl

pub digit_range : (b : ℕ) → is_ascii_digit b ≡ true → (48 ≤ b) × (b ≤ 57)
digit_range b e = go (leb 48 b) refl e
  where
    go : (t : Bool) → leb 48 b ≡ t → (t && leb b 57) ≡ true → (48 ≤ b) × (b ≤ 57)
    go true low e = (leb-true 48 b low, leb-true b 57 e)
    go false low e = absurd cc

-- digits, and then what is no digit
pub digit_count-append : (digits rest : List ℕ) → AreDigits digits → digit_count (digits ++ rest) ≡ length digits + digit_count rest
digit_count-append [] rest h = omega arith
digit_count-append (b ∷ digits) rest h = rw (digit_true b h.0 h.1, digit_count-append digits rest h.2) (omega arith)

pub digit_count-all : (digits : List ℕ) → AreDigits digits → digit_count digits ≡ length digits
digit_count-all [] h = refl
digit_count-all (b ∷ digits) h = rw (digit_true b h.0 h.1, digit_count-all digits h.2) (omega arith)

-- those that are counted are digits
pub AreDigits-take : (bytes : List ℕ) → AreDigits (take (digit_count bytes) bytes)
AreDigits-take [] = tt
AreDigits-take (b ∷ bytes) = go (is_ascii_digit b) refl (AreDigits-take bytes)
  where
    go : (t : Bool) → is_ascii_digit b ≡ t → AreDigits (take (digit_count bytes) bytes) → AreDigits (take (cond t (digit_count bytes + 1) 0) (b ∷ bytes))
    go true e rest = rw add-one ((digit_range b e).0, (digit_range b e).1, rest)
    go false e rest = tt

pub digit_count-le : (bytes : List ℕ) → digit_count bytes ≤ length bytes
digit_count-le [] = omega arith
digit_count-le (b ∷ bytes) = go (is_ascii_digit b) (digit_count-le bytes)
  where
    go : (t : Bool) → digit_count bytes ≤ length bytes → cond t (digit_count bytes + 1) 0 ≤ suc (length bytes)
    go true h = omega arith
    go false h = omega arith

pub AreDigits-all : (bytes : List ℕ) → digit_count bytes ≡ length bytes → AreDigits bytes
AreDigits-all bytes e = subst AreDigits (rw e (take-length bytes)) (AreDigits-take bytes)

-- no digit stands behind all of them
pub digits_end : (bytes : List ℕ) → digit_count (drop (digit_count bytes) bytes) ≡ 0
digits_end [] = refl
digits_end (b ∷ bytes) = go (is_ascii_digit b) refl (digits_end bytes)
  where
    go : (t : Bool) → is_ascii_digit b ≡ t → digit_count (drop (digit_count bytes) bytes) ≡ 0 → digit_count (drop (cond t (digit_count bytes + 1) 0) (b ∷ bytes)) ≡ 0
    go true e h = rw add-one h
    go false e h = rw e refl

-- ---- a numeral

pub record TakesNumeral (at : ℕ) (bytes : List ℕ) (x : List ℕ × ℕ × List ℕ) : Type 0 where
  pub parts : bytes ≡ x.0 ++ x.2
  pub numeral : IsNumeral x.0
  pub place : x.1 ≡ at + length x.0

pub digits_at-takes : (at : ℕ) (bytes : List ℕ) (x : List ℕ × ℕ × List ℕ) → digits_at at bytes ≡ Ok x → TakesNumeral at bytes x
unfolding digits_at
digits_at-takes at bytes x e = go (eqb (digit_count bytes) 0) refl e
  where
    go : (t : Bool) → eqb (digit_count bytes) 0 ≡ t → cond t (Err (BadDigit (held at))) (Ok (take (digit_count bytes) bytes, at + digit_count bytes, drop (digit_count bytes) bytes)) ≡ Ok x → TakesNumeral at bytes x
    go true h e = absurd cc
    go false h e =
        let len : length (take (digit_count bytes) bytes) ≡ digit_count bytes = length-take-le (digit_count bytes) bytes (digit_count-le bytes) in
        subst (TakesNumeral at bytes) (ok_is _ _ e) (record {
          parts = sym (take-append-drop (digit_count bytes) bytes);
          numeral = (rw len (omega (arith, eqb-false (digit_count bytes) 0 h)), AreDigits-take bytes);
          place = rw len refl;
        })

pub digits_at-again : (at : ℕ) (digits rest : List ℕ) → IsNumeral digits → digit_count rest ≡ 0 → digits_at at (digits ++ rest) ≡ Ok (digits, at + length digits, rest)
unfolding digits_at
digits_at-again at digits rest h stop =
    let n : digit_count (digits ++ rest) ≡ length digits = digit_count-append digits rest h.1 ∙ omega (arith, stop) in
    let some : eqb (length digits) 0 ≡ false = ne_eqb (length digits) 0 (λ e. omega (arith, h.0)) in
    rw (n, some, take_at digits rest (length digits) refl, drop_at digits rest (length digits) refl) refl

-- ---- marks, the end and limits

pub mark_at-takes : (mark at : ℕ) (bytes : List ℕ) (x : ℕ × List ℕ) → mark_at mark at bytes ≡ Ok x → (bytes ≡ mark ∷ x.1) × (x.0 ≡ at + 1)
unfolding mark_at
mark_at-takes mark at [] x e = absurd cc
mark_at-takes mark at (b ∷ rest) x e = go (eqb b mark) refl e
  where
    go : (t : Bool) → eqb b mark ≡ t → cond t (Ok (at + 1, rest)) (Err (BadDigit (held at))) ≡ Ok x → (b ∷ rest ≡ mark ∷ x.1) × (x.0 ≡ at + 1)
    go true h e = subst (λ (y : ℕ × List ℕ). (b ∷ rest ≡ mark ∷ y.1) × (y.0 ≡ at + 1)) (ok_is (at + 1, rest) x e) (ap (λ (m : ℕ). m ∷ rest) (eqb-true b mark h), refl)
    go false h e = absurd cc

pub end_at-takes : (at : ℕ) (bytes : List ℕ) (x : Unit {0}) → end_at at bytes ≡ Ok x → bytes ≡ []
unfolding end_at
end_at-takes at [] x e = refl
end_at-takes at (b ∷ rest) x e = absurd cc

pub below-takes : (limit n m : ℕ) → below limit n ≡ Ok m → (m ≡ n) × (m < limit)
unfolding below
below-takes limit n m e = go (ltb n limit) refl e
  where
    go : (t : Bool) → ltb n limit ≡ t → cond t (Ok n) (Err TooLarge) ≡ Ok m → (m ≡ n) × (m < limit)
    go true h e = let same : n ≡ m = ok_is n m e in (sym same, subst (λ (k : ℕ). k < limit) same (ltb-true n limit h))
    go false h e = absurd cc
