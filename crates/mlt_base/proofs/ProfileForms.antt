-- Profiles: what is read is a name of the table or spelled, and each such text is read.
use Rattle.std.proofs.Common.{◌≡◌, ℕ, zero, suc, ◌*◌, ◌<◌, ◌≤◌, ◌⊎◌, Bool, true, false, cond, eqb, leb, not, ◌&&◌, List, [], ◌∷◌, ◌++◌, length, inl, inr, refl, sym, ap, subst, ◌∙◌, arith}
use Rattle.std.specs.Prelude.{Option, Some, None}
use Rattle.std.specs.List.{find, Any, All, list_any, list_all}
use Rattle.std.specs.Str.{bytes_eq}
use Rattle.std.proofs.lemmas.Slice.Eq.{bytes_eq-Decides}
use Rattle.std.proofs.lemmas.Bool.{and_parts, or_right, both_ways, not-true, eqb-true, eq-eqb, leb-true, le-leb, false_from_ne_true}
use Rattle.mlt_base.specs.declared.table.NamedProfile.{NamedProfile}
use Rattle.mlt_base.specs.declared.table.TheConstants.{PROFILES}
use Rattle.mlt_base.specs.Reading.{AreDigits, IsNumeral, digit_count, number}
use Rattle.mlt_base.specs.SplitOnce.{split_once}
use Rattle.mlt_base.specs.Name.{name_of}
use Rattle.mlt_base.specs.Profile.{Measures, is_size, is_rate, within, field, pair, spelled, is_named, profile_from, profile, row_measures}
use Rattle.mlt_base.specs.Grammar.{IsProfile, IsWithin, IsNamed}
use Rattle.mlt_base.proofs.Forms.{digit_count-all, AreDigits-all}
use Rattle.mlt_base.proofs.Cuts.{Lacks-append, Lacks-digits, cut_again, cut_takes, some_is, bind_some}

-- ---- what is read is spelled so

field_takes : (limit : ℕ) (text : List ℕ) (n : ℕ) → field limit text ≡ Some n → AreDigits text × (number text ≡ n)
unfolding field
field_takes limit text n e = go (eqb (digit_count text) (length text)) (leb (number text) limit) refl e
  where
    go : (all small : Bool) → eqb (digit_count text) (length text) ≡ all → cond (all && small) (Some (number text)) None ≡ Some n → AreDigits text × (number text ≡ n)
    go true true h e = (AreDigits-all text (eqb-true (digit_count text) (length text) h), some_is (number text) n e)
    go true false h e = absurd cc
    go false small h e = absurd cc

pair_takes : (mark limit : ℕ) (text : List ℕ) (p : ℕ × ℕ) → pair mark limit text ≡ Some p
    → (a : List ℕ) × (b : List ℕ) × AreDigits a × AreDigits b × (text ≡ a ++ mark ∷ b) × (number a ≡ p.0) × (number b ≡ p.1)
unfolding pair
pair_takes mark limit text p e =
    let one = bind_some (split_once mark text) _ p e in
    let two = bind_some (field limit one.0.0) _ p one.2 in
    let three = bind_some (field limit one.0.1) _ p two.2 in
    let a = field_takes limit one.0.0 two.0 two.1 in
    let b = field_takes limit one.0.1 three.0 three.1 in
    let is : (two.0, three.0) ≡ p = some_is (two.0, three.0) p three.2 in
    (one.0.0, one.0.1, a.0, b.0, cut_takes mark text one.0 one.1, a.1 ∙ ap (λ (q : ℕ × ℕ). q.0) is, b.1 ∙ ap (λ (q : ℕ × ℕ). q.1) is)

within_takes : (m n : Measures) → within m ≡ Some n → IsWithin m × (m ≡ n)
unfolding within
within_takes m n e = go (is_size m.width && is_size m.height && is_rate m.num m.den) refl e
  where
    go : (t : Bool) → (is_size m.width && is_size m.height && is_rate m.num m.den) ≡ t → cond t (Some m) None ≡ Some n → IsWithin m × (m ≡ n)
    go false h e = absurd cc
    go true h e =
        let all = and_parts (is_size m.width && is_size m.height) _ h in
        let sizes = and_parts (is_size m.width) _ all.0 in
        let width = and_parts (leb 1 m.width) _ sizes.0 in
        let height = and_parts (leb 1 m.height) _ sizes.1 in
        let most = and_parts (leb 1 m.den && leb m.num 100000 && leb m.den m.num) _ all.1 in
        let least = and_parts (leb 1 m.den && leb m.num 100000) _ most.0 in
        let parts = and_parts (leb 1 m.den) _ least.0 in (
          (
            leb-true 1 m.width width.0,
            leb-true m.width 4096 width.1,
            leb-true 1 m.height height.0,
            leb-true m.height 4096 height.1,
            leb-true 1 m.den parts.0,
            leb-true m.num 100000 parts.1,
            leb-true m.den m.num least.1,
            leb-true m.num (1000 * m.den) most.1,
          ),
          some_is m n e,
        )

some_digits : (digits : List ℕ) → AreDigits digits → 1 ≤ number digits → IsNumeral digits
some_digits [] h some = absurd (omega arith)
some_digits (b ∷ digits) h some = (omega arith, h)

pub spelled_takes : (text : List ℕ) (m : Measures) → spelled text ≡ Some m → IsProfile text m × IsWithin m
unfolding spelled
spelled_takes text m e =
    let one = bind_some (split_once 64 text) _ m e in
    let two = bind_some (pair 120 4096 one.0.0) _ m one.2 in
    let three = bind_some (pair 47 100000 one.0.1) _ m two.2 in
    let all = within_takes (record { width = two.0.0; height = two.0.1; num = three.0.0; den = three.0.1 }) m three.2 in
    go (cut_takes 64 text one.0 one.1) (pair_takes 120 4096 one.0.0 two.0 two.1) (pair_takes 47 100000 one.0.1 three.0 three.1) all
  where
    go : {halves : List ℕ × List ℕ} {size rate : ℕ × ℕ} → text ≡ halves.0 ++ 64 ∷ halves.1
        → ((a : List ℕ) × (b : List ℕ) × AreDigits a × AreDigits b × (halves.0 ≡ a ++ 120 ∷ b) × (number a ≡ size.0) × (number b ≡ size.1))
        → ((a : List ℕ) × (b : List ℕ) × AreDigits a × AreDigits b × (halves.1 ≡ a ++ 47 ∷ b) × (number a ≡ rate.0) × (number b ≡ rate.1))
        → (IsWithin (record { width = size.0; height = size.1; num = rate.0; den = rate.1 }) × (record { width = size.0; height = size.1; num = rate.0; den = rate.1 } ≡ m))
        → IsProfile text m × IsWithin m
    go {halves} {size} {rate} whole (w, h, dw, dh, tsize, ew, eh) (n, d, dn, dd, trate, en, ed) (fits, is) =
        let measures : record { width = size.0; height = size.1; num = rate.0; den = rate.1 } ≡ record { width = number w; height = number h; num = number n; den = number d } = rw (ew, eh, en, ed) refl in (
          (
            w,
            h,
            n,
            d,
            some_digits w dw (omega (arith, ew, fits.0)),
            some_digits h dh (omega (arith, eh, fits.2)),
            some_digits n dn (omega (arith, en, fits.4, fits.6)),
            some_digits d dd (omega (arith, ed, fits.4)),
            whole ∙ rw (tsize, trate) refl,
            sym is ∙ measures,
          ),
          subst IsWithin is fits,
        )

-- ---- what is spelled so is read

field_again : (limit : ℕ) (digits : List ℕ) → AreDigits digits → number digits ≤ limit → field limit digits ≡ Some (number digits)
unfolding field
field_again limit digits h small = rw (digit_count-all digits h, eq-eqb (length digits) (length digits) refl, le-leb (number digits) limit small) refl

pair_again : (mark limit : ℕ) (a b : List ℕ) → ((mark < 48) ⊎ (57 < mark)) → AreDigits a → AreDigits b → number a ≤ limit → number b ≤ limit → pair mark limit (a ++ mark ∷ b) ≡ Some (number a, number b)
unfolding pair
pair_again mark limit a b far ha hb sa sb = rw (cut_again mark a b (Lacks-digits mark a far ha), field_again limit a ha sa, field_again limit b hb sb) refl

within_again : (m : Measures) → IsWithin m → within m ≡ Some m
unfolding within
within_again m h =
    rw (
      le-leb 1 m.width h.0,
      le-leb m.width 4096 h.1,
      le-leb 1 m.height h.2,
      le-leb m.height 4096 h.3,
      le-leb 1 m.den h.4,
      le-leb m.num 100000 h.5,
      le-leb m.den m.num h.6,
      le-leb m.num (1000 * m.den) h.7,
    ) refl

spelled_again : (text : List ℕ) (m : Measures) → IsProfile text m → IsWithin m → spelled text ≡ Some m
unfolding spelled
spelled_again text m (w, h, n, d, dw, dh, dn, dd, whole, is) fits =
    let limits = subst IsWithin is fits in
    let front = Lacks-append 64 w (120 ∷ h) (Lacks-digits 64 w (inr (omega arith)) dw.1) ((λ e. omega (arith, e)), Lacks-digits 64 h (inr (omega arith)) dh.1) in
    ap spelled whole
    ∙ (rw (
      cut_again 64 (w ++ 120 ∷ h) (n ++ 47 ∷ d) front,
      pair_again 120 4096 w h (inr (omega arith)) dw.1 dh.1 limits.1 limits.3,
      pair_again 47 100000 n d (inl (omega arith)) dn.1 dd.1 limits.5 (omega (arith, limits.5, limits.6)),
    )
    (within_again (record { width = number w; height = number h; num = number n; den = number d }) limits)
    ∙ ap (λ (x : Measures). Some x) (sym is))

-- ---- the table

bytes_eq-true : (a b : List ℕ) → bytes_eq a b ≡ true → a ≡ b
bytes_eq-true a b e = (bytes_eq-Decides a b).0 e

-- what is found is one of the list, and passes
found : {A : Type 0} (test : A → Bool) (xs : List A) (x : A) → find test xs ≡ Some x → Any (λ y. (test y ≡ true) × (y ≡ x)) xs
found test [] x e = absurd cc
found test (y ∷ xs) x e = go (test y) refl (found test xs x) e
  where
    later : Any (λ z. (test z ≡ true) × (z ≡ x)) xs → Any (λ z. (test z ≡ true) × (z ≡ x)) (y ∷ xs)
    later (k, z, lt, at, passes) = (suc k, z, omega (arith, lt), at, passes)

    go : (t : Bool) → test y ≡ t → (find test xs ≡ Some x → Any (λ z. (test z ≡ true) × (z ≡ x)) xs) → cond t (Some y) (find test xs) ≡ Some x → Any (λ z. (test z ≡ true) × (z ≡ x)) (y ∷ xs)
    go true h rest e = (0, y, omega arith, refl, (h, some_is y x e))
    go false h rest e = later (rest e)

profile_from_takes : (text : List ℕ) (m : Measures) (o : Option NamedProfile) → find (is_named text) PROFILES ≡ o → profile_from text o ≡ Some m → IsNamed text m ⊎ (IsProfile text m × IsWithin m)
profile_from_takes text m None h e = inr (spelled_takes text m e)
profile_from_takes text m (Some row) h e = inl (named (found (is_named text) PROFILES row h))
  where
    named : Any (λ y. (is_named text y ≡ true) × (y ≡ row)) PROFILES → IsNamed text m
    named (k, z, lt, at, (passes, is)) = (k, z, lt, at, (sym (bytes_eq-true (name_of z.name) text passes), sym (within_takes (row_measures row) m e).1 ∙ ap row_measures (sym is)))

pub profile_takes : (text : List ℕ) (m : Measures) → profile text ≡ Some m → IsNamed text m ⊎ (IsProfile text m × IsWithin m)
unfolding profile
profile_takes text m e = profile_from_takes text m (find (is_named text) PROFILES) refl e

pub profile_named : All (λ row. profile (name_of row.name) ≡ Some (row_measures row)) PROFILES
unfolding profile within
profile_named zero d h = refl
profile_named (suc zero) d h = refl
profile_named (suc (suc zero)) d h = refl
profile_named (suc (suc (suc zero))) d h = refl
profile_named (suc (suc (suc (suc k)))) d h = absurd (omega (arith, h))

-- a text with an `@` is no name
has_at : (front back : List ℕ) → list_any (λ b. eqb b 64) (front ++ 64 ∷ back) ≡ true
has_at [] back = refl
has_at (b ∷ front) back = or_right (eqb b 64) (list_any (λ c. eqb c 64) (front ++ 64 ∷ back)) (has_at front back)

unnamed : (front back : List ℕ) (rows : List NamedProfile) → list_all (λ row. not (list_any (λ b. eqb b 64) (name_of row.name))) rows ≡ true → find (is_named (front ++ 64 ∷ back)) rows ≡ None
unnamed front back [] h = refl
unnamed front back (row ∷ rows) h =
    let each = and_parts (not (list_any (λ b. eqb b 64) (name_of row.name))) _ h in
    let other : is_named (front ++ 64 ∷ back) row ≡ false = false_from_ne_true (is_named (front ++ 64 ∷ back) row) (λ same.
    both_ways (list_any (λ b. eqb b 64) (name_of row.name)) (not-true (list_any (λ b. eqb b 64) (name_of row.name)) each.0)
    (ap (list_any (λ b. eqb b 64)) (bytes_eq-true (name_of row.name) (front ++ 64 ∷ back) same) ∙ has_at front back)) in
    rw (other, unnamed front back rows each.1) refl

pub profile_spelled : (text : List ℕ) (m : Measures) → IsProfile text m → IsWithin m → profile text ≡ Some m
unfolding profile
profile_spelled text m is fits = ap (profile_from text) (none is) ∙ spelled_again text m is fits
  where
    none : IsProfile text m → find (is_named text) PROFILES ≡ None
    none (w, h, n, d, dw, dh, dn, dd, whole, e) = ap (λ (t : List ℕ). find (is_named t) PROFILES) whole ∙ unnamed (w ++ 120 ∷ h) (n ++ 47 ∷ d) PROFILES refl
