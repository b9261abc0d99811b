-- Starts after a part of a list was taken out, and after two entries overlapped.
use Rattle.std.proofs.Common.{◌≡◌, ℕ, zero, suc, ◌+◌, ◌-◌, ◌^◌, ◌≤◌, ◌<◌, min, Bool, true, false, not, eqb, ltb, nat_lt, List, [], ◌∷◌, ◌++◌, All, length, take, drop, get_or, map, if◌then◌else◌, Result, Ok, Err, OnOk, refl, sym, ap, subst, ◌∙◌, append_assoc, arith}
use Rattle.std.specs.Int.{from_bool}
use Rattle.std.proofs.lemmas.Bool.Decides.{nat_tests}
use Rattle.std.proofs.lemmas.List.{append-nil, get_or_read, map-append}
use Rattle.std.proofs.lemmas.List.Elements.{All-append, All-cons, All-get_or, All-nil}
use Rattle.mlt_index.specs.Starts as numbers
use Rattle.mlt_tree.specs.declared.entry.Entry.{Entry}
use Rattle.mlt_tree.specs.declared.entry.Entry.TheVariants.{Gap}
use Rattle.mlt_tree.specs.Edits.{clip, cut, frames_in, mixed_of, replaced}
use Rattle.mlt_tree.specs.Ranges.{IsEntry, frames}
use Rattle.mlt_playlist.specs.Place.{before, divided, divided_numbers, entry_at, rest, without_part}
use Rattle.mlt_playlist.specs.Playlist.{IsIndexed}
use Rattle.mlt_playlist.proofs.Counts.{All-one}
use Rattle.mlt_playlist.proofs.Frames.{IsEntry-cut, frames-cut}
use Rattle.mlt_playlist.proofs.Indexed.{AreNumbers, numbers_of}
use Rattle.mlt_playlist.proofs.Mixes.{mixed-entries, mixed-sized}

-- what is left of an entry
before-some : (e : Entry) (k : ℕ) → 0 < k → before e k ≡ cut e 0 k ∷ []
before-some e k some = let there : ltb 0 k ≡ true = grind (arith, nat_tests) in rw there refl

rest-some : (e : Entry) (k : ℕ) → 0 < k → rest e k ≡ cut e k (frames e) ∷ []
rest-some e k some = let there : ltb 0 k ≡ true = grind (arith, nat_tests) in rw there refl

entries-before : (e : Entry) (k : ℕ) → IsEntry e → All IsEntry (before e k)
entries-before e zero is = All-nil IsEntry
entries-before e (suc k) is = subst (All IsEntry) (sym (before-some e (suc k) (omega arith))) (All-one (cut e 0 (suc k)) (IsEntry-cut e 0 (suc k) is (omega arith)))

entries-rest : (e : Entry) (k : ℕ) → IsEntry e → (0 < k → k < frames e) → All IsEntry (rest e k)
entries-rest e zero is inside = All-nil IsEntry
entries-rest e (suc k) is inside = subst (All IsEntry) (sym (rest-some e (suc k) (omega arith))) (All-one (cut e (suc k) (frames e)) (IsEntry-cut e (suc k) (frames e) is (inside (omega arith))))

frames-before : (e : Entry) (k : ℕ) → 0 < k → map frames (before e k) ≡ k ∷ []
frames-before e k some = ap (map frames) (before-some e k some) ∙ ap (λ n. n ∷ []) (frames-cut e 0 k some ∙ omega arith)

frames-rest : (e : Entry) (k : ℕ) → 0 < k → k < frames e → map frames (rest e k) ≡ (frames e - k) ∷ []
frames-rest e k some inside = ap (map frames) (rest-some e k some) ∙ ap (λ n. n ∷ []) (frames-cut e k (frames e) inside)

-- the numbers of what is left of two entries
front : (p q : Bool) (x y : ℕ) → List ℕ
front p q x y = take (1 + from_bool q - from_bool p) (drop (from_bool p) (x ∷ y ∷ []))

pub cut-numbers : (e f : Entry) (first last left : ℕ) → (0 < last → left ≡ frames f - last) → (0 < last → last < frames f)
    → take (1 + from_bool (ltb 0 last) - from_bool (eqb first 0)) (drop (from_bool (eqb first 0)) (first ∷ left ∷ [])) ≡ map frames (before e first ++ rest f last)
unfolding front
cut-numbers e f zero zero left is inside =
    let none : eqb 0 0 ≡ true = grind (arith, nat_tests) in
    let end : ltb 0 0 ≡ false = grind (arith, nat_tests) in
    ap (λ p. front p (ltb 0 0) 0 left) none ∙ ap (λ q. front true q 0 left) end
cut-numbers e f zero (suc k) left is inside =
    let none : eqb 0 0 ≡ true = grind (arith, nat_tests) in
    let some : ltb 0 (suc k) ≡ true = grind (arith, nat_tests) in
    ap (λ p. front p (ltb 0 (suc k)) 0 left) none ∙ ap (λ q. front true q 0 left) some ∙ ap (λ n. n ∷ []) (is (omega arith)) ∙ sym (frames-rest f (suc k) (omega arith) (inside (omega arith)))
cut-numbers e f (suc i) zero left is inside =
    let some : eqb (suc i) 0 ≡ false = grind (arith, nat_tests) in
    let end : ltb 0 0 ≡ false = grind (arith, nat_tests) in
    ap (λ p. front p (ltb 0 0) (suc i) left) some ∙ ap (λ q. front false q (suc i) left) end ∙ sym (ap (map frames) (append-nil (before e (suc i))) ∙ frames-before e (suc i) (omega arith))
cut-numbers e f (suc i) (suc k) left is inside =
    let first : eqb (suc i) 0 ≡ false = grind (arith, nat_tests) in
    let some : ltb 0 (suc k) ≡ true = grind (arith, nat_tests) in
    ap (λ p. front p (ltb 0 (suc k)) (suc i) left) first ∙ ap (λ q. front false q (suc i) left) some ∙ ap (λ n. suc i ∷ n ∷ []) (is (omega arith))
    ∙ sym (map-append frames (before e (suc i)) (rest f (suc k)) ∙ ap (λ l. l ++ map frames (rest f (suc k))) (frames-before e (suc i) (omega arith)) ∙ ap (λ l. suc i ∷ l) (frames-rest f (suc k) (omega arith) (inside (omega arith))))

module _ (es : List Entry) (starts given : List ℕ) (from first to last behind : ℕ) (indexed : IsIndexed es starts) (order : from + min first 1 ≤ to) (within : to ≤ length es)
    (there : 0 < last → to < length es) (opens : 0 < first → first < frames (entry_at es from)) (closes : 0 < last → last < frames (entry_at es to))
    (is : behind ≡ to + min last 1) where
  cut-replaced : replaced es from (behind - from) (before (entry_at es from) first ++ rest (entry_at es to) last) ≡ without_part es from first to last
  cut-replaced =
      let place : from + (behind - from) ≡ to + min last 1 = omega arith in
      ap (λ k. take from es ++ ((before (entry_at es from) first ++ rest (entry_at es to) last) ++ drop k es)) place
      ∙ ap (λ l. take from es ++ l) (append_assoc (before (entry_at es from) first) (rest (entry_at es to) last) (drop (to + min last 1) es))

  behind-within : behind ≤ length es
  behind-within = by last is there where
    by : (k : ℕ) → behind ≡ to + min k 1 → (0 < k → to < length es) → behind ≤ length es
    by zero same some = omega arith
    by (suc k) same some = omega (arith, some (omega arith))

  first-entry : All IsEntry (before (entry_at es from) first)
  first-entry = by first opens order where
    by : (k : ℕ) → (0 < k → k < frames (entry_at es from)) → from + min k 1 ≤ to → All IsEntry (before (entry_at es from) k)
    by zero some inside = All-nil IsEntry
    by (suc k) some inside = entries-before (entry_at es from) (suc k) (All-get_or IsEntry es from (Gap 0) (omega arith) indexed.list.entries)

  last-entry : All IsEntry (rest (entry_at es to) last)
  last-entry = by last there closes where
    by : (k : ℕ) → (0 < k → to < length es) → (0 < k → k < frames (entry_at es to)) → All IsEntry (rest (entry_at es to) k)
    by zero some inside = All-nil IsEntry
    by (suc k) some inside = entries-rest (entry_at es to) (suc k) (All-get_or IsEntry es to (Gap 0) (some (omega arith)) indexed.list.entries) inside

  pub cut-are : frames_in (without_part es from first to last) < 2 ^ 31 → given ≡ map frames (before (entry_at es from) first ++ rest (entry_at es to) last)
      → AreNumbers es starts from (behind - from) (before (entry_at es from) first ++ rest (entry_at es to) last) given
  cut-are short numbers =
      numbers_of es starts from (behind - from) (before (entry_at es from) first ++ rest (entry_at es to) last) given indexed.starts (omega (arith, behind-within)) (All-append IsEntry (before (entry_at es from) first) (rest (entry_at es to) last) first-entry last-entry) (omega (arith, ap frames_in cut-replaced)) numbers

  pub cut-left : (after : List ℕ) → frames_in (without_part es from first to last) < 2 ^ 31 → given ≡ map frames (before (entry_at es from) first ++ rest (entry_at es to) last) → after ≡ numbers.replaced starts from (behind - from) given
      → after ≡ map frames (without_part es from first to last)
  cut-left after short numbers after_is = after_is ∙ (cut-are short numbers).are ∙ ap (map frames) cut-replaced

-- the numbers as they are read and cut
pub cut-given : (e f : Entry) (first last left i j : ℕ) → (0 < last → left ≡ frames f - last) → (0 < last → last < frames f) → i ≡ from_bool (eqb first 0) → j ≡ from_bool (ltb 0 last)
    → take (1 + j - i) (drop i (first ∷ left ∷ [])) ≡ map frames (before e first ++ rest f last)
cut-given e f first last left i j is inside is_i is_j = rw (is_i, is_j) (cut-numbers e f first last left is inside)

-- the numbers of what two entries become that overlap
middle : (p q : Bool) (x n y : ℕ) → List ℕ
middle p q x n y = take (2 + from_bool q - from_bool p) (drop (from_bool p) (x ∷ n ∷ y ∷ []))

around : (p q : Bool) → (unit n : ℕ) → (a b : Entry) → List ℕ
around p q unit n a b =
    map frames ((if p then cut a 0 (frames a - n) ∷ [] else []) ++ (clip unit 0 (n - 1) [] ∷ (if q then cut b n (frames b) ∷ [] else [])))

no_less : (k : ℕ) → k - 0 ≡ k
no_less k = omega arith

whole : (n : ℕ) → 1 ≤ n → n - 1 + 1 - 0 ≡ n
whole n some = omega arith

same-around : (p q : Bool) (unit n : ℕ) (a b : Entry) → 1 ≤ n → nat_lt n (frames a) ≡ p → nat_lt n (frames b) ≡ q → middle (not p) q (frames a - n) n (frames b - n) ≡ around p q unit n a b
unfolding middle around
same-around true true unit n a b some left right =
    let first : frames (cut a 0 (frames a - n)) ≡ frames a - n - 0 = frames-cut a 0 (frames a - n) (grind (arith, nat_tests)) in
    let last : frames (cut b n (frames b)) ≡ frames b - n = frames-cut b n (frames b) (grind (arith, nat_tests)) in
    sym (ap (λ k. k ∷ frames (clip unit 0 (n - 1) []) ∷ frames (cut b n (frames b)) ∷ []) (first ∙ no_less (frames a - n)) ∙ ap (λ k. (frames a - n) ∷ k ∷ frames (cut b n (frames b)) ∷ []) (whole n some) ∙ ap (λ k. (frames a - n) ∷ n ∷ k ∷ []) last)
same-around true false unit n a b some left right =
    let first : frames (cut a 0 (frames a - n)) ≡ frames a - n - 0 = frames-cut a 0 (frames a - n) (grind (arith, nat_tests)) in
    sym (ap (λ k. k ∷ frames (clip unit 0 (n - 1) []) ∷ []) (first ∙ no_less (frames a - n)) ∙ ap (λ k. (frames a - n) ∷ k ∷ []) (whole n some))
same-around false true unit n a b some left right =
    let last : frames (cut b n (frames b)) ≡ frames b - n = frames-cut b n (frames b) (grind (arith, nat_tests)) in
    sym (ap (λ k. k ∷ frames (cut b n (frames b)) ∷ []) (whole n some) ∙ ap (λ k. n ∷ k ∷ []) last)
same-around false false unit n a b some left right = sym (ap (λ k. k ∷ []) (whole n some))

none-left : (n f : ℕ) → n ≤ f → eqb (f - n) 0 ≡ not (nat_lt n f)
none-left n f less = by (nat_lt n f) refl where
  by : (t : Bool) → nat_lt n f ≡ t → eqb (f - n) 0 ≡ not t
  by true is = grind (arith, nat_tests)
  by false is = grind (arith, nat_tests)

some-left : (n f : ℕ) → ltb 0 (f - n) ≡ nat_lt n f
some-left n f = by (nat_lt n f) refl where
  by : (t : Bool) → nat_lt n f ≡ t → ltb 0 (f - n) ≡ t
  by true is = grind (arith, nat_tests)
  by false is = grind (arith, nat_tests)

pub mixed-numbers : (unit n : ℕ) (a b : Entry) → 1 ≤ n → n ≤ frames a
    → take (2 + from_bool (ltb 0 (frames b - n)) - from_bool (eqb (frames a - n) 0)) (drop (from_bool (eqb (frames a - n) 0)) ((frames a - n) ∷ n ∷ (frames b - n) ∷ [])) ≡ map frames (mixed_of unit n a b)
unfolding middle around
mixed-numbers unit n a b some first =
    ap (λ p. middle p (ltb 0 (frames b - n)) (frames a - n) n (frames b - n)) (none-left n (frames a) first)
    ∙ ap (λ q. middle (not (nat_lt n (frames a))) q (frames a - n) n (frames b - n)) (some-left n (frames b))
    ∙ same-around (nat_lt n (frames a)) (nat_lt n (frames b)) unit n a b some refl refl

pub mixed-are : (es : List Entry) (starts given : List ℕ) (at n unit : ℕ) → IsIndexed es starts → at + 1 < length es → 1 ≤ n → n ≤ frames (entry_at es at) → n ≤ frames (entry_at es (at + 1))
    → given ≡ map frames (mixed_of unit n (entry_at es at) (entry_at es (at + 1))) → AreNumbers es starts at 2 (mixed_of unit n (entry_at es at) (entry_at es (at + 1))) given
mixed-are es starts given at n unit indexed there some first second numbers =
    let size = mixed-sized es at n unit indexed.list.entries there some first second in
    numbers_of es starts at 2 (mixed_of unit n (entry_at es at) (entry_at es (at + 1))) given indexed.starts (omega arith) (mixed-entries unit n (entry_at es at) (entry_at es (at + 1)) (All-get_or IsEntry es at (Gap 0) (omega arith) indexed.list.entries) (All-get_or IsEntry es (at + 1) (Gap 0) there indexed.list.entries)) (omega (arith, size.summed, indexed.list.short)) numbers

-- the numbers as they are read and cut
pub mixed-given : (es : List Entry) (at n unit : ℕ) (a b : Entry) (fa fb i j : ℕ) → at + 1 < length es → 1 ≤ n → n ≤ frames (entry_at es at) → a ≡ get_or es at a → b ≡ get_or es (at + 1) b
    → fa ≡ frames a → fb ≡ frames b → i ≡ from_bool (eqb (fa - n) 0) → j ≡ from_bool (ltb 0 (fb - n))
    → take (2 + j - i) (drop i ((fa - n) ∷ n ∷ (fb - n) ∷ [])) ≡ map frames (mixed_of unit n (entry_at es at) (entry_at es (at + 1)))
mixed-given es at n unit a b fa fb i j there some first is_a is_b of_a of_b is_i is_j =
    let here : a ≡ entry_at es at = get_or_read es at a (omega arith) is_a (Gap 0) in
    let next : b ≡ entry_at es (at + 1) = get_or_read es (at + 1) b there is_b (Gap 0) in
    rw (is_i, is_j, of_a, of_b, here, next) (mixed-numbers unit n (entry_at es at) (entry_at es (at + 1)) some first)

-- a fact that follows from what a call ensures where it is not refused
pub on_ok : {A E : Type 0} (r : Result A E) (P Q : Type 0) → OnOk r P → (P → Q) → OnOk r Q
on_ok (Ok x) P Q is follows = follows is
on_ok (Err e) P Q is follows = is

-- the numbers of an entry that is cut in two
pub divided-numbers : (e x : Entry) (place from all : ℕ) (between : List Entry) → all ≡ frames x → x ≡ e → 1 ≤ place → from < frames e
    → divided_numbers place between (all - from) ≡ map frames (divided e place from between)
divided-numbers e x place from all between is same some inside =
    let first : frames (cut e 0 place) ≡ place = frames-cut e 0 place some ∙ no_less place in
    let last : frames (cut e from (frames e)) ≡ all - from = frames-cut e from (frames e) inside ∙ ap (λ n. n - from) (sym (is ∙ ap frames same)) in
    sym (ap (λ n. n ∷ map frames (between ++ cut e from (frames e) ∷ [])) first ∙ ap (λ l. place ∷ l) (map-append frames between (cut e from (frames e) ∷ []) ∙ ap (λ n. map frames between ++ n ∷ []) last))

pub divided-are : (es : List Entry) (starts given : List ℕ) (at place from : ℕ) (between : List Entry) → IsIndexed es starts → at < length es → (1 ≤ place) × (place ≤ from) × (from < frames (entry_at es at)) → All IsEntry between
    → frames_in (replaced es at 1 (divided (entry_at es at) place from between)) < 2 ^ 31 → given ≡ map frames (divided (entry_at es at) place from between)
    → AreNumbers es starts at 1 (divided (entry_at es at) place from between) given
divided-are es starts given at place from between indexed there places added short numbers =
    let e : Entry = entry_at es at in
    let is : IsEntry e = All-get_or IsEntry es at (Gap 0) there indexed.list.entries in
    let parts : All IsEntry (divided e place from between) =
    All-cons IsEntry (cut e 0 place) (between ++ cut e from (frames e) ∷ []) (IsEntry-cut e 0 place is places.0) (All-append IsEntry between (cut e from (frames e) ∷ []) added (All-one (cut e from (frames e)) (IsEntry-cut e from (frames e) is places.2))) in
    numbers_of es starts at 1 (divided e place from between) given indexed.starts (omega arith) parts short numbers
