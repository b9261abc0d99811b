-- Frames that are taken out of a list.
use Rattle.std.proofs.Common.{◌≡◌, ℕ, zero, suc, ◌+◌, ◌-◌, ◌≤◌, ◌<◌, min, ◌^◌, Bool, true, false, nat_le, nat_lt, ltb, All, List, ◌++◌, length, take, drop, get_or, Ok, inl, inr, ◌⊎◌, refl, sym, ap, subst, ◌∙◌, append_assoc, arith, get_or-drop, length-append, length-take, length-drop}
use Rattle.std.proofs.Math.Seq.{take-suc}
use Rattle.std.proofs.lemmas.Bool.Decides.{nat_tests}
use Rattle.std.proofs.lemmas.List.{drop-drop, take-take}
use Rattle.std.proofs.lemmas.List.Sums.{sum_by_push, sum_by-append, sum_by-take-le}
use Rattle.std.proofs.lemmas.List.Elements.{All-append}
use Rattle.mlt_tree.specs.declared.entry.Entry.{Entry}
use Rattle.mlt_tree.specs.declared.entry.Entry.TheVariants.{Gap}
use Rattle.mlt_tree.specs.Edits.{frames_in, first_frames, frames_from, remove_region}
use Rattle.mlt_tree.specs.Ranges.{IsEntry, frames}
use Rattle.mlt_playlist.specs.Place.{IsAt, before, entry_at, rest}
use Rattle.mlt_playlist.specs.Playlist.{IsCounted}
use Rattle.mlt_playlist.proofs.Counts.{grown-ok}
use Rattle.mlt_playlist.proofs.Frames.{frames_in-first_frames, frames_in-frames_from, entries-first_frames, entries-frames_from}

-- an entry behind those that changed
pub entry_behind : (es one : List Entry) (start to : ℕ) → drop start one ≡ drop start es → start ≤ to → entry_at one to ≡ entry_at es to
entry_behind es one start to same h =
    ap (λ k. entry_at one k) place ∙ sym (get_or-drop start one (to - start) (Gap 0)) ∙ ap (λ l. get_or l (to - start) (Gap 0)) same ∙ get_or-drop start es (to - start) (Gap 0) ∙ ap (λ k. entry_at es k) (sym place)
  where
    place : to ≡ start + (to - start)
    place = omega arith

drop_behind : (es one : List Entry) (start to : ℕ) → drop start one ≡ drop start es → start ≤ to → drop to one ≡ drop to es
drop_behind es one start to same h =
    ap (λ k. drop k one) place ∙ sym (drop-drop (to - start) start one) ∙ ap (drop (to - start)) same ∙ drop-drop (to - start) start es ∙ ap (λ k. drop k es) (sym place)
  where
    place : to ≡ start + (to - start)
    place = omega arith

-- what stays of two entries, without those between them
pub cut_out-is : (es one two three : List Entry) (from first to last start : ℕ) → start ≤ to
    → take start one ≡ take from es ++ before (entry_at es from) first → drop start one ≡ drop start es
    → take to two ≡ take to one → drop to two ≡ rest (entry_at one to) last ++ drop (to + min last 1) one
    → three ≡ take start two ++ drop to two
    → three ≡ take from es ++ (before (entry_at es from) first ++ (rest (entry_at es to) last ++ drop (to + min last 1) es))
cut_out-is es one two three from first to last start h kept same front back all =
    all ∙ ap (λ l. l ++ drop to two) (sym (take-take start to two h) ∙ ap (take start) front ∙ take-take start to one h ∙ kept)
    ∙ append_assoc (take from es) (before (entry_at es from) first) (drop to two)
    ∙ ap (λ l. take from es ++ (before (entry_at es from) first ++ l)) (back
    ∙ ap (λ e. rest e last ++ drop (to + min last 1) one) (entry_behind es one start to same h)
    ∙ ap (λ l. rest (entry_at es to) last ++ l) (drop_behind es one start (to + min last 1) same (omega arith)))

pub length-before : (e : Entry) (k : ℕ) → length (before e k) ≡ min k 1
length-before e zero = refl
length-before e (suc k) =
    let there : ltb 0 (suc k) ≡ true = grind (arith, nat_tests) in
    rw there (omega arith)

pub length-rest : (e : Entry) (k : ℕ) → length (rest e k) ≡ min k 1
length-rest e zero = refl
length-rest e (suc k) =
    let there : ltb 0 (suc k) ≡ true = grind (arith, nat_tests) in
    rw there (omega arith)

-- a later position stands at a later index or at the same
index_order : (es : List Entry) (n m i j p q : ℕ) → n < m → IsAt es n i p → IsAt es m j q → i ≤ j
index_order es n m i j p q h one two = by (nat_lt j i) refl where
  less : q ≤ frames (entry_at es j)
  less = elim (nat_lt 0 q) as (λ t. nat_lt 0 q ≡ t → q ≤ frames (entry_at es j)) [
    | true ↦ λ t.
        let some : 0 < q = grind (arith, nat_tests) in
        omega (arith, two.inside some)
    | false ↦ λ t. grind (arith, nat_tests)
  ] refl

  by : (t : Bool) → nat_lt j i ≡ t → i ≤ j
  by true t =
      let before : j < i = grind (arith, nat_tests) in
      let inside : j < length es = omega (arith, one.within) in
      let next : frames_in (take (suc j) es) ≡ frames_in (take j es) + frames (entry_at es j) =
      ap frames_in (take-suc es j (Gap 0) inside) ∙ sum_by_push frames (take j es) (entry_at es j) in
      let most : frames_in (take (suc j) (take i es)) ≤ frames_in (take i es) = sum_by-take-le frames (take i es) (suc j) in
      let same : frames_in (take (suc j) (take i es)) ≡ frames_in (take (suc j) es) = ap frames_in (take-take (suc j) i es before) in
      absurd (omega (arith, less, one.counted, two.counted))
  by false t = grind (arith, nat_tests)

-- the part that is taken out ends behind where it begins
pub region_order : (es : List Entry) (at n i j p q : ℕ) → (n ≡ 0 → ⊥) → IsAt es at i p → IsAt es (at + n) j q → (i ≡ j × p ≤ 0) ⊎ (i ≡ j → ⊥) → i + min p 1 ≤ j
region_order es at n i j p q some one two (inl w) = omega (arith, w)
region_order es at n i j p q some one two (inr w) =
    let order : i ≤ j = index_order es at (at + n) i j p q (grind arith) one two in
    grind arith

last_place : (es : List Entry) (n i p : ℕ) → IsAt es n i p → p ≡ 0 ⊎ (i < length es)
last_place es n i zero is = inl refl
last_place es n i (suc p) is = inr (is.there (omega arith))

-- a list without a part
pub record IsRemoved (es : List Entry) (at n : ℕ) (now : List Entry) (count : ℕ) : Type 0 where
  pub edit : remove_region at n es ≡ Ok (tt, now)
  pub counted : IsCounted now count

removed-es : (es now : List Entry) (all at n i j p q : ℕ) → IsCounted es all → (n ≡ 0 → ⊥) → at + n ≤ all → IsAt es at i p → IsAt es (at + n) j q → i + min p 1 ≤ j
    → now ≡ take i es ++ (before (entry_at es i) p ++ (rest (entry_at es j) q ++ drop (j + min q 1) es))
    → IsRemoved es at n now (all - n)
removed-es es now all at n i j p q is some inside one two order now_is =
    let has : nat_lt 0 n ≡ true = grind (arith, nat_tests) in
    let ends : nat_le (at + n) (frames_in es) ≡ true = grind (arith, nat_tests, is.counted) in
    let sum : frames_in now ≡ all - n = ap frames_in parts ∙ sum_by-append frames (first_frames es at) (frames_from es (at + n)) ∙ omega (arith, is.counted, frames_in-first_frames es at (omega (arith, is.counted)), frames_in-frames_from es (at + n)) in
    let many : length now ≤ 100000 = omega (arith, ap length now_is, long, is.list.few, one.within, two.within, two.there) in
    let short : frames_in now < 2 ^ 31 = omega (arith, is.list.short, is.counted) in
    record {
      edit = rw (has, ends, ← parts) (grown-ok (tt {0}) now many short);
      counted = record {
        list = record {
          entries = subst (All IsEntry) (sym parts) (All-append IsEntry (first_frames es at) (frames_from es (at + n)) (entries-first_frames es at is.list.entries) (entries-frames_from es (at + n) is.list.entries));
          few = many;
          short = short;
        };
        counted = sym sum;
      };
    }
  where
    parts : now ≡ first_frames es at ++ frames_from es (at + n)
    parts = now_is ∙ sym (append_assoc (take i es) (before (entry_at es i) p) (rest (entry_at es j) q ++ drop (j + min q 1) es)) ∙ ap (λ l. l ++ (rest (entry_at es j) q ++ drop (j + min q 1) es)) (sym one.first) ∙ ap (λ l. first_frames es at ++ l) (sym two.from)

    long : length (take i es ++ (before (entry_at es i) p ++ (rest (entry_at es j) q ++ drop (j + min q 1) es))) ≤ length es
    long =
        let last : q ≡ 0 ⊎ (j < length es) = last_place es (at + n) j q two in
        simp (length-append, length-take, length-drop, length-before, length-rest) (by last)
      where
        by : q ≡ 0 ⊎ (j < length es) → min i (length es) + (min p 1 + (min q 1 + (length es - (j + min q 1)))) ≤ length es
        by (inl none) = omega (arith, none, one.within, two.within)
        by (inr there) = omega (arith, there, one.within, two.within)

-- what is left where a part is taken out
pub removed : (es kept now : List Entry) (all at n i j p q : ℕ) → IsCounted kept all → kept ≡ es → (n ≡ 0 → ⊥) → at + n ≤ all → IsAt es at i p → IsAt es (at + n) j q → (i ≡ j × p ≤ 0) ⊎ (i ≡ j → ⊥)
    → now ≡ take i kept ++ (before (entry_at kept i) p ++ (rest (entry_at kept j) q ++ drop (j + min q 1) kept))
    → IsRemoved es at n now (all - n)
removed es kept now all at n i j p q is same some inside one two apart now_is =
    removed-es es now all at n i j p q (subst (λ l. IsCounted l all) same is) some inside one two (region_order es at n i j p q some one two apart) (subst (λ l. now ≡ take i l ++ (before (entry_at l i) p ++ (rest (entry_at l j) q ++ drop (j + min q 1) l))) same now_is)
