-- The first frames of a list and those from a position on, by the entry that the position lies in.
use Rattle.std.proofs.Common.{◌≡◌, ℕ, zero, suc, ◌+◌, ◌-◌, ◌<◌, ◌≤◌, min, Bool, true, false, cond, ltb, leb, List, [], ◌∷◌, ◌++◌, length, take, drop, Option, None, Some, unwrap_or, option_map, refl, sym, ap, subst, ◌∙◌, arith}
use Rattle.std.proofs.Math.Numerals.{add-one}
use Rattle.std.proofs.lemmas.Bool.Decides.{nat_tests}
use Rattle.std.proofs.lemmas.List.Sums.{sum_by-cons}
use Rattle.mlt_tree.specs.declared.entry.Entry.{Entry}
use Rattle.mlt_tree.specs.Ranges.{frames}
use Rattle.mlt_tree.specs.Edits.{cut, frames_in, clip_at}
use Rattle.mlt_playlist.specs.Place.{IsAt, entry_at, rest}

-- in the first entry
in_first : (e : Entry) (es : List Entry) (n : ℕ) → n < frames e → IsAt (e ∷ es) n 0 n
in_first e es n h =
    let past : leb (frames e) n ≡ false = grind (arith, nat_tests) in
    record {
      within = omega arith;
      there = λ _. omega arith;
      inside = λ _. h;
      counted = omega arith;
      first = rw past refl;
      from = rw past (by_place n);
    }
  where
    by_place : (k : ℕ) → cond (ltb 0 k) (cut e k (frames e) ∷ es) (e ∷ es) ≡ rest e k ++ drop (0 + min k 1) (e ∷ es)
    by_place zero = refl
    by_place (suc k) =
        let some : ltb 0 (suc k) ≡ true = grind (arith, nat_tests) in
        let one : 0 + min (suc k) 1 ≡ 1 = omega arith in
        rw (some, one) refl

-- behind the first entry
behind_first : (e : Entry) (es : List Entry) (n i p : ℕ) → frames e ≤ n → IsAt es (n - frames e) i p → IsAt (e ∷ es) n (suc i) p
behind_first e es n i p h at =
    let past : leb (frames e) n ≡ true = grind (arith, nat_tests) in
    record {
      within = omega (arith, at.within);
      there = λ some. omega (arith, at.there some);
      inside = at.inside;
      counted = omega (arith, at.counted, sum_by-cons frames e (take i es));
      first = rw past (ap (λ l. e ∷ l) at.first);
      from = rw past (at.from ∙ ap (λ k. rest (entry_at es i) p ++ drop k (e ∷ es)) next);
    }
  where
    next : suc (i + min p 1) ≡ suc i + min p 1
    next = omega arith

-- the entry that has a position, and the place in it; behind the last entry where there is none
abbrev pub place_of : List Entry → ℕ → ℕ × ℕ
place_of es n = unwrap_or (clip_at es n) (length es, 0)

abbrev IsPlace : List Entry → ℕ → ℕ × ℕ → Type 0
IsPlace es n place = IsAt es n place.0 place.1

-- the place that is found
pub at_place : (es : List Entry) (n : ℕ) → n ≤ frames_in es → IsPlace es n (place_of es n)
at_place [] n h =
    record {
      within = omega arith;
      there = λ some. absurd (omega (arith, some));
      inside = λ some. absurd (omega (arith, some));
      counted = omega arith;
      first = refl;
      from = refl;
    }
at_place (e ∷ es) n h = by (λ less. at_place es (n - frames e) less) (ltb n (frames e)) refl where
  behind : frames e ≤ n → (o : Option (ℕ × ℕ)) → IsPlace es (n - frames e) (unwrap_or o (length es, 0)) → IsPlace (e ∷ es) n (unwrap_or (option_map (λ found. (found.0 + 1, found.1)) o) (suc (length es), 0))
  behind past None at = behind_first e es n (length es) 0 past at
  behind past (Some found) at = subst (λ k. IsAt (e ∷ es) n k found.1) (sym (add-one found.0)) (behind_first e es n found.0 found.1 past at)

  by : (n - frames e ≤ frames_in es → IsPlace es (n - frames e) (place_of es (n - frames e))) → (t : Bool) → ltb n (frames e) ≡ t → IsPlace (e ∷ es) n (unwrap_or (cond t (Some (0, n)) (option_map (λ found. (found.0 + 1, found.1)) (clip_at es (n - frames e)))) (suc (length es), 0))
  by later true is = in_first e es n (grind (arith, nat_tests))
  by later false is =
      let past : frames e ≤ n = grind (arith, nat_tests) in
      behind past (clip_at es (n - frames e)) (later (omega (arith, sum_by-cons frames e es)))

-- in an entry, and behind them all
pub place_there : (es : List Entry) (n index place : ℕ) → n ≤ frames_in es → Some (index, place) ≡ clip_at es n → IsAt es n index place
place_there es n index place h is = subst (λ o. IsPlace es n (unwrap_or o (length es, 0))) (sym is) (at_place es n h)

pub place_end : (es : List Entry) (n count : ℕ) → n ≤ frames_in es → count ≡ length es → None ≡ clip_at es n → IsAt es n count 0
place_end es n count h all is = subst (λ k. IsAt es n k 0) (sym all) (subst (λ o. IsPlace es n (unwrap_or o (length es, 0))) (sym is) (at_place es n h))
