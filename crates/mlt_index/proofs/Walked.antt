-- What a walk along numbers finds, by the sums of the first of them.
use Rattle.std.proofs.Common.{◌≡◌, ℕ, zero, suc, ◌+◌, ◌-◌, ◌<◌, ◌≤◌, true, false, ltb, List, [], ◌∷◌, length, take, sum, None, Some, refl, ap, arith}
use Rattle.std.proofs.Math.Numerals.{add-one}
use Rattle.std.proofs.lemmas.Bool.Decides.{nat_tests}
use Rattle.std.proofs.lemmas.List.Sums.{sum_by-cons}
use Rattle.mlt_base.specs.Walk.{walk}

-- the sum of one number more
pub sum-cons : (n : ℕ) (ns : List ℕ) → sum (n ∷ ns) ≡ n + sum ns
sum-cons n ns = sum_by-cons (λ x. x) n ns

-- the number that a position falls into
pub walk-within : (ns : List ℕ) (k at : ℕ) → k < length ns → sum (take k ns) ≤ at → at < sum (take (suc k) ns) → walk ns at ≡ Some (k, at - sum (take k ns))
walk-within [] k at inside reached before = absurd (omega arith)
walk-within (n ∷ ns) zero at inside reached before =
    let less : ltb at n ≡ true = grind (arith, nat_tests) in
    rw less (ap (λ p. Some (0, p)) (omega arith))
walk-within (n ∷ ns) (suc k) at inside reached before =
    let sum_is = sum-cons n (take k ns) in
    let next_is = sum-cons n (take (suc k) ns) in
    let past : ltb at n ≡ false = grind (arith, nat_tests) in
    let found = walk-within ns k (at - n) (omega arith) (omega arith) (omega arith) in
    let place : at - n - sum (take k ns) ≡ at - sum (n ∷ take k ns) = omega arith in
    rw (past, found, add-one k, place) refl

-- past all of them
pub walk-past : (ns : List ℕ) (at : ℕ) → sum ns ≤ at → walk ns at ≡ None
walk-past [] at past = refl
walk-past (n ∷ ns) at past =
    let sum_is = sum-cons n ns in
    let not_here : ltb at n ≡ false = grind (arith, nat_tests) in
    let none = walk-past ns (at - n) (omega arith) in
    rw (not_here, none) refl
