-- Ends after numbers were put in place of others.
use Rattle.std.proofs.Common.{◌≡◌, ℕ, ◌+◌, ◌-◌, ◌^◌, ◌<◌, ◌≤◌, List, ◌∷◌, ◌++◌, All, length, take, drop, get_or, map, sum, sym, ap, subst, ◌∙◌, arith}
use Rattle.std.proofs.lemmas.List.Sums.{sum_by-append}
use Rattle.std.proofs.lemmas.List.Elements.{All-append, All-drop, All-take}
use Rattle.mlt_index.specs.Ends.{IsMovable, moved, rewritten}
use Rattle.mlt_index.specs.Starts.{AreEnds, ends_of, numbers_of, replaced}
use Rattle.mlt_index.proofs.EndsOf.{are-ends, drop-ends, ends-append, length-ends, movable-ends, shift-ends, start-ends, take-ends}

-- the kept ends are those of the numbers that are seen
pub kept : (ends ns : List ℕ) → AreEnds ends → numbers_of 0 ends ≡ ns → ends ≡ ends_of 0 ns
kept ends ns are seen = are.are ∙ ap (ends_of 0) seen

-- where the number at an index begins
pub start_is : (ends ns read : List ℕ) (at start : ℕ) → ends ≡ ends_of 0 ns → read ≡ ends → at ≤ length ns → start ≡ get_or (0 ∷ read) at 0 → start ≡ sum (take at ns)
start_is ends ns read at start are same inside is =
    is ∙ ap (λ l. get_or (0 ∷ l) at 0) (same ∙ are) ∙ start-ends 0 ns at inside ∙ omega arith

pub length_is : (ends ns : List ℕ) → ends ≡ ends_of 0 ns → length ends ≡ length ns
length_is ends ns are = ap length are ∙ length-ends 0 ns

pub sum-replaced : (ns : List ℕ) (at removed : ℕ) (new : List ℕ) → sum (replaced ns at removed new) ≡ sum (take at ns) + sum new + sum (drop (at + removed) ns)
sum-replaced ns at removed new =
    sum_by-append (λ n. n) (take at ns) (new ++ drop (at + removed) ns) ∙ omega (arith, sum_by-append (λ n. n) new (drop (at + removed) ns))

-- the ends behind can be moved
pub movable : (ends ns now new : List ℕ) (at removed start behind : ℕ) → ends ≡ ends_of 0 ns → start ≡ sum (take at ns) → behind ≡ sum (take (at + removed) ns)
    → drop (at + length new) now ≡ drop (at + removed) ends → sum (replaced ns at removed new) < 2 ^ 31
    → All (IsMovable behind (start + sum new)) (drop (at + length new) now)
movable ends ns now new at removed start behind are start_at behind_at rest short =
    let ends_behind = rest ∙ ap (drop (at + removed)) are ∙ drop-ends 0 ns (at + removed) in
    let sum_is = sum-replaced ns at removed new in
    subst (All (IsMovable behind (start + sum new))) (sym ends_behind) (movable-ends behind (start + sum new) (0 + sum (take (at + removed) ns)) (drop (at + removed) ns) (omega arith) (omega arith))

-- what is left are the ends of the new list
pub rewritten_is : (ends ns now after new : List ℕ) (at removed start behind : ℕ) → ends ≡ ends_of 0 ns → start ≡ sum (take at ns) → behind ≡ sum (take (at + removed) ns)
    → take at now ≡ take at ends → drop (at + length new) now ≡ drop (at + removed) ends → after ≡ rewritten now at start new behind
    → after ≡ ends_of 0 (replaced ns at removed new)
rewritten_is ends ns now after new at removed start behind are start_at behind_at front rest is =
    let first : take at now ≡ ends_of 0 (take at ns) = front ∙ ap (take at) are ∙ take-ends 0 ns at in
    let begin : 0 + sum (take at ns) ≡ start = omega arith in
    let from : 0 + sum (take (at + removed) ns) ≡ behind = omega arith in
    let last : drop (at + length new) now ≡ ends_of behind (drop (at + removed) ns) =
    rest ∙ ap (drop (at + removed)) are ∙ drop-ends 0 ns (at + removed) ∙ ap (λ p. ends_of p (drop (at + removed) ns)) from in
    let next : behind - behind + (start + sum new) ≡ start + sum new = omega arith in
    let shifted : map (moved behind (start + sum new)) (drop (at + length new) now) ≡ ends_of (start + sum new) (drop (at + removed) ns) =
    ap (map (moved behind (start + sum new))) last ∙ shift-ends behind (start + sum new) behind (drop (at + removed) ns) (omega arith) ∙ ap (λ p. ends_of p (drop (at + removed) ns)) next in
    let tail : ends_of start (new ++ drop (at + removed) ns) ≡ ends_of start new ++ ends_of (start + sum new) (drop (at + removed) ns) = ends-append start new (drop (at + removed) ns) in
    is ∙ ap (λ l. l ++ (ends_of start new ++ map (moved behind (start + sum new)) (drop (at + length new) now))) first
    ∙ ap (λ l. ends_of 0 (take at ns) ++ (ends_of start new ++ l)) shifted
    ∙ sym (ends-append 0 (take at ns) (new ++ drop (at + removed) ns) ∙ ap (λ p. ends_of 0 (take at ns) ++ ends_of p (new ++ drop (at + removed) ns)) begin ∙ ap (λ l. ends_of 0 (take at ns) ++ l) tail)

-- and each number of that is at least 1
pub are-replaced : (ends ns after new : List ℕ) (at removed : ℕ) → AreEnds ends → numbers_of 0 ends ≡ ns → All (λ n. 1 ≤ n) new → sum (replaced ns at removed new) < 2 ^ 31
    → after ≡ ends_of 0 (replaced ns at removed new) → AreEnds after
are-replaced ends ns after new at removed are seen some short is =
    let old : All (λ n. 1 ≤ n) ns = subst (All (λ n. 1 ≤ n)) seen are.some in
    are-ends (replaced ns at removed new) after is (All-append (λ n. 1 ≤ n) (take at ns) (new ++ drop (at + removed) ns) (All-take (λ n. 1 ≤ n) at ns old) (All-append (λ n. 1 ≤ n) new (drop (at + removed) ns) some (All-drop (λ n. 1 ≤ n) (at + removed) ns old))) short
