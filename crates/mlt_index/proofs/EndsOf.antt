-- Ends of numbers, and the numbers that have them.
use Rattle.std.proofs.Common.{◌≡◌, ℕ, zero, suc, ◌+◌, ◌-◌, ◌^◌, ◌<◌, ◌≤◌, List, [], ◌∷◌, ◌++◌, All, length, take, drop, get_or, set, map, sum, refl, sym, ap, subst, ◌∙◌, arith}
use Rattle.std.proofs.lemmas.List.{get_or-drop, map_more, take_more, take_more_set}
use Rattle.std.proofs.lemmas.List.Elements.{All-cons, All-head, All-nil, All-tail}
use Rattle.mlt_index.specs.Ends.{IsMovable, moved}
use Rattle.mlt_index.specs.Starts.{AreEnds, ends_of, numbers_of}
use Rattle.mlt_index.proofs.Walked.{sum-cons}

pub numbers-ends : (start : ℕ) (ns : List ℕ) → numbers_of start (ends_of start ns) ≡ ns
numbers-ends start [] = refl
numbers-ends start (n ∷ ns) =
    let first : start + n - start ≡ n = omega arith in
    rw (first, numbers-ends (start + n) ns) refl

pub length-numbers : (start : ℕ) (ends : List ℕ) → length (numbers_of start ends) ≡ length ends
length-numbers start [] = refl
length-numbers start (end ∷ ends) = ap suc (length-numbers end ends)

pub length-ends : (start : ℕ) (ns : List ℕ) → length (ends_of start ns) ≡ length ns
length-ends start [] = refl
length-ends start (n ∷ ns) = ap suc (length-ends (start + n) ns)

-- where the number at an index begins
pub start-ends : (start : ℕ) (ns : List ℕ) (k : ℕ) → k ≤ length ns → get_or (start ∷ ends_of start ns) k 0 ≡ start + sum (take k ns)
start-ends start ns zero inside = omega arith
start-ends start [] (suc k) inside = absurd (omega arith)
start-ends start (n ∷ ns) (suc k) inside = start-ends (start + n) ns k (omega arith) ∙ omega (arith, sum-cons n (take k ns))

-- the ends of the first numbers, and of those behind
pub take-ends : (start : ℕ) (ns : List ℕ) (k : ℕ) → take k (ends_of start ns) ≡ ends_of start (take k ns)
take-ends start ns zero = refl
take-ends start [] (suc k) = refl
take-ends start (n ∷ ns) (suc k) = ap (λ l. (start + n) ∷ l) (take-ends (start + n) ns k)

pub drop-ends : (start : ℕ) (ns : List ℕ) (k : ℕ) → drop k (ends_of start ns) ≡ ends_of (start + sum (take k ns)) (drop k ns)
drop-ends start ns zero = ap (λ p. ends_of p ns) (omega arith)
drop-ends start [] (suc k) = refl
drop-ends start (n ∷ ns) (suc k) =
    drop-ends (start + n) ns k ∙ ap (λ p. ends_of p (drop k ns)) (omega (arith, sum-cons n (take k ns)))

pub ends-append : (start : ℕ) (ns ms : List ℕ) → ends_of start (ns ++ ms) ≡ ends_of start ns ++ ends_of (start + sum ns) ms
ends-append start [] ms = ap (λ p. ends_of p ms) (omega arith)
ends-append start (n ∷ ns) ms =
    let sum_is : start + n + sum ns ≡ start + sum (n ∷ ns) = omega (arith, sum-cons n ns) in
    ap (λ l. (start + n) ∷ l) (ends-append (start + n) ns ms ∙ ap (λ p. ends_of (start + n) ns ++ ends_of p ms) sum_is)

-- the same numbers from another start on
pub shift-ends : (from to start : ℕ) (ns : List ℕ) → from ≤ start → map (moved from to) (ends_of start ns) ≡ ends_of (start - from + to) ns
shift-ends from to start [] behind = refl
shift-ends from to start (n ∷ ns) behind =
    let first : start + n - from + to ≡ start - from + to + n = omega arith in
    rw first (ap (λ l. (start - from + to + n) ∷ l) (shift-ends from to (start + n) ns (omega arith) ∙ ap (λ p. ends_of p ns) first))

-- an end lies between the start and the sum
pub end-bounds : (start : ℕ) (ns : List ℕ) (k : ℕ) → k < length ns → (start ≤ get_or (ends_of start ns) k 0) × (get_or (ends_of start ns) k 0 ≤ start + sum ns)
end-bounds start [] k inside = absurd (omega arith)
end-bounds start (n ∷ ns) zero inside = (omega arith, omega (arith, sum-cons n ns))
end-bounds start (n ∷ ns) (suc k) inside =
    let behind = end-bounds (start + n) ns k (omega arith) in
    (omega (arith, behind), omega (arith, behind, sum-cons n ns))

-- no more numbers than frames
pub length-sum : (ns : List ℕ) → All (λ n. 1 ≤ n) ns → length ns ≤ sum ns
length-sum [] some = omega arith
length-sum (n ∷ ns) some =
    omega (arith, All-head (λ n. 1 ≤ n) n ns some, length-sum ns (All-tail (λ n. 1 ≤ n) n ns some), sum-cons n ns)

-- such ends are those of any numbers that are at least 1 and have few frames together
pub are-ends : (ns ends : List ℕ) → ends ≡ ends_of 0 ns → All (λ n. 1 ≤ n) ns → sum ns < 2 ^ 31 → AreEnds ends
are-ends ns ends are some short =
    let numbers : numbers_of 0 ends ≡ ns = ap (numbers_of 0) are ∙ numbers-ends 0 ns in
    record {
      are = are ∙ sym (ap (ends_of 0) numbers);
      some = subst (All (λ n. 1 ≤ n)) (sym numbers) some;
      short = omega (arith, ap sum numbers);
    }

-- one end more is written
pub written-more : (start last i : ℕ) (es frames : List ℕ) → i < length es → i < length frames → take i es ≡ ends_of start (take i frames) → last ≡ start + sum (take i frames)
    → take (i + 1) (set es i (last + get_or frames i 0)) ≡ ends_of start (take (i + 1) frames)
written-more start last i es frames inside there written last_is =
    let next = get_or frames i 0 in
    take_more_set es i (last + next) inside ∙ ap (λ l. l ++ (last + next) ∷ []) written ∙ ap (λ p. ends_of start (take i frames) ++ (p + next) ∷ []) last_is
    ∙ sym (ap (ends_of start) (take_more frames i 0 there) ∙ ends-append start (take i frames) (next ∷ []))

-- one end more is moved
pub shifted-more : (from to k : ℕ) (es old : List ℕ) → k < length es → k < length old → take k es ≡ map (moved from to) (take k old) → get_or es k 0 ≡ get_or old k 0
    → take (k + 1) (set es k (get_or es k 0 - from + to)) ≡ map (moved from to) (take (k + 1) old)
shifted-more from to k es old inside there front same =
    take_more_set es k (get_or es k 0 - from + to) inside ∙ ap (λ l. l ++ (get_or es k 0 - from + to) ∷ []) front ∙ ap (λ e. map (moved from to) (take k old) ++ (e - from + to) ∷ []) same
    ∙ sym (map_more (moved from to) old k 0 there)

-- the first of those that are as they were
pub same-first : (i : ℕ) (es old : List ℕ) → drop i es ≡ drop i old → get_or es i 0 ≡ get_or old i 0
same-first i es old same =
    ap (λ k. get_or es k 0) (omega arith) ∙ sym (get_or-drop i es 0 0) ∙ ap (λ l. get_or l 0 0) same ∙ get_or-drop i old 0 0 ∙ ap (λ k. get_or old k 0) (omega arith)

-- each end behind a place is as far behind it as its number's and the earlier ones come to
pub movable-ends : (from to start : ℕ) (ns : List ℕ) → from ≤ start → start - from + to + sum ns < 2 ^ 31 → All (IsMovable from to) (ends_of start ns)
movable-ends from to start [] behind short = All-nil (IsMovable from to)
movable-ends from to start (n ∷ ns) behind short =
    let sum_is = sum-cons n ns in
    All-cons (IsMovable from to) (start + n) (ends_of (start + n) ns) (omega arith, omega arith) (movable-ends from to (start + n) ns (omega arith) (omega arith))
