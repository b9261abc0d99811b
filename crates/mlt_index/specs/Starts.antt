-- Numbers of frames, and where each ends when they stand one after another.
use Rattle.std.specs.Prelude.{ℕ, ◌≡◌, ◌+◌, ◌-◌, ◌^◌, ◌≤◌, ◌<◌, List, [], ◌∷◌, ◌++◌, All, take, drop, sum}

-- where each number ends, if the first begins at a start
abbrev pub ends_of : (start : ℕ) → List ℕ → List ℕ
ends_of start [] = []
ends_of start (n ∷ ns) = (start + n) ∷ ends_of (start + n) ns

-- the numbers that have these ends, if the first begins at a start
abbrev pub numbers_of : (start : ℕ) → List ℕ → List ℕ
numbers_of start [] = []
numbers_of start (end ∷ ends) = (end - start) ∷ numbers_of end ends

-- the list with new numbers in place of so many from an index on
abbrev pub replaced : List ℕ → (at removed : ℕ) → List ℕ → List ℕ
replaced ns at removed new = take at ns ++ (new ++ drop (at + removed) ns)

-- ends of numbers of frames: each number at least 1, and their sum below 2^31
pub record AreEnds (ends : List ℕ) : Type 0 where
  pub are : ends ≡ ends_of 0 (numbers_of 0 ends)
  pub some : All (λ n. 1 ≤ n) (numbers_of 0 ends)
  pub short : sum (numbers_of 0 ends) < 2 ^ 31
