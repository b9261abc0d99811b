-- Where a text leaves a grammar, said for any grammar.
use Rattle.std.specs.Prelude.{ℕ, ◌+◌, ◌<◌, ◌≤◌, List, ◌++◌, length, take}

-- the texts of a grammar, whatever they mean
abbrev pub Texts : {X : Type 0} → (List ℕ → X → Type 0) → List ℕ → Type 0
Texts Is text = (x : _) × Is text x

-- some good text begins so
abbrev pub Begins : (List ℕ → Type 0) → List ℕ → Type 0
Begins Good front = (rest : List ℕ) × Good (front ++ rest)

-- the text can't go on at this place: what stands before it begins a good text, and with one more byte it
-- begins none; at the text's end it is itself no good one
pub record StopsAt (Good : List ℕ → Type 0) (text : List ℕ) (at : ℕ) : Type 0 where
  pub within : at ≤ length text
  pub before : Begins Good (take at text)
  pub behind : at < length text → ¬ Begins Good (take (at + 1) text)
  pub unfinished : ¬ Good text

-- the first place of which this is said
abbrev pub First : (ℕ → Type 0) → ℕ → Type 0
First Says at = Says at × ((k : ℕ) → Says k → at ≤ k)
