-- Files that words look up, tried on a small list: each line is checked by computing both of its sides.
use Rattle.std.specs.Prelude.{ℕ, ◌≡◌, ◌+◌, refl, if◌then◌else◌, List, [], ◌∷◌, None, Some, Err, Ok, codes}
use Rattle.std.specs.Str.{bytes_eq}
use Rattle.mlt_tree.specs.Loading.{Files, Load, Read, Missing, done, look_up, through, ◌>>=◌}

-- one file, of two bytes
abbrev one_file : Files
one_file name = if bytes_eq name (codes "a") then Some (1 ∷ 2 ∷ []) else None

-- files by name, each for the word of its own place, whose bytes are counted
abbrev by_name : ℕ × List ℕ → ℕ → Read ℕ
by_name word total = look_up one_file word.0 word.1 >>= λ bytes. done (total + 2)

abbrev load : ℕ → List ℕ → Load
load place name = record { place = place; name = name }

-- each time a word names a file it is looked up, and the first that isn't there ends the reading
first_missing : through (λ total word. by_name word total) 0 ((4, codes "a") ∷ (5, codes "a") ∷ (6, codes "b") ∷ (7, codes "a") ∷ []) ≡ record { loads = load 4 (codes "a") ∷ load 5 (codes "a") ∷ load 6 (codes "b") ∷ []; end = Err (Missing 6) }
first_missing = refl

all_there : through (λ total word. by_name word total) 0 ((4, codes "a") ∷ (5, codes "a") ∷ []) ≡ record { loads = load 4 (codes "a") ∷ load 5 (codes "a") ∷ []; end = Ok 4 }
all_there = refl
