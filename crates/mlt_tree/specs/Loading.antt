-- Reading words, and the files that are looked up on the way.
use Rattle.std.specs.Prelude.{ℕ, List, [], ◌∷◌, ◌++◌, Option, None, Some, Result, Ok, Err}
use Rattle.mlt_tree.specs.declared.refusal.Refusal.{Refusal}

-- the files that words may name, by name
abbrev pub Files : Type 0
Files = List ℕ → Option (List ℕ)

abbrev pub no_files : Files
no_files name = None

-- a file that is looked up: the place of the word that names it, and its name
pub record Load : Type 0 where
  pub place : ℕ
  pub name : List ℕ

-- why reading stops: a word is refused, or a file isn't there that the word at a place names
pub data Stop : Type 0 where
  Refused : Refusal → Stop
  Missing : (place : ℕ) → Stop

-- the files that were looked up, in order, and what came of it
pub record Read (A : Type 0) : Type 0 where
  pub loads : List Load
  pub end : Result A Stop

abbrev pub done : {A : Type 0} → A → Read A
done x = record { loads = []; end = Ok x }

abbrev pub stopped : {A : Type 0} → Stop → Read A
stopped stop = record { loads = []; end = Err stop }

-- what comes of it, behind these files
abbrev pub after : {A : Type 0} → List Load → Read A → Read A
after loads read = record { loads = loads ++ read.loads; end = read.end }

-- a step behind another, unless that has stopped
infixl 10 ◌>>=◌
abbrev pub ◌>>=◌ : {A B : Type 0} → Read A → (A → Read B) → Read B
◌>>=◌ {A} {B} read f = by read.end where
  by : Result A Stop → Read B
  by (Ok x) = after read.loads (f x)
  by (Err stop) = record { loads = read.loads; end = Err stop }

-- a step that looks up no file
abbrev pub plainly : {A : Type 0} → Result A Refusal → Read A
plainly (Ok x) = done x
plainly (Err refusal) = stopped (Refused refusal)

abbrev pub found : ℕ → Option (List ℕ) → Result (List ℕ) Stop
found place None = Err (Missing place)
found place (Some bytes) = Ok bytes

-- the bytes of the file of a name, for the word at a place
abbrev pub look_up : Files → ℕ → List ℕ → Read (List ℕ)
look_up files place name =
    record { loads = record { place = place; name = name } ∷ []; end = found place (files name) }

-- a step for each element in order, up to the first that stops
abbrev pub through : {S X : Type 0} → (S → X → Read S) → S → List X → Read S
through step s [] = done s
through step s (x ∷ xs) = step s x >>= λ t. through step t xs
