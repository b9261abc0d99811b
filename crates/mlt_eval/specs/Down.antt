-- Registers by their numbers: how a list of them is read from a function, and what one operation changes.
use Rattle.std.specs.Prelude.{◌≡◌, ◌≢◌, ℕ, ◌<◌, zero, suc, List, [], ◌∷◌, Option, None, Some}

-- what f gives below a number, the highest first
abbrev pub down : {A : Type 0} → (ℕ → A) → ℕ → List A
down f zero = []
down f (suc n) = f n ∷ down f n

-- g gives what f gives, but x at k
pub record IsPut {A : Type 0} (f g : ℕ → A) (k : ℕ) (x : A) : Type 0 where
  pub here : g k ≡ x
  pub others : (j : ℕ) → j ≢ k → g j ≡ f j

-- below n, g gives what f gives, but at a what a merge makes of that and z, and at b nothing
pub record IsMoved {A : Type 0} (n : ℕ) (merge : Option A → A → A) (f g : ℕ → Option A) (a b : ℕ) (z : A) : Type 0 where
  pub into : g a ≡ Some (merge (f a) z)
  pub gone : g b ≡ None
  pub others : (j : ℕ) → j < n → j ≢ a → j ≢ b → g j ≡ f j

-- the same with what f gives at b: where that is nothing, below n nothing is changed
abbrev pub IsMerged : {A : Type 0} → (n : ℕ) → (Option A → A → A) → (f g : ℕ → Option A) → (a b : ℕ) → Option A → Type 0
IsMerged n merge f g a b None = (j : ℕ) → j < n → g j ≡ f j
IsMerged n merge f g a b (Some z) = IsMoved n merge f g a b z
