-- Two options that have something both or neither.
use Rattle.std.proofs.Common.{◌≡◌, Bool, true, false, cond, Option, None, Some, option_map, refl}
use Rattle.mlt_tree.specs.Meaning.{or_under}

-- neither has something, or both do, and these are related
abbrev pub Both : {A B : Type 0} → (A → B → Type 0) → Option A → Option B → Type 0
Both R None None = Unit {0}
Both R None (Some y) = ⊥
Both R (Some x) None = ⊥
Both R (Some x) (Some y) = R x y

module _ {A B : Type 0} (R : A → B → Type 0) where
  pub both-cond : (t : Bool) (x x' : Option A) (y y' : Option B) → Both R x y → Both R x' y' → Both R (cond t x x') (cond t y y')
  both-cond true x x' y y' first second = first
  both-cond false x x' y y' first second = second

  pub both-or_under : (x x' : Option A) (y y' : Option B) → Both R x y → Both R x' y' → Both R (or_under x x') (or_under y y')
  both-or_under None x' None y' first second = second
  both-or_under None x' (Some y) y' first second = absurd first
  both-or_under (Some x) x' None y' first second = absurd first
  both-or_under (Some x) x' (Some y) y' first second = first

  pub both-map : {C D : Type 0} (S : C → D → Type 0) (f : A → C) (g : B → D) → ((x : A) (y : B) → R x y → S (f x) (g y)) → (x : Option A) (y : Option B) → Both R x y → Both S (option_map f x) (option_map g y)
  both-map S f g each None None h = tt
  both-map S f g each None (Some y) h = absurd h
  both-map S f g each (Some x) None h = absurd h
  both-map S f g each (Some x) (Some y) h = each x y h

  -- what is made of something, whatever it is
  pub both-same : {C : Type 0} (c : C) (x : Option A) (y : Option B) → Both R x y → option_map (λ _. c) y ≡ option_map (λ _. c) x
  both-same c None None h = refl
  both-same c None (Some y) h = absurd h
  both-same c (Some x) None h = absurd h
  both-same c (Some x) (Some y) h = refl
