-- Lists of places.
use Rattle.std.proofs.Common.{◌≡◌, ℕ, zero, suc, ◌+◌, ◌-◌, ◌<◌, List, [], ◌∷◌, ◌++◌, map, replicate, get_or, set, Option, Some, None, refl, ap, ◌∙◌, arith}
use Rattle.mlt_raw.specs.Places.{somes}

pub somes-map : {X : Type 0} (xs : List X) → somes (map Some xs) ≡ xs
somes-map [] = refl
somes-map (x ∷ xs) = ap (λ l. x ∷ l) (somes-map xs)

pub somes-replicate : {X : Type 0} (n : ℕ) (x : X) → somes (replicate n (Some x)) ≡ replicate n x
somes-replicate zero x = refl
somes-replicate (suc n) x = ap (λ l. x ∷ l) (somes-replicate n x)

pub all_filled : {X : Type 0} (n : ℕ) (x : X) → replicate n (Some x) ≡ map Some (somes (replicate n (Some x)))
all_filled zero x = refl
all_filled (suc n) x = ap (λ l. Some x ∷ l) (all_filled n x)

-- i places hold x, and m + 1 are empty
written : {X : Type 0} (i m : ℕ) (x : X) → set (replicate i (Some x) ++ None ∷ replicate m None) i (Some x) ≡ replicate (suc i) (Some x) ++ replicate m None
written zero m x = refl
written (suc i) m x = ap (λ l. Some x ∷ l) (written i m x)

empty_there : {X : Type 0} (i : ℕ) (x : X) (rest : List (Option X)) → get_or (replicate i (Some x) ++ None ∷ rest) i None ≡ None
empty_there zero x rest = refl
empty_there (suc i) x rest = empty_there i x rest

module _ {X : Type 0} (n i : ℕ) (x : X) (cs : List (Option X)) (lt : i < n) (is : cs ≡ replicate i (Some x) ++ replicate (n - i) None) where
  at_next : cs ≡ replicate i (Some x) ++ None ∷ replicate (n - (i + 1)) None
  at_next = let e : n - i ≡ suc (n - (i + 1)) = omega arith in is ∙ ap (λ (k : ℕ). replicate i (Some x) ++ replicate k None) e

  pub next_empty : get_or cs i None ≡ None
  next_empty = ap (λ l. get_or l i None) at_next ∙ empty_there i x (replicate (n - (i + 1)) None)

  pub next_written : set cs i (Some x) ≡ replicate (i + 1) (Some x) ++ replicate (n - (i + 1)) None
  next_written = let e : suc i ≡ i + 1 = omega arith in ap (λ l. set l i (Some x)) at_next ∙ written i (n - (i + 1)) x ∙ ap (λ (k : ℕ). replicate k (Some x) ++ replicate (n - (i + 1)) None) e
