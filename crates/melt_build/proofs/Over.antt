-- A step for each element, as a loop takes them.
use Rattle.std.proofs.Common.{ℕ, ◌≡◌, ◌+◌, ◌<◌, ◌≤◌, List, ◌∷◌, length, get_or, drop, Result, Ok, Err, refl, ap, ◌∙◌, add-one, drop-cons}
use Rattle.std.proofs.lemmas.List.{drop_all}
use Rattle.mlt_tree.specs.declared.refusal.Refusal.{Refusal}
use Rattle.mlt_base.specs.Steps.{◌>>=◌}
use Rattle.mlt_tree.specs.Refusing.{over}

pub next_is : {X : Type 0} (xs : List X) (i : ℕ) (x : X) → i < length xs → x ≡ get_or xs i x → drop i xs ≡ x ∷ drop (i + 1) xs
next_is xs i x below here = rw (drop-cons xs i x, ← here, add-one) refl

-- one element more
pub over_more : {S X : Type 0} (step : S → X → Result S Refusal) (s t : S) (xs : List X) (i : ℕ) (x : X) → i < length xs → x ≡ get_or xs i x → step s x ≡ Ok t → over step s (drop i xs) ≡ over step t (drop (i + 1) xs)
over_more step s t xs i x below here ok =
    ap (over step s) (next_is xs i x below here) ∙ ap (λ r. r >>= λ u. over step u (drop (i + 1) xs)) ok

-- a refusal
pub over_fail : {S X : Type 0} (step : S → X → Result S Refusal) (s : S) (xs : List X) (i : ℕ) (x : X) (refusal : Refusal) → i < length xs → x ≡ get_or xs i x → step s x ≡ Err refusal → over step s (drop i xs) ≡ Err refusal
over_fail step s xs i x refusal below here fail =
    ap (over step s) (next_is xs i x below here) ∙ ap (λ r. r >>= λ u. over step u (drop (i + 1) xs)) fail

-- the end
pub over_done : {S X : Type 0} (step : S → X → Result S Refusal) (s : S) (xs : List X) (i : ℕ) → length xs ≤ i → over step s (drop i xs) ≡ Ok s
over_done step s xs i past = ap (over step s) (drop_all i xs past)
