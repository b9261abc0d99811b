-- What a merge makes of the blocks of two registers.
use Rattle.std.proofs.Common.{◌≡◌, ℕ, ◌+◌, ◌-◌, ◌<◌, List, [], ◌++◌, All, length, take, get_or, set, Option, IfSome, refl, sym, ap, ◌∙◌, subst, arith}
use Rattle.std.proofs.lemmas.List.{get_or_append_left, get_or_default, get_or-append_right, get_or-set_same, set-append_right, length-append}
use Rattle.std.proofs.lemmas.List.Elements.{All-set}
use Rattle.mlt_eval.specs.declared.register.Register.{Register}
use Rattle.mlt_eval.specs.declared.register.Register.TheVariants.{Nothing}
use Rattle.mlt_tree.specs.Show.{Fit}
use Rattle.mlt_eval.specs.Registers.{held, register}

-- a block behind some others is changed
pub put_high : {A : Type 0} (front back : List A) (x : A) → front ++ set back 0 x ≡ set (front ++ back) (length front) x
put_high front back x =
    let first : length front - length front ≡ 0 = omega arith in
    ap (λ (i : ℕ). front ++ set back i x) (sym first) ∙ sym (set-append_right front back (length front) (length front) x refl (omega arith))

-- all are as long as before
pub high_sized : (n : ℕ) (all front back : List (List ℕ)) (x y : List ℕ) → all ≡ front ++ back → All (λ block. length block ≡ n) all → 0 < length back
    → length x ≡ length (get_or back 0 y) → All (λ block. length block ≡ n) (front ++ set back 0 x)
high_sized n all front back x y is sizes some same =
    let none : length front - length front ≡ 0 = omega arith in
    let there : get_or all (length front) y ≡ get_or back 0 y = ap (λ l. get_or l (length front) y) is
    ∙ get_or-append_right front back (length front) (length front) y refl (omega arith) ∙ ap (λ i. get_or back i y) none in
    let long : length all ≡ length front + length back = ap length is ∙ length-append front back in
    let own : length x ≡ n = same ∙ sym (ap length there) ∙ sizes (length front) y (omega (arith, long, some)) in
    subst (λ (l : List (List ℕ)). All (λ block. length block ≡ n) l) (sym (put_high front back x))
    (All-set (λ (block : List ℕ). length block ≡ n) (front ++ back) (length front) x own (subst (λ (l : List (List ℕ)). All (λ block. length block ≡ n) l) is sizes))

module _ (bytes : ℕ) (fits : List Fit) (states : List Register) (merge : Option (List ℕ) → List ℕ → List ℕ) where
  -- a block was merged into one behind it
  pub high_merged : (all front back : List (List ℕ)) (x y z : List ℕ) (a b : ℕ) → all ≡ front ++ back → length front ≡ a → b < a → 0 < length back
      → IfSome (held bytes fits (get_or front b z) (get_or states b Nothing)) (λ above. take bytes x ≡ merge (held bytes fits (get_or back 0 y) (get_or states a Nothing)) above)
      → IfSome (register bytes fits all states b) (λ above. take bytes (get_or (front ++ set back 0 x) a []) ≡ merge (register bytes fits all states a) above)
  high_merged all front back x y z a b is long lt some into =
      let new : get_or (front ++ set back 0 x) a [] ≡ x = ap (λ l. get_or l a []) (put_high front back x) ∙ ap (λ i. get_or (set (front ++ back) i x) a []) long
      ∙ get_or-set_same (front ++ back) a x [] (simp length-append (omega (arith, long, some))) in
      let above : get_or all b [] ≡ get_or front b z = ap (λ l. get_or l b []) is ∙ get_or_append_left front back [] b (omega (arith, long, lt))
      ∙ get_or_default front b [] z (omega (arith, long, lt)) in
      let none : a - a ≡ 0 = omega arith in
      let under : get_or all a [] ≡ get_or back 0 y = ap (λ l. get_or l a []) is ∙ get_or-append_right front back a a [] long (omega arith) ∙ ap (λ i. get_or back i []) none
      ∙ get_or_default back 0 [] y some in
      rw (new, above, under) into
