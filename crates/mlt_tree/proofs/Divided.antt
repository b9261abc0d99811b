-- Where a word is divided, by its first `=`.
use Rattle.std.proofs.Common.{◌≡◌, ℕ, ◌+◌, ◌≤◌, Bool, true, false, cond, not, ltb, suc, ◌||◌, List, [], ◌∷◌, ◌++◌, length, take, drop, Option, None, Some, unwrap_or, refl, sym, ap, ◌∙◌, arith, length-append}
use Rattle.std.specs.List.{position_or_len, before_first, after_first, list_any}
use Rattle.std.specs.Str.{byte}
use Rattle.std.proofs.lemmas.Bool.Decides.{nat_tests}
use Rattle.mlt_tree.specs.Words.{divided}
use Rattle.mlt_tree.specs.GroupWords.{has_equals, is_equals}
use Rattle.mlt_tree.proofs.Options.{nothing_found}

module _ {X : Type 0} (p : X → Bool) where
  -- none before the first passes
  pub before_none : (xs : List X) → list_any p (before_first p xs) ≡ false
  before_none [] = refl
  before_none (x ∷ xs) = by (p x) refl (before_none xs) where
    by : (b : Bool) → p x ≡ b → list_any p (before_first p xs) ≡ false → list_any p (take (cond (not b) (1 + position_or_len p xs) 0) (x ∷ xs)) ≡ false
    by true is later = refl
    by false is later =
        let next : 1 + position_or_len p xs ≡ suc (position_or_len p xs) = omega arith in
        rw (next, is) later

  -- where the first that passes would be the end, none passes
  pub none_passes : (xs : List X) → length xs ≤ position_or_len p xs → list_any p xs ≡ false
  none_passes [] h = refl
  none_passes (x ∷ xs) h = by (p x) refl h (none_passes xs) where
    by : (b : Bool) → p x ≡ b → length (x ∷ xs) ≤ cond (not b) (1 + position_or_len p xs) 0 → (length xs ≤ position_or_len p xs → list_any p xs ≡ false) → list_any p (x ∷ xs) ≡ false
    by true is h later = absurd (omega arith)
    by false is h later = rw is (later (omega arith))

  -- where none passes, the first that would is the end
  pub position_of_none : (xs : List X) → list_any p xs ≡ false → position_or_len p xs ≡ length xs
  position_of_none [] h = refl
  position_of_none (x ∷ xs) h = by (p x) h (position_of_none xs) where
    by : (b : Bool) → (b || list_any p xs) ≡ false → (list_any p xs ≡ false → position_or_len p xs ≡ length xs) → cond (not b) (1 + position_or_len p xs) 0 ≡ length (x ∷ xs)
    by true h later = absurd (grind arith)
    by false h later = let rest = later h in omega arith

  -- behind those that don't pass, the next that does is the first
  pub position_behind : (xs : List X) (y : X) (ys : List X) → list_any p xs ≡ false → p y ≡ true → position_or_len p (xs ++ y ∷ ys) ≡ length xs
  position_behind [] y ys h is = rw is refl
  position_behind (x ∷ xs) y ys h is = by (p x) h (position_behind xs y ys) where
    by : (b : Bool) → (b || list_any p xs) ≡ false → (list_any p xs ≡ false → p y ≡ true → position_or_len p (xs ++ y ∷ ys) ≡ length xs) → cond (not b) (1 + position_or_len p (xs ++ y ∷ ys)) 0 ≡ length (x ∷ xs)
    by true h later = absurd (grind arith)
    by false h later = let rest = later h is in omega arith

take_front : {X : Type 0} → (xs ys : List X) → take (length xs) (xs ++ ys) ≡ xs
take_front [] ys = refl
take_front (x ∷ xs) ys = ap (λ zs. x ∷ zs) (take_front xs ys)

drop_front : {X : Type 0} → (xs : List X) (y : X) (ys : List X) → drop (suc (length xs)) (xs ++ y ∷ ys) ≡ ys
drop_front [] y ys = refl
drop_front (x ∷ xs) y ys = drop_front xs y ys

-- what stands before a place, and what behind it, where the word goes so far
abbrev divided_at : List ℕ → ℕ → Bool → Option (List ℕ × List ℕ)
divided_at word n within = cond within (Some (take n word, drop (n + 1) word)) None

-- a name without `=`, a `=` and a value are divided into the name and the value
pub divided-prop : (name value : List ℕ) → has_equals name ≡ false → divided (name ++ (byte "=" ∷ value)) ≡ Some (name, value)
divided-prop name value h = by (position_or_len is_equals word) (position_behind is_equals name (byte "=") value h refl) where
  word : List ℕ
  word = name ++ (byte "=" ∷ value)

  by : (n : ℕ) → n ≡ length name → divided_at word n (ltb n (length word)) ≡ Some (name, value)
  by n is =
      let within : ltb n (length word) ≡ true = grind (arith, nat_tests, length-append {A = ℕ}) in
      let next : n + 1 ≡ suc (length name) = omega arith in
      rw (within, next, is, take_front name (byte "=" ∷ value), drop_front name (byte "=") value) refl

-- a word without `=` isn't divided
pub divided-none : (word : List ℕ) → has_equals word ≡ false → divided word ≡ None
divided-none word h =
    let end : position_or_len is_equals word ≡ length word = position_of_none is_equals word h in
    let past : ltb (position_or_len is_equals word) (length word) ≡ false = grind (arith, nat_tests) in
    rw past refl

-- a word that isn't divided has no `=`
pub undivided-none : (word : List ℕ) → divided word ≡ None → has_equals word ≡ false
undivided-none word h = by (ltb (position_or_len is_equals word) (length word)) refl h where
  by : (b : Bool) → ltb (position_or_len is_equals word) (length word) ≡ b → divided_at word (position_or_len is_equals word) b ≡ None → has_equals word ≡ false
  by true is h = absurd (nothing_found _ (sym h))
  by false is h = none_passes is_equals word (grind (arith, nat_tests, is))

-- nor has the name of one that is
pub undivided-name : (word : List ℕ) (parts : List ℕ × List ℕ) → divided word ≡ Some parts → has_equals parts.0 ≡ false
undivided-name word parts h = by (ltb (position_or_len is_equals word) (length word)) h where
  by : (b : Bool) → divided_at word (position_or_len is_equals word) b ≡ Some parts → has_equals parts.0 ≡ false
  by true h =
      let same : (before_first is_equals word, after_first is_equals word) ≡ parts = ap (λ o. unwrap_or o parts) h in
      sym (ap (λ q. has_equals q.0) same) ∙ before_none is_equals word
  by false h = absurd (nothing_found parts h)
