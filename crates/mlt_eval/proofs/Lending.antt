-- Blocks that are lent or brought home one by one are lent or brought together.
use Rattle.std.proofs.Common.{◌≡◌, ℕ, zero, suc, ◌+◌, ◌-◌, ◌<◌, ◌≤◌, List, [], ◌∷◌, ◌++◌, All, length, get_or, refl, sym, ap, ◌∙◌, subst, inl, inr, ◌⊎◌, arith}
use Rattle.std.proofs.lemmas.List.{get_or-set_same, set-get_or, set-set, set_past}
use Rattle.std.proofs.lemmas.List.Elements.{All-append}
use Rattle.std.proofs.lemmas.Bool.{cases_lt}
use Rattle.mlt_eval.specs.Lending.{AreLent}
use Rattle.mlt_pool.specs.Counts.{Counts, at, with_at, home_of, lent_of, lent_out, brought, IsOneLent}

module _ (class : ℕ) where
  -- no block was lent yet
  pub lent_none : (pool : Counts) → AreLent class 0 pool pool
  lent_none pool = record {
    home = omega arith;
    lent = omega arith;
    all = omega arith;
    others = λ other in_class differs. (refl, refl);
    reserved = λ any in_class. refl;
  }

  -- one more is lent
  pub lent_more : (n : ℕ) (first second third : Counts) → AreLent class n first second → IsOneLent class second third → AreLent class (n + 1) first third
  lent_more n first second third so_far one = record {
    home = omega (arith, so_far.home, one.home);
    lent = omega (arith, so_far.lent, one.lent);
    all = omega (arith, so_far.all, one.all);
    others = λ other in_class differs. (
      (one.others other in_class differs).0 ∙ (so_far.others other in_class differs).0,
      (one.others other in_class differs).1 ∙ (so_far.others other in_class differs).1,
    );
    reserved = λ any in_class. one.reserved any in_class ∙ so_far.reserved any in_class;
  }

  -- one more came home
  pub home_more : (n : ℕ) (first second third : Counts) → IsOneLent class first second → AreLent class n second third → AreLent class (n + 1) first third
  home_more n first second third one so_far = record {
    home = omega (arith, so_far.home, one.home);
    lent = omega (arith, so_far.lent, one.lent);
    all = omega (arith, so_far.all, one.all);
    others = λ other in_class differs. (
      (so_far.others other in_class differs).0 ∙ (one.others other in_class differs).0,
      (so_far.others other in_class differs).1 ∙ (one.others other in_class differs).1,
    );
    reserved = λ any in_class. so_far.reserved any in_class ∙ one.reserved any in_class;
  }

  -- a number that is changed twice; outside the list nothing is changed
  changed_twice : (xs : List ℕ) (f g h : ℕ → ℕ) → g (f (at class xs)) ≡ h (at class xs) → (class - 12 < length xs) ⊎ (length xs ≤ class - 12)
      → with_at class (g (at class (with_at class (f (at class xs)) xs))) (with_at class (f (at class xs)) xs) ≡ with_at class (h (at class xs)) xs
  changed_twice xs f g h e (inl lt) =
      set-set xs (class - 12) (f (at class xs)) (g (at class (with_at class (f (at class xs)) xs)))
      ∙ ap (λ (n : ℕ). with_at class n xs) (ap g (get_or-set_same xs (class - 12) (f (at class xs)) 0 lt) ∙ e)
  changed_twice xs f g h e (inr le) =
      let once : with_at class (f (at class xs)) xs ≡ xs = set_past xs (class - 12) (f (at class xs)) le in
      set_past (with_at class (f (at class xs)) xs) (class - 12) (g (at class (with_at class (f (at class xs)) xs))) (omega (arith, le, ap length once)) ∙ once
      ∙ sym (set_past xs (class - 12) (h (at class xs)) le)

  inside : (xs : List ℕ) → (class - 12 < length xs) ⊎ (length xs ≤ class - 12)
  inside xs = cases_lt (class - 12) (length xs)

  module _ (pool : Counts) where
    pub lent_out_none : lent_out class 0 pool ≡ pool
    lent_out_none =
        let eh : home_of pool class - 0 ≡ home_of pool class = omega arith in let el : lent_of pool class + 0 ≡ lent_of pool class = omega arith in
        λ i. record {
          home = (ap (λ (n : ℕ). with_at class n pool.home) eh ∙ set-get_or pool.home (class - 12) 0) i;
          lent = (ap (λ (n : ℕ). with_at class n pool.lent) el ∙ set-get_or pool.lent (class - 12) 0) i;
        }

    pub lent_out_more : (n : ℕ) → lent_out class 1 (lent_out class n pool) ≡ lent_out class (n + 1) pool
    lent_out_more n = λ i. record {
      home = changed_twice pool.home (λ x. x - n) (λ x. x - 1) (λ x. x - (n + 1)) (omega arith) (inside pool.home) i;
      lent = changed_twice pool.lent (λ x. x + n) (λ x. x + 1) (λ x. x + (n + 1)) (omega arith) (inside pool.lent) i;
    }

    pub brought_none : brought class 0 pool ≡ pool
    brought_none =
        let eh : home_of pool class + 0 ≡ home_of pool class = omega arith in let el : lent_of pool class - 0 ≡ lent_of pool class = omega arith in
        λ i. record {
          home = (ap (λ (n : ℕ). with_at class n pool.home) eh ∙ set-get_or pool.home (class - 12) 0) i;
          lent = (ap (λ (n : ℕ). with_at class n pool.lent) el ∙ set-get_or pool.lent (class - 12) 0) i;
        }

    pub brought_more : (n : ℕ) → brought class 1 (brought class n pool) ≡ brought class (n + 1) pool
    brought_more n = λ i. record {
      home = changed_twice pool.home (λ x. x + n) (λ x. x + 1) (λ x. x + (n + 1)) (omega arith) (inside pool.home) i;
      lent = changed_twice pool.lent (λ x. x - n) (λ x. x - 1) (λ x. x - (n + 1)) (omega arith) (inside pool.lent) i;
    }

module _ (n : ℕ) where
  -- one block of a size
  single : (x : List ℕ) → length x ≡ n → (k : ℕ) (d : List ℕ) → k < length (x ∷ []) → length (get_or (x ∷ []) k d) ≡ n
  single x same zero d lt = same
  single x same (suc k) d lt = absurd (omega (arith, lt))

  -- the blocks of a size, with one more of that size
  pub sized_more : (xs ys : List (List ℕ)) (x : List ℕ) → ys ≡ xs ++ x ∷ [] → All (λ block. length block ≡ n) xs → length x ≡ n → All (λ block. length block ≡ n) ys
  sized_more xs ys x e sizes same =
      subst (λ (l : List (List ℕ)). All (λ block. length block ≡ n) l) (sym e) (All-append (λ (block : List ℕ). length block ≡ n) xs (x ∷ []) sizes (single x same))

  last_sized : (ys : List (List ℕ)) (x : List ℕ) → ((k : ℕ) (d : List ℕ) → k < length (ys ++ x ∷ []) → length (get_or (ys ++ x ∷ []) k d) ≡ n) → length x ≡ n
  last_sized [] x all = all zero x (omega arith)
  last_sized (y ∷ ys) x all = last_sized ys x (λ k d lt. all (suc k) d (omega (arith, lt)))

  front_sized : (ys : List (List ℕ)) (x : List ℕ) → ((k : ℕ) (d : List ℕ) → k < length (ys ++ x ∷ []) → length (get_or (ys ++ x ∷ []) k d) ≡ n)
      → (k : ℕ) (d : List ℕ) → k < length ys → length (get_or ys k d) ≡ n
  front_sized [] x all k d lt = absurd (omega (arith, lt))
  front_sized (y ∷ ys) x all zero d lt = all zero d (omega arith)
  front_sized (y ∷ ys) x all (suc k) d lt = front_sized ys x (λ j e inside. all (suc j) e (omega (arith, inside))) k d (omega (arith, lt))

  -- the blocks of a size are one of that size, and the others
  pub sized_less : (xs ys : List (List ℕ)) (x : List ℕ) → xs ≡ ys ++ x ∷ [] → All (λ block. length block ≡ n) xs → (length x ≡ n) × All (λ block. length block ≡ n) ys
  sized_less xs ys x e sizes =
      let all = subst (λ (l : List (List ℕ)). All (λ block. length block ≡ n) l) e sizes in (last_sized ys x all, front_sized ys x all)
