-- One number of a pool's counts is changed, and the shelf that it counts.
use Rattle.std.proofs.Common.{◌≡◌, ◌≢◌, ℕ, ◌+◌, ◌-◌, ◌<◌, ◌≤◌, List, length, map, get_or, set, sum, replicate, refl, sym, inl, inr, ◌⊎◌, ap, ◌∙◌, subst, arith}
use Rattle.std.proofs.Math.Seq.{map-set_same}
use Rattle.std.proofs.lemmas.List.{length-map, map-set, get_or-map, get_or-set_same, get_or-set_other, set-get_or, set-set, get_or-replicate}
use Rattle.std.proofs.lemmas.Bool.{cases_eq}
use Rattle.std.proofs.lemmas.Grind.{same_number_lists}
use Rattle.std.proofs.lemmas.List.FromFn.{get_or-range_with_len}
use Rattle.std.proofs.lemmas.List.Sums.{sum_by-set}
use Rattle.mlt_pool.specs.Counts.{Counts, at, with_at, home_of, lent_of, reserved_of, no_blocks, added, lent_out, brought, IsOneLent, IsAdded}
use Rattle.mlt_pool.specs.Tally.{Tally, counts_of, AreShelves, classes}

module _ (class : ℕ) (xs : List ℕ) where
  -- the class has the number that it was given
  pub at-with_at : (n : ℕ) → class - 12 < length xs → at class (with_at class n xs) ≡ n
  at-with_at n lt = get_or-set_same xs (class - 12) n 0 lt

  -- and every other class has its own
  pub at-with_at_other : (n other : ℕ) → 12 ≤ class → 12 ≤ other → other ≢ class → at other (with_at class n xs) ≡ at other xs
  at-with_at_other n other in_class in_other differs = get_or-set_other xs (class - 12) (other - 12) n 0 (λ e. differs (omega (arith, e)))

  pub sum-with_at : (n : ℕ) → class - 12 < length xs → sum (with_at class n xs) + at class xs ≡ sum xs + n
  sum-with_at n lt = sum_by-set (λ x. x) xs (class - 12) n 0 lt

-- as many are reserved, since those of the class are and those of the others are
reserved_if : (class : ℕ) (first second : Counts) → home_of second class + 1 ≡ home_of first class → lent_of second class ≡ lent_of first class + 1
    → ((other : ℕ) → 12 ≤ other → other ≢ class → (home_of second other ≡ home_of first other) × (lent_of second other ≡ lent_of first other))
    → (any : ℕ) → 12 ≤ any → (any ≡ class) ⊎ (any ≢ class) → reserved_of second any ≡ reserved_of first any
reserved_if class first second eh el others any in_any (inl same) =
    subst (λ (k : ℕ). reserved_of second k ≡ reserved_of first k) (sym same) (omega (arith, eh, el))
reserved_if class first second eh el others any in_any (inr differs) = let alike = others any in_any differs in omega (arith, alike.0, alike.1)

module _ (class : ℕ) (pool : Counts) (long : (length pool.home ≡ 17) × (length pool.lent ≡ 17)) (within : (12 ≤ class) × (class ≤ 28)) where
  home_in : class - 12 < length pool.home
  home_in = omega (arith, long.0, within.0, within.1)

  lent_in : class - 12 < length pool.lent
  lent_in = omega (arith, long.1, within.0, within.1)

  pub one_lent : 0 < home_of pool class → IsOneLent class pool (lent_out class 1 pool)
  one_lent lt =
      let second = lent_out class 1 pool in
      let eh : home_of second class + 1 ≡ home_of pool class = omega (arith, at-with_at class pool.home (home_of pool class - 1) home_in, lt) in
      let el : lent_of second class ≡ lent_of pool class + 1 = at-with_at class pool.lent (lent_of pool class + 1) lent_in in
      let alike : (other : ℕ) → 12 ≤ other → other ≢ class → (home_of second other ≡ home_of pool other) × (lent_of second other ≡ lent_of pool other) = λ other in_other differs. (
        at-with_at_other class pool.home (home_of pool class - 1) other within.0 in_other differs,
        at-with_at_other class pool.lent (lent_of pool class + 1) other within.0 in_other differs,
      ) in
      record {
        home = eh;
        lent = el;
        all = omega (arith, sum-with_at class pool.lent (lent_of pool class + 1) lent_in);
        others = alike;
        reserved = λ any in_any. reserved_if class pool second eh el alike any in_any (cases_eq any class);
      }

  pub one_brought : 0 < lent_of pool class → IsOneLent class (brought class 1 pool) pool
  one_brought lt =
      let first = brought class 1 pool in
      let eh : home_of pool class + 1 ≡ home_of first class = sym (at-with_at class pool.home (home_of pool class + 1) home_in) in
      let el : lent_of pool class ≡ lent_of first class + 1 = omega (arith, at-with_at class pool.lent (lent_of pool class - 1) lent_in, lt) in
      let alike : (other : ℕ) → 12 ≤ other → other ≢ class → (home_of pool other ≡ home_of first other) × (lent_of pool other ≡ lent_of first other) = λ other in_other differs. (
        sym (at-with_at_other class pool.home (home_of pool class + 1) other within.0 in_other differs),
        sym (at-with_at_other class pool.lent (lent_of pool class - 1) other within.0 in_other differs),
      ) in
      record {
        home = eh;
        lent = el;
        all = omega (arith, sum-with_at class pool.lent (lent_of pool class - 1) lent_in, lt);
        others = alike;
        reserved = λ any in_any. reserved_if class first pool eh el alike any in_any (cases_eq any class);
      }

  pub some_added : (n : ℕ) → IsAdded class n pool (added class n pool)
  some_added n = record {
    home = at-with_at class pool.home (home_of pool class + n) home_in;
    lent = refl;
    others = λ other in_other differs. at-with_at_other class pool.home (home_of pool class + n) other within.0 in_other differs;
    reserved = omega (arith, at-with_at class pool.home (home_of pool class + n) home_in);
  }

  -- after n lent blocks one more is lent, or one comes home
  pub lend_none : lent_out class 0 pool ≡ pool
  lend_none =
      let eh : home_of pool class - 0 ≡ home_of pool class = omega arith in let el : lent_of pool class + 0 ≡ lent_of pool class = omega arith in
      λ i. record {
        home = (ap (λ (n : ℕ). with_at class n pool.home) eh ∙ set-get_or pool.home (class - 12) 0) i;
        lent = (ap (λ (n : ℕ). with_at class n pool.lent) el ∙ set-get_or pool.lent (class - 12) 0) i;
      }

  moved_twice : (xs : List ℕ) (f g h : ℕ → ℕ) → class - 12 < length xs → g (f (at class xs)) ≡ h (at class xs)
      → with_at class (g (at class (with_at class (f (at class xs)) xs))) (with_at class (f (at class xs)) xs) ≡ with_at class (h (at class xs)) xs
  moved_twice xs f g h lt e =
      set-set xs (class - 12) (f (at class xs)) (g (at class (with_at class (f (at class xs)) xs)))
      ∙ ap (λ (n : ℕ). with_at class n xs) (ap g (at-with_at class xs (f (at class xs)) lt) ∙ e)

  pub lend_more : (n : ℕ) → lent_out class 1 (lent_out class n pool) ≡ lent_out class (n + 1) pool
  lend_more n = λ i. record {
    home = moved_twice pool.home (λ x. x - n) (λ x. x - 1) (λ x. x - (n + 1)) home_in (omega arith) i;
    lent = moved_twice pool.lent (λ x. x + n) (λ x. x + 1) (λ x. x + (n + 1)) lent_in (omega arith) i;
  }

  pub lend_less : (n : ℕ) → n + 1 ≤ home_of pool class → brought class 1 (lent_out class (n + 1) pool) ≡ lent_out class n pool
  lend_less n le = λ i. record {
    home = moved_twice pool.home (λ x. x - (n + 1)) (λ x. x + 1) (λ x. x - n) home_in (omega (arith, le)) i;
    lent = moved_twice pool.lent (λ x. x + (n + 1)) (λ x. x - 1) (λ x. x + n) lent_in (omega arith) i;
  }

module _ (shelves : List Tally) (h : AreShelves shelves) where
  pub count : length shelves ≡ 17
  count = sym (length-map shelves (λ s. s.class)) ∙ ap length h

  pub numbers : (length (counts_of shelves).home ≡ 17) × (length (counts_of shelves).lent ≡ 17)
  numbers = (length-map shelves (λ s. s.home) ∙ count, length-map shelves (λ s. s.lent) ∙ count)

  module _ (class index : ℕ) (within : (12 ≤ class) × (class ≤ 28)) (is : index ≡ class - 12) (d : Tally) where
    -- the shelf of the class
    abbrev old : Tally
    old = get_or shelves index d

    inside : index < length shelves
    inside = omega (arith, count, within.0, within.1, is)

    pub class_there : old.class ≡ class
    class_there =
        sym (get_or-map (λ s. s.class) shelves index d 0 inside) ∙ ap (λ l. get_or l index 0) h
        ∙ get_or-range_with_len 12 17 index 0 (omega (arith, inside, count)) ∙ omega (arith, is, within.0)

    home_there : home_of (counts_of shelves) class ≡ old.home
    home_there = ap (λ (k : ℕ). get_or (map (λ s. s.home) shelves) k 0) (sym is) ∙ get_or-map (λ s. s.home) shelves index d 0 inside

    pub lent_there : lent_of (counts_of shelves) class ≡ old.lent
    lent_there = ap (λ (k : ℕ). get_or (map (λ s. s.lent) shelves) k 0) (sym is) ∙ get_or-map (λ s. s.lent) shelves index d 0 inside

    same_lent : with_at class old.lent (counts_of shelves).lent ≡ (counts_of shelves).lent
    same_lent = ap (λ (n : ℕ). with_at class n (counts_of shelves).lent) (sym lent_there) ∙ set-get_or (counts_of shelves).lent (class - 12) 0

    module _ (new : Tally) where
      pub still_shelves : new.class ≡ old.class → AreShelves (set shelves index new)
      still_shelves same = map-set_same (λ s. s.class) shelves index new d same ∙ h

      homes : (n : ℕ) → new.home ≡ n → map (λ s. s.home) (set shelves index new) ≡ with_at class n (counts_of shelves).home
      homes n e = map-set (λ s. s.home) shelves index new ∙ (λ i. set (map (λ s. s.home) shelves) (is i) (e i))

      lents : (n : ℕ) → new.lent ≡ n → map (λ s. s.lent) (set shelves index new) ≡ with_at class n (counts_of shelves).lent
      lents n e = map-set (λ s. s.lent) shelves index new ∙ (λ i. set (map (λ s. s.lent) shelves) (is i) (e i))

      -- the pool after a block of the shelf is lent
      module _ (eh : new.home + 1 ≡ old.home) (el : new.lent ≡ old.lent + 1) where
        lends : counts_of (set shelves index new) ≡ lent_out class 1 (counts_of shelves)
        lends = λ i. record {
          home = homes (home_of (counts_of shelves) class - 1) (omega (arith, eh, home_there)) i;
          lent = lents (lent_of (counts_of shelves) class + 1) (omega (arith, el, lent_there)) i;
        }

        pub after_lend : (now : Counts) (k : ℕ) → counts_of shelves ≡ now → class ≡ k → (counts_of (set shelves index new) ≡ lent_out k 1 now) × IsOneLent k now (counts_of (set shelves index new))
        after_lend now k view same =
            let moved = one_lent class (counts_of shelves) numbers within (omega (arith, eh, home_there)) in (
              lends ∙ (λ i. lent_out (same i) 1 (view i)),
              subst (λ (p : ℕ × Counts × Counts). IsOneLent p.0 p.1 p.2) (λ i. (same i, view i, sym lends i)) moved,
            )

      -- the pool after a block comes home to the shelf
      module _ (eh : new.home ≡ old.home + 1) (el : new.lent + 1 ≡ old.lent) where
        brings : counts_of (set shelves index new) ≡ brought class 1 (counts_of shelves)
        brings = λ i. record {
          home = homes (home_of (counts_of shelves) class + 1) (omega (arith, eh, home_there)) i;
          lent = lents (lent_of (counts_of shelves) class - 1) (omega (arith, el, lent_there)) i;
        }

        pub after_home : (now : Counts) (k : ℕ) → counts_of shelves ≡ now → class ≡ k → (counts_of (set shelves index new) ≡ brought k 1 now) × IsOneLent k (counts_of (set shelves index new)) now
        after_home now k view same =
            let moved = one_brought class (counts_of shelves) numbers within (omega (arith, el, lent_there)) in (
              brings ∙ (λ i. brought (same i) 1 (view i)),
              subst (λ (p : ℕ × Counts × Counts). IsOneLent p.0 p.1 p.2) (λ i. (same i, sym brings i, view i)) moved,
            )

      -- the pool after n blocks are added to the shelf
      pub after_reserve : (n : ℕ) (now : Counts) → counts_of shelves ≡ now → (new.home ≡ old.home + n) × (new.lent ≡ old.lent)
          → (counts_of (set shelves index new) ≡ added class n now) × IsAdded class n now (counts_of (set shelves index new))
      after_reserve n now view made =
          let is_added : counts_of (set shelves index new) ≡ added class n (counts_of shelves) = λ i. record {
            home = homes (home_of (counts_of shelves) class + n) (omega (arith, made.0, home_there)) i;
            lent = (lents old.lent made.1 ∙ same_lent) i;
          } in (
            is_added ∙ ap (added class n) view,
            subst (λ (p : Counts × Counts). IsAdded class n p.0 p.1) (λ i. (view i, sym is_added i)) (some_added class (counts_of shelves) numbers within n),
          )

-- shelves with no block, one of each class
module _ (shelves : List Tally) (long : length shelves ≡ 17) (each : (i : ℕ) (d : Tally) → i < 17 → get_or shelves i d ≡ record { class = 12 + i; home = 0; lent = 0 }) where
  module _ (f : Tally → ℕ) (ys : List ℕ) (same_long : length ys ≡ 17) (same : (i : ℕ) → i < 17 → f (record { class = 12 + i; home = 0; lent = 0 }) ≡ get_or ys i 0) where
    seen : map f shelves ≡ ys
    seen =
        same_number_lists (map f shelves) ys (length-map shelves f ∙ long ∙ sym same_long) (λ i lt.
        let below : i < 17 = omega (arith, lt, length-map shelves f, long) in let d : Tally = record { class = 0; home = 0; lent = 0 } in
        get_or-map f shelves i d 0 (omega (arith, below, long)) ∙ ap f (each i d below) ∙ same i below)

  pub new_shelves : AreShelves shelves
  new_shelves = seen (λ s. s.class) classes refl (λ i lt. sym (get_or-range_with_len 12 17 i 0 lt))

  pub new_counts : counts_of shelves ≡ no_blocks
  new_counts = λ k. record {
    home = seen (λ s. s.home) (replicate 17 0) refl (λ i lt. sym (get_or-replicate 17 i 0 0 lt)) k;
    lent = seen (λ s. s.lent) (replicate 17 0) refl (λ i lt. sym (get_or-replicate 17 i 0 0 lt)) k;
  }
