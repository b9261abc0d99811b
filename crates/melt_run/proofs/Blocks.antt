-- The blocks of a rack, lent before the first frame and brought home after the last.
use Rattle.std.proofs.Common.{ℕ, ◌≡◌, ◌≤◌, arith}
use Rattle.mlt_eval.specs.Lending.{AreLent}
use Rattle.mlt_pool.specs.Counts.{Counts, lent_of, all_lent}
use Rattle.melt_run.specs.Lending.{LendsAlike}

module _ (class n : ℕ) (in_range : 12 ≤ class) (a b c : Counts) where
  -- they can be brought home
  pub still_lent : AreLent class n a b → LendsAlike b c → n ≤ lent_of c class
  still_lent lent alike =
      let first = lent.lent in let second = alike.each class in_range in
      omega (arith, first, second)

  -- and then as many are lent as before
  pub none_left : (d : Counts) → AreLent class n a b → LendsAlike b c → AreLent class n d c → all_lent d ≡ all_lent a
  none_left d lent alike home =
      let first = lent.all in let second = alike.all in let third = home.all in
      omega (arith, first, second, third)
