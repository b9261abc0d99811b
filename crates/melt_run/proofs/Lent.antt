-- What a pool has lent, from call to call.
use Rattle.std.proofs.Common.{ℕ, ◌≡◌, ◌≢◌, ◌≤◌, Bool, true, false, nat_eq, sum, refl, ap, ◌∙◌, arith}
use Rattle.std.proofs.lemmas.Bool.Decides.{nat_tests}
use Rattle.mlt_pool.specs.Counts.{Counts, IsOneLent, IsAdded, at, lent_of}
use Rattle.melt_run.specs.Lending.{LendsAlike}

pub lends_both : (a b c : Counts) → LendsAlike a b → LendsAlike b c → LendsAlike a c
lends_both a b c p q = record { all = q.all ∙ p.all; each = λ class in_range. q.each class in_range ∙ p.each class in_range }

-- blocks that were added are home
pub lends_added : (class count : ℕ) (a b : Counts) → IsAdded class count a b → LendsAlike a b
lends_added class count a b h = record { all = ap sum h.lent; each = λ other in_range. ap (at other) h.lent }

-- a block was lent and came home
pub lends_home : (class : ℕ) (a b c : Counts) → IsOneLent class a b → IsOneLent class c b → LendsAlike a c
lends_home class a b c p q = record { all = let x = p.all in let y = q.all in omega arith; each = each } where
  each : (other : ℕ) → 12 ≤ other → lent_of c other ≡ lent_of a other
  each other in_range = by (nat_eq other class) refl where
    by : (t : Bool) → nat_eq other class ≡ t → lent_of c other ≡ lent_of a other
    by true test =
        let same : other ≡ class = grind (arith, nat_tests) in
        let x = p.lent in let y = q.lent in
        rw same (omega (arith, x, y))
    by false test =
        let apart : other ≢ class = grind (arith, nat_tests) in
        let x = (p.others other in_range apart).1 in let y = (q.others other in_range apart).1 in
        omega (arith, x, y)
