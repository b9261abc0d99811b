-- Numbers that have to be below a limit.
use Rattle.std.proofs.Common.{◌≡◌, ℕ, ◌-◌, ◌^◌, ◌<◌, ◌≤◌, min, Ok, Err, inl, inr, ap, refl, arith}
use Rattle.std.proofs.lemmas.Bool.{cases_lt, lt-ltb, le-ltb}
use Rattle.mlt_base.specs.declared.fault.NumFault.TheVariants.{TooLarge}
use Rattle.mlt_base.specs.Reading.{below}

-- the number itself
pub below_ok : (limit n exact : ℕ) → n < limit → n ≡ exact → Ok n ≡ below limit exact
unfolding below
below_ok limit n exact h e = rw (← e, lt-ltb n limit h) refl

-- too large
pub below_err : (limit exact : ℕ) → limit ≤ exact → Err TooLarge ≡ below limit exact
unfolding below
below_err limit exact h = rw (le-ltb exact limit h) refl

-- a number that was held far above the limit
pub below_held : (limit n exact : ℕ) → limit < 2 ^ 64 → n ≡ min exact (2 ^ 64 - 1) → below limit n ≡ below limit exact
unfolding below
below_held limit n exact h e =
    elim (cases_lt exact limit) [
      | inl lt ↦ rw (lt-ltb exact limit lt, lt-ltb n limit (omega arith)) (ap (λ (x : ℕ). Ok x) (omega arith))
      | inr le ↦ rw (le-ltb exact limit le, le-ltb n limit (omega arith)) refl
    ]
