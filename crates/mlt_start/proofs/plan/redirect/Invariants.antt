use Rattle.std.proofs.Common.{ℕ, ◌≡◌, ◌++◌, cond, nat_eq, map, take, drop}
use Rattle.mlt_start.proofs.plan.redirect.Given as goal

-- the rows so far are redirected
abbrev pub invariant-loop-row : goal.invariant-loop-row
invariant-loop-row l =
    l.ends ≡ map (λ (row : ℕ). cond (nat_eq row l.b) l.a row) (take l.row l.initial.ends) ++ drop l.row l.initial.ends
