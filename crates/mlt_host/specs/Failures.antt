-- Which calls of a host in memory are to fail.
use Rattle.std.specs.Prelude.{ℕ, List, Option, option_map, find, ◌==◌}
use Rattle.mlt_host.specs.declared.failures.Failure.{Failure}

-- how many bytes the call of that number keeps, where it is to fail: the first of its entries counts
abbrev pub failure_at : List Failure → ℕ → Option ℕ
failure_at failures call = option_map (λ failure. failure.kept) (find (λ failure. failure.call == call) failures)
