use Rattle.std.proofs.Common.{◌≡◌, drop, map}
use Rattle.mlt_eval.specs.Entries.{fit_of}
use Rattle.mlt_eval.specs.Fitted.{is_fitted}
use Rattle.mlt_eval.proofs.fitted.find_entry.Given as goal

-- whether there is an entry of the source among all is whether there is one in the rest
abbrev pub invariant-loop-place : goal.invariant-loop-place
invariant-loop-place l = is_fitted (map fit_of (drop l.place l.entries)) l.no.0 ≡ is_fitted (map fit_of l.entries) l.no.0
