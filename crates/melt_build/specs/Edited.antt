-- An edit's answer, with its refusal at its group's place.
use Rattle.std.specs.Prelude.{ℕ, Result, Ok, Err}
use Rattle.mlt_base.specs.declared.faults.PlayFault.{PlayFault}
use Rattle.mlt_base.specs.declared.refusal.Try.{Try}
use Rattle.mlt_base.specs.declared.refusal.Try.TheVariants.{Fault, Memory}
use Rattle.mlt_tree.specs.declared.refusal.Refusal.{Refusal}
use Rattle.mlt_tree.specs.Refusing.{refusal_at, edit_cause}

abbrev pub edited_at : {A : Type 0} → ℕ → Result A (Try PlayFault) → Result A (Try Refusal)
edited_at place (Ok x) = Ok x
edited_at place (Err (Fault fault)) = Err (Fault (refusal_at place (edit_cause fault)))
edited_at place (Err Memory) = Err Memory
