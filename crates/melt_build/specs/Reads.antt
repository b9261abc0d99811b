-- What a step of reading gives, against its definition.
use Rattle.std.specs.Prelude.{ℕ, ◌≡◌, Result, Ok, Err}
use Rattle.mlt_base.specs.declared.refusal.Try.{Try}
use Rattle.mlt_base.specs.declared.refusal.Try.TheVariants.{Fault, Memory}
use Rattle.mlt_tree.specs.declared.refusal.Cause.{Cause}
use Rattle.mlt_tree.specs.declared.refusal.Refusal.{Refusal}
use Rattle.mlt_tree.specs.Loading.{Read, Refused, done, stopped}
use Rattle.mlt_tree.specs.Refusing.{refuse}

-- a cause as the refusal of a word
abbrev pub at_place : {A : Type 0} → ℕ → Result A Cause → Result A Refusal
at_place place (Ok x) = Ok x
at_place place (Err cause) = refuse place cause

-- a step that looks up no file gives, seen by view, what the definition gives, unless memory ran out
abbrev pub ReadGives : {X Y : Type 0} → (X → Y) → Result X (Try Refusal) → Read Y → Type 0
ReadGives view (Ok x) wanted = wanted ≡ done (view x)
ReadGives view (Err (Fault refusal)) wanted = wanted ≡ stopped (Refused refusal)
ReadGives view (Err Memory) wanted = Unit {0}
