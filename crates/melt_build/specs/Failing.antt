-- A refusal, or want of memory, as the fault of building.
use Rattle.std.specs.Prelude.{Result, Ok, Err}
use Rattle.mlt_base.specs.declared.refusal.Try.{Try}
use Rattle.mlt_base.specs.declared.refusal.Try.TheVariants as try
use Rattle.mlt_tree.specs.declared.refusal.Refusal.{Refusal}
use Rattle.melt_build.specs.declared.fault.BuildFault.{BuildFault}
use Rattle.melt_build.specs.declared.fault.BuildFault.TheVariants.{Refused, Memory}

abbrev pub fault_of : Try Refusal → BuildFault
fault_of (try.Fault refusal) = Refused refusal
fault_of try.Memory = Memory

-- the answer of a step that looks up no file, as that of one that may
abbrev pub lifted : {X : Type 0} → Result X (Try Refusal) → Result X BuildFault
lifted (Ok x) = Ok x
lifted (Err refused) = Err (fault_of refused)
