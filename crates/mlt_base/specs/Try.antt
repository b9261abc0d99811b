-- What a call gives that can be refused, or that can also want memory.
use Rattle.std.specs.Prelude.{◌≡◌, Result, Ok, Err}
use Rattle.mlt_base.specs.declared.refusal.Try.{Try}
use Rattle.mlt_base.specs.declared.refusal.Try.TheVariants.{Fault, Memory}

-- what a call returned, seen by view, is what reading gives
abbrev pub Gives : {X Y F : Type 0} → (X → Y) → Result X F → Result Y F → Type 0
Gives view (Ok x) read = read ≡ Ok (view x)
Gives view (Err f) read = read ≡ Err f

-- a refusal is the fault that reading meets, or want of memory
abbrev pub TryFails : {F Y : Type 0} → Try F → Result Y F → Type 0
TryFails (Fault f) read = read ≡ Err f
TryFails Memory read = Unit {0}

-- the same of a call that can want memory: then nothing is claimed
abbrev pub TryGives : {X Y F : Type 0} → (X → Y) → Result X (Try F) → Result Y F → Type 0
TryGives view (Ok x) read = read ≡ Ok (view x)
TryGives view (Err e) read = TryFails e read
