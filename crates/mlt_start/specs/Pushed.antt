-- What is on a stack after operations were pushed that had room.
use Rattle.std.specs.Prelude.{◌≡◌, ◌++◌, Bool, is_some, List, Option}
use Rattle.mlt_frame.specs.declared.op.Op.{Op}
use Rattle.mlt_frame.specs.Stack.{Stack, room}
use Rattle.mlt_start.specs.Code.{or_empty}

-- these operations are above the others, and room and length together are as before
pub record IsAbove (pushed : List Op) (old new : Stack) : Type 0 where
  pub ops : new.ops ≡ old.ops ++ pushed
  pub room : room new ≡ room old

-- the operations that there are, if any, and whether there are any
pub record IsPushed (code : Option (List Op)) (old new : Stack) (told : Bool) : Type 0 where
  pub above : IsAbove (or_empty code) old new
  pub something : told ≡ is_some code
