-- What a started frame is seen as.
use Rattle.std.specs.Prelude.{ℕ, List}
use Rattle.mlt_base.specs.declared.profile.Pos.{Pos}
use Rattle.mlt_frame.specs.Stack.{Stack}

-- its position, the operations that make its picture and its sound, and the bytes of its lease
pub record FrameParts : Type 0 where
  pub at : Pos
  pub image : Stack
  pub sound : Stack
  pub out : List ℕ
