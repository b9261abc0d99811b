-- What a rendered frame is seen as.
use Rattle.std.specs.Prelude.{ℕ, List}
use Rattle.mlt_base.specs.declared.profile.Pos.{Pos}
use Rattle.mlt_frame.specs.declared.stack.Ops.{Ops}

-- its position, how many sources it loaded, the bytes of its picture and of its sound, its stacks, and the bytes
-- of its lease
pub record RenderedParts : Type 0 where
  pub at : Pos
  pub loads : ℕ
  pub video : List ℕ
  pub sound : List ℕ
  pub ops : Ops
  pub out : List ℕ
