-- The blocks of a rack.
use Rattle.std.specs.Prelude.{◌≡◌, ℕ, List, length, All}
use Rattle.mlt_eval.specs.declared.register.Register.{Register}

-- the bytes of each block, and how many these are
pub record Blocks : Type 0 where
  pub size : ℕ
  pub blocks : List (List ℕ)

-- the blocks of a rack are of its size, and each has a register
pub record AreBlocks (size : ℕ) (blocks : List (List ℕ)) (registers : List Register) : Type 0 where
  pub sizes : All (λ block. length block ≡ size) blocks
  pub long : length registers ≡ length blocks
