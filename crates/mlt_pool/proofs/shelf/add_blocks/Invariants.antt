use Rattle.std.proofs.Common.{◌≡◌, ◌+◌, length, take, All, vec_len, vec_capacity}
use Rattle.mlt_pool.proofs.shelf.add_blocks.Given as goal

-- so many blocks stand after those that there were
abbrev pub invariant-loop-made : goal.invariant-loop-made
invariant-loop-made l =
    (vec_len l.blocks ≡ vec_len l.initial.blocks + l.made) × (take (vec_len l.initial.blocks) l.blocks.items ≡ l.initial.blocks.items)
    × All (λ b. length b ≡ l.size) l.blocks.items × (vec_capacity l.blocks ≡ vec_capacity l.initial.blocks)
