use Rattle.std.proofs.Common.{◌≡◌, ◌+◌, take, vec_len, vec_capacity}
use Rattle.mlt_pool.proofs.shelf.free_behind.Given as goal

-- as many were freed as there are fewer blocks, and the first are those that there were
abbrev pub invariant-loop-place : goal.invariant-loop-place
invariant-loop-place l =
    (l.freed + vec_len l.blocks ≡ vec_len l.initial.blocks) × (vec_len l.blocks + l._place ≡ vec_len l.initial.blocks + l.keep)
    × (take l.keep l.blocks.items ≡ take l.keep l.initial.blocks.items) × (vec_capacity l.blocks ≡ vec_capacity l.initial.blocks)
