use Rattle.std.proofs.Common.{◌≡◌, length, All, vec_capacity}
use Rattle.mlt_eval.specs.Lending.{AreLent}
use Rattle.mlt_pool.specs.Class.{class_of}
use Rattle.mlt_pool.specs.Counts.{lent_out}
use Rattle.mlt_eval.proofs.rack.lend_blocks.Given as goal

-- so many blocks are lent
abbrev pub invariant-loop-place : goal.invariant-loop-place
invariant-loop-place l = record {
  pool : l.pool ≡ lent_out (class_of l.len) l._place l.initial.pool;
  counts : AreLent (class_of l.len) l._place l.initial.pool l.pool;
  count : length l.blocks.items ≡ l._place;
  sizes : All (λ block. length block ≡ l.len) l.blocks.items;
  room : vec_capacity l.blocks ≡ vec_capacity l.initial.blocks;
}
