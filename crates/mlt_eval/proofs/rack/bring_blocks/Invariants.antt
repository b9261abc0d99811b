use Rattle.std.proofs.Common.{◌≡◌, ◌+◌, length, All}
use Rattle.mlt_eval.specs.Lending.{AreLent}
use Rattle.mlt_pool.specs.Class.{class_of}
use Rattle.mlt_pool.specs.Counts.{brought}
use Rattle.mlt_eval.proofs.rack.bring_blocks.Given as goal

-- so many blocks came home, and the others are left
abbrev pub invariant-loop-place : goal.invariant-loop-place
invariant-loop-place l = record {
  pool : l.pool ≡ brought (class_of l._size) l._place l.initial.pool;
  counts : AreLent (class_of l._size) l._place l.pool l.initial.pool;
  left : length l.blocks.items + l._place ≡ length l.initial.blocks.items;
  sizes : All (λ block. length block ≡ l._size) l.blocks.items;
}
