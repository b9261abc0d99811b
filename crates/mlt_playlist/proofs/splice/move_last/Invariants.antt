use Rattle.std.proofs.Common.{◌≡◌, ◌++◌, length, reverse, vec_capacity}
use Rattle.mlt_playlist.proofs.splice.move_last.Given as goal

-- the entries that are left, and those that were moved, last ones first
abbrev pub invariant-loop : goal.invariant-loop
invariant-loop l =
    record {
      whole : l.entries.items ++ reverse l.out.items ≡ l.initial.entries.items;
      count : length l.out.items ≡ l.counter;
      room : vec_capacity l.out ≡ vec_capacity l.initial.out;
    }
