use Rattle.std.proofs.Common.{◌≡◌, ◌≤◌, length, take, drop}
use Rattle.mlt_tree.specs.Edits.{gaps_merged}
use Rattle.mlt_playlist.proofs.gaps.merge_front.Given as goal

-- the entries before this one, their gaps as one, stand at the front
abbrev pub invariant-loop-at : goal.invariant-loop-at
invariant-loop-at l =
    record {
      front : take l.kept l.entries ≡ gaps_merged (take l.at l.initial.entries);
      rest : drop l.at l.entries ≡ drop l.at l.initial.entries;
      count : l.kept ≤ l.at;
      len : length l.entries ≡ length l.initial.entries;
    }
