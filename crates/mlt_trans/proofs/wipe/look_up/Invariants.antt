use Rattle.std.proofs.Common.{◌≡◌, ℕ, ◌+◌, ◌*◌, ◌<◌, ◌≤◌, get_or}
use Rattle.mlt_tree.specs.Merges.{share_at}
use Rattle.mlt_trans.proofs.wipe.look_up.Given as goal

-- the shares before this one are found
abbrev pub invariant-loop-j : goal.invariant-loop-j
invariant-loop-j l =
    record {
      each : (i : ℕ) → i < l.j → get_or l.found i 0 ≡ share_at l.shares.softness l.shares.q l.map ((l.from + i) * 4);
      most : (i : ℕ) → i < l.j → get_or l.found i 0 ≤ 65536;
    }
