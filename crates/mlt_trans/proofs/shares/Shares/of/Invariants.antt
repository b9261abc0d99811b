use Rattle.std.proofs.Common.{◌≡◌, ℕ, ◌<◌, ◌≤◌, length, get_or}
use Rattle.mlt_tree.specs.Merges.{edge, reached_at, turned}
use Rattle.mlt_trans.proofs.shares.Shares.of.Given as goal

-- the shares of the lightnesses before this one are worked out
abbrev pub invariant-loop-lightness : goal.invariant-loop-lightness
invariant-loop-lightness l =
    record {
      long : length l.each ≡ 256;
      each : (v : ℕ) → v < l.lightness → get_or l.each v 0 ≡ turned l.softness.0 (edge l.softness.0 l.q.0) (reached_at v);
      most : (v : ℕ) → v < l.lightness → get_or l.each v 0 ≤ 65536;
    }
