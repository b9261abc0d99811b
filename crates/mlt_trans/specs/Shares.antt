-- How much of each pixel has turned, by the lightness of its map.
use Rattle.std.specs.Prelude.{ℕ, ◌≡◌, ◌<◌, ◌≤◌, List, slice_index}
use Rattle.mlt_tree.specs.Merges.{reached_at, edge, turned}

-- how wide an edge is, and how far it has come
pub record Edge : Type 0 where
  pub softness : ℕ
  pub q : ℕ

-- the share of each lightness that the edge reaches
pub record AreShares (softness q : ℕ) (shares : List ℕ) : Type 0 where
  pub each : (v : ℕ) → v < 256 → slice_index shares v ≡ turned softness (edge softness q) (reached_at v)
  pub most : (v : ℕ) → v < 256 → slice_index shares v ≤ 65536
