-- What it takes to work a position of a tree out.
use Rattle.std.specs.Prelude.{ℕ, ◌+◌, max, nat_lt, if◌then◌else◌, length}
use Rattle.mlt_tree.specs.Tree.{Tree, Parts, Tracks, Src, Blank, Part, Seq, With, Rows, End, Then, NoTrack, Track}

abbrev mutual
  -- how many picture buffers it takes to work a position out
  pub need : Tree → ℕ
  need (Src source kind frames) = 1
  need (Blank frames) = 1
  need (Part t first last) = need t
  need (Seq parts) = need_in parts
  need (With t filters) = need t
  need (Rows tracks plants) = tracks_in tracks + need_of_rows tracks

  -- the greatest of the parts, at least 1
  pub need_in : Parts → ℕ
  need_in End = 1
  need_in (Then t parts) = max (need t) (need_in parts)

  pub need_of_rows : Tracks → ℕ
  need_of_rows NoTrack = 0
  need_of_rows (Track t hide tracks) = max (need t) (need_of_rows tracks)

  pub tracks_in : Tracks → ℕ
  tracks_in NoTrack = 0
  tracks_in (Track t hide tracks) = tracks_in tracks + 1

abbrev mutual
  -- how much there is in a tree: its filters and plants, and a source for each track at least
  pub weight : Tree → ℕ
  weight (Src source kind frames) = 1
  weight (Blank frames) = 1
  weight (Part t first last) = weight t
  weight (Seq parts) = weight_in parts
  weight (With t filters) = weight t + length filters
  weight (Rows tracks plants) = weight_of_rows tracks + length plants

  -- the greatest of the parts, at least 1
  pub weight_in : Parts → ℕ
  weight_in End = 1
  weight_in (Then t parts) = max (weight t) (weight_in parts)

  pub weight_of_rows : Tracks → ℕ
  weight_of_rows NoTrack = 0
  weight_of_rows (Track t hide tracks) = weight t + weight_of_rows tracks

abbrev mutual
  -- how many operations it takes at most to work a position out
  pub ops : Tree → ℕ
  ops (Src source kind frames) = 1
  ops (Blank frames) = 1
  ops (Part t first last) = ops t
  ops (Seq parts) = ops_in parts
  ops (With t filters) = ops t + length filters
  ops (Rows tracks plants) = ops_of_rows tracks + length plants + (if nat_lt 1 (tracks_in tracks) then 1 else 0)

  -- the greatest of the parts, at least 1
  pub ops_in : Parts → ℕ
  ops_in End = 1
  ops_in (Then t parts) = max (ops t) (ops_in parts)

  pub ops_of_rows : Tracks → ℕ
  ops_of_rows NoTrack = 0
  ops_of_rows (Track t hide tracks) = ops t + ops_of_rows tracks
