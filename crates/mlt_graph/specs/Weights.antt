-- How much there is in a tree, as a table of units keeps it when they are sealed, and how the weights of its parts
-- make it up.
use Rattle.std.specs.Prelude.{ℕ, ◌≡◌, ◌+◌, ◌<◌, max, nat_lt, if◌then◌else◌, List, length, fold, slice_index_or}
use Rattle.mlt_tree.specs.declared.entry.Entry.{Entry}
use Rattle.mlt_tree.specs.declared.entry.Entry.TheVariants.{Clip, Gap}
use Rattle.mlt_tree.specs.declared.node.Body.{Body}
use Rattle.mlt_tree.specs.declared.node.Body.TheVariants.{Source, Entries, Tractor}
use Rattle.mlt_tree.specs.declared.node.Node.{Node}
use Rattle.mlt_tree.specs.declared.node.Track.{Track}
use Rattle.mlt_tree.specs.declared.node.Track.TheVariants.{Playlist, Half}
use Rattle.mlt_tree.specs.Sizes.{weight, ops}
use Rattle.mlt_tree.specs.Tree.{Tree}
use Rattle.mlt_graph.specs.declared.weight.Weight.{Weight}
use Rattle.mlt_graph.specs.Sizes.{kept}

-- the weight of a tree, and its operations
abbrev pub weight_of : Tree → Weight
weight_of tree = record { weight = kept (weight tree); ops = kept (ops tree) }

-- no track
abbrev pub weightless : Weight
weightless = record { weight = 0; ops = 0 }

-- a source, or a blank
abbrev pub single : Weight
single = record { weight = 1; ops = 1 }

-- with so many filters on it
abbrev pub with_filters : ℕ → Weight → Weight
with_filters filters w = record { weight = kept (w.weight + filters); ops = kept (w.ops + filters) }

abbrev pub entry_weight : List Weight → Entry → Weight
entry_weight table (Clip unit span filters) = with_filters (length filters) (slice_index_or table unit.0 weightless)
entry_weight table (Gap frames) = single

-- one after the other: the heavier one counts
abbrev pub heavier : Weight → Weight → Weight
heavier a b = record { weight = max a.weight b.weight; ops = max a.ops b.ops }

abbrev pub entries_weight : List Weight → List Entry → Weight
entries_weight table es = fold (λ w e. heavier w (entry_weight table e)) single es

-- one over the other: both count
abbrev pub together : Weight → Weight → Weight
together a b = record { weight = kept (a.weight + b.weight); ops = kept (a.ops + b.ops) }

abbrev pub track_weight : List Weight → Track → Weight
track_weight table (Playlist entries filters hide) = with_filters (length filters) (entries_weight table entries)
track_weight table (Half entry frames) = entry_weight table entry

abbrev pub tracks_weight : List Weight → List Track → Weight
tracks_weight table tracks = fold (λ w track. together w (track_weight table track)) weightless tracks

-- more tracks than one take an operation more
abbrev pub choosing : ℕ → Weight → Weight
choosing count w = record w { ops = kept (w.ops + (if nat_lt 1 count then 1 else 0)) }

abbrev pub body_weight : List Weight → Body → Weight
body_weight table (Source source kind frames) = single
body_weight table (Entries entries) = entries_weight table entries
body_weight table (Tractor tracks plants) = choosing (length tracks) (with_filters (length plants) (tracks_weight table tracks))

abbrev pub node_weight : List Weight → Node → Weight
node_weight table node = with_filters (length node.filters) (body_weight table node.body)

-- the table has the weight of each unit below a number
pub record Weighs (table : List Weight) (units : ℕ → Tree) (count : ℕ) : Type 0 where
  pub each : (unit : ℕ) → unit < count → slice_index_or table unit weightless ≡ weight_of (units unit)
