-- The lists of units, and where the entries of each begin.
use Rattle.std.specs.Prelude.{ℕ, ◌≡◌, List, [], ◌∷◌, map, get_or}
use Rattle.mlt_tree.specs.declared.entry.Entry.{Entry}
use Rattle.mlt_tree.specs.declared.node.Body.{Body}
use Rattle.mlt_tree.specs.declared.node.Body.TheVariants.{Source, Entries, Tractor}
use Rattle.mlt_tree.specs.declared.node.Node.{Node}
use Rattle.mlt_tree.specs.Ranges.{frames}
use Rattle.mlt_tree.specs.Units.{entries_of}

-- the lists of what a unit is made of: none of a source, one of entries, one for each track of a tractor
abbrev pub lists_in : Body → List (List Entry)
lists_in (Source source kind count) = []
lists_in (Entries entries) = entries ∷ []
lists_in (Tractor tracks plants) = map entries_of tracks

-- the lists of a numbered unit; a unit that isn't there has none
abbrev pub lists_of : List Node → ℕ → List (List Entry)
lists_of units unit = get_or (map (λ node. lists_in node.body) units) unit []

-- a numbered list of a unit; a list that isn't there has no entry
abbrev pub list_of : List Node → (unit list : ℕ) → List Entry
list_of units unit list = get_or (lists_of units unit) list []

-- where the entries of each list begin, by their numbers of frames
abbrev pub starts_in : Body → List (List ℕ)
starts_in body = map (map frames) (lists_in body)

-- units, and beside them where the entries of the lists of each begin
pub record HaveStarts (units : List Node) (starts : List (List (List ℕ))) : Type 0 where
  pub are : starts ≡ map (λ node. starts_in node.body) units
