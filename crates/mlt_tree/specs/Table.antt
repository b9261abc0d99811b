-- The options, by their words and by their kinds.
use Rattle.std.specs.Prelude.{ℕ, Bool, false, List, Option, None, Some, find}
use Rattle.std.specs.List.{filter}
use Rattle.std.specs.Str.{bytes_eq}
use denote.Enum.Bare.{sameb}
use Rattle.mlt_base.specs.Name.{name_of}
use Rattle.mlt_tree.specs.contracts.group.GroupKind.{the_type}
use Rattle.mlt_tree.specs.declared.group.Group.{Group}
use Rattle.mlt_tree.specs.declared.group.GroupKind.{GroupKind}
use Rattle.mlt_tree.specs.declared.table.Row.{Row}
use Rattle.mlt_tree.specs.declared.table.TheConstants.{OPTIONS}

abbrev pub is_named : List ℕ → Row → Bool
is_named word row = bytes_eq (name_of row.name) word

-- the option of this word
unfoldable pub option_of : List ℕ → Option Row
option_of word = find (is_named word) OPTIONS

abbrev pub is_kind : GroupKind → Option GroupKind → Bool
is_kind kind None = false
is_kind kind (Some other) = sameb the_type kind other

-- the option of this kind; a producer is of none
unfoldable pub option_row : GroupKind → Option Row
option_row kind = find (λ row. is_kind kind row.kind) OPTIONS

abbrev pub is_of : GroupKind → Group → Bool
is_of kind g = is_kind kind (Some g.kind)

-- the groups of a kind, in word order
abbrev pub of_kind : GroupKind → List Group → List Group
of_kind kind gs = filter (is_of kind) gs
