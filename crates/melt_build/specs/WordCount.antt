-- How many words groups are made of, group after group and property after property.
use Rattle.std.specs.Prelude.{ℕ, ◌+◌, max, fold, Bool, false, if◌then◌else◌, Option, None, Some}
use Rattle.mlt_tree.specs.declared.group.Group.{Group}
use Rattle.mlt_tree.specs.declared.table.Row.{Row}
use Rattle.mlt_tree.specs.Table.{option_row}

-- one more than a place, where that is more
abbrev pub behind : ℕ → ℕ → ℕ
behind most place = max most (place + 1)

-- whether a word of its own stands behind the first word of a group of this option
abbrev pub has_argument : Option Row → Bool
has_argument None = false
has_argument (Some row) = row.argument

abbrev pub behind_group : ℕ → Group → ℕ
behind_group most group =
    fold (λ n prop. behind n prop.place) (behind most (if has_argument (option_row group.kind) then group.place + 1 else group.place)) group.props
