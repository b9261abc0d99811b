-- The properties that an object is given.
use Rattle.std.specs.Prelude.{List, [], ◌∷◌, ◌++◌, Option, None, Some}
use Rattle.mlt_base.specs.Name.{name_of}
use Rattle.mlt_tree.specs.declared.group.Prop.{Prop}
use Rattle.melt_build.specs.declared.props.Front.{Front}
use Rattle.melt_build.specs.declared.props.Properties.{Properties}

-- the one that its word holds
abbrev pub front_in : Option Front → List Prop
front_in None = []
front_in (Some front) = record { place = front.place; name = name_of front.name; value = front.value.now } ∷ []

-- those behind it: the inherited ones, and then its own
abbrev pub behind_front : Properties → List Prop
behind_front given = given.inherited.now.words.now ++ given.own.now.words.now

abbrev pub props_in : Properties → List Prop
props_in given = front_in given.front ++ behind_front given
