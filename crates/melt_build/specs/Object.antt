-- The properties of an object, by their names.
use Rattle.std.specs.Prelude.{ℕ, ◌≡◌, ◌<◌, List, length, Option}
use Rattle.std.specs.Option.{option_map}
use Rattle.mlt_props.specs.Entries.{Entries, text_of}
use Rattle.mlt_tree.specs.declared.group.Prop.{Prop}
use Rattle.mlt_tree.specs.Props.{last_named}

-- the text of the last property of a name
abbrev pub text_in : List ℕ → List Prop → Option (List ℕ)
text_in name props = option_map (λ prop. prop.value) (last_named name props)

-- for each name the bag has the text of the last property
abbrev pub HoldsTexts : {D : Type 0} → Entries D → List Prop → Type 0
HoldsTexts texts props = (name : List ℕ) → 0 < length name → text_of texts name ≡ text_in name props
