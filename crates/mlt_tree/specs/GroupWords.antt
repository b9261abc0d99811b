-- What groups of words are: the words of each group, and when words are those of groups.
use Rattle.std.specs.Prelude.{ℕ, ◌+◌, ◌<◌, ◌≤◌, ◌≡◌, ◌==◌, Bool, true, false, if◌then◌else◌, List, [], ◌∷◌, ◌++◌, length, map, fold, max, All, Option, None, Some}
use Rattle.std.specs.List.{flat_map, enumerate_from, list_any}
use Rattle.std.specs.Str.{byte}
use Rattle.mlt_base.specs.Name.{name_of}
use Rattle.mlt_base.specs.declared.limits.TheConstants.{MOST_WORDS}
use Rattle.mlt_tree.specs.declared.group.Group.{Group}
use Rattle.mlt_tree.specs.declared.group.GroupKind.TheVariants.{Producer}
use Rattle.mlt_tree.specs.declared.group.Prop.{Prop}
use Rattle.mlt_tree.specs.declared.table.Row.{Row}
use Rattle.mlt_tree.specs.Table.{option_row}

-- a word that begins with `-` and goes on
abbrev pub is_option : List ℕ → Bool
is_option [] = false
is_option (c ∷ []) = false
is_option (c ∷ d ∷ more) = c == byte "-"

abbrev pub is_equals : ℕ → Bool
is_equals c = c == byte "="

-- the word of a property, with its place
abbrev pub prop_word : Prop → ℕ × List ℕ
prop_word prop = (prop.place, prop.name ++ (byte "=" ∷ prop.value))

abbrev pub own_words_by : Group → Option Row → List (ℕ × List ℕ)
own_words_by group None = (group.place, group.arg) ∷ []
own_words_by group (Some row) =
    (group.place, name_of row.name) ∷ (if row.argument then (group.place + 1, group.arg) ∷ [] else [])

-- a producer is its word; an option its name, and then its argument where it takes one
abbrev pub own_words : Group → List (ℕ × List ℕ)
own_words group = own_words_by group (option_row group.kind)

abbrev pub words_of : Group → List (ℕ × List ℕ)
words_of group = own_words group ++ map prop_word group.props

-- how many words groups are made of: one more than the greatest place of a word of theirs
abbrev pub words_in : List Group → ℕ
words_in gs = fold (λ most word. max most (word.0 + 1)) 0 (flat_map words_of gs)

-- whether groups of this option have an argument; a producer's is its word
abbrev pub takes_argument : Option Row → Bool
takes_argument None = true
takes_argument (Some row) = row.argument

-- whether they may have properties
abbrev pub takes_properties : Option Row → Bool
takes_properties None = true
takes_properties (Some row) = row.properties

pub record IsAllowedProp (prop : Prop) : Type 0 where
  pub place : prop.place < MOST_WORDS
  pub named : 0 < length prop.name

-- a group that words can have: its places are few, and it has an argument, or properties, only where it may
pub record IsAllowed (group : Group) : Type 0 where
  pub place : group.place < MOST_WORDS
  pub argument : takes_argument (option_row group.kind) ≡ false → group.arg ≡ []
  pub properties : takes_properties (option_row group.kind) ≡ false → group.props ≡ []
  pub each : All IsAllowedProp group.props

-- whether a `=` is in the word
abbrev pub has_equals : List ℕ → Bool
has_equals word = list_any is_equals word

-- the word of a producer is no option, and no property
pub record IsProducerWord (word : List ℕ) : Type 0 where
  pub free : is_option word ≡ false
  pub undivided : has_equals word ≡ false

-- the word of a property is no option, and the `=` behind the name is its first
pub record IsReadableProp (prop : Prop) : Type 0 where
  pub free : is_option (prop_word prop).1 ≡ false
  pub undivided : has_equals prop.name ≡ false

-- a group whose words can be read as no other; each kind but the producer's has its option
pub record IsReadable (group : Group) : Type 0 where
  pub producer : group.kind ≡ Producer → IsProducerWord group.arg
  pub each : All IsReadableProp group.props

-- groups that these words can be: each is allowed and readable, and their words, in order, are these
pub record AreGroupsOf (words : List (List ℕ)) (gs : List Group) : Type 0 where
  pub few : length words ≤ MOST_WORDS
  pub kept : flat_map words_of gs ≡ enumerate_from 0 words
  pub allowed : All IsAllowed gs
  pub readable : All IsReadable gs
