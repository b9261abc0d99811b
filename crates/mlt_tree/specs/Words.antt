-- How words are read into groups, word after word, or the first fault: exactly the groups that they are the words of.
use Rattle.std.specs.Prelude.{ℕ, ◌+◌, Bool, true, false, nat_lt, if◌then◌else◌, List, [], ◌∷◌, ◌++◌, length, Option, None, Some, Result, Ok, Err}
use Rattle.std.specs.List.{position_or_len, before_first, after_first}
use Rattle.mlt_base.specs.Steps.{◌>>=◌}
use Rattle.mlt_base.specs.declared.faults.WordFault.{WordFault}
use Rattle.mlt_base.specs.declared.faults.WordCause.{WordCause}
use Rattle.mlt_base.specs.declared.faults.WordCause.TheVariants.{UnknownOption, Unsupported, MissingArgument, StrayProperty, TooMany}
use Rattle.mlt_base.specs.declared.limits.TheConstants.{MOST_WORDS}
use Rattle.mlt_tree.specs.declared.group.Group.{Group}
use Rattle.mlt_tree.specs.declared.group.GroupKind.{GroupKind}
use Rattle.mlt_tree.specs.declared.group.GroupKind.TheVariants.{Producer}
use Rattle.mlt_tree.specs.declared.group.Prop.{Prop}
use Rattle.mlt_tree.specs.declared.table.Row.{Row}
use Rattle.mlt_tree.specs.GroupWords.{is_option, is_equals}
use Rattle.mlt_tree.specs.Table.{option_of}

abbrev pub fault : {A : Type 0} → ℕ → WordCause → Result A WordFault
fault place cause = Err (record { place = place; cause = cause })

-- what the next word finds before it
pub data Last : Type 0 where
  -- no word at all
  Nothing : Last
  -- an option that takes the word as its argument, whatever it looks like, and whether properties may follow
  Waiting : (place : ℕ) (kind : GroupKind) (properties : Bool) → Last
  -- a group, and whether properties may follow
  Open : (group : Group) (properties : Bool) → Last

-- how far words are read: the groups behind which another stands, and the last one
pub record WordsRead : Type 0 where
  pub done : List Group
  pub last : Last

abbrev pub nothing_read : WordsRead
nothing_read = record { done = []; last = Nothing }

-- the last one, where it is whole
abbrev pub open_group : Last → List Group
open_group Nothing = []
open_group (Waiting place kind properties) = []
open_group (Open group properties) = group ∷ []

abbrev pub groups_of : WordsRead → List Group
groups_of s = s.done ++ open_group s.last

abbrev pub then_last : Last → WordsRead → WordsRead
then_last last s = record { done = groups_of s; last = last }

-- a group that has no property yet
abbrev pub begin : ℕ → GroupKind → List ℕ → Bool → WordsRead → WordsRead
begin place kind arg properties = then_last (Open (record { place = place; kind = kind; arg = arg; props = [] }) properties)

abbrev pub known : ℕ → Option Row → Result Row WordFault
known place None = fault place UnknownOption
known place (Some row) = Ok row

abbrev pub supported : ℕ → Option GroupKind → Result GroupKind WordFault
supported place None = fault place Unsupported
supported place (Some kind) = Ok kind

-- an option is a group at once, or waits for its argument
unfoldable pub option_word : ℕ → List ℕ → WordsRead → Result WordsRead WordFault
option_word place word s = do
  row ← known place (option_of word)
  kind ← supported place row.kind
  Ok (if row.argument then then_last (Waiting place kind row.properties) s else begin place kind [] row.properties s)

-- what stands before the first `=`, and what behind it
abbrev pub divided : List ℕ → Option (List ℕ × List ℕ)
divided word =
    if nat_lt (position_or_len is_equals word) (length word) then Some (before_first is_equals word, after_first is_equals word) else None

abbrev pub with_prop : Prop → Group → Group
with_prop prop group = record group { props = group.props ++ prop ∷ [] }

-- a property has a name, and is the last group's, where that takes any
unfoldable pub property_word : ℕ → List ℕ → List ℕ → WordsRead → Result WordsRead WordFault
property_word place [] value s = fault place StrayProperty
property_word place (c ∷ name) value s = behind s.last where
  behind : Last → Result WordsRead WordFault
  behind Nothing = fault place StrayProperty
  behind (Waiting option kind properties) = fault place StrayProperty
  behind (Open group false) = fault place StrayProperty
  behind (Open group true) =
      Ok (record s { last = Open (with_prop (record { place = place; name = c ∷ name; value = value }) group) true })

-- any other word with `=` is a property, and any other without is a producer
abbrev pub plain_word : ℕ → List ℕ → Option (List ℕ × List ℕ) → WordsRead → Result WordsRead WordFault
plain_word place word None s = Ok (begin place Producer word true s)
plain_word place word (Some (name, value)) s = property_word place name value s

abbrev pub free_word : ℕ → List ℕ → WordsRead → Result WordsRead WordFault
free_word place word s = if is_option word then option_word place word s else plain_word place word (divided word) s

-- one word: the argument of the option before it, or free
unfoldable pub step : ℕ → List ℕ → WordsRead → Result WordsRead WordFault
step place word s = behind s.last where
  behind : Last → Result WordsRead WordFault
  behind Nothing = free_word place word s
  behind (Waiting option kind properties) = Ok (begin option kind word properties s)
  behind (Open group properties) = free_word place word s

-- words from this place on
abbrev pub steps : ℕ → List (List ℕ) → WordsRead → Result WordsRead WordFault
steps place [] s = Ok s
steps place (word ∷ words) s = step place word s >>= steps (place + 1) words

-- no option may still wait for its argument
unfoldable pub finish : WordsRead → Result (List Group) WordFault
finish s = behind s.last where
  behind : Last → Result (List Group) WordFault
  behind Nothing = Ok (groups_of s)
  behind (Waiting option kind properties) = fault option MissingArgument
  behind (Open group properties) = Ok (groups_of s)

-- the groups of words, or the first fault
unfoldable pub groups : List (List ℕ) → Result (List Group) WordFault
groups words =
    if nat_lt MOST_WORDS (length words) then fault MOST_WORDS (TooMany MOST_WORDS) else (steps 0 words nothing_read >>= finish)
