-- What words are made up of, tried on short lists: each line is checked by computing both of its sides.
use Rattle.std.specs.Prelude.{ℕ, ◌≡◌, refl, List, [], ◌∷◌, Option, None, Some, Ok, option_map, codes}
use Rattle.mlt_base.specs.declared.faults.WordCause.TheVariants.{UnknownOption, Unsupported, MissingArgument, StrayProperty}
use Rattle.mlt_base.specs.Name.{name_of}
use Rattle.mlt_tree.specs.declared.group.Group.{Group}
use Rattle.mlt_tree.specs.declared.group.GroupKind.{GroupKind}
use Rattle.mlt_tree.specs.declared.group.GroupKind.TheVariants.{Producer, Split, Filter, Track, NullTrack}
use Rattle.mlt_tree.specs.Table.{option_of, option_row}
use Rattle.mlt_tree.specs.Words.{groups, step, finish, option_word, property_word, fault}

-- a group without properties
abbrev alone : ℕ → GroupKind → List ℕ → Group
alone place kind arg = record { place = place; kind = kind; arg = arg; props = [] }

-- a filter behind a clip that is split at its fourth frame
with_filter : groups (codes "a.ppm" ∷ codes "-split" ∷ codes "3" ∷ codes "-filter" ∷ codes "sepia" ∷ codes "in=1" ∷ codes "out=2" ∷ []) ≡ Ok (alone 0 Producer (codes "a.ppm") ∷ alone 1 Split (codes "3") ∷ record { place = 3; kind = Filter; arg = codes "sepia"; props = record { place = 5; name = codes "in"; value = codes "1" } ∷ record { place = 6; name = codes "out"; value = codes "2" } ∷ [] } ∷ [])
unfolding groups step finish option_word property_word option_of
with_filter = refl

-- an argument is taken as it is
argument_as_it_is : groups (codes "-filter" ∷ codes "-track" ∷ codes "-split" ∷ codes "in=3" ∷ []) ≡ Ok (alone 0 Filter (codes "-track") ∷ alone 2 Split (codes "in=3") ∷ [])
unfolding groups step finish option_word property_word option_of
argument_as_it_is = refl

-- an option that takes none leaves the next word
no_argument : groups (codes "-track" ∷ codes "in=3" ∷ codes "-null-track" ∷ codes "b" ∷ []) ≡ Ok (record { place = 0; kind = Track; arg = []; props = record { place = 1; name = codes "in"; value = codes "3" } ∷ [] } ∷ alone 2 NullTrack [] ∷ alone 3 Producer (codes "b") ∷ [])
unfolding groups step finish option_word property_word option_of
no_argument = refl

-- the first `=` divides, and a value may be empty
first_mark : groups (codes "a" ∷ codes "b=c=d" ∷ codes "e=" ∷ []) ≡ Ok (record { place = 0; kind = Producer; arg = codes "a"; props = record { place = 1; name = codes "b"; value = codes "c=d" } ∷ record { place = 2; name = codes "e"; value = [] } ∷ [] } ∷ [])
unfolding groups step finish option_word property_word option_of
first_mark = refl

-- the mark of an option alone is a producer, and so is the empty word
mark_alone : groups (codes "-" ∷ codes "" ∷ []) ≡ Ok (alone 0 Producer (codes "-") ∷ alone 1 Producer [] ∷ [])
unfolding groups step finish option_word property_word option_of
mark_alone = refl

no_words : groups [] ≡ Ok []
unfolding groups step finish option_word property_word option_of
no_words = refl

unknown : groups (codes "a" ∷ codes "b" ∷ codes "c" ∷ codes "d" ∷ codes "-foo" ∷ []) ≡ fault 4 UnknownOption
unfolding groups step finish option_word property_word option_of
unknown = refl

-- an option has no `=` in its word
unknown_with_mark : groups (codes "-a=b" ∷ []) ≡ fault 0 UnknownOption
unfolding groups step finish option_word property_word option_of
unknown_with_mark = refl

-- nor may blanks stand behind it
unknown_with_blank : groups (codes "-mix " ∷ []) ≡ fault 0 UnknownOption
unfolding groups step finish option_word property_word option_of
unknown_with_blank = refl

not_supported : groups (codes "a" ∷ codes "-jack" ∷ []) ≡ fault 1 Unsupported
unfolding groups step finish option_word property_word option_of
not_supported = refl

no_argument_left : groups (codes "a" ∷ codes "-swap" ∷ codes "-split" ∷ []) ≡ fault 2 MissingArgument
unfolding groups step finish option_word property_word option_of
no_argument_left = refl

-- an option that takes no properties
stray_at_option : groups (codes "a" ∷ codes "-split" ∷ codes "0" ∷ codes "out=3" ∷ []) ≡ fault 3 StrayProperty
unfolding groups step finish option_word property_word option_of
stray_at_option = refl

-- a property without a name
stray_nameless : groups (codes "a" ∷ codes "=x" ∷ []) ≡ fault 1 StrayProperty
unfolding groups step finish option_word property_word option_of
stray_nameless = refl

-- a property behind no group
stray_at_front : groups (codes "a=b" ∷ []) ≡ fault 0 StrayProperty
unfolding groups step finish option_word property_word option_of
stray_at_front = refl

-- the word of a kind, by the table
abbrev word_of : GroupKind → Option (List ℕ)
word_of kind = option_map (λ row. name_of row.name) (option_row kind)

name_of_kind : word_of NullTrack ≡ Some (codes "-null-track")
unfolding option_row
name_of_kind = refl

of_no_option : word_of Producer ≡ None
unfolding option_row
of_no_option = refl
