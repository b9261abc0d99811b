-- Options that may stand once, what services take, and runs, tried on small ones: each line is checked by computing
-- both of its sides.
use Rattle.std.specs.Prelude.{ℕ, ◌≡◌, ◌+◌, refl, List, [], ◌∷◌, None, Some, Ok, codes}
use Rattle.mlt_base.specs.declared.port.Port.TheVariants.{Video}
use Rattle.mlt_base.specs.declared.table.TheConstants.{DV_PAL}
use Rattle.mlt_base.specs.Profile.{row_measures}
use Rattle.mlt_base.specs.SplitOnce.{split_once}
use Rattle.mlt_tree.specs.declared.group.Group.{Group}
use Rattle.mlt_tree.specs.declared.group.GroupKind.{GroupKind}
use Rattle.mlt_tree.specs.declared.group.GroupKind.TheVariants as kind
use Rattle.mlt_tree.specs.declared.group.Prop.{Prop}
use Rattle.mlt_tree.specs.declared.query.QueryKind.TheVariants.{Filters}
use Rattle.mlt_tree.specs.declared.refusal.Cause.TheVariants as cause
use Rattle.mlt_tree.specs.Clips.{OfWords, asked_for, range_by}
use Rattle.mlt_tree.specs.Composing.{no_words, effect, producer}
use Rattle.mlt_tree.specs.Composition.{State, begun}
use Rattle.mlt_tree.specs.Loading.{no_files, Refused, stopped}
use Rattle.mlt_tree.specs.Reading.{query_made}
use Rattle.mlt_tree.specs.Refusing.{refuse, refusal_at}
use Rattle.mlt_tree.specs.Show.{Run, bytes_to, loads_to}

-- ---- options that may stand once

abbrev option : ℕ → GroupKind → List ℕ → Group
option place kind arg = record { place = place; kind = kind; arg = arg; props = [] }

abbrev asks : ℕ → List ℕ → Group
asks place name = option place kind.Query name

nothing_asked : query_made (option 0 kind.Quiet [] ∷ []) ≡ Ok None
unfolding query_made
nothing_asked = refl

asked_once : query_made (option 0 kind.Quiet [] ∷ asks 1 (codes "filters") ∷ []) ≡ Ok (Some Filters)
unfolding query_made
asked_once = refl

asked_twice : query_made (asks 1 (codes "filters") ∷ asks 3 (codes "filters") ∷ []) ≡ refuse 3 (cause.TooMany 1)
unfolding query_made
asked_twice = refl

-- the first is read before the second is seen
asked_badly : query_made (asks 1 (codes "colours") ∷ asks 3 (codes "filters") ∷ []) ≡ refuse 1 cause.BadValue
unfolding query_made
asked_badly = refl

-- ---- what services take

abbrev s : State
s = begun (row_measures DV_PAL) 9

abbrev names : ℕ → List ℕ → List Prop → Group
names place word props = record { place = place; kind = kind.Producer; arg = word; props = props }

abbrev bad_length : List Prop
bad_length = record { place = 4; name = codes "length"; value = codes "" } ∷ []

-- a file of words has no property `length`
words_without_length : asked_for s (names 3 (codes "a.melt") bad_length) ≡ Ok (OfWords (codes "a.melt"), record { first = 0; last = None; length = None })
unfolding asked_for range_by split_once
words_without_length = refl

no_words_yet : effect no_files no_words s (names 3 (codes "a.melt") []) ≡ stopped (Refused (refusal_at 3 cause.Unsupported))
unfolding effect producer asked_for range_by split_once
no_words_yet = refl

-- ---- runs

-- two positions, each with one byte more than the one before, which load one source and two
abbrev small : Run
small = record { name = λ port. Some (codes "v"); gives = λ port n. n ∷ []; frames = 2; loads = λ n. n + 1; buffer = 1 }

no_byte : bytes_to small Video 0 ≡ []
no_byte = refl

both_positions : bytes_to small Video 2 ≡ 0 ∷ 1 ∷ []
both_positions = refl

both_loads : loads_to small 2 ≡ 3
both_loads = refl
