-- The services, by the words that name them.
use Rattle.std.specs.Prelude.{ℕ, ◌++◌, Bool, true, false, if◌then◌else◌, List, [], ◌∷◌, Option, None, Some, find, codes, nat_eq}
use Rattle.std.specs.List.{ends_with, flat_map}
use Rattle.std.specs.Option.{option_map}
use Rattle.std.specs.Str.{bytes_eq}
use Rattle.mlt_base.specs.SplitOnce.{split_once}
use Rattle.mlt_base.specs.Name.{name_of}
use Rattle.mlt_base.specs.declared.name.Name.{Name}
use Rattle.mlt_tree.specs.declared.services.Producer.{Producer}
use Rattle.mlt_tree.specs.declared.services.Producer.TheVariants.{Colour, Picture, Sound, Melt}
use Rattle.mlt_tree.specs.declared.services.ProducerRow.{ProducerRow}
use Rattle.mlt_tree.specs.declared.services.FilterRow.{FilterRow}
use Rattle.mlt_tree.specs.declared.services.MergeRow.{MergeRow}
use Rattle.mlt_tree.specs.declared.services.TheConstants.{PRODUCERS, FILTERS, MERGES, RAW}

-- names, each with a line end
abbrev pub listed : List Name → List ℕ
listed names = flat_map (λ name. name_of name ++ codes "\n") names

-- ---- producers

abbrev pub is_id : List ℕ → ProducerRow → Bool
is_id id row = bytes_eq (name_of row.name) id

-- the producer of an id
abbrev pub producer_named : List ℕ → Option Producer
producer_named id = option_map (λ row. row.kind) (find (is_id id) PRODUCERS)

abbrev pub ends_in : List ℕ → Option Name → Bool
ends_in file None = false
ends_in file (Some ending) = ends_with nat_eq file (name_of ending)

-- the producer of a file, by its ending
abbrev pub producer_of_file : List ℕ → Option Producer
producer_of_file file = option_map (λ row. row.kind) (find (λ row. ends_in file row.ending) PRODUCERS)

-- a producer and its argument
pub record Named : Type 0 where
  pub producer : Producer
  pub arg : List ℕ

abbrev pub with_arg : List ℕ → Option Producer → Option Named
with_arg arg None = None
with_arg arg (Some producer) = Some (record { producer = producer; arg = arg })

abbrev pub or_file : List ℕ → Option Named → Option Named
or_file word None = with_arg word (producer_of_file word)
or_file word (Some named) = Some named

-- what stands before the first `:`, where that is the id of a producer, and behind it
abbrev pub by_id : Option (List ℕ × List ℕ) → Option Named
by_id None = None
by_id (Some parts) = with_arg parts.1 (producer_named parts.0)

-- whether its id may stand alone
abbrev pub stands_alone : Option Producer → Bool
stands_alone None = false
stands_alone (Some Colour) = true
stands_alone (Some Picture) = false
stands_alone (Some Sound) = false
stands_alone (Some Melt) = false

-- the producer that a word names: `id:arg`, else a file by its ending; a colour's id may stand alone
abbrev pub producer_of : List ℕ → Option Named
producer_of word =
    if stands_alone (producer_named word) then Some (record { producer = Colour; arg = [] }) else or_file word (by_id (split_once 58 word))

-- the text of a colour, `black` where it is empty
abbrev pub colour_name : List ℕ → List ℕ
colour_name [] = codes "black"
colour_name (c ∷ cs) = c ∷ cs

-- ---- consumers

-- the name of an output, `-` where it is empty
abbrev pub output_name : List ℕ → List ℕ
output_name [] = codes "-"
output_name (c ∷ cs) = c ∷ cs

abbrev pub raw_by_id : Option (List ℕ × List ℕ) → Option (List ℕ)
raw_by_id None = None
raw_by_id (Some parts) = if bytes_eq parts.0 (name_of RAW) then Some (output_name parts.1) else None

-- the name of the output of the consumer `raw`, where a word names that
abbrev pub raw_of : List ℕ → Option (List ℕ)
raw_of word = if bytes_eq word (name_of RAW) then Some (codes "-") else raw_by_id (split_once 58 word)

-- ---- filters and merges

-- the id of a word, and what stands behind the first `:`, where there is one
pub record Called : Type 0 where
  pub id : List ℕ
  pub value : Option (List ℕ)

abbrev pub called_by : List ℕ → Option (List ℕ × List ℕ) → Called
called_by word None = record { id = word; value = None }
called_by word (Some parts) = record { id = parts.0; value = Some parts.1 }

abbrev pub called : List ℕ → Called
called word = called_by word (split_once 58 word)

abbrev pub is_filter : List ℕ → FilterRow → Bool
is_filter id row = bytes_eq (name_of row.name) id

-- the filter of an id
abbrev pub filter_named : List ℕ → Option FilterRow
filter_named id = find (is_filter id) FILTERS

abbrev pub is_merge : List ℕ → MergeRow → Bool
is_merge id row = bytes_eq (name_of row.name) id

-- the merge of an id
abbrev pub merge_named : List ℕ → Option MergeRow
merge_named id = find (is_merge id) MERGES
