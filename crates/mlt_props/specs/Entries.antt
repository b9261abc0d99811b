-- What a bag of properties holds, and what each call makes of it.
use Rattle.std.specs.Prelude.{◌≡◌, ℕ, Bool, ◌&&◌, List, [], ◌∷◌, ◌++◌, filter, filter_map, fold, reverse, take, ℤ, Option, None, Some, is_none, option_to_list, option_and_then, nat_eq, bytes_eq}
use Rattle.std.specs.List.{starts_with, IsDistinct}
use Rattle.std.specs.Map.{keys_of, lookup, remove_entry}
use Rattle.std.specs.Option.{option_or}
use Rattle.indexmap.specs.IndexMap.{insert_entry}

-- the value of a property: a text as its bytes, a whole number, or an owned value
pub data Content (D : Type 0) : Type 0 where
  Words : List ℕ → Content D
  Whole : ℤ → Content D
  Kept : D → Content D

-- the properties in order, each as its name and its value
abbrev pub Entries : Type 0 → Type 0
Entries D = List (List ℕ × Content D)

module _ {D : Type 0} where
  -- a value as a text, where it is one
  abbrev pub as_text : Content D → Option (List ℕ)
  as_text (Words text) = Some text
  as_text (Whole _) = None
  as_text (Kept _) = None

  -- a value as a whole number, where it is one
  abbrev pub as_number : Content D → Option ℤ
  as_number (Words _) = None
  as_number (Whole number) = Some number
  as_number (Kept _) = None

  -- a value as an owned value, where it is one
  abbrev pub as_owned : Content D → Option D
  as_owned (Words _) = None
  as_owned (Whole _) = None
  as_owned (Kept value) = Some value

  -- no name stands twice
  abbrev pub HasDistinctNames : Entries D → Type 0
  HasDistinctNames es = IsDistinct bytes_eq (keys_of es)

  -- the value of a name
  abbrev pub value_of : Entries D → List ℕ → Option (Content D)
  value_of es name = lookup (bytes_eq name) es

  -- the text of a name, where it has one
  abbrev pub text_of : Entries D → List ℕ → Option (List ℕ)
  text_of es name = option_and_then as_text (value_of es name)

  -- the whole number of a name, where it has one
  abbrev pub number_of : Entries D → List ℕ → Option ℤ
  number_of es name = option_and_then as_number (value_of es name)

  -- the owned value of a name, where it has one
  abbrev pub owned_of : Entries D → List ℕ → Option D
  owned_of es name = option_and_then as_owned (value_of es name)

  -- the owned values, in order
  abbrev pub all_owned : Entries D → List D
  all_owned es = filter_map (λ e. as_owned e.1) es

  -- the properties after a name is set: one that is there keeps its place, a new one goes last
  abbrev pub set_at : Entries D → List ℕ → Content D → Entries D
  set_at es name value = insert_entry bytes_eq es name value

  -- the properties after these settings, one after another
  abbrev pub set_all : Entries D → Entries D → Entries D
  set_all es settings = fold (λ done p. set_at done p.0 p.1) es settings

  -- the owned values that these settings replace, in order
  abbrev pub replaced : Entries D → Entries D → List D
  replaced es [] = []
  replaced es (p ∷ settings) = option_to_list (owned_of es p.0) ++ replaced (set_at es p.0 p.1) settings

  -- the properties without a name, the others in their order
  abbrev pub without : Entries D → List ℕ → Entries D
  without es name = remove_entry (bytes_eq name) es

  -- whether a property is a text or a whole number, and its name begins with the prefix
  abbrev pub is_passed : List ℕ → List ℕ × Content D → Bool
  is_passed prefix e = starts_with nat_eq e.0 prefix && is_none (as_owned e.1)

  -- those of the properties, in order
  abbrev pub passed : List ℕ → Entries D → Entries D
  passed prefix es = filter (is_passed prefix) es

  -- a name was set to a value, and an owned value that it had before went into the bin
  pub record Sets (name : List ℕ) (value : Content D) (old new : Entries D) (bin bin' : List D) : Type 0 where
    pub entries : new ≡ set_at old name value
    pub ended : bin' ≡ bin ++ option_to_list (owned_of old name)

  -- these settings were made in order, and the owned values that they replaced went into the bin
  pub record SetsAll (settings : Entries D) (old new : Entries D) (bin bin' : List D) : Type 0 where
    pub entries : new ≡ set_all old settings
    pub ended : bin' ≡ bin ++ replaced old settings

  -- the first of these settings were made, and the others not
  abbrev pub SetsSome : Entries D → Entries D → Entries D → List D → List D → Type 0
  SetsSome settings old new bin bin' = (n : ℕ) × SetsAll (take n settings) old new bin bin'

-- the last of several settings of a name counts, and where none is of the name its old value
abbrev pub LastSettingCounts : Type 0 → Type 0
LastSettingCounts D =
    (es settings : Entries D) (name : List ℕ)
    → value_of (set_all es settings) name ≡ option_or (value_of (reverse settings) name) (value_of es name)
