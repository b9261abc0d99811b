-- What a bag keeps, seen as its properties.
use Rattle.std.specs.Prelude.{List, map, String, string_bytes}
use Rattle.mlt_props.specs.declared.held.Held.{Held}
use Rattle.mlt_props.specs.declared.held.Held.TheVariants.{Text, Int, Owned}
use Rattle.mlt_props.specs.Entries.{Content, Entries}
use Rattle.mlt_props.specs.Entries.Content.{Words, Whole, Kept}

module _ {D : Type 0} where
  -- the value that is kept
  abbrev pub content : Held D → Content D
  content (Text text) = Words (string_bytes text)
  content (Int number) = Whole number
  content (Owned value) = Kept value

  -- the properties that are kept
  abbrev pub entries_of : {A : Type 0} → List (String A × Held D) → Entries D
  entries_of kept = map (λ e. (string_bytes e.0, content e.1)) kept
