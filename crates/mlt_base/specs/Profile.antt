-- Profiles: a name of the table, or `WxH@num/den`.
use Rattle.std.specs.Prelude.{ℕ, ◌*◌, Bool, List, length, Option, Some, None, nat_le, ◌==◌, ◌&&◌, if◌then◌else◌}
use Rattle.std.specs.List.{find}
use Rattle.std.specs.Str.{bytes_eq}
use Rattle.mlt_base.specs.declared.limits.TheConstants.{MOST_PIXELS, MOST_OF_RATE, MOST_RATE}
use Rattle.mlt_base.specs.declared.table.NamedProfile.{NamedProfile}
use Rattle.mlt_base.specs.declared.table.TheConstants.{PROFILES}
use Rattle.mlt_base.specs.Name.{name_of}
use Rattle.mlt_base.specs.Reading.{number, digit_count}
use Rattle.mlt_base.specs.Options.{◌>>=◌}
use Rattle.mlt_base.specs.SplitOnce.{split_once}

-- the numbers of a profile: pixels, and num/den frames a second
pub record Measures : Type 0 where
  pub width : ℕ
  pub height : ℕ
  pub num : ℕ
  pub den : ℕ

abbrev pub measures : ℕ → ℕ → ℕ → ℕ → Measures
measures width height num den = record { width = width; height = height; num = num; den = den }

abbrev pub row_measures : NamedProfile → Measures
row_measures row = record { width = row.width; height = row.height; num = row.num; den = row.den }

-- ---- limits

abbrev pub is_size : ℕ → Bool
is_size n = nat_le 1 n && nat_le n MOST_PIXELS

-- at least one frame a second, and at most as many as the limit says
abbrev pub is_rate : ℕ → ℕ → Bool
is_rate num den = nat_le 1 den && nat_le num MOST_OF_RATE && nat_le den num && nat_le num (MOST_RATE * den)

unfoldable pub within : Measures → Option Measures
within m = if is_size m.width && is_size m.height && is_rate m.num m.den then Some m else None

-- ---- the spelled form

-- digits alone, of a number up to a limit
unfoldable pub field : ℕ → List ℕ → Option ℕ
field limit text = if digit_count text == length text && nat_le (number text) limit then Some (number text) else None

-- two such fields with a mark between them
unfoldable pub pair : ℕ → ℕ → List ℕ → Option (ℕ × ℕ)
pair mark limit text = do
  parts ← split_once mark text
  first ← field limit parts.0
  second ← field limit parts.1
  Some (first, second)

-- 64 is `@`, 120 is `x` and 47 is `/`
unfoldable pub spelled : List ℕ → Option Measures
spelled text = do
  halves ← split_once 64 text
  size ← pair 120 MOST_PIXELS halves.0
  rate ← pair 47 MOST_OF_RATE halves.1
  within (record { width = size.0; height = size.1; num = rate.0; den = rate.1 })

-- ---- the table

abbrev pub is_named : List ℕ → NamedProfile → Bool
is_named text row = bytes_eq (name_of row.name) text

abbrev pub profile_from : List ℕ → Option NamedProfile → Option Measures
profile_from text (Some row) = within (row_measures row)
profile_from text None = spelled text

unfoldable pub profile : List ℕ → Option Measures
profile text = profile_from text (find (is_named text) PROFILES)
