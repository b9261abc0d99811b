-- The files of a host in memory, and the names that were asked of it.
use Rattle.std.specs.Prelude.{◌≡◌, ◌≢◌, ℕ, List, length, map, Option, Some, None, Result, Ok, Err, option_map, string_bytes, nat_le, if◌then◌else◌, Vec, String}
use Rattle.std.specs.BTreeMap.{BTreeMap, get_by_text}
use Rattle.std.specs.declared.alloc.Global.{Global}
use Rattle.mlt_host.specs.declared.host.LoadFault.{LoadFault}
use Rattle.mlt_host.specs.declared.host.LoadFault.TheVariants.{Missing, Failed, TooLarge, Memory}

-- the bytes of the file of that name
abbrev pub file_in : BTreeMap (String Global) (Vec ℕ Global) → List ℕ → Option (List ℕ)
file_in files name = option_map (λ bytes. bytes.items) (get_by_text files name)

-- the names that were asked, in order
abbrev pub names_in : List (String Global) → List (List ℕ)
names_in asked = map string_bytes asked

-- the answer of a load that isn't to fail, where memory suffices
abbrev pub answer_of : Option (List ℕ) → ℕ → Result (List ℕ) LoadFault
answer_of None limit = Err Missing
answer_of (Some bytes) limit = if nat_le (length bytes) limit then Ok bytes else Err (TooLarge limit)

-- the answer is this one, or Memory
abbrev pub Answers : Result (Vec ℕ Global) LoadFault → Result (List ℕ) LoadFault → Type 0
Answers (Ok bytes) wanted = wanted ≡ Ok bytes.items
Answers (Err Missing) wanted = wanted ≡ Err Missing
Answers (Err Failed) wanted = wanted ≡ Err Failed
Answers (Err (TooLarge limit)) wanted = wanted ≡ Err (TooLarge limit)
Answers (Err Memory) wanted = Unit {0}

-- the file of that name has these bytes afterwards, and each other file those from before
pub record GivesFile (name bytes : List ℕ) (before after : List ℕ → Option (List ℕ)) : Type 0 where
  pub given : after name ≡ Some bytes
  pub others : (other : List ℕ) → other ≢ name → after other ≡ before other
