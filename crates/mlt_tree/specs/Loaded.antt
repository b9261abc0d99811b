-- What is made of a file that a word names, and how long such a file may be.
use Rattle.std.specs.Prelude.{ℕ, ◌+◌, ◌-◌, min, nat_le, if◌then◌else◌, List, length, Result, Ok, Err}
use Rattle.mlt_base.specs.declared.fault.PpmFault.{PpmFault}
use Rattle.mlt_tree.specs.declared.limits.TheConstants as limit
use Rattle.mlt_base.specs.Ppm.{ppm}
use Rattle.mlt_base.specs.Profile.{Measures}
use Rattle.mlt_base.specs.Still.{Picture}
use Rattle.mlt_tree.specs.declared.refusal.Cause.TheVariants as cause
use Rattle.mlt_tree.specs.declared.refusal.Refusal.{Refusal}
use Rattle.mlt_tree.specs.Clips.{Wanted, Product, source_made}
use Rattle.mlt_tree.specs.Composition.{Made}
use Rattle.mlt_tree.specs.Loading.{Files, Read, look_up, done, plainly, ◌>>=◌}
use Rattle.mlt_tree.specs.Refusing.{refuse}
use Rattle.mlt_tree.specs.Show.{Drawn}

-- how many bytes the next file may have, where so many bytes are loaded
abbrev pub load_limit : ℕ → ℕ
load_limit loaded = min limit.MOST_OF_FILE (limit.MOST_LOADED - loaded)

-- a file for a word at a place, which is refused where it is longer than a limit
unfoldable pub file_within : Files → (place : ℕ) (name : List ℕ) (limit : ℕ) → Read (List ℕ)
file_within files place name limit =
    look_up files place name >>= λ bytes. plainly (if nat_le (length bytes) limit then Ok bytes else refuse place (cause.FileTooLarge limit))

-- what a picture's file holds, for a word at a place
abbrev pub picture_in : ℕ → Result Picture PpmFault → Result Picture Refusal
picture_in place (Ok picture) = Ok picture
picture_in place (Err fault) = refuse place (cause.BadPicture fault)

-- with so many more bytes loaded
abbrev pub with_loaded : Made → ℕ → Made
with_loaded made bytes = record made { loaded = made.loaded + bytes }

-- the picture of a file, and what is made with its bytes counted
unfoldable pub picture_loaded : Files → Made → (place : ℕ) (name : List ℕ) → Read (Made × Picture)
picture_loaded files made place name = do
  bytes ← file_within files place name (load_limit made.loaded)
  picture ← plainly (picture_in place (ppm bytes))
  done (with_loaded made (length bytes), picture)

-- the source of a picture's file
unfoldable pub picture_made : Files → Measures → Made → (place : ℕ) (name : List ℕ) → Wanted → Read Product
picture_made files profile made place name asked =
    picture_loaded files made place name >>= λ read. done (source_made profile read.0 (Drawn read.1) asked)
