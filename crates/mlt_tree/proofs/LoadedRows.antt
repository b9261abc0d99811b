-- Files that producers name: each line is checked by computing both of its sides.
use Rattle.std.specs.Prelude.{ℕ, ◌≡◌, refl, if◌then◌else◌, List, [], ◌∷◌, None, Some, Err, Ok, codes}
use Rattle.std.specs.Str.{bytes_eq}
use Rattle.mlt_tree.specs.declared.refusal.Cause.TheVariants.{FileTooLarge}
use Rattle.mlt_tree.specs.Loaded.{load_limit, file_within}
use Rattle.mlt_tree.specs.Loading.{Files, Load, Missing, Refused}
use Rattle.mlt_tree.specs.Refusing.{refusal_at}

first_limit : load_limit 0 ≡ 268435456
first_limit = refl

whole_limit : load_limit 805306368 ≡ 268435456
whole_limit = refl

last_byte : load_limit 1073741823 ≡ 1
last_byte = refl

nothing_left : load_limit 1073741824 ≡ 0
nothing_left = refl

-- one file, of three bytes
abbrev three_bytes : Files
three_bytes name = if bytes_eq name (codes "a") then Some (1 ∷ 2 ∷ 3 ∷ []) else None

abbrev load : List ℕ → Load
load name = record { place = 4; name = name }

just_within : file_within three_bytes 4 (codes "a") 3 ≡ record { loads = load (codes "a") ∷ []; end = Ok (1 ∷ 2 ∷ 3 ∷ []) }
unfolding file_within
just_within = refl

too_long : file_within three_bytes 4 (codes "a") 2 ≡ record { loads = load (codes "a") ∷ []; end = Err (Refused (refusal_at 4 (FileTooLarge 2))) }
unfolding file_within
too_long = refl

not_there : file_within three_bytes 4 (codes "b") 2 ≡ record { loads = load (codes "b") ∷ []; end = Err (Missing 4) }
unfolding file_within
not_there = refl
