-- What a host in memory keeps of a port, and when it lacks room for more.
use Rattle.std.specs.Prelude.{◌≡◌, ◌⊎◌, ℕ, ◌+◌, ◌<◌, List, length, take, Option, IsSomeAnd, vec_len, vec_capacity, string_bytes}
use Rattle.std.specs.String.{string_capacity}
use Rattle.mlt_host.specs.declared.kept.Kept.{Kept}
use Rattle.mlt_host.specs.Host.{PortState, cut_short}

-- what it tells of the port
abbrev pub kept_state : Kept → PortState
kept_state kept = record { name = string_bytes kept.name; bytes = kept.bytes.items; acknowledged = kept.acknowledged }

-- the list of bytes has to grow to take so many more
abbrev pub LacksRoom : Option Kept → ℕ → Type 0
LacksRoom kept extra = IsSomeAnd kept (λ port. vec_capacity port.bytes < vec_len port.bytes + extra)

-- the text of the name has to grow to hold so many bytes
abbrev pub LacksNameRoom : Option Kept → ℕ → Type 0
LacksNameRoom kept size = IsSomeAnd kept (λ port. string_capacity port.name < size)

-- the front of the piece was added; or nothing, but only where the front lacked room
abbrev pub FrontOrFull : Kept → Kept → List ℕ → ℕ → Type 0
FrontOrFull old new piece kept =
    (kept_state new ≡ cut_short (kept_state old) piece kept)
    ⊎ (vec_capacity old.bytes < vec_len old.bytes + length (take kept piece)) × (kept_state new ≡ kept_state old)
