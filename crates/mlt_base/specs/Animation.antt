-- Animations: a value that goes from key to key.
use Rattle.std.specs.Prelude.{◌≡◌, ℕ, ◌+◌, ◌-◌, ◌*◌, ◌/◌, ◌^◌, ◌<◌, Bool, true, false, List, [], ◌∷◌, length, Option, Some, None, Result, Ok, Err, nat_lt, ◌==◌, ◌&&◌, if◌then◌else◌}
use Rattle.std.specs.List.{slice_split, list_any, before_first, after_first}
use Rattle.mlt_base.specs.declared.fault.NumFault.{NumFault}
use Rattle.mlt_base.specs.declared.fault.NumFault.TheVariants.{BadDigit, Order, Smooth}
use Rattle.mlt_base.specs.declared.animation.Key.{Key}
use Rattle.mlt_base.specs.Reading.{held, number, digits_at, below}
use Rattle.mlt_base.specs.Steps.{◌>>=◌}
use Rattle.mlt_base.specs.Decimal.{decimal}

-- ---- what an animation is at a frame

-- between two keys: the first value where the first key is discrete, else on the line between them, rounded down
abbrev pub between : Key → Key → ℕ → ℕ
between a b p =
    if a.discrete then a.value.0
    else (a.value.0 * (b.frame - p) + b.value.0 * (p - a.frame)) / (b.frame - a.frame)

-- from a key on, with the keys behind it; from the last on it has the last value
abbrev pub value_from : Key → List Key → ℕ → ℕ
value_from a [] p = a.value.0
value_from a (b ∷ keys) p = if nat_lt p b.frame then between a b p else value_from b keys p

-- before the first key it has the first value
abbrev pub value_at : List Key → ℕ → ℕ
value_at [] p = 0
value_at (a ∷ keys) p = if nat_lt p a.frame then a.value.0 else value_from a keys p

-- each key is behind the one before, and below frame 2 ^ 31
abbrev pub is_behind : Option ℕ → ℕ → Bool
is_behind None frame = true
is_behind (Some last) frame = nat_lt last frame

abbrev pub Rises : Option ℕ → List Key → Type 0
Rises last [] = Unit {0}
Rises last (key ∷ keys) = (is_behind last key.frame ≡ true) × (key.frame < 2 ^ 31) × Rises (Some key.frame) keys

-- ---- how it is written

-- `=`, or `|=` at a discrete key; `~=` is a smooth one. 61 is `=`, 124 is `|` and 126 is `~`
unfoldable pub key_mark : ℕ → List ℕ → Result (Bool × ℕ × List ℕ) NumFault
key_mark at [] = Err (BadDigit (held at))
key_mark at (b ∷ []) = if b == 61 then Ok (false, at + 1, []) else Err (BadDigit (held at))
key_mark at (b ∷ c ∷ rest) =
    if b == 61 then Ok (false, at + 1, c ∷ rest)
    else if b == 124 && c == 61 then Ok (true, at + 2, rest)
    else if b == 126 && c == 61 then Err (Smooth (held at))
    else Err (BadDigit (held at))

-- a part's frame has to be behind the last one's
unfoldable pub in_order : Option ℕ → ℕ → ℕ → Result (Unit {0}) NumFault
in_order last at frame = if is_behind last frame then Ok tt else Err (Order (held at))

-- a part: its frame, its mark and its value
unfoldable pub key_at : Option ℕ → ℕ → List ℕ → Result Key NumFault
key_at last at part = do
  digits ← digits_at at part
  frame ← below (2 ^ 31) (number digits.0)
  mark ← key_mark digits.1 digits.2
  ordered ← in_order last at frame
  value ← decimal mark.1 mark.2
  Ok (record { frame = frame; value = record { 0 = value }; discrete = mark.0 })

-- an empty last part is skipped
abbrev pub is_skipped : List ℕ → List (List ℕ) → Bool
is_skipped [] [] = true
is_skipped [] (part ∷ parts) = false
is_skipped (b ∷ part) parts = false

-- the keys of the parts, of which the first begins at a place
abbrev pub keys_of : Option ℕ → ℕ → List (List ℕ) → Result (List Key) NumFault
keys_of last at [] = Ok []
keys_of last at (part ∷ parts) =
    if is_skipped part parts then Ok [] else
    (key_at last at part >>= λ key. keys_of (Some key.frame) (at + length part + 1) parts >>= λ keys. Ok (key ∷ keys))

-- `;` divides the parts
abbrev pub is_semicolon : ℕ → Bool
is_semicolon b = b == 59

-- one value for all frames
abbrev pub constant : ℕ → Key
constant value = record { frame = 0; value = record { 0 = value }; discrete = false }

-- a text without `=` is a decimal
unfoldable pub animation : List ℕ → Result (List Key) NumFault
animation text =
    if list_any (λ b. b == 61) text then keys_of None 0 (slice_split is_semicolon text)
    else (decimal 0 text >>= λ value. Ok (constant value ∷ []))

-- ---- the first part of several

-- its key, and the place and the bytes of the parts behind it
unfoldable pub first_key : Option ℕ → ℕ → List ℕ → Result (Key × ℕ × List ℕ) NumFault
first_key last at bytes = do
  key ← key_at last at (before_first is_semicolon bytes)
  Ok (key, at + length (before_first is_semicolon bytes) + 1, after_first is_semicolon bytes)
