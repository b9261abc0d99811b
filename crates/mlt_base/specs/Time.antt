-- Times: frames alone, or a clock of hours, minutes and seconds, with a fraction of a second or a frame behind it.
use Rattle.std.specs.Prelude.{ℕ, ◌+◌, ◌-◌, ◌*◌, ◌/◌, ◌^◌, List, [], ◌∷◌, length, Result, Ok, Err, nat_lt, ◌==◌, if◌then◌else◌}
use Rattle.std.specs.Int.{div_ceil}
use Rattle.mlt_base.specs.declared.fault.NumFault.{NumFault}
use Rattle.mlt_base.specs.declared.fault.NumFault.TheVariants.{Empty, BadDigit}
use Rattle.mlt_base.specs.Reading.{held, number, digits_at, mark_at, end_at, below}
use Rattle.mlt_base.specs.Steps.{◌>>=◌}

-- the digits of each field: n; H:M:S or H:M:S.f, where the fraction may be empty; H:M:S:F
pub data Form : Type 0 where
  Frames : (frames : List ℕ) → Form
  Clock : (hours minutes seconds fraction : List ℕ) → Form
  Counted : (hours minutes seconds frames : List ℕ) → Form

-- seconds of a clock; no field is limited to 59
abbrev pub seconds_of : List ℕ → List ℕ → List ℕ → ℕ
seconds_of hours minutes seconds = (number hours * 60 + number minutes) * 60 + number seconds

-- of up to three digits behind a `.`, which count from the left
abbrev pub milliseconds_of : List ℕ → ℕ
milliseconds_of fraction = number fraction * 10 ^ (3 - length fraction)

-- whole frames a second, rounded up
abbrev pub frames_a_second : ℕ → ℕ → ℕ
frames_a_second num den = div_ceil num den

-- the frames that a form means at num/den frames a second, rounded down
abbrev pub frames_of : ℕ → ℕ → Form → ℕ
frames_of num den (Frames frames) = number frames
frames_of num den (Clock hours minutes seconds fraction) =
    (seconds_of hours minutes seconds * 1000 + milliseconds_of fraction) * num / (1000 * den)
frames_of num den (Counted hours minutes seconds frames) =
    seconds_of hours minutes seconds * frames_a_second num den + number frames

-- the last digits of a text
unfoldable pub last_digits : ℕ → List ℕ → Result (List ℕ) NumFault
last_digits at bytes = do
  digits ← digits_at at bytes
  end ← end_at digits.1 digits.2
  Ok digits.0

-- one to three digits, which are the last of a text
unfoldable pub fraction_digits : ℕ → List ℕ → Result (List ℕ) NumFault
fraction_digits at bytes = do
  digits ← digits_at at bytes
  if nat_lt 3 (length digits.0) then Err (BadDigit (held (at + 3))) else (end_at digits.1 digits.2 >>= λ end. Ok digits.0)

-- behind the seconds: the end, `:` and frames, or `.` and a fraction; 58 is `:` and 46 is `.`
unfoldable pub behind_seconds : List ℕ → List ℕ → List ℕ → ℕ → List ℕ → Result Form NumFault
behind_seconds hours minutes seconds at [] = Ok (Clock hours minutes seconds [])
behind_seconds hours minutes seconds at (b ∷ rest) =
    if b == 58 then (last_digits (at + 1) rest >>= λ frames. Ok (Counted hours minutes seconds frames))
    else if b == 46 then (fraction_digits (at + 1) rest >>= λ fraction. Ok (Clock hours minutes seconds fraction))
    else Err (BadDigit (held at))

-- behind the hours: `:`, minutes, `:` and seconds
unfoldable pub behind_hours : List ℕ → ℕ → List ℕ → Result Form NumFault
behind_hours hours at bytes = do
  first ← mark_at 58 at bytes
  minutes ← digits_at first.0 first.1
  second ← mark_at 58 minutes.1 minutes.2
  seconds ← digits_at second.0 second.1
  behind_seconds hours minutes.0 seconds.0 seconds.1 seconds.2

-- behind the first digits: the end, where they are frames, or the rest of a clock
unfoldable pub behind_first : List ℕ → ℕ → List ℕ → Result Form NumFault
behind_first digits at [] = Ok (Frames digits)
behind_first digits at (b ∷ rest) = behind_hours digits at (b ∷ rest)

unfoldable pub form_of : List ℕ → Result Form NumFault
form_of [] = Err Empty
form_of (b ∷ bytes) = do
  first ← digits_at 0 (b ∷ bytes)
  behind_first first.0 first.1 first.2

-- the frame that a text means, below 2 ^ 31
unfoldable pub time : ℕ → ℕ → List ℕ → Result ℕ NumFault
time num den text = do
  form ← form_of text
  below (2 ^ 31) (frames_of num den form)
