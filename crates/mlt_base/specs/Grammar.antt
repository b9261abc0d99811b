-- Which texts are numbers, times, profiles, geometries and animations, and what they mean, said apart from any reader.
use Rattle.std.specs.Prelude.{◌≡◌, ℕ, ◌+◌, ◌*◌, ◌/◌, ◌^◌, ◌<◌, ◌≤◌, ◌⊎◌, Bool, true, false, Option, Some, None, min, max, ℤ, pos, neg_ℤ, unsigned_abs, List, [], ◌∷◌, ◌++◌, length}
use Rattle.std.specs.List.{Any}
use Rattle.mlt_base.specs.declared.limits.TheConstants.{MOST_HUNDREDTHS, MOST_OF_RATE, MOST_OFFSET, MOST_OPACITY, MOST_PIXELS, MOST_RATE}
use Rattle.mlt_base.specs.declared.table.TheConstants.{PROFILES}
use Rattle.mlt_base.specs.Name.{name_of}
use Rattle.mlt_base.specs.Profile.{Measures, row_measures}
use Rattle.mlt_base.specs.Geometry.{Rectangle, hundredths}
use Rattle.mlt_base.specs.declared.animation.Key.{Key}
use Rattle.mlt_base.specs.Animation.{is_behind, Rises, constant}
use Rattle.mlt_base.specs.Reading.{AreDigits, IsNumeral, digit_count, number}
use Rattle.mlt_base.specs.Decimal.{decimal_value}
use Rattle.mlt_base.specs.Stop.{StopsAt}
use Rattle.mlt_base.specs.Time.{Form, Frames, Clock, Counted}

-- digits, or `-` and digits
abbrev pub whole_text : Bool → List ℕ → List ℕ
whole_text false digits = digits
whole_text true digits = 45 ∷ digits

abbrev pub whole_value : Bool → List ℕ → ℤ
whole_value false digits = pos (number digits)
whole_value true digits = neg_ℤ (pos (number digits))

-- the text is a whole number, which is z
abbrev pub IsWhole : List ℕ → ℤ → Type 0
IsWhole text z =
    (negative : Bool) × (digits : List ℕ) × IsNumeral digits × (text ≡ whole_text negative digits) × (z ≡ whole_value negative digits)

-- the text has these digits before and behind a `.`, which may be missing where none are behind it
abbrev pub IsDecimalText : List ℕ → List ℕ → List ℕ → Type 0
IsDecimalText text whole fraction = ((text ≡ whole) × (fraction ≡ [])) ⊎ (text ≡ whole ++ 46 ∷ fraction)

-- the text is a decimal number, which is n 65536ths, rounded down
abbrev pub IsDecimal : List ℕ → ℕ → Type 0
IsDecimal text n =
    (whole : List ℕ) × (fraction : List ℕ) × AreDigits whole × AreDigits fraction × (0 < length whole + length fraction)
    × IsDecimalText text whole fraction × (n ≡ decimal_value whole fraction)

-- hours, minutes and seconds with `:` between them
abbrev pub clock_text : List ℕ → List ℕ → List ℕ → List ℕ
clock_text hours minutes seconds = hours ++ 58 ∷ (minutes ++ 58 ∷ seconds)

abbrev pub IsClock : List ℕ → List ℕ → List ℕ → Type 0
IsClock hours minutes seconds = IsNumeral hours × IsNumeral minutes × IsNumeral seconds

-- the text is a time of this form
abbrev pub IsTime : List ℕ → Form → Type 0
IsTime text (Frames frames) = IsNumeral frames × (text ≡ frames)
IsTime text (Clock hours minutes seconds fraction) =
    IsClock hours minutes seconds
    × (((fraction ≡ []) × (text ≡ clock_text hours minutes seconds))
    ⊎ (IsNumeral fraction × (length fraction ≤ 3) × (text ≡ clock_text hours minutes seconds ++ 46 ∷ fraction)))
IsTime text (Counted hours minutes seconds frames) =
    IsClock hours minutes seconds × IsNumeral frames × (text ≡ clock_text hours minutes seconds ++ 58 ∷ frames)

-- ---- profiles

-- `WxH@num/den`
abbrev pub profile_text : List ℕ → List ℕ → List ℕ → List ℕ → List ℕ
profile_text width height num den = (width ++ 120 ∷ height) ++ 64 ∷ (num ++ 47 ∷ den)

-- the text spells these measures
abbrev pub IsProfile : List ℕ → Measures → Type 0
IsProfile text m =
    (width : List ℕ) × (height : List ℕ) × (num : List ℕ) × (den : List ℕ)
    × IsNumeral width × IsNumeral height × IsNumeral num × IsNumeral den
    × (text ≡ profile_text width height num den)
    × (m ≡ record { width = number width; height = number height; num = number num; den = number den })

-- each side, the two numbers of the rate and the rate itself are at least 1 and within their limits
abbrev pub IsWithin : Measures → Type 0
IsWithin m =
    (1 ≤ m.width) × (m.width ≤ MOST_PIXELS) × (1 ≤ m.height) × (m.height ≤ MOST_PIXELS)
    × (1 ≤ m.den) × (m.num ≤ MOST_OF_RATE) × (m.den ≤ m.num) × (m.num ≤ MOST_RATE * m.den)

-- the text is a name of the table, which has these measures
abbrev pub IsNamed : List ℕ → Measures → Type 0
IsNamed text m = Any (λ row. (text ≡ name_of row.name) × (m ≡ row_measures row)) PROFILES

-- ---- geometries

-- pixels, or hundredths of a size and `%`
abbrev pub IsOffset : ℕ → List ℕ → ℤ → Type 0
IsOffset size text at =
    (IsWhole text at × (unsigned_abs at ≤ MOST_OFFSET))
    ⊎ ((front : List ℕ) × (n : ℤ) × IsWhole front n × (unsigned_abs n ≤ MOST_HUNDREDTHS)
    × (text ≡ front ++ 37 ∷ []) × (at ≡ hundredths size n))

abbrev pub IsExtent : ℕ → List ℕ → ℕ → Type 0
IsExtent size text long =
    (IsWhole text (pos long) × (1 ≤ long) × (long ≤ MOST_PIXELS))
    ⊎ ((front : List ℕ) × (n : ℕ) × IsWhole front (pos n) × (1 ≤ n) × (n ≤ MOST_HUNDREDTHS)
    × (text ≡ front ++ 37 ∷ []) × (long ≡ max 1 (min MOST_PIXELS (n * size / 100))))

-- `X/Y` or `X,Y`
abbrev pub IsCorner : ℕ → ℕ → List ℕ → Rectangle → Type 0
IsCorner width height text p =
    (x : List ℕ) × (y : List ℕ) × IsOffset width x p.x × IsOffset height y p.y × ((text ≡ x ++ 47 ∷ y) ⊎ (text ≡ x ++ 44 ∷ y))

-- `WxH`
abbrev pub IsArea : ℕ → ℕ → List ℕ → Rectangle → Type 0
IsArea width height text p = (w : List ℕ) × (h : List ℕ) × IsExtent width w p.width × IsExtent height h p.height × (text ≡ w ++ 120 ∷ h)

-- `X/Y:WxH` or `X/Y:WxH:O`
abbrev pub IsGeometry : ℕ → ℕ → List ℕ → Rectangle → Type 0
IsGeometry width height text p =
    (corner : List ℕ) × (area : List ℕ) × IsCorner width height corner p × IsArea width height area p
    × (((text ≡ corner ++ 58 ∷ area) × (p.opacity ≡ MOST_OPACITY))
    ⊎ ((opacity : List ℕ) × IsWhole opacity (pos p.opacity) × (p.opacity ≤ MOST_OPACITY)
    × (text ≡ corner ++ 58 ∷ (area ++ 58 ∷ opacity))))

-- ---- animations

-- `=` and a value, or `|=` and a value at a discrete key
abbrev pub sign_text : Bool → List ℕ → List ℕ
sign_text false value = 61 ∷ value
sign_text true value = 124 ∷ 61 ∷ value

-- `frame=value`
abbrev pub IsKey : List ℕ → Key → Type 0
IsKey text key =
    (frame : List ℕ) × (value : List ℕ) × IsNumeral frame × (number frame ≡ key.frame) × IsDecimal value key.value.0
    × (text ≡ frame ++ sign_text key.discrete value)

-- keys with `;` between them, and perhaps one behind the last
abbrev pub AreKeys : List ℕ → Key → List Key → Type 0
AreKeys text key [] = IsKey text key ⊎ ((front : List ℕ) × IsKey front key × (text ≡ front ++ 59 ∷ []))
AreKeys text key (next ∷ keys) = (front : List ℕ) × (rest : List ℕ) × IsKey front key × AreKeys rest next keys × (text ≡ front ++ 59 ∷ rest)

-- the text is these keys, or one value for all frames
abbrev pub IsAnimation : List ℕ → List Key → Type 0
IsAnimation text [] = ⊥
IsAnimation text (key ∷ keys) = AreKeys text key keys ⊎ (IsDecimal text key.value.0 × (key ∷ keys ≡ constant key.value.0 ∷ []))

-- each value is below 65536
abbrev pub AreHeld : List Key → Type 0
AreHeld [] = Unit {0}
AreHeld (key ∷ keys) = (key.value.0 < 2 ^ 32) × AreHeld keys

-- ---- animations that aren't read

-- the text has an `=`, as all texts of keys
abbrev pub HasEquals : List ℕ → Type 0
HasEquals text = (front : List ℕ) × (rest : List ℕ) × (text ≡ front ++ 61 ∷ rest)

-- the text is keys, whatever they are
abbrev pub IsKeys : List ℕ → Type 0
IsKeys text = (key : Key) × (keys : List Key) × AreKeys text key keys

-- `|` stands at this place, and behind it the text can't go on
abbrev pub IsHalfMark : List ℕ → ℕ → Type 0
IsHalfMark text at = (front : List ℕ) × (rest : List ℕ) × (text ≡ front ++ 124 ∷ rest) × (at ≡ length front) × StopsAt IsKeys text (at + 1)

-- the place of a bad byte: where the text can't go on, or the `|` in front of it
abbrev pub IsBadAt : List ℕ → ℕ → Type 0
IsBadAt text at = (StopsAt IsKeys text at × ((bar : ℕ) → ¬ IsHalfMark text bar)) ⊎ IsHalfMark text at

-- keys with `;` behind each
abbrev pub AreBefore : List ℕ → List Key → Type 0
AreBefore text [] = text ≡ []
AreBefore text (key ∷ keys) = (front : List ℕ) × (rest : List ℕ) × IsKey front key × AreBefore rest keys × (text ≡ front ++ 59 ∷ rest)

-- behind keys that can be read stands this, said of them, of the place where the next part begins and of what is there
abbrev pub HasPart : (List Key → ℕ → List ℕ → Type 0) → List ℕ → Type 0
HasPart Says text =
    (front : List ℕ) × (keys : List Key) × (rest : List ℕ)
    × AreBefore front keys × Rises None keys × AreHeld keys × Says keys (length front) rest × (text ≡ front ++ rest)

-- the frame of the last key
abbrev pub last_frame : List Key → Option ℕ
last_frame [] = None
last_frame (key ∷ []) = Some key.frame
last_frame (key ∷ next ∷ keys) = last_frame (next ∷ keys)

-- a frame that isn't too large, and behind it stands this, said of its number, of the place and of what is there
abbrev pub HasFrame : (ℕ → ℕ → List ℕ → Type 0) → ℕ → List ℕ → Type 0
HasFrame Says start part =
    (frame : List ℕ) × (rest : List ℕ) × IsNumeral frame × (number frame < 2 ^ 31) × Says (number frame) (start + length frame) rest × (part ≡ frame ++ rest)

-- the next part, which begins at this place, has a frame that isn't behind the last key's
abbrev pub IsUnordered : List ℕ → ℕ → Type 0
IsUnordered text at =
    HasPart (λ keys start. HasFrame (λ frame end rest. (discrete : Bool) × (value : List ℕ) × (rest ≡ sign_text discrete value) × (is_behind (last_frame keys) frame ≡ false) × (at ≡ start)) start) text

-- the next part has the mark `~=` at this place
abbrev pub IsSmooth : List ℕ → ℕ → Type 0
IsSmooth text at = HasPart (λ keys. HasFrame (λ frame end rest. (value : List ℕ) × (rest ≡ 126 ∷ 61 ∷ value) × (at ≡ end))) text

-- the end of a part: the text's, or `;`
abbrev pub IsEnd : List ℕ → Type 0
IsEnd rest = (rest ≡ []) ⊎ ((more : List ℕ) × (rest ≡ 59 ∷ more))

-- the next part has a frame in order, a mark, and a value of which this is said
abbrev pub HasValue : (List ℕ → Type 0) → List ℕ → Type 0
HasValue Says text =
    HasPart (λ keys. HasFrame (λ frame end rest. (discrete : Bool) × (value : List ℕ) × (more : List ℕ) × (is_behind (last_frame keys) frame ≡ true) × Says value × IsEnd more × (rest ≡ sign_text discrete (value ++ more)))) text

-- the next part has a frame or a value that is too large
abbrev pub HasLarge : List ℕ → Type 0
HasLarge text =
    HasPart (λ keys start part. (frame : List ℕ) × (rest : List ℕ) × IsNumeral frame × (digit_count rest ≡ 0) × (2 ^ 31 ≤ number frame) × (part ≡ frame ++ rest)) text
    ⊎ HasValue (λ value. (n : ℕ) × IsDecimal value n × (2 ^ 32 ≤ n)) text

-- the next part has another fault than a bad byte
abbrev pub HasOther : List ℕ → Type 0
HasOther text = HasLarge text ⊎ HasValue (λ value. value ≡ []) text ⊎ ((at : ℕ) × IsUnordered text at) ⊎ ((at : ℕ) × IsSmooth text at)
