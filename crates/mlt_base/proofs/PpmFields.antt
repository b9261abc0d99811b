-- A separator, a number and what stands behind it: how a text is cut into these, and where it can't go on.
use Rattle.std.proofs.Common.{◌≡◌, ℕ, ◌+◌, ◌<◌, ◌≤◌, inl, false, List, [], ◌∷◌, ◌++◌, length, take, drop, refl, sym, ap, subst, ◌∙◌, arith, append_assoc, length-drop}
use Rattle.std.proofs.Math.Seq.{take-add, take-append-add}
use Rattle.std.proofs.lemmas.List.{take_at, drop_at, take-append-drop, length-take-le, drop-append-le, drop-take}
use Rattle.mlt_base.specs.Reading.{IsNumeral, digit_count, number}
use Rattle.mlt_base.specs.Stop.{StopsAt}
use Rattle.mlt_base.specs.Ppm.{is_white, IsSeparator, IsField, IsRaster, blank_count}
use Rattle.mlt_base.proofs.Forms.{digit_count-append, AreDigits-take, digit_count-le}
use Rattle.mlt_base.proofs.PpmBlanks.{count_numeral, count_blanks, separator_some, no_digit_before, white_low, low_no_digit}
use Rattle.mlt_base.proofs.PpmCounts.{begun, counted_separator, blank_count-le, blank_count-stable, digit_count-stable}

-- ---- the cut of a text

abbrev pub behind : List ℕ → List ℕ
behind text = drop (blank_count false text) text

abbrev pub digits_in : List ℕ → List ℕ
digits_in text = take (digit_count (behind text)) (behind text)

abbrev pub rest_in : List ℕ → List ℕ
rest_in text = drop (digit_count (behind text)) (behind text)

pub record Parts (Rest : ℕ → List ℕ → Type 0) (text : List ℕ) : Type 0 where
  pub blank : 0 < blank_count false text
  pub digit : 0 < digit_count (behind text)
  pub rest : Rest (number (digits_in text)) (rest_in text)

pub record IsCut (text separator digits rest : List ℕ) : Type 0 where
  pub count : blank_count false text ≡ length separator
  pub behind_is : behind text ≡ digits ++ rest
  pub digit : digit_count (behind text) ≡ length digits
  pub digits_is : digits_in text ≡ digits
  pub rest_is : rest_in text ≡ rest

pub cut_is : (text separator digits rest : List ℕ) → IsSeparator separator → IsNumeral digits → digit_count rest ≡ 0 → text ≡ separator ++ (digits ++ rest) → IsCut text separator digits rest
cut_is text separator digits rest (blanks, some, are, joined) numeral none is =
    let counted : blank_count false (separator ++ (digits ++ rest)) ≡ length separator = ap (λ (s : List ℕ). blank_count false (s ++ (digits ++ rest))) joined ∙ (count_blanks blanks (digits ++ rest) are ∙ omega (arith, count_numeral digits rest numeral, ap length joined)) in
    let count : blank_count false text ≡ length separator = ap (blank_count false) is ∙ counted in
    let behind_is : behind text ≡ digits ++ rest = ap (λ (n : ℕ). drop n text) count ∙ (ap (drop (length separator)) is ∙ drop_at separator (digits ++ rest) (length separator) refl) in
    let digit : digit_count (behind text) ≡ length digits = ap digit_count behind_is ∙ (digit_count-append digits rest numeral.1 ∙ omega (arith, none)) in
    record {
      count = count;
      behind_is = behind_is;
      digit = digit;
      digits_is = ap (λ (n : ℕ). take n (behind text)) digit ∙ (ap (take (length digits)) behind_is ∙ take_at digits rest (length digits) refl);
      rest_is = ap (λ (n : ℕ). drop n (behind text)) digit ∙ (ap (drop (length digits)) behind_is ∙ drop_at digits rest (length digits) refl);
    }

-- what has to stand behind a number begins with no digit
abbrev pub NoDigit : (ℕ → List ℕ → Type 0) → Type 0
NoDigit Rest = (n : ℕ) (rest : List ℕ) → Rest n rest → digit_count rest ≡ 0

pub parts_of : (Rest : ℕ → List ℕ → Type 0) → NoDigit Rest → (text : List ℕ) → IsField Rest text → Parts Rest text
parts_of Rest none_begins text (separator, digits, rest, sep, numeral, good, is) =
    let c = cut_is text separator digits rest sep numeral (none_begins (number digits) rest good) is in
    record {
      blank = omega (arith, c.count, (separator_some separator sep).0);
      digit = omega (arith, c.digit, numeral.0);
      rest = subst (λ (ds : List ℕ). Rest (number ds) (rest_in text)) (sym c.digits_is) (subst (Rest (number digits)) (sym c.rest_is) good);
    }

some_behind : (text : List ℕ) → 0 < digit_count (behind text) → 0 < length (behind text)
some_behind text h = omega (arith, digit_count-le (behind text))

pub numeral_in : (text : List ℕ) → 0 < digit_count (behind text) → IsNumeral (digits_in text)
numeral_in text h = (omega (arith, length-take-le (digit_count (behind text)) (behind text) (digit_count-le (behind text))), AreDigits-take (behind text))

-- the three parts together
pub joined_in : (text : List ℕ) → text ≡ take (blank_count false text) text ++ (digits_in text ++ rest_in text)
joined_in text = sym (take-append-drop (blank_count false text) text) ∙ ap (λ (l : List ℕ). take (blank_count false text) text ++ l) (sym (take-append-drop (digit_count (behind text)) (behind text)))

pub field_of : (Rest : ℕ → List ℕ → Type 0) (text : List ℕ) → Parts Rest text → IsField Rest text
field_of Rest text p = (take (blank_count false text) text, digits_in text, rest_in text, counted_separator text p.blank (some_behind text p.digit), numeral_in text p.digit, p.rest, joined_in text)

pub field_no_digit : (Rest : ℕ → List ℕ → Type 0) (text : List ℕ) → IsField Rest text → digit_count text ≡ 0
field_no_digit Rest text (separator, digits, rest, sep, numeral, good, is) =
    let s = separator_some separator sep in
    ap digit_count is ∙ no_digit_before separator (digits ++ rest) s.0 s.1

pub raster_no_digit : (Rest : List ℕ → Type 0) (text : List ℕ) → IsRaster Rest text → digit_count text ≡ 0
raster_no_digit Rest text (white, raster, is_white, good, is) = ap digit_count is ∙ rw (low_no_digit white (omega (arith, white_low white is_white))) refl

-- what is left of a text that is cut somewhere behind its first bytes
drop_cut : (c k : ℕ) (text more : List ℕ) → c + k ≤ length text → drop c (take (c + k) text ++ more) ≡ take k (drop c text) ++ more
drop_cut c k text more h = drop-append-le c (take (c + k) text) more (omega (arith, length-take-le (c + k) text h)) ∙ ap (λ (l : List ℕ). l ++ more) (drop-take c k text)

take_cut : (c k : ℕ) (text more : List ℕ) → c + k ≤ length text → take c (take (c + k) text ++ more) ≡ take c text
take_cut c k text more h =
    let long : length (take c text) ≡ c = length-take-le c text (omega arith) in
    ap (take c) (ap (λ (l : List ℕ). l ++ more) (take-add c k text) ∙ append_assoc (take c text) (take k (drop c text)) more) ∙ take_at (take c text) (take k (drop c text) ++ more) c long

-- ---- where it can't go on

-- some text can stand behind any number
abbrev pub CanFollow : (ℕ → List ℕ → Type 0) → Type 0
CanFollow Rest = (n : ℕ) → (rest : List ℕ) × Rest n rest

-- the shortest that can stand before it
field_there : (Rest : ℕ → List ℕ → Type 0) (rest : List ℕ) → Rest (number (49 ∷ [])) rest → IsField Rest (32 ∷ 49 ∷ rest)
field_there Rest rest good = (32 ∷ [], 49 ∷ [], rest, ((32 ∷ []) ∷ [], omega arith, (inl (32, refl, refl), tt), refl), (omega arith, (omega arith, omega arith, tt)), good, refl)

pub can_field : (Rest : ℕ → List ℕ → Type 0) → CanFollow Rest → CanFollow (λ n. IsField Rest)
can_field Rest can n = let (rest, good) = can (number (49 ∷ [])) in (32 ∷ 49 ∷ rest, field_there Rest rest good)

-- no separator stands there
pub stops_at_blank : (Rest : ℕ → List ℕ → Type 0) → NoDigit Rest → CanFollow Rest → (text : List ℕ) → blank_count false text ≡ 0 → StopsAt (IsField Rest) text 0
stops_at_blank Rest none_begins can text none =
    let (rest, good) = can (number (49 ∷ [])) in
    record {
      within = omega arith;
      before = (32 ∷ 49 ∷ rest, field_there Rest rest good);
      behind = λ some (more, field). absurd (omega (arith, (parts_of Rest none_begins (take (0 + 1) text ++ more) field).blank, blank_count-stable false text (0 + 1) more (omega arith) (omega arith)));
      unfinished = λ field. absurd (omega (arith, (parts_of Rest none_begins text field).blank));
    }

-- a separator, and no number behind it
pub stops_at_number : (Rest : ℕ → List ℕ → Type 0) → NoDigit Rest → CanFollow Rest → (text : List ℕ) → 0 < blank_count false text → digit_count (behind text) ≡ 0 → StopsAt (IsField Rest) text (blank_count false text)
stops_at_number Rest none_begins can text some none =
    let (rest, good) = can (number (49 ∷ [])) in
    let b = begun text some in
    let c : ℕ = blank_count false text in
    record {
      within = blank_count-le false text;
      before = (b.more ++ 49 ∷ rest, (take c text ++ b.more, 49 ∷ [], rest, b.separator, (omega arith, (omega arith, omega arith, tt)), good, sym (append_assoc (take c text) b.more (49 ∷ rest))));
      behind = λ more_there (more, field).
          let p = parts_of Rest none_begins (take (c + 1) text ++ more) field in
          let count : blank_count false (take (c + 1) text ++ more) ≡ c = blank_count-stable false text (c + 1) more (omega arith) (omega arith) in
          let left : behind (take (c + 1) text ++ more) ≡ take 1 (behind text) ++ more = ap (λ (n : ℕ). drop n (take (c + 1) text ++ more)) count ∙ drop_cut c 1 text more (omega arith) in
          let still : digit_count (take 1 (behind text) ++ more) ≡ digit_count (behind text) = digit_count-stable (behind text) 1 more (omega arith) (omega (arith, length-drop c text)) in
          absurd (omega (arith, p.digit, ap digit_count left, still));
      unfinished = λ field. absurd (omega (arith, (parts_of Rest none_begins text field).digit));
    }

-- a separator and a number, and what stands behind them can't go on
pub stops_behind : (Rest : ℕ → List ℕ → Type 0) → NoDigit Rest → (text : List ℕ) (k : ℕ) → 0 < blank_count false text → 0 < digit_count (behind text) → StopsAt (Rest (number (digits_in text))) (rest_in text) k → StopsAt (IsField Rest) text (blank_count false text + (digit_count (behind text) + k))
stops_behind Rest none_begins text k some digit stop =
    let c : ℕ = blank_count false text in
    let d : ℕ = digit_count (behind text) in
    let sum : length text ≡ c + (d + length (rest_in text)) = omega (arith, blank_count-le false text, digit_count-le (behind text), length-drop c text, length-drop d (behind text)) in
    let whole : (j : ℕ) (more : List ℕ) → take (c + (d + j)) text ++ more ≡ take c text ++ (digits_in text ++ (take j (rest_in text) ++ more)) = λ j more. ap (λ (l : List ℕ). l ++ more) (take-add c (d + j) text ∙ ap (λ (l : List ℕ). take c text ++ l) (take-add d j (behind text))) ∙ (append_assoc (take c text) (digits_in text ++ take j (rest_in text)) more ∙ ap (λ (l : List ℕ). take c text ++ l) (append_assoc (digits_in text) (take j (rest_in text)) more)) in
    record {
      within = omega (arith, stop.within);
      before =
          let (more, good) = stop.before in
          (more, (take c text, digits_in text, take k (rest_in text) ++ more, counted_separator text some (some_behind text digit), numeral_in text digit, good, whole k more));
      behind = λ more_there (more, field).
          let at : c + (d + k) + 1 ≡ c + (d + (k + 1)) = omega arith in
          let moved : IsField Rest (take (c + (d + (k + 1))) text ++ more) = subst (λ (n : ℕ). IsField Rest (take n text ++ more)) at field in
          let p = parts_of Rest none_begins (take (c + (d + (k + 1))) text ++ more) moved in
          let count : blank_count false (take (c + (d + (k + 1))) text ++ more) ≡ c = blank_count-stable false text (c + (d + (k + 1))) more (omega arith) (omega arith) in
          let left : behind (take (c + (d + (k + 1))) text ++ more) ≡ take (d + (k + 1)) (behind text) ++ more = ap (λ (n : ℕ). drop n (take (c + (d + (k + 1))) text ++ more)) count ∙ drop_cut c (d + (k + 1)) text more (omega arith) in
          let room : d + (k + 1) ≤ length (behind text) = omega (arith, length-drop c text) in
          let still : digit_count (behind (take (c + (d + (k + 1))) text ++ more)) ≡ d = ap digit_count left ∙ digit_count-stable (behind text) (d + (k + 1)) more (omega arith) room in
          let digits : digits_in (take (c + (d + (k + 1))) text ++ more) ≡ digits_in text = ap (λ (n : ℕ). take n (behind (take (c + (d + (k + 1))) text ++ more))) still ∙ (ap (take d) left ∙ take_cut d (k + 1) (behind text) more room) in
          let rest : rest_in (take (c + (d + (k + 1))) text ++ more) ≡ take (k + 1) (rest_in text) ++ more = ap (λ (n : ℕ). drop n (behind (take (c + (d + (k + 1))) text ++ more))) still ∙ (ap (drop d) left ∙ drop_cut d (k + 1) (behind text) more room) in
          stop.behind (omega (arith, more_there)) (more, subst (Rest (number (digits_in text))) rest (subst (λ (ds : List ℕ). Rest (number ds) (rest_in (take (c + (d + (k + 1))) text ++ more))) digits p.rest));
      unfinished = λ field. stop.unfinished (parts_of Rest none_begins text field).rest;
    }

-- no white space stands before the raster
pub stops_at_raster : (Rest : List ℕ → Type 0) (raster : List ℕ) → Rest raster → (text : List ℕ) → ((white : ℕ) (rest : List ℕ) → text ≡ white ∷ rest → is_white white ≡ false) → StopsAt (IsRaster Rest) text 0
stops_at_raster Rest raster good [] none = record {
  within = omega arith;
  before = (32 ∷ raster, (32, raster, refl, good, refl));
  behind = λ some. absurd (omega arith);
  unfinished = λ (white, raster, is, good, e). absurd cc;
}
stops_at_raster Rest raster good (b ∷ text) none = record {
  within = omega arith;
  before = (32 ∷ raster, (32, raster, refl, good, refl));
  behind = λ some (more, (white, raster, is, good, e)). let same : b ≡ white = cc in absurd (let no = none b text refl in cc);
  unfinished = λ (white, raster, is, good, e). let same : b ≡ white = cc in absurd (let no = none b text refl in cc);
}

-- the same behind `P6`
pub stops_behind_p6 : (Good : List ℕ → Type 0) (text fields : List ℕ) (k : ℕ) → text ≡ 80 ∷ 54 ∷ fields → StopsAt Good fields k → StopsAt (λ text. (fields : List ℕ) × Good fields × (text ≡ 80 ∷ 54 ∷ fields)) text (2 + k)
stops_behind_p6 Good text fields k e stop = subst (λ (t : List ℕ). StopsAt (λ text. (fields : List ℕ) × Good fields × (text ≡ 80 ∷ 54 ∷ fields)) t (2 + k)) (sym e) (record {
  within = omega (arith, stop.within);
  before =
      let (more, good) = stop.before in
      (more, (take k fields ++ more, good, front k more));
  behind = λ more_there (more, (others, good, is)).
      let same : 80 ∷ 54 ∷ (take (k + 1) fields ++ more) ≡ 80 ∷ 54 ∷ others = sym (front (k + 1) more) ∙ (ap (λ (n : ℕ). take n (80 ∷ 54 ∷ fields) ++ more) (omega arith) ∙ is) in
      let own : take (k + 1) fields ++ more ≡ others = cc in
      stop.behind (omega arith) (more, subst Good (sym own) good);
  unfinished = λ (others, good, is). let own : fields ≡ others = cc in stop.unfinished (subst Good (sym own) good);
})
  where
    front : (j : ℕ) (more : List ℕ) → take (2 + j) (80 ∷ 54 ∷ fields) ++ more ≡ 80 ∷ 54 ∷ (take j fields ++ more)
    front j more = ap (λ (l : List ℕ). l ++ more) (take-append-add (80 ∷ 54 ∷ []) fields j)
