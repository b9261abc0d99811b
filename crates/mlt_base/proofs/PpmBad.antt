-- Numbers of a header that aren't allowed: where they are met as the text is cut, and that what stands before one
-- begins a good header.
use Rattle.std.proofs.Common.{◌≡◌, ℕ, ◌+◌, ◌<◌, ◌≤◌, false, List, [], ◌∷◌, ◌++◌, length, take, refl, sym, ap, subst, ◌∙◌, arith, append_assoc, length-append}
use Rattle.std.proofs.Math.Seq.{take-append-add}
use Rattle.std.proofs.lemmas.List.{take_at, length-take-le}
use Rattle.mlt_base.specs.Reading.{digit_count, number}
use Rattle.mlt_base.specs.Stop.{Begins}
use Rattle.mlt_base.specs.Ppm.{blank_count, IsField, IsBad, IsBehind}
use Rattle.mlt_base.proofs.Forms.{digit_count-le, digits_end}
use Rattle.mlt_base.proofs.PpmBlanks.{separator_some, no_digit_before}
use Rattle.mlt_base.proofs.PpmCounts.{blank_count-le, counted_separator}
use Rattle.mlt_base.proofs.PpmFields.{behind, digits_in, rest_in, CanFollow, cut_is, numeral_in, joined_in}

some_behind : (text : List ℕ) → 0 < digit_count (behind text) → 0 < length (behind text)
some_behind text h = omega (arith, digit_count-le (behind text))

pub bad_here : (Allowed : ℕ → Type 0) (text : List ℕ) → 0 < blank_count false text → 0 < digit_count (behind text) → ¬ Allowed (number (digits_in text)) → IsBad Allowed text (blank_count false text)
bad_here Allowed text blank digit out = (take (blank_count false text) text, digits_in text, rest_in text, counted_separator text blank (some_behind text digit), numeral_in text digit, digits_end (behind text), out, joined_in text, sym (length-take-le (blank_count false text) text (blank_count-le false text)))

pub bad_behind : (There : List ℕ → ℕ → Type 0) (text : List ℕ) (k : ℕ) → 0 < blank_count false text → 0 < digit_count (behind text) → There (rest_in text) k → IsBehind There text (blank_count false text + (digit_count (behind text) + k))
bad_behind There text k blank digit there =
    let long : length (take (blank_count false text) text) ≡ blank_count false text = length-take-le (blank_count false text) text (blank_count-le false text) in
    let digits : length (digits_in text) ≡ digit_count (behind text) = length-take-le (digit_count (behind text)) (behind text) (digit_count-le (behind text)) in
    (take (blank_count false text) text, digits_in text, rest_in text, k, counted_separator text blank (some_behind text digit), numeral_in text digit, there, joined_in text, omega arith)

-- the text is cut there as it is read
pub bad_cut : (Allowed : ℕ → Type 0) (text : List ℕ) (k : ℕ) → IsBad Allowed text k → (k ≡ blank_count false text) × (0 < blank_count false text) × (0 < digit_count (behind text)) × ¬ Allowed (number (digits_in text))
bad_cut Allowed text k (separator, digits, rest, sep, numeral, none, out, is, at) =
    let c = cut_is text separator digits rest sep numeral none is in
    (omega (arith, at, c.count), omega (arith, c.count, (separator_some separator sep).0), omega (arith, c.digit, numeral.0), λ allowed. out (subst (λ (ds : List ℕ). Allowed (number ds)) c.digits_is allowed))

-- such a place begins with no digit
abbrev pub NoDigitThere : (List ℕ → ℕ → Type 0) → Type 0
NoDigitThere There = (text : List ℕ) (k : ℕ) → There text k → digit_count text ≡ 0

pub bad_no_digit : (Allowed : ℕ → Type 0) → NoDigitThere (IsBad Allowed)
bad_no_digit Allowed text k (separator, digits, rest, sep, numeral, none, out, is, at) =
    let s = separator_some separator sep in
    ap digit_count is ∙ no_digit_before separator (digits ++ rest) s.0 s.1

pub behind_no_digit : (There : List ℕ → ℕ → Type 0) → NoDigitThere (IsBehind There)
behind_no_digit There text k (separator, digits, rest, j, sep, numeral, there, is, at) =
    let s = separator_some separator sep in
    ap digit_count is ∙ no_digit_before separator (digits ++ rest) s.0 s.1

pub record Behind (There : List ℕ → ℕ → Type 0) (text : List ℕ) (k : ℕ) : Type 0 where
  pub j : ℕ
  pub blank : 0 < blank_count false text
  pub digit : 0 < digit_count (behind text)
  pub sum : k ≡ blank_count false text + (digit_count (behind text) + j)
  pub there : There (rest_in text) j

pub behind_cut : (There : List ℕ → ℕ → Type 0) → NoDigitThere There → (text : List ℕ) (k : ℕ) → IsBehind There text k → Behind There text k
behind_cut There none_begins text k (separator, digits, rest, j, sep, numeral, there, is, at) =
    let c = cut_is text separator digits rest sep numeral (none_begins rest j there) is in
    record {
      j = j;
      blank = omega (arith, c.count, (separator_some separator sep).0);
      digit = omega (arith, c.digit, numeral.0);
      sum = omega (arith, at, c.count, c.digit);
      there = subst (λ (l : List ℕ). There l j) (sym c.rest_is) there;
    }

-- ---- what stands before such a number begins a good header

abbrev pub Reaches : (List ℕ → Type 0) → List ℕ → ℕ → Type 0
Reaches Good text k = (k ≤ length text) × Begins Good (take k text)

pub reaches_bad : (Rest : ℕ → List ℕ → Type 0) → CanFollow Rest → (Allowed : ℕ → Type 0) (text : List ℕ) (k : ℕ) → IsBad Allowed text k → Reaches (IsField Rest) text k
reaches_bad Rest can Allowed text k (separator, digits, rest, sep, numeral, none, out, is, at) =
    let (more, good) = can (number (49 ∷ [])) in
    let front : take k text ≡ separator = ap (λ (n : ℕ). take n text) at ∙ (ap (take (length separator)) is ∙ take_at separator (digits ++ rest) (length separator) refl) in
    (omega (arith, at, ap length is, length-append separator (digits ++ rest)), (49 ∷ more, (separator, 49 ∷ [], more, sep, (omega arith, (omega arith, omega arith, tt)), good, ap (λ (l : List ℕ). l ++ 49 ∷ more) front)))

pub reaches_behind : (Rest : ℕ → List ℕ → Type 0) (There : List ℕ → ℕ → Type 0) → ((n : ℕ) (rest : List ℕ) (k : ℕ) → There rest k → Reaches (Rest n) rest k) → (text : List ℕ) (k : ℕ) → IsBehind There text k → Reaches (IsField Rest) text k
reaches_behind Rest There reaches text k (separator, digits, rest, j, sep, numeral, there, is, at) =
    let (within, (more, good)) = reaches (number digits) rest j there in
    let front : take k text ≡ separator ++ (digits ++ take j rest) = ap (λ (n : ℕ). take n text) at ∙ (ap (take (length separator + (length digits + j))) is ∙ (take-append-add separator (digits ++ rest) (length digits + j) ∙ ap (λ (l : List ℕ). separator ++ l) (take-append-add digits rest j))) in
    let whole : take k text ++ more ≡ separator ++ (digits ++ (take j rest ++ more)) = ap (λ (l : List ℕ). l ++ more) front ∙ (append_assoc separator (digits ++ take j rest) more ∙ ap (λ (l : List ℕ). separator ++ l) (append_assoc digits (take j rest) more)) in
    (omega (arith, at, ap length is, length-append separator (digits ++ rest), length-append digits rest), (more, (separator, digits, take j rest ++ more, sep, numeral, good, whole)))

-- the same behind `P6`
pub reaches_p6 : (Good : List ℕ → Type 0) (text fields : List ℕ) (k : ℕ) → text ≡ 80 ∷ 54 ∷ fields → Reaches Good fields k → Reaches (λ text. (fields : List ℕ) × Good fields × (text ≡ 80 ∷ 54 ∷ fields)) text (2 + k)
reaches_p6 Good text fields k e (within, (more, good)) = (
  omega (arith, ap length e),
  (more, (take k fields ++ more, good, ap (λ (l : List ℕ). take (2 + k) l ++ more) e ∙ ap (λ (l : List ℕ). l ++ more) (take-append-add (80 ∷ 54 ∷ []) fields k))),
)
