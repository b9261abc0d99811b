-- What reading gives for a header: its numbers, or the place where it is bad.
use Rattle.std.proofs.Common.{◌≡◌, ℕ, ◌+◌, ◌<◌, ◌≤◌, ◌⊎◌, inl, inr, Bool, true, false, eqb, leb, List, [], ◌∷◌, drop, Result, Ok, Err, refl, sym, ap, subst, ◌∙◌, arith}
use Rattle.std.proofs.lemmas.Bool.{and_parts, eqb-true, eqb-false, leb-true, leb-false, le-leb}
use Rattle.std.proofs.lemmas.List.{drop-drop}
use Rattle.mlt_base.specs.declared.fault.PpmFault.{PpmFault}
use Rattle.mlt_base.specs.declared.fault.PpmFault.TheVariants.{BadHeader}
use Rattle.mlt_base.specs.declared.limits.TheConstants.{MOST_SAMPLE}
use Rattle.mlt_base.specs.Reading.{digit_count, number}
use Rattle.mlt_base.specs.Steps.{◌>>=◌}
use Rattle.mlt_base.specs.Stop.{StopsAt}
use Rattle.mlt_base.specs.Ppm.{is_white, blank_count, is_side, is_depth, number_at, field_at, white_at, Numbers, header, IsField, IsRaster, IsText, HasHeader, IsSide, IsDepth, IsBad, IsBehind, IsBadNumber, IsFaulty}
use Rattle.mlt_base.proofs.PpmFields.{behind, digits_in, rest_in, NoDigit, CanFollow, field_of, field_no_digit, raster_no_digit, can_field, stops_at_blank, stops_at_number, stops_behind, stops_at_raster, stops_behind_p6}
use Rattle.mlt_base.proofs.PpmBad.{Reaches, bad_here, bad_behind, bad_cut, bad_no_digit, behind_no_digit, Behind, behind_cut, reaches_bad, reaches_behind, reaches_p6}

-- ---- a field

-- the number of a field
abbrev pub value_in : List ℕ → ℕ
value_in text = number (digits_in text)

-- the place behind a field
abbrev pub end_of : ℕ → List ℕ → ℕ
end_of at text = at + blank_count false text + digit_count (behind text)

pub data FieldCase (allowed : ℕ → Bool) (at : ℕ) (text : List ℕ) : Type 0 where
  NoBlank : blank_count false text ≡ 0 → field_at allowed at text ≡ Err (BadHeader at) → FieldCase allowed at text
  NoNumber : 0 < blank_count false text → digit_count (behind text) ≡ 0 → field_at allowed at text ≡ Err (BadHeader (at + blank_count false text)) → FieldCase allowed at text
  NotAllowed : 0 < blank_count false text → 0 < digit_count (behind text) → allowed (value_in text) ≡ false → field_at allowed at text ≡ Err (BadHeader (at + blank_count false text)) → FieldCase allowed at text
  Found : 0 < blank_count false text → 0 < digit_count (behind text) → allowed (value_in text) ≡ true → field_at allowed at text ≡ Ok (value_in text, end_of at text) → FieldCase allowed at text

pub field_case : (allowed : ℕ → Bool) (at : ℕ) (text : List ℕ) → FieldCase allowed at text
unfolding field_at number_at
field_case allowed at text = go (eqb (blank_count false text) 0) (eqb (digit_count (behind text)) 0) (allowed (value_in text)) refl refl refl
  where
    go : (t s v : Bool) → eqb (blank_count false text) 0 ≡ t → eqb (digit_count (behind text)) 0 ≡ s → allowed (value_in text) ≡ v → FieldCase allowed at text
    go true s v a b c = NoBlank (eqb-true _ 0 a) (rw a refl)
    go false true v a b c = NoNumber (omega (arith, eqb-false (blank_count false text) 0 a)) (eqb-true _ 0 b) (rw (a, b) refl)
    go false false false a b c = NotAllowed (omega (arith, eqb-false (blank_count false text) 0 a)) (omega (arith, eqb-false (digit_count (behind text)) 0 b)) c (rw (a, b, c) refl)
    go false false true a b c = Found (omega (arith, eqb-false (blank_count false text) 0 a)) (omega (arith, eqb-false (digit_count (behind text)) 0 b)) c (rw (a, b, c) refl)

-- a number is allowed exactly where the grammar allows it
pub record Decides (allowed : ℕ → Bool) (Allowed : ℕ → Type 0) : Type 0 where
  pub accepted : (n : ℕ) → allowed n ≡ true → Allowed n
  pub refused : (n : ℕ) → allowed n ≡ false → ¬ Allowed n

pub side_decides : Decides is_side IsSide
side_decides = record { accepted = λ n e. leb-true 1 n e; refused = λ n e side. absurd (omega (arith, side, leb-false 1 n e)) }

pub depth_decides : Decides is_depth IsDepth
depth_decides = record {
  accepted = λ n e. let both = and_parts (leb 1 n) (leb n MOST_SAMPLE) e in (leb-true 1 n both.0, leb-true n MOST_SAMPLE both.1);
  refused = λ n e depth. let is : is_depth n ≡ true = rw (le-leb 1 n depth.0, le-leb n MOST_SAMPLE depth.1) refl in absurd cc;
}

-- the bytes behind a field of a whole text
drop_end : (whole : List ℕ) (at : ℕ) (text : List ℕ) → drop at whole ≡ text → drop (at + blank_count false text + digit_count (behind text)) whole ≡ rest_in text
drop_end whole at text e =
    let c : ℕ = blank_count false text in
    let d : ℕ = digit_count (behind text) in
    sym (drop-drop d (at + c) whole) ∙ ap (drop d) (sym (drop-drop c at whole) ∙ ap (drop c) e)

-- ---- a header, field by field

abbrev third : List ℕ → ℕ × ℕ → ℕ × ℕ → ℕ × ℕ → Result Numbers PpmFault
third text width height maxval = white_at maxval.1 (drop maxval.1 text) >>= λ white. Ok (record { width = width.0; height = height.0; maxval = maxval.0; end = maxval.1 + 1 })

abbrev second : List ℕ → ℕ × ℕ → ℕ × ℕ → Result Numbers PpmFault
second text width height = field_at is_depth height.1 (drop height.1 text) >>= third text width height

abbrev first : List ℕ → ℕ × ℕ → Result Numbers PpmFault
first text width = field_at is_side width.1 (drop width.1 text) >>= second text width

header_is : (text : List ℕ) → header text ≡ (field_at is_side 2 (drop 2 text) >>= first text)
unfolding header
header_is text = refl

-- a step that gave a value, or a fault
pub step_ok : {A B : Type 0} (r : Result A PpmFault) (f : A → Result B PpmFault) (x : A) → r ≡ Ok x → (r >>= f) ≡ f x
step_ok r f x e = ap (λ (r : Result _ PpmFault). r >>= f) e

pub step_err : {A B : Type 0} (r : Result A PpmFault) (f : A → Result B PpmFault) (fault : PpmFault) → r ≡ Err fault → (r >>= f) ≡ Err fault
step_err r f fault e = ap (λ (r : Result _ PpmFault). r >>= f) e

white_found : (at white : ℕ) (raster : List ℕ) → is_white white ≡ true → white_at at (white ∷ raster) ≡ Ok tt
unfolding white_at
white_found at white raster e = rw e refl

-- ---- the cases of a header

abbrev Raster : ℕ → List ℕ → Type 0
Raster maxval = IsRaster (λ raster. Unit {0})

abbrev Maxval : ℕ → List ℕ → Type 0
Maxval height = IsField Raster

abbrev Height : ℕ → List ℕ → Type 0
Height width = IsField Maxval

raster_begins : NoDigit Raster
raster_begins n rest = raster_no_digit (λ raster. Unit {0}) rest

maxval_begins : NoDigit Maxval
maxval_begins n rest = field_no_digit Raster rest

height_begins : NoDigit Height
height_begins n rest = field_no_digit Maxval rest

raster_can : CanFollow Raster
raster_can n = (32 ∷ [], (32, [], refl, tt, refl))

maxval_can : CanFollow Maxval
maxval_can = can_field Raster raster_can

height_can : CanFollow Height
height_can = can_field Maxval maxval_can

-- the numbers that are read are those that are written, and the raster is what is left
abbrev pub Says : List ℕ → Numbers → ℕ → ℕ → ℕ → List ℕ → Type 0
Says text n width height maxval raster =
    (n.width ≡ width) × (n.height ≡ height) × (n.maxval ≡ maxval)
    × IsSide width × IsSide height × IsDepth maxval × (drop n.end text ≡ raster)

pub data HeaderCase (text : List ℕ) : Type 0 where
  Bad : (at : ℕ) → header text ≡ Err (BadHeader at) → IsFaulty text at → HeaderCase text
  Said : (n : Numbers) → header text ≡ Ok n → IsText (Says text n) text → HeaderCase text

white_case : (at : ℕ) (text : List ℕ) → (white_at at text ≡ Err (BadHeader at) × ((white : ℕ) (rest : List ℕ) → text ≡ white ∷ rest → is_white white ≡ false)) ⊎ ((white : ℕ) × (rest : List ℕ) × (is_white white ≡ true) × (text ≡ white ∷ rest))
unfolding white_at
white_case at [] = inl (refl, λ white rest e. absurd cc)
white_case at (b ∷ bytes) = go (is_white b) refl
  where
    go : (t : Bool) → is_white b ≡ t → (white_at at (b ∷ bytes) ≡ Err (BadHeader at) × ((white : ℕ) (rest : List ℕ) → b ∷ bytes ≡ white ∷ rest → is_white white ≡ false)) ⊎ ((white : ℕ) × (rest : List ℕ) × (is_white white ≡ true) × (b ∷ bytes ≡ white ∷ rest))
    go true e = inr (b, bytes, e, refl)
    go false e = inl (rw e refl, λ white rest same. let own : b ≡ white = cc in ap is_white (sym own) ∙ e)

-- a field is where the text is stuck, or it goes on
pub record Goes (allowed : ℕ → Bool) (at : ℕ) (text : List ℕ) : Type 0 where
  pub blank : 0 < blank_count false text
  pub digit : 0 < digit_count (behind text)
  pub fits : allowed (value_in text) ≡ true
  pub is : field_at allowed at text ≡ Ok (value_in text, end_of at text)

data LevelCase (Rest : ℕ → List ℕ → Type 0) (Allowed : ℕ → Type 0) (allowed : ℕ → Bool) (at : ℕ) (text : List ℕ) : Type 0 where
  Stuck : (k : ℕ) → field_at allowed at text ≡ Err (BadHeader (at + k)) → (StopsAt (IsField Rest) text k) ⊎ IsBad Allowed text k → LevelCase Rest Allowed allowed at text
  Going : Goes allowed at text → LevelCase Rest Allowed allowed at text

level_case : (Rest : ℕ → List ℕ → Type 0) (Allowed : ℕ → Type 0) (allowed : ℕ → Bool) (at : ℕ) (text : List ℕ) → NoDigit Rest → CanFollow Rest → Decides allowed Allowed → LevelCase Rest Allowed allowed at text
level_case Rest Allowed allowed at text none_begins can decides = go (field_case allowed at text)
  where
    go : FieldCase allowed at text → LevelCase Rest Allowed allowed at text
    go (NoBlank none is) = Stuck 0 (is ∙ ap (λ (n : ℕ). Err (BadHeader n)) (omega arith)) (inl (stops_at_blank Rest none_begins can text none))
    go (NoNumber some none is) = Stuck (blank_count false text) is (inl (stops_at_number Rest none_begins can text some none))
    go (NotAllowed some digit out is) = Stuck (blank_count false text) is (inr (bad_here Allowed text some digit (decides.refused (value_in text) out)))
    go (Found some digit fits is) = Going (record { blank = some; digit = digit; fits = fits; is = is })

abbrev pub found : ℕ → List ℕ → ℕ × ℕ
found at text = (value_in text, end_of at text)

-- a field whose number is allowed goes on
pub goes : (Allowed : ℕ → Type 0) (allowed : ℕ → Bool) (at : ℕ) (text : List ℕ) → Decides allowed Allowed → 0 < blank_count false text → 0 < digit_count (behind text) → Allowed (value_in text) → Goes allowed at text
goes Allowed allowed at text decides blank digit good = go (field_case allowed at text)
  where
    go : FieldCase allowed at text → Goes allowed at text
    go (NoBlank none is) = absurd (omega arith)
    go (NoNumber some none is) = absurd (omega arith)
    go (NotAllowed some number out is) = absurd (decides.refused (value_in text) out good)
    go (Found some number fits is) = record { blank = some; digit = number; fits = fits; is = is }

-- ---- what is left to read behind each field

chain1 : (text fields : List ℕ) → text ≡ 80 ∷ 54 ∷ fields → header text ≡ (field_at is_side 2 fields >>= first text)
chain1 text fields e = header_is text ∙ ap (λ (l : List ℕ). field_at is_side 2 (drop 2 l) >>= first text) e

from2 : (text fields : List ℕ) → text ≡ 80 ∷ 54 ∷ fields → drop (end_of 2 fields) text ≡ rest_in fields
from2 text fields e = drop_end text 2 fields (ap (drop 2) e)

chain2 : (text fields : List ℕ) → text ≡ 80 ∷ 54 ∷ fields → Goes is_side 2 fields → header text ≡ (field_at is_side (end_of 2 fields) (rest_in fields) >>= second text (found 2 fields))
chain2 text fields e g1 = chain1 text fields e ∙ (step_ok (field_at is_side 2 fields) (first text) (found 2 fields) g1.is ∙ ap (λ (l : List ℕ). field_at is_side (end_of 2 fields) l >>= second text (found 2 fields)) (from2 text fields e))

from3 : (text fields : List ℕ) → text ≡ 80 ∷ 54 ∷ fields → drop (end_of (end_of 2 fields) (rest_in fields)) text ≡ rest_in (rest_in fields)
from3 text fields e = drop_end text (end_of 2 fields) (rest_in fields) (from2 text fields e)

chain3 : (text fields : List ℕ) → text ≡ 80 ∷ 54 ∷ fields → Goes is_side 2 fields → Goes is_side (end_of 2 fields) (rest_in fields) → header text ≡ (field_at is_depth (end_of (end_of 2 fields) (rest_in fields)) (rest_in (rest_in fields)) >>= third text (found 2 fields) (found (end_of 2 fields) (rest_in fields)))
chain3 text fields e g1 g2 = chain2 text fields e g1 ∙ (step_ok (field_at is_side (end_of 2 fields) (rest_in fields)) (second text (found 2 fields)) (found (end_of 2 fields) (rest_in fields)) g2.is ∙ ap (λ (l : List ℕ). field_at is_depth (end_of (end_of 2 fields) (rest_in fields)) l >>= third text (found 2 fields) (found (end_of 2 fields) (rest_in fields))) (from3 text fields e))

-- the place where the white space before the raster stands
abbrev pub end3 : List ℕ → ℕ
end3 fields = end_of (end_of (end_of 2 fields) (rest_in fields)) (rest_in (rest_in fields))

abbrev pub rest3 : List ℕ → List ℕ
rest3 fields = rest_in (rest_in (rest_in fields))

abbrev pub numbers_in : List ℕ → Numbers
numbers_in fields = record { width = value_in fields; height = value_in (rest_in fields); maxval = value_in (rest_in (rest_in fields)); end = end3 fields + 1 }

from4 : (text fields : List ℕ) → text ≡ 80 ∷ 54 ∷ fields → drop (end3 fields) text ≡ rest3 fields
from4 text fields e = drop_end text (end_of (end_of 2 fields) (rest_in fields)) (rest_in (rest_in fields)) (from3 text fields e)

chain4 : (text fields : List ℕ) → text ≡ 80 ∷ 54 ∷ fields → Goes is_side 2 fields → Goes is_side (end_of 2 fields) (rest_in fields) → Goes is_depth (end_of (end_of 2 fields) (rest_in fields)) (rest_in (rest_in fields)) → header text ≡ (white_at (end3 fields) (rest3 fields) >>= λ white. Ok (numbers_in fields))
chain4 text fields e g1 g2 g3 = chain3 text fields e g1 g2 ∙ (step_ok (field_at is_depth (end_of (end_of 2 fields) (rest_in fields)) (rest_in (rest_in fields))) (third text (found 2 fields) (found (end_of 2 fields) (rest_in fields))) (found (end_of (end_of 2 fields) (rest_in fields)) (rest_in (rest_in fields))) g3.is ∙ ap (λ (l : List ℕ). white_at (end3 fields) l >>= λ white. Ok (numbers_in fields)) (from4 text fields e))

-- three numbers in range, each behind a separator, and white space
pub header_found : (text fields raster : List ℕ) (white : ℕ) → text ≡ 80 ∷ 54 ∷ fields → Goes is_side 2 fields → Goes is_side (end_of 2 fields) (rest_in fields) → Goes is_depth (end_of (end_of 2 fields) (rest_in fields)) (rest_in (rest_in fields)) → rest3 fields ≡ white ∷ raster → is_white white ≡ true → (header text ≡ Ok (numbers_in fields)) × (drop (end3 fields + 1) text ≡ raster)
header_found text fields raster white e g1 g2 g3 is is_one = (
  chain4 text fields e g1 g2 g3 ∙ step_ok (white_at (end3 fields) (rest3 fields)) (λ white. Ok (numbers_in fields)) tt (ap (white_at (end3 fields)) is ∙ white_found (end3 fields) white raster is_one),
  sym (drop-drop 1 (end3 fields) text) ∙ ap (drop 1) (from4 text fields e ∙ is),
)

-- ---- the cases

stopped : (text fields : List ℕ) → text ≡ 80 ∷ 54 ∷ fields → (at k : ℕ) → 2 + k ≡ at → StopsAt (IsField Height) fields k → StopsAt HasHeader text at
stopped text fields e at k same stop = subst (StopsAt HasHeader text) same (stops_behind_p6 (IsField Height) text fields k e stop)

case4 : (text fields : List ℕ) → text ≡ 80 ∷ 54 ∷ fields → Goes is_side 2 fields → Goes is_side (end_of 2 fields) (rest_in fields) → Goes is_depth (end_of (end_of 2 fields) (rest_in fields)) (rest_in (rest_in fields)) → HeaderCase text
case4 text fields e g1 g2 g3 = go (white_case (end3 fields) (rest3 fields))
  where
    r1 : List ℕ
    r1 = rest_in fields

    r2 : List ℕ
    r2 = rest_in (rest_in fields)

    go : (white_at (end3 fields) (rest3 fields) ≡ Err (BadHeader (end3 fields)) × ((white : ℕ) (rest : List ℕ) → rest3 fields ≡ white ∷ rest → is_white white ≡ false)) ⊎ ((white : ℕ) × (rest : List ℕ) × (is_white white ≡ true) × (rest3 fields ≡ white ∷ rest)) → HeaderCase text
    go (inl (is, none)) = Bad (end3 fields) (chain4 text fields e g1 g2 g3 ∙ step_err (white_at (end3 fields) (rest3 fields)) (λ white. Ok (numbers_in fields)) (BadHeader (end3 fields)) is)
        (inl (stopped text fields e _ _ (omega arith) (stops_behind Height height_begins fields _ g1.blank g1.digit (stops_behind Maxval maxval_begins (rest_in fields) _ g2.blank g2.digit (stops_behind Raster raster_begins (rest_in (rest_in fields)) 0 g3.blank g3.digit (stops_at_raster (λ raster. Unit {0}) [] tt (rest3 fields) none))))))
    go (inr (white, raster, is_one, is)) =
        let whole = header_found text fields raster white e g1 g2 g3 is is_one in
        let n : Numbers = numbers_in fields in
        let w : ℕ = number (digits_in fields) in
        let h : ℕ = number (digits_in r1) in
        let m : ℕ = number (digits_in r2) in
        let behind3 : IsRaster (Says text n w h m) (rest3 fields) = (white, raster, is_one, (refl, refl, refl, side_decides.accepted w g1.fits, side_decides.accepted h g2.fits, depth_decides.accepted m g3.fits, whole.1), is) in
        let behind2 : IsField (λ m. IsRaster (Says text n w h m)) r2 = field_of (λ m. IsRaster (Says text n w h m)) r2 (record { blank = g3.blank; digit = g3.digit; rest = behind3 }) in
        let behind1 : IsField (λ h. IsField (λ m. IsRaster (Says text n w h m))) r1 = field_of (λ h. IsField (λ m. IsRaster (Says text n w h m))) r1 (record { blank = g2.blank; digit = g2.digit; rest = behind2 }) in
        Said n whole.0 (fields, field_of (λ w. IsField (λ h. IsField (λ m. IsRaster (Says text n w h m)))) fields (record { blank = g1.blank; digit = g1.digit; rest = behind1 }), e)

case3 : (text fields : List ℕ) → text ≡ 80 ∷ 54 ∷ fields → Goes is_side 2 fields → Goes is_side (end_of 2 fields) (rest_in fields) → LevelCase Raster IsDepth is_depth (end_of (end_of 2 fields) (rest_in fields)) (rest_in (rest_in fields)) → HeaderCase text
case3 text fields e g1 g2 (Going g3) = case4 text fields e g1 g2 g3
case3 text fields e g1 g2 (Stuck k is why) = Bad (end_of (end_of 2 fields) (rest_in fields) + k) (chain3 text fields e g1 g2 ∙ step_err _ (third text (found 2 fields) (found (end_of 2 fields) (rest_in fields))) _ is) (go why)
  where
    go : (StopsAt (IsField Raster) (rest_in (rest_in fields)) k) ⊎ IsBad IsDepth (rest_in (rest_in fields)) k → IsFaulty text (end_of (end_of 2 fields) (rest_in fields) + k)
    go (inl stop) = inl (stopped text fields e _ _ (omega arith) (stops_behind Height height_begins fields _ g1.blank g1.digit (stops_behind Maxval maxval_begins (rest_in fields) k g2.blank g2.digit stop)))
    go (inr wrong) = inr (fields, _, inr (inr (bad_behind (IsBehind (IsBad IsDepth)) fields _ g1.blank g1.digit (bad_behind (IsBad IsDepth) (rest_in fields) k g2.blank g2.digit wrong))), e, omega arith)

case2 : (text fields : List ℕ) → text ≡ 80 ∷ 54 ∷ fields → Goes is_side 2 fields → LevelCase Maxval IsSide is_side (end_of 2 fields) (rest_in fields) → HeaderCase text
case2 text fields e g1 (Going g2) = case3 text fields e g1 g2 (level_case Raster IsDepth is_depth (end_of (end_of 2 fields) (rest_in fields)) (rest_in (rest_in fields)) raster_begins raster_can depth_decides)
case2 text fields e g1 (Stuck k is why) = Bad (end_of 2 fields + k) (chain2 text fields e g1 ∙ step_err _ (second text (found 2 fields)) _ is) (go why)
  where
    go : (StopsAt (IsField Maxval) (rest_in fields) k) ⊎ IsBad IsSide (rest_in fields) k → IsFaulty text (end_of 2 fields + k)
    go (inl stop) = inl (stopped text fields e _ _ (omega arith) (stops_behind Height height_begins fields k g1.blank g1.digit stop))
    go (inr wrong) = inr (fields, _, inr (inl (bad_behind (IsBad IsSide) fields k g1.blank g1.digit wrong)), e, omega arith)

case1 : (text fields : List ℕ) → text ≡ 80 ∷ 54 ∷ fields → LevelCase Height IsSide is_side 2 fields → HeaderCase text
case1 text fields e (Going g1) = case2 text fields e g1 (level_case Maxval IsSide is_side (end_of 2 fields) (rest_in fields) maxval_begins maxval_can side_decides)
case1 text fields e (Stuck k is why) = Bad (2 + k) (chain1 text fields e ∙ step_err _ (first text) _ is) (go why)
  where
    go : (StopsAt (IsField Height) fields k) ⊎ IsBad IsSide fields k → IsFaulty text (2 + k)
    go (inl stop) = inl (stopped text fields e (2 + k) k refl stop)
    go (inr wrong) = inr (fields, k, inl wrong, e, refl)

pub header_case : (text fields : List ℕ) → text ≡ 80 ∷ 54 ∷ fields → HeaderCase text
header_case text fields e = case1 text fields e (level_case Height IsSide is_side 2 fields height_begins height_can side_decides)

-- ---- a number that isn't allowed is told, or a place before it is

-- the header is told to be bad at this place or before it
abbrev pub TellsBy : List ℕ → ℕ → Type 0
TellsBy text place = (at : ℕ) × (header text ≡ Err (BadHeader at)) × (at ≤ place)

-- a field before such a number goes on, or is told itself
before_case : (allowed : ℕ → Bool) (There : List ℕ → ℕ → Type 0) (at : ℕ) (text : List ℕ) (k : ℕ) → Behind There text k → ((place : ℕ) × (field_at allowed at text ≡ Err (BadHeader place)) × (place ≤ at + k)) ⊎ Goes allowed at text
before_case allowed There at text k b = go (field_case allowed at text)
  where
    go : FieldCase allowed at text → ((place : ℕ) × (field_at allowed at text ≡ Err (BadHeader place)) × (place ≤ at + k)) ⊎ Goes allowed at text
    go (NoBlank none is) = absurd (omega (arith, b.blank))
    go (NoNumber some none is) = absurd (omega (arith, b.digit))
    go (NotAllowed some digit out is) = inl (at + blank_count false text, is, omega (arith, b.sum))
    go (Found some digit fits is) = inr (record { blank = some; digit = digit; fits = fits; is = is })

-- the field of such a number is told
told_at : (allowed : ℕ → Bool) (Allowed : ℕ → Type 0) (at : ℕ) (text : List ℕ) (k : ℕ) → Decides allowed Allowed → IsBad Allowed text k → field_at allowed at text ≡ Err (BadHeader (at + k))
told_at allowed Allowed at text k decides bad = go (field_case allowed at text)
  where
    go : FieldCase allowed at text → field_at allowed at text ≡ Err (BadHeader (at + k))
    go (NoBlank none is) = absurd (omega (arith, (bad_cut Allowed text k bad).1))
    go (NoNumber some none is) = absurd (omega (arith, (bad_cut Allowed text k bad).2))
    go (NotAllowed some digit out is) = is ∙ ap (λ (n : ℕ). Err (BadHeader (at + n))) (sym (bad_cut Allowed text k bad).0)
    go (Found some digit fits is) = absurd ((bad_cut Allowed text k bad).3 (decides.accepted (value_in text) fits))

told_width : (text fields : List ℕ) (k : ℕ) → text ≡ 80 ∷ 54 ∷ fields → IsBad IsSide fields k → TellsBy text (2 + k)
told_width text fields k e bad = (2 + k, chain1 text fields e ∙ step_err _ (first text) _ (told_at is_side IsSide 2 fields k side_decides bad), omega arith)

told_height : (text fields : List ℕ) (k : ℕ) → text ≡ 80 ∷ 54 ∷ fields → Goes is_side 2 fields → IsBad IsSide (rest_in fields) k → TellsBy text (end_of 2 fields + k)
told_height text fields k e g1 bad = (end_of 2 fields + k, chain2 text fields e g1 ∙ step_err _ (second text (found 2 fields)) _ (told_at is_side IsSide (end_of 2 fields) (rest_in fields) k side_decides bad), omega arith)

told_maxval : (text fields : List ℕ) (k : ℕ) → text ≡ 80 ∷ 54 ∷ fields → Goes is_side 2 fields → Goes is_side (end_of 2 fields) (rest_in fields) → IsBad IsDepth (rest_in (rest_in fields)) k → TellsBy text (end_of (end_of 2 fields) (rest_in fields) + k)
told_maxval text fields k e g1 g2 bad = (end_of (end_of 2 fields) (rest_in fields) + k, chain3 text fields e g1 g2 ∙ step_err _ (third text (found 2 fields) (found (end_of 2 fields) (rest_in fields))) _ (told_at is_depth IsDepth (end_of (end_of 2 fields) (rest_in fields)) (rest_in (rest_in fields)) k depth_decides bad), omega arith)

-- behind a width
told_behind_width : (There : List ℕ → ℕ → Type 0) (text fields : List ℕ) (k : ℕ) → text ≡ 80 ∷ 54 ∷ fields → Behind There fields k
    → ((j : ℕ) → Goes is_side 2 fields → There (rest_in fields) j → TellsBy text (end_of 2 fields + j)) → TellsBy text (2 + k)
told_behind_width There text fields k e b later = go (before_case is_side There 2 fields k b)
  where
    go : ((place : ℕ) × (field_at is_side 2 fields ≡ Err (BadHeader place)) × (place ≤ 2 + k)) ⊎ Goes is_side 2 fields → TellsBy text (2 + k)
    go (inl (place, is, within)) = (place, chain1 text fields e ∙ step_err _ (first text) _ is, within)
    go (inr g1) =
        let (place, is, within) = later b.j g1 b.there in
        (place, is, omega (arith, within, b.sum))

-- behind a width and a height
told_behind_height : (There : List ℕ → ℕ → Type 0) (text fields : List ℕ) (k : ℕ) → text ≡ 80 ∷ 54 ∷ fields → Goes is_side 2 fields → Behind There (rest_in fields) k
    → ((j : ℕ) → Goes is_side (end_of 2 fields) (rest_in fields) → There (rest_in (rest_in fields)) j → TellsBy text (end_of (end_of 2 fields) (rest_in fields) + j)) → TellsBy text (end_of 2 fields + k)
told_behind_height There text fields k e g1 b later = go (before_case is_side There (end_of 2 fields) (rest_in fields) k b)
  where
    go : ((place : ℕ) × (field_at is_side (end_of 2 fields) (rest_in fields) ≡ Err (BadHeader place)) × (place ≤ end_of 2 fields + k)) ⊎ Goes is_side (end_of 2 fields) (rest_in fields) → TellsBy text (end_of 2 fields + k)
    go (inl (place, is, within)) = (place, chain2 text fields e g1 ∙ step_err _ (second text (found 2 fields)) _ is, within)
    go (inr g2) =
        let (place, is, within) = later b.j g2 b.there in
        (place, is, omega (arith, within, b.sum))

pub bad_number_told : (text : List ℕ) (at : ℕ) → IsBadNumber text at → TellsBy text at
bad_number_told text at (fields, k, bad, e, same) = subst (TellsBy text) (sym same) (go bad)
  where
    go : IsBad IsSide fields k ⊎ (IsBehind (IsBad IsSide) fields k ⊎ IsBehind (IsBehind (IsBad IsDepth)) fields k) → TellsBy text (2 + k)
    go (inl width) = told_width text fields k e width
    go (inr (inl height)) = told_behind_width (IsBad IsSide) text fields k e (behind_cut (IsBad IsSide) (bad_no_digit IsSide) fields k height) (λ j g1 bad. told_height text fields j e g1 bad)
    go (inr (inr maxval)) =
        told_behind_width (IsBehind (IsBad IsDepth)) text fields k e (behind_cut (IsBehind (IsBad IsDepth)) (behind_no_digit (IsBad IsDepth)) fields k maxval)
        (λ j g1 behind_it. told_behind_height (IsBad IsDepth) text fields j e g1 (behind_cut (IsBad IsDepth) (bad_no_digit IsDepth) (rest_in fields) j behind_it) (λ i g2 bad. told_maxval text fields i e g1 g2 bad))

-- ---- what stands before a bad place begins a good header

reaches_number : (text : List ℕ) (at : ℕ) → IsBadNumber text at → Reaches HasHeader text at
reaches_number text at (fields, k, bad, e, same) = subst (Reaches HasHeader text) (sym same) (reaches_p6 (IsField Height) text fields k e (go bad))
  where
    go : IsBad IsSide fields k ⊎ (IsBehind (IsBad IsSide) fields k ⊎ IsBehind (IsBehind (IsBad IsDepth)) fields k) → Reaches (IsField Height) fields k
    go (inl width) = reaches_bad Height height_can IsSide fields k width
    go (inr (inl height)) = reaches_behind Height (IsBad IsSide) (λ n rest j bad. reaches_bad Maxval maxval_can IsSide rest j bad) fields k height
    go (inr (inr maxval)) = reaches_behind Height (IsBehind (IsBad IsDepth)) (λ n rest j behind_it. reaches_behind Maxval (IsBad IsDepth) (λ m last i bad. reaches_bad Raster raster_can IsDepth last i bad) rest j behind_it) fields k maxval

pub faulty_reaches : (text : List ℕ) (at : ℕ) → IsFaulty text at → Reaches HasHeader text at
faulty_reaches text at (inl stop) = (stop.within, stop.before)
faulty_reaches text at (inr bad) = reaches_number text at bad
