-- PPM: what is read is a picture of the grammar, each of the grammar is read, and what each fault says.
use Rattle.std.proofs.Common.{◌≡◌, ◌≢◌, ℕ, ◌*◌, ◌<◌, ◌≤◌, ◌⊎◌, ◌↔◌, inl, inr, Bool, true, false, eqb, ltb, ◌&&◌, List, [], ◌∷◌, length, drop, Ok, Err, refl, sym, ap, subst, ◌∙◌, arith}
use Rattle.std.specs.Prelude.{nat_eq, codes}
use Rattle.std.specs.List.{starts_with}
use Rattle.std.proofs.lemmas.Bool.{eqb-true, ltb-true, ltb-false}
use Rattle.mlt_base.specs.declared.fault.PpmFault.TheVariants.{NotP6, BadHeader, TooLarge, Short}
use Rattle.mlt_base.specs.declared.limits.TheConstants.{MOST_PIXELS}
use Rattle.mlt_base.specs.Still.{Picture}
use Rattle.mlt_base.specs.Reading.{number}
use Rattle.mlt_base.specs.Steps.{◌>>=◌}
use Rattle.mlt_base.specs.Stop.{First}
use Rattle.mlt_base.specs.Ppm.{raster_pixels, needed, is_side, is_depth, IsField, IsRaster, IsText, IsP6, HasHeader, IsRasterOf, IsPpm, IsSide, IsDepth, IsBadNumber, IsFaulty, AreNumbers, IsLarge, IsShort, Numbers, header, picture, ppm}
use Rattle.mlt_base.proofs.Stops.{not_before}
use Rattle.mlt_base.proofs.PpmFields.{digits_in, rest_in, parts_of, field_no_digit, raster_no_digit}
use Rattle.mlt_base.proofs.PpmHeaders.{side_decides, depth_decides, Goes, goes, end_of, numbers_in, header_found, Says, HeaderCase, Bad, Said, header_case, step_ok, step_err, bad_number_told, faulty_reaches}

-- ---- `P6`

p6_of : (text : List ℕ) → starts_with nat_eq text (codes "P6") ≡ true → (fields : List ℕ) × (text ≡ 80 ∷ 54 ∷ fields)
p6_of [] e = absurd cc
p6_of (a ∷ []) e = go (eqb 80 a) e
  where
    go : (t : Bool) → (t && false) ≡ true → (fields : List ℕ) × (a ∷ [] ≡ 80 ∷ 54 ∷ fields)
    go true e = absurd cc
    go false e = absurd cc
p6_of (a ∷ b ∷ fields) e = go (eqb 80 a) (eqb 54 b) refl refl e
  where
    go : (t s : Bool) → eqb 80 a ≡ t → eqb 54 b ≡ s → (t && (s && true)) ≡ true → (fields' : List ℕ) × (a ∷ b ∷ fields ≡ 80 ∷ 54 ∷ fields')
    go true true h k e = (fields, let one : 80 ≡ a = eqb-true 80 a h in let two : 54 ≡ b = eqb-true 54 b k in cc)
    go true false h k e = absurd cc
    go false s h k e = absurd cc

starts_p6 : (text fields : List ℕ) → text ≡ 80 ∷ 54 ∷ fields → starts_with nat_eq text (codes "P6") ≡ true
starts_p6 text fields e = ap (λ (l : List ℕ). starts_with nat_eq l (codes "P6")) e

-- ---- from one claim on a text's numbers and raster to another

map_text : (R S : ℕ → ℕ → ℕ → List ℕ → Type 0) → ((w h m : ℕ) (raster : List ℕ) → R w h m raster → S w h m raster) → (text : List ℕ) → IsText R text → IsText S text
map_text R S f text (fields, (s1, d1, r1, sep1, num1, (s2, d2, r2, sep2, num2, (s3, d3, r3, sep3, num3, (white, raster, is_one, good, is4), is3), is2), is1), e) =
    (fields, (s1, d1, r1, sep1, num1, (s2, d2, r2, sep2, num2, (s3, d3, r3, sep3, num3, (white, raster, is_one, f (number d1) (number d2) (number d3) raster good, is4), is3), is2), is1), e)

-- ---- the picture behind a header

abbrev need_of : Numbers → ℕ
need_of n = needed n.maxval (n.width * n.height)

abbrev made : Numbers → List ℕ → Picture
made n raster = record { width = n.width; height = n.height; pixels = raster_pixels n.maxval raster (n.width * n.height) }

data PictureCase (n : Numbers) (raster : List ℕ) : Type 0 where
  Large : (MOST_PIXELS < n.width) ⊎ (MOST_PIXELS < n.height) → picture n raster ≡ Err TooLarge → PictureCase n raster
  Lacks : n.width ≤ MOST_PIXELS → n.height ≤ MOST_PIXELS → length raster < need_of n → picture n raster ≡ Err (Short (length raster) (need_of n)) → PictureCase n raster
  Made : n.width ≤ MOST_PIXELS → n.height ≤ MOST_PIXELS → need_of n ≤ length raster → picture n raster ≡ Ok (made n raster) → PictureCase n raster

picture_case : (n : Numbers) (raster : List ℕ) → PictureCase n raster
unfolding picture
picture_case n raster = go (ltb MOST_PIXELS n.width) (ltb MOST_PIXELS n.height) (ltb (length raster) (need_of n)) refl refl refl
  where
    go : (t s r : Bool) → ltb MOST_PIXELS n.width ≡ t → ltb MOST_PIXELS n.height ≡ s → ltb (length raster) (need_of n) ≡ r → PictureCase n raster
    go true s r a b c = Large (inl (ltb-true MOST_PIXELS n.width a)) (rw a refl)
    go false true r a b c = Large (inr (ltb-true MOST_PIXELS n.height b)) (rw (a, b) refl)
    go false false true a b c = Lacks (ltb-false MOST_PIXELS n.width a) (ltb-false MOST_PIXELS n.height b) (ltb-true (length raster) (need_of n) c) (rw (a, b, c) refl)
    go false false false a b c = Made (ltb-false MOST_PIXELS n.width a) (ltb-false MOST_PIXELS n.height b) (ltb-false (length raster) (need_of n) c) (rw (a, b, c) refl)

-- ---- the whole

-- behind `P6`
ppm_behind : (text fields : List ℕ) → text ≡ 80 ∷ 54 ∷ fields → ppm text ≡ (header text >>= λ n. picture n (drop n.end text))
unfolding ppm
ppm_behind text fields e = rw (starts_p6 text fields e) refl

-- a bad header
ppm_bad : (text fields : List ℕ) (at : ℕ) → text ≡ 80 ∷ 54 ∷ fields → header text ≡ Err (BadHeader at) → ppm text ≡ Err (BadHeader at)
ppm_bad text fields at e is = ppm_behind text fields e ∙ step_err (header text) (λ n. picture n (drop n.end text)) (BadHeader at) is

-- numbers in range
ppm_said : (text fields : List ℕ) (n : Numbers) → text ≡ 80 ∷ 54 ∷ fields → header text ≡ Ok n → ppm text ≡ picture n (drop n.end text)
ppm_said text fields n e is = ppm_behind text fields e ∙ step_ok (header text) (λ n. picture n (drop n.end text)) n is

-- what `ppm` gives for a text, and what the text is
pub data PpmCase (text : List ℕ) : Type 0 where
  Other : ppm text ≡ Err NotP6 → ((fields : List ℕ) → text ≢ 80 ∷ 54 ∷ fields) → PpmCase text
  Wrong : (at : ℕ) → ppm text ≡ Err (BadHeader at) → IsP6 text → IsFaulty text at → PpmCase text
  Fine : (n : Numbers) → ppm text ≡ picture n (drop n.end text) → IsText (Says text n) text → PpmCase text

pub ppm_case : (text : List ℕ) → PpmCase text
unfolding ppm
ppm_case text = go (starts_with nat_eq text (codes "P6")) refl
  where
    behind : (fields : List ℕ) → text ≡ 80 ∷ 54 ∷ fields → HeaderCase text → PpmCase text
    behind fields e (Bad at is why) = Wrong at (ppm_bad text fields at e is) (fields, e) why
    behind fields e (Said n is said) = Fine n (ppm_said text fields n e is) said

    go : (t : Bool) → starts_with nat_eq text (codes "P6") ≡ t → PpmCase text
    go true e = let (fields, is) = p6_of text e in behind fields is (header_case text fields is)
    go false e = Other (rw e refl) (λ fields is. let yes_it : starts_with nat_eq text (codes "P6") ≡ true = starts_p6 text fields is in absurd cc)

-- ---- the laws

-- the picture of the numbers that were read is that of those that are written
said_exactly : (text : List ℕ) (n : Numbers) (w h m : ℕ) (raster : List ℕ) → Says text n w h m raster → (need_of n ≡ needed m (w * h)) × (made n (drop n.end text) ≡ record { width = w; height = h; pixels = raster_pixels m raster (w * h) })
said_exactly text n w h m raster (ew, eh, em, sw, sh, dm, er) = (rw (ew, eh, em) refl, rw (ew, eh, em, er) refl)

-- a text of allowed numbers gives what its numbers and its raster make
pub ppm_of_text : (R : ℕ → ℕ → ℕ → List ℕ → Type 0) → ((w h m : ℕ) (raster : List ℕ) → R w h m raster → AreNumbers w h m) → (text : List ℕ) → IsText R text → (n : Numbers) × (raster : List ℕ) × R n.width n.height n.maxval raster × (ppm text ≡ picture n raster)
ppm_of_text R numbers text (fields, field, e) =
    let BehindWidth = λ (w : ℕ). IsField (λ h. IsField (λ m. IsRaster (R w h m))) in
    let p1 = parts_of BehindWidth (λ w rest. field_no_digit (λ h. IsField (λ m. IsRaster (R w h m))) rest) fields field in
    let w : ℕ = number (digits_in fields) in
    let r1 : List ℕ = rest_in fields in
    let BehindHeight = λ (h : ℕ). IsField (λ m. IsRaster (R w h m)) in
    let p2 = parts_of BehindHeight (λ h rest. field_no_digit (λ m. IsRaster (R w h m)) rest) r1 p1.rest in
    let h : ℕ = number (digits_in r1) in
    let r2 : List ℕ = rest_in r1 in
    let BehindMaxval = λ (m : ℕ). IsRaster (R w h m) in
    let p3 = parts_of BehindMaxval (λ m rest. raster_no_digit (R w h m) rest) r2 p2.rest in
    let m : ℕ = number (digits_in r2) in
    let (white, raster, is_one, good, is) = p3.rest in
    let are : AreNumbers w h m = numbers w h m raster good in
    let g1 : Goes is_side 2 fields = goes IsSide is_side 2 fields side_decides p1.blank p1.digit are.0 in
    let g2 : Goes is_side (end_of 2 fields) r1 = goes IsSide is_side (end_of 2 fields) r1 side_decides p2.blank p2.digit are.1 in
    let g3 : Goes is_depth (end_of (end_of 2 fields) r1) r2 = goes IsDepth is_depth (end_of (end_of 2 fields) r1) r2 depth_decides p3.blank p3.digit are.2 in
    let whole = header_found text fields raster white e g1 g2 g3 is is_one in
    (numbers_in fields, raster, good, ppm_said text fields (numbers_in fields) e whole.0 ∙ ap (picture (numbers_in fields)) whole.1)

pub ppm_takes : (text : List ℕ) (p : Picture) → ppm text ≡ Ok p → IsPpm text p
ppm_takes text p e = go (ppm_case text)
  where
    fine : (n : Numbers) → IsText (Says text n) text → picture n (drop n.end text) ≡ Ok p → PictureCase n (drop n.end text) → IsPpm text p
    fine n said is (Large why h) = absurd cc
    fine n said is (Lacks low short why h) = absurd cc
    fine n said is (Made low short room h) =
        let same : made n (drop n.end text) ≡ p = cc in
        map_text (Says text n) (IsRasterOf p) (λ w h m raster s.
        let x = said_exactly text n w h m raster s in
        (s.3, omega (arith, s.0), s.4, omega (arith, s.1), s.5, omega (arith, x.0, ap length s.6), sym same ∙ x.1)) text said

    go : PpmCase text → IsPpm text p
    go (Other is why) = absurd cc
    go (Wrong at is p6 why) = absurd cc
    go (Fine n is said) = fine n said (sym is ∙ e) (picture_case n (drop n.end text))

pub ppm_accepted : (text : List ℕ) (p : Picture) → IsPpm text p → ppm text ≡ Ok p
ppm_accepted text p is =
    let (n, raster, good, reads) = ppm_of_text (IsRasterOf p) (λ w h m raster s. (s.0, s.2, s.4)) text is in
    reads ∙ go n raster good (picture_case n raster)
  where
    go : (n : Numbers) (raster : List ℕ) → IsRasterOf p n.width n.height n.maxval raster → PictureCase n raster → picture n raster ≡ Ok p
    go n raster s (Large (inl h) is) = absurd (omega (arith, s.1))
    go n raster s (Large (inr h) is) = absurd (omega (arith, s.3))
    go n raster s (Lacks a b c is) = absurd (omega (arith, s.5))
    go n raster s (Made a b c is) = is ∙ ap (λ (p : Picture). Ok p) (sym s.6)

-- ---- `P6`

is_p6 : (text : List ℕ) → IsText (λ w h m raster. Unit {0}) text → IsP6 text
is_p6 text (fields, field, e) = (fields, e)

-- the picture of a text with a header isn't refused for its first bytes or its header
picture_not_p6 : (n : Numbers) (raster : List ℕ) → picture n raster ≡ Err NotP6 → ⊥
picture_not_p6 n raster is = go (picture_case n raster)
  where
    go : PictureCase n raster → ⊥
    go (Large why h) = absurd cc
    go (Lacks low short why h) = absurd cc
    go (Made low short room h) = absurd cc

picture_not_bad : (n : Numbers) (raster : List ℕ) (at : ℕ) → picture n raster ≡ Err (BadHeader at) → ⊥
picture_not_bad n raster at is = go (picture_case n raster)
  where
    go : PictureCase n raster → ⊥
    go (Large why h) = absurd cc
    go (Lacks low short why h) = absurd cc
    go (Made low short room h) = absurd cc

-- the text of a header has one, whatever is said of its numbers
has_header : (R : ℕ → ℕ → ℕ → List ℕ → Type 0) (text : List ℕ) → IsText R text → HasHeader text
has_header R text is = map_text R (λ w h m raster. Unit {0}) (λ w h m raster s. tt) text is

pub law_other : (text : List ℕ) → ppm text ≡ Err NotP6 ↔ ¬ IsP6 text
law_other text = ((λ e. not_it e (ppm_case text)), λ never. other never (ppm_case text))
  where
    not_it : ppm text ≡ Err NotP6 → PpmCase text → ¬ IsP6 text
    not_it e (Other is why) = λ (fields, it). why fields it
    not_it e (Wrong at is p6 why) = absurd cc
    not_it e (Fine n is said) = absurd (picture_not_p6 n (drop n.end text) (sym is ∙ e))

    other : ¬ IsP6 text → PpmCase text → ppm text ≡ Err NotP6
    other never (Other is why) = is
    other never (Wrong at is p6 why) = absurd (never p6)
    other never (Fine n is said) = absurd (never (is_p6 text (has_header (Says text n) text said)))

-- ---- a bad header

-- a number that isn't allowed: a bad header is told there, or before it
number_told : (text : List ℕ) (k : ℕ) → IsBadNumber text k → (at : ℕ) × (ppm text ≡ Err (BadHeader at)) × (at ≤ k)
number_told text k bad =
    let (at, is, within) = bad_number_told text k bad in
    (at, ppm_bad text bad.0 at bad.3 is, within)

-- what is told is the first
told_first : (text : List ℕ) (at : ℕ) → ppm text ≡ Err (BadHeader at) → IsFaulty text at → (k : ℕ) → IsFaulty text k → at ≤ k
told_first text at e why k (inl stop) =
    let reached = faulty_reaches text at why in
    not_before HasHeader text k at stop reached.0 reached.1
told_first text at e why k (inr bad) =
    let (place, is, within) = number_told text k bad in
    let same : place ≡ at = cc in
    omega (arith, within, same)

-- a header that is read is bad nowhere
fine_nowhere : (text : List ℕ) (n : Numbers) (at : ℕ) → ppm text ≡ picture n (drop n.end text) → IsText (Says text n) text → ¬ IsFaulty text at
fine_nowhere text n at is said (inl stop) = stop.unfinished (has_header (Says text n) text said)
fine_nowhere text n at is said (inr bad) =
    let (place, told, within) = number_told text at bad in
    picture_not_bad n (drop n.end text) place (sym is ∙ told)

pub law_wrong : (text : List ℕ) (at : ℕ) → ppm text ≡ Err (BadHeader at) ↔ (IsP6 text × First (IsFaulty text) at)
law_wrong text at = ((λ e. first_of e (ppm_case text)), λ (p6, (why, first)). told p6 why first (ppm_case text))
  where
    first_of : ppm text ≡ Err (BadHeader at) → PpmCase text → IsP6 text × First (IsFaulty text) at
    first_of e (Other is why) = absurd cc
    first_of e (Wrong place is p6 why) =
        let same : place ≡ at = cc in
        let here : IsFaulty text at = subst (IsFaulty text) same why in
        (p6, (here, told_first text at e here))
    first_of e (Fine n is said) = absurd (picture_not_bad n (drop n.end text) at (sym is ∙ e))

    told : IsP6 text → IsFaulty text at → ((k : ℕ) → IsFaulty text k → at ≤ k) → PpmCase text → ppm text ≡ Err (BadHeader at)
    told (fields, e) why first (Other is other) = absurd (other fields e)
    told p6 why first (Wrong place is it here) =
        let same : place ≡ at = omega (arith, first place here, told_first text place is here at why) in
        is ∙ ap (λ (n : ℕ). Err (BadHeader n)) same
    told p6 why first (Fine n is said) = absurd (fine_nowhere text n at is said why)

-- ---- too large, or too short

pub law_large : (text : List ℕ) → ppm text ≡ Err TooLarge ↔ IsLarge text
law_large text = ((λ e. large e (ppm_case text)), λ is. told is)
  where
    Over : ℕ → ℕ → ℕ → List ℕ → Type 0
    Over width height maxval raster = AreNumbers width height maxval × ((MOST_PIXELS < width) ⊎ (MOST_PIXELS < height))

    fine : (n : Numbers) → IsText (Says text n) text → picture n (drop n.end text) ≡ Err TooLarge → PictureCase n (drop n.end text) → IsLarge text
    fine n said is (Large (inl over) large) = map_text (Says text n) Over (λ w h m raster s. ((s.3, s.4, s.5), inl (omega (arith, s.0)))) text said
    fine n said is (Large (inr over) large) = map_text (Says text n) Over (λ w h m raster s. ((s.3, s.4, s.5), inr (omega (arith, s.1)))) text said
    fine n said is (Lacks low short why h) = absurd cc
    fine n said is (Made low short room h) = absurd cc

    large : ppm text ≡ Err TooLarge → PpmCase text → IsLarge text
    large e (Other is why) = absurd cc
    large e (Wrong at is p6 why) = absurd cc
    large e (Fine n is said) = fine n said (sym is ∙ e) (picture_case n (drop n.end text))

    go : (n : Numbers) (raster : List ℕ) → (MOST_PIXELS < n.width) ⊎ (MOST_PIXELS < n.height) → PictureCase n raster → picture n raster ≡ Err TooLarge
    go n raster over (Large why is) = is
    go n raster (inl over) (Lacks a b c is) = absurd (omega arith)
    go n raster (inr over) (Lacks a b c is) = absurd (omega arith)
    go n raster (inl over) (Made a b c is) = absurd (omega arith)
    go n raster (inr over) (Made a b c is) = absurd (omega arith)

    told : IsLarge text → ppm text ≡ Err TooLarge
    told is =
        let (n, raster, good, reads) = ppm_of_text Over (λ w h m raster s. s.0) text is in
        reads ∙ go n raster good.1 (picture_case n raster)

pub law_short : (text : List ℕ) (have need : ℕ) → ppm text ≡ Err (Short have need) ↔ IsShort text have need
law_short text have need = ((λ e. short e (ppm_case text)), λ is. told is)
  where
    Under : ℕ → ℕ → ℕ → List ℕ → Type 0
    Under width height maxval raster = AreNumbers width height maxval × (width ≤ MOST_PIXELS) × (height ≤ MOST_PIXELS) × (have ≡ length raster) × (need ≡ needed maxval (width * height)) × (have < need)

    fine : (n : Numbers) → IsText (Says text n) text → picture n (drop n.end text) ≡ Err (Short have need) → PictureCase n (drop n.end text) → IsShort text have need
    fine n said is (Large why h) = absurd cc
    fine n said is (Made low short room h) = absurd cc
    fine n said is (Lacks low short why h) =
        let there : length (drop n.end text) ≡ have = cc in
        let wanted : need_of n ≡ need = cc in
        map_text (Says text n) Under (λ w h m raster s.
        let x = said_exactly text n w h m raster s in
        ((s.3, s.4, s.5), omega (arith, s.0), omega (arith, s.1), sym there ∙ ap length s.6, sym wanted ∙ x.0, omega arith)) text said

    short : ppm text ≡ Err (Short have need) → PpmCase text → IsShort text have need
    short e (Other is why) = absurd cc
    short e (Wrong at is p6 why) = absurd cc
    short e (Fine n is said) = fine n said (sym is ∙ e) (picture_case n (drop n.end text))

    go : (n : Numbers) (raster : List ℕ) → Under n.width n.height n.maxval raster → PictureCase n raster → picture n raster ≡ Err (Short have need)
    go n raster s (Large (inl over) is) = absurd (omega (arith, s.1))
    go n raster s (Large (inr over) is) = absurd (omega (arith, s.2))
    go n raster s (Lacks a b c is) = is ∙ (ap (λ (k : ℕ). Err (Short k (need_of n))) (sym s.3) ∙ ap (λ (k : ℕ). Err (Short have k)) (sym s.4))
    go n raster s (Made a b c is) = absurd (omega (arith, s.3, s.4, s.5))

    told : IsShort text have need → ppm text ≡ Err (Short have need)
    told is =
        let (n, raster, good, reads) = ppm_of_text Under (λ w h m raster s. s.0) text is in
        reads ∙ go n raster good (picture_case n raster)
