-- Geometries: what is read is one, and each that is one is read.
use Rattle.std.proofs.Common.{◌≡◌, ◌≢◌, ℕ, ◌*◌, ◌/◌, ◌^◌, ◌<◌, ◌≤◌, ◌⊎◌, Bool, true, false, cond, leb, min, max, List, [], ◌∷◌, ◌++◌, Ok, Err, inl, inr, refl, sym, ap, subst, ◌∙◌, arith}
use Rattle.std.specs.Prelude.{ℤ, pos, negsuc, unsigned_abs, FitsSigned, Option, Some, None, Result}
use Rattle.std.specs.Int.{w64}
use Rattle.std.proofs.lemmas.Bool.{leb-true, le-leb}
use Rattle.mlt_base.specs.declared.fault.NumFault.{NumFault}
use Rattle.mlt_base.specs.Whole.{whole}
use Rattle.mlt_base.specs.SplitOnce.{split_once}
use Rattle.mlt_base.specs.Geometry.{Rectangle, near, from_low, near_zero, counted, hundredths, offset_from, offset, extent_from, extent, corner_cut, corner, area, area_from, shape, geometry}
use Rattle.mlt_base.specs.Grammar.{IsWhole, whole_text, IsOffset, IsExtent, IsCorner, IsArea, IsGeometry}
use Rattle.mlt_base.proofs.WholeForms.{whole_takes, whole_accepted}
use Rattle.mlt_base.proofs.Cuts.{Lacks, Lacks-append, Lacks-digits, cut_again, cut_none, cut_takes, some_is, bind_some}

-- ---- numbers in a range

near_takes : (limit : ℕ) (text : List ℕ) (z : ℤ) → near_zero limit text ≡ Some z → IsWhole text z × (unsigned_abs z ≤ limit)
unfolding near_zero
near_takes limit text z e = read (whole text) refl e
  where
    read : (r : Result ℤ NumFault) → whole text ≡ r → near limit r ≡ Some z → IsWhole text z × (unsigned_abs z ≤ limit)
    read (Err fault) h e = absurd cc
    read (Ok y) h e = go (leb (unsigned_abs y) limit) refl e
      where
        go : (t : Bool) → leb (unsigned_abs y) limit ≡ t → cond t (Some y) None ≡ Some z → IsWhole text z × (unsigned_abs z ≤ limit)
        go false small e = absurd cc
        go true small e = subst (λ (x : ℤ). IsWhole text x × (unsigned_abs x ≤ limit)) (some_is y z e) ((whole_takes text y h).0, leb-true (unsigned_abs y) limit small)

small_fits : (z : ℤ) → unsigned_abs z < 2 ^ 63 → FitsSigned w64 z
small_fits (pos n) h = record { sfits = omega (arith, h) }
small_fits (negsuc n) h = record { sfits = omega (arith, h) }

near_again : (limit : ℕ) (text : List ℕ) (z : ℤ) → limit < 2 ^ 63 → IsWhole text z → unsigned_abs z ≤ limit → near_zero limit text ≡ Some z
unfolding near_zero
near_again limit text z low is small = rw (whole_accepted text z is (small_fits z (omega (arith, low, small))), le-leb (unsigned_abs z) limit small) refl

counted_takes : (low high : ℕ) (text : List ℕ) (n : ℕ) → counted low high text ≡ Some n → IsWhole text (pos n) × (low ≤ n) × (n ≤ high)
unfolding counted
counted_takes low high text n e = read (near_zero high text) refl e
  where
    read : (o : Option ℤ) → near_zero high text ≡ o → from_low low o ≡ Some n → IsWhole text (pos n) × (low ≤ n) × (n ≤ high)
    read None h e = absurd cc
    read (Some (negsuc m)) h e = absurd cc
    read (Some (pos m)) h e = go (leb low m) refl e
      where
        go : (t : Bool) → leb low m ≡ t → cond t (Some m) None ≡ Some n → IsWhole text (pos n) × (low ≤ n) × (n ≤ high)
        go false least e = absurd cc
        go true least e =
            let is = near_takes high text (pos m) h in
            subst (λ (k : ℕ). IsWhole text (pos k) × (low ≤ k) × (k ≤ high)) (some_is m n e) (is.0, leb-true low m least, is.1)

counted_again : (low high : ℕ) (text : List ℕ) (n : ℕ) → high < 2 ^ 63 → IsWhole text (pos n) → low ≤ n → n ≤ high → counted low high text ≡ Some n
unfolding counted
counted_again low high text n top is least most = rw (near_again high text (pos n) top is most, le-leb low n least) refl

-- ---- offsets and extents

offset_takes : (size : ℕ) (text : List ℕ) (at : ℤ) → offset size text ≡ Some at → IsOffset size text at
unfolding offset
offset_takes size text at e = read (split_once 37 text) refl e
  where
    read : (o : Option (List ℕ × List ℕ)) → split_once 37 text ≡ o → offset_from size text o ≡ Some at → IsOffset size text at
    read None h e = inl (near_takes 16384 text at e)
    read (Some (front, [])) h e =
        let one = bind_some (near_zero 1000 front) _ at e in
        let is = near_takes 1000 front one.0 one.1 in
        inr (front, one.0, is.0, is.1, cut_takes 37 text (front, []) h, sym (some_is (hundredths size one.0) at one.2))
    read (Some (front, b ∷ rest)) h e = absurd cc

extent_takes : (size : ℕ) (text : List ℕ) (long : ℕ) → extent size text ≡ Some long → IsExtent size text long
unfolding extent
extent_takes size text long e = read (split_once 37 text) refl e
  where
    read : (o : Option (List ℕ × List ℕ)) → split_once 37 text ≡ o → extent_from size text o ≡ Some long → IsExtent size text long
    read None h e = inl (counted_takes 1 4096 text long e)
    read (Some (front, [])) h e =
        let one = bind_some (counted 1 1000 front) _ long e in
        let is = counted_takes 1 1000 front one.0 one.1 in
        inr (front, one.0, is.0, is.1, is.2, cut_takes 37 text (front, []) h, sym (some_is (max 1 (min 4096 (one.0 * size / 100))) long one.2))
    read (Some (front, b ∷ rest)) h e = absurd cc

-- no byte is another mark than `-` and `%`
abbrev IsMark : ℕ → Type 0
IsMark mark = (mark ≢ 45) × ((mark < 48) ⊎ (57 < mark))

Lacks-whole : (mark : ℕ) (text : List ℕ) (z : ℤ) → IsMark mark → IsWhole text z → Lacks mark text
Lacks-whole mark text z far (sign, digits, numeral, spelled, is) = subst (Lacks mark) (sym spelled) (go sign)
  where
    go : (sign : Bool) → Lacks mark (whole_text sign digits)
    go false = Lacks-digits mark digits far.1 numeral.1
    go true = ((λ e. far.0 (sym e)), Lacks-digits mark digits far.1 numeral.1)

Lacks-offset : (mark size : ℕ) (text : List ℕ) (at : ℤ) → IsMark mark → mark ≢ 37 → IsOffset size text at → Lacks mark text
Lacks-offset mark size text at far ne (inl is) = Lacks-whole mark text at far is.0
Lacks-offset mark size text at far ne (inr (front, n, is, small, spelled, e)) =
    subst (Lacks mark) (sym spelled) (Lacks-append mark front (37 ∷ []) (Lacks-whole mark front n far is) ((λ e. ne (sym e)), tt))

Lacks-extent : (mark size : ℕ) (text : List ℕ) (long : ℕ) → IsMark mark → mark ≢ 37 → IsExtent size text long → Lacks mark text
Lacks-extent mark size text long far ne (inl is) = Lacks-whole mark text (pos long) far is.0
Lacks-extent mark size text long far ne (inr (front, n, is, low, high, spelled, e)) =
    subst (Lacks mark) (sym spelled) (Lacks-append mark front (37 ∷ []) (Lacks-whole mark front (pos n) far is) ((λ e. ne (sym e)), tt))

percent : IsMark 37
percent = ((λ e. omega (arith, e)), inl (omega arith))

offset_again : (size : ℕ) (text : List ℕ) (at : ℤ) → IsOffset size text at → offset size text ≡ Some at
unfolding offset
offset_again size text at (inl is) = rw (cut_none 37 text (Lacks-whole 37 text at percent is.0)) (near_again 16384 text at (omega arith) is.0 is.1)
offset_again size text at (inr (front, n, is, small, spelled, e)) =
    let halves : split_once 37 text ≡ Some (front, []) = ap (split_once 37) spelled ∙ cut_again 37 front [] (Lacks-whole 37 front n percent is) in
    rw (halves, near_again 1000 front n (omega arith) is small) (ap (λ (z : ℤ). Some z) (sym e))

extent_again : (size : ℕ) (text : List ℕ) (long : ℕ) → IsExtent size text long → extent size text ≡ Some long
unfolding extent
extent_again size text long (inl is) = rw (cut_none 37 text (Lacks-whole 37 text (pos long) percent is.0)) (counted_again 1 4096 text long (omega arith) is.0 is.1 is.2)
extent_again size text long (inr (front, n, is, low, high, spelled, e)) =
    let halves : split_once 37 text ≡ Some (front, []) = ap (split_once 37) spelled ∙ cut_again 37 front [] (Lacks-whole 37 front (pos n) percent is) in
    rw (halves, counted_again 1 1000 front n (omega arith) is low high) (ap (λ (z : ℕ). Some z) (sym e))

-- ---- the whole: what is read is one

corner_cut_takes : (text : List ℕ) (o : Option (List ℕ × List ℕ)) (parts : List ℕ × List ℕ) → split_once 47 text ≡ o → corner_cut text o ≡ Some parts → (text ≡ parts.0 ++ 47 ∷ parts.1) ⊎ (text ≡ parts.0 ++ 44 ∷ parts.1)
corner_cut_takes text None parts h e = inr (cut_takes 44 text parts e)
corner_cut_takes text (Some halves) parts h e = inl (cut_takes 47 text parts (h ∙ e))

corner_takes : (width height : ℕ) (text : List ℕ) (at : ℤ × ℤ) → corner width height text ≡ Some at
    → (x : List ℕ) × (y : List ℕ) × IsOffset width x at.0 × IsOffset height y at.1 × ((text ≡ x ++ 47 ∷ y) ⊎ (text ≡ x ++ 44 ∷ y))
unfolding corner
corner_takes width height text at e =
    let one = bind_some (corner_cut text (split_once 47 text)) _ at e in
    let two = bind_some (offset width one.0.0) _ at one.2 in
    let three = bind_some (offset height one.0.1) _ at two.2 in
    let is : (two.0, three.0) ≡ at = some_is (two.0, three.0) at three.2 in (
      one.0.0,
      one.0.1,
      subst (IsOffset width one.0.0) (ap (λ (p : ℤ × ℤ). p.0) is) (offset_takes width one.0.0 two.0 two.1),
      subst (IsOffset height one.0.1) (ap (λ (p : ℤ × ℤ). p.1) is) (offset_takes height one.0.1 three.0 three.1),
      corner_cut_takes text (split_once 47 text) one.0 refl one.1,
    )

area_takes : (width height : ℕ) (text : List ℕ) (size : ℕ × ℕ) → area width height text ≡ Some size
    → (w : List ℕ) × (h : List ℕ) × IsExtent width w size.0 × IsExtent height h size.1 × (text ≡ w ++ 120 ∷ h)
unfolding area
area_takes width height text size e =
    let one = bind_some (split_once 120 text) _ size e in
    let two = bind_some (extent width one.0.0) _ size one.2 in
    let three = bind_some (extent height one.0.1) _ size two.2 in
    let is : (two.0, three.0) ≡ size = some_is (two.0, three.0) size three.2 in (
      one.0.0,
      one.0.1,
      subst (IsExtent width one.0.0) (ap (λ (p : ℕ × ℕ). p.0) is) (extent_takes width one.0.0 two.0 two.1),
      subst (IsExtent height one.0.1) (ap (λ (p : ℕ × ℕ). p.1) is) (extent_takes height one.0.1 three.0 three.1),
      cut_takes 120 text one.0 one.1,
    )

-- what a geometry's right half tells
abbrev IsShape : ℕ → ℕ → List ℕ → ℕ × ℕ × ℕ → Type 0
IsShape width height text s =
    (inner : List ℕ) × ((w : List ℕ) × (h : List ℕ) × IsExtent width w s.0 × IsExtent height h s.1 × (inner ≡ w ++ 120 ∷ h))
    × (((text ≡ inner) × (s.2 ≡ 100)) ⊎ ((opacity : List ℕ) × IsWhole opacity (pos s.2) × (s.2 ≤ 100) × (text ≡ inner ++ 58 ∷ opacity)))

shape_takes : (width height : ℕ) (text : List ℕ) (s : ℕ × ℕ × ℕ) → shape width height text ≡ Some s → IsShape width height text s
unfolding shape
shape_takes width height text s e = read (split_once 58 text) refl e
  where
    read : (o : Option (List ℕ × List ℕ)) → split_once 58 text ≡ o → area_from width height text o ≡ Some s → IsShape width height text s
    read None h e =
        let one = bind_some (area width height text) _ s e in
        subst (IsShape width height text) (some_is (one.0.0, one.0.1, 100) s one.2) (text, area_takes width height text one.0 one.1, inl (refl, refl))
    read (Some halves) h e =
        let one = bind_some (area width height halves.0) _ s e in
        let two = bind_some (counted 0 100 halves.1) _ s one.2 in
        let is = counted_takes 0 100 halves.1 two.0 two.1 in
        subst (IsShape width height text) (some_is (one.0.0, one.0.1, two.0) s two.2)
        (halves.0, area_takes width height halves.0 one.0 one.1, inr (halves.1, is.0, is.2, cut_takes 58 text halves h))

pub geometry_takes : (width height : ℕ) (text : List ℕ) (p : Rectangle) → geometry width height text ≡ Some p → IsGeometry width height text p
unfolding geometry
geometry_takes width height text p e =
    let one = bind_some (split_once 58 text) _ p e in
    let two = bind_some (corner width height one.0.0) _ p one.2 in
    let three = bind_some (shape width height one.0.1) _ p two.2 in
    let at = two.0 in
    let s = three.0 in
    let place : Rectangle = record { x = at.0; y = at.1; width = s.0; height = s.1; opacity = s.2 } in
    subst (IsGeometry width height text) (some_is place p three.2)
    (whole one.0 at s (cut_takes 58 text one.0 one.1) (corner_takes width height one.0.0 at two.1) (shape_takes width height one.0.1 s three.1))
  where
    whole : (halves : List ℕ × List ℕ) (at : ℤ × ℤ) (s : ℕ × ℕ × ℕ) → text ≡ halves.0 ++ 58 ∷ halves.1
        → ((x : List ℕ) × (y : List ℕ) × IsOffset width x at.0 × IsOffset height y at.1 × ((halves.0 ≡ x ++ 47 ∷ y) ⊎ (halves.0 ≡ x ++ 44 ∷ y)))
        → IsShape width height halves.1 s
        → IsGeometry width height text (record { x = at.0; y = at.1; width = s.0; height = s.1; opacity = s.2 })
    whole halves at s e left (inner, size, inl (same, most)) = (halves.0, inner, left, size, inl (e ∙ ap (λ (t : List ℕ). halves.0 ++ 58 ∷ t) same, most))
    whole halves at s e left (inner, size, inr (opacity, is, most, same)) = (halves.0, inner, left, size, inr (opacity, is, most, e ∙ ap (λ (t : List ℕ). halves.0 ++ 58 ∷ t) same))

-- ---- each that is one is read

slash : IsMark 47
slash = ((λ e. omega (arith, e)), inl (omega arith))

comma : IsMark 44
comma = ((λ e. omega (arith, e)), inl (omega arith))

colon : IsMark 58
colon = ((λ e. omega (arith, e)), inr (omega arith))

letter_x : IsMark 120
letter_x = ((λ e. omega (arith, e)), inr (omega arith))

corner_parts : (width height : ℕ) (text x y : List ℕ) (p : Rectangle) → IsOffset width x p.x → IsOffset height y p.y → ((text ≡ x ++ 47 ∷ y) ⊎ (text ≡ x ++ 44 ∷ y)) → corner_cut text (split_once 47 text) ≡ Some (x, y)
corner_parts width height text x y p hx hy (inl e) =
    ap (corner_cut text) (ap (split_once 47) e ∙ cut_again 47 x y (Lacks-offset 47 width x p.x slash (λ e. omega (arith, e)) hx))
corner_parts width height text x y p hx hy (inr e) =
    let front = Lacks-offset 47 width x p.x slash (λ e. omega (arith, e)) hx in
    let back = Lacks-offset 47 height y p.y slash (λ e. omega (arith, e)) hy in
    let none : split_once 47 text ≡ None = ap (split_once 47) e ∙ cut_none 47 (x ++ 44 ∷ y) (Lacks-append 47 x (44 ∷ y) front ((λ e. omega (arith, e)), back)) in
    ap (corner_cut text) none ∙ (ap (split_once 44) e ∙ cut_again 44 x y (Lacks-offset 44 width x p.x comma (λ e. omega (arith, e)) hx))

corner_again : (width height : ℕ) (text : List ℕ) (p : Rectangle) → IsCorner width height text p → (corner width height text ≡ Some (p.x, p.y)) × Lacks 58 text
unfolding corner
corner_again width height text p (x, y, hx, hy, spelled) =
    (rw (corner_parts width height text x y p hx hy spelled, offset_again width x p.x hx, offset_again height y p.y hy) refl, lacks spelled)
  where
    front : Lacks 58 x
    front = Lacks-offset 58 width x p.x colon (λ e. omega (arith, e)) hx

    back : Lacks 58 y
    back = Lacks-offset 58 height y p.y colon (λ e. omega (arith, e)) hy

    lacks : ((text ≡ x ++ 47 ∷ y) ⊎ (text ≡ x ++ 44 ∷ y)) → Lacks 58 text
    lacks (inl e) = subst (Lacks 58) (sym e) (Lacks-append 58 x (47 ∷ y) front ((λ e. omega (arith, e)), back))
    lacks (inr e) = subst (Lacks 58) (sym e) (Lacks-append 58 x (44 ∷ y) front ((λ e. omega (arith, e)), back))

area_again : (width height : ℕ) (text : List ℕ) (p : Rectangle) → IsArea width height text p → (area width height text ≡ Some (p.width, p.height)) × Lacks 58 text
unfolding area
area_again width height text p (w, h, hw, hh, e) =
    let parts : split_once 120 text ≡ Some (w, h) = ap (split_once 120) e ∙ cut_again 120 w h (Lacks-extent 120 width w p.width letter_x (λ e. omega (arith, e)) hw) in
    let front = Lacks-extent 58 width w p.width colon (λ e. omega (arith, e)) hw in
    let back = Lacks-extent 58 height h p.height colon (λ e. omega (arith, e)) hh in (
      rw (parts, extent_again width w p.width hw, extent_again height h p.height hh) refl,
      subst (Lacks 58) (sym e) (Lacks-append 58 w (120 ∷ h) front ((λ e. omega (arith, e)), back)),
    )

pub geometry_again : (width height : ℕ) (text : List ℕ) (p : Rectangle) → IsGeometry width height text p → geometry width height text ≡ Some p
unfolding geometry shape
geometry_again width height text p (left, right, hl, hr, inl (e, most)) =
    let l = corner_again width height left p hl in
    let r = area_again width height right p hr in
    let halves : split_once 58 text ≡ Some (left, right) = ap (split_once 58) e ∙ cut_again 58 left right l.1 in
    rw (halves, l.0, cut_none 58 right r.1, r.0, ← most) refl
geometry_again width height text p (left, right, hl, hr, inr (opacity, is, most, e)) =
    let l = corner_again width height left p hl in
    let r = area_again width height right p hr in
    let halves : split_once 58 text ≡ Some (left, right ++ 58 ∷ opacity) = ap (split_once 58) e ∙ cut_again 58 left (right ++ 58 ∷ opacity) l.1 in
    rw (halves, l.0, cut_again 58 right opacity r.1, r.0, counted_again 0 100 opacity p.opacity (omega arith) is (omega arith) most) refl
