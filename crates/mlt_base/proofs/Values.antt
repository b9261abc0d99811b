-- What an animation is before, between and behind its keys.
use Rattle.std.proofs.Common.{◌≡◌, ℕ, ◌<◌, ◌≤◌, List, [], ◌∷◌, ◌++◌, Some, None, refl, ◌∙◌, arith}
use Rattle.std.proofs.lemmas.Bool.{ltb-true, lt-ltb, le-ltb}
use Rattle.mlt_base.specs.declared.animation.Key.{Key}
use Rattle.mlt_base.specs.Animation.{Rises, between, value_from, value_at}

-- a key that stands behind another has the greater frame
rises_lt : (last : ℕ) (front : List Key) (a : Key) (keys : List Key) → Rises (Some last) (front ++ a ∷ keys) → last < a.frame
rises_lt last [] a keys h = ltb-true last a.frame h.0
rises_lt last (x ∷ front) a keys h =
    let first = ltb-true last x.frame h.0 in
    let rest = rises_lt x.frame front a keys h.2 in
    omega arith

-- the keys before one at or before the frame don't matter
from_key : (x : Key) (front : List Key) (a : Key) (keys : List Key) (p : ℕ) → Rises (Some x.frame) (front ++ a ∷ keys) → a.frame ≤ p → value_from x (front ++ a ∷ keys) p ≡ value_from a keys p
from_key x [] a keys p h le = rw (le-ltb p a.frame le) refl
from_key x (y ∷ front) a keys p h le =
    let less = rises_lt y.frame front a keys h.2 in
    rw (le-ltb p y.frame (omega arith)) (from_key y front a keys p h.2 le)

at_key : (front : List Key) (a : Key) (keys : List Key) (p : ℕ) → Rises None (front ++ a ∷ keys) → a.frame ≤ p → value_at (front ++ a ∷ keys) p ≡ value_from a keys p
at_key [] a keys p h le = rw (le-ltb p a.frame le) refl
at_key (x ∷ front) a keys p h le =
    let less = rises_lt x.frame front a keys h.2 in
    rw (le-ltb p x.frame (omega arith)) (from_key x front a keys p h.2 le)

pub value_before : (a : Key) (keys : List Key) (p : ℕ) → p < a.frame → value_at (a ∷ keys) p ≡ a.value.0
value_before a keys p lt = rw (lt-ltb p a.frame lt) refl

pub value_between : (front : List Key) (a b : Key) (back : List Key) (p : ℕ) → Rises None (front ++ a ∷ b ∷ back) → a.frame ≤ p → p < b.frame → value_at (front ++ a ∷ b ∷ back) p ≡ between a b p
value_between front a b back p h le lt = at_key front a (b ∷ back) p h le ∙ rw (lt-ltb p b.frame lt) refl

pub value_behind : (front : List Key) (a : Key) (p : ℕ) → Rises None (front ++ a ∷ []) → a.frame ≤ p → value_at (front ++ a ∷ []) p ≡ a.value.0
value_behind front a p h le = at_key front a [] p h le
