-- Colours at a level that changes nothing, and at the greatest one.
use Rattle.std.proofs.Common.{◌≡◌, ℕ, zero, suc, ◌*◌, ◌%◌, ◌<◌, ◌≤◌, ◌⊎◌, inl, inr, ◌==◌, min, Bool, true, false, if◌then◌else◌, List, get_or, refl, ap, ◌∙◌, arith}
use Rattle.std.proofs.Math.Nat.{mul-le-mul_left}
use Rattle.std.proofs.lemmas.Bool.{cases_lt}
use Rattle.mlt_base.specs.Mixing.{lit, scaled}

-- at the level 65536 a byte stays
pub lit_same : (c : ℕ) → c ≤ 255 → c ≡ lit 65536 c
lit_same c le = omega arith

-- both sides of an `if` are the same
pub either_same : (b : Bool) (x y z : ℕ) → z ≡ x → z ≡ y → z ≡ (if b then x else y)
either_same true x y z e f = e
either_same false x y z e f = f

-- so a picture at that level stays
pub scaled_same : (level : ℕ) (xs : List ℕ) (k : ℕ) → level ≡ 65536 → get_or xs k 0 ≤ 255 → get_or xs k 0 ≡ scaled level xs k
scaled_same level xs k e le = rw e (either_same (k % 4 == 3) (get_or xs k 0) (lit 65536 (get_or xs k 0)) (get_or xs k 0) refl (lit_same (get_or xs k 0) le))

-- from the level 16777216 on a colour is 0 or 255
lit_most : (level c : ℕ) → 16777216 ≤ level → lit 16777216 c ≡ lit level c
lit_most level zero le = omega arith
lit_most level (suc c) le =
    let more : suc c * 16777216 ≤ suc c * level = mul-le-mul_left (suc c) le in omega arith

-- so a picture at such a level is as at that one
scaled_most : (level : ℕ) (xs : List ℕ) (k : ℕ) → 16777216 ≤ level → scaled 16777216 xs k ≡ scaled level xs k
scaled_most level xs k le = ap (λ y. if k % 4 == 3 then get_or xs k 0 else y) (lit_most level (get_or xs k 0) le)

-- a level that is held lights as the level itself, where it is below the greatest and where it isn't
held_if : (level held : ℕ) (xs : List ℕ) (k : ℕ) → held ≡ min level 16777216 → (level < 16777216) ⊎ (16777216 ≤ level) → scaled held xs k ≡ scaled level xs k
held_if level held xs k e (inl lt) = ap (λ l. scaled l xs k) (omega arith)
held_if level held xs k e (inr le) = ap (λ l. scaled l xs k) (omega arith) ∙ scaled_most level xs k le

-- a level may be held to the greatest one
pub scaled_held : (level held : ℕ) (xs : List ℕ) (k : ℕ) → held ≡ min level 16777216 → scaled held xs k ≡ scaled level xs k
scaled_held level held xs k e = held_if level held xs k e (cases_lt level 16777216)
