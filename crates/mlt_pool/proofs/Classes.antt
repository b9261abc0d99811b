-- The class of a length lies from 12 to 28, its blocks are long enough, and those of no lower class are.
use Rattle.std.proofs.Common.{◌≡◌, ℕ, zero, suc, ◌+◌, ◌-◌, ◌*◌, ◌^◌, ◌<◌, ◌≤◌, Bool, true, false, refl, sym, ap, ◌∙◌, subst, arith, nat_le, if◌then◌else◌, add-zero, lit<}
use Rattle.std.proofs.Math.Nat.{pow-le-pow_right, two-pow-succ}
use Rattle.std.proofs.lemmas.Nat.{pow_pos}
use Rattle.std.proofs.lemmas.Bool.{leb-true, leb-false, le-leb, lt-leb}
use Rattle.mlt_pool.specs.Class.{class_of, first_from}

-- whether the blocks of a class hold a length
abbrev pub enough : ℕ → ℕ → Bool
enough len c = nat_le len (2 ^ c)

pub class_of-is : (len : ℕ) → first_from (enough len) 16 12 ≡ class_of len
unfolding class_of
class_of-is len = refl

chosen : (b : Bool) (x y : ℕ) → b ≡ true → (if b then x else y) ≡ x
chosen true x y e = refl
chosen false x y e = cc

passed : (b : Bool) (x y : ℕ) → b ≡ false → (if b then x else y) ≡ y
passed true x y e = cc
passed false x y e = refl

-- the search ends at a class whose blocks hold the length
pub ends_at : (len n c : ℕ) → len ≤ 2 ^ c → first_from (enough len) n c ≡ c
ends_at len zero c le = refl
ends_at len (suc n) c le = chosen (enough len c) c (first_from (enough len) n (c + 1)) (le-leb len (2 ^ c) le)

-- and goes on past one whose blocks don't
pub goes_on : (len n c : ℕ) → 2 ^ c < len → first_from (enough len) (suc n) c ≡ first_from (enough len) n (c + 1)
goes_on len n c lt = passed (enough len c) c (first_from (enough len) n (c + 1)) (lt-leb len (2 ^ c) lt)

lower_if : (a b : ℕ) → 2 ^ a < 2 ^ b → (t : Bool) → nat_le b a ≡ t → a < b
lower_if a b lt true e = let up : 2 ^ b ≤ 2 ^ a = pow-le-pow_right (lit< tt) (leb-true b a e) in absurd (omega (arith, lt, up))
lower_if a b lt false e = leb-false b a e

-- of two powers of two the lower has the lower exponent
pub lower : (a b : ℕ) → 2 ^ a < 2 ^ b → a < b
lower a b lt = lower_if a b lt (nat_le b a) refl

between : (b : Bool) (n c m : ℕ) → (c + 1 ≤ m) × (m ≤ c + 1 + n) → (c ≤ (if b then c else m)) × ((if b then c else m) ≤ c + suc n)
between true n c m h = (omega arith, omega arith)
between false n c m h = (omega (arith, h.0), omega (arith, h.1))

from_on : (len n c : ℕ) → (c ≤ first_from (enough len) n c) × (first_from (enough len) n c ≤ c + n)
from_on len zero c = (omega arith, omega arith)
from_on len (suc n) c = between (enough len c) n c (first_from (enough len) n (c + 1)) (from_on len n (c + 1))

holding : (len c m : ℕ) (b : Bool) → enough len c ≡ b → len ≤ 2 ^ m → len ≤ 2 ^ (if b then c else m)
holding len c m true e h = leb-true len (2 ^ c) e
holding len c m false e h = h

holds_from : (len n c : ℕ) → len ≤ 2 ^ (c + n) → len ≤ 2 ^ first_from (enough len) n c
holds_from len zero c le = subst (λ (k : ℕ). len ≤ 2 ^ k) (add-zero c) le
holds_from len (suc n) c le =
    let more : c + suc n ≡ c + 1 + n = omega arith in
    holding len c (first_from (enough len) n (c + 1)) (enough len c) refl (holds_from len n (c + 1) (subst (λ (k : ℕ). len ≤ 2 ^ k) more le))

least : (len c k m : ℕ) (b : Bool) → enough len c ≡ b → c ≤ k → len ≤ 2 ^ k → (c + 1 ≤ k → m ≤ k) → (if b then c else m) ≤ k
least len c k m true e le holds next = le
least len c k m false e le holds next =
    let past : 2 ^ c < 2 ^ k = omega (arith, leb-false len (2 ^ c) e, holds) in let lt = lower c k past in next (omega arith)

least_from : (len n c k : ℕ) → c ≤ k → len ≤ 2 ^ k → first_from (enough len) n c ≤ k
least_from len zero c k le holds = le
least_from len (suc n) c k le holds = least len c k (first_from (enough len) n (c + 1)) (enough len c) refl le holds (λ next. least_from len n (c + 1) k next holds)

pub class_of-within : (len : ℕ) → (12 ≤ class_of len) × (class_of len ≤ 28)
class_of-within len = subst (λ (c : ℕ). (12 ≤ c) × (c ≤ 28)) (class_of-is len) (from_on len 16 12)

pub class_of-holds : (len : ℕ) → len ≤ 2 ^ 28 → len ≤ 2 ^ class_of len
class_of-holds len le = subst (λ (c : ℕ). len ≤ 2 ^ c) (class_of-is len) (holds_from len 16 12 le)

pub class_of-least : (len c : ℕ) → 12 ≤ c → len ≤ 2 ^ c → class_of len ≤ c
class_of-least len c le holds = subst (λ (k : ℕ). k ≤ c) (class_of-is len) (least_from len 16 12 c le holds)

-- a class's blocks have 1 to 2 ^ 28 bytes
pub size_within : (c n : ℕ) → n ≡ 2 ^ c → c ≤ 28 → (1 ≤ n) × (n ≤ 2 ^ 28)
size_within c n is le = let at_least = pow_pos c in let at_most : 2 ^ c ≤ 2 ^ 28 = pow-le-pow_right (lit< tt) le in (omega (arith, is, at_least), omega (arith, is, at_most))

-- the class goes up where the size is below the length
pub goes_up : (len class size : ℕ) → len ≤ 2 ^ 28 → size ≡ 2 ^ class → size < len → first_from (enough len) (28 - class) class ≡ class_of len
    → (class + 1 ≤ 28) × (size * 2 ≡ 2 ^ (class + 1)) × (first_from (enough len) (28 - (class + 1)) (class + 1) ≡ class_of len)
goes_up len class size le is lt so_far =
    let short : 2 ^ class < len = omega (arith, is, lt) in let lt28 : class < 28 = lower class 28 (omega (arith, short, le)) in
    let rest : 28 - class ≡ suc (28 - (class + 1)) = omega (arith, lt28) in
    let up : class + 1 ≡ suc class = omega arith in (
      omega (arith, lt28),
      omega (arith, is, two-pow-succ class) ∙ ap (λ (k : ℕ). 2 ^ k) (sym up),
      sym (goes_on len (28 - (class + 1)) class short) ∙ ap (λ (k : ℕ). first_from (enough len) k class) (sym rest) ∙ so_far,
    )
