-- What is read where nothing is refused.
use Rattle.std.proofs.Common.{◌≡◌, Result, Ok, Err, refl, ap, arith}
use Rattle.std.specs.Result.{result_unwrap_or}
use Rattle.mlt_base.specs.declared.faults.WordFault.{WordFault}
use Rattle.mlt_base.specs.Steps.{◌>>=◌}

abbrev pub ok : {A : Type 0} → A → Result A WordFault
ok x = Ok x

pub ok_one : {A : Type 0} → (x y : A) → ok x ≡ ok y → x ≡ y
ok_one x y h = ap (λ r. result_unwrap_or r x) h

pub not_ok : {A : Type 0} → (e : WordFault) (y : A) → Err e ≡ ok y → ⊥
not_ok e y h = grind arith

-- a step that goes on to another, where both give something
pub record Bound {A B : Type 0} (r : Result A WordFault) (f : A → Result B WordFault) (y : B) : Type 0 where
  pub x : A
  pub first : r ≡ Ok x
  pub then : f x ≡ Ok y

pub bind_ok : {A B : Type 0} → (r : Result A WordFault) (f : A → Result B WordFault) (y : B) → (r >>= f) ≡ Ok y → Bound r f y
bind_ok (Ok x) f y h = record { x = x; first = refl; then = h }
bind_ok (Err e) f y h = absurd (not_ok e y h)
