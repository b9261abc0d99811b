-- The keys that are read rise.
use Rattle.std.proofs.Common.{◌≡◌, ℕ, ◌+◌, ◌^◌, ◌<◌, Bool, true, false, cond, eqb, List, [], ◌∷◌, length, Option, Some, None, Result, Ok, Err, refl, ap, subst, arith}
use Rattle.std.specs.Prelude.{IfOk}
use Rattle.std.specs.List.{slice_split, list_any}
use Rattle.mlt_base.specs.declared.fault.NumFault.{NumFault}
use Rattle.mlt_base.specs.declared.fault.NumFault.TheVariants.{Order}
use Rattle.mlt_base.specs.declared.refusal.Try.{Try}
use Rattle.mlt_base.specs.declared.animation.Key.{Key}
use Rattle.mlt_base.specs.Reading.{held, number, digits_at, below}
use Rattle.mlt_base.specs.Steps.{◌>>=◌}
use Rattle.mlt_base.specs.Try.{TryGives}
use Rattle.mlt_base.specs.Decimal.{decimal}
use Rattle.mlt_base.specs.Animation.{is_behind, Rises, key_mark, in_order, key_at, keys_of, is_skipped, is_semicolon, constant, animation}
use Rattle.mlt_base.proofs.Forms.{bind_ok, ok_is, below-takes}

-- what is left of a part, step by step
abbrev after_order : ℕ → Bool × ℕ × List ℕ → Result Key NumFault
after_order frame mark = decimal mark.1 mark.2 >>= λ value. Ok (record { frame = frame; value = record { 0 = value }; discrete = mark.0 })

abbrev after_mark : Option ℕ → ℕ → ℕ → Bool × ℕ × List ℕ → Result Key NumFault
after_mark last at frame mark = in_order last at frame >>= λ ordered. after_order frame mark

abbrev after_frame : Option ℕ → ℕ → List ℕ × ℕ × List ℕ → ℕ → Result Key NumFault
after_frame last at digits frame = key_mark digits.1 digits.2 >>= λ mark. after_mark last at frame mark

-- a key is behind the last one
abbrev IsNext : Option ℕ → ℕ → Type 0
IsNext last frame = (is_behind last frame ≡ true) × (frame < 2 ^ 31)

order_takes : (frame : ℕ) (mark : Bool × ℕ × List ℕ) (key : Key) → after_order frame mark ≡ Ok key → frame ≡ key.frame
order_takes frame mark key e =
    let first = bind_ok (decimal mark.1 mark.2) (λ value. Ok (record { frame = frame; value = record { 0 = value }; discrete = mark.0 })) key e in
    let made : Key = record { frame = frame; value = record { 0 = first.0 }; discrete = mark.0 } in
    ap (λ (k : Key). k.frame) (ok_is made key first.2)

in_order-takes : (last : Option ℕ) (at frame : ℕ) (x : Unit {0}) → in_order last at frame ≡ Ok x → is_behind last frame ≡ true
unfolding in_order
in_order-takes last at frame x e = go (is_behind last frame) e
  where
    go : (t : Bool) → cond t (Ok tt) (Err (Order (held at))) ≡ Ok x → t ≡ true
    go true e = refl
    go false e = absurd cc

key_rises : (last : Option ℕ) (at : ℕ) (part : List ℕ) (key : Key) → key_at last at part ≡ Ok key → IsNext last key.frame
unfolding key_at
key_rises last at part key e =
    let a = bind_ok (digits_at at part) (λ digits. below (2 ^ 31) (number digits.0) >>= λ frame. after_frame last at digits frame) key e in
    let b = bind_ok (below (2 ^ 31) (number a.0.0)) (λ frame. after_frame last at a.0 frame) key a.2 in
    let c = bind_ok (key_mark a.0.1 a.0.2) (λ mark. after_mark last at b.0 mark) key b.2 in
    let d = bind_ok (in_order last at b.0) (λ ordered. after_order b.0 c.0) key c.2 in
    subst (IsNext last) (order_takes b.0 c.0 key d.2) (in_order-takes last at b.0 d.0 d.1, (below-takes (2 ^ 31) (number a.0.0) b.0 b.1).1)

keys_rise : (last : Option ℕ) (at : ℕ) (parts : List (List ℕ)) (keys : List Key) → keys_of last at parts ≡ Ok keys → Rises last keys
keys_rise last at [] keys e = subst (Rises last) (ok_is [] keys e) tt
keys_rise last at (part ∷ parts) keys e = go (is_skipped part parts) (λ frame place. keys_rise (Some frame) place parts) e
  where
    go : (t : Bool) → ((frame place : ℕ) (ks : List Key) → keys_of (Some frame) place parts ≡ Ok ks → Rises (Some frame) ks)
        → cond t (Ok []) (key_at last at part >>= λ key. keys_of (Some key.frame) (at + length part + 1) parts >>= λ ks. Ok (key ∷ ks)) ≡ Ok keys → Rises last keys
    go true rest e = subst (Rises last) (ok_is [] keys e) tt
    go false rest e =
        let a = bind_ok (key_at last at part) (λ key. keys_of (Some key.frame) (at + length part + 1) parts >>= λ ks. Ok (key ∷ ks)) keys e in
        let b = bind_ok (keys_of (Some a.0.frame) (at + length part + 1) parts) (λ ks. Ok (a.0 ∷ ks)) keys a.2 in
        let next = key_rises last at part a.0 a.1 in
        subst (Rises last) (ok_is (a.0 ∷ b.0) keys b.2) (next.0, next.1, rest a.0.frame (at + length part + 1) b.0 b.1)

animation_rises : (text : List ℕ) (keys : List Key) → animation text ≡ Ok keys → Rises None keys
unfolding animation
animation_rises text keys e = go (list_any (λ b. eqb b 61) text) e
  where
    go : (t : Bool) → cond t (keys_of None 0 (slice_split is_semicolon text)) (decimal 0 text >>= λ value. Ok (constant value ∷ [])) ≡ Ok keys → Rises None keys
    go true e = keys_rise None 0 (slice_split is_semicolon text) keys e
    go false e =
        let a = bind_ok (decimal 0 text) (λ value. Ok (constant value ∷ [])) keys e in
        subst (Rises None) (ok_is (constant a.0 ∷ []) keys a.2) (refl, omega arith, tt)

-- whatever was read rises
pub read_rises : (text : List ℕ) (r : Result (List Key) (Try NumFault)) → TryGives (λ keys. keys) r (animation text) → IfOk r (λ keys. Rises None keys)
read_rises text (Ok keys) given = animation_rises text keys given
read_rises text (Err e) given = tt
