-- The keys of parts, one after the other.
use Rattle.std.proofs.Common.{◌≡◌, ℕ, suc, ◌+◌, ◌<◌, ◌≤◌, Bool, true, false, not, cond, List, [], ◌∷◌, ◌++◌, length, Option, Some, Result, Ok, Err, refl, sym, ap, ◌∙◌, append_assoc, inl, inr, arith}
use Rattle.std.specs.List.{slice_split, before_first, after_first, position_or_len, onto_first}
use Rattle.std.proofs.lemmas.List.{take_all, drop_all}
use Rattle.std.proofs.lemmas.List.Splits.{slice_split_first, length-slice_split}
use Rattle.std.proofs.lemmas.Bool.{cases_lt}
use Rattle.mlt_base.specs.declared.fault.NumFault.{NumFault}
use Rattle.mlt_base.specs.declared.refusal.Try.{Try}
use Rattle.mlt_base.specs.declared.refusal.Try.TheVariants.{Fault, Memory}
use Rattle.mlt_base.specs.declared.animation.Key.{Key}
use Rattle.mlt_base.specs.Steps.{◌>>=◌}
use Rattle.mlt_base.specs.Try.{TryFails}
use Rattle.mlt_base.specs.Animation.{key_at, keys_of, is_skipped, is_semicolon, first_key}

-- keys before, and those that are still read
abbrev pub with_front : List Key → Result (List Key) NumFault → Result (List Key) NumFault
with_front front read = read >>= λ keys. Ok (front ++ keys)

-- one key, and those of the parts behind it
abbrev pub behind : Key × ℕ × List ℕ → Result (List Key) NumFault
behind x = keys_of (Some x.0.frame) x.1 (slice_split is_semicolon x.2) >>= λ keys. Ok (x.0 ∷ keys)

-- a list in which no element divides is one part
undivided : (p : ℕ → Bool) (xs : List ℕ) → length xs ≤ position_or_len p xs → slice_split p xs ≡ xs ∷ []
undivided p [] h = refl
undivided p (x ∷ xs) h = go (p x) h (undivided p xs)
  where
    go : (b : Bool) → suc (length xs) ≤ cond (not b) (1 + position_or_len p xs) 0 → (length xs ≤ position_or_len p xs → slice_split p xs ≡ xs ∷ []) → cond b ([] ∷ slice_split p xs) (onto_first x (slice_split p xs)) ≡ (x ∷ xs) ∷ []
    go true h rest = absurd (omega arith)
    go false h rest = ap (onto_first x) (rest (omega arith))

-- only an empty part with none behind it is skipped
pub not_skipped : (part : List ℕ) (parts : List (List ℕ)) → 0 < length part + length parts → is_skipped part parts ≡ false
not_skipped [] [] h = absurd (omega arith)
not_skipped [] (part ∷ parts) h = refl
not_skipped (b ∷ part) parts h = refl

-- the parts behind the first begin at a place
regroup : (read : Result Key NumFault) (place : ℕ) (bytes : List ℕ) → (read >>= λ key. keys_of (Some key.frame) place (slice_split is_semicolon bytes) >>= λ keys. Ok (key ∷ keys)) ≡ ((read >>= λ key. Ok (key, place, bytes)) >>= behind)
regroup (Ok key) place bytes = refl
regroup (Err fault) place bytes = refl

-- the keys of several parts are that of the first, and those of the parts behind it
pub keys_of-first : (last : Option ℕ) (at : ℕ) (bytes : List ℕ) → 0 < length bytes → keys_of last at (slice_split is_semicolon bytes) ≡ (first_key last at bytes >>= behind)
unfolding first_key
keys_of-first last at bytes some =
    let n = position_or_len is_semicolon bytes in
    let front = before_first is_semicolon bytes in
    let rest = after_first is_semicolon bytes in
    elim (cases_lt n (length bytes)) [
      | inl lt ↦
          let more : 0 < length front + length (slice_split is_semicolon rest) = omega (arith, length-slice_split is_semicolon rest) in
          rw (slice_split_first is_semicolon bytes 0 lt, not_skipped front (slice_split is_semicolon rest) more) (regroup (key_at last at front) (at + length front + 1) rest)
      | inr le ↦
          let all : front ≡ bytes = take_all n bytes le in
          let none : rest ≡ [] = drop_all (n + 1) bytes (omega arith) in
          rw (undivided is_semicolon bytes le, not_skipped bytes [] (omega arith), all, none) (regroup (key_at last at bytes) (at + length bytes + 1) [])
    ]

with_front-cons : (front : List Key) (key : Key) (read : Result (List Key) NumFault) → with_front front (read >>= λ keys. Ok (key ∷ keys)) ≡ with_front (front ++ key ∷ []) read
with_front-cons front key (Ok keys) = ap (λ (ks : List Key). Ok ks) (simp append_assoc)
with_front-cons front key (Err fault) = refl

pub goes_on : (front : List Key) (last : ℕ) (at : ℕ) (bytes : List ℕ) (key : Key) (place : ℕ) (rest : List ℕ) (total : Result (List Key) NumFault) → 0 < length bytes → first_key (Some last) at bytes ≡ Ok (key, place, rest)
    → with_front front (keys_of (Some last) at (slice_split is_semicolon bytes)) ≡ total → with_front (front ++ key ∷ []) (keys_of (Some key.frame) place (slice_split is_semicolon rest)) ≡ total
goes_on front last at bytes key place rest total some h so_far =
    let one : with_front front (keys_of (Some last) at (slice_split is_semicolon bytes)) ≡ with_front (front ++ key ∷ []) (keys_of (Some key.frame) place (slice_split is_semicolon rest)) = rw (keys_of-first (Some last) at bytes some, h) (with_front-cons front key (keys_of (Some key.frame) place (slice_split is_semicolon rest))) in
    sym one ∙ so_far

pub fails : (front : List Key) (last : ℕ) (at : ℕ) (bytes : List ℕ) (fault : NumFault) (total : Result (List Key) NumFault) → 0 < length bytes → first_key (Some last) at bytes ≡ Err fault
    → with_front front (keys_of (Some last) at (slice_split is_semicolon bytes)) ≡ total → total ≡ Err fault
fails front last at bytes fault total some h so_far =
    let one : with_front front (keys_of (Some last) at (slice_split is_semicolon bytes)) ≡ Err fault = rw (keys_of-first (Some last) at bytes some, h) refl in
    sym so_far ∙ one

-- the fault of the parts behind the first
pub behind_fails : (e : Try NumFault) (last : Option ℕ) (at : ℕ) (bytes : List ℕ) (key : Key) (place : ℕ) (rest : List ℕ) → 0 < length bytes → first_key last at bytes ≡ Ok (key, place, rest)
    → TryFails e (keys_of (Some key.frame) place (slice_split is_semicolon rest)) → TryFails e (keys_of last at (slice_split is_semicolon bytes))
behind_fails Memory last at bytes key place rest some h fails = tt
behind_fails (Fault fault) last at bytes key place rest some h fails = keys_of-first last at bytes some ∙ rw (h, fails) refl
