-- Where a reader meets what doesn't fit: it refuses each text that begins with the same bytes, so the text leaves the
-- grammar there.
use Rattle.std.proofs.Common.{◌≡◌, ℕ, suc, ◌+◌, ◌-◌, ◌^◌, ◌<◌, ◌≤◌, ◌⊎◌, ◌↔◌, inl, inr, Bool, true, false, cond, ltb, List, [], ◌∷◌, ◌++◌, length, take, drop, Result, Ok, Err, refl, sym, ap, subst, ◌∙◌, arith, append_assoc, length-append}
use Rattle.std.specs.Char.{is_ascii_digit}
use Rattle.std.proofs.Math.Seq.{take-add, take-append-add}
use Rattle.std.proofs.lemmas.Bool.{cases_lt}
use Rattle.std.proofs.lemmas.List.{take_at, length-take-le}
use Rattle.mlt_base.specs.declared.fault.NumFault.{NumFault}
use Rattle.mlt_base.specs.declared.fault.NumFault.TheVariants.{Empty, BadDigit, TooLarge}
use Rattle.mlt_base.specs.Reading.{held, digit_count, below}
use Rattle.mlt_base.specs.Steps.{◌>>=◌}
use Rattle.mlt_base.specs.Stop.{Begins, StopsAt}
use Rattle.mlt_base.proofs.Below.{below_ok}

-- ---- a text leaves a grammar at one place

-- a text doesn't leave a grammar before a place up to which it begins a good text
pub not_before : (Good : List ℕ → Type 0) (text : List ℕ) (a b : ℕ) → StopsAt Good text a → b ≤ length text → Begins Good (take b text) → b ≤ a
not_before Good text a b stop within (rest, good) = elim (cases_lt a b) [ inl lt ↦ absurd (stop.behind (omega arith) (take (b - (a + 1)) (drop (a + 1) text) ++ rest, subst Good (split lt) good)) | inr le ↦ le ]
  where
    split : a < b → take b text ++ rest ≡ take (a + 1) text ++ (take (b - (a + 1)) (drop (a + 1) text) ++ rest)
    split lt =
        let k : ℕ = b - (a + 1) in
        let sum : b ≡ a + 1 + k = omega arith in
        ap (λ (l : List ℕ). l ++ rest) (ap (λ (n : ℕ). take n text) sum ∙ take-add (a + 1) k text) ∙ append_assoc (take (a + 1) text) (take k (drop (a + 1) text)) rest

pub stops_once : (Good : List ℕ → Type 0) (text : List ℕ) (a b : ℕ) → StopsAt Good text a → StopsAt Good text b → a ≡ b
stops_once Good text a b first second = omega (arith, not_before Good text a b first second.within second.before, not_before Good text b a second first.within first.before)

-- behind a front and so many bytes, where each text that goes on with the same byte is bad, which no good one is
pub stops_from : (Good Bad : List ℕ → Type 0) → ((text : List ℕ) → Good text → ¬ Bad text) → (front rest : List ℕ) (k : ℕ) → k ≤ length rest
    → ((other : List ℕ) → take (k + 1) other ≡ take (k + 1) rest → Bad (front ++ other)) → (more : List ℕ) → Good (front ++ (take k rest ++ more)) → StopsAt Good (front ++ rest) (length front + k)
stops_from Good Bad never front rest k within bad more good = record {
  within = omega (arith, length-append front rest);
  before = (more, subst Good (sym (begun k more)) good);
  behind = λ less (last, there).
      let on : length front + k + 1 ≡ length front + (k + 1) = omega arith in
      let same : take (k + 1) (take (k + 1) rest ++ last) ≡ take (k + 1) rest = take_at (take (k + 1) rest) last (k + 1) (length-take-le (k + 1) rest (omega (arith, length-append front rest))) in
      never (front ++ (take (k + 1) rest ++ last)) (subst Good (ap (λ (n : ℕ). take n (front ++ rest) ++ last) on ∙ begun (k + 1) last) there) (bad (take (k + 1) rest ++ last) same);
  unfinished = λ there. never (front ++ rest) there (bad rest refl);
}
  where
    begun : (n : ℕ) (more : List ℕ) → take (length front + n) (front ++ rest) ++ more ≡ front ++ (take n rest ++ more)
    begun n more = ap (λ (l : List ℕ). l ++ more) (take-append-add front rest n) ∙ append_assoc front (take n rest) more

-- ---- texts that begin with the same bytes

-- behind the same front
same_front : (front rest other : List ℕ) (n : ℕ) → take (length front + n) other ≡ take (length front + n) (front ++ rest) → (behind : List ℕ) × (other ≡ front ++ behind) × (take n behind ≡ take n rest)
same_front [] rest other n e = let zero_on : 0 + n ≡ n = omega arith in (other, refl, ap (λ (k : ℕ). take k other) (sym zero_on) ∙ (e ∙ ap (λ (k : ℕ). take k rest) zero_on))
same_front (b ∷ front) rest other n e = go other (ap (λ (k : ℕ). take k other) (sym on) ∙ (e ∙ ap (λ (k : ℕ). take k (b ∷ (front ++ rest))) on)) (λ other. same_front front rest other n)
  where
    on : suc (length front) + n ≡ suc (length front + n)
    on = omega arith

    go : (other : List ℕ) → take (suc (length front + n)) other ≡ b ∷ take (length front + n) (front ++ rest)
        → ((other : List ℕ) → take (length front + n) other ≡ take (length front + n) (front ++ rest) → (behind : List ℕ) × (other ≡ front ++ behind) × (take n behind ≡ take n rest))
        → (behind : List ℕ) × (other ≡ b ∷ (front ++ behind)) × (take n behind ≡ take n rest)
    go [] e later = absurd cc
    go (c ∷ other) e later =
        let first : c ≡ b = cc in
        let others : take (length front + n) other ≡ take (length front + n) (front ++ rest) = cc in
        let (behind, is, same) = later other others in
        (behind, cc, same)

-- their first bytes
same_first : (k : ℕ) (other rest : List ℕ) → take (k + 1) other ≡ take (k + 1) rest → take 1 other ≡ take 1 rest
same_first k other rest e = sym (first other) ∙ (ap (take 1) e ∙ first rest)
  where
    on : k + 1 ≡ suc k
    on = omega arith

    first : (text : List ℕ) → take 1 (take (k + 1) text) ≡ take 1 text
    first [] = ap (λ (n : ℕ). take 1 (take n [])) on
    first (b ∷ text) = ap (λ (n : ℕ). take 1 (take n (b ∷ text))) on

-- no byte, or this one
pub first_none : (other : List ℕ) → take 1 other ≡ [] → other ≡ []
first_none [] e = refl
first_none (b ∷ other) e = absurd cc

pub first_is : (other : List ℕ) (b : ℕ) → take 1 other ≡ b ∷ [] → (more : List ℕ) × (other ≡ b ∷ more)
first_is [] b e = absurd cc
first_is (c ∷ other) b e = (other, let same : c ≡ b = cc in cc)

-- one of them has a byte, so the other has
pub some_first : (other rest : List ℕ) → take 1 other ≡ take 1 rest → 0 < length rest → 0 < length other
some_first other [] e some = absurd (omega arith)
some_first other (b ∷ rest) e some = let (more, is) = first_is other b e in omega (arith, ap length is)

-- no digit is the first of one of them, so it isn't the first of the other
pub first_no_digit : (other rest : List ℕ) → take 1 other ≡ take 1 rest → digit_count rest ≡ 0 → digit_count other ≡ 0
first_no_digit other [] e none = ap digit_count (first_none other e)
first_no_digit other (b ∷ rest) e none = let (more, is) = first_is other b e in ap digit_count is ∙ go (is_ascii_digit b) (digit_count more) none
  where
    go : (t : Bool) (n : ℕ) → cond t (digit_count rest + 1) 0 ≡ 0 → cond t (n + 1) 0 ≡ 0
    go true n none = absurd (omega (arith, none))
    go false n none = refl

-- ---- readers

-- so many bytes on, what is there doesn't fit, and it doesn't in any text that begins with the same bytes
pub record Sticks {A : Type 0} (read : List ℕ → Result A NumFault) (at : ℕ) (text : List ℕ) (k : ℕ) : Type 0 where
  pub within : k ≤ length text
  pub again : (other : List ℕ) → take (k + 1) other ≡ take (k + 1) text → read other ≡ Err (BadDigit (held (at + k)))

-- what a reader that begins at a place tells of a text: that nothing is there, where it can't go on, or that it is
-- good, whatever its size
pub data Told {A : Type 0} (Nothing Good : List ℕ → Type 0) (read : List ℕ → Result A NumFault) (at : ℕ) (text : List ℕ) : Type 0 where
  Missing : Nothing text → Told Nothing Good read at text
  Wrong : (k : ℕ) → Sticks read at text k → Begins Good (take k text) → Told Nothing Good read at text
  Right : Good text → Told Nothing Good read at text

-- nothing is missing from any text
abbrev pub Never : List ℕ → Type 0
Never text = ⊥

-- no byte
abbrev pub IsNone : List ℕ → Type 0
IsNone text = text ≡ []

module _ {A : Type 0} where
  -- it doesn't fit at once
  pub wrong_here : (Nothing Good : List ℕ → Type 0) (read : List ℕ → Result A NumFault) (at : ℕ) (rest more : List ℕ)
      → ((other : List ℕ) → take 1 other ≡ take 1 rest → read other ≡ Err (BadDigit (held at))) → Good more → Told Nothing Good read at rest
  wrong_here Nothing Good read at rest more refused good = Wrong 0 (record { within = omega arith; again = λ other e. refused other e ∙ ap (λ (n : ℕ). Err (BadDigit (held n))) (omega arith) }) (more, good)

  -- it reads what is in front, and then as another reader does
  pub told_behind : (Nothing Good Nothing' Good' : List ℕ → Type 0) (read next : List ℕ → Result A NumFault) (at : ℕ) (front rest : List ℕ)
      → ((other : List ℕ) → take 1 other ≡ take 1 rest → read (front ++ other) ≡ next other)
      → ((other : List ℕ) → Nothing' other → Nothing (front ++ other)) → ((other : List ℕ) → Good' other → Good (front ++ other))
      → Told Nothing' Good' next (at + length front) rest → Told Nothing Good read at (front ++ rest)
  told_behind Nothing Good Nothing' Good' read next at front rest reads missing good (Missing h) = Missing (missing rest h)
  told_behind Nothing Good Nothing' Good' read next at front rest reads missing good (Right h) = Right (good rest h)
  told_behind Nothing Good Nothing' Good' read next at front rest reads missing good (Wrong k stuck (more, h)) =
      Wrong (length front + k)
      (record {
        within = omega (arith, stuck.within, length-append front rest);
        again = λ other e.
            let on : length front + k + 1 ≡ length front + (k + 1) = omega arith in
            let moved : take (length front + (k + 1)) other ≡ take (length front + (k + 1)) (front ++ rest) = ap (λ (n : ℕ). take n other) (sym on) ∙ (e ∙ ap (λ (n : ℕ). take n (front ++ rest)) on) in
            let (behind, is, same) = same_front front rest other (k + 1) moved in
            ap read is ∙ (reads behind (same_first k behind rest same) ∙ (stuck.again behind same ∙ ap (λ (n : ℕ). Err (BadDigit (held n))) (omega arith)));
      })
      (more, subst Good (sym (append_assoc front (take k rest) more) ∙ ap (λ (l : List ℕ). l ++ more) (sym (take-append-add front rest k))) (good (take k rest ++ more) h))

  -- the same where a grammar is said otherwise
  pub told_as : (Nothing Good Nothing' Good' : List ℕ → Type 0) (read : List ℕ → Result A NumFault) (at : ℕ) (text : List ℕ)
      → ((other : List ℕ) → Nothing' other → Nothing other) → ((other : List ℕ) → Good' other → Good other)
      → Told Nothing' Good' read at text → Told Nothing Good read at text
  told_as Nothing Good Nothing' Good' read at text missing good (Missing h) = Missing (missing text h)
  told_as Nothing Good Nothing' Good' read at text missing good (Right h) = Right (good text h)
  told_as Nothing Good Nothing' Good' read at text missing good (Wrong k stuck (more, h)) = Wrong k stuck (more, good (take k text ++ more) h)

-- a step behind it
pub told_then : {A B : Type 0} (Nothing Good : List ℕ → Type 0) (read : List ℕ → Result A NumFault) (f : A → Result B NumFault) (at : ℕ) (text : List ℕ)
    → Told Nothing Good read at text → Told Nothing Good (λ other. read other >>= f) at text
told_then Nothing Good read f at text (Missing h) = Missing h
told_then Nothing Good read f at text (Right h) = Right h
told_then Nothing Good read f at text (Wrong k stuck begins) = Wrong k (record { within = stuck.within; again = λ other e. ap (λ (r : Result _ NumFault). r >>= f) (stuck.again other e) }) begins

-- ---- the laws of a whole reader

-- the value of a good text, or that it is too large
abbrev pub Sized : {A : Type 0} → Result A NumFault → Type 0
Sized r = ((x : _) × (r ≡ Ok x)) ⊎ (r ≡ Err TooLarge)

-- a number that is held against a limit
pub below_sized : (limit n : ℕ) → Sized (below limit n)
unfolding below
below_sized limit n = go (ltb n limit)
  where
    go : (t : Bool) → Sized (cond t (Ok n) (Err TooLarge))
    go true = inl (n, refl)
    go false = inr refl

pub below_unfit : (limit n : ℕ) → below limit n ≡ Err TooLarge → limit ≤ n
below_unfit limit n e = elim (cases_lt n limit) [ inl lt ↦ absurd (let is = below_ok limit n n lt refl in cc) | inr le ↦ le ]

module _ {A : Type 0} (Nothing Good : List ℕ → Type 0) (read : List ℕ → Result A NumFault)
    (told : (text : List ℕ) → Told Nothing Good read 0 text) (missing : (text : List ℕ) → Nothing text → read text ≡ Err Empty) (sized : (text : List ℕ) → Good text → Sized (read text)) where
  not_bad : (text : List ℕ) (at : ℕ) → Good text → ¬ (read text ≡ Err (BadDigit at))
  not_bad text at good e = go (sized text good)
    where
      go : Sized (read text) → ⊥
      go (inl (x, is)) = absurd cc
      go (inr is) = absurd cc

  -- where the reader sticks the text can't go on
  stuck_stops : (text : List ℕ) (k : ℕ) → Sticks read 0 text k → Begins Good (take k text) → StopsAt Good text k
  stuck_stops text k stuck begins = record {
    within = stuck.within;
    before = begins;
    behind = λ less (more, good). not_bad (take (k + 1) text ++ more) (held (0 + k)) good (stuck.again (take (k + 1) text ++ more) (take_at (take (k + 1) text) more (k + 1) (length-take-le (k + 1) text (omega arith))));
    unfinished = λ good. not_bad text (held (0 + k)) good (stuck.again text refl);
  }

  -- a place in a text that is short enough
  place_is : (text : List ℕ) (k : ℕ) → length text < 2 ^ 32 → k ≤ length text → held (0 + k) ≡ k
  unfolding held
  place_is text k short within = omega arith

  -- empty exactly where nothing is there
  pub law_empty : (text : List ℕ) → read text ≡ Err Empty ↔ Nothing text
  law_empty text = ((λ e. go e (told text)), missing text)
    where
      go : read text ≡ Err Empty → Told Nothing Good read 0 text → Nothing text
      go e (Missing h) = h
      go e (Wrong k stuck begins) = absurd (let is = stuck.again text refl in cc)
      go e (Right good) = right (sized text good)
        where
          right : Sized (read text) → Nothing text
          right (inl (x, is)) = absurd cc
          right (inr is) = absurd cc

  -- a bad byte exactly where something is there that can't go on
  pub law_bad : (text : List ℕ) (at : ℕ) → length text < 2 ^ 32 → read text ≡ Err (BadDigit at) ↔ ((¬ Nothing text) × StopsAt Good text at)
  law_bad text at short = ((λ e. stops e (told text)), λ (some, stop). bad some stop (told text))
    where
      stops : read text ≡ Err (BadDigit at) → Told Nothing Good read 0 text → (¬ Nothing text) × StopsAt Good text at
      stops e (Missing h) = absurd (let is = missing text h in cc)
      stops e (Right good) = absurd (not_bad text at good e)
      stops e (Wrong k stuck begins) =
          let is = stuck.again text refl in
          let same : held (0 + k) ≡ at = cc in
          ((λ h. let nothing = missing text h in absurd cc), subst (StopsAt Good text) (sym (place_is text k short stuck.within) ∙ same) (stuck_stops text k stuck begins))

      bad : (¬ Nothing text) → StopsAt Good text at → Told Nothing Good read 0 text → read text ≡ Err (BadDigit at)
      bad some stop (Missing h) = absurd (some h)
      bad some stop (Right good) = absurd (stop.unfinished good)
      bad some stop (Wrong k stuck begins) = stuck.again text refl ∙ ap (λ (n : ℕ). Err (BadDigit n)) (place_is text k short stuck.within ∙ stops_once Good text k at (stuck_stops text k stuck begins) stop)

  -- too large only where the text is good
  pub law_large : (text : List ℕ) → read text ≡ Err TooLarge → Good text
  law_large text e = go (told text)
    where
      go : Told Nothing Good read 0 text → Good text
      go (Missing h) = absurd (let is = missing text h in cc)
      go (Wrong k stuck begins) = absurd (let is = stuck.again text refl in cc)
      go (Right good) = good
