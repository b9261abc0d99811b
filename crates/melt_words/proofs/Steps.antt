-- Words read one by one are the words read at once.
use Rattle.std.proofs.Common.{◌≡◌, ℕ, ◌+◌, ◌<◌, ◌≤◌, suc, cond, ltb, List, ◌∷◌, length, get_or, map, drop, Result, Ok, arith, add-one, sym, ap, ◌∙◌}
use Rattle.std.proofs.Math.Seq.{drop-cons}
use Rattle.std.proofs.lemmas.List.{get_or-map, length-map}
use Rattle.std.proofs.lemmas.Bool.Decides.{nat_tests}
use Rattle.mlt_base.specs.Try.{TryFails}
use Rattle.mlt_base.specs.declared.refusal.Try.{Try}
use Rattle.mlt_base.specs.declared.refusal.Try.TheVariants.{Fault, Memory}
use Rattle.mlt_base.specs.declared.faults.WordFault.{WordFault}
use Rattle.mlt_base.specs.declared.limits.TheConstants.{MOST_WORDS}
use Rattle.mlt_base.specs.Steps.{◌>>=◌}
use Rattle.mlt_tree.specs.Words.{WordsRead, nothing_read, step, steps, finish, groups}

-- the words from an index on, the first of them apart
left_at : {X : Type 0} → (text : X → List ℕ) (words : List X) (i : ℕ) (word : X) → i < length words → word ≡ get_or words i word → drop i (map text words) ≡ text word ∷ drop (i + 1) (map text words)
left_at text words i word within is =
    rw add-one (drop-cons (map text words) i (text word) (rw length-map within) ∙ ap (λ w. w ∷ drop (suc i) (map text words)) (get_or-map text words i word (text word) within ∙ ap text (sym is)))

-- after a word is read, what is left gives what it gave together with that word
pub steps_more : {X : Type 0} → (text : X → List ℕ) (words : List X) (i : ℕ) (word : X) (s t : WordsRead) (all : Result WordsRead WordFault) → i < length words → word ≡ get_or words i word → step i (text word) s ≡ Ok t → steps i (drop i (map text words)) s ≡ all → steps (i + 1) (drop (i + 1) (map text words)) t ≡ all
steps_more text words i word s t all within is read left =
    sym (ap (λ r. r >>= steps (i + 1) (drop (i + 1) (map text words))) read) ∙ sym (ap (λ ws. steps i ws s) (left_at text words i word within is)) ∙ left

-- a word that is refused ends the reading
pub steps_fail : {X : Type 0} → (text : X → List ℕ) (words : List X) (i : ℕ) (word : X) (s : WordsRead) (all : Result WordsRead WordFault) (e : Try WordFault) → i < length words → word ≡ get_or words i word → TryFails e (step i (text word) s) → steps i (drop i (map text words)) s ≡ all → TryFails e all
steps_fail text words i word s all (Fault f) within is read left =
    sym left ∙ ap (λ ws. steps i ws s) (left_at text words i word within is) ∙ ap (λ r. r >>= steps (i + 1) (drop (i + 1) (map text words))) read
steps_fail text words i word s all Memory within is read left = tt

few : {B : Type 0} → (n : ℕ) (x y : B) → n ≤ MOST_WORDS → cond (ltb MOST_WORDS n) x y ≡ y
few n x y h = grind (arith, nat_tests)

-- that refusal is the refusal of the words, where they are not too many
pub groups_fail : {X : Type 0} → (text : X → List ℕ) (words : List X) (e : Try WordFault) → length words ≤ MOST_WORDS → TryFails e (steps 0 (map text words) nothing_read) → TryFails e (groups (map text words))
unfolding groups
groups_fail text words (Fault f) h read =
    few (length (map text words)) _ _ (rw length-map h) ∙ ap (λ r. r >>= finish) read
groups_fail text words Memory h read = tt
