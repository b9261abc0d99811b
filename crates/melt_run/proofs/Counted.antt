-- Words that were read into groups are few.
use Rattle.std.proofs.Common.{ℕ, ◌≡◌, ◌≤◌, Bool, true, false, cond, ltb, List, [], ◌∷◌, length, suc, ap, Result, Ok, Err, refl, arith}
use Rattle.std.specs.Prelude.{String}
use Rattle.std.specs.declared.alloc.Global.{Global}
use Rattle.melt_run.specs.Show.{texts}
use Rattle.std.proofs.lemmas.Bool.Decides.{nat_tests}
use Rattle.mlt_base.specs.declared.faults.WordFault.{WordFault}
use Rattle.mlt_tree.specs.declared.group.Group.{Group}
use Rattle.mlt_base.specs.declared.limits.TheConstants.{MOST_WORDS}
use Rattle.mlt_tree.specs.Words.{groups}

by_test : (t : Bool) (n : ℕ) (fault : WordFault) (read : Result (List Group) WordFault) (gs : List Group) → ltb MOST_WORDS n ≡ t → cond t (Err fault) read ≡ Ok gs → n ≤ 10000
by_test true n fault read gs test e = cc
by_test false n fault read gs test e = grind (arith, nat_tests)

pub few_words : (words : List (List ℕ)) (gs : List Group) → groups words ≡ Ok gs → length words ≤ 10000
unfolding groups
few_words words gs e = by_test (ltb MOST_WORDS (length words)) (length words) _ _ gs refl e

pub length_texts : (words : List (String Global)) → length (texts words) ≡ length words
length_texts [] = refl
length_texts (word ∷ words) = ap suc (length_texts words)
