-- Groups have as many words as were read.
use Rattle.std.proofs.Common.{ℕ, ◌≡◌, ◌+◌, List, [], ◌∷◌, length, fold, max, ap, ◌∙◌, arith}
use Rattle.std.specs.List.{enumerate_from}
use Rattle.mlt_tree.specs.WordLaws.{CountsWords}
use Rattle.mlt_tree.proofs.Kept.{words_kept}

-- one more than the greatest place of these words, or a number that is more
abbrev pub behind_words : ℕ → List (ℕ × List ℕ) → ℕ
behind_words n words = fold (λ most word. max most (word.0 + 1)) n words

of_numbered : (n : ℕ) (words : List (List ℕ)) → behind_words n (enumerate_from n words) ≡ n + length words
of_numbered n [] = omega arith
of_numbered n (word ∷ words) =
    let next : max n (n + 1) ≡ n + 1 = omega arith in
    let rest = of_numbered (n + 1) words in
    ap (λ m. behind_words m (enumerate_from (n + 1) words)) next ∙ rest ∙ omega arith

pub words_counted : CountsWords
words_counted words gs h =
    ap (behind_words 0) (words_kept words gs h) ∙ of_numbered 0 words ∙ omega arith
