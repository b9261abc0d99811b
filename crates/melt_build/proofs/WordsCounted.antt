-- Group after group as many words are counted as the groups are made of.
use Rattle.std.proofs.Common.{ℕ, ◌≡◌, ◌+◌, Bool, true, false, cond, List, [], ◌∷◌, map, fold, Option, None, Some, refl, ap, sym, ◌∙◌, arith}
use Rattle.std.proofs.lemmas.Grind.{fold-append}
use Rattle.std.specs.List.{flat_map}
use Rattle.mlt_base.specs.Name.{name_of}
use Rattle.mlt_tree.specs.declared.group.Group.{Group}
use Rattle.mlt_tree.specs.declared.group.Prop.{Prop}
use Rattle.mlt_tree.specs.declared.table.Row.{Row}
use Rattle.mlt_tree.specs.Table.{option_row}
use Rattle.mlt_tree.specs.GroupWords.{prop_word, own_words_by, own_words, words_of, words_in}
use Rattle.mlt_tree.proofs.Counts.{behind_words}
use Rattle.melt_build.specs.WordCount.{behind, has_argument, behind_group}

of_props : (n : ℕ) (props : List Prop) → fold (λ most prop. behind most prop.place) n props ≡ behind_words n (map prop_word props)
of_props n [] = refl
of_props n (prop ∷ props) = of_props (behind n prop.place) props

of_own : (n : ℕ) (g : Group) (row : Option Row) → behind n (cond (has_argument row) (g.place + 1) g.place) ≡ behind_words n (own_words_by g row)
of_own n g None = refl
of_own n g (Some row) = by row.argument where
  by : (b : Bool) → behind n (cond b (g.place + 1) g.place) ≡ behind_words n ((g.place, name_of row.name) ∷ (cond b ((g.place + 1, g.arg) ∷ []) []))
  by true = omega arith
  by false = refl

of_group : (n : ℕ) (g : Group) → behind_group n g ≡ behind_words n (words_of g)
of_group n g =
    of_props _ g.props ∙ ap (λ m. behind_words m (map prop_word g.props)) (of_own n g (option_row g.kind)) ∙ sym (fold-append _ n (own_words g) (map prop_word g.props))

of_groups : (n : ℕ) (gs : List Group) → fold behind_group n gs ≡ behind_words n (flat_map words_of gs)
of_groups n [] = refl
of_groups n (g ∷ gs) =
    of_groups (behind_group n g) gs ∙ ap (λ m. behind_words m (flat_map words_of gs)) (of_group n g) ∙ sym (fold-append _ n (words_of g) (flat_map words_of gs))

pub all_counted : (gs : List Group) → fold behind_group 0 gs ≡ words_in gs
all_counted gs = of_groups 0 gs
