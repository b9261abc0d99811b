-- The operations of a tree make what it means.
use Rattle.std.proofs.Common.{ℕ, ◌≡◌, ◌+◌, ◌-◌, ◌&&◌, Bool, true, false, cond, ltb, List, [], ◌∷◌, ◌++◌, length, fold, Option, None, Some, refl, sym, ap, subst, ◌∙◌, arith}
use Rattle.std.proofs.lemmas.Grind.{fold-append}
use Rattle.std.specs.List.{AllByRecursion, flat_map, list_any}
use Rattle.mlt_frame.specs.declared.op.Op.{Op}
use Rattle.mlt_frame.specs.declared.op.Op.TheVariants.{Filter}
use Rattle.mlt_frame.specs.Registers.{apply, regs}
use Rattle.mlt_tree.specs.declared.filter.FilterStep.{FilterStep}
use Rattle.mlt_tree.specs.declared.tree.Attached.{Attached}
use Rattle.mlt_tree.specs.declared.tree.Plant.{Plant}
use Rattle.mlt_tree.specs.Acting.{holds, passed, filter_step}
use Rattle.mlt_tree.specs.Meaning.{Matter, mean, mean_in, rows, shown, planted, filtered_by}
use Rattle.mlt_tree.specs.Medium.{Medium, makes, hides}
use Rattle.mlt_tree.specs.Sizes.{tracks_in}
use Rattle.mlt_tree.specs.Tree.{Tree, Parts, Tracks, Src, Blank, Part, Seq, With, Rows, End, Then, NoTrack, Track, len}
use Rattle.mlt_tree.specs.Units.{IsOnTracks}
use Rattle.mlt_start.specs.Code.{acts, code, code_in, rows_code, planted_rows, filter_ops, with_filters, load_of, or_absent}
use Rattle.mlt_start.proofs.Both.{Both, both-cond, both-or_under, both-map}
use Rattle.mlt_start.proofs.Planted.{IsPlanted, ArePlantedParts, ArePlantedTracks, still-all}
use Rattle.mlt_start.proofs.Stacked.{Makes, AllMake, planted-make}

module _ {A : Type 0} (m : Matter A) (n : ℕ) where
  regs-filter : (t : Bool) (step : FilterStep) (x : A) (rest : List (Option A)) (more : List Op) → regs m (Some x ∷ rest) (cond t (Filter 0 step ∷ []) [] ++ more) ≡ regs m (Some (cond t (m.filter step x) x) ∷ rest) more
  regs-filter true step x rest more = refl
  regs-filter false step x rest more = refl

  regs-filters : (filters : List Attached) (x : A) (rest : List (Option A)) → regs m (Some x ∷ rest) (flat_map (filter_ops n) filters) ≡ Some (fold (filtered_by m n) x filters) ∷ rest
  regs-filters [] x rest = refl
  regs-filters (f ∷ filters) x rest =
      regs-filter (holds f.span n) (filter_step f.spec (passed f.span n)) x rest (flat_map (filter_ops n) filters) ∙ regs-filters filters (filtered_by m n x f) rest

  makes-filters : (filters : List Attached) (ops : List Op) (x : A) → Makes m ops x → Makes m (with_filters n filters ops) (fold (filtered_by m n) x filters)
  makes-filters filters ops x made rest =
      fold-append (apply m) rest ops (flat_map (filter_ops n) filters) ∙ ap (λ rs. regs m rs (flat_map (filter_ops n) filters)) (made rest) ∙ regs-filters filters x rest

-- as many rows as tracks
pub length-rows : (v : Medium) (tracks : Tracks) (n : ℕ) → length (rows_code v tracks n) ≡ tracks_in tracks
length-rows v NoTrack n = refl
length-rows v (Track t hide tracks) n = omega (arith, length-rows v tracks n)

module _ {A : Type 0} (v : Medium) (m : Matter A) where
  -- of rows without plants the highest shows
  shown-make : (cs : List (Option (List Op))) (rs : List (Option A)) → AllMake m cs rs → Both (Makes m) (shown cs) (shown rs)
  shown-make [] [] made = tt
  shown-make [] (r ∷ rs) made = absurd made
  shown-make (c ∷ cs) [] made = absurd made
  shown-make (c ∷ cs) (r ∷ rs) made =
      both-or_under (Makes m) (shown cs) c (shown rs) r (shown-make cs rs made.1) made.0

  -- by whether a plant acts
  rows-make : (cs : List (Option (List Op))) (rs : List (Option A)) (plants : List Plant) (n : ℕ) → AllMake m cs rs → AllByRecursion (IsOnTracks (length cs)) plants
      → Both (Makes m) (cond (list_any (acts v n) plants) (planted_rows v n plants cs) (shown cs)) (shown (fold (planted v m n) rs plants))
  rows-make cs rs plants n made on = by (list_any (acts v n) plants) refl where
    by : (t : Bool) → list_any (acts v n) plants ≡ t → Both (Makes m) (cond t (planted_rows v n plants cs) (shown cs)) (shown (fold (planted v m n) rs plants))
    by true is = planted-make v m n cs rs plants made on
    by false is = subst (λ x. Both (Makes m) (shown cs) (shown x)) (sym (still-all v m n plants rs is)) (shown-make cs rs made)

  mutual
    -- a tree that has something has operations that make it, and one that has nothing has none
    pub code-makes : (t : Tree) → IsPlanted t → (n : ℕ) → Both (Makes m) (code v t n) (mean v m t n)
    code-makes (Src source kind frames) is n =
        both-cond (Makes m) (makes v kind && ltb n frames) (Some (load_of source n ∷ [])) None (Some (m.source source n)) None (λ rest. refl) tt
    code-makes (Blank frames) is n = tt
    code-makes (Part t first last) is n =
        both-cond (Makes m) (ltb n (last + 1 - first)) (code v t (first + n)) None (mean v m t (first + n)) None (code-makes t is (first + n)) tt
    code-makes (Seq parts) is n = code_in-makes parts is n
    code-makes (With t filters) is n =
        both-map (Makes m) (Makes m) (with_filters n filters) (λ x. fold (filtered_by m n) x filters) (makes-filters m n filters) (code v t n) (mean v m t n) (code-makes t is n)
    code-makes (Rows tracks plants) is n =
        rows-make (rows_code v tracks n) (rows v m tracks n) plants n (all-make tracks is.1 n) (subst (λ count. AllByRecursion (IsOnTracks count) plants) (sym (length-rows v tracks n)) is.2)

    code_in-makes : (parts : Parts) → ArePlantedParts parts → (n : ℕ) → Both (Makes m) (code_in v parts n) (mean_in v m parts n)
    code_in-makes End is n = tt
    code_in-makes (Then t parts) is n =
        both-cond (Makes m) (ltb n (len t)) (code v t n) (code_in v parts (n - len t)) (mean v m t n) (mean_in v m parts (n - len t)) (code-makes t is.0 n) (code_in-makes parts is.1 (n - len t))

    pub all-make : (tracks : Tracks) → ArePlantedTracks tracks → (n : ℕ) → AllMake m (rows_code v tracks n) (rows v m tracks n)
    all-make NoTrack is n = tt
    all-make (Track t hide tracks) is n =
        (both-cond (Makes m) (hides v hide) None (code v t n) None (mean v m t n) tt (code-makes t is.0 n), all-make tracks is.1 n)

  -- one register, be there something or not
  one-register : (c : Option (List Op)) (o : Option A) → Both (Makes m) c o → regs m [] (or_absent c) ≡ o ∷ []
  one-register None None h = refl
  one-register None (Some x) h = absurd h
  one-register (Some ops) None h = absurd h
  one-register (Some ops) (Some x) h = h []

  pub regs-code : (t : Tree) → IsPlanted t → (n : ℕ) → regs m [] (or_absent (code v t n)) ≡ mean v m t n ∷ []
  regs-code t is n = one-register (code v t n) (mean v m t n) (code-makes t is n)
