-- What operations make of registers that are read from a function.
use Rattle.std.proofs.Common.{◌≡◌, ◌≢◌, ℕ, ◌+◌, ◌-◌, ◌<◌, ◌≤◌, List, [], ◌∷◌, ◌++◌, All, length, get_or, set, Option, None, Some, option_map, refl, sym, ap, ◌∙◌, subst, arith}
use Rattle.std.proofs.lemmas.List.{get_or_append_left, get_or-append-add, get_or-set_same, get_or-set_other, length-append}
use Rattle.mlt_base.specs.declared.profile.Pos.{Pos}
use Rattle.mlt_base.specs.declared.profile.SourceNo.{SourceNo}
use Rattle.mlt_eval.specs.declared.register.Register.{Register}
use Rattle.mlt_eval.specs.declared.register.Register.TheVariants.{Nothing}
use Rattle.mlt_eval.specs.Down.{down, IsPut, IsMerged}
use Rattle.mlt_tree.specs.Show.{Fit}
use Rattle.mlt_eval.specs.Registers.{held, register}
use Rattle.mlt_frame.specs.declared.op.Op.{Op}
use Rattle.mlt_frame.specs.declared.op.Op.TheVariants.{Load, Absent, Filter, Merge, Keep}
use Rattle.mlt_frame.specs.Fits.{FitsRegisters}
use Rattle.mlt_frame.specs.Registers.{apply, regs}
use Rattle.mlt_tree.specs.declared.filter.FilterStep.{FilterStep}
use Rattle.mlt_tree.specs.declared.merge.MergeStep.{MergeStep}
use Rattle.mlt_tree.specs.Meaning.{Matter}
use Rattle.mlt_eval.proofs.Downs.{get-down, down_new, down_put, down_kept, down_merged}

-- where operations fit, there are no more registers than there is room for
pub fits_within : (k n : ℕ) (ops : List Op) → FitsRegisters k n ops → n ≤ k
fits_within k n [] fits = fits.1
fits_within k n (Load source at ∷ ops) fits = fits.1
fits_within k n (Absent ∷ ops) fits = fits.1
fits_within k n (Filter depth step ∷ ops) fits = fits.1
fits_within k n (Merge a b step ∷ ops) fits = omega (arith, fits.1)
fits_within k n (Keep row count ∷ ops) fits = fits.1

-- ---- operations

module _ {A : Type 0} (m : Matter A) (f g : ℕ → Option A) (n : ℕ) (op : Op) where
  pub loaded : (source : SourceNo) (at : Pos) → op ≡ Load source at → IsPut f g n (Some (m.source source.0 at.0)) → down g (n + 1) ≡ apply m (down f n) op
  loaded source at is put = down_new f g n (Some (m.source source.0 at.0)) put ∙ sym (ap (apply m (down f n)) is)

  pub absent : op ≡ Absent → IsPut f g n None → down g (n + 1) ≡ apply m (down f n) op
  absent is put = down_new f g n None put ∙ sym (ap (apply m (down f n)) is)

  pub filtered : (depth : ℕ) (step : FilterStep) → op ≡ Filter depth step → depth < n
      → IsPut f g (n - 1 - depth) (option_map (m.filter step) (f (n - 1 - depth))) → down g n ≡ apply m (down f n) op
  filtered depth step is lt put =
      let place : n ≡ (n - 1 - depth) + depth + 1 = omega arith in
      down_put f g n (n - 1 - depth) depth (option_map (m.filter step) (f (n - 1 - depth))) place put
      ∙ ap (λ (x : Option A). set (down f n) depth (option_map (m.filter step) x)) (sym (get-down f n (n - 1 - depth) depth None place))
      ∙ sym (ap (apply m (down f n)) is)

  pub merged : (a b : ℕ) (step : MergeStep) → op ≡ Merge a b step → (a < n) × (b < n) × (a ≢ b)
      → IsMerged n (m.merge step) f g (n - 1 - a) (n - 1 - b) (f (n - 1 - b)) → down g n ≡ apply m (down f n) op
  merged a b step is finds done =
      down_merged (m.merge step) f g n (n - 1 - a) (n - 1 - b) a b (f (n - 1 - b)) (omega (arith, finds.0)) (omega (arith, finds.1)) refl done
      ∙ sym (ap (apply m (down f n)) is)

  pub kept : (row count : ℕ) → op ≡ Keep row count → (row < count) × (count ≤ n) → g (n - count) ≡ f (n - count + row)
      → ((j : ℕ) → j < n - count → g j ≡ f j) → down g (n - count + 1) ≡ apply m (down f n) op
  kept row count is finds same below =
      down_kept f g n (n - count) row count None (omega (arith, finds.1)) finds.0 same below ∙ sym (ap (apply m (down f n)) is)

-- one operation is done, and others are left
pub done_one : {A : Type 0} (m : Matter A) (before after all : List (Option A)) (op : Op) (left rest : List Op) → left ≡ op ∷ rest
    → after ≡ apply m before op → regs m before left ≡ all → regs m after rest ≡ all
done_one {A} m before after all op left rest next done so_far =
    ap (λ (registers : List (Option A)). regs m registers rest) done ∙ sym (ap (regs m before) next) ∙ so_far

-- a state is written, and its register is changed
pub put_state : (bytes : ℕ) (fits : List Fit) (blocks : List (List ℕ)) (states : List Register) (k : ℕ) (state : Register) → k < length states
    → IsPut (register bytes fits blocks states) (register bytes fits blocks (set states k state)) k (held bytes fits (get_or blocks k []) state)
put_state bytes fits blocks states k state lt = record {
  here = ap (λ (s : Register). held bytes fits (get_or blocks k []) s) (get_or-set_same states k state Nothing lt);
  others = λ j other. ap (λ (s : Register). held bytes fits (get_or blocks j []) s) (get_or-set_other states k j state Nothing other);
}

-- ---- sources

-- those of the first of two lists, and those of the second
pub front_in : (t : ℕ) (xs ys : List ℕ) → All (λ source. source < t) (xs ++ ys) → All (λ source. source < t) xs
front_in t xs ys all k d lt = subst (λ n. n < t) (get_or_append_left xs ys d k lt) (all k d (simp length-append (omega arith)))

pub back_in : (t : ℕ) (xs ys : List ℕ) → All (λ source. source < t) (xs ++ ys) → All (λ source. source < t) ys
back_in t xs ys all k d lt = subst (λ n. n < t) (get_or-append-add xs ys k d) (all (length xs + k) d (simp length-append (omega arith)))
