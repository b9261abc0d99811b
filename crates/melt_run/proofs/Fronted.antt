-- An output to which the positions are appended one after another.
use Rattle.std.proofs.Common.{ℕ, ◌≡◌, ◌+◌, List, Option, None, Some, IfSome, IsSomeAnd, refl, sym, ap, ◌∙◌, subst, add-one, length-append}
use Rattle.mlt_base.specs.declared.port.Port.{Port}
use Rattle.mlt_base.specs.declared.port.Port.TheVariants.{Video}
use Rattle.mlt_host.specs.Host.{PortState, appended, cut_short}
use Rattle.mlt_tree.specs.Show.{Run}
use Rattle.melt_run.specs.Play.{fronted, IsCutAt}

module _ (run : Run) (name : List ℕ) (count : ℕ) where
  step : (port : Port) → appended (fronted run port name count) (run.gives port count) ≡ fronted run port name (count + 1)
  step port = rw (add-one, length-append) refl

  -- one position more
  pub grows : (port : Port) (old new : Option PortState) → IfSome old (λ now. now ≡ fronted run port name count) → IfSome new (λ after. IsSomeAnd old (λ before. after ≡ appended before (run.gives port count))) → IfSome new (λ now. now ≡ fronted run port name (count + 1))
  grows port old None front added = tt
  grows port None (Some after) front added = absurd added
  grows port (Some before) (Some after) front added =
      added ∙ ap (λ now. appended now (run.gives port count)) front ∙ step port

  cut_is : (kept : ℕ) → IsCutAt run Video Video name count (cut_short (fronted run Video name count) (run.gives Video count) kept)
  cut_is kept = record { named = refl; kept = kept; itself = λ apart. absurd (apart refl); bytes = refl; acknowledged = refl }

  -- a front of the next position
  pub cuts : (old new : Option PortState) → IfSome old (λ now. now ≡ fronted run Video name count) → IfSome new (λ after. IsSomeAnd old (λ before. (kept : ℕ) × (after ≡ cut_short before (run.gives Video count) kept))) → IfSome new (IsCutAt run Video Video name count)
  cuts old None front added = tt
  cuts None (Some after) front added = absurd added
  cuts (Some before) (Some after) front added =
      subst (IsCutAt run Video Video name count) (sym (added.1 ∙ ap (λ now. cut_short now (run.gives Video count) added.0) front)) (cut_is added.0)
