-- Filters that are attached: the clip that stands last, and the units with one filter more.
use Rattle.std.proofs.Common.{ℕ, ◌≡◌, ◌+◌, ◌-◌, ◌<◌, List, [], length, get_or, slice_get, Option, None, Some, Result, sym, ap, ◌∙◌, arith}
use Rattle.std.proofs.lemmas.List.{length-set}
use Rattle.std.proofs.lemmas.Option.{slice_get_within}
use Rattle.mlt_base.specs.declared.value.Span.{Span}
use Rattle.mlt_base.specs.declared.value.UnitId.{UnitId}
use Rattle.mlt_tree.specs.declared.entry.Entry.{Entry}
use Rattle.mlt_tree.specs.declared.entry.Entry.TheVariants.{Clip, Gap}
use Rattle.mlt_tree.specs.declared.group.Group.{Group}
use Rattle.mlt_tree.specs.declared.node.Node.{Node}
use Rattle.mlt_tree.specs.declared.refusal.Cause.TheVariants as cause
use Rattle.mlt_tree.specs.declared.refusal.Refusal.{Refusal}
use Rattle.mlt_tree.specs.declared.tree.Attached.{Attached}
use Rattle.mlt_tree.specs.Attaching.{on_clip}
use Rattle.mlt_tree.specs.Composition as meaning
use Rattle.mlt_tree.specs.Composition.{track}
use Rattle.mlt_tree.specs.Refusing.{refuse}
use Rattle.mlt_tree.specs.Show.{Source}
use Rattle.mlt_tree.specs.Sources.{FitsBody}
use Rattle.mlt_tree.specs.Units.{list_unit, with_filter, with_unit_filter}
use Rattle.melt_build.specs.State.{FitsUnits}
use Rattle.melt_build.proofs.Mixed.{each_set, unit_there}

-- ---- the clip that stands last

module _ (s : meaning.State) (g : Group) (act : UnitId → Span → Result meaning.State Refusal) where
  abbrev found : Option Entry → Result meaning.State Refusal
  found None = refuse g.place (cause.TooFew 1 0)
  found (Some (Gap frames)) = refuse g.place (cause.BadClip (length (track s) - 1) (length (track s)))
  found (Some (Clip unit span filters)) = act unit span

  found_at : (last : ℕ) (o : Option Entry) → last ≡ length (track s) - 1 → slice_get (track s) last ≡ o → on_clip s g act ≡ found o
  found_at last o at is = ap (λ k. found (slice_get (track s) k)) (sym at) ∙ ap found is

  pub clip_found : (last : ℕ) (unit : UnitId) (span : Span) (filters : List Attached) → last ≡ length (track s) - 1 → slice_get (track s) last ≡ Some (Clip unit span filters) → on_clip s g act ≡ act unit span
  clip_found last unit span filters at is = found_at last (Some (Clip unit span filters)) at is

  pub gap_found : (last frames : ℕ) → last ≡ length (track s) - 1 → slice_get (track s) last ≡ Some (Gap frames) → on_clip s g act ≡ refuse g.place (cause.BadClip last (length (track s)))
  gap_found last frames at is =
      found_at last (Some (Gap frames)) at is ∙ ap (λ k. refuse g.place (cause.BadClip k (length (track s)))) (sym at)

  pub nothing_found : (last : ℕ) → last ≡ length (track s) - 1 → slice_get (track s) last ≡ None → on_clip s g act ≡ refuse g.place (cause.TooFew 1 0)
  nothing_found last at is = found_at last None at is

-- where there is an entry at the last index, that is below the length
pub last_within : (es : List Entry) (last : ℕ) (e : Entry) → last ≡ length es - 1 → slice_get es last ≡ Some e → length es ≡ last + 1
last_within es last e at is = omega (arith, at, slice_get_within es last e is)

-- ---- units with one filter more

pub filter_fits : (table : List Source) (units : List Node) (unit : ℕ) (filter : Attached) → FitsUnits table units → FitsUnits table (with_unit_filter units unit filter)
filter_fits table units unit filter fits k node below is =
    let old : Node = get_or units unit (list_unit []) in
    let inside : k < length units = omega (arith, below, length-set units unit (with_filter old filter)) in
    each_set units unit k (with_filter old filter) node (λ n. FitsBody table n.body) inside (λ there. fits unit old there (unit_there units unit there)) (λ n here. fits k n inside here) is

pub filter_length : (units : List Node) (unit : ℕ) (filter : Attached) → length (with_unit_filter units unit filter) ≡ length units
filter_length units unit filter = length-set units unit (with_filter (get_or units unit (list_unit [])) filter)
