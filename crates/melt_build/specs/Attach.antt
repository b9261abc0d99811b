-- What a filter's word asks for, as the definitions see it.
use Rattle.std.specs.Prelude.{◌≤◌, ◌<◌, ◌^◌, IfSome, Result, Ok, Err}
use Rattle.mlt_base.specs.declared.value.Span.{Span}
use Rattle.mlt_base.specs.declared.value.UnitId.{UnitId}
use Rattle.mlt_tree.specs.Attaching as meaning
use Rattle.mlt_tree.specs.Ranges.{IsFilter}
use Rattle.mlt_tree.specs.Composition.{State}
use Rattle.mlt_tree.specs.declared.refusal.Refusal.{Refusal}
use Rattle.melt_build.specs.declared.wanted.Asked.{Asked}
use Rattle.melt_build.specs.declared.wanted.LastClip.{LastClip}

abbrev pub asked_view : Asked → meaning.Asked
asked_view asked = record { spec = asked.spec; first = asked.first; last = asked.last }

-- a filter in its ranges, from its first position to its last, which are below 2^31
pub record IsAsked (asked : Asked) : Type 0 where
  pub filter : IsFilter asked.spec
  pub first : asked.first < 2 ^ 31
  pub last : IfSome asked.last (λ last. (asked.first ≤ last) × (last < 2 ^ 31))

-- what is done with the clip that stands last, by its unit and its frames, unless that is refused
abbrev pub acted : (UnitId → Span → Result State Refusal) → Result LastClip Refusal → Result State Refusal
acted act (Ok clip) = act clip.unit clip.span
acted act (Err refusal) = Err refusal
