-- Frames from the first to the last.
use Rattle.std.specs.Prelude.{ℕ, ◌≤◌}
use Rattle.mlt_base.specs.declared.value.Span.{Span}

-- the frames from first to last
abbrev pub span : (first last : ℕ) → Span
span first last = record { first = record { 0 = first }; last = record { 0 = last } }

-- the last frame is not before the first, as in every span that a value holds
abbrev pub IsSpan : Span → Type 0
IsSpan s = s.first.0 ≤ s.last.0
