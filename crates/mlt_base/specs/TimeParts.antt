-- The code's parts of a time, as the definitions see them.
use Rattle.std.specs.Prelude.{length, ◌≤◌}
use Rattle.mlt_base.specs.declared.time.Form.{Form as Parts}
use Rattle.mlt_base.specs.declared.time.Form.TheVariants as parts
use Rattle.mlt_base.specs.Time.{Form, Frames, Clock, Counted}

abbrev pub form_view : Parts → Form
form_view (parts.Frames frames) = Frames frames.now
form_view (parts.Clock hours minutes seconds fraction) = Clock hours.now minutes.now seconds.now fraction.now
form_view (parts.Counted hours minutes seconds frames) = Counted hours.now minutes.now seconds.now frames.now

-- a fraction has at most three digits
abbrev pub HasShortFraction : Form → Type 0
HasShortFraction (Frames frames) = Unit {0}
HasShortFraction (Clock hours minutes seconds fraction) = length fraction ≤ 3
HasShortFraction (Counted hours minutes seconds frames) = Unit {0}
