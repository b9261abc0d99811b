use Rattle.std.proofs.Common.{◌≡◌, ◌+◌, ◌-◌, ◌<◌, ◌≤◌, ◌∷◌, length, get_or}
use Rattle.mlt_index.specs.Digits.{binary_digits}
use Rattle.mlt_index.proofs.search.index_of.Given as goal

-- the entry is neither before the low index nor behind the high one
abbrev pub invariant-loop-low : goal.invariant-loop-low
invariant-loop-low g l =
    let ends = g.E.Ends.ends l.initial.ends in
    record {
      order : l.low ≤ l.high;
      within : l.high ≤ length ends;
      reached : get_or (0 ∷ ends) l.low 0 ≤ l.at;
      before : l.high < length ends → l.at < get_or ends l.high 0;
      counted : g.E.Ends.asked l.initial.ends ≤ g.E.Ends.asked l.ends;
      few : g.E.Ends.asked l.ends + binary_digits (l.high - l.low) ≤ g.E.Ends.asked l.initial.ends + binary_digits (length ends);
      least : g.E.Ends.asked l.initial.ends + binary_digits (length ends + 1) ≤ g.E.Ends.asked l.ends + binary_digits (l.high - l.low + 1);
      same : g.E.Ends.ends l.ends ≡ ends;
      counter : g.E.Ends.counter l.ends ≡ g.E.Ends.counter l.initial.ends;
    }

abbrev pub decreases-loop-low : goal.decreases-loop-low
decreases-loop-low g l = l.high - l.low
