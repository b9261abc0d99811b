use Rattle.std.proofs.Common.{refl}
use Rattle.melt_run.proofs.line.cause_parts.Goals as goal

pub returns-in-TooFew-clause-text : goal.returns-in-TooFew-clause-text
returns-in-TooFew-clause-text c = rw (c.in-TooFew.is, c.count.ensures.text, c.count-in-TooFew.ensures.text) refl

pub returns-in-TooLarge-clause-text : goal.returns-in-TooLarge-clause-text
returns-in-TooLarge-clause-text c = rw c.in-TooLarge.is refl
