use Rattle.std.proofs.Common.{take, ap, ◌∙◌, arith}
use Rattle.mlt_playlist.proofs.Merging.{last-clip, last-gap}
use Rattle.mlt_playlist.proofs.gaps.drop_last_gap.Goals as goal

pub returns-in-Some-Gap : goal.returns-in-Some-Gap
returns-in-Some-Gap c =
    let es = c.args.entries.now.items in
    let got = rw c.deref.ensures.value at c.in-Some-Gap.ensures.value in
    c.truncate.ensures.items ∙ ap (λ k. take k es) (omega arith) ∙ last-gap es c.in-Some-Gap.field-0.now c.in-Some-Gap.field-0-0 got c.in-Some-Gap.field-0-is

pub returns-in-Some-Clip : goal.returns-in-Some-Clip
returns-in-Some-Clip c =
    let got = rw c.deref.ensures.value at c.in-Some-Clip.ensures.value in
    last-clip c.args.entries.now.items c.in-Some-Clip.field-0.now c.in-Some-Clip.field-0-0 c.in-Some-Clip.field-0-1 c.in-Some-Clip.field-0-2 got c.in-Some-Clip.field-0-is
