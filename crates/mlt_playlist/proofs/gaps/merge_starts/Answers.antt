use Rattle.std.proofs.Common.{◌≡◌, map, take, drop, ◌++◌, ap, ◌∙◌, refl, arith}
use Rattle.mlt_tree.specs.Edits.{gaps_merged}
use Rattle.mlt_tree.specs.Ranges.{frames}
use Rattle.mlt_playlist.proofs.MergedStarts.{merged_none}
use Rattle.mlt_playlist.proofs.gaps.merge_starts.Goals as goal

pub loop-at-init : goal.loop-at-init
loop-at-init c =
    record { within = omega arith; merged = merged_none c.args.entries.now _ c.args.starts.now refl c.requires.starts }

pub returns : goal.returns
returns c =
    let es = c.args.entries.now in
    let start : c.loop-at.at ≡ 0 = omega arith in
    c.loop-at.invariant.merged.starts ∙ ap (λ k. map frames (take k es ++ gaps_merged (drop k es))) start
