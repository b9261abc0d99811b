use Rattle.std.proofs.Common.{◌∙◌, sym, arith}
use Rattle.mlt_playlist.proofs.Merging.{front-both, front-none}
use Rattle.mlt_playlist.proofs.gaps.keep_one.Goals as goal

pub returns-in_default-clause-kept : goal.returns-in_default-clause-kept
returns-in_default-clause-kept c =
    front-none c.args.entries.now c.swap-in_default.new.self c.args.kept c.args.at c.index-entries-kept.result c.index-entries-at.result (omega arith) c.requires.range.0 c.requires.range.1 c.index-entries-kept.is c.index-entries-at.is (sym c.both_gaps.ensures ∙ c.in_default.is) c.swap-in_default.ensures.after

pub returns-clause-kept : goal.returns-clause-kept
returns-clause-kept c =
    front-both c.args.entries.now c.args.kept c.args.at c.index-entries-kept.result c.index-entries-at.result c.in-Some.frames (omega arith) c.requires.range.0 c.requires.range.1 c.index-entries-kept.is c.index-entries-at.is (sym c.both_gaps.ensures ∙ c.in-Some.is)
