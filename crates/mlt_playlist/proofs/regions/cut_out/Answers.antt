use Rattle.std.proofs.Common.{◌<◌, subst, sym, arith}
use Rattle.mlt_tree.specs.Ranges.{frames}
use Rattle.mlt_playlist.proofs.CutOut.{entry_behind, cut_out-is}
use Rattle.mlt_playlist.proofs.regions.cut_out.Goals as goal

pub keep_rest-requires-clause-inside : goal.keep_rest-requires-clause-inside
keep_rest-requires-clause-inside c = λ some.
    let kept = c.keep_before-start in
    subst (λ e. c.args.last < frames e) (sym (entry_behind c.args.entries.now.items kept.new.entries.items kept.result c.args.to kept.ensures.last (omega (arith, kept.ensures.index)))) (c.requires.rest some)

pub keep_rest-requires-clause-short : goal.keep_rest-requires-clause-short
keep_rest-requires-clause-short c = λ some.
    let kept = c.keep_before-start in
    subst (λ e. frames e < 4294967296) (sym (entry_behind c.args.entries.now.items kept.new.entries.items kept.result c.args.to kept.ensures.last (omega (arith, kept.ensures.index)))) (c.requires.short some)

pub returns : goal.returns
returns c =
    let kept = c.keep_before-start in
    cut_out-is c.args.entries.now.items kept.new.entries.items c.keep_rest.new.entries.items c.erase.new.entries.items c.args.from c.args.first c.args.to c.args.last kept.result (omega (arith, kept.ensures.index)) kept.ensures.first kept.ensures.last c.keep_rest.ensures.first c.keep_rest.ensures.last c.erase.ensures
