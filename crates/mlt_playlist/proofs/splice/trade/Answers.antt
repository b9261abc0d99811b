use Rattle.std.proofs.Common.{map, ap, ◌∙◌}
use Rattle.mlt_tree.specs.Ranges.{frames}
use Rattle.mlt_playlist.proofs.Indexed.{numbers_of}
use Rattle.mlt_playlist.proofs.splice.trade.Goals as goal

pub replace-requires-clause-some : goal.replace-requires-clause-some
replace-requires-clause-some c =
    (numbers_of c.args.entries.now.items c.args.starts.now c.args.at c.args.n c.args.new.now.items c.deref-2.result.now c.requires.indexed.starts c.requires.range c.requires.new c.requires.short (c.deref-2.ensures.value ∙ c.in_ok-frames.ensures ∙ ap (map frames) c.deref.ensures.value)).some

pub replace-requires-clause-short : goal.replace-requires-clause-short
replace-requires-clause-short c =
    (numbers_of c.args.entries.now.items c.args.starts.now c.args.at c.args.n c.args.new.now.items c.deref-2.result.now c.requires.indexed.starts c.requires.range c.requires.new c.requires.short (c.deref-2.ensures.value ∙ c.in_ok-frames.ensures ∙ ap (map frames) c.deref.ensures.value)).short

pub returns-clause-starts : goal.returns-clause-starts
returns-clause-starts c =
    c.in_ok-replace.ensures.list ∙ (numbers_of c.args.entries.now.items c.args.starts.now c.args.at c.args.n c.args.new.now.items c.deref-2.result.now c.requires.indexed.starts c.requires.range c.requires.new c.requires.short (c.deref-2.ensures.value ∙ c.in_ok-frames.ensures ∙ ap (map frames) c.deref.ensures.value)).are
