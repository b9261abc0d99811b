use Rattle.std.proofs.Common.{option_to_list, ◌∙◌}
use Rattle.std.proofs.lemmas.List.{get_or_read}
use Rattle.mlt_tree.specs.declared.entry.Entry.TheVariants.{Gap}
use Rattle.mlt_playlist.specs.Place.{entry_at}
use Rattle.mlt_playlist.proofs.PartStarts.{divided-are, divided-numbers}
use Rattle.mlt_playlist.proofs.divide.cut_in_two.Goals as goal

pub divide_start-requires-clause-short : goal.divide_start-requires-clause-short
divide_start-requires-clause-short c =
    let es = c.args.entries.now.items in let between = option_to_list c.args.between in
    let here = get_or_read es c.args.at c.index-entry.result.now c.requires.there c.index-entry.ensures (Gap 0) in
    let given = divided-numbers (entry_at es c.args.at) c.index-entry.result.now c.args.place c.args.from c.frames_of-frames.result between c.frames_of-frames.ensures.value here c.requires.places.0 c.requires.places.2 in
    (divided-are es c.args.starts.now _ c.args.at c.args.place c.args.from between c.requires.indexed c.requires.there c.requires.places c.requires.between c.requires.list.short given).short

pub returns-clause-starts : goal.returns-clause-starts
returns-clause-starts c =
    let es = c.args.entries.now.items in let between = option_to_list c.args.between in
    let here = get_or_read es c.args.at c.index-entry.result.now c.requires.there c.index-entry.ensures (Gap 0) in
    let given = divided-numbers (entry_at es c.args.at) c.index-entry.result.now c.args.place c.args.from c.frames_of-frames.result between c.frames_of-frames.ensures.value here c.requires.places.0 c.requires.places.2 in
    c.in_ok-divide_start.ensures.ok ∙ (divided-are es c.args.starts.now _ c.args.at c.args.place c.args.from between c.requires.indexed c.requires.there c.requires.places c.requires.between c.requires.list.short given).are
