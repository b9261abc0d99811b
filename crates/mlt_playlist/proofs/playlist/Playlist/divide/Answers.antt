use Rattle.std.proofs.Common.{option_to_list, map, sym, ap, subst, rules, ◌∙◌}
use Rattle.mlt_tree.specs.Ranges.{frames}
use Rattle.mlt_playlist.specs.Playlist.{IsList}
use Rattle.mlt_playlist.proofs.Sizes.{divided-list}
use Rattle.mlt_playlist.proofs.playlist.Playlist.divide.Goals as goal

pub cut_in_two-requires-clause-list : goal.cut_in_two-requires-clause-list
cut_in_two-requires-clause-list c =
    divided-list c.self.inside.entries.items c.args.at c.args.place c.args.from (option_to_list c.args.between) c.in_ok-fits.field-0 c.self.invariant.list.entries (search rules) (search rules) c.requires.between (rw c.deref.ensures.value at c.in_ok-fits.ensures.tested)

pub invariant_of-self-2 : goal.invariant_of-self-2
invariant_of-self-2 c =
    let list = divided-list c.self.inside.entries.items c.args.at c.args.place c.args.from (option_to_list c.args.between) c.in_ok-fits.field-0 c.self.invariant.list.entries (search rules) (search rules) c.requires.between (rw c.deref.ensures.value at c.in_ok-fits.ensures.tested) in
    record {
      list = subst IsList (sym c.in_ok-cut_in_two.ensures.divided) list;
      starts = c.in_ok-cut_in_two.ensures.starts ∙ ap (map frames) (sym c.in_ok-cut_in_two.ensures.divided);
    }
