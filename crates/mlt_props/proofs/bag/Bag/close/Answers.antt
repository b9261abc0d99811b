use Rattle.std.proofs.Common.{◌++◌, length, reverse, option_to_list, sym, ap, ◌∙◌, append_assoc, append-nil, arith, length-append}
use Rattle.mlt_props.specs.Entries.{all_owned, as_owned}
use Rattle.mlt_props.specs.Contents.{content, entries_of}
use Rattle.mlt_props.proofs.OwnedLemmas.{all_owned-last, length-option_to_list, none_left}
use Rattle.mlt_props.proofs.bag.Bag.close.Goals as goal

pub loop-name-preserved : goal.loop-name-preserved
loop-name-preserved g c =
    let now = g.B.Bin.ended c.loop-name.bin in
    let owned = as_owned (content c.in-Some.held) in
    let value = option_to_list owned in
    let rest = all_owned (entries_of (reverse c.pop.new.self.entries)) in
    record {
      ended =
          ap (λ all. all ++ rest) c.end.ensures.ended
          ∙ append_assoc now value rest
          ∙ ap (λ left. now ++ left) (sym (all_owned-last c.loop-name.entries.entries c.pop.new.self.entries c.in-Some._name c.in-Some.held c.in-Some.ensures.entries))
          ∙ c.loop-name.invariant.ended;
      places = omega arith;
      room = omega (arith, ap length c.end.ensures.ended, length-append now value, length-option_to_list owned, c.in-Some.ensures.len);
    }

pub returns-clause-ended : goal.returns-clause-ended
returns-clause-ended g c =
    let now = g.B.Bin.ended c.loop-name.bin in
    sym (append-nil now)
    ∙ ap (λ kept. now ++ all_owned (entries_of (reverse kept))) (sym (none_left c.loop-name.entries.entries c.in_default.ensures.found.1))
    ∙ c.loop-name.invariant.ended
