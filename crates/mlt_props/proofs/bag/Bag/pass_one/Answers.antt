use Rattle.std.proofs.Common.{◌≡◌, ◌∙◌, length, None, true, option_to_list, sym, ap, arith, length-append}
use Rattle.mlt_props.specs.Entries.{is_passed, as_owned, owned_of, all_owned}
use Rattle.mlt_props.specs.Contents.{content}
use Rattle.mlt_props.proofs.PassLemmas.{length-owned_of, length-all_owned-set_at, passed_unowned}
use Rattle.mlt_props.proofs.bag.Bag.pass_one.Goals as goal

pub set_unowned-requires-clause-room : goal.set_unowned-requires-clause-room
set_unowned-requires-clause-room g c = omega (arith, length-owned_of c.args.self.now c.args.name.now)

pub returns-clause-room : goal.returns-clause-room
returns-clause-room g c =
    let set = c.in_ok-set_unowned.ensures.set in
    let before = option_to_list (owned_of c.args.self.now c.args.name.now) in
    let passes : is_passed c.args.prefix.now (c.args.name.now, content c.args.value.now) ≡ true = sym c.is_passed.ensures ∙ c.if-not-is_passed.false in
    let unowned : as_owned (content c.in_ok-copy.copy) ≡ None = ap as_owned c.in_ok-copy.ensures ∙ passed_unowned c.args.prefix.now (c.args.name.now, content c.args.value.now) passes in
    omega (
      arith,
      c.in_ok-set_unowned.ensures.places,
      ap length set.ended,
      length-append (g.B.Bin.ended c.args.bin.now) before,
      ap (λ es. length (all_owned es)) set.entries,
      length-all_owned-set_at c.args.self.now c.args.name.now (content c.in_ok-copy.copy) unowned,
    )
