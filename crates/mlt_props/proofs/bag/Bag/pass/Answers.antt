use Rattle.std.proofs.Common.{◌≡◌, ◌∙◌, length, [], ◌∷◌, string_bytes, ap, subst, arith}
use Rattle.std.proofs.lemmas.Result.{err_from_is_err_and}
use Rattle.mlt_props.specs.Entries.{SetsAll, passed}
use Rattle.mlt_props.specs.Contents.{content, entries_of}
use Rattle.mlt_props.proofs.EntryLemmas.{length-entries_of}
use Rattle.mlt_props.proofs.PassLemmas.{SetsUntil, length-all_owned, until_start, until_more, until_some}
use Rattle.mlt_props.proofs.bag.Bag.pass.Goals as goal

pub loop-name-init : goal.loop-name-init
loop-name-init g c =
    let self = c.args.self.now in
    let bin = g.B.Bin.ended c.args.bin.now in
    let kept = entries_of c.into_iter-name-iterator.result in
    let all : kept ≡ c.args.from.now = ap entries_of c.into_iter-name-iterator.ensures.into_iter_gives.0 ∙ c.from.view_is in
    record {
      sets = subst (λ from. SetsUntil (passed c.args.prefix.now from) (passed c.args.prefix.now kept) self self bin bin) all (until_start (passed c.args.prefix.now kept) self bin);
      places = omega arith;
      room = omega arith;
      grows = omega (arith, ap length all, length-entries_of c.into_iter-name-iterator.result);
    }

pub pass_one-requires : goal.pass_one-requires
pass_one-requires g c = omega (arith, length-all_owned c.args.self.now)

pub loop-name-preserved : goal.loop-name-preserved
loop-name-preserved g c =
    let prefix = c.args.prefix.now in
    let all = passed prefix c.args.from.now in
    let value = content c.in-Some.value.now in
    let old = c.args.self.now in
    let mid = c.loop-name.self in
    let new = c.pass_one.new.self in
    let bin = g.B.Bin.ended c.args.bin.now in
    let bin' = g.B.Bin.ended c.loop-name.bin in
    let bin'' = g.B.Bin.ended c.pass_one.new.bin in
    let rest = entries_of c.next.new.self in
    let name = string_bytes c.in-Some.name.now in
    let before : SetsUntil all (passed prefix ((name, value) ∷ rest)) old mid bin bin' =
    subst (λ kept. SetsUntil all (passed prefix (entries_of kept)) old mid bin bin') c.in-Some.ensures.steps c.loop-name.invariant.sets in
    let one : SetsAll (passed prefix ((name, value) ∷ [])) mid new bin' bin'' =
    subst (λ spelt. SetsAll (passed prefix ((spelt, value) ∷ [])) mid new bin' bin'') c.as_str.ensures.value c.in_ok-pass_one.ensures.set in
    record {
      sets = until_more prefix (name, value) rest all old mid new bin bin' bin'' before one;
      places = omega arith;
      room = omega (arith, c.in_ok-pass_one.ensures.room);
      grows = omega (arith, c.in_ok-pass_one.ensures.grows, ap length c.in-Some.ensures.steps);
    }

pub returns-in_err-pass_one-clause-some : goal.returns-in_err-pass_one-clause-some
returns-in_err-pass_one-clause-some g c =
    let p = err_from_is_err_and c.from_residual.result c.from_residual.ensures.1 in
    let all = passed c.args.prefix.now c.args.from.now in
    let rest = passed c.args.prefix.now (entries_of c.loop-name.name-iterator) in
    rw p.1
    (until_some all rest c.args.self.now c.loop-name.self c.pass_one.new.self (g.B.Bin.ended c.args.bin.now) (g.B.Bin.ended c.loop-name.bin) (g.B.Bin.ended c.pass_one.new.bin)
    c.loop-name.invariant.sets c.in_err-pass_one.ensures.same c.in_err-pass_one.ensures.bin_same)

pub returns-in_err-pass_one-clause-room : goal.returns-in_err-pass_one-clause-room
returns-in_err-pass_one-clause-room g c = omega (arith, length-all_owned c.args.self.now)

pub returns-clause-room : goal.returns-clause-room
returns-clause-room g c = omega (arith, length-all_owned c.args.self.now)
