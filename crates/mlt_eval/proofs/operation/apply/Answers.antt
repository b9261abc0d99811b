use Rattle.std.proofs.Common.{ℕ, ◌*◌, ◌<◌, length, set, arith}
use Rattle.mlt_base.specs.ProfileView.{measures_of}
use Rattle.mlt_eval.specs.declared.register.Register.TheVariants.{Nothing}
use Rattle.mlt_eval.specs.Registers.{register}
use Rattle.mlt_tree.specs.Show.{pixels_of, pictures_of}
use Rattle.mlt_eval.proofs.Stepped.{loaded, absent, filtered, merged, kept, put_state}
use Rattle.mlt_eval.proofs.operation.apply.Goals as goal

pub returns-in-Load-clause-registers : goal.returns-in-Load-clause-registers
returns-in-Load-clause-registers g c =
    let scene = c.args.scene.now in let profile = measures_of scene.profile.now in
    let view = register (pixels_of profile * 4) scene.fitted.now.fits in
    loaded (pictures_of profile scene.table.now) (view c.args.blocks.now c.args.states.now) (view c.load.new.blocks c.load.new.states) c.args.count c.args.op.now
    c.in-Load.source c.in-Load.at c.in-Load.is c.load.ensures.put

pub returns-in-Absent-clause-registers : goal.returns-in-Absent-clause-registers
returns-in-Absent-clause-registers g c =
    let scene = c.args.scene.now in let profile = measures_of scene.profile.now in let count = c.args.count in let states = c.args.states.now in
    let view = register (pixels_of profile * 4) scene.fitted.now.fits c.args.blocks.now in
    let room = rw c.in-Absent.is at c.requires.more in let inside : count < length states = omega (arith, room, c.requires.blocks.long) in
    absent (pictures_of profile scene.table.now) (view states) (view (set states count Nothing)) count c.args.op.now
    c.in-Absent.is (put_state (pixels_of profile * 4) scene.fitted.now.fits c.args.blocks.now states count Nothing inside)

pub returns-in-Filter-clause-registers : goal.returns-in-Filter-clause-registers
returns-in-Filter-clause-registers g c =
    let scene = c.args.scene.now in let profile = measures_of scene.profile.now in
    let view = register (pixels_of profile * 4) scene.fitted.now.fits in
    filtered (pictures_of profile scene.table.now) (view c.args.blocks.now c.args.states.now) (view c.filter.new.blocks c.filter.new.states) c.args.count c.args.op.now
    c.in-Filter.depth c.in-Filter.step c.in-Filter.is (rw c.in-Filter.is at c.requires.finds) c.filter.ensures.put

pub returns-in-Merge-clause-registers : goal.returns-in-Merge-clause-registers
returns-in-Merge-clause-registers g c =
    let scene = c.args.scene.now in let profile = measures_of scene.profile.now in
    let view = register (pixels_of profile * 4) scene.fitted.now.fits in
    merged (pictures_of profile scene.table.now) (view c.args.blocks.now c.args.states.now) (view c.merge.new.blocks c.merge.new.states) c.args.count c.args.op.now
    c.in-Merge.a c.in-Merge.b c.in-Merge.step c.in-Merge.is (rw c.in-Merge.is at c.requires.finds) c.merge.ensures.merged

pub returns-in-Keep-clause-there : goal.returns-in-Keep-clause-there
returns-in-Keep-clause-there g c = c.keep.ensures.there (length c.args.scene.now.fitted.now.fits) c.requires.there

pub returns-in-Keep-clause-registers : goal.returns-in-Keep-clause-registers
returns-in-Keep-clause-registers g c =
    let scene = c.args.scene.now in let profile = measures_of scene.profile.now in
    let bytes : ℕ = pixels_of profile * 4 in let fits = scene.fitted.now.fits in
    let view = register bytes fits in
    kept (pictures_of profile scene.table.now) (view c.args.blocks.now c.args.states.now) (view c.keep.new.blocks c.keep.new.states) c.args.count c.args.op.now
    c.in-Keep.row c.in-Keep.over c.in-Keep.is (rw c.in-Keep.is at c.requires.finds) (c.keep.ensures.kept bytes fits) (c.keep.ensures.below bytes fits)
