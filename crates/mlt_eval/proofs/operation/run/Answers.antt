use Rattle.std.proofs.Common.{rules, ◌≡◌, ℕ, ◌+◌, ◌*◌, ◌<◌, List, [], ◌∷◌, All, length, get_or, drop, sym, ◌∙◌, subst, arith}
use Rattle.std.proofs.lemmas.List.{drop_more}
use Rattle.mlt_base.specs.ProfileView.{measures_of}
use Rattle.mlt_eval.specs.Registers.{registers}
use Rattle.mlt_frame.specs.declared.op.Op.{Op}
use Rattle.mlt_frame.specs.declared.op.Op.TheVariants.{Load}
use Rattle.mlt_frame.specs.Fits.{FitsRegisters, after}
use Rattle.mlt_frame.specs.Loads.{load, loads, map, maps}
use Rattle.mlt_frame.specs.Registers.{regs}
use Rattle.mlt_tree.specs.Show.{pixels_of, pictures_of}
use Rattle.mlt_eval.proofs.Stepped.{done_one, fits_within, front_in, back_in}
use Rattle.mlt_eval.proofs.operation.run.Goals as goal

-- an operation that a list without one at a place gives
abbrev none : Op
none = Load (record { 0 = 0 }) (record { 0 = 0 })

pub apply-count-requires-clause-sources : goal.apply-count-requires-clause-sources
apply-count-requires-clause-sources g c =
    let i = c.loop-op.op-index in let ops = c.args.ops.now in let op = get_or ops i none in let count : ℕ = length c.args.scene.now.table.now in
    let next : drop i ops ≡ op ∷ drop (i + 1) ops = drop_more ops i none (search rules) in
    front_in count (load op) (loads (drop (i + 1) ops)) (subst (λ (l : List Op). All (λ source. source < count) (loads l)) next c.loop-op.invariant.sources)

pub apply-count-requires-clause-maps : goal.apply-count-requires-clause-maps
apply-count-requires-clause-maps g c =
    let i = c.loop-op.op-index in let ops = c.args.ops.now in let op = get_or ops i none in let count : ℕ = length c.args.scene.now.table.now in
    let next : drop i ops ≡ op ∷ drop (i + 1) ops = drop_more ops i none (search rules) in
    front_in count (map op) (maps (drop (i + 1) ops)) (subst (λ (l : List Op). All (λ source. source < count) (maps l)) next c.loop-op.invariant.maps)

pub apply-count-requires-clause-more : goal.apply-count-requires-clause-more
apply-count-requires-clause-more g c =
    let i = c.loop-op.op-index in let ops = c.args.ops.now in let op = get_or ops i none in let k : ℕ = length c.args.blocks.now in
    let next : drop i ops ≡ op ∷ drop (i + 1) ops = drop_more ops i none (search rules) in
    let fits = subst (λ (l : List Op). FitsRegisters k c.loop-op.count l) next c.loop-op.invariant.fits in
    omega (arith, fits_within k (after c.loop-op.count op) (drop (i + 1) ops) fits.2, c.loop-op.auto.blocks)

pub loop-op-preserved : goal.loop-op-preserved
loop-op-preserved g c =
    let i = c.loop-op.op-index in let ops = c.args.ops.now in let op = get_or ops i none in let k : ℕ = length c.args.blocks.now in
    let scene = c.args.scene.now in let profile = measures_of scene.profile.now in let count : ℕ = length scene.table.now in
    let m = pictures_of profile scene.table.now in let rest = drop (i + 1) ops in
    let next : drop i ops ≡ op ∷ drop (i + 1) ops = drop_more ops i none (search rules) in
    let fits = subst (λ (l : List Op). FitsRegisters k c.loop-op.count l) next c.loop-op.invariant.fits in
    let view = registers (pixels_of profile * 4) scene.fitted.now.fits in
    let before = view c.loop-op.blocks c.loop-op.states c.loop-op.count in
    let later = view c.apply-count.new.blocks c.apply-count.new.states c.apply-count.result in
    record {
      blocks = c.apply-count.ensures.blocks;
      there = c.apply-count.ensures.there;
      fits = subst (λ (n : ℕ). FitsRegisters k n rest) (sym c.apply-count.ensures.count) fits.2;
      sources = back_in count (load op) (loads rest) (subst (λ (l : List Op). All (λ source. source < count) (loads l)) next c.loop-op.invariant.sources);
      maps = back_in count (map op) (maps rest) (subst (λ (l : List Op). All (λ source. source < count) (maps l)) next c.loop-op.invariant.maps);
      registers = done_one m before later (regs m [] ops) op (drop i ops) rest next c.apply-count.ensures.registers c.loop-op.invariant.registers;
      still = λ all. c.apply-count.ensures.still (all i none (search rules)) ∙ c.loop-op.invariant.still all;
    }
