use Rattle.mlt_slice.proofs.Copied.{all_packed}
use Rattle.mlt_slice.proofs.packed.run_packed.Goals as goal

pub returns-clause-rows : goal.returns-clause-rows
returns-clause-rows g c =
    all_packed (g.W.RowByRow.makes c.args.work.now) c.args.row_bytes c.args.src.now (g.P.RowPack.packs c.args.pack.now) c.args.out_bytes c.args.out.now c.run_rows.new.picture c.requires.out.0 c.requires.same c.run_rows.ensures
