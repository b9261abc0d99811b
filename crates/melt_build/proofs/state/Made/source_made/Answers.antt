use Rattle.std.proofs.Common.{◌++◌, [], ◌∷◌, sym, subst}
use Rattle.mlt_source.specs.Sources.{source_of}
use Rattle.melt_build.specs.State.{FitsUnits}
use Rattle.melt_build.proofs.Sourced.{source_fits}
use Rattle.melt_build.proofs.state.Made.source_made.Goals as goal

pub returns-clause-made : goal.returns-clause-made
returns-clause-made c =
    let made = c.args.self.now in let no = c.in_ok-no.no in
    let kind = c.kind-kind.result in let frames = c.length_by-frames.result in
    let table = made.table ++ source_of c.args.source ∷ [] in
    record {
      few = c.requires.few;
      fits = subst (λ t. FitsUnits t c.add_source.new.self) (sym c.in_ok-no.ensures.added) (subst (FitsUnits table) (sym c.in_ok-unit.ensures.ok) (source_fits made.table made.graph (source_of c.args.source) no kind frames c.in_ok-no.ensures.number c.kind-kind.ensures c.requires.fits));
    }
