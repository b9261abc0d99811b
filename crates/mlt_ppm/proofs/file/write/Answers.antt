use Rattle.std.proofs.Common.{◌≡◌, ℕ, ◌*◌, ◌<◌, List, length, get_or, ap, subst, ◌∙◌, arith, rules}
use Rattle.mlt_base.specs.Still.{IsPicture}
use Rattle.mlt_base.specs.Ppm.{ppm}
use Rattle.mlt_ppm.specs.Written.{ppm_text}
use Rattle.mlt_ppm.proofs.Again.{read_back}
use Rattle.mlt_ppm.proofs.file.write.Goals as goal

pub returns-clause-read_back : goal.returns-clause-read_back
returns-clause-read_back c opaque =
    let p = c.args.still.now in
    let is : IsPicture p = record {
      width_from = omega (arith, c.width.ensures.value, c.width.ensures.least);
      width_to = omega (arith, c.width.ensures.value, c.width.ensures.most);
      height_from = omega (arith, c.height.ensures.value, c.height.ensures.least);
      height_to = omega (arith, c.height.ensures.value, c.height.ensures.most);
      sized = subst (λ (xs : List ℕ). length xs ≡ p.width * p.height * 4) c.pixels-pixels.ensures.value c.pixels-pixels.ensures.sized;
    } in
    let small : (k : ℕ) → get_or p.pixels k 0 < 256 = subst (λ (xs : List ℕ). (k : ℕ) → get_or xs k 0 < 256) c.pixels-pixels.ensures.value c.write_colours.ensures.bytes in
    let file : c.write_colours.new.file.items ≡ ppm_text p = search rules in
    ap ppm file ∙ read_back p is small opaque
