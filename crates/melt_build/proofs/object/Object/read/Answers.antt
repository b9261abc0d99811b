use Rattle.std.proofs.Common.{rules, ◌≡◌, ◌+◌, [], ◌∷◌, ◌++◌, length, take, ap, sym, ◌∙◌, subst, Err, arith}
use Rattle.mlt_props.specs.Entries.{text_of}
use Rattle.melt_build.specs.Object.{HoldsTexts}
use Rattle.melt_build.proofs.Texts.{text_more, text_skips, next_of}
use Rattle.melt_build.proofs.object.Object.read.Goals.{in-Ok, in-Err-Fault}
use Rattle.melt_build.proofs.object.Object.read.Goals as goal

pub loop-prop-preserved : goal.loop-prop-preserved
loop-prop-preserved c =
    let i = c.loop-prop.prop-index in let prop = c.prop-item.result in let words = c.args.words.now in
    let next : take (i + 1) words ≡ take i words ++ prop ∷ [] = next_of words i prop (search rules) c.prop-item.is in
    record {
      same = subst (HoldsTexts c.set_text.new.self) (sym next) (elim c.match-set_text.branch [
        | in-Ok w ↦ λ name h. ap (λ texts. text_of texts name) w.in-Ok.ensures.set.entries ∙ rw (c.as_str.ensures, c.as_str-in-loop-prop.ensures) (text_more c.loop-prop.texts (take i words) prop name (c.loop-prop.invariant.same name h))
        | in-Err-Fault w ↦ λ name h. ap (λ texts. text_of texts name) w.in-Err-Fault.ensures.same ∙ c.loop-prop.invariant.same name h ∙ sym (text_skips (take i words) prop name h (ap length (sym c.as_str.ensures) ∙ w.in-Err-Fault.ensures.name.0 (ap Err w.in-Err-Fault.field-0-is)))
      ]);
      few = omega (arith, c.set_text.ensures.grows, c.loop-prop.invariant.few);
    }
