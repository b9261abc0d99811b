use Rattle.std.proofs.Common.{ap, sym, ◌∙◌}
use Rattle.std.specs.Option.{option_or}
use Rattle.melt_build.specs.Properties.{front_in, behind_front}
use Rattle.melt_build.specs.Object.{text_in}
use Rattle.melt_build.proofs.Texts.{text_of_both}
use Rattle.melt_build.proofs.props.Properties.text.Goals as goal

pub returns-in-Some : goal.returns-in-Some
returns-in-Some c =
    let front = front_in c.args.self.now.front in let behind = behind_front c.args.self.now in
    ap (λ o. option_or o (text_in c.args.name.now front)) c.in-Some.ensures ∙ sym (text_of_both c.args.name.now front behind)

pub returns-in-None : goal.returns-in-None
returns-in-None c =
    let front = front_in c.args.self.now.front in let behind = behind_front c.args.self.now in
    c.front_text.ensures ∙ ap (λ o. option_or o (text_in c.args.name.now front)) c.in-None.ensures ∙ sym (text_of_both c.args.name.now front behind)
