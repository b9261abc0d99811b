use Rattle.std.proofs.Common.{ap, sym, ◌∙◌}
use Rattle.std.specs.Option.{option_or}
use Rattle.melt_build.specs.Object.{text_in}
use Rattle.melt_build.proofs.Texts.{text_of_both}
use Rattle.melt_build.proofs.props.Properties.later_text.Goals as goal

pub returns-in-Some : goal.returns-in-Some
returns-in-Some c =
    let inherited = c.args.self.now.inherited.now.words.now in let own = c.args.self.now.own.now.words.now in
    ap (λ o. option_or o (text_in c.args.name.now inherited)) c.in-Some.ensures ∙ sym (text_of_both c.args.name.now inherited own)

pub returns-in-None : goal.returns-in-None
returns-in-None c =
    let inherited = c.args.self.now.inherited.now.words.now in let own = c.args.self.now.own.now.words.now in
    c.text-in-None.ensures ∙ ap (λ o. option_or o (text_in c.args.name.now inherited)) c.in-None.ensures ∙ sym (text_of_both c.args.name.now inherited own)
