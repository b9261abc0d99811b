use Rattle.std.proofs.Common.{Err, ap, sym, ◌∙◌}
use Rattle.std.proofs.lemmas.Result.{err_from_is_err_and}
use Rattle.std.specs.Option.{option_copied}
use Rattle.mlt_base.specs.ProfileView.{measures_of}
use Rattle.mlt_tree.specs.declared.group.GroupKind.TheVariants as kind
use Rattle.mlt_tree.specs.Composition.{profile_read}
use Rattle.mlt_tree.specs.Table.{of_kind}
use Rattle.melt_build.proofs.Named.{none_named, one_named, two_named, named_fails, profile_is}
use Rattle.melt_build.proofs.composition.profile_named.Goals as goal

pub returns-in_default : goal.returns-in_default
returns-in_default c =
    let gs = c.args.groups.now in
    profile_is gs ∙ none_named profile_read (of_kind kind.Profile gs) (ap option_copied (sym c.in_default.is) ∙ c.first_two.ensures.first)

pub returns-in_err-profile : goal.returns-in_err-profile
returns-in_err-profile c =
    let gs = c.args.groups.now in
    let p = err_from_is_err_and c.from_residual.result c.from_residual.ensures.1 in
    rw (p.1, p.2) (profile_is gs ∙ named_fails profile_read (of_kind kind.Profile gs) c.in-Some.first.now _ c.in_err-profile.field-0.0 (ap option_copied (sym c.in-Some.is) ∙ c.first_two.ensures.first) c.first_two.ensures.second c.in_err-profile.ensures)

pub returns-in-None : goal.returns-in-None
returns-in-None c =
    let gs = c.args.groups.now in
    profile_is gs ∙ one_named profile_read (of_kind kind.Profile gs) c.in-Some.first.now (measures_of c.in_ok-profile.profile) (ap option_copied (sym c.in-Some.is) ∙ c.first_two.ensures.first) (ap option_copied (sym c.in-None.is) ∙ c.first_two.ensures.second) c.in_ok-profile.ensures

pub returns-in-Some-second : goal.returns-in-Some-second
returns-in-Some-second c =
    let gs = c.args.groups.now in
    profile_is gs ∙ two_named profile_read (of_kind kind.Profile gs) c.in-Some.first.now c.in-Some-second.second.now (measures_of c.in_ok-profile.profile) (ap option_copied (sym c.in-Some.is) ∙ c.first_two.ensures.first) (ap option_copied (sym c.in-Some-second.is) ∙ c.first_two.ensures.second) c.in_ok-profile.ensures ∙ ap Err (sym c.at.ensures)
