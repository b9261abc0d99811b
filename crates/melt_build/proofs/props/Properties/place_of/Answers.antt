use Rattle.std.proofs.Common.{◌≡◌, ◌++◌, IfSome, sym, subst}
use Rattle.mlt_base.specs.Name.{name_of}
use Rattle.mlt_tree.specs.Props.{last_named}
use Rattle.melt_build.specs.Properties.{front_in, behind_front}
use Rattle.melt_build.proofs.Texts.{place_behind, place_in_front}
use Rattle.melt_build.proofs.props.Properties.place_of.Goals as goal

pub returns-in-Some : goal.returns-in-Some
returns-in-Some c =
    place_behind c.args.name.now (front_in c.args.self.now.front) (behind_front c.args.self.now) c.in-Some.prop.now c.in-Some.ensures

pub returns-in-Some-front : goal.returns-in-Some-front
returns-in-Some-front c =
    let front = c.in-Some-front.front in
    subst (λ o. IfSome (last_named c.args.name.now (front_in o ++ behind_front c.args.self.now)) (λ prop. front.place ≡ prop.place)) (sym c.in-Some-front.is) (place_in_front c.args.name.now (record { place = front.place; name = name_of front.name; value = front.value.now }) (behind_front c.args.self.now) c.in-None.ensures)
