use Rattle.std.proofs.Common.{◌≡◌, length, All, sym, ap, subst, ◌∙◌, arith}
use Rattle.mlt_tree.specs.Edits.{frames_in, replaced}
use Rattle.mlt_tree.specs.Ranges.{IsEntry}
use Rattle.mlt_playlist.proofs.Indexed.{indexed-either}
use Rattle.mlt_playlist.proofs.playlist.Playlist.splice.Goals as goal

pub invariant_of-self : goal.invariant_of-self
invariant_of-self c =
    let es = c.self.inside.entries.items in let new = c.into_vec-new.result.items in
    let same : replaced es c.args.at c.args.n new ≡ replaced c.args.self.now c.args.at c.args.n c.args.new = ap (λ l. replaced l c.args.at c.args.n new) c.self.view_is ∙ ap (replaced c.args.self.now c.args.at c.args.n) c.into_vec-new.ensures in
    indexed-either c.trade.result es c.trade.new.entries.items new c.self.inside.starts c.trade.new.starts c.args.at c.args.n c.self.invariant (subst (All IsEntry) (sym c.into_vec-new.ensures) c.requires.entries) (omega (arith, ap length same, c.requires.few)) (omega (arith, ap frames_in same, c.requires.short)) c.trade.ensures.entries c.trade.ensures.starts c.trade.ensures.same c.trade.ensures.same_starts
