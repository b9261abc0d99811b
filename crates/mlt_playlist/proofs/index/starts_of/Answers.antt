use Rattle.std.proofs.Common.{◌≤◌, All, sym, ◌∙◌, subst}
use Rattle.mlt_playlist.proofs.Indexed.{some-frames}
use Rattle.mlt_playlist.proofs.index.starts_of.Goals as goal

pub replace-requires-clause-some : goal.replace-requires-clause-some
replace-requires-clause-some c =
    subst (All (λ n. 1 ≤ n)) (sym (c.deref.ensures.value ∙ c.in_ok-frames.ensures)) (some-frames c.args.entries.now c.requires.entries)
