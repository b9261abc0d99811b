use Rattle.std.proofs.Common.{◌≡◌, ◌+◌, ◌-◌, ◌<◌, min, arith, ap, ◌∙◌}
use Rattle.std.proofs.lemmas.List.{get_or_read}
use Rattle.mlt_tree.specs.declared.entry.Entry.TheVariants.{Gap}
use Rattle.mlt_tree.specs.Ranges.{frames}
use Rattle.mlt_playlist.specs.Place.{entry_at}
use Rattle.mlt_playlist.proofs.PartStarts.{cut-are, cut-given, cut-left}
use Rattle.mlt_playlist.proofs.regions.cut_starts.Goals as goal
use Rattle.mlt_playlist.proofs.regions.cut_starts.Goals.{then-last-gt0, else-last-gt0}

pub exchange_starts-requires-clause-short : goal.exchange_starts-requires-clause-short
exchange_starts-requires-clause-short c =
    let es = c.args.entries.now in
    let behind : c.if-last-gt0.behind ≡ c.args.to + min c.args.last 1 = elim c.if-last-gt0.branch [ then-last-gt0 w ↦ omega (arith, w.behind-is) | else-last-gt0 w ↦ omega (arith, w.behind-is) ] in
    let left : 0 < c.args.last → c.if-last-gt0.left ≡ frames (entry_at es c.args.to) - c.args.last = λ some. elim c.if-last-gt0.branch [
      | then-last-gt0 w ↦ w.left-is ∙ ap (λ n. n - c.args.last) (w.frames_of.ensures.value ∙ ap frames (get_or_read es c.args.to w.index-entries-to.result (c.requires.there some) w.index-entries-to.is (Gap 0)))
      | else-last-gt0 w ↦ absurd (omega (arith, some, w.if-last-gt0.false))
    ] in
    let given = cut-given (entry_at es c.args.from) (entry_at es c.args.to) c.args.first c.args.last c.if-last-gt0.left c.from.result c.from-2.result left c.requires.rest c.from.ensures c.from-2.ensures in
    (cut-are es c.args.starts.now _ c.args.from c.args.first c.args.to c.args.last c.if-last-gt0.behind c.requires.indexed c.requires.order c.requires.within c.requires.there c.requires.before c.requires.rest behind c.requires.short given).short

pub returns : goal.returns
returns c =
    let es = c.args.entries.now in
    let behind : c.if-last-gt0.behind ≡ c.args.to + min c.args.last 1 = elim c.if-last-gt0.branch [ then-last-gt0 w ↦ omega (arith, w.behind-is) | else-last-gt0 w ↦ omega (arith, w.behind-is) ] in
    let left : 0 < c.args.last → c.if-last-gt0.left ≡ frames (entry_at es c.args.to) - c.args.last = λ some. elim c.if-last-gt0.branch [
      | then-last-gt0 w ↦ w.left-is ∙ ap (λ n. n - c.args.last) (w.frames_of.ensures.value ∙ ap frames (get_or_read es c.args.to w.index-entries-to.result (c.requires.there some) w.index-entries-to.is (Gap 0)))
      | else-last-gt0 w ↦ absurd (omega (arith, some, w.if-last-gt0.false))
    ] in
    let given = cut-given (entry_at es c.args.from) (entry_at es c.args.to) c.args.first c.args.last c.if-last-gt0.left c.from.result c.from-2.result left c.requires.rest c.from.ensures c.from-2.ensures in
    cut-left es c.args.starts.now _ c.args.from c.args.first c.args.to c.args.last c.if-last-gt0.behind c.requires.indexed c.requires.order c.requires.within c.requires.there c.requires.before c.requires.rest behind c.exchange_starts.new.starts c.requires.short given c.exchange_starts.ensures
