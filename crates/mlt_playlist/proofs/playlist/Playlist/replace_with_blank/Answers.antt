use Rattle.std.proofs.Common.{◌≡◌, ◌<◌, length, set, Ok, ap, subst, ◌∙◌, sym, arith}
use Rattle.mlt_tree.specs.Edits as edit
use Rattle.mlt_tree.specs.Edits.{frames_in}
use Rattle.mlt_playlist.proofs.Changes.{blank_left, replace_done}
use Rattle.mlt_playlist.proofs.playlist.Playlist.replace_with_blank.Goals as goal

pub invariant_of-self : goal.invariant_of-self
invariant_of-self c =
    let es = c.self.inside.entries.items in
    let inside : c.args.at < length es = omega (arith, ap length c.self.view_is) in
    blank_left es c.self.inside.starts c.args.at c.index.result.now c.replace.new.dest c.frames_of-frames.result c.self.invariant inside c.index.ensures c.frames_of-frames.ensures.value c.replace.ensures.after

pub returns : goal.returns
returns c =
    let es = c.self.inside.entries.items in
    let inside : c.args.at < length es = omega (arith, ap length c.self.view_is) in
    let done = replace_done es c.args.at c.index.result.now c.index_mut.result.now c.replace.new.dest c.frames_of-frames.result inside c.index.ensures c.index_mut.ensures.value c.frames_of-frames.ensures.value c.replace.ensures.after in
    subst (λ list. edit.replace_with_blank c.args.at list ≡ Ok (c.replace.result, set es c.args.at c.replace.new.dest)) c.self.view_is (done ∙ ap (λ e. Ok (e, set es c.args.at c.replace.new.dest)) (sym c.replace.ensures.value))
