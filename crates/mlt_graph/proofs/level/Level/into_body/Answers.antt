use Rattle.std.proofs.Common.{◌≡◌, map, fold, max, sym, ap, ◌∙◌}
use Rattle.std.proofs.lemmas.List.{map-id}
use Rattle.std.proofs.lemmas.Iterator.Adapters.{YieldsList-from_vec}
use Rattle.std.proofs.lemmas.Iterator.Consumers.{YieldsList-end}
use Rattle.mlt_tree.specs.declared.draft.Draft.{Draft}
use Rattle.mlt_tree.specs.Edits.{frames_in}
use Rattle.mlt_tree.specs.Ranges.{frames}
use Rattle.mlt_tree.specs.Units.{Level, drafts_of, track_of, level_frames, plant_within}
use Rattle.mlt_graph.proofs.Tractors.{body-is, starts-are}
use Rattle.mlt_graph.proofs.level.Level.into_body.Goals as goal

-- the last track is put behind the others
all-tracks : (c : goal.After-from_vec-2) → c.push.new.self.items ≡ drafts_of c.args.self
all-tracks c = c.in_ok-push.ensures.items ∙ ap drafts_of c.self.view_is

-- the loop went over all tracks of the level
all-drafts : (c : goal.After-from_vec-2) → c.loop-draft.yielded ≡ drafts_of c.args.self
all-drafts c =
    let gives = c.into_iter-draft-iterator.ensures.into_iter_gives in
    let all = YieldsList-end (YieldsList-from_vec {s = c.into_iter-draft-iterator.result} c.push.new.self.items gives.0 (gives.1 ∙ c.push.new.self.ok.0)) c.loop-draft.yielded c.loop-draft.draft-iterator c.loop-draft.yielded_by c.next.result c.next.new.self c.in-None.is c.next.ensures.steps in
    sym (map-id c.loop-draft.yielded) ∙ all.0 ∙ all-tracks c

-- the plants are on the frames of the longest track
all-planted : (c : goal.After-from_vec-2) → c.in_ok-plants.plants ≡ map (plant_within (level_frames c.args.self)) c.args.self.plants
all-planted c =
    c.in_ok-plants.ensures
    ∙ ap (λ n. map (plant_within n) c.self.inside.plants) (c.longest.ensures ∙ ap (λ tracks. fold (λ most (track : Draft). max most (frames_in track.entries)) 0 tracks) (c.as_slice.ensures.value ∙ all-tracks c))
    ∙ ap (λ (level : Level). map (plant_within (level_frames c.args.self)) level.plants) c.self.view_is

pub returns-clause-body : goal.returns-clause-body
returns-clause-body c =
    let level = c.args.self in
    let tracks : c.from_vec.result ≡ map track_of (drafts_of level) = c.from_vec.ensures ∙ c.loop-draft.invariant.tracks ∙ ap (map track_of) (all-drafts c) in
    body-is level c.from_vec.result c.in_ok-plants.plants tracks (all-planted c)

pub returns-clause-starts : goal.returns-clause-starts
returns-clause-starts c =
    c.from_vec-2.ensures ∙ c.loop-draft.invariant.starts ∙ ap (map (λ (draft : Draft). map frames draft.entries)) (all-drafts c) ∙ starts-are c.args.self
