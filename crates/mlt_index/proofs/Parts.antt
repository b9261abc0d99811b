-- Ends that are written in one part and moved in the part behind it.
use Rattle.std.proofs.Common.{◌≡◌, ℕ, ◌+◌, ◌-◌, ◌≤◌, List, [], ◌++◌, length, take, drop, map, sum, ap, ◌∙◌, append_assoc, arith}
use borrow.Rule.Slice.PartMut.{put_mid}
use Rattle.std.proofs.lemmas.List.{append-nil, drop_all, length-drop, take_rest}
use Rattle.std.proofs.lemmas.Slice.{drop-put_mid, take-put_mid}
use Rattle.mlt_index.specs.Ends.{moved, rewritten}
use Rattle.mlt_index.specs.Starts.{ends_of}
use Rattle.mlt_index.proofs.EndsOf.{length-ends}

-- the part behind stays as it was while the one before it is written
pub part_behind : (es ws frames : List ℕ) (at start : ℕ) → at + length frames ≤ length es → ws ≡ ends_of start frames
    → drop (at + length frames) (put_mid at (at + length frames - at) es ws) ≡ drop (at + length frames) es
part_behind es ws frames at start inside written =
    drop-put_mid at (at + length frames - at) es ws (at + length frames) (omega arith) (omega arith) (omega (arith, ap length written, length-ends start frames))

-- both parts
pub both_parts : (es ws zs frames : List ℕ) (at start behind end : ℕ) → at + length frames ≤ length es → ws ≡ ends_of start frames → end ≡ start + sum frames
    → zs ≡ map (moved behind end) (take (length (put_mid at (at + length frames - at) es ws) - (at + length frames)) (drop (at + length frames) (put_mid at (at + length frames - at) es ws)))
    → put_mid (at + length frames) (length (put_mid at (at + length frames - at) es ws) - (at + length frames)) (put_mid at (at + length frames - at) es ws) zs
    ≡ rewritten es at start frames behind
both_parts es ws zs frames at start behind end inside written end_is moved_is =
    let many : length ws ≡ length frames = omega (arith, ap length written, length-ends start frames) in
    let first = take-put_mid at (at + length frames - at) es ws (at + length frames) (omega arith) (omega arith) in
    by (put_mid at (at + length frames - at) es ws) first (part_behind es ws frames at start inside written) moved_is
  where
    by : (xs : List ℕ) → take (at + length frames) xs ≡ take at es ++ ws → drop (at + length frames) xs ≡ drop (at + length frames) es
        → zs ≡ map (moved behind end) (take (length xs - (at + length frames)) (drop (at + length frames) xs))
        → put_mid (at + length frames) (length xs - (at + length frames)) xs zs ≡ rewritten es at start frames behind
    by xs front last is =
        let none : drop (length xs - (at + length frames)) (drop (at + length frames) xs) ≡ [] = drop_all (length xs - (at + length frames)) (drop (at + length frames) xs) (omega (arith, length-drop (at + length frames) xs)) in
        let behind_is : zs ≡ map (moved behind (start + sum frames)) (drop (at + length frames) es) =
        is ∙ ap (map (moved behind end)) (take_rest xs (at + length frames) ∙ last) ∙ ap (λ e. map (moved behind e) (drop (at + length frames) es)) end_is in
        ap (λ l. take (at + length frames) xs ++ (zs ++ l)) none ∙ ap (λ l. take (at + length frames) xs ++ l) (append-nil zs ∙ behind_is) ∙ ap (λ l. l ++ map (moved behind (start + sum frames)) (drop (at + length frames) es)) (front ∙ ap (λ l. take at es ++ l) written)
        ∙ append_assoc (take at es) (ends_of start frames) (map (moved behind (start + sum frames)) (drop (at + length frames) es))
