-- The tree and the depth of a unit among others: both are worked out from those of the units before it.
use Rattle.std.proofs.Common.{◌≡◌, ℕ, suc, ◌+◌, ◌<◌, ◌≤◌, Bool, true, false, cond, eqb, List, [], ◌∷◌, ◌++◌, length, get_or, take, drop, fold, refl, sym, ap, ◌∙◌, arith, length-append, length-take, drop-cons, add-one, append_assoc}
use Rattle.std.proofs.lemmas.List.{get_or_append_left, get_or_push, get_or_past, take-append-drop}
use Rattle.std.proofs.lemmas.List.Sums.{fold-append, fold_push}
use Rattle.std.proofs.lemmas.List.Elements.{recursion_from_All}
use Rattle.std.proofs.lemmas.Bool.Decides.{nat_tests}
use Rattle.std.proofs.lemmas.Grind.{common_steps}
use Rattle.std.specs.List.{All, AllByRecursion}
use Rattle.mlt_tree.specs.declared.entry.Entry.{Entry}
use Rattle.mlt_tree.specs.declared.entry.Entry.TheVariants.{Clip, Gap}
use Rattle.mlt_tree.specs.declared.node.Body.{Body}
use Rattle.mlt_tree.specs.declared.node.Body.TheVariants.{Source, Entries, Tractor}
use Rattle.mlt_tree.specs.declared.node.Node.{Node}
use Rattle.mlt_tree.specs.declared.node.Track.{Track as TrackOf}
use Rattle.mlt_tree.specs.declared.node.Track.TheVariants.{Playlist, Half}
use Rattle.mlt_tree.specs.Tree.{Tree, Blank, Part, Seq, With, Rows, Then, Track}
use Rattle.mlt_tree.specs.Units.{entry_tree, entries_of, hide_of, parts_of, track_tree, tracks_of, body_tree, node_tree, tree_of, entries_depth, tracks_depth, body_depth, depths, depth_of, IsEntryBelow, IsTrackBelow, IsBodyBelow, IsGraph}

-- what is read once one more item is there
get_or-pushed : {X : Type 0} (past : X) (xs : List X) (x : X) (k n : ℕ) → length xs ≡ n → get_or (xs ++ x ∷ []) k past ≡ cond (eqb k n) x (get_or xs k past)
get_or-pushed past xs x k n long = grind (arith, common_steps, nat_tests)

-- something of each unit, made of that of the units before it; a unit that isn't there has `past`
module _ {X : Type 0} (past : X) (make : (ℕ → X) → Node → X) where
  abbrev grown : List X → List Node → List X
  grown so_far us = fold (λ so_far u. so_far ++ make (λ k. get_or so_far k past) u ∷ []) so_far us

  abbrev value_of : List Node → ℕ → X
  value_of us k = get_or (grown [] us) k past

  length-grown : (so_far : List X) (us : List Node) → length (grown so_far us) ≡ length so_far + length us
  length-grown so_far [] = omega arith
  length-grown so_far (u ∷ us) =
      omega (arith, length-grown (so_far ++ make (λ k. get_or so_far k past) u ∷ []) us, length-append so_far (make (λ k. get_or so_far k past) u ∷ []))

  -- what stood there stays
  get_or-grown : (so_far : List X) (us : List Node) (k : ℕ) → k < length so_far → get_or (grown so_far us) k past ≡ get_or so_far k past
  get_or-grown so_far [] k h = refl
  get_or-grown so_far (u ∷ us) k h =
      let more = so_far ++ make (λ k. get_or so_far k past) u ∷ [] in
      get_or-grown more us k (omega (arith, length-append so_far (make (λ k. get_or so_far k past) u ∷ []))) ∙ get_or_append_left so_far _ past k h

  value_of-append : (us vs : List Node) (k : ℕ) → k < length us → value_of (us ++ vs) k ≡ value_of us k
  value_of-append us vs k h =
      ap (λ xs. get_or xs k past) (fold-append _ [] us vs) ∙ get_or-grown (grown [] us) vs k (omega (arith, length-grown [] us))

  value_of-new : (us : List Node) (u : Node) → value_of (us ++ u ∷ []) (length us) ≡ make (value_of us) u
  value_of-new us u =
      ap (λ xs. get_or xs (length us) past) (fold_push _ [] us u)
      ∙ get_or_push (grown [] us) (make (value_of us) u) past (length us) (omega (arith, length-grown [] us))

  value_of-past : (us : List Node) (k : ℕ) → length us ≤ k → value_of us k ≡ past
  value_of-past us k h = get_or_past (grown [] us) k past (omega (arith, length-grown [] us))

  -- a list with an element in its middle
  around : (us : List Node) (k : ℕ) (u : Node) → k < length us → u ≡ get_or us k u → us ≡ (take k us ++ u ∷ []) ++ drop (k + 1) us
  around us k u h at =
      sym (take-append-drop k us)
      ∙ ap (λ rest. take k us ++ rest) (rw (add-one) (drop-cons us k u h ∙ ap (λ x. x ∷ drop (suc k) us) (sym at)))
      ∙ sym (append_assoc (take k us) (u ∷ []) (drop (k + 1) us))

  value_of-take : (us : List Node) (k j : ℕ) → k ≤ length us → j < k → value_of (take k us) j ≡ value_of us j
  value_of-take us k j h below =
      sym (ap (λ all. value_of all j) (sym (take-append-drop k us)) ∙ value_of-append (take k us) (drop k us) j (omega (arith, length-take k us)))

  value_of-step : (us : List Node) (k : ℕ) (u : Node) → k < length us → u ≡ get_or us k u
      → (((j : ℕ) → j < k → value_of (take k us) j ≡ value_of us j) → make (value_of (take k us)) u ≡ make (value_of us) u)
      → value_of us k ≡ make (value_of us) u
  value_of-step us k u h at agree =
      let long : length (take k us) ≡ k = omega (arith, length-take k us) in
      ap (λ all. value_of all k) (around us k u h at)
      ∙ value_of-append (take k us ++ u ∷ []) (drop (k + 1) us) k (omega (arith, length-append (take k us) (u ∷ [])))
      ∙ ap (value_of (take k us ++ u ∷ [])) (sym long)
      ∙ value_of-new (take k us) u
      ∙ agree (λ j below. value_of-take us k j (omega arith) below)

-- what holds of the values of lower units, and so of those of each unit that is made of them, holds of all
module _ {X Y : Type 0} (past : X) (make : (ℕ → X) → Node → X) (past' : Y) (make' : (ℕ → Y) → Node → Y) (Fits : Node → Type 0) (R : X → Y → Type 0) where
  R-cond : (t : Bool) (x x' : X) (y y' : Y) → R x y → R x' y' → R (cond t x x') (cond t y y')
  R-cond true x x' y y' r r' = r
  R-cond false x x' y y' r r' = r'

  R-pushed : (xs : List X) (ys : List Y) (x : X) (y : Y) → length xs ≡ length ys → ((k : ℕ) → R (get_or xs k past) (get_or ys k past')) → R x y
      → (k : ℕ) → R (get_or (xs ++ x ∷ []) k past) (get_or (ys ++ y ∷ []) k past')
  R-pushed xs ys x y long all new k =
      rw (get_or-pushed past xs x k (length xs) refl, get_or-pushed past' ys y k (length xs) (sym long))
      (R-cond (eqb k (length xs)) x (get_or xs k past) y (get_or ys k past') new (all k))

  pub R-grown : (us : List Node) → AllByRecursion Fits us
      → ((f : ℕ → X) (g : ℕ → Y) (u : Node) → Fits u → ((k : ℕ) → R (f k) (g k)) → R (make f u) (make' g u))
      → (xs : List X) (ys : List Y) → length xs ≡ length ys → ((k : ℕ) → R (get_or xs k past) (get_or ys k past'))
      → (k : ℕ) → R (get_or (grown past make xs us) k past) (get_or (grown past' make' ys us) k past')
  R-grown [] fits step xs ys long all = all
  R-grown (u ∷ us) fits step xs ys long all =
      let x = make (λ k. get_or xs k past) u in
      let y = make' (λ k. get_or ys k past') u in
      R-grown us fits.1 step (xs ++ x ∷ []) (ys ++ y ∷ []) (omega (arith, length-append xs (x ∷ []), length-append ys (y ∷ [])))
      (R-pushed xs ys x y long all (step (λ k. get_or xs k past) (λ k. get_or ys k past') u fits.0 all))

-- the functions agree below a number
abbrev pub Agree : {X : Type 0} → (count : ℕ) (f g : ℕ → X) → Type 0
Agree count f g = (k : ℕ) → k < count → f k ≡ g k

module _ (count : ℕ) (f g : ℕ → Tree) (agree : Agree count f g) where
  entry_tree-agree : (e : Entry) → IsEntryBelow count e → entry_tree f e ≡ entry_tree g e
  entry_tree-agree (Clip unit span filters) below = ap (λ t. Part (With t filters) span.first.0 span.last.0) (agree unit.0 below)
  entry_tree-agree (Gap frames) below = refl

  parts_of-agree : (es : List Entry) → AllByRecursion (IsEntryBelow count) es → parts_of f es ≡ parts_of g es
  parts_of-agree [] below = refl
  parts_of-agree (e ∷ es) below =
      ap (λ t. Then t (parts_of f es)) (entry_tree-agree e below.0) ∙ ap (Then (entry_tree g e)) (parts_of-agree es below.1)

  track_tree-agree : (track : TrackOf) → IsTrackBelow count track → track_tree f track ≡ track_tree g track
  track_tree-agree (Playlist entries filters hide) below =
      ap (λ parts. With (Seq parts) filters) (parts_of-agree entries (recursion_from_All (IsEntryBelow count) entries below.entries.below))
  track_tree-agree (Half entry frames) below =
      entry_tree-agree entry (recursion_from_All (IsEntryBelow count) (entry ∷ []) below.entries.below).0

  tracks_of-agree : (tracks : List TrackOf) → AllByRecursion (IsTrackBelow count) tracks → tracks_of f tracks ≡ tracks_of g tracks
  tracks_of-agree [] below = refl
  tracks_of-agree (t ∷ ts) below =
      ap (λ tree. Track tree (hide_of t) (tracks_of f ts)) (track_tree-agree t below.0)
      ∙ ap (Track (track_tree g t) (hide_of t)) (tracks_of-agree ts below.1)

  body_tree-agree : (body : Body) → IsBodyBelow count body → body_tree f body ≡ body_tree g body
  body_tree-agree (Source source kind frames) below = refl
  body_tree-agree (Entries entries) below = ap Seq (parts_of-agree entries (recursion_from_All (IsEntryBelow count) entries below.below))
  body_tree-agree (Tractor tracks plants) below =
      ap (λ ts. Rows ts plants) (tracks_of-agree tracks (recursion_from_All (IsTrackBelow count) tracks below.tracks_below))

  -- a unit's tree depends on the trees of lower units alone
  pub node_tree-agree : (u : Node) → IsBodyBelow count u.body → node_tree f u ≡ node_tree g u
  node_tree-agree u below = ap (λ t. With t u.filters) (body_tree-agree u.body below)

module _ (count : ℕ) (f g : ℕ → ℕ) (agree : Agree count f g) where
  entries_depth-agree : (es : List Entry) → AllByRecursion (IsEntryBelow count) es → entries_depth f es ≡ entries_depth g es
  entries_depth-agree [] below = refl
  entries_depth-agree (Clip unit span filters ∷ es) below = omega (arith, agree unit.0 below.0, entries_depth-agree es below.1)
  entries_depth-agree (Gap frames ∷ es) below = entries_depth-agree es below.1

  tracks_depth-agree : (tracks : List TrackOf) → AllByRecursion (IsTrackBelow count) tracks → tracks_depth f tracks ≡ tracks_depth g tracks
  tracks_depth-agree [] below = refl
  tracks_depth-agree (t ∷ ts) below =
      omega (arith, entries_depth-agree (entries_of t) (recursion_from_All (IsEntryBelow count) (entries_of t) below.0.entries.below), tracks_depth-agree ts below.1)

  -- and so does its depth
  pub body_depth-agree : (body : Body) → IsBodyBelow count body → body_depth f body ≡ body_depth g body
  body_depth-agree (Source source kind frames) below = refl
  body_depth-agree (Entries entries) below =
      ap (λ d. d + 1) (entries_depth-agree entries (recursion_from_All (IsEntryBelow count) entries below.below))
  body_depth-agree (Tractor tracks plants) below =
      ap (λ d. d + 1) (tracks_depth-agree tracks (recursion_from_All (IsTrackBelow count) tracks below.tracks_below))

-- ---- the tree of a unit

pub tree_of-append : (us vs : List Node) (k : ℕ) → k < length us → tree_of (us ++ vs) k ≡ tree_of us k
tree_of-append us vs k h = value_of-append (Blank 0) node_tree us vs k h

pub tree_of-new : (us : List Node) (u : Node) → tree_of (us ++ u ∷ []) (length us) ≡ node_tree (tree_of us) u
tree_of-new us u = value_of-new (Blank 0) node_tree us u

pub tree_of-past : (us : List Node) (k : ℕ) → length us ≤ k → tree_of us k ≡ Blank 0
tree_of-past us k h = value_of-past (Blank 0) node_tree us k h

pub tree_of-step : (us : List Node) (k : ℕ) (u : Node) → IsGraph us → k < length us → u ≡ get_or us k u → tree_of us k ≡ node_tree (tree_of us) u
tree_of-step us k u graph h at =
    value_of-step (Blank 0) node_tree us k u h at (λ agree. node_tree-agree k (tree_of (take k us)) (tree_of us) agree u (graph.bodies k u h at))

-- ---- the depth of a unit

abbrev depth_with : (ℕ → ℕ) → Node → ℕ
depth_with depths u = body_depth depths u.body

pub depth_of-append : (us vs : List Node) (k : ℕ) → k < length us → depth_of (us ++ vs) k ≡ depth_of us k
depth_of-append us vs k h = value_of-append 0 depth_with us vs k h

pub depth_of-new : (us : List Node) (u : Node) → depth_of (us ++ u ∷ []) (length us) ≡ body_depth (depth_of us) u.body
depth_of-new us u = value_of-new 0 depth_with us u

pub depth_of-past : (us : List Node) (k : ℕ) → length us ≤ k → depth_of us k ≡ 0
depth_of-past us k h = value_of-past 0 depth_with us k h

pub depth_of-step : (us : List Node) (k : ℕ) (u : Node) → IsGraph us → k < length us → u ≡ get_or us k u → depth_of us k ≡ body_depth (depth_of us) u.body
depth_of-step us k u graph h at =
    value_of-step 0 depth_with us k u h at (λ agree. body_depth-agree k (depth_of (take k us)) (depth_of us) agree u.body (graph.bodies k u h at))

-- what holds of the trees and depths of lower units, and so of each unit of them, holds of all
pub every_unit : (Fits : Node → Type 0) (R : Tree → ℕ → Type 0) → R (Blank 0) 0
    → ((units : ℕ → Tree) (depths : ℕ → ℕ) (u : Node) → Fits u → ((k : ℕ) → R (units k) (depths k)) → R (node_tree units u) (body_depth depths u.body))
    → (us : List Node) → All Fits us → (k : ℕ) → R (tree_of us k) (depth_of us k)
every_unit Fits R first step us fits k =
    R-grown (Blank 0) node_tree 0 depth_with Fits R us (recursion_from_All Fits us fits) step [] [] refl (λ k. first) k
