-- What is pushed of entries one after another, and of tracks over each other.
use Rattle.std.proofs.Common.{ℕ, ◌≡◌, ◌+◌, ◌-◌, ◌<◌, ◌≤◌, zero, suc, Bool, true, false, cond, ltb, ltb-true, List, [], ◌∷◌, ◌++◌, length, get_or, map, drop, Option, None, Some, option_map, unwrap_or, refl, sym, ap, subst, ◌∙◌, arith, add-one, drop-cons, append_assoc, append-nil, length-append}
use Rattle.std.proofs.lemmas.List.{get_or-map, length-map}
use Rattle.std.specs.List.{flat_map}
use Rattle.mlt_frame.specs.declared.op.Op.{Op}
use Rattle.mlt_frame.specs.Stack.{Stack, room}
use Rattle.mlt_tree.specs.declared.entry.Entry.{Entry}
use Rattle.mlt_tree.specs.declared.entry.Entry.TheVariants.{Clip, Gap}
use Rattle.mlt_tree.specs.declared.node.Node.{Node}
use Rattle.mlt_tree.specs.declared.node.Track.{Track}
use Rattle.mlt_tree.specs.declared.tree.Attached.{Attached}
use Rattle.mlt_tree.specs.Edits.{clip_at}
use Rattle.mlt_tree.specs.Ranges.{frames}
use Rattle.mlt_tree.specs.Meaning.{or_under, shown}
use Rattle.mlt_tree.specs.Medium.{Medium}
use Rattle.mlt_tree.specs.Sizes.{ops, ops_in, ops_of_rows}
use Rattle.mlt_tree.specs.Tree.{Tree, len}
use Rattle.mlt_tree.specs.Units.{entry_tree, entries_of, parts_of, tracks_of, track_tree}
use Rattle.mlt_graph.specs.Lists.{lists_in, lists_of, list_of}
use Rattle.mlt_start.specs.Code.{code, code_in, rows_code, filter_ops, with_filters, or_empty}
use Rattle.mlt_start.specs.Found.{IsListOf, row_code, shown_code}
use Rattle.mlt_start.specs.Pushed.{IsAbove, IsPushed}
use Rattle.mlt_start.proofs.Counted.{Where, Few}

-- ---- stacks

-- what is pushed, and then filters
pub pushed-filters : (n : ℕ) (filters : List Attached) (c : Option (List Op)) (old between new : Stack) (r : Bool) → IsPushed c old between r → r ≡ true → IsAbove (flat_map (filter_ops n) filters) between new → IsPushed (option_map (with_filters n filters) c) old new true
pushed-filters n filters None old between new r first is then = absurd (clash (sym is ∙ first.something)) where
  clash : true ≡ false → ⊥
  clash e = cc
pushed-filters n filters (Some ops) old between new r first is then = record {
  above = record {
    ops = then.ops ∙ ap (λ os. os ++ flat_map (filter_ops n) filters) first.above.ops ∙ append_assoc old.ops ops (flat_map (filter_ops n) filters);
    room = then.room ∙ first.above.room;
  };
  something = refl;
}

-- nothing is pushed where there is nothing
pub pushed-none : (n : ℕ) (filters : List Attached) (c : Option (List Op)) (old new : Stack) (r : Bool) → IsPushed c old new r → r ≡ false → IsPushed (option_map (with_filters n filters) c) old new false
pushed-none n filters None old new r first is = record { above = first.above; something = refl }
pushed-none n filters (Some ops) old new r first is = absurd (clash (sym is ∙ first.something)) where
  clash : false ≡ true → ⊥
  clash e = cc

-- the room for filters, once what they are on is pushed
pub spare-left : (k l : ℕ) (c : Option (List Op)) (old new : Stack) (r : Bool) → Where (Few k) c → k + l ≤ old.spare → IsPushed c old new r → l ≤ new.spare
spare-left k l None old new r few h pushed = omega (arith, pushed.above.room, ap length pushed.above.ops, length-append old.ops [])
spare-left k l (Some ops) old new r few h pushed = omega (arith, few, pushed.above.room, ap length pushed.above.ops, length-append old.ops ops)

-- ---- entries

-- what is found at a position of entries: one of them, and the place in it that has the same operations
pub record IsFound (v : Medium) (units : ℕ → Tree) (es : List Entry) (n i p : ℕ) : Type 0 where
  pub inside : i < length es
  pub place : (e : Entry) → e ≡ get_or es i e → p < frames e
  pub same : (e : Entry) → e ≡ get_or es i e → code_in v (parts_of units es) n ≡ code v (entry_tree units e) p
  pub few : (e : Entry) → e ≡ get_or es i e → ops (entry_tree units e) ≤ ops_in (parts_of units es)

module _ (v : Medium) (units : ℕ → Tree) where
  long : (e : Entry) → len (entry_tree units e) ≡ frames e
  long (Clip unit span filters) = refl
  long (Gap count) = refl

  module _ (e : Entry) (es : List Entry) (n : ℕ) where
    code-first : (t : Bool) → ltb n (frames e) ≡ t → code_in v (parts_of units (e ∷ es)) n ≡ cond t (code v (entry_tree units e) n) (code_in v (parts_of units es) (n - frames e))
    code-first t test =
        ap (λ l. cond (ltb n l) (code v (entry_tree units e) n) (code_in v (parts_of units es) (n - l))) (long e)
        ∙ ap (λ t. cond t (code v (entry_tree units e) n) (code_in v (parts_of units es) (n - frames e))) test

    in-first : ltb n (frames e) ≡ true → IsFound v units (e ∷ es) n 0 n
    in-first test = record {
      inside = omega arith;
      place = λ d at. subst (λ x. n < frames x) (sym at) (ltb-true n (frames e) test);
      same = λ d at. code-first true test ∙ ap (λ x. code v (entry_tree units x) n) (sym at);
      few = λ d at. subst (λ x. ops (entry_tree units x) ≤ ops_in (parts_of units (e ∷ es))) (sym at) (omega arith);
    }

    behind-first : (i p : ℕ) → ltb n (frames e) ≡ false → IsFound v units es (n - frames e) i p → IsFound v units (e ∷ es) n (suc i) p
    behind-first i p test found = record {
      inside = omega (arith, found.inside);
      place = found.place;
      same = λ d at. code-first false test ∙ found.same d at;
      few = λ d at. omega (arith, found.few d at);
    }

    -- what is found of the others is one further on
    abbrev further : Option (ℕ × ℕ) → Option (ℕ × ℕ)
    further o = option_map (λ found. (found.0 + 1, found.1)) o

    found-more : (i p : ℕ) → ((j q : ℕ) → clip_at es (n - frames e) ≡ Some (j, q) → IsFound v units es (n - frames e) j q) → clip_at (e ∷ es) n ≡ Some (i, p) → IsFound v units (e ∷ es) n i p
    found-more i p rest is = by (ltb n (frames e)) refl is where
      behind : (o : Option (ℕ × ℕ)) → clip_at es (n - frames e) ≡ o → ltb n (frames e) ≡ false → further o ≡ Some (i, p) → IsFound v units (e ∷ es) n i p
      behind None there test is = absurd cc
      behind (Some f) there test is =
          let index : f.0 + 1 ≡ i = ap (λ (o : Option (ℕ × ℕ)). (unwrap_or o (0, n)).0) is in
          let place : f.1 ≡ p = ap (λ (o : Option (ℕ × ℕ)). (unwrap_or o (0, n)).1) is in
          subst (λ j. IsFound v units (e ∷ es) n j p) (sym (add-one f.0) ∙ index) (subst (IsFound v units (e ∷ es) n (suc f.0)) place (behind-first f.0 f.1 test (rest f.0 f.1 there)))

      by : (t : Bool) → ltb n (frames e) ≡ t → cond t (Some (0, n)) (further (clip_at es (n - frames e))) ≡ Some (i, p) → IsFound v units (e ∷ es) n i p
      by true test is =
          let index : 0 ≡ i = ap (λ (o : Option (ℕ × ℕ)). (unwrap_or o (0, n)).0) is in
          let place : n ≡ p = ap (λ (o : Option (ℕ × ℕ)). (unwrap_or o (0, n)).1) is in
          subst (λ j. IsFound v units (e ∷ es) n j p) index (subst (IsFound v units (e ∷ es) n 0) place (in-first test))
      by false test is = behind (clip_at es (n - frames e)) refl test is

    none-more : (clip_at es (n - frames e) ≡ None → code_in v (parts_of units es) (n - frames e) ≡ None) → clip_at (e ∷ es) n ≡ None → code_in v (parts_of units (e ∷ es)) n ≡ None
    none-more rest is = by (ltb n (frames e)) refl is where
      behind : (o : Option (ℕ × ℕ)) → clip_at es (n - frames e) ≡ o → ltb n (frames e) ≡ false → further o ≡ None → code_in v (parts_of units (e ∷ es)) n ≡ None
      behind None there test is = code-first false test ∙ rest there
      behind (Some f) there test is = absurd cc

      by : (t : Bool) → ltb n (frames e) ≡ t → cond t (Some (0, n)) (further (clip_at es (n - frames e))) ≡ None → code_in v (parts_of units (e ∷ es)) n ≡ None
      by true test is = absurd cc
      by false test is = behind (clip_at es (n - frames e)) refl test is

  found : (es : List Entry) (n i p : ℕ) → clip_at es n ≡ Some (i, p) → IsFound v units es n i p
  found [] n i p is = absurd cc
  found (e ∷ es) n i p is = found-more e es n i p (found es (n - frames e)) is

  -- and where nothing is found, there is nothing
  none-found : (es : List Entry) (n : ℕ) → clip_at es n ≡ None → code_in v (parts_of units es) n ≡ None
  none-found [] n is = refl
  none-found (e ∷ es) n is = none-more e es n (none-found es (n - frames e)) is

-- the same of a list that has these entries
module _ (v : Medium) (units : ℕ → Tree) (nodes : List Node) (unit list : ℕ) (es : List Entry) (n : ℕ) (is : IsListOf nodes unit list es) where
  pub found-in : (i p : ℕ) → Some (i, p) ≡ clip_at (list_of nodes unit list) n → IsFound v units es n i p
  found-in i p there = found v units es n i p (ap (λ l. clip_at l n) (sym is.are) ∙ sym there)

  pub none_found-in : None ≡ clip_at (list_of nodes unit list) n → code_in v (parts_of units es) n ≡ None
  none_found-in there = none-found v units es n (ap (λ l. clip_at l n) (sym is.are) ∙ sym there)

-- ---- tracks

-- the entries of a track are its list
pub row-list : (nodes : List Node) (unit row : ℕ) (tracks : List Track) (track : Track) → lists_of nodes unit ≡ map entries_of tracks → row < length tracks → track ≡ get_or tracks row track → IsListOf nodes unit row (entries_of track)
row-list nodes unit row tracks track lists there at = record {
  there = omega (arith, there, ap length lists, length-map tracks entries_of);
  are = ap (λ ls. get_or ls row []) lists ∙ get_or-map entries_of tracks row track [] there ∙ ap entries_of (sym at);
}

-- a track has no more operations than all of them
pub row-few : (units : ℕ → Tree) (tracks : List Track) (i : ℕ) (track : Track) → i < length tracks → track ≡ get_or tracks i track → ops (track_tree units track) ≤ ops_of_rows (tracks_of units tracks)
row-few units [] i track h at = absurd (omega arith)
row-few units (t ∷ tracks) zero track h at = subst (λ x. ops (track_tree units x) ≤ ops_of_rows (tracks_of units (t ∷ tracks))) (sym at) (omega arith)
row-few units (t ∷ tracks) (suc i) track h at = omega (arith, row-few units tracks i track (omega arith) at)

module _ (v : Medium) (units : ℕ → Tree) (n : ℕ) where
  -- a track with those above it
  pub row-more : (tracks : List Track) (i : ℕ) (track : Track) → i < length tracks → track ≡ get_or tracks i track → shown_code v units n (drop i tracks) ≡ or_under (shown_code v units n (drop (i + 1) tracks)) (row_code v units n track)
  row-more tracks i track h at =
      ap (shown_code v units n) (drop-cons tracks i track h ∙ ap (λ t. t ∷ drop (suc i) tracks) (sym at)) ∙ ap (λ j. or_under (shown_code v units n (drop j tracks)) (row_code v units n track)) (sym (add-one i))

  under-some : (rows : List (Option (List Op))) (row : Option (List Op)) (x : List Op) → shown rows ≡ Some x → shown (row ∷ rows) ≡ Some x
  under-some rows row x h = rw h refl

  -- what the tracks have from one on all of them have
  pub rows-under : (tracks : List Track) (i : ℕ) (ops : List Op) → shown_code v units n (drop i tracks) ≡ Some ops → shown_code v units n tracks ≡ Some ops
  rows-under tracks zero ops h = h
  rows-under [] (suc i) ops h = h
  rows-under (track ∷ tracks) (suc i) ops h =
      under-some (rows_code v (tracks_of units tracks) n) (row_code v units n track) ops (rows-under tracks i ops h)

  -- a track that has something, where those above it have nothing
  pub pushed-row : (tracks : List Track) (i : ℕ) (track : Track) (old new : Stack) (r : Bool) → i < length tracks → track ≡ get_or tracks i track → shown_code v units n (drop (i + 1) tracks) ≡ None → r ≡ true
      → IsPushed (row_code v units n track) old new r → IsPushed (shown_code v units n tracks) old new true
  pushed-row tracks i track old new r h at above is pushed = by (row_code v units n track) refl pushed where
    clash : true ≡ false → ⊥
    clash e = cc

    by : (c : Option (List Op)) → row_code v units n track ≡ c → IsPushed c old new r → IsPushed (shown_code v units n tracks) old new true
    by None has pushed = absurd (clash (sym is ∙ pushed.something))
    by (Some ops) has pushed =
        let all = rows-under tracks i ops (row-more tracks i track h at ∙ ap (λ o. or_under o (row_code v units n track)) above ∙ has) in
        subst (λ c. IsPushed c old new true) (sym all) (record { above = pushed.above; something = refl })

-- what is pushed on an empty stack is all that is there
pub alone-above : (pushed : List Op) (old new : Stack) → old.ops ≡ [] → IsAbove pushed old new → new.ops ≡ pushed
alone-above pushed old new empty above = above.ops ∙ ap (λ os. os ++ pushed) empty

-- nothing is pushed
pub pushed-nothing : (c : Option (List Op)) (s : Stack) → c ≡ None → IsPushed c s s false
pushed-nothing c s is =
    subst (λ o. IsPushed o s s false) (sym is) (record { above = record { ops = sym (append-nil s.ops); room = refl }; something = refl })

-- the same on a stack with the same operations and the same room
pub pushed-on : (c : Option (List Op)) (old same new : Stack) (r : Bool) → old.ops ≡ same.ops → room old ≡ room same → IsPushed c old new r → IsPushed c same new r
pushed-on c old same new r ops rooms pushed = record {
  above = record { ops = pushed.above.ops ∙ ap (λ os. os ++ or_empty c) ops; room = pushed.above.room ∙ rooms };
  something = pushed.something;
}

-- the lists of a unit that is there
pub unit-lists : (us : List Node) (k : ℕ) (node : Node) → k < length us → node ≡ get_or us k node → lists_of us k ≡ lists_in node.body
unit-lists us k node there at =
    get_or-map (λ (n : Node). lists_in n.body) us k node [] there ∙ ap (λ (n : Node). lists_in n.body) (sym at)
