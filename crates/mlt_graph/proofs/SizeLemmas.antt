-- The size that is made up of the sizes of the parts is that of the tree.
use Rattle.std.proofs.Common.{◌≡◌, ℕ, ◌+◌, ◌-◌, ◌^◌, ◌<◌, ◌≤◌, List, [], ◌∷◌, length, map, fold, refl, sym, ap, ◌∙◌, arith}
use Rattle.std.proofs.lemmas.List.{length-map}
use Rattle.std.proofs.lemmas.List.Elements.{recursion_from_All}
use Rattle.std.proofs.lemmas.List.Sums.{sum_by-cons}
use Rattle.std.specs.List.{All, AllByRecursion}
use Rattle.mlt_tree.specs.declared.draft.Draft.{Draft}
use Rattle.mlt_tree.specs.declared.entry.Entry.{Entry}
use Rattle.mlt_tree.specs.declared.entry.Entry.TheVariants.{Clip, Gap}
use Rattle.mlt_base.specs.declared.profile.SourceNo.{SourceNo}
use Rattle.mlt_tree.specs.declared.tree.Plant.{Plant}
use Rattle.mlt_tree.specs.declared.tree.SourceKind.{SourceKind}
use Rattle.mlt_tree.specs.declared.node.Body.TheVariants.{Source, Entries, Tractor}
use Rattle.mlt_tree.specs.declared.node.Node.{Node}
use Rattle.mlt_tree.specs.declared.node.Track.{Track as TrackOf}
use Rattle.mlt_tree.specs.Sizes.{need_in, need_of_rows}
use Rattle.mlt_tree.specs.Tree.{Tree, Parts, End, Then, Seq, len_in, longest}
use Rattle.mlt_tree.specs.Units.{entry_tree, mix_unit, parts_of, track_of, tracks_of, node_tree, entries_depth, tracks_depth, body_depth, IsEntryBelow}
use Rattle.mlt_tree.specs.Edits.{frames_in}
use Rattle.mlt_tree.specs.Ranges.{frames}
use Rattle.mlt_graph.specs.declared.size.Size.{Size}
use Rattle.mlt_graph.proofs.Bounds.{tracks_in-of}
use Rattle.mlt_graph.specs.Sizes.{kept, size_of, nothing, plain, entry_size, then_size, entries_size, over_size, drafts_size, list_size, tractor_size, mix_size, AreSizes}

abbrev sized : (length need depth : ℕ) → Size
sized length need depth = record { length = length; need = need; depth = depth }

-- sizes with the same numbers are the same
pub same_size : (a b : Size) → a.length ≡ b.length → a.need ≡ b.need → a.depth ≡ b.depth → a ≡ b
same_size a b length need depth = by a.length a.need a.depth b.length b.need b.depth length need depth
  where
    by : (l n d l' n' d' : ℕ) → l ≡ l' → n ≡ n' → d ≡ d' → sized l n d ≡ sized l' n' d'
    by l n d l' n' d' el en ed = cc

-- the numbers that a size can have, where there is something to work out
record IsSize (a : Size) : Type 0 where
  length : a.length ≤ 2 ^ 32 - 1
  need : 1 ≤ a.need

-- what is worked out of entries is at least one thing
need_in-some : (parts : Parts) → 1 ≤ need_in parts
need_in-some End = omega arith
need_in-some (Then t parts) = omega (arith, need_in-some parts)

module _ (table : List Size) (units : ℕ → Tree) (depths : ℕ → ℕ) (tells : AreSizes table units depths) where
  abbrev entry_depth : Entry → ℕ
  entry_depth (Clip unit span filters) = depths unit.0
  entry_depth (Gap frames) = 0

  entry_size-is : (e : Entry) → IsEntryBelow (length table) e → entry_size table e ≡ size_of (entry_tree units e) (entry_depth e)
  entry_size-is (Clip unit span filters) below =
      let told = tells.each unit.0 below in
      same_size _ _ refl (ap (λ (s : Size). s.need) told) (ap (λ (s : Size). s.depth) told)
  entry_size-is (Gap frames) below = same_size _ _ refl refl (omega arith)

  -- the size of the entries, put behind a size
  abbrev behind : Size → List Entry → Size
  behind a es = then_size a (size_of (Seq (parts_of units es)) (entries_depth depths es))

  behind-cons : (a : Size) (e : Entry) (es : List Entry) → IsSize a
      → behind (then_size a (size_of (entry_tree units e) (entry_depth e))) es ≡ behind a (e ∷ es)
  behind-cons a (Clip unit span filters) es is = same_size _ _ (omega arith) (omega arith) (omega arith)
  behind-cons a (Gap frames) es is = same_size _ _ (omega arith) (omega arith) (omega arith)

  entries_size-from : (a : Size) (es : List Entry) → IsSize a → AllByRecursion (IsEntryBelow (length table)) es
      → fold (λ size e. then_size size (entry_size table e)) a es ≡ behind a es
  entries_size-from a [] is below = same_size _ _ (omega arith) (omega arith) (omega arith)
  entries_size-from a (e ∷ es) is below =
      ap (λ size. fold (λ size e. then_size size (entry_size table e)) (then_size a size) es) (entry_size-is e below.0)
      ∙ entries_size-from (then_size a (size_of (entry_tree units e) (entry_depth e))) es
      (record { length = omega arith; need = omega arith }) below.1
      ∙ behind-cons a e es is

  pub entries_size-is : (es : List Entry) → All (IsEntryBelow (length table)) es
      → entries_size table es ≡ size_of (Seq (parts_of units es)) (entries_depth depths es)
  entries_size-is es below =
      entries_size-from (plain 0) es (record { length = omega arith; need = omega arith })
      (recursion_from_All (IsEntryBelow (length table)) es below)
      ∙ same_size _ _ (omega arith) (omega (arith, need_in-some (parts_of units es))) (omega arith)

  -- the size of tracks
  abbrev rows_size : List TrackOf → Size
  rows_size tracks = record {
    length = kept (longest (tracks_of units tracks));
    need = kept (need_of_rows (tracks_of units tracks));
    depth = kept (tracks_depth depths tracks);
  }

  -- the numbers of a size are kept
  record IsKept (a : Size) : Type 0 where
    length : a.length ≤ 2 ^ 32 - 1
    need : a.need ≤ 2 ^ 32 - 1
    depth : a.depth ≤ 2 ^ 32 - 1

  abbrev AreBelow : Draft → Type 0
  AreBelow draft = All (IsEntryBelow (length table)) draft.entries

  drafts_size-from : (a : Size) (drafts : List Draft) → IsKept a → AllByRecursion AreBelow drafts
      → fold (λ size draft. over_size size (entries_size table draft.entries)) a drafts ≡ over_size a (rows_size (map track_of drafts))
  drafts_size-from a [] is below = same_size _ _ (omega arith) (omega arith) (omega arith)
  drafts_size-from a (draft ∷ drafts) is below =
      let row = size_of (Seq (parts_of units draft.entries)) (entries_depth depths draft.entries) in
      ap (λ size. fold (λ size draft. over_size size (entries_size table draft.entries)) (over_size a size) drafts) (entries_size-is draft.entries below.0)
      ∙ drafts_size-from (over_size a row) drafts
      (record { length = omega (arith, is.length); need = omega (arith, is.need); depth = omega (arith, is.depth) }) below.1
      ∙ same_size _ _ (omega arith) (omega arith) (omega arith)

  drafts_size-is : (drafts : List Draft) → All AreBelow drafts → drafts_size table drafts ≡ rows_size (map track_of drafts)
  drafts_size-is drafts below =
      drafts_size-from nothing drafts (record { length = omega arith; need = omega arith; depth = omega arith })
      (recursion_from_All AreBelow drafts below)
      ∙ same_size _ _ (omega arith) (omega arith) (omega arith)

  -- ---- the size of a unit

  abbrev unit_size : Node → Size
  unit_size node = size_of (node_tree units node) (body_depth depths node.body)

  pub source_size-is : (source : SourceNo) (kind : SourceKind) (length : ℕ) → length < 2 ^ 32
      → plain length ≡ unit_size (record { body = Source source kind length; filters = [] })
  source_size-is source kind count few = same_size _ _ (omega arith) (omega arith) (omega arith)

  pub list_size-is : (es : List Entry) → All (IsEntryBelow (length table)) es
      → list_size (entries_size table es) ≡ unit_size (record { body = Entries es; filters = [] })
  list_size-is es below =
      ap list_size (entries_size-is es below) ∙ same_size _ _ refl refl (omega arith)

  entry-alone : (e : Entry) → entries_depth depths (e ∷ []) ≡ entry_depth e
  entry-alone (Clip unit span filters) = omega arith
  entry-alone (Gap frames) = omega arith

  pub mix_size-is : (a b : Entry) (frames : ℕ) → IsEntryBelow (length table) a → IsEntryBelow (length table) b → mix_size table a b ≡ unit_size (mix_unit a b frames)
  mix_size-is a b frames a_below b_below =
      ap (λ s. tractor_size 2 (over_size s (entry_size table b))) (entry_size-is a a_below)
      ∙ ap (λ s. tractor_size 2 (over_size (size_of (entry_tree units a) (entry_depth a)) s)) (entry_size-is b b_below)
      ∙ same_size _ _ (omega arith) (omega arith) (omega (arith, entry-alone a, entry-alone b))

  pub tractor_size-is : (drafts : List Draft) (plants : List Plant) → All AreBelow drafts
      → tractor_size (length drafts) (drafts_size table drafts) ≡ unit_size (record { body = Tractor (map track_of drafts) plants; filters = [] })
  tractor_size-is drafts plants below =
      let count = tracks_in-of units (map track_of drafts) in
      ap (tractor_size (length drafts)) (drafts_size-is drafts below)
      ∙ same_size _ _ (omega arith) (omega (arith, count, length-map drafts track_of)) (omega arith)

-- how many frames entries have
pub len_in-frames : (units : ℕ → Tree) (es : List Entry) → len_in (parts_of units es) ≡ frames_in es
len_in-frames units [] = refl
len_in-frames units (Clip unit span filters ∷ es) = ap (λ n. span.last.0 + 1 - span.first.0 + n) (len_in-frames units es) ∙ sym (sum_by-cons frames (Clip unit span filters) es)
len_in-frames units (Gap count ∷ es) = ap (λ n. count + n) (len_in-frames units es) ∙ sym (sum_by-cons frames (Gap count) es)
