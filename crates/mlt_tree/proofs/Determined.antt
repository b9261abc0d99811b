-- Words that can be groups are read into these: word after word, each group, behind those so far, becomes the
-- last one.
use Rattle.std.proofs.Common.{◌≡◌, ℕ, ◌+◌, ◌<◌, ◌≤◌, Bool, true, false, cond, ltb, List, [], ◌∷◌, ◌++◌, length, map, All, Option, None, Some, Result, Ok, Err, refl, sym, ap, subst, ◌∙◌, append_assoc, append-nil, arith}
use Rattle.std.specs.List.{flat_map, enumerate_from}
use Rattle.std.proofs.lemmas.Bool.Decides.{nat_tests}
use Rattle.std.proofs.lemmas.List.Elements.{All-head, All-tail}
use Rattle.mlt_base.specs.declared.faults.WordFault.{WordFault}
use Rattle.mlt_base.specs.declared.faults.WordCause.TheVariants.{TooMany}
use Rattle.mlt_base.specs.Steps.{◌>>=◌}
use Rattle.mlt_base.specs.Name.{name_of}
use Rattle.mlt_base.specs.declared.limits.TheConstants.{MOST_WORDS}
use Rattle.mlt_tree.specs.declared.group.Group.{Group}
use Rattle.mlt_tree.specs.declared.group.GroupKind.{GroupKind}
use Rattle.mlt_tree.specs.declared.group.GroupKind.TheVariants.{Producer}
use Rattle.mlt_tree.specs.declared.group.Prop.{Prop}
use Rattle.mlt_tree.specs.declared.table.Row.{Row}
use Rattle.mlt_tree.specs.Table.{option_row}
use Rattle.mlt_tree.specs.Words.{WordsRead, Last, Nothing, Waiting, Open, fault, nothing_read, open_group, groups_of, then_last, begin, option_word, with_prop, property_word, free_word, step, steps, finish, groups}
use Rattle.mlt_tree.specs.GroupWords.{prop_word, own_words_by, own_words, words_of, takes_argument, takes_properties, IsAllowedProp, IsAllowed, IsProducerWord, IsReadableProp, IsReadable, AreGroupsOf}
use Rattle.mlt_tree.specs.WordLaws.{DeterminesGroups}
use Rattle.mlt_tree.proofs.Bound.{ok, ok_one, not_ok}
use Rattle.mlt_tree.proofs.Options.{option_of-row, kind_of-row, is_option-row, kind_of-none}
use Rattle.mlt_tree.proofs.Divided.{divided-prop, divided-none}
use Rattle.mlt_tree.proofs.Kept.{words_kept}
use Rattle.mlt_tree.proofs.Allowed.{groups_sound, groups_readable}

-- words, each with its place
abbrev run : List (ℕ × List ℕ) → WordsRead → Result WordsRead WordFault
run [] s = Ok s
run (word ∷ words) s = step word.0 word.1 s >>= run words

steps-run : (place : ℕ) (words : List (List ℕ)) (s : WordsRead) → steps place words s ≡ run (enumerate_from place words) s
steps-run place [] s = refl
steps-run place (word ∷ words) s = by (step place word s) (steps-run (place + 1) words) where
  by : (r : Result WordsRead WordFault) → ((t : WordsRead) → steps (place + 1) words t ≡ run (enumerate_from (place + 1) words) t) → (r >>= steps (place + 1) words) ≡ (r >>= run (enumerate_from (place + 1) words))
  by (Ok t) later = later t
  by (Err e) later = refl

run-append : (xs ys : List (ℕ × List ℕ)) (s : WordsRead) → run (xs ++ ys) s ≡ (run xs s >>= run ys)
run-append [] ys s = refl
run-append (x ∷ xs) ys s = by (step x.0 x.1 s) (run-append xs ys) where
  by : (r : Result WordsRead WordFault) → ((t : WordsRead) → run (xs ++ ys) t ≡ (run xs t >>= run ys)) → (r >>= run (xs ++ ys)) ≡ ((r >>= run xs) >>= run ys)
  by (Ok t) later = later t
  by (Err e) later = refl

run_then : (xs ys : List (ℕ × List ℕ)) (s t : WordsRead) → run xs s ≡ ok t → run (xs ++ ys) s ≡ run ys t
run_then xs ys s t h = run-append xs ys s ∙ ap (λ r. r >>= run ys) h

-- no option waits for its argument
abbrev IsWhole : Last → Type 0
IsWhole Nothing = Unit {0}
IsWhole (Waiting place kind properties) = ⊥
IsWhole (Open group properties) = Unit {0}

step_free : (place : ℕ) (word : List ℕ) (done : List Group) (last : Last) → IsWhole last → step place word (record { done = done; last = last }) ≡ free_word place word (record { done = done; last = last })
unfolding step
step_free place word done Nothing whole = refl
step_free place word done (Waiting option kind properties) whole = absurd whole
step_free place word done (Open group properties) whole = refl

-- a group without its properties, behind those so far
abbrev bare : Group → Bool → WordsRead → WordsRead
bare group properties s = record { done = groups_of s; last = Open (record group { props = [] }) properties }

-- ---- the words of a group's own

-- the word of an option begins its group, which may wait for its argument
option_step : (place : ℕ) (kind : GroupKind) (row : Row) (s : WordsRead) → option_row kind ≡ Some row → IsWhole s.last → step place (name_of row.name) s ≡ ok (cond row.argument (then_last (Waiting place kind row.properties) s) (begin place kind [] row.properties s))
unfolding option_word
option_step place kind row s e whole =
    step_free place (name_of row.name) s.done s.last whole ∙ rw (is_option-row kind row e, option_of-row kind row e, kind_of-row kind row e) refl

-- an option that waits takes the next word
argument_step : (next place : ℕ) (word : List ℕ) (kind : GroupKind) (properties : Bool) (done : List Group) → step next word (record { done = done; last = Waiting place kind properties }) ≡ ok (begin place kind word properties (record { done = done; last = Waiting place kind properties }))
unfolding step
argument_step next place word kind properties done = refl

option_run : (g : Group) (row : Row) (s : WordsRead) → option_row g.kind ≡ Some row → IsWhole s.last → (row.argument ≡ false → g.arg ≡ []) → run (own_words_by g (Some row)) s ≡ ok (bare g row.properties s)
option_run g row s e whole argument = by row.argument refl (option_step g.place g.kind row s e whole) where
  by : (b : Bool) → row.argument ≡ b → step g.place (name_of row.name) s ≡ ok (cond b (then_last (Waiting g.place g.kind row.properties) s) (begin g.place g.kind [] row.properties s)) → run ((g.place, name_of row.name) ∷ cond b ((g.place + 1, g.arg) ∷ []) []) s ≡ ok (bare g row.properties s)
  by true is h =
      ap (λ r. r >>= run ((g.place + 1, g.arg) ∷ [])) h
      ∙ ap (λ r. r >>= run []) (argument_step (g.place + 1) g.place g.arg g.kind row.properties (groups_of s))
      ∙ ap (λ done. ok (record { done = done; last = Open (record g { props = [] }) row.properties })) (append-nil (groups_of s))
  by false is h =
      ap (λ r. r >>= run []) h ∙ ap (λ arg. ok (begin g.place g.kind arg row.properties s)) (sym (argument is))

producer_run : (g : Group) (s : WordsRead) → g.kind ≡ Producer → IsWhole s.last → IsProducerWord g.arg → run (own_words_by g None) s ≡ ok (bare g true s)
producer_run g s e whole word =
    let read : free_word g.place g.arg s ≡ ok (begin g.place Producer g.arg true s) = rw (word.free, divided-none g.arg word.undivided) refl in
    ap (λ r. r >>= run []) (step_free g.place g.arg s.done s.last whole ∙ read) ∙ ap (λ kind. ok (begin g.place kind g.arg true s)) (sym e)

own_run : (g : Group) (s : WordsRead) → IsWhole s.last → IsAllowed g → IsReadable g → run (own_words g) s ≡ ok (bare g (takes_properties (option_row g.kind)) s)
own_run g s whole allowed readable = by (option_row g.kind) refl allowed.argument where
  by : (row : Option Row) → option_row g.kind ≡ row → (takes_argument row ≡ false → g.arg ≡ []) → run (own_words_by g row) s ≡ ok (bare g (takes_properties row) s)
  by None e argument =
      let producer : g.kind ≡ Producer = kind_of-none g.kind e in
      producer_run g s producer whole (readable.producer producer)
  by (Some row) e argument = option_run g row s e whole argument

-- ---- the words of its properties

-- a property is read into the last group, where that takes any
property_read : (place : ℕ) (name value : List ℕ) (done : List Group) (g : Group) → 0 < length name → property_word place name value (record { done = done; last = Open g true }) ≡ ok (record { done = done; last = Open (with_prop (record { place = place; name = name; value = value }) g) true })
unfolding property_word
property_read place [] value done g named = absurd (omega arith)
property_read place (c ∷ name) value done g named = refl

prop_step : (p : Prop) (done : List Group) (g : Group) → 0 < length p.name → IsReadableProp p → step p.place (prop_word p).1 (record { done = done; last = Open g true }) ≡ ok (record { done = done; last = Open (with_prop p g) true })
prop_step p done g named readable =
    let read : free_word p.place (prop_word p).1 (record { done = done; last = Open g true }) ≡ property_word p.place p.name p.value (record { done = done; last = Open g true }) = rw (readable.free, divided-prop p.name p.value readable.undivided) refl in
    step_free p.place (prop_word p).1 done (Open g true) tt ∙ read ∙ property_read p.place p.name p.value done g named

props_run : (ps : List Prop) (done : List Group) (g : Group) → All IsAllowedProp ps → All IsReadableProp ps → run (map prop_word ps) (record { done = done; last = Open g true }) ≡ ok (record { done = done; last = Open (record g { props = g.props ++ ps }) true })
props_run [] done g allowed readable =
    ap (λ ps. ok (record { done = done; last = Open (record g { props = ps }) true })) (sym (append-nil g.props))
props_run (p ∷ ps) done g allowed readable =
    ap (λ r. r >>= run (map prop_word ps)) (prop_step p done g (All-head IsAllowedProp p ps allowed).named (All-head IsReadableProp p ps readable))
    ∙ props_run ps done (with_prop p g) (All-tail IsAllowedProp p ps allowed) (All-tail IsReadableProp p ps readable)
    ∙ ap (λ qs. ok (record { done = done; last = Open (record g { props = qs }) true })) (append_assoc g.props (p ∷ []) ps)

behind_run : (g : Group) (done : List Group) (b : Bool) → (b ≡ false → g.props ≡ []) → All IsAllowedProp g.props → All IsReadableProp g.props → run (map prop_word g.props) (record { done = done; last = Open (record g { props = [] }) b }) ≡ ok (record { done = done; last = Open g b })
behind_run g done true none allowed readable = props_run g.props done (record g { props = [] }) allowed readable
behind_run g done false none allowed readable =
    subst (λ ps. run (map prop_word ps) (record { done = done; last = Open (record g { props = [] }) false }) ≡ ok (record { done = done; last = Open (record g { props = ps }) false })) (sym (none refl)) refl

-- ---- groups

group_run : (g : Group) (s : WordsRead) → IsWhole s.last → IsAllowed g → IsReadable g → run (words_of g) s ≡ ok (record { done = groups_of s; last = Open g (takes_properties (option_row g.kind)) })
group_run g s whole allowed readable =
    run_then (own_words g) (map prop_word g.props) s (bare g (takes_properties (option_row g.kind)) s) (own_run g s whole allowed readable)
    ∙ behind_run g (groups_of s) (takes_properties (option_row g.kind)) allowed.properties allowed.each readable.each

-- the words of groups are read into them, behind the groups so far
record Read (gs : List Group) (s : WordsRead) : Type 0 where
  t : WordsRead
  words : run (flat_map words_of gs) s ≡ ok t
  groups : groups_of t ≡ groups_of s ++ gs
  whole : IsWhole t.last

groups_run : (gs : List Group) (s : WordsRead) → IsWhole s.last → All IsAllowed gs → All IsReadable gs → Read gs s
groups_run [] s whole allowed readable =
    record { t = s; words = refl; groups = sym (append-nil (groups_of s)); whole = whole }
groups_run (g ∷ gs) s whole allowed readable =
    let next : WordsRead = record { done = groups_of s; last = Open g (takes_properties (option_row g.kind)) } in
    let first : run (words_of g) s ≡ ok next = group_run g s whole (All-head IsAllowed g gs allowed) (All-head IsReadable g gs readable) in
    let rest : Read gs next = groups_run gs next tt (All-tail IsAllowed g gs allowed) (All-tail IsReadable g gs readable) in
    record {
      t = rest.t;
      words = run_then (words_of g) (flat_map words_of gs) s next first ∙ rest.words;
      groups = rest.groups ∙ append_assoc (groups_of s) (g ∷ []) gs;
      whole = rest.whole;
    }

finish_whole : (done : List Group) (last : Last) → IsWhole last → finish (record { done = done; last = last }) ≡ ok (done ++ open_group last)
unfolding finish
finish_whole done Nothing whole = refl
finish_whole done (Waiting place kind properties) whole = absurd whole
finish_whole done (Open group properties) whole = refl

-- groups that words can be are found
found : (words : List (List ℕ)) (gs : List Group) → AreGroupsOf words gs → groups words ≡ Ok gs
unfolding groups
found words gs h =
    let few : length words ≤ MOST_WORDS = h.few in
    let counted : ltb MOST_WORDS (length words) ≡ false = grind (arith, nat_tests) in
    let r : Read gs nothing_read = groups_run gs nothing_read tt h.allowed h.readable in
    let read : steps 0 words nothing_read ≡ ok r.t = steps-run 0 words nothing_read ∙ ap (λ ws. run ws nothing_read) (sym h.kept) ∙ r.words in
    rw counted (ap (λ s. s >>= finish) read ∙ finish_whole r.t.done r.t.last r.whole ∙ ap ok r.groups)

-- words that are read are not too many
few_words : (words : List (List ℕ)) (gs : List Group) → groups words ≡ Ok gs → length words ≤ MOST_WORDS
unfolding groups
few_words words gs h = by_count (ltb MOST_WORDS (length words)) refl h where
  by_count : (b : Bool) → ltb MOST_WORDS (length words) ≡ b → cond b (fault MOST_WORDS (TooMany MOST_WORDS)) (steps 0 words nothing_read >>= finish) ≡ Ok gs → length words ≤ MOST_WORDS
  by_count true is h = absurd (not_ok _ gs h)
  by_count false is h = grind (arith, nat_tests, is)

pub groups_determined : DeterminesGroups
groups_determined = record {
  exact = λ words gs. (
    λ h. record {
      few = few_words words gs h;
      kept = words_kept words gs h;
      allowed = groups_sound words gs h;
      readable = groups_readable words gs h;
    },
    found words gs,
  );
  one = λ words gs hs g h. ok_one gs hs (sym (found words gs g) ∙ found words hs h);
}
