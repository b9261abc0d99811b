-- Entries that are changed where they stand.
use Rattle.std.proofs.Common.{rules, ◌≡◌, ℕ, ◌+◌, ◌-◌, ◌^◌, ◌<◌, ◌≤◌, true, List, [], ◌∷◌, ◌++◌, length, get_or, map, set, slice_get, Some, Result, Ok, Err, IsErrAnd, refl, sym, ap, subst, ◌∙◌, arith}
use Rattle.std.proofs.lemmas.Bool.Decides.{nat_tests}
use Rattle.std.proofs.lemmas.Grind.{pieces}
use Rattle.std.proofs.lemmas.Option.{slice_get_read}
use Rattle.std.proofs.lemmas.List.Elements.{All-append, All-get_or}
use Rattle.mlt_base.specs.declared.faults.PlayFault.{PlayFault}
use Rattle.mlt_base.specs.declared.faults.PlayFault.TheVariants.{TooLong}
use Rattle.mlt_base.specs.declared.refusal.Try.{Try}
use Rattle.mlt_base.specs.declared.refusal.Try.TheVariants.{Fault}
use Rattle.mlt_base.specs.declared.value.Span.{Span}
use Rattle.mlt_base.specs.declared.value.UnitId.{UnitId}
use Rattle.mlt_index.specs.Starts as numbers
use Rattle.mlt_tree.specs.declared.entry.Entry.{Entry}
use Rattle.mlt_tree.specs.declared.entry.Entry.TheVariants.{Clip, Gap}
use Rattle.mlt_tree.specs.declared.tree.Attached.{Attached}
use Rattle.mlt_tree.specs.Edits as edit
use Rattle.mlt_tree.specs.Edits.{Edited, frames_in, grown, replaced}
use Rattle.mlt_tree.specs.Ranges.{IsAttached, IsEntry, frames}
use Rattle.mlt_playlist.specs.Changed.{is_within, resized, with_filter}
use Rattle.mlt_playlist.specs.Playlist.{Does, IsCounted, IsIndexed, IsList}
use Rattle.mlt_playlist.proofs.Counts.{All-one, entries-replaced, frames_in-part, frames_in-replaced, length-replaced, grown-ok, grown-long}
use Rattle.mlt_playlist.proofs.Found.{counted-same, frames_in-entry, set-replaced}
use Rattle.mlt_playlist.proofs.Indexed.{AreNumbers, all-counted, numbers_of, same-starts}
use Rattle.mlt_playlist.proofs.Frames.{has_frame}

pub replace_done : (es : List Entry) (at : ℕ) (x e new : Entry) (count : ℕ) → at < length es → x ≡ get_or es at x → e ≡ get_or es at e → count ≡ frames x → new ≡ Gap count
    → edit.replace_with_blank at es ≡ Ok (e, set es at new)
replace_done es at x e new count inside read is counted after =
    let there = slice_get_read es (length es) at e refl inside is in
    let same : x ≡ e = cc (slice_get_read es (length es) at x refl inside read) in
    let gap : new ≡ Gap (frames e) = after ∙ ap Gap (counted ∙ ap frames same) in
    rw (there, edit.replace_with_blank, gap) (ap (λ l. Ok (e, l)) (sym (set-replaced es at (Gap (frames e)) inside)))

pub blank_left : (es : List Entry) (ns : List ℕ) (at : ℕ) (e new : Entry) (count : ℕ) → IsIndexed es ns → at < length es → e ≡ get_or es at e → count ≡ frames e → new ≡ Gap count → IsIndexed (set es at new) ns
blank_left es ns at e new count indexed inside is counted after =
    let same : frames new ≡ frames e = ap frames after ∙ counted in
    let some = has_frame e (subst IsEntry (sym is) (All-get_or IsEntry es at e inside indexed.list.entries)) in
    let gap : IsEntry (Gap count) = omega arith in
    record {
      list = (counted-same es at e new (frames_in es) (all-counted es indexed.list) inside is (subst IsEntry (sym after) gap) same).list;
      starts = same-starts es ns at e new indexed.starts inside is same;
    }

-- a filter more
pub IsEntry-with_filter : (e : Entry) (filter : Attached) → IsEntry e → IsAttached filter → IsEntry (with_filter e filter)
IsEntry-with_filter (Clip unit s filters) filter is ranges =
    (is.0, All-append IsAttached filters (filter ∷ []) is.1 (search (rules, pieces)))
IsEntry-with_filter (Gap count) filter is ranges = is

pub frames-with_filter : (e : Entry) (filter : Attached) → frames (with_filter e filter) ≡ frames e
frames-with_filter (Clip unit s filters) filter = refl
frames-with_filter (Gap count) filter = refl

attach-is : (es : List Entry) (at : ℕ) (unit : UnitId) (s : Span) (filters : List Attached) (filter : Attached) → slice_get es at ≡ Some (Clip unit s filters)
    → edit.attach at filter es ≡ Ok (tt {0}, replaced es at 1 (Clip unit s (filters ++ filter ∷ []) ∷ []))
attach-is es at unit s filters filter there = rw (there, edit.attach) refl

-- what a change of the entry at an index leaves
pub record IsChanged (edited : Edited (Unit {0})) (now : List Entry) (all : ℕ) : Type 0 where
  pub counted : IsCounted now all
  pub does : edited ≡ Ok (tt {0}, now)

pub attach_done : (es : List Entry) (at : ℕ) (x e new : Entry) (filter : Attached) (all : ℕ) (unit : UnitId) (s : Span) (filters : List Attached)
    → IsCounted es all → IsAttached filter → at < length es → x ≡ get_or es at x → x ≡ Clip unit s filters → e ≡ get_or es at e → new ≡ with_filter e filter
    → IsChanged (edit.attach at filter es) (set es at new) all
attach_done es at x e new filter all unit s filters counted ranges inside got is read after =
    let clip : slice_get es at ≡ Some (Clip unit s filters) = slice_get_read es (length es) at x refl inside got ∙ ap Some is in
    let same : e ≡ Clip unit s filters = cc (slice_get_read es (length es) at e refl inside read) in
    let entry : IsEntry e = subst IsEntry (sym read) (All-get_or IsEntry es at e inside counted.list.entries) in
    let added : new ≡ Clip unit s (filters ++ filter ∷ []) = after ∙ ap (λ x. with_filter x filter) same in
    record {
      counted = counted-same es at e new all counted inside read (subst IsEntry (sym after) (IsEntry-with_filter e filter entry ranges)) (ap frames after ∙ frames-with_filter e filter);
      does = attach-is es at unit s filters filter clip ∙ ap (λ l. Ok (tt {0}, l)) (sym (set-replaced es at new inside ∙ ap (λ x. replaced es at 1 (x ∷ [])) added));
    }

-- the frames first to last
pub frames-resized : (e : Entry) (first last : ℕ) → frames (resized e first last) ≡ last + 1 - first
frames-resized (Clip unit s filters) first last = refl
frames-resized (Gap count) first last = refl

pub resize_clip-is : (es : List Entry) (at first last length : ℕ) (e : Entry) → slice_get es at ≡ Some e → is_within e first last length ≡ true
    → edit.resize_clip at first last length es ≡ grown (tt {0}) (replaced es at 1 (resized e first last ∷ []))
resize_clip-is es at first last length (Clip unit s filters) there within = rw (there, within, edit.resize_clip) refl
resize_clip-is es at first last length (Gap count) there within = rw (there, within, edit.resize_clip) refl

-- what is left of the frames, and what comes
resized_sum : (es : List Entry) (at : ℕ) (e : Entry) (first last all : ℕ) → all ≡ frames_in es → at < length es → e ≡ get_or es at e
    → frames_in (replaced es at 1 (resized e first last ∷ [])) ≡ all - frames e + (last + 1 - first)
resized_sum es at e first last all counted inside is =
    let part = frames_in-entry es at e inside is in
    let less = frames_in-part es at 1 in
    let sum = frames_in-replaced es at 1 (resized e first last ∷ []) in
    omega (arith, frames-resized e first last)

within_ordered : (e : Entry) (first last length : ℕ) → is_within e first last length ≡ true → first ≤ last
within_ordered (Clip unit s filters) first last length within = grind (arith, nat_tests)
within_ordered (Gap count) first last length within = grind (arith, nat_tests)

module _ (es : List Entry) (at : ℕ) (x : Entry) (first last count all sum : ℕ) where
  pub resize_long : IsCounted es all → at < length es → x ≡ get_or es at x → is_within x first last count ≡ true → sum ≡ all - frames x + last + 1 - first → 2 ^ 31 ≤ sum
      → edit.resize_clip at first last count es ≡ Err (TooLong sum)
  resize_long counted inside is within total long =
      let ordered = within_ordered x first last count within in
      let all_frames : sum ≡ frames_in (replaced es at 1 (resized x first last ∷ [])) = omega (arith, resized_sum es at x first last all counted.counted inside is) in
      let many = length-replaced es at 1 (resized x first last ∷ []) (omega arith) in
      resize_clip-is es at first last count x (slice_get_read es (length es) at x refl inside is) within ∙ grown-long (tt {0}) (replaced es at 1 (resized x first last ∷ [])) (omega arith) (omega arith) ∙ ap (λ n. Err (TooLong n)) (sym all_frames)

  pub resize_done : (e new : Entry) → IsCounted es all → at < length es → x ≡ get_or es at x → is_within x first last count ≡ true → sum ≡ all - frames x + last + 1 - first → sum < 2 ^ 31
      → e ≡ get_or es at e → new ≡ resized e first last
      → edit.resize_clip at first last count es ≡ Ok (tt {0}, set es at new)
  resize_done e new counted inside is within total short read after =
      let ordered = within_ordered x first last count within in
      let all_frames : sum ≡ frames_in (replaced es at 1 (resized x first last ∷ [])) = omega (arith, resized_sum es at x first last all counted.counted inside is) in
      let many = length-replaced es at 1 (resized x first last ∷ []) (omega arith) in
      let same : e ≡ x = cc (slice_get_read es (length es) at e refl inside read, slice_get_read es (length es) at x refl inside is) in
      let list : set es at new ≡ replaced es at 1 (resized x first last ∷ []) = set-replaced es at new inside ∙ ap (λ y. replaced es at 1 (y ∷ [])) (after ∙ ap (λ y. resized y first last) same) in
      resize_clip-is es at first last count x (slice_get_read es (length es) at x refl inside is) within ∙ grown-ok (tt {0}) (replaced es at 1 (resized x first last ∷ [])) (omega arith) (omega arith) ∙ ap (λ l. Ok (tt {0}, l)) (sym list)

IsEntry-resized : (e : Entry) (first last : ℕ) → IsEntry e → first ≤ last → IsEntry (resized e first last)
IsEntry-resized (Clip unit s filters) first last is ordered = (ordered, is.1)
IsEntry-resized (Gap count) first last is ordered = omega arith

-- the list and the starts in which an entry has other frames
module _ (es : List Entry) (ns : List ℕ) (at : ℕ) (x : Entry) (first last count all sum : ℕ) (indexed : IsIndexed es ns) (inside : at < length es) (is : x ≡ get_or es at x) (within : is_within x first last count ≡ true)
    (counted : all ≡ frames_in es) (total : sum ≡ all - frames x + last + 1 - first) (short : sum < 2 ^ 31) where
  entry_is : IsEntry (resized x first last)
  entry_is = IsEntry-resized x first last (subst IsEntry (sym is) (All-get_or IsEntry es at x inside indexed.list.entries)) (within_ordered x first last count within)

  frames_are : frames_in (replaced es at 1 (resized x first last ∷ [])) ≡ sum
  frames_are =
      let ordered = within_ordered x first last count within in
      omega (arith, resized_sum es at x first last all counted inside is)

  pub resized_numbers : (given : List ℕ) → given ≡ (last - first + 1) ∷ [] → AreNumbers es ns at 1 (resized x first last ∷ []) given
  resized_numbers given given_is =
      let ordered = within_ordered x first last count within in
      let one : last - first + 1 ≡ frames (resized x first last) = omega (arith, frames-resized x first last) in
      numbers_of es ns at 1 (resized x first last ∷ []) given indexed.starts (omega arith) (All-one (resized x first last) entry_is) (omega (arith, frames_are)) (given_is ∙ ap (λ n. n ∷ []) one)

  pub resized_left : (e new : Entry) (given after : List ℕ) → e ≡ get_or es at e → new ≡ resized e first last → given ≡ (last - first + 1) ∷ [] → after ≡ numbers.replaced ns at 1 given → IsIndexed (set es at new) after
  resized_left e new given after read new_is given_is after_is =
      let same : e ≡ x = cc (slice_get_read es (length es) at e refl inside read, slice_get_read es (length es) at x refl inside is) in
      let list : set es at new ≡ replaced es at 1 (resized x first last ∷ []) = set-replaced es at new inside ∙ ap (λ y. replaced es at 1 (y ∷ [])) (new_is ∙ ap (λ y. resized y first last) same) in
      let many = length-replaced es at 1 (resized x first last ∷ []) (omega arith) in
      record {
        list = subst IsList (sym list) (record {
          entries = entries-replaced es at 1 (resized x first last ∷ []) indexed.list.entries (All-one (resized x first last) entry_is);
          few = omega (arith, indexed.list.few);
          short = omega (arith, frames_are);
        });
        starts = after_is ∙ (resized_numbers given given_is).are ∙ ap (map frames) (sym list);
      }

-- a fault that is passed on
pub does_fault : {A : Type 0} (edited : Edited A) (old : List Entry) (fault : PlayFault) (r : Result A (Try PlayFault)) → IsErrAnd r (λ e. e ≡ Fault fault) → edited ≡ Err fault → Does edited old old r
does_fault edited old fault (Ok x) is refused = absurd is
does_fault edited old fault (Err e) is refused = subst (λ f. Does edited old old (Err f)) (sym is) (refused, refl)
