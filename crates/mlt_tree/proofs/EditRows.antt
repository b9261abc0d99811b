-- The edits, tried on one list: each line is checked by computing both of its sides.
use Rattle.std.specs.Prelude.{ℕ, ◌≡◌, refl, pos, negsuc, true, List, [], ◌∷◌, Some, None, Ok, Err}
use Rattle.mlt_base.specs.Reading.{held}
use Rattle.mlt_base.specs.declared.faults.PlayFault.TheVariants.{BadClip, BadSplit, BadRange, TooFew}
use Rattle.mlt_tree.specs.declared.entry.Entry.{Entry}
use Rattle.mlt_tree.specs.declared.entry.Entry.TheVariants.{Gap}
use Rattle.mlt_tree.specs.Edits as edit
use Rattle.mlt_tree.specs.Edits.{clip}

-- a clip without filters
abbrev u : (unit first last : ℕ) → Entry
u unit first last = clip unit first last []

-- five frames of unit 0, a gap of two, three frames of unit 1
abbrev p : List Entry
p = u 0 0 4 ∷ Gap 2 ∷ u 1 0 2 ∷ []

split_clip : edit.split 0 (pos 1) p ≡ Ok (tt, u 0 0 1 ∷ u 0 2 4 ∷ Gap 2 ∷ u 1 0 2 ∷ [])
split_clip = refl

split_gap : edit.split 1 (pos 0) p ≡ Ok (tt, u 0 0 4 ∷ Gap 1 ∷ Gap 1 ∷ u 1 0 2 ∷ [])
split_gap = refl

split_past : edit.split 1 (pos 1) p ≡ Err (BadSplit (pos 1) 2)
split_past = refl

-- -1 is the last frame but one, so that the rest has one
split_from_end : edit.split 0 (negsuc 0) p ≡ Ok (tt, u 0 0 3 ∷ u 0 4 4 ∷ Gap 2 ∷ u 1 0 2 ∷ [])
split_from_end = refl

split_before_start : edit.split 0 (negsuc 4) p ≡ Err (BadSplit (negsuc 4) 5)
split_before_start = refl

split_at_inside : edit.split_at 6 p ≡ Ok (2, u 0 0 4 ∷ Gap 1 ∷ Gap 1 ∷ u 1 0 2 ∷ [])
split_at_inside = refl

split_at_start : edit.split_at 5 p ≡ Ok (1, p)
split_at_start = refl

split_at_end : edit.split_at 10 p ≡ Ok (3, p)
split_at_end = refl

split_at_past : edit.split_at 11 p ≡ Err (BadRange 11 11 10)
split_at_past = refl

mix_gap : edit.mix 0 9 7 p ≡ Ok (record { a = u 0 3 4; b = Gap 2; frames = 2 }, u 0 0 2 ∷ u 7 0 1 ∷ u 1 0 2 ∷ [])
mix_gap = refl

join_two : edit.join 1 2 8 p ≡ Ok (Gap 2 ∷ u 1 0 2 ∷ [], u 0 0 4 ∷ u 8 0 4 ∷ [])
join_two = refl

join_past : edit.join 1 3 8 p ≡ Err (TooFew 3 2)
unfolding held
join_past = refl

repeat_last : edit.repeat_clip 2 2 p ≡ Ok (tt, u 0 0 4 ∷ Gap 2 ∷ u 1 0 2 ∷ u 1 0 2 ∷ [])
repeat_last = refl

resize : edit.resize_clip 0 1 3 5 p ≡ Ok (tt, u 0 1 3 ∷ Gap 2 ∷ u 1 0 2 ∷ [])
resize = refl

resize_past : edit.resize_clip 0 1 5 5 p ≡ Err (BadRange 1 5 5)
resize_past = refl

move_first : edit.move_clip 0 2 p ≡ Ok (tt, Gap 2 ∷ u 1 0 2 ∷ u 0 0 4 ∷ [])
move_first = refl

swap : edit.swap_last p ≡ Ok (tt, u 0 0 4 ∷ u 1 0 2 ∷ Gap 2 ∷ [])
swap = refl

swap_one : edit.swap_last (Gap 2 ∷ []) ≡ Err (TooFew 2 1)
swap_one = refl

insert_past : edit.insert 4 (Gap 1) p ≡ Err (BadClip 4 3)
unfolding held
insert_past = refl

insert_end : edit.insert 3 (Gap 1) p ≡ Ok (tt, u 0 0 4 ∷ Gap 2 ∷ u 1 0 2 ∷ Gap 1 ∷ [])
insert_end = refl

insert_blank : edit.insert_blank 1 0 p ≡ Ok (tt, u 0 0 4 ∷ Gap 1 ∷ Gap 2 ∷ u 1 0 2 ∷ [])
insert_blank = refl

replace_first : edit.replace_with_blank 0 p ≡ Ok (u 0 0 4, Gap 5 ∷ Gap 2 ∷ u 1 0 2 ∷ [])
replace_first = refl

consolidate : edit.consolidate_blanks true (Gap 5 ∷ Gap 2 ∷ u 1 0 2 ∷ []) ≡ Ok (tt, Gap 7 ∷ u 1 0 2 ∷ [])
consolidate = refl

remove_middle : edit.remove_region 3 4 p ≡ Ok (tt, u 0 0 2 ∷ u 1 0 2 ∷ [])
remove_middle = refl

remove_past : edit.remove_region 8 3 p ≡ Err (BadRange 8 10 10)
unfolding held
remove_past = refl

insert_behind : edit.insert_at 12 (u 2 0 0) p ≡ Ok (tt, u 0 0 4 ∷ Gap 2 ∷ u 1 0 2 ∷ Gap 2 ∷ u 2 0 0 ∷ [])
insert_behind = refl

append_part : edit.append_io 2 5 1 4 p ≡ Ok (tt, u 0 0 4 ∷ Gap 2 ∷ u 1 0 2 ∷ u 2 1 4 ∷ [])
append_part = refl

append_past : edit.append_io 2 5 4 5 p ≡ Err (BadRange 4 5 5)
append_past = refl

clip_there : edit.clip_at p 5 ≡ Some (1, 0)
clip_there = refl

clip_past : edit.clip_at p 10 ≡ None
clip_past = refl
