-- What `IsWhole` says of the fields of a block, and of a block whose first bytes are written.
use Rattle.std.proofs.Common.{◌≡◌, ℕ, ◌^◌, ◌≤◌, List, [], ◌∷◌, ◌++◌, length, map, take, drop, replicate, Option, Some, sym, ap, ◌∙◌, arith, zero-add, length-append, length-drop}
use Rattle.std.proofs.Math.Seq.{take-length}
use Rattle.std.proofs.Math.ListN.{drop_of_length-le}
use Rattle.std.proofs.lemmas.List.{length-map, length-replicate, length-take-le, append-nil, take-map, drop-map}
use Rattle.std.specs.List.{refill, length_refill}
use Rattle.std.specs.declared.alloc.Global.{Global}
use Rattle.mlt_raw.specs.Block.{IsWholeBlock}
use Rattle.mlt_raw.specs.Places.{somes}
use Rattle.mlt_raw.specs.Lends.{with_slots, spliced}
use Rattle.mlt_raw.specs.declared.cells.Base.{Base}
use Rattle.mlt_raw.specs.declared.cells.Cells.{Cells}
use Rattle.mlt_raw.specs.declared.cells.Deed.{Deed}
use Rattle.mlt_raw.proofs.Zeros.{somes-map, all_filled}

map-append : {X Y : Type 0} (f : X → Y) (xs ys : List X) → map f xs ++ map f ys ≡ map f (xs ++ ys)
map-append f [] ys = λ i. map f ys
map-append f (x ∷ xs) ys = ap (λ l. f x ∷ l) (map-append f xs ys)

module _ (base : Base ℕ) (size : ℕ) (cells : Cells ℕ) (deed : Deed ℕ Global) (alloc : Global) (h : IsWholeBlock base size cells deed alloc) where
  abbrev bytes : List ℕ
  bytes = somes cells.slots

  long : length bytes ≡ size
  long = sym (length-map bytes Some) ∙ ap length (sym h.full) ∙ h.count

  -- a length within the value is within the size
  pub within : (len : ℕ) (now : List ℕ) → bytes ≡ now → len ≤ length now → len ≤ size
  within len now is le = omega (arith, long, ap length is, le)

  pub all_bytes : take size bytes ≡ bytes
  all_bytes = ap (λ (k : ℕ). take k bytes) (sym long) ∙ take-length bytes

  module _ (len : ℕ) (le : len ≤ size) where
    -- the first places hold the first bytes
    pub first_run : take len cells.slots ≡ map Some (take len bytes)
    first_run = ap (take len) h.full ∙ take-map Some len bytes

    -- a list that fills those places is the first bytes
    pub first_bytes : (xs : List ℕ) → take len cells.slots ≡ map Some xs → xs ≡ take len bytes
    first_bytes xs e = sym (somes-map xs) ∙ ap somes (sym e ∙ first_run) ∙ somes-map (take len bytes)

    module _ (w : List ℕ) where
      -- the first bytes after the write
      abbrev pub new : List ℕ
      new = refill len (somes (take len cells.slots)) w

      abbrev pub slots : List (Option ℕ)
      slots = spliced cells.slots 0 len new

      first_long : length (take len bytes) ≡ len
      first_long = length-take-le len bytes (omega (arith, long))

      first_is : somes (take len cells.slots) ≡ take len bytes
      first_is = ap somes first_run ∙ somes-map (take len bytes)

      new_long : length new ≡ len
      new_long = sym (length_refill len (somes (take len cells.slots)) w (sym (ap length first_is ∙ first_long)))

      slots_are : slots ≡ map Some (new ++ drop len bytes)
      slots_are = ap (λ l. map Some new ++ l) ((λ i. drop (zero-add len i) (h.full i)) ∙ drop-map Some len bytes) ∙ map-append Some new (drop len bytes)

      -- the block that is written to is whole
      pub whole_written : IsWholeBlock base size (with_slots cells slots) deed alloc
      whole_written = record {
        together = h.together;
        full = slots_are ∙ ap (λ l. map Some l) (sym (somes-map (new ++ drop len bytes)) ∙ ap somes (sym slots_are));
        count = ap length slots_are ∙ length-map (new ++ drop len bytes) Some ∙ omega (arith, length-append new (drop len bytes), length-drop len bytes, new_long, long, le);
        few = h.few;
      }

      pub bytes_written : somes slots ≡ refill len (take len bytes) w ++ drop len bytes
      bytes_written = ap somes slots_are ∙ somes-map (new ++ drop len bytes) ∙ ap (λ l. refill len l w ++ drop len bytes) first_is

  -- all bytes may be written
  pub all_written : (w : List ℕ) → refill size (take size bytes) w ++ drop size bytes ≡ refill (length bytes) bytes w
  all_written w =
      ap (λ l. refill size (take size bytes) w ++ l) (drop_of_length-le bytes (omega (arith, long))) ∙ append-nil (refill size (take size bytes) w)
      ∙ (λ i. refill (sym long i) (all_bytes i) w)

-- places that all hold the byte x, and the right to free them, are a block
pub whole_new : (base : Base ℕ) (size : ℕ) (cells : Cells ℕ) (deed : Deed ℕ Global) (alloc : Global) (x : ℕ) → cells.at ≡ base.ptr → deed.at ≡ base.ptr → deed.len ≡ size → deed.alloc ≡ alloc
    → cells.slots ≡ replicate size (Some x) → size ≤ 2 ^ 28 → IsWholeBlock base size cells deed alloc
whole_new base size cells deed alloc x here there as_long by full few = record {
  together = (here, there, as_long, by);
  full = full ∙ all_filled size x ∙ ap (λ l. map Some (somes l)) (sym full);
  count = ap length full ∙ length-replicate size (Some x);
  few = few;
}
