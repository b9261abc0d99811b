-- Reads and writes one after the other.
use Rattle.std.proofs.Common.{◌≡◌, ℕ, ◌+◌, ◌-◌, ◌≤◌, List, ◌++◌, Option, None, Some, length, take, drop, true, sym, ap, subst, ◌∙◌, append_assoc, append-nil, take-append-drop, Result, Ok, Err, OnOk, arith}
use Rattle.std.proofs.KnownBytes.{Appends-kept}
use Rattle.std.proofs.Math.Seq.{take-add, take-append_seam}
use Rattle.std.proofs.lemmas.List.{take_rest, nil_from_length}
use Rattle.std.specs.Io.KnownBytes.{Appends, Consumes, Keeps}
use Rattle.mlt_host.specs.Count.{next, port_count}
use Rattle.mlt_host.specs.Streams.{SinkState, WroteFront, Writes}

-- what two reads took is the one's bytes and then the other's
consumes_both : (a b c : Option (List ℕ)) (first second : List ℕ) → Consumes a b first → Consumes b c second → Consumes a c (first ++ second)
consumes_both None b c first second p q = tt
consumes_both (Some x) None c first second p q = absurd p
consumes_both (Some x) (Some y) None first second p q = absurd q
consumes_both (Some x) (Some y) (Some z) first second p q = p ∙ ap (λ l. first ++ l) q ∙ sym (append_assoc first second z)

-- what two writes left is the one's bytes and then the other's
appends_both : (a b c : Option (List ℕ)) (first second : List ℕ) → Appends a b first → Appends b c second → Appends a c (first ++ second)
appends_both None b c first second p q = tt
appends_both (Some x) None c first second p q = absurd p
appends_both (Some x) (Some y) None first second p q = absurd q
appends_both (Some x) (Some y) (Some z) first second p q = q ∙ ap (λ l. l ++ second) p ∙ append_assoc x first second

-- a list that keeps its filled front, and gets what was read behind it
pub reads_more : (a b c : Option (List ℕ)) (before after : List ℕ) (filled count : ℕ) → take filled after ≡ take filled before → Consumes a b (take filled before) → Consumes b c (take count (drop filled after)) → Consumes a c (take (filled + count) after)
reads_more a b c before after filled count front read more =
    let joined : take (filled + count) after ≡ take filled before ++ take count (drop filled after) = take-add filled count after ∙ ap (λ l. l ++ take count (drop filled after)) front in
    subst (Consumes a c) (sym joined) (consumes_both a b c _ _ read more)

-- a list of which some was written, and then some of the rest
pub writes_more : (a b c : Option (List ℕ)) (all done rest : List ℕ) (count : ℕ) → all ≡ done ++ rest → Appends a b done → Appends b c (take count rest) → (written : List ℕ) × (all ≡ written ++ take (length rest - count) (drop count rest)) × Appends a c written
writes_more a b c all done rest count split wrote more =
    let parts : rest ≡ take count rest ++ take (length rest - count) (drop count rest) = sym (ap (λ l. take count rest ++ l) (take_rest rest count) ∙ take-append-drop count rest) in
    (done ++ take count rest, split ∙ ap (λ l. done ++ l) parts ∙ sym (append_assoc done _ _), appends_both a b c _ _ wrote more)

-- a list of which a front was written, and nothing after it
pub front_written : (a b c : Option (List ℕ)) (all done rest : List ℕ) → all ≡ done ++ rest → Appends a b done → Keeps b c → (kept : ℕ) × Appends a c (take kept all)
front_written a b c all done rest split wrote stays =
    let front : take (length done) all ≡ done = ap (take (length done)) split ∙ take-append_seam done rest in
    (length done, subst (Appends a c) (sym front) (Appends-kept a b c done wrote stays))

-- the count after one more is at most that
next_above : (number : ℕ) → next number ≤ number + 1
next_above number = omega arith

-- a write that failed ends with a front
pub fails : (bytes done rest : List ℕ) (a b c : SinkState) → bytes ≡ done ++ rest → Appends a.contents b.contents done → b.failures ≡ a.failures → b.flushes ≡ a.flushes → Keeps b.contents c.contents → c.failures ≡ next b.failures → c.flushes ≤ b.flushes + 1 → WroteFront bytes a c
fails bytes done rest a b c split wrote failures flushes stays failed flushed = record {
  front = front_written _ _ _ bytes done rest split wrote stays;
  failures = failed ∙ ap next failures;
  flushes = subst (λ n. c.flushes ≤ n + 1) flushes flushed;
}

-- a flush behind all the bytes ends an append
pub flush_ends : {T E : Type 0} (result : Result T E) (bytes done rest : List ℕ) (a b c : SinkState) → bytes ≡ done ++ rest → length rest ≡ 0 → Appends a.contents b.contents done → b.failures ≡ a.failures → b.flushes ≡ a.flushes → Keeps b.contents c.contents → c.failures ≡ port_count result b.failures → c.flushes ≡ next b.flushes → OnOk result (c.flushed ≡ true) → Writes result bytes a c
flush_ends (Ok _) bytes done rest a b c split none wrote failures flushes stays count once flushed = record {
  contents = subst (Appends a.contents c.contents) (sym (split ∙ ap (λ l. done ++ l) (nil_from_length rest none) ∙ append-nil done)) (Appends-kept a.contents b.contents c.contents done wrote stays);
  failures = count ∙ failures;
  flushes = once ∙ ap next flushes;
  flushed = flushed;
}
flush_ends (Err _) bytes done rest a b c split none wrote failures flushes stays count once flushed =
    fails bytes done rest a b c split wrote failures flushes stays count (subst (λ n. n ≤ b.flushes + 1) (sym once) (next_above b.flushes))
