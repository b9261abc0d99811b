-- What a file or a stream tells of itself to those that read it or write to it, and its counts.
use Rattle.std.specs.Prelude.{◌≡◌, ◌≤◌, ◌+◌, ℕ, List, take, Bool, true, Option, Some, None, Result, Ok, Err, IsErr}
use Rattle.std.specs.Io.KnownBytes.{Appends}
use Rattle.mlt_host.specs.Count.{next}

-- a file that is read: the bytes that are left, where they are known, and how often a read has failed
pub record SourceState : Type 0 where
  pub left : Option (List ℕ)
  pub failures : ℕ

-- a file that is written
pub record SinkState : Type 0 where
  -- the bytes that it holds, where they are known
  pub contents : Option (List ℕ)
  -- how often a write or a flush has failed
  pub failures : ℕ
  -- how often it was flushed
  pub flushes : ℕ
  -- nothing was written since the last flush
  pub flushed : Bool

-- all the bytes were written behind those from before, without a failure, and then it was flushed once
pub record Wrote (bytes : List ℕ) (old new : SinkState) : Type 0 where
  pub contents : Appends old.contents new.contents bytes
  pub failures : new.failures ≡ old.failures
  pub flushes : new.flushes ≡ next old.flushes
  pub flushed : new.flushed ≡ true

-- a front of the bytes was written, and then a write or the flush failed once
pub record WroteFront (bytes : List ℕ) (old new : SinkState) : Type 0 where
  pub front : (kept : ℕ) × Appends old.contents new.contents (take kept bytes)
  pub failures : new.failures ≡ next old.failures
  pub flushes : new.flushes ≤ old.flushes + 1

-- what each answer of an append says of the file or the stream that it writes to
abbrev pub Writes : {T E : Type 0} → Result T E → List ℕ → SinkState → SinkState → Type 0
Writes (Ok _) bytes old new = Wrote bytes old new
Writes (Err _) bytes old new = WroteFront bytes old new

-- the same where there may be none to write to: then the answer is an Err
abbrev pub WritesTo : {T E : Type 0} → Result T E → List ℕ → Option SinkState → Option SinkState → Type 0
WritesTo result bytes None new = IsErr result × (new ≡ None)
WritesTo result bytes (Some old) None = ⊥
WritesTo result bytes (Some old) (Some new) = Writes result bytes old new
