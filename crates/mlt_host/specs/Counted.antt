-- What a reader or a writer of std tells once its failures are counted.
use Rattle.std.specs.Prelude.{ℕ, List, Option}
use Rattle.mlt_host.specs.declared.counted.Counted.{Counted}
use Rattle.mlt_host.specs.Streams.{SourceState, SinkState}

-- the reader or the writer itself
abbrev pub inner_of : {W : Type 0} → Counted W → W
inner_of counted = counted.inner

-- how often a read has failed
abbrev pub read_failures_of : {W : Type 0} → Counted W → ℕ
read_failures_of counted = counted.read_failures

-- how often a write or a flush has failed
abbrev pub write_failures_of : {W : Type 0} → Counted W → ℕ
write_failures_of counted = counted.write_failures

-- how often it was flushed
abbrev pub flushes_of : {W : Type 0} → Counted W → ℕ
flushes_of counted = counted.flushes

-- what it tells to those that read it, by what the reader tells of the bytes that are left
abbrev pub counted_source : {R : Type 0} → (R → Option (List ℕ)) → Counted R → SourceState
counted_source remaining counted = record { left = remaining counted.inner; failures = counted.read_failures }

-- what it tells to those that write it, by what the writer tells of the bytes that it holds
abbrev pub counted_sink : {W : Type 0} → (W → Option (List ℕ)) → Counted W → SinkState
counted_sink contents counted = record {
  contents = contents counted.inner;
  failures = counted.write_failures;
  flushes = counted.flushes;
  flushed = counted.flushed;
}
