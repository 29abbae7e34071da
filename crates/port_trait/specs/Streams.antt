-- What the calls of a source do to what it has left, and those of a sink to what it took. Contents that
-- aren't told are None before and after.
use Rattle.std.specs.Prelude.{◌≡◌, ℕ, ◌≤◌, Bool, true, false, List, [], ◌++◌, length, take, Option, option_map, IfSome}
use Rattle.std.specs.Io.KnownBytes.{Keeps, Consumes, Appends, IsAtEnd}
use Rattle.port_trait.specs.declared.answers.SourceGot.{SourceGot}
use Rattle.port_trait.specs.declared.answers.SourceGot.TheVariants as gives
use Rattle.port_trait.specs.declared.answers.SinkTook.{SinkTook}
use Rattle.port_trait.specs.declared.answers.Got.{Got}
use Rattle.port_trait.specs.declared.answers.Got.TheVariants as reads
use Rattle.port_trait.specs.declared.answers.Took.{Took as WriteAnswer}
use Rattle.port_trait.specs.declared.answers.Took.TheVariants as writes
use Rattle.port_trait.specs.declared.answers.SinkTook.TheVariants as takes
use Rattle.relay_model.specs.{Shut}
use Rattle.relay_model.specs.declared.acts.Shut.TheVariants as ways

-- what is left lost these bytes at its front
abbrev pub Loses : Option (List ℕ) → Option (List ℕ) → List ℕ → Type 0
Loses before now bytes = before ≡ option_map (λ rest. bytes ++ rest) now

-- what a source has left after it answered so
abbrev pub SourceGives : Option (List ℕ) → Option (List ℕ) → List ℕ → SourceGot → Type 0
SourceGives before now into (gives.Bytes n) = (1 ≤ n) × (n ≤ length into) × Loses before now (take n into)
SourceGives before now into gives.End = (now ≡ before) × IfSome now (λ rest. rest ≡ [])
SourceGives before now into gives.Failed = now ≡ before

-- a source failed
abbrev pub source_failed : SourceGot → Bool
source_failed (gives.Bytes n) = false
source_failed gives.End = false
source_failed gives.Failed = true

-- a source met its end
abbrev pub source_ended : SourceGot → Bool
source_ended (gives.Bytes n) = false
source_ended gives.End = true
source_ended gives.Failed = false

-- what a sink took when it answered so
abbrev pub SinkTakes : Option (List ℕ) → Option (List ℕ) → List ℕ → SinkTook → Type 0
SinkTakes before now bytes (takes.Took n) = (1 ≤ n) × (n ≤ length bytes) × (now ≡ option_map (λ all. all ++ take n bytes) before)
SinkTakes before now bytes takes.Failed = now ≡ before

-- a sink failed
abbrev pub sink_failed : SinkTook → Bool
sink_failed (takes.Took n) = false
sink_failed takes.Failed = true

-- what a reader of std has left after a source over it answered so; where it isn't known, nothing is said
abbrev pub ReaderGives : Option (List ℕ) → Option (List ℕ) → List ℕ → SourceGot → Type 0
ReaderGives before now into (gives.Bytes n) = Consumes before now (take n into)
ReaderGives before now into gives.End = Keeps before now × IsAtEnd now
ReaderGives before now into gives.Failed = Keeps before now

-- what a writer of std holds after a sink over it answered so; where it isn't known, nothing is said
abbrev pub WriterTakes : Option (List ℕ) → Option (List ℕ) → List ℕ → SinkTook → Type 0
WriterTakes before now bytes (takes.Took n) = Appends before now (take n bytes)
WriterTakes before now bytes takes.Failed = Keeps before now

-- what it holds after all of the bytes were to be written: all of them more, or those before a fault
abbrev pub WriterTakesAll : Option (List ℕ) → Option (List ℕ) → List ℕ → WriteAnswer → Type 0
WriterTakesAll before now bytes (writes.Took n) = (n ≡ length bytes) × Appends before now bytes
WriterTakesAll before now bytes writes.NotYet = ⊥
WriterTakesAll before now bytes writes.Failed = (n : ℕ) × (n ≤ length bytes) × Appends before now (take n bytes)

-- the answer of a source that stands behind this answer of a port
abbrev pub as_source_answer : Got → SourceGot
as_source_answer (reads.Bytes n) = gives.Bytes n
as_source_answer reads.Empty = gives.Failed
as_source_answer reads.End = gives.End
as_source_answer reads.NotYet = gives.Failed
as_source_answer reads.Failed = gives.Failed

-- the answer of a sink that stands behind this answer of a port
abbrev pub as_sink_answer : WriteAnswer → SinkTook
as_sink_answer (writes.Took n) = takes.Took n
as_sink_answer writes.NotYet = takes.Failed
as_sink_answer writes.Failed = takes.Failed

-- whether an end that is passed on in this way is the end of a sink's bytes
abbrev pub finishes : Shut → Bool
finishes ways.Nothing = false
finishes ways.Down = true
finishes ways.Close = true
finishes ways.Null = false
