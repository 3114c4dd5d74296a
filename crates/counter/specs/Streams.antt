-- The streams of a process.
use Rattle.std.specs.{Prelude.ℕ, Prelude.List, Prelude.Option, Io.KnownBytes.Appends}
use Rattle.console.specs.Writes.{Begins}

-- how much is written of what is to be: all of it, or a beginning, as a stream failed
pub data Extent : Type 0 where
  whole : Extent
  begun : Extent

-- so much of these octets is written, where the stream tells
abbrev pub WritesSo : Extent → (out out' : Option (List ℕ)) → List ℕ → Type 0
WritesSo whole out out' octets = Appends out out' octets
WritesSo begun out out' octets = Begins out out' octets

-- what is left of the input, the output, and what was written to standard error: before the words are done and after
-- it. `None` where a stream doesn't tell its octets, as the machine's don't: nothing is said of these.
pub record Streams (O : Type 0) : Type 0 where
  pub input : Option (List ℕ)
  pub input_after : Option (List ℕ)
  pub contents : O → Option (List ℕ)
  pub output : O
  pub output_after : O
  pub errors : Option (List ℕ)
  pub errors_after : Option (List ℕ)

abbrev pub streams_of : {O : Type 0} → Option (List ℕ) → Option (List ℕ) → (O → Option (List ℕ)) → O → O
    → Option (List ℕ) → Option (List ℕ) → Streams O
streams_of input input' contents output output' errors errors' = record {
  input = input;
  input_after = input';
  contents = contents;
  output = output;
  output_after = output';
  errors = errors;
  errors_after = errors';
}

-- so much of these octets is written to the output
abbrev pub Writes : {O : Type 0} → Streams O → Extent → List ℕ → Type 0
Writes s extent = WritesSo extent (s.contents s.output) (s.contents s.output_after)
