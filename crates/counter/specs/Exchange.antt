-- What `exchange` does: one HTTP request is answered (RFC 9110).
use Rattle.std.specs.Prelude.{◌≡◌, ◌⊎◌, pos, ℤ, ℕ, List, [], Option}
use Rattle.std.specs.Io.KnownBytes.{Consumes, IsAtEnd, Keeps}
use Rattle.policy.specs.Record.{PolicyValue}
use Rattle.desk.specs.MachineRuns.{Told}
use Rattle.service.specs.declared.served.Served.TheVariants.{Closed, Answered, ReadFailed, WriteFailed}
use Rattle.service.specs.{Answers.AnswerValue, Answers.answer_text, declared.served.Served.Served, Served.Serves}
use Rattle.connections.specs.Clock.{Reading}
use Rattle.operations.specs.OverFiles.{IsAny, IsDoneOver, IsReached}
use Rattle.operations.specs.{SignerSource.algorithm_of, Machine.Machine, Visits.IsVisited}
use Rattle.command_line.specs.declared.words.ExchangeWords.{ExchangeWords}
use Rattle.console.specs.declared.fault.InputFault.TheVariants.{Failed}
use Rattle.console.specs.{Files.Source, declared.fault.Fault.Fault, declared.fault.Fault.TheVariants.Input}
use Rattle.counter.specs.Streams.{Extent, WritesSo, whole, begun}
use Rattle.counter.specs.{Files.ReadsDesk, Files.setting_of, HttpRequest.AsksExtract, HttpRequest.IsAnswerFor}

-- The input is at its end, and nothing is written; or it is a request, and what is written is an answer's text; or it
-- asks for an extract that may be given, of which the database alone tells what is written.
abbrev pub WritesAnswer : PolicyValue → ℤ → Option (List ℕ) → Option (List ℕ) → (List ℕ → Type 0) → Type 0
WritesAnswer policy reading old new IsWritten =
    (Consumes old new [] × IsAtEnd new × IsWritten [])
    ⊎ (((answer : AnswerValue) × IsAnswerFor policy reading old new answer × IsWritten (answer_text reading answer))
    ⊎ (AsksExtract policy reading old new × ((octets : List ℕ) × IsWritten octets)))

-- how an exchange ends: nothing was asked, or the answer was sent
abbrev pub HasEnded : Served → (mid after : Option (List ℕ)) → Type 0
HasEnded Closed mid after = after ≡ mid
HasEnded (Answered status) mid after = Keeps mid after
HasEnded ReadFailed mid after = ⊥
HasEnded (WriteFailed status sent) mid after = ⊥

-- how it is stopped: the answer couldn't be sent, or a stream failed before that
abbrev pub HasStopped : Served → (mid after : Option (List ℕ)) → Fault → Type 0
HasStopped Closed mid after fault = ⊥
HasStopped (Answered status) mid after fault = (fault ≡ Input Failed) × Keeps mid after
HasStopped ReadFailed mid after fault = (fault ≡ Input Failed) × (after ≡ mid)
HasStopped (WriteFailed status sent) mid after fault = (fault ≡ Input Failed) × (after ≡ mid)

-- either, by how much is written
abbrev pub Ends : Extent → Served → (mid after : Option (List ℕ)) → Type 0
Ends whole outcome mid after = HasEnded outcome mid after
Ends begun outcome mid after = HasStopped outcome mid after (Input Failed)

pub record Exchanges {D X C S F O : Type 0} (m : Machine D X C Reading) (files : Source S F) (words : ExchangeWords)
    (contents : O → Option (List ℕ)) (output output' : O) (input input' : Option (List ℕ)) (extent : Extent)
    : Type 0 where
  -- what the files say by which the desk answers: policy, certificate and chain, and who signs
  pub read : ReadsDesk files words.desk
  -- by that policy, at the reading that the words state, the input is answered, or is at its end
  pub writes : WritesAnswer read.policy (pos words.reading) input input'
      (WritesSo extent (contents output) (contents output'))
  -- a desk is opened over the store of the database, which installs the identity unless it is the latest there; with a
  -- signer of that algorithm the request is served, which leaves the output so
  pub output_served : O
  pub outcome : Served
  pub served : IsDoneOver m.disk m.held (λ g opened left.
      IsVisited g (setting_of read) (IsReached m.signer (algorithm_of read.signing)) IsAny opened left
      (λ desk desk' signer signer'. (steps : List Told)
      × Serves g m.signer.signs m.signer.fault_count contents (pos words.reading) (record {
        input = input;
        input_after = input';
        writer = output;
        writer_after = output_served;
        desk = desk;
        desk_after = desk';
        signer = signer;
        signer_after = signer';
      }) steps outcome))
  -- and then it is flushed, or its stream failed
  pub ends : Ends extent outcome (contents output_served) (contents output')
