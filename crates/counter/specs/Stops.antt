-- How the program ends: what is done where its exit status is 0, and what is left where that is 1.
use Rattle.std.specs.Prelude.{◌≡◌, ◌⊎◌, true, false, ℕ, List, Option, ◌++◌}
use Rattle.std.specs.Io.KnownBytes.{Appends}
use Rattle.clap.specs.Words.{Text}
use Rattle.audit.specs.{Auditor.IsMet, declared.fault.ExtractFault.ExtractFault}
use Rattle.command_line.specs.declared.words.ContinueWords.{ContinueWords}
use Rattle.command_line.specs.{Words.Asks, Words.AsksHelp, declared.words.AuditWords.AuditWords}
use Rattle.command_line.specs.{declared.words.Word.Word, declared.words.Word.TheVariants.Audit}
use Rattle.connections.specs.Clock.{Reading}
use Rattle.console.specs.declared.fault.InputFault.TheVariants.{Failed}
use Rattle.console.specs.{Fault.fault_line, Files.Source, Writes.Begins, declared.fault.Fault.Fault}
use Rattle.console.specs.declared.fault.Fault.TheVariants as program
use Rattle.counter.specs.Extract.{IsExamining, CutsExtract, Extracts, StopsCheck}
use Rattle.counter.specs.{Does.Does, Streams.Streams, Streams.begun, Streams.whole}
use Rattle.operations.specs.{Audits.Failure, Audits.TellsSome, Audits.failing_lines, Machine.Machine}

-- A fault stopped it, whose line is told on standard error, or a beginning of that line; or stamps fail their check.
pub data Stops {D X C S F O : Type 0} (m : Machine D X C Reading) (IsContinued : ContinueWords → Type 0)
    (files : Source S F) (texts : List Text) (s : Streams O) : Type 0 where
  -- nothing is written to the output, and a fault is told, of whose cause, and of what was done before it, nothing is
  -- said
  tells_fault : (fault : Fault) → s.contents s.output_after ≡ s.contents s.output
      → Begins s.errors s.errors_after (fault_line fault) → Stops m IsContinued files texts s
  -- help is asked for, and couldn't be written whole; how much of it was, isn't said
  in_help : AsksHelp texts → (fault : Fault) → Begins s.errors s.errors_after (fault_line fault)
      → Stops m IsContinued files texts s
  -- a beginning of what the words ask for is written, and then a stream fails: `input` 5
  in_answer : (word : Word) → Asks texts word
      → Does m IsContinued files s word begun
      → Begins s.errors s.errors_after (fault_line (program.Input Failed)) → Stops m IsContinued files texts s
  -- a beginning of an extract is written, which is then refused as the database, memory or the output fail
  in_extract : (words : AuditWords) → Asks texts (Audit words)
      → CutsExtract files words (Begins (s.contents s.output) (s.contents s.output_after))
      → (refusal : ExtractFault) → IsMet refusal
      → Begins s.errors s.errors_after (fault_line (program.Audit refusal)) → Stops m IsContinued files texts s
  -- the extract is written, and lines of what fails, if anything; then its check is refused
  in_check : (words : AuditWords) → Asks texts (Audit words) → IsExamining words
      → CutsExtract files words (Appends (s.contents s.output) (s.contents s.output_after))
      → (failures : List Failure) → (fault : Fault) → StopsCheck fault
      → Begins s.errors s.errors_after (failing_lines failures ++ fault_line fault) → Stops m IsContinued files texts s
  -- the extract is written, and lines of what fails its check, of which there is one
  failing : (words : AuditWords) → Asks texts (Audit words) → IsExamining words
      → Extracts m files words (s.contents s.output) (s.contents s.output_after) s.errors s.errors_after false
      (Appends (s.contents s.output) (s.contents s.output_after))
      → TellsSome s.errors s.errors_after → Stops m IsContinued files texts s

-- By its exit status: all is done, what the words ask for is written, or they ask for help; or it was stopped.
pub record Exits {D X C S F O : Type 0} (m : Machine D X C Reading) (IsContinued : ContinueWords → Type 0)
    (files : Source S F) (s : Streams O) (texts : List Text) (status : ℕ) : Type 0 where
  pub done : status ≡ 0 → ((word : Word) × Asks texts word × Does m IsContinued files s word whole) ⊎ AsksHelp texts
  pub stopped : status ≡ 1 → Stops m IsContinued files texts s
