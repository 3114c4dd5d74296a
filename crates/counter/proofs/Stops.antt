-- What is left where the exit status is 1, out of what a word leaves and the line that is then told.
use Rattle.std.proofs.Common.{◌≡◌, ◌≢◌, ◌⊎◌, ℕ, false, List, Option, refl, subst, inl, inr}
use Rattle.std.specs.Io.KnownBytes.{Appends}
use Rattle.clap.specs.Words.{Text}
use Rattle.command_line.specs.{Words.Asks, declared.words.AuditWords.AuditWords, declared.words.Word.Word}
use Rattle.command_line.specs.{declared.words.ContinueWords.ContinueWords, declared.words.Word.TheVariants.Audit}
use Rattle.connections.specs.Clock.{Reading}
use Rattle.console.specs.{Fault.fault_line, Files.Source, Writes.Begins, declared.fault.Fault.Fault}
use Rattle.console.specs.{declared.fault.Fault.TheVariants.Input, declared.fault.InputFault.TheVariants.Failed}
use Rattle.console.proofs.Writes.{begins_after}
use Rattle.operations.specs.{Audits.TellsSome, Audits.failing_lines, Machine.Machine}
use Rattle.counter.specs.Extract.{IsExamining, Extracts, LeavesAudit}
use Rattle.counter.specs.Stops.{Stops, tells_fault, in_answer, in_extract, in_check, failing}
use Rattle.counter.specs.{Does.Does, Does.IsNoAudit, Streams.Extent, Streams.begun, Streams.streams_of}
use Rattle.counter.specs.{declared.run.Outcome.Outcome, declared.run.Outcome.TheVariants.Failing}
use Rattle.counter.specs.Extract as left

-- a word is `audit` or another
pub audit_or_not : (word : Word) → ((words : AuditWords) × (word ≡ Audit words)) ⊎ IsNoAudit word
audit_or_not (Audit words) = inl (words, refl)
audit_or_not _ = inr (λ other e. cc e)

pub failing_or_not : (outcome : Outcome) → (outcome ≡ Failing) ⊎ (outcome ≢ Failing)
failing_or_not Failing = inl refl
failing_or_not _ = inr (λ e. cc e)

module _ {D X C S F O : Type 0} (m : Machine D X C Reading) (IsContinued : ContinueWords → Type 0) (files : Source S F)
    (texts : List Text) (input input' : Option (List ℕ)) (contents : O → Option (List ℕ)) (out out' : O)
    (old : Option (List ℕ)) where
  -- another word doesn't speak of standard error
  still_does : (mid new : Option (List ℕ)) (extent : Extent) (word : Word) → IsNoAudit word
      → Does m IsContinued files (streams_of input input' contents out out' old mid) word extent
      → Does m IsContinued files (streams_of input input' contents out out' old new) word extent
  still_does mid new extent (Audit words) none it = absurd (none words refl)
  still_does mid new extent _ none it = it

  module _ (word : Word) (asks : Asks texts word) where
    asks_audit : (words : AuditWords) → word ≡ Audit words → Asks texts (Audit words)
    asks_audit words is = subst (Asks texts) is asks

    -- stamps fail, and no fault stopped the check
    pub failing_stops : (new : Option (List ℕ))
        → ((words : AuditWords) × (word ≡ Audit words) × IsExamining words
        × Extracts m files words (contents out) (contents out') old new false (Appends (contents out) (contents out'))
        × TellsSome old new)
        → Stops m IsContinued files texts (streams_of input input' contents out out' old new)
    failing_stops new fails = failing fails.0 (asks_audit fails.0 fails.1) fails.2 fails.3 fails.4

    module _ (mid new : Option (List ℕ)) (fault : Fault) (line : Begins mid new (fault_line fault)) where
      untold : mid ≡ old → Begins old new (fault_line fault)
      untold same = subst (λ o. Begins o new (fault_line fault)) same line

      -- an audit is refused, and its fault's line is told
      pub cut_stops : (words : AuditWords) → word ≡ Audit words
          → LeavesAudit files words (contents out) (contents out') old mid fault
          → Stops m IsContinued files texts (streams_of input input' contents out out' old new)
      cut_stops words is (left.nothing same silent) = tells_fault fault same (untold silent)
      cut_stops words is (left.in_extract cut refusal met tells silent) =
          in_extract words (asks_audit words is) cut refusal met
          (subst (λ f. Begins old new (fault_line f)) tells (untold silent))
      cut_stops words is (left.in_check cut check stops failures told) =
          in_check words (asks_audit words is) check cut failures fault stops
          (begins_after old mid new (failing_lines failures) (fault_line fault) told line)

      -- another word is, or a stream failed while its answer was written
      pub other_stops : IsNoAudit word → mid ≡ old
          → ((contents out' ≡ contents out)
          ⊎ ((fault ≡ Input Failed) × Does m IsContinued files (streams_of input input' contents out out' old mid) word begun))
          → Stops m IsContinued files texts (streams_of input input' contents out out' old new)
      other_stops none silent (inl same) = tells_fault fault same (untold silent)
      other_stops none silent (inr failed) =
          in_answer word asks (still_does mid new begun word none failed.1)
          (subst (λ f. Begins old new (fault_line f)) failed.0 (untold silent))
