-- What a handler does with a whole request: a stepping stone of the proofs.
use Rattle.std.specs.Prelude.{ℕ, ℤ, List, Option, Result}
use Rattle.book.specs.declared.standing.Standing.{Ghosts}
use Rattle.cms.specs.declared.signer.SignerFault.{SignerFault}
use Rattle.desk.specs.{CallContract.DeskValue, MachineRuns.Told}
use Rattle.service.specs.Requests.{Asked, IsRequest, Report}
use Rattle.service.specs.{Heads.HeadValue, Answers.AnswerValue, Reports.Reports, Reports.Seen, Served.Sends}
use Rattle.service.specs.{Served.Serves, declared.refusal.Refusal.Refusal, declared.served.Served.Served}

-- a whole request, and the clock's reading
pub record RequestValue : Type 0 where
  pub reading : ℤ
  pub head : HeadValue
  pub body : List ℕ

module _ {W B : Type 0} (g : Ghosts B) (contents : W → Option (List ℕ)) where
  -- a report is answered
  abbrev pub AnswersReport : Seen → W → W → DeskValue B → DeskValue B → Report → Served → Type 0
  AnswersReport seen w w' old new r outcome =
      (a : AnswerValue) × Reports g seen old new r a × Sends contents seen.reading w w' a outcome

module _ {W B X : Type 0} (g : Ghosts B) (signs : X → List ℕ → Result (List ℕ) SignerFault → X → Type 0) (count : X → ℕ)
    (contents : W → Option (List ℕ)) where
  -- what is served of an input from which a request was read that asks for this
  abbrev pub Handles : ℤ → Result Asked Refusal → W → W → DeskValue B → DeskValue B → X → X → Served → Type 0
  Handles reading asked w w' d d' x x' outcome =
      (steps : List Told) × ((before after : Option (List ℕ)) → IsRequest d.setting.file reading before after asked
      → Serves g signs count contents reading (record {
        input = before;
        input_after = after;
        writer = w;
        writer_after = w';
        desk = d;
        desk_after = d';
        signer = x;
        signer_after = x';
      }) steps outcome)
