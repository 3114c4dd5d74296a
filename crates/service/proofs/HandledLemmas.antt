-- What handlers do, out of what their checks, the desk's calls and the answers that are written say.
use Rattle.std.proofs.Common.{◌≡◌, ℕ, ℤ, List, [], ◌∷◌, Option, Result, Ok, Err, refl, subst}
use Rattle.book.specs.{declared.standing.Standing.Ghosts, Readers.Reader, Stands.OnlyLooks}
use Rattle.cms.specs.declared.signer.SignerFault.{SignerFault}
use Rattle.desk.specs.CallContract.{DeskValue, IsStep, no_signer}
use Rattle.desk.specs.declared.rights.Change.TheVariants.{Give, Take}
use Rattle.desk.specs.{Command.Command, Command.Answer, Asked.right_command, declared.rights.Change.Change}
use Rattle.policy.specs.Record.{AccountValue}
use Rattle.service.specs.Requests.{Asked, Report, Step, Look, Extract}
use Rattle.service.specs.{auxiliary.ExtractAnswers.ServesExtract, Handlers.AnswersReport, Handlers.Handles}
use Rattle.service.specs.{Answers.AnswerValue, Answers.answer_to, Answers.refusal_answer, Served.Sends, Served.Steps}
use Rattle.service.specs.{Served.Tells, Served.plainly, declared.refusal.Refusal.Refusal, declared.served.Served.Served}
use Rattle.service.proofs.ServingLemmas.{sends, refusing, answering_auditor, reporting}

module _ {W B X : Type 0} (g : Ghosts B) (signs : X → List ℕ → Result (List ℕ) SignerFault → X → Type 0) (count : X → ℕ)
    (contents : W → Option (List ℕ)) (reading : ℤ) (w w' : W) (d d' : DeskValue B) (x x' : X) (outcome : Served) where
  abbrev Handled : Result Asked Refusal → Type 0
  Handled asked = Handles g signs count contents reading asked w w' d d' x x' outcome

  -- what is asked for is what the checks say
  pub handled : (asked found : Result Asked Refusal) → found ≡ asked → Handled found → Handled asked
  handled asked found is = subst (λ a. Handled a) is

  pub refused : (f : Refusal) → d' ≡ d → x' ≡ x → Sends contents reading w w' (refusal_answer f) outcome
      → Handled (Err f)
  refused f desk signer sent = (
    [],
    λ before after request. refusing g signs count contents reading _ f outcome request (record {
      desk = desk;
      signer = signer;
    }) sent,
  )

  pub told : (c : Command) (reply : Answer) (a : AnswerValue) → Steps g signs count d d' x x' c reply
      → Tells g signs count d d' c reply a → Sends contents reading w w' a outcome → Handled (Ok (Step c))
  told c reply a takes tells sent = (
    record { command = c; answer = reply } ∷ [],
    λ before after request.
        sends g signs count contents reading _ (record { command = c; answer = reply } ∷ []) a outcome (request, takes)
        tells sent,
  )

  -- what the desk answers is told
  pub told_plainly : (c : Command) (reply : Answer) → Steps g signs count d d' x x' c reply
      → Sends contents reading w w' (answer_to c reply) outcome → Handled (Ok (Step c))
  told_plainly c reply takes sent = told c reply (answer_to c reply) takes (plainly refl) sent

  pub extracted : (account : AccountValue) (from to : ℕ) → OnlyLooks g d.store d'.store → x' ≡ x
      → ServesExtract g contents reading w w' d.store d'.store d.setting.file account from to outcome
      → Handled (Ok (Look (Extract account from to)))
  extracted account from to looks signer served = (
    [],
    λ before after request.
        answering_auditor g signs count contents reading _ account from to outcome request (looks, signer) served,
  )

  -- a report that a look gives
  pub reported : (report : Report) (octets : Option ℕ) → OnlyLooks g d.store d'.store → x' ≡ x
      → AnswersReport g contents (record { reading = reading; faults = count x'; octets = octets }) w w' d d' report
      outcome
      → Handled (Ok (Look report))
  reported report octets looks signer told = (
    [],
    λ before after request.
        reporting g signs count contents reading _ report told.0 outcome request (looks, signer) (octets, told.1)
        told.2,
  )

-- a right is given or taken
pub right_steps : {B X : Type 0} (g : Ghosts B) (signs : X → List ℕ → Result (List ℕ) SignerFault → X → Type 0)
    (count : X → ℕ) (old new : DeskValue B) (x : X) (change : Change) (account : AccountValue) (number : ℕ)
    (reader : Reader) (reply : Answer) → IsStep g no_signer (right_command change account number reader) old new reply
    → Steps g signs count old new x x (right_command change account number reader) reply
right_steps g signs count old new x Give account number reader reply step = (step, refl)
right_steps g signs count old new x Take account number reader reply step = (step, refl)
