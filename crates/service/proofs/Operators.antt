-- What an operator's form has, and what is answered to it.
use Rattle.std.proofs.Common.{◌≡◌, ◌∙◌, ℕ, ℤ, List, ◌∷◌, true, false, Option, Some, Result, Ok, Err, refl, ap, inl, inr}
use Rattle.std.proofs.Common.{subst}
use Rattle.std.specs.{Prelude.IfErr, Str.bytes_eq}
use Rattle.book.specs.declared.fault.StoreFault.{StoreFault}
use Rattle.book.specs.History.{History, CalibrationValue, HoldValue, latest_calibration}
use Rattle.book.specs.{Fault.IsOfStorage, declared.standing.Standing.Ghosts, Sound.IsBackwards, Stands.Stands}
use Rattle.book.specs.declared.fault.StoreFault.TheVariants as store
use Rattle.cms.specs.declared.signer.SignerFault.{SignerFault}
use Rattle.desk.specs.declared.clock_facts.Looked.{Looked}
use Rattle.desk.specs.{Answers.entered, Calls.looked_at, CallContract.DeskValue, Command.Calibrate, Command.Hold}
use Rattle.policy.specs.Record.{CounterValue}
use Rattle.service.specs.{Answers.success, Forms.field_of, Handlers.AnswersReport, Reports.IsBodyOf, Reports.Seen}
use Rattle.service.specs.{Reports.tells, Requests.Status, Served.Sends, Served.Tells, Served.plainly, Served.backwards}
use Rattle.service.specs.{Status.IsStatusText, declared.served.Served.Served, Views.added_answer}
use Rattle.service.specs.declared.answer.Media.TheVariants as media

-- the first field has the name, or it is looked for among the others
pub found_first : (name : List ℕ) (field : List ℕ × List ℕ) (fields : List (List ℕ × List ℕ))
    → bytes_eq field.0 name ≡ true → field_of name (field ∷ fields) ≡ Some field.1
found_first name field fields is = rw is

pub found_later : (name : List ℕ) (field : List ℕ × List ℕ) (fields : List (List ℕ × List ℕ))
    → bytes_eq field.0 name ≡ false → field_of name (field ∷ fields) ≡ field_of name fields
found_later name field fields is = rw is

-- the state of the clock as it was looked at, and the store's count of faults since
pub status_told : {B W : Type 0} (g : Ghosts B) (contents : W → Option (List ℕ)) (seen : Seen) (w w' : W)
    (old new : DeskValue B) (counter : CounterValue) (asked : ℤ) (looked : Looked) (store : ℕ) (body : List ℕ)
    (outcome : Served) → IsStatusText counter looked store seen.faults seen.octets body
    → counter ≡ old.setting.file.counter → asked ≡ seen.reading
    → (g.honest new.store → (b : History) → Stands g b old.store → looked ≡ looked_at asked b)
    → store ≡ g.fault_count new.store → Sends contents seen.reading w w' (success 200 media.Text body) outcome
    → AnswersReport g contents seen w w' old new Status outcome
unfolding IsBodyOf
status_told g contents seen w w' old new counter asked looked store body outcome text of at finds counted sent = (
  success 200 media.Text body,
  tells body (λ honest b stands.
      let C : CounterValue → Type 0 = λ x. IsStatusText x looked store seen.faults seen.octets body in
      let L : Looked → Type 0 =
      λ x. IsStatusText old.setting.file.counter x store seen.faults seen.octets body in
      let S : ℕ → Type 0 =
      λ x. IsStatusText old.setting.file.counter (looked_at seen.reading b) x seen.faults seen.octets body in
      subst S counted (subst L (finds honest b stands ∙ ap (λ x. looked_at x b) at) (subst C of text))) refl,
  sent,
)

module _ {B X : Type 0} (g : Ghosts B) (signs : X → List ℕ → Result (List ℕ) SignerFault → X → Type 0) (count : X → ℕ)
    (old new : DeskValue B) where
  -- what is told of a calibration
  pub calibration_told : (x : CalibrationValue) (outcome : Result ℕ StoreFault)
      → (g.honest new.store → (b : History) → Stands g b old.store → outcome ≡ Err store.Backwards
      → IsBackwards x (latest_calibration b))
      → Tells g signs count old new (Calibrate x) (entered outcome) (added_answer outcome)
  calibration_told x (Err store.Backwards) behind =
      backwards x refl refl (λ honest b stands. behind honest b stands refl) refl
  calibration_told x (Ok number) behind = plainly refl
  calibration_told x (Err other) behind = plainly refl

  -- what is told of a hold
  pub hold_told : (x : HoldValue) (outcome : Result ℕ StoreFault) → IfErr outcome IsOfStorage
      → Tells g signs count old new (Hold x) (entered outcome) (added_answer outcome)
  hold_told x (Err store.Backwards) (inl other) = absurd cc
  hold_told x (Err store.Backwards) (inr other) = absurd cc
  hold_told x (Ok number) of = plainly refl
  hold_told x (Err other) of = plainly refl
