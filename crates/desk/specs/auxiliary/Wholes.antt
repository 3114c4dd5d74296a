-- A stamp in its parts: what a beginning, a signature and an end met and did is what the whole stamp met and did.
use Rattle.std.specs.Prelude.{◌≡◌, ◌⊎◌, ℕ, List, [], ◌∷◌, ◌++◌, Option, Some, None, Result, Ok, Err, OnOk, IfErr}
use Rattle.book.specs.{declared.standing.Standing.Ghosts, History.Entry, History.History, Sound.Fits, Stands.Stands}
use Rattle.cms.specs.{SignedData.attribute_text, declared.signer.SignerFault.SignerFault}
use Rattle.cms.specs.declared.signer.SignerFault.TheVariants as signer
use Rattle.desk.specs.Outcome.{Fine, Failed, Outcome, Cause, OfMemory, OfStore, OfSigner, Refusal, ByCause, counted}
use Rattle.desk.specs.Effects.{Effect, Keeping, Purpose, refused_for, no_seal}
use Rattle.desk.specs.{Fit.IsUncounted, Fit.IsUnfailed, Command.PendingValue, Command.Answer, Texts.token_with}
use Rattle.desk.specs.{Answers.ended_as, CallContract.SignerStep, auxiliary.Kept.kept_as, Calls.signer_cause}
use Rattle.desk.specs.{declared.refusal.StampRefusal.StampRefusal, declared.unsigned_token.Written.Written}
use Rattle.desk.specs.declared.refusal.StampRefusal.TheVariants as refusal

-- what the three parts met
abbrev pub joined : Outcome → Result (List ℕ) SignerFault → Outcome → Outcome
joined begun signing finished = record begun {
  signing = signing;
  wrapping = finished.wrapping;
  sealing = finished.sealing;
}

-- how it ends once the reservation stands: with its token, or without, for this cause
abbrev pub token_or : List ℕ → Option Cause → Result (List ℕ) Cause
token_or token None = Ok token
token_or token (Some cause) = Err cause

abbrev pub ending : PendingValue → Result (List ℕ) SignerFault → Outcome → Result (List ℕ) Cause
ending p (Ok signature) o = token_or (token_with p signature) (no_seal o)
ending p (Err fault) o = Err (signer_cause fault)

-- what is added then, and what is answered
abbrev pub added : Keeping → ℕ → Result (List ℕ) Cause → List Entry
added k serial (Ok token) = k.adds serial token ∷ []
added k serial (Err cause) = []

abbrev pub ended : Keeping → ℕ → Result (List ℕ) Cause → Result Answer Refusal
ended k serial (Ok token) = Ok (k.says serial token)
ended k serial (Err cause) = Err (ByCause cause)

abbrev pub answer_by : Purpose → Result Answer Refusal → Answer
answer_by u (Ok answer) = answer
answer_by u (Err why) = refused_for u why

-- what the three parts did
abbrev pub ended_by : Purpose → PendingValue → List Entry → Result (List ℕ) Cause → Effect
ended_by u p begun end = record {
  adds = added u.keeping p.serial end ++ begun;
  asks = Some (attribute_text p.identity p.tst);
  says = answer_by u (ended u.keeping p.serial end);
}

abbrev pub stamped : Purpose → PendingValue → Result (List ℕ) SignerFault → List Entry → Outcome → Effect
stamped u p signing begun finished = ended_by u p begun (ending p signing finished)

-- what a stop leaves after the end: what it could leave before, the history with the token, or those in doubt
abbrev pub MayStay : {B : Type 0} → (g : Ghosts B) → Keeping → PendingValue → Result (List ℕ) SignerFault → Outcome
    → History → B → g.Left → Type 0
MayStay g k p signing o b old left =
    ((added k p.serial (ending p signing o) ≡ []) × g.leaves old left)
    ⊎ (g.holds left (added k p.serial (ending p signing o) ++ b)
    ⊎ ((o.sealing ≡ Fine → ⊥)
    × g.holds left (added k p.serial (ending p signing (record o { sealing = Fine })) ++ b)))

-- what holds after it, where the store stood for the history b
pub record HasEnded {B : Type 0} (g : Ghosts B) (k : Keeping) (p : PendingValue) (signing : Result (List ℕ) SignerFault)
    (o : Outcome) (b : History) (old new : B) : Type 0 where
  pub stands : Stands g (added k p.serial (ending p signing o) ++ b) new
  pub left : (left : g.Left) → g.leaves new left → MayStay g k p signing o b old left

-- what is told where there is no token was met
abbrev pub WasMet : Result (List ℕ) SignerFault → Outcome → Cause → Type 0
WasMet signing o OfMemory = IsUnfailed signing × IsUncounted o.sealing
WasMet signing o OfStore = o.sealing ≡ Failed
WasMet signing o OfSigner = signing ≡ Err signer.Failed

-- A stamp from its signature on: the token is kept, in one commit.
pub record Ends {B : Type 0} (g : Ghosts B) (k : Keeping) (p : PendingValue) (signing : Result (List ℕ) SignerFault)
    (o : Outcome) (old new : B) (answer : Result Answer Refusal) : Type 0 where
  pub says : answer ≡ ended k p.serial (ending p signing o)
  pub grows : IsUncounted o.wrapping
  pub counted : g.fault_count new ≡ counted o.sealing (counted o.wrapping (g.fault_count old))
  pub opened : g.honest new → OnOk (ending p signing o) (g.is_open new)
  pub met : IfErr (ending p signing o) (WasMet signing o)
  pub steps : g.honest new → (b : History) → Stands g b old → ((token : List ℕ) → Fits (k.adds p.serial token) b)
      → HasEnded g k p signing o b old new

-- The same from its reservation on: the signer is asked first.
pub record Completes {B : Type 0} (g : Ghosts B) (t : SignerStep) (k : Keeping) (p : PendingValue)
    (signing : Result (List ℕ) SignerFault) (o : Outcome) (old new : B) (answer : Result Answer Refusal) : Type 0 where
  pub signer : t.counts signing
  pub moves : t.moves (Some (attribute_text p.identity p.tst)) signing
  pub ends : Ends g k p signing o old new answer

-- where it was begun, and else nothing is done
abbrev pub CompletesBegun : {B : Type 0} → Ghosts B → SignerStep → Keeping → Result PendingValue StampRefusal → B → B
    → Result Written StampRefusal → Type 0
CompletesBegun g t k (Ok p) old new result = (signing : Result (List ℕ) SignerFault) × (o : Outcome)
    × Completes g t k p signing o old new (ended_as (kept_as k) result)
CompletesBegun g t k (Err r) old new result = (result ≡ Err r) × (new ≡ old) × t.counts (Ok [])
    × ((answer : Result (List ℕ) SignerFault) → t.moves None answer)

-- the refusals of a finish
abbrev pub IsOfFinish : StampRefusal → Type 0
IsOfFinish refusal.OutOfReplyMemory = Unit {0}
IsOfFinish (refusal.Sealing f) = Unit {0}
IsOfFinish _ = ⊥
