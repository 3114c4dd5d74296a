-- What `serve_one` does: it reads one request, has the desk take the one step that it asks for, and writes one answer.
use Rattle.std.specs.Prelude.{◌≡◌, ◌⊎◌, ℕ, ◌<◌, ◌≤◌, ◌^◌, ℤ, List, [], ◌∷◌, length, take, Option, None, Result, Ok}
use Rattle.std.specs.Prelude.{Err}
use Rattle.std.specs.Io.KnownBytes.{Appends, Consumes, IsAtEnd, Keeps}
use Rattle.book.specs.declared.standing.Standing.{Ghosts}
use Rattle.book.specs.History.{History, CalibrationValue, latest_calibration}
use Rattle.book.specs.{Sound.IsBackwards, Stands.Stands, Stands.OnlyLooks, Rights.ListedValue}
use Rattle.cms.specs.declared.signer.SignerFault.{SignerFault}
use Rattle.tsp.specs.{Rules.IsFirstFailing, declared.rule.Rule.Rule}
use Rattle.policy.specs.Record.{AccountValue}
use Rattle.desk.specs.Command.{Command, Stamp, Deposit, ListAll, Calibrate, Answer, Listed, Rejected, Refused}
use Rattle.desk.specs.CallContract.{DeskValue, IsStep, no_signer, with_signer}
use Rattle.desk.specs.{Findings.HoldsUnasked, MachineRuns.Told}
use Rattle.desk.specs.declared.fault.Fault.TheVariants as fault
use Rattle.audit.specs.declared.fault.ExtractFault.{ExtractFault}
use Rattle.audit.specs.{Auditor.IsAllowed, Extract.extract_text, Failures.HasFailed, Fault.count_after}
use Rattle.audit.specs.declared.fault.ExtractFault.TheVariants as extract
use Rattle.service.specs.Answers.{AnswerValue, answer_text, answer_to, extract_answer, head_text, refusal_answer}
use Rattle.service.specs.Requests.{Asked, Report, Step, Look, Extract, IsRequest, IsPart, IsEarly}
use Rattle.service.specs.{Answers.success, Answers.unavailable, Refusals.status_of, Reports.Reports}
use Rattle.service.specs.{declared.refusal.Refusal.Refusal, declared.served.Served.Served}
use Rattle.service.specs.declared.answer.Media.TheVariants as media
use Rattle.service.specs.declared.refusal.Refusal.TheVariants as refusal
use Rattle.service.specs.declared.served.Served.TheVariants as served

-- what a reader has left, the writer, the desk and the signer: before a call, and after it
pub record Turn (W B X : Type 0) : Type 0 where
  pub input : Option (List ℕ)
  pub input_after : Option (List ℕ)
  pub writer : W
  pub writer_after : W
  pub desk : DeskValue B
  pub desk_after : DeskValue B
  pub signer : X
  pub signer_after : X

-- the desk takes no step, and the signer isn't asked
pub record IsIdle {W B X : Type 0} (t : Turn W B X) : Type 0 where
  pub desk : t.desk_after ≡ t.desk
  pub signer : t.signer_after ≡ t.signer

-- nothing is written and nothing is done
pub record IsSilent {W B X : Type 0} (t : Turn W B X) : Type 0 where
  pub writer : t.writer_after ≡ t.writer
  pub idle : IsIdle t

-- what was read is a request by the desk's policy file that asks for this, and no octet behind it
abbrev pub Reads : {W B X : Type 0} → ℤ → Turn W B X → Result Asked Refusal → Type 0
Reads reading t asked = IsRequest t.desk.setting.file reading t.input t.input_after asked

-- of a text that an answer of that status has, what is written
abbrev pub SendsText : {W : Type 0} → (W → Option (List ℕ)) → W → W → ℕ → List ℕ → Served → Type 0
SendsText contents old new status text served.Closed = ⊥
SendsText contents old new status text (served.Answered told) =
    (status ≡ told) × Appends (contents old) (contents new) text
SendsText contents old new status text served.ReadFailed = ⊥
SendsText contents old new status text (served.WriteFailed told sent) =
    (status ≡ told) × (sent < length text) × Appends (contents old) (contents new) (take sent text)

-- of an answer that is given at a reading
abbrev pub Sends : {W : Type 0} → (W → Option (List ℕ)) → ℤ → W → W → AnswerValue → Served → Type 0
Sends contents reading old new a outcome = SendsText contents old new a.status (answer_text reading a) outcome

-- Of the octets of an extract's answer, whatever the store returns: a whole one has the length that it states; and of
-- another, as many were written as is told.
abbrev pub SendsOctets : {W : Type 0} → (W → Option (List ℕ)) → ℤ → W → W → Served → Type 0
SendsOctets contents reading old new served.Closed = ⊥
SendsOctets contents reading old new (served.Answered told) =
    (body : List ℕ) × Sends contents reading old new (success 200 media.Csv body) (served.Answered told)
SendsOctets contents reading old new served.ReadFailed = ⊥
SendsOctets contents reading old new (served.WriteFailed told sent) =
    (told ≡ 200) × (octets : List ℕ) × (length octets ≡ sent) × Appends (contents old) (contents new) octets

-- As far as the writer tells its failures (`audit::Output`): a write failed where an answer isn't told as written
-- whole, and else none did.
abbrev pub TellsFailure : (before after : Option ℕ) → Served → Type 0
TellsFailure before after (served.WriteFailed status sent) = HasFailed before after
TellsFailure before after other = after ≡ before

-- The same of a list: while it was looked up nothing was written, but the writer may have been asked to send; it tells
-- from then on.
pub record TellsFailureOnceListed {W : Type 0} (contents : W → Option (List ℕ)) (failures : W → Option ℕ)
    (old new : W) (outcome : Served) : Type 0 where
  pub listed : W
  pub unwritten : Keeps (contents old) (contents listed)
  pub tells : TellsFailure (failures listed) (failures new) outcome

module _ (reading : ℤ) (from to : ℕ) (b : History) (faults faults' : ℕ) where
  -- An extract of that history is cut behind its head: memory was wanting for a row, or the store failed, which it
  -- counts.
  pub record IsCutBehindHead (sent : ℕ) : Type 0 where
    pub headed : length (head_text reading 200 media.Csv None (length (extract_text from to b))) ≤ sent
    pub fault : ExtractFault
    pub of : (fault ≡ extract.Memory) ⊎ (fault ≡ extract.Store)
    pub counted : faults' ≡ count_after fault faults

  -- As far as the writer tells its failures: where the extract isn't told as written whole, a write failed, or what was
  -- written couldn't be sent, or it is cut, or its answer has 2^64 octets or more; and else none failed.
  abbrev pub TellsExtractFailure : (before after : Option ℕ) → Served → Type 0
  TellsExtractFailure before after (served.WriteFailed status sent) =
      HasFailed before after
      ⊎ (IsCutBehindHead sent ⊎ (2 ^ 64 ≤ length (answer_text reading (extract_answer from to b))))
  TellsExtractFailure before after other = after ≡ before

module _ {W B : Type 0} (g : Ghosts B) (contents : W → Option (List ℕ)) (failures : W → Option ℕ) (reading : ℤ)
    (w w' : W) (old new : DeskValue B) (outcome : Served) where
  -- What is told of failures where that is asked for, which is looked up row by row: a list, or an extract that is
  -- allowed, of each history that the store stands for.
  abbrev pub TellsFailureByRows : Result Asked Refusal → Type 0
  TellsFailureByRows (Ok (Step (ListAll account))) = TellsFailureOnceListed contents failures w w' outcome
  TellsFailureByRows (Ok (Look (Extract account from to))) =
      IsAllowed old.setting.file account from to × (g.honest new.store → (b : History) → Stands g b old.store
      → TellsExtractFailure reading from to b (g.fault_count old.store) (g.fault_count new.store) (failures w)
      (failures w') outcome)
  TellsFailureByRows other = ⊥

-- the desk's reply to a calibration that is before the latest
abbrev pub turned_back : Answer
turned_back = Refused fault.Store

-- an answer that tells that the input ended in the request, or none where it ended before
abbrev pub TellsCut : Served → Type 0
TellsCut served.Closed = Unit {0}
TellsCut (served.Answered status) = status ≡ status_of refusal.BadRequest
TellsCut served.ReadFailed = ⊥
TellsCut (served.WriteFailed status sent) = status ≡ status_of refusal.BadRequest

module _ {B X : Type 0} (g : Ghosts B) (signs : X → List ℕ → Result (List ℕ) SignerFault → X → Type 0) (count : X
    → ℕ) where
  -- the desk takes the command's step and no other; the signer moves by it, and stays where the step asks none
  abbrev pub Steps : DeskValue B → DeskValue B → X → X → Command → Answer → Type 0
  Steps old new signer signer' (Stamp account reading octets) answer =
      IsStep g (with_signer signs count signer signer') (Stamp account reading octets) old new answer
      -- one of the rules 1 to 9 rejects it whatever store and signer do
      × ((rule : Rule) → IsFirstFailing (HoldsUnasked old.setting.file account octets) rule
      → (answer ≡ Rejected rule) × (new ≡ old) × (signer' ≡ signer))
  Steps old new signer signer' (Deposit account reading reference octets) answer =
      IsStep g (with_signer signs count signer signer') (Deposit account reading reference octets) old new answer
  Steps old new signer signer' other answer =
      IsStep g no_signer other old new answer × (signer' ≡ signer)

  abbrev pub Takes : {W : Type 0} → Turn W B X → Command → Answer → Type 0
  Takes t c answer = Steps t.desk t.desk_after t.signer t.signer_after c answer

  -- before the latest of each history that the store stood for, as long as it returns what was written
  abbrev pub IsBackwardsFor : DeskValue B → DeskValue B → CalibrationValue → Type 0
  IsBackwardsFor old new c =
      g.honest new.store → (b : History) → Stands g b old.store → IsBackwards c (latest_calibration b)

  -- the answer that tells the desk's reply to a command
  pub data Tells (old new : DeskValue B) (c : Command) (reply : Answer) (a : AnswerValue) : Type 0 where
    plainly : a ≡ answer_to c reply → Tells old new c reply a
    -- a calibration that is before the latest; the desk's reply says that the store refused it
    backwards : (x : CalibrationValue) → c ≡ Calibrate x → reply ≡ turned_back → IsBackwardsFor old new x
        → a ≡ refusal_answer refusal.Backwards → Tells old new c reply a
    -- a list that isn't empty, for whose lines memory is wanting
    wants_lines : (account : AccountValue) → c ≡ ListAll account → (rows : List ListedValue) → reply ≡ Listed rows
        → (rows ≡ [] → ⊥) → a ≡ unavailable → Tells old new c reply a

  -- The steps that the desk took for what was read, each with its reply: the one that it asks for, or none; then the
  -- desk's store may have been looked into, and the signer isn't asked.
  abbrev pub AreTaken : {W : Type 0} → ℤ → Turn W B X → List Told → Type 0
  AreTaken reading t [] = OnlyLooks g t.desk.store t.desk_after.store × (t.signer_after ≡ t.signer)
  AreTaken reading t (step ∷ []) = Reads reading t (Ok (Step step.command)) × Takes t step.command step.answer
  AreTaken reading t (step ∷ other ∷ more) = ⊥

  -- The answer with a report, at the reading: the desk was `old` before the look and is `new` after it. An extract that
  -- is written row by row stands below (`Extracts`).
  abbrev pub ReportsAt : ℤ → DeskValue B → DeskValue B → X → Report → AnswerValue → Type 0
  ReportsAt reading old new signer r a =
      (octets : Option ℕ)
      × Reports g (record { reading = reading; faults = count signer; octets = octets }) old new r a

  -- why an answer is written though the desk took no step
  pub data IsAnswerAlone {W : Type 0} (reading : ℤ) (t : Turn W B X) (a : AnswerValue) : Type 0 where
    -- the request is refused
    refuses : (r : Refusal) → Reads reading t (Err r) → IsIdle t → a ≡ refusal_answer r → IsAnswerAlone reading t a
    -- the request asks for a report
    looks : (r : Report) → Reads reading t (Ok (Look r)) → ReportsAt reading t.desk t.desk_after t.signer_after r a
        → IsAnswerAlone reading t a
    -- memory is wanting before the body is read
    wants_early : IsEarly t.input t.input_after → IsIdle t → a ≡ unavailable → IsAnswerAlone reading t a

  -- why an answer is written, where the desk took these steps
  abbrev pub IsAnswer : {W : Type 0} → ℤ → Turn W B X → List Told → AnswerValue → Type 0
  IsAnswer reading t [] a = IsAnswerAlone reading t a
  IsAnswer reading t (step ∷ more) a = Tells t.desk t.desk_after step.command step.answer a

  -- it is written
  pub record Writes {W : Type 0} (contents : W → Option (List ℕ)) (reading : ℤ) (t : Turn W B X) (steps : List Told)
      (outcome : Served) : Type 0 where
    pub answer : AnswerValue
    pub is : IsAnswer reading t steps answer
    pub sent : Sends contents reading t.writer t.writer_after answer outcome

  -- The extract that the request asks for is written, row by row: it is that of each history that the store stands for.
  -- A store that fails between two rows leaves a beginning of the answer, and a writer whose time is up before them
  -- none.
  pub record Extracts {W : Type 0} (contents : W → Option (List ℕ)) (reading : ℤ) (t : Turn W B X) (outcome : Served)
      : Type 0 where
    pub account : AccountValue
    pub from : ℕ
    pub to : ℕ
    pub read : Reads reading t (Ok (Look (Extract account from to)))
    pub allowed : IsAllowed t.desk.setting.file account from to
    pub sent : g.honest t.desk_after.store → (b : History) → Stands g b t.desk.store
        → Sends contents reading t.writer t.writer_after (extract_answer from to b) outcome
    pub told : SendsOctets contents reading t.writer t.writer_after outcome

  -- what each outcome says, where the desk took these steps
  abbrev pub Ends : {W : Type 0} → (W → Option (List ℕ)) → ℤ → Turn W B X → List Told → Served → Type 0
  Ends contents reading t [] served.Closed = Consumes t.input t.input_after [] × IsAtEnd t.input_after × IsSilent t
  Ends contents reading t [] served.ReadFailed = IsPart t.input t.input_after × IsSilent t
  Ends contents reading t [] outcome = Writes contents reading t [] outcome ⊎ Extracts contents reading t outcome
  Ends contents reading t steps outcome = Writes contents reading t steps outcome

  -- what is served: these steps are taken, and the outcome is told
  pub record Serves {W : Type 0} (contents : W → Option (List ℕ)) (reading : ℤ) (t : Turn W B X) (steps : List Told)
      (outcome : Served) : Type 0 where
    pub taken : AreTaken reading t steps
    pub ends : Ends contents reading t steps outcome
