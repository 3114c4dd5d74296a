-- What is written, and why.
use Rattle.std.proofs.Common.{◌≡◌, ◌∙◌, ℕ, ℤ, true, List, [], ◌∷◌, Option, None, Result, Ok, Err, length, take}
use Rattle.std.proofs.Common.{ap, arith, refl, inl, inr, subst, sym}
use Rattle.std.proofs.lemmas.List.{take_all}
use Rattle.std.specs.Io.KnownBytes.{Consumes, IsAtEnd}
use Rattle.book.specs.{declared.standing.Standing.Ghosts, Stands.OnlyLooks}
use Rattle.cms.specs.declared.signer.SignerFault.{SignerFault}
use Rattle.desk.specs.MachineRuns.{Told}
use Rattle.policy.specs.Record.{AccountValue, PolicyValue}
use Rattle.service.specs.auxiliary.ExtractAnswers.{ServesExtract, extracted, kept_back}
use Rattle.service.specs.Known.{IsAnswerable, IsDue, checked, malformed, out_of_memory, out_of_memory_for_body}
use Rattle.service.specs.Requests.{Report, Look, Extract, IsEarly, IsPart, IsRequest, asked_by, cut_body, cut_head}
use Rattle.service.specs.Requests.{head, headless, nothing, refused_head, whole}
use Rattle.service.specs.Served.{Turn, IsIdle, IsSilent, Reads, Sends, SendsOctets, AreTaken, ReportsAt, IsAnswer}
use Rattle.service.specs.Served.{refuses, looks, wants_early, Extracts, Serves}
use Rattle.service.specs.{Answers.AnswerValue, Answers.refusal_answer, Answers.unavailable, Refusals.refusal_of_extract}
use Rattle.service.specs.{Reports.IsRefusedBy, Reports.keeps_back, Received.ReceivedValue, Received.in_body}
use Rattle.service.specs.{Received.in_head, Views.head_view, declared.head.Head.Head, declared.refusal.Refusal.Refusal}
use Rattle.service.specs.{declared.routes.Action.Action, declared.served.Served.Served}
use Rattle.service.specs.declared.due.Due.TheVariants as due
use Rattle.service.specs.declared.served.Served.TheVariants as served

-- what was read of a request is a request that is whole
pub answerable : (file : PolicyValue) (reading : ℤ) {before after : Option (List ℕ)} {octets : List ℕ} {action : Action}
    {start : Head} {body : List ℕ} → IsAnswerable octets action start body → Consumes before after octets
    → IsRequest file reading before after (asked_by file reading (head_view start) body action)
answerable file reading {start = start} {body} is read =
    whole is.read is.is_head is.asked is.wanted body is.count (rw is.split at read)
    (ap (asked_by file reading (head_view start) body) is.action_is
    ∙ ap (λ v. asked_by file reading v body is.asked.action) is.same)

module _ {W B X : Type 0} (g : Ghosts B) (signs : X → List ℕ → Result (List ℕ) SignerFault → X → Type 0) (count : X → ℕ)
    (contents : W → Option (List ℕ)) (reading : ℤ) (t : Turn W B X) where
  -- what is sent of an answer that there is a reason for
  pub sends : (steps : List Told) (a : AnswerValue) (outcome : Served) → AreTaken g signs count reading t steps
      → IsAnswer g signs count reading t steps a → Sends contents reading t.writer t.writer_after a outcome
      → Serves g signs count contents reading t steps outcome
  sends [] a served.Closed taken why sent = absurd sent
  sends [] a (served.Answered status) taken why sent =
      record { taken = taken; ends = inl (record { answer = a; is = why; sent = sent }) }
  sends [] a served.ReadFailed taken why sent = absurd sent
  sends [] a (served.WriteFailed status octets) taken why sent =
      record { taken = taken; ends = inl (record { answer = a; is = why; sent = sent }) }
  sends (step ∷ more) a outcome taken why sent =
      record { taken = taken; ends = record { answer = a; is = why; sent = sent } }

  -- where nothing is done, no step is taken
  resting : IsIdle t → AreTaken g signs count reading t []
  resting idle = (
    subst (λ d. OnlyLooks g t.desk.store d.store) (sym idle.desk) (record {
      honest = λ h. h;
      stands = λ b stands. stands;
      leaves = λ honest left leaves. leaves;
    }),
    idle.signer,
  )

  pub refusing : (r : Refusal) (outcome : Served) → Reads reading t (Err r) → IsIdle t
      → Sends contents reading t.writer t.writer_after (refusal_answer r) outcome
      → Serves g signs count contents reading t [] outcome
  refusing r outcome reads idle sent =
      sends [] (refusal_answer r) outcome (resting idle) (refuses r reads idle refl) sent

  pub wanting_early : (outcome : Served) → IsEarly t.input t.input_after → IsIdle t
      → Sends contents reading t.writer t.writer_after unavailable outcome
      → Serves g signs count contents reading t [] outcome
  wanting_early outcome early idle sent =
      sends [] unavailable outcome (resting idle) (wants_early early idle refl) sent

  -- why a request is refused
  pub refusing_due : (r : ReceivedValue) (f : Refusal) (outcome : Served) → IsDue r (due.Refusal f)
      → Consumes t.input t.input_after (take r.taken r.octets)
      → (r.is_ended ≡ true → r.taken ≡ length r.octets → IsAtEnd t.input_after) → IsIdle t
      → Sends contents reading t.writer t.writer_after (refusal_answer f) outcome
      → Serves g signs count contents reading t [] outcome
  refusing_due r f outcome (inl (malformed is same)) read ended idle sent =
      refusing f outcome (headless (take r.taken r.octets) is read (ap Err same)) idle sent
  refusing_due r f outcome (inl (checked h is wanted same)) read ended idle sent =
      let P : List ℕ → Type 0 = λ l. Consumes t.input t.input_after l in
      refusing f outcome (refused_head h is (subst P same read) f wanted refl) idle sent
  refusing_due r f outcome (inl (out_of_memory none same)) read ended idle sent =
      let P : List ℕ → Type 0 = λ l. Consumes t.input t.input_after l in
      sends [] (refusal_answer f) outcome (resting idle)
      (wants_early (nothing (subst P none read)) idle (ap refusal_answer same)) sent
  refusing_due r f outcome (inl (out_of_memory_for_body h is w wanted some split same)) read ended idle sent =
      let P : List ℕ → Type 0 = λ l. Consumes t.input t.input_after l in
      sends [] (refusal_answer f) outcome (resting idle)
      (wants_early (head h is w wanted some (subst P split read)) idle (ap refusal_answer same)) sent
  refusing_due r f outcome (inr (cut, same)) read ended idle sent =
      let P : List ℕ → Type 0 = λ l. Consumes t.input t.input_after l in
      let all : take r.taken r.octets ≡ r.octets =
      ap (λ n. take n r.octets) cut.all ∙ take_all (length r.octets) r.octets (omega arith) in
      let reads : Reads reading t (Err f) =
      elim cut.partial [
        | in_head begun ↦
            cut_head r.octets cut.some begun (subst P all read) (ended cut.ended cut.all) (ap Err same)
        | in_body h is w wanted part short split ↦
            cut_body h is w wanted part short (subst P (all ∙ split) read) (ended cut.ended cut.all) (ap Err same)
      ] in
      refusing f outcome reads idle sent

  -- nothing came before the end
  pub closing : (r : ReceivedValue) → IsDue r due.Nothing → Consumes t.input t.input_after (take r.taken r.octets)
      → (r.is_ended ≡ true → r.taken ≡ length r.octets → IsAtEnd t.input_after) → IsSilent t
      → Serves g signs count contents reading t [] served.Closed
  closing r is read ended silent =
      let P : List ℕ → Type 0 = λ l. Consumes t.input t.input_after l in
      record {
        taken = resting silent.idle;
        ends = (
          subst P (ap (λ n. take n r.octets) is.2) read,
          ended is.1 (is.2 ∙ sym (ap length is.0)),
          silent,
        );
      }

  pub failing : IsPart t.input t.input_after → IsSilent t → Serves g signs count contents reading t [] served.ReadFailed
  failing part silent = record { taken = resting silent.idle; ends = (part, silent) }

  -- a report is told
  pub reporting : (r : Report) (a : AnswerValue) (outcome : Served) → Reads reading t (Ok (Look r))
      → AreTaken g signs count reading t [] → ReportsAt g signs count reading t.desk t.desk_after t.signer_after r a
      → Sends contents reading t.writer t.writer_after a outcome → Serves g signs count contents reading t [] outcome
  reporting r a outcome reads taken is sent = sends [] a outcome taken (looks r reads is) sent

  -- an extract of which some octets are sent
  extracting : (outcome : Served) → AreTaken g signs count reading t []
      → SendsOctets contents reading t.writer t.writer_after outcome
      → Extracts g signs count contents reading t outcome → Serves g signs count contents reading t [] outcome
  extracting served.Closed taken octets is = absurd octets
  extracting (served.Answered status) taken octets is = record { taken = taken; ends = inr is }
  extracting served.ReadFailed taken octets is = absurd octets
  extracting (served.WriteFailed status sent) taken octets is = record { taken = taken; ends = inr is }

  pub answering_auditor : (account : AccountValue) (from to : ℕ) (outcome : Served)
      → Reads reading t (Ok (Look (Extract account from to))) → AreTaken g signs count reading t []
      → ServesExtract g contents reading t.writer t.writer_after t.desk.store t.desk_after.store t.desk.setting.file account
      from to outcome
      → Serves g signs count contents reading t [] outcome
  unfolding IsRefusedBy
  answering_auditor account from to outcome reads taken (extracted allowed sent told) =
      extracting outcome taken told (record {
        account = account;
        from = from;
        to = to;
        read = reads;
        allowed = allowed;
        sent = sent;
        told = told;
      })
  answering_auditor account from to outcome reads taken (kept_back f comes unasked counted written sent) =
      reporting (Extract account from to) (refusal_answer (refusal_of_extract f)) outcome reads taken (
        None,
        keeps_back (refusal_of_extract f)
            (record {
              fault = f;
              comes = comes;
              unasked = unasked;
              counted = counted;
              written = written;
              tells = refl;
            })
            refl,
      ) sent
