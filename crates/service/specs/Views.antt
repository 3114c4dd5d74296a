-- What the program's types stand for.
use Rattle.std.specs.Prelude.{◌≡◌, ℕ, List, length, map, All, Option}
use Rattle.std.specs.Prelude.{Result, Ok, Err}
use Rattle.std.proofs.Common.{Bor}
use Rattle.httparse.specs.Spans.{IsHeaderWithin, header_bytes}
use Rattle.policy.specs.View.{account_view, policy_view}
use Rattle.policy.specs.{Record.AccountValue, declared.entries.Account.Account, declared.policy.Policy.Policy}
use Rattle.decide.specs.View.{account_asked}
use Rattle.book.specs.{declared.fault.StoreFault.StoreFault, Values.calibration_view, Values.hold_view}
use Rattle.book.specs.declared.fault.StoreFault.TheVariants as store
use Rattle.service.specs.Requests.{Asked, Step, Look, Extract, Status, OfAccount, asked_by, asked_of_deposit}
use Rattle.service.specs.{Checks.WantedValue, Reports.Seen, Routes.segment, Fields.Stated, Fields.Never, Fields.Once}
use Rattle.service.specs.{Fields.Twice, Heads.HeadValue, Handlers.RequestValue, declared.checks.Found.Found}
use Rattle.service.specs.{declared.context.Context.Context, declared.fields.Occurrence.Occurrence}
use Rattle.service.specs.{declared.head.Head.Head, declared.refusal.Refusal.Refusal, declared.routes.Action.Action}
use Rattle.service.specs.{Answers.AnswerValue, Answers.created, Answers.refusal_answer, declared.wanted.Wanted.Wanted}
use Rattle.desk.specs.Command.{Deposit, ListAll, Calibrate, Hold}
use Rattle.desk.specs.{Batches.stamp_for, Together.question_view}
use Rattle.service.specs.declared.checks.Found.TheVariants as found
use Rattle.service.specs.declared.fields.Occurrence.TheVariants as field
use Rattle.service.specs.declared.refusal.Refusal.TheVariants as refusal

abbrev pub occurrence_view : Occurrence → Stated
occurrence_view field.Never = Never
occurrence_view (field.Once value) = Once value.now
occurrence_view field.Twice = Twice

abbrev pub head_view : Head → HeadValue
head_view h = record {
  method = h.method.now;
  target = h.target.now;
  fields = map (header_bytes h.octets.now) h.headers.now;
}

-- the fields lie in the octets
abbrev pub IsInPlace : Head → Type 0
IsInPlace h = All (IsHeaderWithin (length h.octets.now)) h.headers.now

-- what is answered, seen by view
abbrev pub result_by : {A B : Type 0} → (A → B) → Result A Refusal → Result B Refusal
result_by view (Ok a) = Ok (view a)
result_by view (Err r) = Err r

abbrev pub octets_given : Result (Bor (List ℕ)) Refusal → Result (List ℕ) Refusal
octets_given result = result_by (λ octets. octets.now) result

abbrev pub wanted_view : Wanted → WantedValue
wanted_view w = record { action = w.action; count = w.count }

abbrev pub account_given : Result (Bor Account) Refusal → Result AccountValue Refusal
account_given result = result_by (λ a. account_view a.now) result

abbrev pub account_found : Result (Option (Bor Account)) Refusal → Result (Option AccountValue) Refusal
account_found result = result_by account_asked result

-- the answer where a calibration or a hold is added, or the store refuses it
abbrev pub added_answer : Result ℕ StoreFault → AnswerValue
added_answer (Ok number) = created number
added_answer (Err store.Memory) = refusal_answer refusal.Unavailable
added_answer (Err store.Database) = refusal_answer refusal.Unavailable
added_answer (Err store.NotOurs) = refusal_answer refusal.Unavailable
added_answer (Err store.Full) = refusal_answer refusal.Unavailable
added_answer (Err store.Backwards) = refusal_answer refusal.Backwards

abbrev pub request_view : Context → RequestValue
request_view c = record { reading = c.at.reading; head = head_view c.head; body = c.body.now }

abbrev pub seen_at : Context → ℕ → Seen
seen_at c faults = record { reading = c.at.reading; faults = faults; octets = c.octets }

-- what a whole request asks for
abbrev pub asked_view : RequestValue → Found → Asked
asked_view r (found.Stamp asked) = Step (stamp_for (question_view asked))
asked_view r (found.Keep account reference) = Step (Deposit (account_view account.now) r.reading reference.now r.body)
asked_view r (found.List account) = Step (ListAll (account_view account.now))
asked_view r (found.Deposit what account number) =
    asked_of_deposit (account_view account.now) number (segment 4 r.head.target) what
asked_view r (found.Extract account from to) = Look (Extract (account_view account.now) from to)
asked_view r (found.Calibrate calibration) = Step (Calibrate (calibration_view calibration))
asked_view r (found.Hold hold) = Step (Hold (hold_view hold))
asked_view r found.Status = Look Status
asked_view r (found.Account account) = Look (OfAccount (account_view account.now))

-- the checks of a whole request for that action find this
abbrev pub IsAskedBy : Policy → Context → Action → Result Found Refusal → Type 0
IsAskedBy policy c action result =
    result_by (asked_view (request_view c)) result
    ≡ asked_by (policy_view policy) c.at.reading (head_view c.head) c.body.now action
