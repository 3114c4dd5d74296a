-- What answering one HTTP request does to a reader and a writer, where nothing is known of what the database holds.
use Rattle.std.specs.Prelude.{◌≡◌, ◌⊎◌, ℕ, ℤ, List, [], length, take, Option, Ok, Err}
use Rattle.std.specs.Io.KnownBytes.{Appends, Consumes, IsAtEnd}
use Rattle.policy.specs.Record.{AccountValue, PolicyValue}
use Rattle.audit.specs.{Auditor.IsAllowed, Auditor.ComesWhere, declared.fault.ExtractFault.ExtractFault}
use Rattle.book.specs.History.{CalibrationValue}
use Rattle.desk.specs.Command.{Command, Stamp, ListAll, Calibrate, Answer}
use Rattle.service.specs.Answers.{AnswerValue, answer_text, answer_to, refusal_answer, success, unavailable}
use Rattle.service.specs.Requests.{Report, Step, Look, Extract, Status, OfAccount, OfReaders, IsRequest, IsPart}
use Rattle.service.specs.declared.answer.Media.TheVariants.{Csv}
use Rattle.service.specs.{Accounts.account_text, Refusals.refusal_of_extract, Requests.IsEarly, Requests.IsText}
use Rattle.service.specs.{Served.Turn, declared.refusal.Refusal.Refusal, declared.served.Served.Served}
use Rattle.service.specs.declared.answer.Media.TheVariants as media
use Rattle.service.specs.declared.refusal.Refusal.TheVariants as refusal
use Rattle.service.specs.declared.served.Served.TheVariants as served
use Rattle.operations.specs.{Judged.IsJudgedReply, Visits.Visit}

-- what of the reply to a time-stamp request is certain
abbrev pub IsJudged : PolicyValue → Command → Answer → Type 0
IsJudged file (Stamp account reading octets) answer =
    IsJudgedReply file account octets answer
IsJudged file other answer = Unit {0}

-- what of a report's text is certain
abbrev pub IsTextOf : PolicyValue → Report → List ℕ → Type 0
IsTextOf file (Extract account from to) body = ⊥
IsTextOf file Status body = Unit {0}
IsTextOf file (OfAccount account) body = (used : Option ℕ) × (body ≡ account_text file account used)
IsTextOf file (OfReaders account number) body = Unit {0}

-- what of its refusal: an extract is kept back, and a deposit isn't here for others than its owner
abbrev pub IsRefusalOf : PolicyValue → Report → Refusal → Type 0
IsRefusalOf file (Extract account from to) f =
    (fault : ExtractFault) × ComesWhere file account from to fault × (f ≡ refusal_of_extract fault)
IsRefusalOf file (OfReaders account number) f = f ≡ refusal.NotHere
IsRefusalOf file other f = ⊥

-- Why an answer is written: the input is left as `old`, and then as `new`.
pub data IsAnswerFor (file : PolicyValue) (reading : ℤ) (old new : Option (List ℕ)) (a : AnswerValue) : Type 0 where
  -- the request is refused
  refuses : (r : Refusal) → IsRequest file reading old new (Err r) → a ≡ refusal_answer r
      → IsAnswerFor file reading old new a
  -- the answer tells a reply to what the request asks for
  replies : (c : Command) → IsRequest file reading old new (Ok (Step c)) → (reply : Answer) → IsJudged file c reply
      → a ≡ answer_to c reply → IsAnswerFor file reading old new a
  -- the calibration that the request asks for is told to be before the latest
  turns_back : (c : CalibrationValue) → IsRequest file reading old new (Ok (Step (Calibrate c)))
      → a ≡ refusal_answer refusal.Backwards → IsAnswerFor file reading old new a
  -- the report that the request asks for is told as a text
  tells_report : (r : Report) (body : List ℕ) → IsRequest file reading old new (Ok (Look r)) → IsTextOf file r body
      → a ≡ success 200 media.Text body → IsAnswerFor file reading old new a
  -- it is refused
  refuses_report : (r : Report) (f : Refusal) → IsRequest file reading old new (Ok (Look r)) → IsRefusalOf file r f
      → a ≡ refusal_answer f → IsAnswerFor file reading old new a
  -- memory is wanting before the body is read
  wants_early : IsEarly old new → a ≡ unavailable → IsAnswerFor file reading old new a
  -- memory is wanting for the lines of a list
  wants_list : (account : AccountValue) → IsRequest file reading old new (Ok (Step (ListAll account)))
      → a ≡ unavailable → IsAnswerFor file reading old new a
  -- the store can't be looked into, or memory is wanting for a report's text
  wants_report : (r : Report) → IsRequest file reading old new (Ok (Look r)) → IsText r → a ≡ unavailable
      → IsAnswerFor file reading old new a

-- an answer of that status is there, and this much of its text is written
pub record Writes (file : PolicyValue) (reading : ℤ) (old new before after : Option (List ℕ)) (status : ℕ)
    (part : List ℕ → List ℕ) : Type 0 where
  pub answer : AnswerValue
  pub is : IsAnswerFor file reading old new answer
  pub status_told : answer.status ≡ status
  pub written : Appends before after (part (answer_text reading answer))

-- an extract is asked for, and may be given
pub record AsksExtract (file : PolicyValue) (reading : ℤ) (old new : Option (List ℕ)) : Type 0 where
  pub account : AccountValue
  pub from : ℕ
  pub to : ℕ
  pub read : IsRequest file reading old new (Ok (Look (Extract account from to)))
  pub allowed : IsAllowed file account from to

-- What each outcome says: the output's octets were `before`, and are `after`.
abbrev pub IsExchanged : PolicyValue → ℤ → (old new before after : Option (List ℕ)) → Served → Type 0
IsExchanged file reading old new before after served.Closed =
    Consumes old new [] × IsAtEnd new × (after ≡ before)
IsExchanged file reading old new before after (served.Answered status) =
    Writes file reading old new before after status (λ text. text)
    ⊎ (AsksExtract file reading old new
    × ((body : List ℕ) × ((200 ≡ status) × Appends before after (answer_text reading (success 200 Csv body)))))
IsExchanged file reading old new before after served.ReadFailed = IsPart old new × (after ≡ before)
IsExchanged file reading old new before after (served.WriteFailed status sent) =
    Writes file reading old new before after status (take sent)
    ⊎ (AsksExtract file reading old new
    × ((status ≡ 200) × (octets : List ℕ) × (length octets ≡ sent) × Appends before after octets))

-- the turn of the service in a visit of a desk, by a reader and a writer
abbrev pub turn_of : {I O B X : Type 0} → (I → Option (List ℕ)) → Visit I O B X → Turn O B X
turn_of remaining visit = record {
  input = remaining visit.input;
  input_after = remaining visit.input_after;
  writer = visit.output;
  writer_after = visit.output_after;
  desk = visit.desk;
  desk_after = visit.desk_after;
  signer = visit.signer;
  signer_after = visit.signer_after;
}
