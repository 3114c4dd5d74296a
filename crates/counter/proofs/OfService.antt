-- What answering one HTTP request does to a reader and a writer, out of what the service says of it.
use Rattle.std.proofs.Common.{ℕ, ℤ, List, [], ◌∷◌, Option, Result, Ok, ap, inl, inr, subst}
use Rattle.book.specs.declared.standing.Standing.{Ghosts}
use Rattle.cms.specs.declared.signer.SignerFault.{SignerFault}
use Rattle.desk.specs.{Command.Command, Command.Stamp, Command.Answer, MachineRuns.Told}
use Rattle.service.specs.Reports.{IsBodyOf, IsRefusedBy, Seen, keeps_back, tells, wants}
use Rattle.service.specs.Requests.{Report, Step, Extract, OfAccount, OfReaders}
use Rattle.service.specs.Served.{Turn, Reads, Takes, AreTaken, IsAnswerAlone, refuses, looks, wants_early, IsAnswer}
use Rattle.service.specs.Served.{plainly, backwards, wants_lines, Writes, Extracts, Ends, Serves}
use Rattle.service.specs.{Answers.AnswerValue, declared.refusal.Refusal.Refusal, declared.served.Served.Served}
use Rattle.service.specs.declared.served.Served.TheVariants as served
use Rattle.counter.specs.HttpRequest as known
use Rattle.counter.specs.HttpRequest.{AsksExtract, IsExchanged, IsAnswerFor, IsJudged, IsRefusalOf, IsTextOf}

module _ {W B X : Type 0} (g : Ghosts B) (signs : X → List ℕ → Result (List ℕ) SignerFault → X → Type 0)
    (count : X → ℕ) (contents : W → Option (List ℕ)) (reading : ℤ) (t : Turn W B X) where
  judged : (c : Command) (reply : Answer) → Takes g signs count t c reply → IsJudged t.desk.setting.file c reply
  judged (Stamp account reading octets) reply takes = λ rule first. (takes.1 rule first).0
  judged other reply takes = tt

  abbrev seen : Option ℕ → Seen
  seen octets = record { reading = reading; faults = count t.signer_after; octets = octets }

  text_of : (octets : Option ℕ) (r : Report) (body : List ℕ) → IsBodyOf g (seen octets) t.desk t.desk_after r body
      → IsTextOf t.desk.setting.file r body
  unfolding IsBodyOf
  text_of octets (Extract account from to) body told = told
  text_of octets (OfAccount account) body told = (told.used, told.text)
  text_of octets _ body told = tt

  refusal_of : (octets : Option ℕ) (r : Report) (f : Refusal) → IsRefusedBy g (seen octets) t.desk t.desk_after r f
      → IsRefusalOf t.desk.setting.file r f
  unfolding IsRefusedBy
  refusal_of octets (Extract account from to) f why = (why.fault, why.comes, why.tells)
  refusal_of octets (OfReaders account number) f why = why.1
  refusal_of octets _ f why = why

  alone_explained : (a : AnswerValue) → IsAnswerAlone g signs count reading t a
      → IsAnswerFor t.desk.setting.file reading t.input t.input_after a
  alone_explained a (refuses r reads idle is) = known.refuses r reads is
  alone_explained a (looks r reads (octets, tells body told is)) =
      known.tells_report r body reads (text_of octets r body told) is
  alone_explained a (looks r reads (octets, keeps_back f why is)) =
      known.refuses_report r f reads (refusal_of octets r f why) is
  alone_explained a (looks r reads (octets, wants text is)) = known.wants_report r reads text is
  alone_explained a (wants_early early idle is) = known.wants_early early is

  explained : (steps : List Told) (a : AnswerValue) → AreTaken g signs count reading t steps
      → IsAnswer g signs count reading t steps a → IsAnswerFor t.desk.setting.file reading t.input t.input_after a
  explained [] a taken is = alone_explained a is
  explained (step ∷ []) a taken (plainly is) =
      known.replies step.command taken.0 step.answer (judged step.command step.answer taken.1) is
  explained (step ∷ []) a taken (backwards x calibrates turned behind is) =
      known.turns_back x (subst (λ c. Reads reading t (Ok (Step c))) calibrates taken.0) is
  explained (step ∷ []) a taken (wants_lines account lists rows told some is) =
      known.wants_list account (subst (λ c. Reads reading t (Ok (Step c))) lists taken.0) is
  explained (step ∷ other ∷ more) a taken is = absurd taken

  asked : (outcome : Served) → Extracts g signs count contents reading t outcome
      → AsksExtract t.desk.setting.file reading t.input t.input_after
  asked outcome e =
      record { account = e.account; from = e.from; to = e.to; read = e.read; allowed = e.allowed }

  abbrev Exchanged : Served → Type 0
  Exchanged outcome =
      IsExchanged t.desk.setting.file reading t.input t.input_after (contents t.writer) (contents t.writer_after)
      outcome

  written : (steps : List Told) (outcome : Served) → AreTaken g signs count reading t steps
      → Writes g signs count contents reading t steps outcome → Exchanged outcome
  written steps (served.Answered status) taken s =
      inl (record {
        answer = s.answer;
        is = explained steps s.answer taken s.is;
        status_told = s.sent.0;
        written = s.sent.1;
      })
  written steps (served.WriteFailed status sent) taken s =
      inl (record {
        answer = s.answer;
        is = explained steps s.answer taken s.is;
        status_told = s.sent.0;
        written = s.sent.2;
      })
  written steps _ taken s = absurd s.sent

  ended : (steps : List Told) (outcome : Served) → AreTaken g signs count reading t steps
      → Ends g signs count contents reading t steps outcome → Exchanged outcome
  ended [] served.Closed taken s = (s.0, s.1, ap contents s.2.writer)
  ended [] served.ReadFailed taken s = (s.0, ap contents s.1.writer)
  ended [] (served.Answered status) taken (inl s) = written [] (served.Answered status) taken s
  ended [] (served.Answered status) taken (inr e) = inr (asked (served.Answered status) e, e.told)
  ended [] (served.WriteFailed status sent) taken (inl s) = written [] (served.WriteFailed status sent) taken s
  ended [] (served.WriteFailed status sent) taken (inr e) = inr (asked (served.WriteFailed status sent) e, e.told)
  ended (step ∷ more) outcome taken s = written (step ∷ more) outcome taken s

  pub exchanged : (outcome : Served)
      → (steps : List Told) × Serves g signs count contents reading t steps outcome → Exchanged outcome
  exchanged outcome (steps, s) = ended steps outcome s.taken s.ends
