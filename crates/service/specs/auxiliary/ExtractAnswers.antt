-- What the answers to auditors give: stepping stones of the proofs.
use Rattle.std.specs.Prelude.{◌≡◌, ◌≢◌, ℕ, ℤ, List, length, Option}
use Rattle.book.specs.{declared.standing.Standing.Ghosts, History.History, Stands.Stands}
use Rattle.policy.specs.Record.{AccountValue, PolicyValue}
use Rattle.audit.specs.Auditor.{IsAllowed, ComesWhere, IfUnasked}
use Rattle.audit.specs.declared.fault.ExtractFault.TheVariants.{Write}
use Rattle.audit.specs.{Extract.extract_text, Fault.count_after, declared.fault.ExtractFault.ExtractFault}
use Rattle.service.specs.{Answers.extract_answer, Answers.refusal_answer, Refusals.refusal_of_extract, Served.Sends}
use Rattle.service.specs.{Served.SendsOctets, Served.TellsExtractFailure, declared.served.Served.Served}

-- what the writer tells of its failures where an extract is written that is found to have so many octets
abbrev pub SendingFails : {B : Type 0} → Ghosts B → ℤ → B → B → (from to count : ℕ) → (before after : Option ℕ) → Served
    → Type 0
SendingFails g reading old new from to count before after outcome =
    g.honest new → (b : History) → Stands g b old → count ≡ length (extract_text from to b)
    → TellsExtractFailure reading from to b (g.fault_count old) (g.fault_count new) before after outcome

module _ {B W : Type 0} (g : Ghosts B) (contents : W → Option (List ℕ)) (reading : ℤ) (w w' : W) (old new : B) where
  -- the extract's answer is written whose body is found to have so many octets
  pub record SendsExtract (from to count : ℕ) (outcome : Served) : Type 0 where
    pub sent : g.honest new → (b : History) → Stands g b old → count ≡ length (extract_text from to b)
        → Sends contents reading w w' (extract_answer from to b) outcome
    pub told : SendsOctets contents reading w w' outcome

  -- an extract is answered
  pub data ServesExtract (file : PolicyValue) (account : AccountValue) (from to : ℕ) (outcome : Served) : Type 0 where
    extracted : IsAllowed file account from to
        → (g.honest new → (b : History) → Stands g b old
        → Sends contents reading w w' (extract_answer from to b) outcome)
        → SendsOctets contents reading w w' outcome → ServesExtract file account from to outcome
    kept_back : (f : ExtractFault) → ComesWhere file account from to f → IfUnasked (new ≡ old) f
        → g.fault_count new ≡ count_after f (g.fault_count old) → f ≢ Write
        → Sends contents reading w w' (refusal_answer (refusal_of_extract f)) outcome
        → ServesExtract file account from to outcome
