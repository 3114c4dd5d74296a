-- What reports tell, of each history that the store stood for before the look.
use Rattle.std.specs.Prelude.{◌≡◌, ◌≢◌, ℕ, ℤ, Bool, true, false, List, Option}
use Rattle.audit.specs.{Auditor.ComesWhere, Auditor.IfUnasked, Fault.count_after}
use Rattle.audit.specs.{declared.fault.ExtractFault.ExtractFault, declared.fault.ExtractFault.TheVariants.Write}
use Rattle.book.specs.{declared.standing.Standing.Ghosts, History.History, Stands.Stands, Rights.is_own}
use Rattle.policy.specs.Record.{AccountValue}
use Rattle.desk.specs.{CallContract.DeskValue, Calls.looked_at, Facts.clock_of}
use Rattle.service.specs.Answers.{AnswerValue, refusal_answer, success, unavailable}
use Rattle.service.specs.Requests.{Report, Extract, Status, OfAccount, OfReaders, IsText}
use Rattle.service.specs.{Accounts.IsUsedAt, Accounts.account_text, Readers.readers_text, Refusals.refusal_of_extract}
use Rattle.service.specs.{Status.IsStatusText, declared.refusal.Refusal.Refusal}
use Rattle.service.specs.declared.answer.Media.TheVariants as media
use Rattle.service.specs.declared.refusal.Refusal.TheVariants as refusal

-- of what reports tell besides the store: the clock's reading, the signer's count of faults, and how many octets the
-- database had when it was opened, if that is known
pub record Seen : Type 0 where
  pub reading : ℤ
  pub faults : ℕ
  pub octets : Option ℕ

module _ {B : Type 0} (g : Ghosts B) (seen : Seen) (old new : DeskValue B) where
  -- the counter's state
  abbrev pub IsStatus : List ℕ → Type 0
  IsStatus body =
      g.honest new.store → (b : History) → Stands g b old.store
      → IsStatusText old.setting.file.counter (looked_at seen.reading b) (g.fault_count new.store) seen.faults
      seen.octets body

  -- What the policy file says of the account is told whatever the store returns, and how many stamps it has on the day
  -- of the reading.
  pub record IsAccountText (account : AccountValue) (body : List ℕ) : Type 0 where
    pub used : Option ℕ
    pub is : g.honest new.store → (b : History) → Stands g b old.store
        → IsUsedAt old.setting.file.counter (clock_of seen.reading b) account.name b used
    pub text : body ≡ account_text old.setting.file account used

  -- whether the deposit with the number is the account's own
  abbrev pub IsOwnWhere : AccountValue → ℕ → Bool → Type 0
  IsOwnWhere account number own =
      g.honest new.store → (b : History) → Stands g b old.store → is_own account.name number b ≡ own

  -- the readers of the deposit with the number
  abbrev pub AreReaders : AccountValue → ℕ → List ℕ → Type 0
  AreReaders account number body =
      g.honest new.store → (b : History) → Stands g b old.store
      → body ≡ readers_text old.setting.file account.name number b

  -- An extract is refused, where that refusal comes; the store's are counted. One that can't be written isn't.
  pub record KeepsBack (account : AccountValue) (from to : ℕ) (f : Refusal) : Type 0 where
    pub fault : ExtractFault
    pub comes : ComesWhere old.setting.file account from to fault
    pub unasked : IfUnasked (new.store ≡ old.store) fault
    pub counted : g.fault_count new.store ≡ count_after fault (g.fault_count old.store)
    pub written : fault ≢ Write
    pub tells : f ≡ refusal_of_extract fault

  -- the text that a report is
  unfoldable pub IsBodyOf : Report → List ℕ → Type 0
  IsBodyOf (Extract account from to) body = ⊥
  IsBodyOf Status body = IsStatus body
  IsBodyOf (OfAccount account) body = IsAccountText account body
  IsBodyOf (OfReaders account number) body = IsOwnWhere account number true × AreReaders account number body

  -- why none is given: a deposit isn't here for others than its owner, whether or not they see it
  unfoldable pub IsRefusedBy : Report → Refusal → Type 0
  IsRefusedBy (Extract account from to) f = KeepsBack account from to f
  IsRefusedBy Status f = ⊥
  IsRefusedBy (OfAccount account) f = ⊥
  IsRefusedBy (OfReaders account number) f = IsOwnWhere account number false × (f ≡ refusal.NotHere)

  -- the answer with a report; an extract that is written row by row is `Extracts` of `Served`
  pub data Reports (r : Report) (a : AnswerValue) : Type 0 where
    tells : (body : List ℕ) → IsBodyOf r body → a ≡ success 200 media.Text body → Reports r a
    keeps_back : (f : Refusal) → IsRefusedBy r f → a ≡ refusal_answer f → Reports r a
    -- the store can't be looked into, or memory is wanting
    wants : IsText r → a ≡ unavailable → Reports r a
