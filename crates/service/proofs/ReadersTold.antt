-- What is told of the readers of a deposit, out of what is found.
use Rattle.std.proofs.Common.{◌≡◌, ◌∙◌, ℕ, Bool, true, false, List, Option, refl, sym}
use Rattle.book.specs.declared.standing.Standing.{Ghosts}
use Rattle.book.specs.{History.History, Stands.OnlyLooks, Stands.Stands, Rights.is_own}
use Rattle.policy.specs.Record.{AccountValue}
use Rattle.desk.specs.CallContract.{DeskValue}
use Rattle.service.specs.Reports.{IsBodyOf, IsOwnWhere, IsRefusedBy, Seen, keeps_back, tells}
use Rattle.service.specs.{Answers.refusal_answer, Answers.success, Handlers.AnswersReport, Readers.readers_text}
use Rattle.service.specs.{Requests.OfReaders, Served.Sends, declared.served.Served.Served}
use Rattle.service.specs.declared.answer.Media.TheVariants as media
use Rattle.service.specs.declared.refusal.Refusal.TheVariants as refusal

module _ {B W : Type 0} (g : Ghosts B) (contents : W → Option (List ℕ)) (seen : Seen) (w w' : W) (old new : DeskValue B)
    (account : AccountValue) (number : ℕ) (outcome : Served) (mid : B) (own : Bool)
    (is : g.honest mid → (b : History) → Stands g b old.store → own ≡ is_own account.name number b)
    (looks : OnlyLooks g mid new.store) where
  abbrev TellsReaders : Type 0
  TellsReaders = AnswersReport g contents seen w w' old new (OfReaders account number) outcome

  owns : (answer : Bool) → own ≡ answer → IsOwnWhere g seen old new account number answer
  owns answer found = λ honest b stands. sym (is (looks.honest honest) b stands) ∙ found

  pub hidden_told : own ≡ false → Sends contents seen.reading w w' (refusal_answer refusal.NotHere) outcome
      → TellsReaders
  unfolding IsRefusedBy
  hidden_told found sent =
      (refusal_answer refusal.NotHere, keeps_back refusal.NotHere (owns false found, refl) refl, sent)

  pub readers_told : own ≡ true → ((b : History) → Stands g b old.store → Stands g b mid) → (body : List ℕ)
      → (g.honest new.store → (b : History) → Stands g b mid → is_own account.name number b ≡ true
      → body ≡ readers_text old.setting.file account.name number b)
      → Sends contents seen.reading w w' (success 200 media.Text body) outcome → TellsReaders
  unfolding IsBodyOf
  readers_told found stood body text sent = (
    success 200 media.Text body,
    tells body (
      owns true found,
      λ honest b stands. text honest b (stood b stands) (owns true found honest b stands),
    ) refl,
    sent,
  )
