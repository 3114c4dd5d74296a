-- How many stamps an account has on its day, out of what the clock's state and the store say.
use Rattle.std.proofs.Common.{◌≡◌, ◌∙◌, ℕ, zero, suc, ◌-◌, ◌*◌, ◌/◌, ◌^◌, ◌≤◌, ℤ, List, Option, Some, None, ap, arith}
use Rattle.std.proofs.Common.{refl, subst, sym}
use Rattle.gentime.specs.GenTime.{round_down}
use Rattle.policy.specs.Record.{AccountValue, CounterValue, PolicyValue}
use Rattle.book.specs.History.{History, count_of_day, day_of}
use Rattle.book.specs.{Stands.Stands, declared.standing.Standing.Ghosts}
use Rattle.decide.specs.Clock.{IsGood, IsGoodAt, gen_time}
use Rattle.desk.specs.{Agreement.Agree, CallContract.DeskValue, Calls.looked_at, Facts.clock_of, Facts.count_in}
use Rattle.desk.specs.{Viewers.viewer_in, declared.clock_facts.Looked.Looked}
use Rattle.desk.proofs.{stamps.Judgement.count_same, journeys.SameEffect.facts_same}
use Rattle.service.specs.Reports.{IsBodyOf, Seen, tells}
use Rattle.service.specs.{Accounts.IsUsedAt, Accounts.account_text, Answers.success, Handlers.AnswersReport}
use Rattle.service.specs.{Requests.OfAccount, Served.Sends, declared.served.Served.Served}
use Rattle.service.specs.declared.answer.Media.TheVariants as media

-- what is rounded down to six digits of a fraction, or to fewer, stays on its day
rounded_by : (tens moment : ℕ) → tens ≤ 6 → day_of (moment / 10 ^ tens * 10 ^ tens) ≡ day_of moment
rounded_by zero moment few = omega arith
rounded_by (suc zero) moment few = omega arith
rounded_by (suc (suc zero)) moment few = omega arith
rounded_by (suc (suc (suc zero))) moment few = omega arith
rounded_by (suc (suc (suc (suc zero)))) moment few = omega arith
rounded_by (suc (suc (suc (suc (suc zero))))) moment few = omega arith
rounded_by (suc (suc (suc (suc (suc (suc zero)))))) moment few = omega arith
rounded_by (suc (suc (suc (suc (suc (suc (suc tens))))))) moment few = absurd (omega arith)

pub day_rounded : (digits moment : ℕ) → day_of (round_down digits moment) ≡ day_of moment
day_rounded digits moment = rounded_by (6 - digits) moment (omega arith)

module _ (counter file_counter : CounterValue) (looked : Looked) (asked reading : ℤ) (b : History) (name : List ℕ)
    (of : counter ≡ file_counter) (at : asked ≡ reading) (finds : looked ≡ looked_at asked b) where
  same_clock : looked.clock ≡ clock_of reading b
  same_clock = ap (λ l. l.clock) finds ∙ ap (λ r. clock_of r b) at

  -- the count of the day of a good clock's genTime is that of the day of now
  pub used_known : (asked_name : List ℕ) (moment day count : ℕ) → IsGoodAt counter looked.clock moment
      → asked_name ≡ name → day ≡ day_of moment → count ≡ count_of_day asked_name day b
      → IsUsedAt file_counter (clock_of reading b) name b (Some count)
  used_known asked_name moment day count is named on counts =
      let h = subst (λ x. IsGoodAt file_counter x moment) same_clock
      (subst (λ x. IsGoodAt x looked.clock moment) of is) in (
        h.0,
        counts ∙ ap (λ n. count_of_day n day b) named
            ∙ ap (λ d. count_of_day name d b) (on ∙ ap day_of h.1 ∙ day_rounded file_counter.fraction_digits h.0.now),
      )

-- what is told of an account is what the policy file and the store say of it
pub account_told : {B W : Type 0} (g : Ghosts B) (contents : W → Option (List ℕ)) (seen : Seen) (asked : ℤ) (w w' : W)
    (old new : DeskValue B) (file : PolicyValue) (account : AccountValue) (used : Option ℕ) (body : List ℕ)
    (outcome : Served) → asked ≡ seen.reading → file ≡ old.setting.file
    → (g.honest new.store → (b : History) → Stands g b old.store
    → IsUsedAt old.setting.file.counter (clock_of asked b) account.name b used)
    → body ≡ account_text file account used
    → Sends contents seen.reading w w' (success 200 media.Text body) outcome
    → AnswersReport g contents seen w w' old new (OfAccount account) outcome
unfolding IsBodyOf
account_told g contents seen asked w w' old new file account used body outcome at of is text sent = (
  success 200 media.Text body,
  tells body (record {
    used = used;
    is = λ honest b stands.
        subst (λ r. IsUsedAt old.setting.file.counter (clock_of r b) account.name b used) at (is honest b stands);
    text = text ∙ ap (λ f. account_text f account used) of;
  }) refl,
  sent,
)

-- the day's count of a good clock is among the facts
of_day : (file : PolicyValue) (account : AccountValue) (reading : ℤ) (b : History)
    → (good : IsGood file.counter (clock_of reading b))
    → count_of_day account.name (day_of good.now) b ≡ count_in file (Some account) reading b
of_day file account reading b good =
    ap (λ d. count_of_day account.name d b) (sym (day_rounded file.counter.fraction_digits good.now))
    ∙ count_same file (Some account) reading b (gen_time file.counter good.now) (good, refl)

pub used_alike : (file : PolicyValue) (account : AccountValue) (reading : ℤ) (b c : History) (used : Option ℕ)
    → Agree (viewer_in file account.name) b c → IsUsedAt file.counter (clock_of reading b) account.name b used
    → IsUsedAt file.counter (clock_of reading c) account.name c used
used_alike file account reading b c None agree is =
    subst (λ f. IsGood file.counter f.clock → ⊥) (facts_same file account reading b c agree) is
used_alike file account reading b c (Some count) agree is =
    let facts = facts_same file account reading b c agree in
    let good = subst (λ f. IsGood file.counter f.clock) facts is.0 in
    (good, is.1 ∙ of_day file account reading b is.0 ∙ ap (λ f. f.count) facts ∙ sym (of_day file account reading c good))
