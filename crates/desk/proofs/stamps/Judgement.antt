-- From what is judged of a request to what is found of its octets.
use Rattle.std.proofs.Common.{◌≡◌, ℕ, ◌<◌, ◌≤◌, ◌⊎◌, ℤ, pos, List, [], length, Option, Some, None, Ok, refl, sym, ap}
use Rattle.std.proofs.Common.{◌∙◌, subst, inl, inr, arith}
use Rattle.std.specs.Prelude.{option_map}
use Rattle.policy.specs.Record.{AccountValue, PolicyValue}
use Rattle.tsp.specs.declared.fault.TspFault.TheVariants.{Form, TooLong}
use Rattle.tsp.specs.auxiliary.RulesOfOctets.{SpellsOnly, to_octets, first_of_octets}
use Rattle.tsp.specs.declared.rule.Rule.TheVariants.{Spelling, Version, Account, Algorithm, HashLength, Policy}
use Rattle.tsp.specs.declared.rule.Rule.TheVariants.{PolicyAlgorithm, Extensions, Certificate, Clock, Quota, System}
use Rattle.tsp.specs.{Request.RequestValue, Request.Spells, Rejection.number_of, declared.fault.TspFault.TspFault}
use Rattle.tsp.specs.{Rules.IsSpelled, Rules.HoldsOfOctets, Rules.IsFirstFailing, declared.rule.Rule.Rule}
use Rattle.decide.specs.declared.facts.Calibration.{Calibration}
use Rattle.decide.specs.{Clock.IsGoodAt, Clock.now_at, Rules.Holds, Rules.HoldsOf, Verdict.IsJudged}
use Rattle.decide.specs.{declared.facts.Facts.Facts, declared.facts.ClockFacts.ClockFacts}
use Rattle.book.specs.History.{History, CalibrationValue, latest_calibration, count_of_day, day_of}
use Rattle.book.specs.declared.fault.StoreFault.{StoreFault}
use Rattle.book.specs.{declared.standing.Standing.Ghosts, Fault.count_after, Fault.IsOfStorage, Stands.OnlyLooks}
use Rattle.book.specs.declared.fault.StoreFault.TheVariants as store
use Rattle.desk.specs.Facts.{calibration_of, now_in, gen_time_of, gen_time_in, count_in, clock_of, facts_of}
use Rattle.desk.specs.{Calls.call_of, Calls.store_cause, Calls.count_for, Findings.HoldsUnasked, Findings.HoldsAt}
use Rattle.desk.specs.{Findings.IsAnsweredFor, Outcome.cause_of, Outcome.counted, Outcome.all_fine}

-- the count after a refusal is the outcome's
pub same_count : (f : StoreFault) (n : ℕ) → count_after f n ≡ counted (call_of f) n
same_count store.Memory n = refl
same_count store.Database n = refl
same_count store.NotOurs n = refl
same_count store.Full n = refl
same_count store.Backwards n = refl

memory_cause : (f : StoreFault) → f ≡ store.Memory → cause_of (call_of f) ≡ Some (store_cause f)
memory_cause f e = subst (λ x. cause_of (call_of x) ≡ Some (store_cause x)) (sym e) refl

database_cause : (f : StoreFault) → f ≡ store.Database → cause_of (call_of f) ≡ Some (store_cause f)
database_cause f e = subst (λ x. cause_of (call_of x) ≡ Some (store_cause x)) (sym e) refl

-- and so is its cause
pub same_cause : (f : StoreFault) → IsOfStorage f → cause_of (call_of f) ≡ Some (store_cause f)
same_cause f (inl e) = memory_cause f e
same_cause f (inr e) = database_cause f e

now_is : (reading : ℤ) (c : Calibration) (n : ℕ) (latest : Option CalibrationValue)
    → option_map calibration_of latest ≡ Some c → now_at reading c ≡ pos n → now_in reading latest ≡ Some (pos n)
now_is reading c n None e stated = cc
now_is reading c n (Some x) e stated =
    let same : calibration_of x ≡ c = cc in ap Some (ap (λ y. now_at reading y) same ∙ stated)

-- a good clock's genTime is the one that the reading stands for
pub gen_time_is : (file : PolicyValue) (reading : ℤ) (b : History) (moment : ℕ)
    → IsGoodAt file.counter (clock_of reading b) moment → moment ≡ gen_time_in file reading b
gen_time_is file reading b moment h =
    let good = h.0 in
    h.1 ∙ sym (ap (gen_time_of file) (now_is reading good.calibration good.now (latest_calibration b) good.calibrated
    good.stated))

-- so the day that was counted is the genTime's
pub count_same : (file : PolicyValue) (account : Option AccountValue) (reading : ℤ) (b : History) (moment : ℕ)
    → IsGoodAt file.counter (clock_of reading b) moment
    → count_for account (day_of moment) b ≡ count_in file account reading b
count_same file None reading b moment h = refl
count_same file (Some a) reading b moment h =
    ap (λ m. count_of_day a.name (day_of m) b) (gen_time_is file reading b moment h)

abbrev facts_from : ClockFacts → ℕ → Facts
facts_from clock count = record { clock = clock; count = count }

pub facts_are : (file : PolicyValue) (account : Option AccountValue) (reading : ℤ) (b : History) (clock : ClockFacts)
    (count moment : ℕ) → clock ≡ clock_of reading b → IsGoodAt file.counter clock moment
    → count ≡ count_for account (day_of moment) b
    → facts_from clock count ≡ facts_of file account reading b
facts_are file account reading b clock count moment e good counts =
    let here = subst (λ x. IsGoodAt file.counter x moment) e good in
    ap (λ x. facts_from x count) e
    ∙ ap (facts_from (clock_of reading b)) (counts ∙ count_same file account reading b moment here)

-- the first rule that fails of the request fails first of the octets
pub first_lifted : (file : PolicyValue) (account : Option AccountValue) (reading : ℤ) (octets : List ℕ) (b : History)
    (r : RequestValue) (facts : Facts) → facts ≡ facts_of file account reading b
    → Spells octets r → SpellsOnly octets r → length octets ≤ 65536
    → (rule : Rule) → IsFirstFailing (Holds file account r facts) rule
    → IsFirstFailing (HoldsAt file account reading octets b) rule
first_lifted file account reading octets b r facts e spelled only short rule first =
    first_of_octets (λ x. Holds file account x (facts_of file account reading b)) octets r spelled only short tt rule
    (subst (λ x. IsFirstFailing (Holds file account r x) rule) e first)

pub all_lifted : (file : PolicyValue) (account : Option AccountValue) (reading : ℤ) (octets : List ℕ) (b : History)
    (r : RequestValue) (facts : Facts) → facts ≡ facts_of file account reading b
    → Spells octets r → SpellsOnly octets r → length octets ≤ 65536
    → ((rule : Rule) → Holds file account r facts rule)
    → (rule : Rule) → HoldsAt file account reading octets b rule
all_lifted file account reading octets b r facts e spelled only short holds rule =
    to_octets (λ x. Holds file account x (facts_of file account reading b)) octets r spelled only short rule
    (subst (λ x. Holds file account r x rule) e (holds rule))

-- the rules 1 to 9
pub unasked_lifted : (file : PolicyValue) (account : Option AccountValue) (octets : List ℕ) (r : RequestValue)
    → Spells octets r → SpellsOnly octets r → length octets ≤ 65536
    → IsJudged file account r None → (rule : Rule) → HoldsUnasked file account octets rule
unasked_lifted file account octets r spelled only short judged rule =
    to_octets (HoldsOf file account) octets r spelled only short rule (judged rule)

pub unasked_first : (file : PolicyValue) (account : Option AccountValue) (octets : List ℕ) (r : RequestValue)
    → Spells octets r → SpellsOnly octets r → length octets ≤ 65536
    → (rule : Rule) → IsJudged file account r (Some rule) → IsFirstFailing (HoldsUnasked file account octets) rule
unasked_first file account octets r spelled only short rule judged =
    first_of_octets (HoldsOf file account) octets r spelled only short tt rule judged

none_before : (rule : Rule) → number_of rule < 1 → ⊥
none_before Spelling h = omega arith
none_before Version h = omega arith
none_before Account h = omega arith
none_before Algorithm h = omega arith
none_before HashLength h = omega arith
none_before Policy h = omega arith
none_before PolicyAlgorithm h = omega arith
none_before Extensions h = omega arith
none_before Certificate h = omega arith
none_before Clock h = omega arith
none_before Quota h = omega arith
none_before System h = omega arith

-- octets that spell no request fail rule 1
pub unspelled : (HoldsHere : RequestValue → Rule → Type 0) (octets : List ℕ) → (IsSpelled octets → ⊥)
    → IsFirstFailing (HoldsOfOctets HoldsHere octets) Spelling
unspelled HoldsHere octets fails = record {
  fails = fails;
  before = λ earlier less. absurd (none_before earlier less);
}

-- a rule that fails of a request has its calls answered, where all were
pub answered_for : (file : PolicyValue) (account : Option AccountValue) (r : RequestValue) (facts : Facts) (rule : Rule)
    → IsFirstFailing (Holds file account r facts) rule → IsAnsweredFor (all_fine (Ok [])) rule
answered_for file account r facts Spelling first = tt
answered_for file account r facts Version first = tt
answered_for file account r facts Account first = tt
answered_for file account r facts Algorithm first = tt
answered_for file account r facts HashLength first = tt
answered_for file account r facts Policy first = tt
answered_for file account r facts PolicyAlgorithm first = tt
answered_for file account r facts Extensions first = tt
answered_for file account r facts Certificate first = tt
answered_for file account r facts Clock first = refl
answered_for file account r facts Quota first = (refl, refl)
answered_for file account r facts System first = absurd (first.fails tt)

-- one look-up after the other
pub looks_then : {B : Type 0} (g : Ghosts B) (old mid new : B) → OnlyLooks g old mid → OnlyLooks g mid new
    → OnlyLooks g old new
looks_then g old mid new one other = record {
  honest = λ h. one.honest (other.honest h);
  stands = λ b st. other.stands b (one.stands b st);
  leaves = λ h left r. one.leaves (other.honest h) left (other.leaves h left r);
}

-- what isn't read isn't spelled, or is too long
pub unread : (octets : List ℕ) (f : TspFault) → (f ≡ Form) ⊎ (f ≡ TooLong)
    → (f ≡ Form → (r : RequestValue) → Spells octets r → ⊥) → (f ≡ TooLong → 65536 < length octets)
    → IsSpelled octets → ⊥
unread octets f (inl e) form long h = form e h.0.0 h.0.1
unread octets f (inr e) form long h = let above = long e in let short = h.1 in omega arith
