-- From the facts by which the rules come furthest to what is found of a stamp.
use Rattle.std.proofs.Common.{◌≡◌, ℕ, ◌<◌, ◌≤◌, ℤ, List, [], ◌∷◌, length, Option, Some, None, Bool, false, refl}
use Rattle.std.proofs.Common.{sym, ap, ◌∙◌, subst, inl, inr, arith}
use Rattle.std.proofs.lemmas.Option.{same_Some}
use Rattle.std.specs.Prelude.{◌↔◌, ◌⊎◌}
use Rattle.der.specs.ObjectIdentifier.{oid_content}
use Rattle.gentime.specs.GenTime.{day_of}
use Rattle.policy.specs.Record.{AccountValue, PolicyValue}
use Rattle.tsp.specs.declared.rule.Rule.TheVariants.{Spelling, Clock, Quota}
use Rattle.tsp.specs.{Rejection.number_of, Request.RequestValue, Request.Spells, Rules.IsFirstFailing, Rules.IsSpelled}
use Rattle.tsp.specs.{Tst.SpellsTst, Tst.answer, declared.rule.Rule.Rule}
use Rattle.book.specs.{History.CalibrationValue, Rows.StampRow}
use Rattle.decide.specs.Verdict.{PlanValue, IsVerdict, Allowed}
use Rattle.decide.specs.{Clock.now_at, Clock.gen_time, Clock.IsGood, Rules.Holds, Rules.IsWithinQuota}
use Rattle.decide.specs.{Rules.policy_asked, declared.facts.ClockFacts.ClockFacts, declared.facts.Facts.Facts}
use Rattle.judgement.specs.Given.{IsGivenByRules, IsStampBy, account_of}
use Rattle.judgement.specs.Judged.{HoldsFor, FailsFurthest, IsJudgedAs}
use Rattle.judgement.specs.Readings.{EvidenceValue, IsClockUnder, IsOfSome, IsPossible, IsCalibratedClock, unheld}
use Rattle.judgement.specs.Readings.{ComesFurthest, calibration_of, is_held_by, uncalibrated}
use Rattle.judgement.specs.auxiliary.Search.{IsGoodClock, IsGoodUnder}
use Rattle.judgement.specs.declared.judgement.Judgement.TheVariants.{Given, MayHaveBeenHeld, Fails, Differs}
use Rattle.judgement.specs.{declared.evidence.Before.Before, declared.judgement.Judgement.Judgement}
use Rattle.judgement.proofs.Clocks.{some_map, good_rounds, uncalibrated_bad}

-- ---- facts

-- a clock of some calibration that is good
pub with_good : (e : EvidenceValue) (last : Option ℕ) (stated : ℕ) (clock : ClockFacts) (cs : List CalibrationValue)
    → IsGood e.file.counter clock → IsOfSome (IsClockUnder e last stated clock) cs
    → IsOfSome (IsGoodUnder e last stated clock) cs
with_good e last stated clock cs good =
    some_map (IsClockUnder e last stated clock) (IsGoodUnder e last stated clock) (λ c next h. (h, good)) cs

pub without_good : (e : EvidenceValue) (last : Option ℕ) (stated : ℕ) (clock : ClockFacts)
    (cs : List CalibrationValue) → IsOfSome (IsGoodUnder e last stated clock) cs
    → IsOfSome (IsClockUnder e last stated clock) cs
without_good e last stated clock cs =
    some_map (IsGoodUnder e last stated clock) (IsClockUnder e last stated clock) (λ c next h. h.0) cs

pub is_good : (e : EvidenceValue) (last : Option ℕ) (stated : ℕ) (clock : ClockFacts) (cs : List CalibrationValue)
    → IsOfSome (IsGoodUnder e last stated clock) cs → IsGood e.file.counter clock
is_good e last stated clock [] h = absurd h
is_good e last stated clock (c ∷ cs) (inl h) = h.1
is_good e last stated clock (c ∷ cs) (inr h) = is_good e last stated clock cs h

-- the facts of a good clock that was found come furthest
pub found_furthest : (e : EvidenceValue) (before : Before) (stated : ℕ) (clock : ClockFacts)
    → IsOfSome (IsGoodUnder e before.last_gen_time stated clock) e.calibrations
    → ComesFurthest e before stated (record { clock = clock; count = before.count })
found_furthest e before stated clock h = record {
  possible = record { clock = inl (without_good e before.last_gen_time stated clock e.calibrations h); count = refl };
  furthest = λ others possible good. is_good e before.last_gen_time stated clock e.calibrations h;
}

no_good : (e : EvidenceValue) (before : Before) (stated : ℕ)
    → IsGoodClock e before.last_gen_time stated e.calibrations None → (clock : ClockFacts)
    → IsCalibratedClock e before.last_gen_time stated clock ⊎ (clock ≡ uncalibrated) → IsGood e.file.counter clock → ⊥
no_good e before stated none clock (inl h) good =
    none clock (with_good e before.last_gen_time stated clock e.calibrations good h)
no_good e before stated none clock (inr is) good =
    uncalibrated_bad e.file.counter (subst (IsGood e.file.counter) is good)

-- where there is none, those without a calibration do
pub none_furthest : (e : EvidenceValue) (before : Before) (stated : ℕ)
    → IsGoodClock e before.last_gen_time stated e.calibrations None
    → ComesFurthest e before stated (record { clock = uncalibrated; count = before.count })
none_furthest e before stated none = record {
  possible = record { clock = inr refl; count = refl };
  furthest = λ others possible good. absurd (no_good e before stated none others.clock possible.clock good);
}

-- ---- rules

-- what holds by some facts holds by others, of the same count, by which the clock is good if it is by those
pub carried : (file : PolicyValue) (account : Option AccountValue) (r : RequestValue) (facts others : Facts)
    → others.count ≡ facts.count → (IsGood file.counter others.clock → IsGood file.counter facts.clock)
    → (rule : Rule) → Holds file account r others rule → Holds file account r facts rule
carried file account r facts others count clock Clock h = clock h
carried file account r facts others count clock Quota h = subst (IsWithinQuota account) count h
carried file account r facts others count clock rule h = h

carried_for : (e : EvidenceValue) (stamp : StampRow) (facts others : Facts) → others.count ≡ facts.count
    → (IsGood e.file.counter others.clock → IsGood e.file.counter facts.clock)
    → (rule : Rule) → HoldsFor e stamp others rule → HoldsFor e stamp facts rule
carried_for e stamp facts others count clock Spelling h = h
carried_for e stamp facts others count clock rule h =
    λ r s. carried e.file (account_of e stamp) r facts others count clock rule (h r s)

-- the first rule that fails by the facts that come furthest
pub fails_furthest : (e : EvidenceValue) (before : Before) (stamp : StampRow) (facts : Facts) (rule : Rule)
    → ComesFurthest e before stamp.gen_time facts → IsFirstFailing (HoldsFor e stamp facts) rule
    → FailsFurthest e before stamp rule
fails_furthest e before stamp facts rule far first = record {
  fails = λ others possible h. first.fails (carried_for e stamp facts others (possible.count ∙ sym far.possible.count)
      (far.furthest others possible) rule h);
  furthest = facts;
  possible = far.possible;
  holds = first.before;
}

none_before : (earlier : Rule) → number_of earlier < 1 → ⊥
none_before Spelling less = omega arith
none_before rule less = omega arith

-- octets that are no request fail the first rule
pub fails_spelling : (e : EvidenceValue) (before : Before) (stamp : StampRow) → (IsSpelled stamp.request → ⊥)
    → FailsFurthest e before stamp Spelling
fails_spelling e before stamp none = record {
  fails = λ facts possible h. none h;
  furthest = record { clock = uncalibrated; count = before.count };
  possible = record { clock = inr refl; count = refl };
  holds = λ earlier less. absurd (none_before earlier less);
}

-- ---- stamps that the rules allow

pub is_asked : (stated : ℕ) (e : EvidenceValue) (before : Before) (facts : Facts)
    → IsPossible e before stated facts → (good : IsGood e.file.counter facts.clock)
    → gen_time e.file.counter good.now ≡ stated
is_asked stated e before facts possible good =
    elim possible.clock [
      | inl h ↦ good_rounds e before.last_gen_time stated facts.clock e.calibrations h good
      | inr is ↦ absurd (uncalibrated_bad e.file.counter (subst (IsGood e.file.counter) is good))
    ]

-- a plan for the stamp's genTime is the plan by other facts by which the clock is good
allowed_by : (e : EvidenceValue) (before : Before) (stated : ℕ) (account : Option AccountValue) (r : RequestValue)
    (facts others : Facts) (plan : PlanValue) → IsPossible e before stated facts → others.count ≡ facts.count
    → IsGood e.file.counter facts.clock → plan.gen_time ≡ stated
    → IsVerdict e.file account r others (Allowed plan) → IsVerdict e.file account r facts (Allowed plan)
allowed_by e before stated account r facts others plan possible count good at verdict = (
  λ rule. carried e.file account r facts others count (λ _. good) rule (verdict.0 rule),
  record {
    policy = verdict.1.policy;
    good = (good, at ∙ sym (is_asked stated e before facts possible good));
    certificate = verdict.1.certificate;
  },
)

abbrev clock_with : Option ℕ → CalibrationValue → ℤ → Bool → ClockFacts
clock_with last c reading held = record {
  reading = reading;
  calibration = Some (calibration_of c);
  held = held;
  last_gen_time = last;
}

-- a clock that isn't held is what it would be without holds
free_possible : (e : EvidenceValue) (last : Option ℕ) (stated : ℕ) (clock : ClockFacts) (cs : List CalibrationValue)
    → clock.held ≡ false → IsOfSome (IsClockUnder e last stated clock) cs
    → IsOfSome (IsClockUnder (unheld e) last stated clock) cs
free_possible e last stated clock cs free =
    some_map (IsClockUnder e last stated clock) (IsClockUnder (unheld e) last stated clock)
    (λ c next h.
    (let held : is_held_by e.holds (now_at h.0 (calibration_of c)) ≡ false = sym (ap (λ x. x.held) h.2) ∙ free in
    (h.0, h.1, h.2 ∙ ap (clock_with last c h.0) held))) cs

pub free_of_holds : (e : EvidenceValue) (before : Before) (stated : ℕ) (facts : Facts) → IsPossible e before stated facts
    → IsGood e.file.counter facts.clock → IsPossible (unheld e) before stated facts
free_of_holds e before stated facts possible good = record {
  clock = elim possible.clock [
    | inl h ↦ inl (free_possible e before.last_gen_time stated facts.clock e.calibrations good.free h)
    | inr is ↦ inr is
  ];
  count = possible.count;
}

-- the row doesn't depend on holds
row_unheld : (e : EvidenceValue) (r : RequestValue) (plan : PlanValue) (stamp : StampRow) → IsStampBy e r plan stamp
    → IsStampBy (unheld e) r plan stamp
row_unheld e r plan stamp row = record {
  gen_time = row.gen_time;
  day = row.day;
  policy = row.policy;
  algorithm = row.algorithm;
  digest = row.digest;
  tsa = row.tsa;
  named = row.named;
  tst = row.tst;
}

-- what is given is given if nothing had been held
pub given_unheld : (e : EvidenceValue) (before : Before) (stamp : StampRow) → IsGivenByRules e before stamp
    → IsGivenByRules (unheld e) before stamp
given_unheld e before stamp k = record {
  request = k.request;
  asked = k.asked;
  short = k.short;
  facts = k.facts;
  possible = free_of_holds e before stamp.gen_time k.facts k.possible (k.allowed.0 Clock);
  plan = k.plan;
  allowed = k.allowed;
  row = row_unheld e k.request k.plan stamp k.row;
}

-- a stamp that the rules allow, if nothing was held
pub record IsAllowed (e : EvidenceValue) (before : Before) (stamp : StampRow) (r : RequestValue) (plan : PlanValue)
    : Type 0 where
  pub asked : Spells stamp.request r
  pub short : length stamp.request ≤ 65536
  pub facts : Facts
  pub possible : IsPossible (unheld e) before stamp.gen_time facts
  pub allowed : IsVerdict e.file (account_of e stamp) r facts (Allowed plan)

pub given_by : (e : EvidenceValue) (before : Before) (stamp : StampRow) (r : RequestValue) (plan : PlanValue)
    (clock : ClockFacts) → IsAllowed e before stamp r plan → IsStampBy e r plan stamp
    → IsOfSome (IsGoodUnder e before.last_gen_time stamp.gen_time clock) e.calibrations
    → IsGivenByRules e before stamp
given_by e before stamp r plan clock k row h =
    let facts : Facts = record { clock = clock; count = before.count } in
    let possible : IsPossible e before stamp.gen_time facts =
    (found_furthest e before stamp.gen_time clock h).possible in
    record {
      request = r;
      asked = k.asked;
      short = k.short;
      facts = facts;
      possible = possible;
      plan = plan;
      allowed = allowed_by e before stamp.gen_time (account_of e stamp) r facts k.facts plan possible k.possible.count
          (is_good e before.last_gen_time stamp.gen_time clock e.calibrations h) (sym row.gen_time) k.allowed;
      row = row;
    }

pub may_be_held : (e : EvidenceValue) (before : Before) (stamp : StampRow) (r : RequestValue) (plan : PlanValue)
    → IsAllowed e before stamp r plan → IsStampBy e r plan stamp
    → IsGoodClock e before.last_gen_time stamp.gen_time e.calibrations None
    → IsJudgedAs e before stamp MayHaveBeenHeld
may_be_held e before stamp r plan k row none = (
  λ given. no_good e before stamp.gen_time none given.facts.clock given.possible.clock (given.allowed.0 Clock),
  record {
    request = r;
    asked = k.asked;
    short = k.short;
    facts = k.facts;
    possible = k.possible;
    plan = plan;
    allowed = k.allowed;
    row = row_unheld e r plan stamp row;
  },
)

same_row : (e : EvidenceValue) (r s : RequestValue) (one other : PlanValue) (stamp : StampRow) → r ≡ s
    → one.policy ≡ other.policy → one.gen_time ≡ other.gen_time → IsStampBy (unheld e) r one stamp
    → IsStampBy e s other stamp
same_row e r s one other stamp request policy at row = record {
  gen_time = row.gen_time ∙ at;
  day = row.day ∙ ap day_of at;
  policy = row.policy ∙ ap oid_content policy;
  algorithm = row.algorithm ∙ ap (λ x. oid_content x.imprint.algorithm) request;
  digest = row.digest ∙ ap (λ x. x.imprint.hash) request;
  tsa = row.tsa;
  named = row.named;
  tst =
      let text = λ (x : RequestValue) (p : List ℕ) (g : ℕ). SpellsTst stamp.tst (answer x p stamp.serial g
      e.file.counter.accuracy_us e.file.counter.ordering row.tsa) in
      subst (λ x. text x other.policy other.gen_time) request
      (subst (λ p. text r p other.gen_time) policy (subst (text r one.policy) at row.tst));
}

pub differs : (e : EvidenceValue) (before : Before) (stamp : StampRow) (r : RequestValue) (plan : PlanValue)
    → ((s : RequestValue) → Spells stamp.request s → s ≡ r) → IsAllowed e before stamp r plan
    → (IsStampBy e r plan stamp → ⊥) → IsJudgedAs e before stamp Differs
differs e before stamp r plan one k not_row = record {
  request = r;
  asked = k.asked;
  short = k.short;
  facts = k.facts;
  possible = k.possible;
  plan = plan;
  allowed = k.allowed;
  differs = λ given.
      (let same : given.request ≡ r = one given.request given.asked in
      let policy : given.plan.policy ≡ plan.policy = same_Some _ _ (sym given.allowed.1.policy
      ∙ (ap (policy_asked e.file (account_of e stamp)) same ∙ k.allowed.1.policy)) in
      let good = k.allowed.1.good in
      let at : given.plan.gen_time ≡ plan.gen_time = sym given.row.gen_time
      ∙ (sym (is_asked stamp.gen_time (unheld e) before k.facts k.possible good.0) ∙ sym good.1) in
      not_row (same_row e given.request r given.plan plan stamp same policy at given.row));
}

-- what is found of a stamp tells whether it is given
pub judged_given : (e : EvidenceValue) (before : Before) (stamp : StampRow) (judgement : Judgement)
    → ((r : RequestValue) (facts : Facts) (plan : PlanValue) → Spells stamp.request r → length stamp.request ≤ 65536
    → IsVerdict e.file (account_of e stamp) r facts (Allowed plan) → (rule : Rule) → HoldsFor e stamp facts rule)
    → IsJudgedAs e before stamp judgement → (judgement ≡ Given) ↔ IsGivenByRules e before stamp
judged_given e before stamp Given of_octets j = (λ _. j, λ _. refl)
judged_given e before stamp MayHaveBeenHeld of_octets j = (λ same. (cc), λ given. absurd (j.0 given))
judged_given e before stamp (Fails rule) of_octets j = (
  λ same. (cc),
  λ given.
      (let k = given_unheld e before stamp given in
      absurd (j.fails k.facts k.possible (of_octets k.request k.facts k.plan k.asked k.short k.allowed rule))),
)
judged_given e before stamp Differs of_octets j = (
  λ same. (cc),
  λ given. absurd (j.differs (given_unheld e before stamp given)),
)
