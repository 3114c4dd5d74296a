-- The definitions, computed on a row: calibration (0, 250, 400), drift 1000, three digits, reading 1,000,000,000.
use Rattle.std.proofs.Common.{◌≡◌, ℕ, ◌≤◌, ◌+◌, ◌-◌, pos, [], ◌∷◌, Some, None, true, false, refl, sym, subst, codes}
use Rattle.std.proofs.{Common.arith, lemmas.Int.ints, lemmas.Option.same_Some}
use Rattle.policy.specs.Record.{AccountValue, CounterValue, PolicyValue}
use Rattle.tsp.specs.{Request.RequestValue, Rules.IsFirstFailing}
use Rattle.tsp.specs.declared.rule.Rule.TheVariants.{Account, Algorithm}
use Rattle.decide.specs.Clock.{now_at, deviation, step, gen_time, IsGood, IsGoodAt}
use Rattle.decide.specs.{Rules.HoldsOf, declared.facts.Calibration.Calibration, declared.facts.ClockFacts.ClockFacts}
use Rattle.decide.proofs.{Lists.contains_here, Lists.contains_none, Judgement.after_version, Judgement.below_next}

abbrev counter : ℕ → CounterValue
counter accuracy = record {
  accuracy_us = accuracy;
  fraction_digits = 3;
  ordering = false;
  drift_ppb = 1000;
  max_age_us = 86400000000;
  anonymous = None;
  tsa_name = false;
}

abbrev calibration : Calibration
calibration = record { reading = pos 0; offset = pos 250; uncertainty = 400 }

abbrev facts : ClockFacts
facts = record { reading = pos 1000000000; calibration = Some calibration; held = false; last_gen_time = None }

now_of_row : now_at (pos 1000000000) calibration ≡ pos 1000000250
now_of_row = refl

deviation_of_row : deviation (counter 2399) (pos 1000000000) calibration ≡ 1400
deviation_of_row = refl

-- drift is rounded up
deviation_later : deviation (counter 2399) (pos 1000000001) calibration ≡ 1401
deviation_later = refl

gen_time_of_row : gen_time (counter 2399) 1000000250 ≡ 1000000000
gen_time_of_row = refl

-- The accuracy is met exactly, so that the clock is good; one microsecond less, and it isn't.
pub good_at_2399 : IsGoodAt (counter 2399) facts 1000000000
good_at_2399 = (
  record {
    calibration = calibration;
    calibrated = refl;
    after = omega (arith, ints);
    age = omega arith;
    accurate = omega arith;
    now = 1000000250;
    stated = refl;
    statable = omega arith;
    free = refl;
    follows = tt;
  },
  refl,
)

pub bad_at_2398 : IsGood (counter 2398) facts → ⊥
bad_at_2398 good =
    let same : calibration ≡ good.calibration = same_Some _ _ good.calibrated in
    let accurate : deviation (counter 2398) facts.reading calibration + (step (counter 2398) - 1) ≤ 2398 =
    subst (λ x. deviation (counter 2398) facts.reading x + (step (counter 2398) - 1) ≤ 2398) (sym same) good.accurate in
    omega (arith, accurate)

-- a file of one account and no algorithm
abbrev guest : AccountValue
guest = record {
  name = codes "guest";
  key_sha256 = None;
  active = true;
  auditor = false;
  operator = false;
  policies = codes "open" ∷ [];
  daily_quota = 1000;
}

abbrev file : PolicyValue
file = record {
  counter = counter 2399;
  algorithms = [];
  extensions = [];
  policies = [];
  accounts = guest ∷ [];
  groups = [];
}

-- a request of version 1 with an algorithm that the file hasn't
abbrev request : RequestValue
request = record {
  version = pos 1;
  imprint = record { algorithm = 1079 ∷ 100 ∷ []; parameters = None; hash = [] };
  policy = None;
  nonce = None;
  cert_req = false;
  extensions = [];
}

pub algorithm_fails_first : IsFirstFailing (HoldsOf file (Some guest) request) Algorithm
algorithm_fails_first = record {
  fails = λ h. contains_none h.0.0 h.0.1;
  before = below_next (HoldsOf file (Some guest) request) Account (after_version file (Some guest) request refl)
      (guest, refl, contains_here guest [], refl);
}
