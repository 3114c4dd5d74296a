use Rattle.decide.proofs.Judgement.{first_lifted, clock_fails, quota_fails, all_hold, one_verdict, one_judged}
use Rattle.decide.proofs.laws.verdicts_are_one.Goals as goal

pub returns : goal.returns
returns c = record {
  judged = first_lifted;
  clock = clock_fails;
  quota = quota_fails;
  allowed = λ file account r facts plan judged within is. (all_hold file account r facts judged is.good.0 within, is);
  one = one_verdict;
  one_judged = one_judged;
}
