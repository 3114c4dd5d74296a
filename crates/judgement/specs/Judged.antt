-- How a stamp that isn't given by the rules is told.
use Rattle.std.specs.Prelude.{◌≡◌, ◌<◌, ◌≤◌, ◌==◌, ◌&&◌, Bool, true, false, not, List, Option, Some, None, is_some}
use Rattle.std.specs.Prelude.{length}
use Rattle.book.specs.Rows.{StampRow}
use Rattle.tsp.specs.Request.{RequestValue, Spells}
use Rattle.tsp.specs.{Rejection.number_of, Rules.HoldsOfOctets, declared.rule.Rule.Rule}
use Rattle.decide.specs.{Rules.Holds, Verdict.PlanValue, Verdict.IsVerdict, Verdict.Allowed, declared.facts.Facts.Facts}
use Rattle.judgement.specs.Readings.{EvidenceValue, IsPossible, unheld}
use Rattle.judgement.specs.declared.judgement.Judgement.TheVariants.{Given, MayHaveBeenHeld, Fails, Differs}
use Rattle.judgement.specs.{Given.IsGivenByRules, Given.account_of, Past.before_of, Past.last_gen_time}
use Rattle.judgement.specs.{declared.evidence.Before.Before, declared.judgement.Judgement.Judgement}

-- the rules, of the stamp's octets and by these facts
abbrev pub HoldsFor : EvidenceValue → StampRow → Facts → Rule → Type 0
HoldsFor e stamp facts rule = HoldsOfOctets (λ r. Holds e.file (account_of e stamp) r facts) stamp.request rule

-- the rule fails whatever the facts were, and by some of them each rule of a lower number holds: none come further
pub record FailsFurthest (e : EvidenceValue) (before : Before) (stamp : StampRow) (rule : Rule) : Type 0 where
  pub fails : (facts : Facts) → IsPossible e before stamp.gen_time facts → HoldsFor e stamp facts rule → ⊥
  pub furthest : Facts
  pub possible : IsPossible e before stamp.gen_time furthest
  pub holds : (earlier : Rule) → number_of earlier < number_of rule → HoldsFor e stamp furthest earlier

-- the verdict allows a stamp of this genTime, whose row is another one
pub record IsAnotherRow (e : EvidenceValue) (before : Before) (stamp : StampRow) : Type 0 where
  pub request : RequestValue
  pub asked : Spells stamp.request request
  pub short : length stamp.request ≤ 65536
  pub facts : Facts
  pub possible : IsPossible e before stamp.gen_time facts
  pub plan : PlanValue
  pub allowed : IsVerdict e.file (account_of e stamp) request facts (Allowed plan)
  pub differs : ¬ IsGivenByRules e before stamp

-- Given; or given if nothing had been held, since a hold may have been added later than the stamp; or else, leaving
-- holds out, the first rule that fails where the reading comes furthest, or a row that isn't the allowed stamp's.
abbrev pub IsJudgedAs : EvidenceValue → Before → StampRow → Judgement → Type 0
IsJudgedAs e before stamp Given = IsGivenByRules e before stamp
IsJudgedAs e before stamp MayHaveBeenHeld =
    (¬ IsGivenByRules e before stamp) × IsGivenByRules (unheld e) before stamp
IsJudgedAs e before stamp (Fails rule) = FailsFurthest (unheld e) before stamp rule
IsJudgedAs e before stamp Differs = IsAnotherRow (unheld e) before stamp

-- A first row whose serial number isn't 1 was carried on from another database, and is taken as it stands: that one's
-- rows judge it.
abbrev pub is_carried_on : List StampRow → StampRow → Bool
is_carried_on before stamp = not (is_some (last_gen_time before)) && not (stamp.serial == 1)

-- how a stamp is judged behind the rows before it, but for one that was carried on
abbrev pub IsJudgedBehind : EvidenceValue → List StampRow → StampRow → Option Judgement → Type 0
IsJudgedBehind e before stamp None = is_carried_on before stamp ≡ true
IsJudgedBehind e before stamp (Some judgement) =
    (is_carried_on before stamp ≡ false) × IsJudgedAs e (before_of before stamp) stamp judgement
