-- Which stamps are given by the rules of a policy file.
use Rattle.std.specs.Prelude.{◌≡◌, ◌≤◌, Bool, true, false, length, Option, Some, None}
use Rattle.der.specs.{Node.Node, ObjectIdentifier.oid_content}
use Rattle.gentime.specs.GenTime.{day_of}
use Rattle.policy.specs.{LookUp.account_named, Record.AccountValue}
use Rattle.tsp.specs.{Request.RequestValue, Request.Spells, Tst.SpellsTst, Tst.answer}
use Rattle.cms.specs.Certificate.{IsSubject}
use Rattle.book.specs.{Identities.identity_before, Rows.InstalledRow, Rows.StampRow}
use Rattle.decide.specs.{Verdict.PlanValue, Verdict.IsVerdict, Verdict.Allowed, declared.facts.Facts.Facts}
use Rattle.judgement.specs.{Readings.EvidenceValue, Readings.IsPossible, declared.evidence.Before.Before}

-- the policy file's account of the stamp's name
abbrev pub account_of : EvidenceValue → StampRow → Option AccountValue
account_of e stamp = account_named e.file stamp.account

-- A TSTInfo names the authority where the policy file wants it, by the subject of the certificate in force, and nobody
-- else (RFC 3161 2.4.2).
abbrev pub Names : Bool → Option InstalledRow → Option Node → Type 0
Names false identity tsa = tsa ≡ None
Names true None tsa = ⊥
Names true (Some identity) tsa = (name : Node) × (tsa ≡ Some name) × IsSubject identity.certificate name

-- The row is that of the stamp which the plan makes of the request: genTime, day, policy, algorithm and digest are its,
-- and the TSTInfo is the one text for it under the row's serial number (RFC 3161 2.4.2).
pub record IsStampBy (e : EvidenceValue) (request : RequestValue) (plan : PlanValue) (stamp : StampRow) : Type 0 where
  pub gen_time : stamp.gen_time ≡ plan.gen_time
  pub day : stamp.day ≡ day_of plan.gen_time
  pub policy : stamp.policy ≡ oid_content plan.policy
  pub algorithm : stamp.algorithm ≡ oid_content request.imprint.algorithm
  pub digest : stamp.digest ≡ request.imprint.hash
  pub tsa : Option Node
  pub named : Names e.file.counter.tsa_name (identity_before stamp.serial e.identities) tsa
  pub tst : SpellsTst stamp.tst (answer request plan.policy stamp.serial plan.gen_time e.file.counter.accuracy_us
      e.file.counter.ordering tsa)

-- A stamp is given by the rules: its octets are a request of at most 65,536 octets, which the verdict allows by facts
-- that may have been found when it was reserved, and its row is that of the stamp which the verdict's plan makes.
pub record IsGivenByRules (e : EvidenceValue) (before : Before) (stamp : StampRow) : Type 0 where
  pub request : RequestValue
  pub asked : Spells stamp.request request
  pub short : length stamp.request ≤ 65536
  pub facts : Facts
  pub possible : IsPossible e before stamp.gen_time facts
  pub plan : PlanValue
  pub allowed : IsVerdict e.file (account_of e stamp) request facts (Allowed plan)
  pub row : IsStampBy e request plan stamp
