-- Commands and their answers.
use Rattle.std.specs.Prelude.{ℕ, ℤ, Bool, List, Option}
use Rattle.policy.specs.Record.{AccountValue, PolicyValue}
use Rattle.tsp.specs.declared.rule.Rule.{Rule}
use Rattle.cms.specs.Identity.{IdentityValue}
use Rattle.book.specs.{History.CalibrationValue, History.HoldValue, Readers.Reader, Rights.ListedValue}
use Rattle.desk.specs.declared.fault.Fault.{Fault}

-- what is in force: the identity whose key signs, and the octets of the signer's AlgorithmIdentifier
pub record InForce : Type 0 where
  pub identity : IdentityValue
  pub algorithm : List ℕ

-- by what a desk answers: the policy file's record, which stays, and what is in force, which a succession changes
pub record Setting : Type 0 where
  pub file : PolicyValue
  pub in_force : InForce

-- what waits for its signature: the TSTInfo under a reserved serial number, and with which identity and algorithm it
-- was begun
pub record PendingValue : Type 0 where
  pub serial : ℕ
  pub tst : List ℕ
  pub certificate : Bool
  pub identity : IdentityValue
  pub algorithm : List ℕ

pub data Command : Type 0 where
  -- account, reading, the request's octets
  Stamp : Option AccountValue → ℤ → List ℕ → Command
  Begin : Option AccountValue → ℤ → List ℕ → Command
  -- with the signature
  Finish : PendingValue → List ℕ → Command
  Abandon : PendingValue → Command
  -- owner, reading, reference, octets
  Deposit : AccountValue → ℤ → List ℕ → List ℕ → Command
  -- account, number
  Show : AccountValue → ℕ → Command
  Token : AccountValue → ℕ → Command
  ListAll : AccountValue → Command
  -- account, number, whom the right names
  Grant : AccountValue → ℕ → Reader → Command
  Revoke : AccountValue → ℕ → Reader → Command
  Calibrate : CalibrationValue → Command
  Hold : HoldValue → Command
  -- what is in force from then on
  Succeed : InForce → Command

pub data Answer : Type 0 where
  -- a granted reply: serial number, octets
  Stamped : ℕ → List ℕ → Answer
  -- the reply that refuses by this rule
  Rejected : Rule → Answer
  Begun : PendingValue → Answer
  -- a deposit's number, and whether it is new
  Kept : ℕ → Bool → Answer
  -- the octets that were asked for
  Shown : List ℕ → Answer
  Listed : List ListedValue → Answer
  Done : Answer
  -- a calibration or a hold is added, and this is its number
  Numbered : ℕ → Answer
  Refused : Fault → Answer

-- what was brought into force, where that is done
abbrev pub brought : InForce → InForce → Answer → InForce
brought before next Done = next
brought before next _ = before

-- what is in force after a command and its answer
abbrev pub in_force_after : InForce → Command → Answer → InForce
in_force_after before (Succeed next) answer = brought before next answer
in_force_after before _ answer = before

-- the setting after it: the policy file stays
abbrev pub setting_after : Setting → Command → Answer → Setting
setting_after s c answer = record { file = s.file; in_force = in_force_after s.in_force c answer }
