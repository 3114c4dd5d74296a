-- What the program's types stand for, and what the parts of a call answer.
use Rattle.std.specs.Prelude.{◌≡◌, ℕ, min, ℤ, List, [], Option, Some, None, option_map, Result, Ok, Err}
use Rattle.gentime.specs.GenTime.{last_moment}
use Rattle.policy.specs.{Record.AccountValue, View.policy_view, declared.policy.Policy.Policy}
use Rattle.tsp.specs.View.{request_view}
use Rattle.cms.specs.{Identity.IdentityValue, declared.signer.SignerFault.SignerFault}
use Rattle.cms.specs.declared.signer.SignerFault.TheVariants as signer
use Rattle.decide.specs.declared.facts.Calibration.{Calibration}
use Rattle.book.specs.History.{History, CalibrationValue, greatest_serial, count_of_day}
use Rattle.book.specs.{Fault.IsOfStorage, declared.fault.StoreFault.StoreFault}
use Rattle.book.specs.declared.fault.StoreFault.TheVariants as store
use Rattle.desk.specs.Outcome.{Call, Fine, OutOfMemory, Failed, Outcome, Cause, OfMemory, OfStore, OfSigner, all_fine}
use Rattle.desk.specs.Findings.{StampPlan, Finding, Fails, Unanswered, Allowed}
use Rattle.desk.specs.Command.{InForce, Setting, Answer, Done}
use Rattle.desk.specs.{Facts.calibration_of, Facts.clock_of, Outcome.Refusal, Outcome.ByRule, Outcome.ByCause}
use Rattle.desk.specs.{declared.findings.Planned.Planned, declared.clock_facts.Looked.Looked}
use Rattle.desk.specs.{declared.settings.Settings.Settings, declared.refusal.StampRefusal.StampRefusal}
use Rattle.desk.specs.declared.refusal.StampRefusal.TheVariants as refusal

-- how a call of the store was answered that is refused so
abbrev pub call_of : StoreFault → Call
call_of store.Memory = OutOfMemory
call_of store.Database = Failed
call_of _ = Fine

abbrev pub store_cause : StoreFault → Cause
store_cause store.Memory = OfMemory
store_cause _ = OfStore

abbrev pub signer_cause : SignerFault → Cause
signer_cause signer.Failed = OfSigner
signer_cause signer.Memory = OfMemory

abbrev pub why_of : StampRefusal → Refusal
why_of (refusal.Fails rule) = ByRule rule
why_of (refusal.Looking f) = ByCause (store_cause f)
why_of (refusal.Counting f) = ByCause (store_cause f)
why_of refusal.Exhausted = ByCause OfStore
why_of refusal.OutOfMemory = ByCause OfMemory
why_of (refusal.Adding f) = ByCause (store_cause f)
why_of (refusal.Signing f) = ByCause (signer_cause f)
why_of refusal.OutOfReplyMemory = ByCause OfMemory
why_of (refusal.Sealing f) = ByCause (store_cause f)

-- all calls answered but the one that was refused
abbrev pub refused : StampRefusal → Outcome
refused (refusal.Fails rule) = all_fine (Ok [])
refused (refusal.Looking f) = record (all_fine (Ok [])) { looking = call_of f }
refused (refusal.Counting f) = record (all_fine (Ok [])) { counting = call_of f }
refused refusal.Exhausted = all_fine (Ok [])
refused refusal.OutOfMemory = record (all_fine (Ok [])) { growing = OutOfMemory }
refused (refusal.Adding f) = record (all_fine (Ok [])) { adding = call_of f }
refused (refusal.Signing f) = all_fine (Err f)
refused refusal.OutOfReplyMemory = record (all_fine (Ok [])) { wrapping = OutOfMemory }
refused (refusal.Sealing f) = record (all_fine (Ok [])) { sealing = call_of f }

-- a rule fails, or a look-up was refused
abbrev pub IsOfLooks : StampRefusal → Type 0
IsOfLooks (refusal.Fails rule) = Unit {0}
IsOfLooks (refusal.Looking f) = IsOfStorage f
IsOfLooks (refusal.Counting f) = IsOfStorage f
IsOfLooks _ = ⊥

-- the day that was asked for, and refused, is somebody's
abbrev pub IsSomebodys : Option AccountValue → StampRefusal → Type 0
IsSomebodys account (refusal.Counting f) = account ≡ None → ⊥
IsSomebodys account _ = Unit {0}

abbrev pub outcome_of : {A : Type 0} → Result A StampRefusal → Outcome
outcome_of (Ok a) = all_fine (Ok [])
outcome_of (Err r) = refused r

-- an identity and an algorithm, brought into force
abbrev pub in_force_of : IdentityValue → List ℕ → InForce
in_force_of identity algorithm = record { identity = identity; algorithm = algorithm }

-- by what a desk answers
abbrev pub setting_of : Policy → IdentityValue → List ℕ → Setting
setting_of policy identity algorithm = record { file = policy_view policy; in_force = in_force_of identity algorithm }

abbrev pub settings_view : Settings → Setting
settings_view s = setting_of s.policy.now s.identity.now s.algorithm.now

abbrev pub looked_at : ℤ → History → Looked
looked_at reading b = record { clock = clock_of reading b; serial = greatest_serial b }

abbrev pub calibrations_as : Option CalibrationValue → Option Calibration
calibrations_as latest = option_map calibration_of latest

abbrev pub moment_or_last : ℕ → ℕ
moment_or_last moment = min moment last_moment

-- what is found of a request
abbrev pub plan_of : Planned → StampPlan
plan_of p = record { request = request_view p.request; policy = p.policy.now; gen_time = p.gen_time }

abbrev pub finding_by : Refusal → Finding
finding_by (ByRule rule) = Fails rule
finding_by (ByCause cause) = Unanswered cause

abbrev pub finding_of : Result Planned StampRefusal → Finding
finding_of (Ok p) = Allowed (plan_of p)
finding_of (Err r) = finding_by (why_of r)

-- how many reservations an account has on a day
abbrev pub count_for : Option AccountValue → ℕ → History → ℕ
count_for None day b = 0
count_for (Some account) day b = count_of_day account.name day b

-- what is in force from now on is brought so
abbrev pub succeeded_as : Settings → Answer
succeeded_as settings = Done

-- with what the desk goes on, and as before where that is refused
abbrev pub or_before : {E : Type 0} → Result Settings E → Settings → Settings
or_before (Ok after) before = after
or_before (Err e) before = before
