-- The definitions, computed on rows: an account with two reservations on the first day, signers that fail, a deposit
-- and its readers.
use Rattle.std.proofs.Common.{◌≡◌, ℕ, pos, true, false, [], ◌∷◌, length, Some, None, Ok, Err, refl}
use Rattle.std.specs.Prelude.{codes}
use Rattle.policy.specs.Record.{AccountValue, PolicyValue}
use Rattle.tsp.specs.{Request.sha256_request, declared.rule.Rule.TheVariants.System}
use Rattle.cms.specs.declared.signer.SignerFault.TheVariants as signer
use Rattle.book.specs.History.{Reserved, Deposited, Calibrated, Held, Granted, Revoked, History, ReservationValue}
use Rattle.book.specs.Readers.{Reader, Account, Group}
use Rattle.book.specs.{History.Installed, Rights.seen_by, Identities.latest_identity, Rows.DepositRow}
use Rattle.desk.specs.Outcome.{OutOfMemory, Failed, OfMemory, OfStore, all_fine, faults_after}
use Rattle.desk.specs.Command.{InForce, Setting, Succeed, Rejected, Refused, Kept, Done, Numbered, setting_after}
use Rattle.desk.specs.Succession.{installed_by, is_latest, subject_of, tsa_of}
use Rattle.desk.specs.Effects.{no_number, next_reservation, stamping_of, stamp_effect, deposit_effect, known_effect}
use Rattle.desk.specs.Effects.{Effect, right_effect, show_effect, succeed_effect, calibrate_effect}
use Rattle.desk.specs.{Facts.facts_of, Facts.count_in, Facts.gen_time_in, Findings.StampPlan, Viewers.viewer_in}
use Rattle.cms.specs.Identity.{IdentityValue}
use Rattle.desk.specs.declared.fault.Fault.TheVariants as fault

abbrev pub alice : AccountValue
alice = record {
  name = codes "alice";
  key_sha256 = None;
  active = true;
  auditor = false;
  operator = false;
  policies = codes "open"
      ∷ [];
  daily_quota = 1000;
}

abbrev pub carol : AccountValue
carol = record {
  name = codes "carol";
  key_sha256 = None;
  active = true;
  auditor = false;
  operator = false;
  policies = codes "open"
      ∷ [];
  daily_quota = 2;
}

-- genTime in whole seconds, an accuracy of one second
abbrev pub file : PolicyValue
file = record {
  counter = record {
    accuracy_us = 1000000;
    fraction_digits = 0;
    ordering = false;
    drift_ppb = 0;
    max_age_us =
        86400000000;
    anonymous = None;
    tsa_name = false;
  };
  algorithms = [];
  extensions = [];
  policies = [];
  accounts = alice ∷ carol ∷ [];
  groups = [];
}

abbrev pub setting : Setting
setting = record {
  file = file;
  in_force = record {
    identity = record {
      certificate = 1 ∷ [];
      chain = [];
      certificates = 1 ∷ [];
      issuer = [];
      serial = [];
      subject = [];
    };
    algorithm = [];
  };
}

abbrev pub reserved : ℕ → ℕ → ReservationValue
reserved serial moment = record {
  serial = serial;
  account = codes "carol";
  gen_time = moment;
  policy = [];
  algorithm = [];
  digest = [];
  request = [];
  tst = [];
}

-- a clock that is set at reading 0, and two reservations of the last second of the first day
abbrev pub history : History
history = Reserved (reserved 2 86399000000) ∷ Reserved (reserved 1 86399000000)
    ∷ Calibrated (record { reading = pos 0; offset = pos 0; uncertainty = 0 }) ∷ []

count_of_first_day : count_in file (Some carol) (pos 86399000000) history ≡ 2
count_of_first_day = refl

count_of_next_day : count_in file (Some carol) (pos 86400000000) history ≡ 0
count_of_next_day = refl

count_of_other : count_in file (Some alice) (pos 86399000000) history ≡ 0
count_of_other = refl

gen_time_of_row : gen_time_in file (pos 86399700000) history ≡ 86399000000
gen_time_of_row = refl

-- a hold's last bound isn't held
held_before : (facts_of file None (pos 999999) (Held (record { from = pos 0; to = pos 1000000 })
    ∷ history)).clock.held ≡ true
held_before = refl

held_at_end : (facts_of file None (pos 1000000) (Held (record { from = pos 0; to = pos 1000000 })
    ∷ history)).clock.held ≡ false
held_at_end = refl

abbrev pub plan : StampPlan
plan = record { request = sha256_request [] false; policy = []; gen_time = 86400000000 }

-- the number after those of void stamps
next_number : (next_reservation setting (codes "carol") plan [] history).serial ≡ 3
next_number = refl

-- a signer that fails: rule 12, and the reservation stays
failed_says : (stamp_effect setting (stamping_of setting (codes "carol") plan []
    (all_fine (Err signer.Failed)) history None)).says ≡ Rejected System
failed_says = refl

failed_adds : length (stamp_effect setting (stamping_of setting (codes "carol") plan []
    (all_fine (Err signer.Failed)) history None)).adds ≡ 1
failed_adds = refl

-- of a deposit it is the refusal Signer
failed_deposit : (deposit_effect setting (codes "carol") [] [] (stamping_of setting (codes "carol") plan []
    (all_fine (Err signer.Failed)) history None)).says ≡ Refused fault.Signer
failed_deposit = refl

-- no memory before the reservation: nothing is added
wanting : no_number (record (all_fine (Ok [])) { growing = OutOfMemory }) history ≡ Some OfMemory
wanting = refl

-- the serial numbers are used up
used_up : no_number (all_fine (Ok [])) (Reserved (reserved 9223372036854775807 0) ∷ history) ≡ Some OfStore
used_up = refl

-- a call that failed is counted once, modulo 2^64
one_fault : faults_after (record (all_fine (Ok [])) { adding = Failed }) 18446744073709551615 ≡ 0
one_fault = refl

no_fault : faults_after (record (all_fine (Ok [])) { adding = OutOfMemory }) 7 ≡ 7
no_fault = refl

-- alice's deposit, under the number of its stamp
abbrev pub deposit : DepositRow
deposit = record { serial = 2; owner = codes "alice"; reference = codes "plan-7"; bytes = codes "abc" }

abbrev pub deposited : History
deposited = Deposited deposit [] ∷ history

same_again : (known_effect (codes "abc") deposit).says ≡ Kept 2 false
same_again = refl

other_octets : (known_effect (codes "abd") deposit).says ≡ Refused fault.Conflict
other_octets = refl

seen_by_owner : seen_by (viewer_in file (codes "alice")) 2 deposited ≡ Some deposit
seen_by_owner = refl

unseen : seen_by (viewer_in file (codes "carol")) 2 deposited ≡ None
unseen = refl

seen_by_reader : seen_by (viewer_in file (codes "carol")) 2 (Granted 2 (Account (codes "carol")) ∷ deposited) ≡ Some deposit
seen_by_reader = refl

unseen_again : seen_by (viewer_in file (codes "carol")) 2 (Revoked 2 (Account (codes "carol")) ∷ Granted 2 (Account (codes "carol")) ∷ deposited) ≡ None
unseen_again = refl

-- who may grant what to whom
grants : (right_effect file (codes "alice") (Account (codes "carol")) (all_fine (Ok [])) (Granted 2 (Account (codes "carol")))
    (Some deposit)).says ≡ Done
grants = refl

not_the_owner : (right_effect file (codes "carol") (Account (codes "alice")) (all_fine (Ok [])) (Granted 2 (Account (codes "alice")))
    (Some deposit)).says ≡ Refused fault.NotOwner
not_the_owner = refl

nobody : (right_effect file (codes "alice") (Account (codes "nobody")) (all_fine (Ok [])) (Granted 2 (Account (codes "nobody")))
    (Some deposit)).says ≡ Refused fault.UnknownReader
nobody = refl

oneself : (right_effect file (codes "alice") (Account (codes "alice")) (all_fine (Ok [])) (Granted 2 (Account (codes "alice")))
    (Some deposit)).says ≡ Refused fault.SelfGrant
oneself = refl

hidden : (right_effect file (codes "carol") (Account (codes "alice")) (all_fine (Ok []))
    (Granted 2 (Account (codes "alice"))) None).says ≡ Refused fault.NotHere
hidden = refl

shown_to_nobody : (show_effect None None).says ≡ Refused fault.NotHere
shown_to_nobody = refl

-- a group of which carol is a member, and alice too
abbrev pub grouped : PolicyValue
grouped = record file {
  groups = record { name = codes "staff"; members = codes "carol" ∷ codes "alice" ∷ [] } ∷ [];
}

abbrev staff : Reader
staff = Group (codes "staff")

seen_by_member : seen_by (viewer_in grouped (codes "carol")) 2 (Granted 2 staff ∷ deposited) ≡ Some deposit
seen_by_member = refl

-- who is no member, and a group that has left the file
unseen_by_others : seen_by (viewer_in grouped (codes "bob")) 2 (Granted 2 staff ∷ deposited) ≡ None
unseen_by_others = refl

unseen_once_it_left : seen_by (viewer_in file (codes "carol")) 2 (Granted 2 staff ∷ deposited) ≡ None
unseen_once_it_left = refl

-- a right of the account outlives that of the group, and the other way round
own_right_stays : seen_by (viewer_in grouped (codes "carol")) 2
    (Revoked 2 staff ∷ Granted 2 staff ∷ Granted 2 (Account (codes "carol")) ∷ deposited) ≡ Some deposit
own_right_stays = refl

group_right_stays : seen_by (viewer_in grouped (codes "carol")) 2
    (Revoked 2 (Account (codes "carol")) ∷ Granted 2 (Account (codes "carol")) ∷ Granted 2 staff ∷ deposited)
    ≡ Some deposit
group_right_stays = refl

group_revoked : seen_by (viewer_in grouped (codes "carol")) 2 (Revoked 2 staff ∷ Granted 2 staff ∷ deposited) ≡ None
group_revoked = refl

-- an account by the name of a group is another reader
not_the_account : seen_by (viewer_in grouped (codes "staff")) 2 (Granted 2 staff ∷ deposited) ≡ None
not_the_account = refl

-- a group may hold the owner; one that the file hasn't is unknown, and only the owner is told so
grants_group : (right_effect grouped (codes "alice") staff (all_fine (Ok [])) (Granted 2 staff) (Some deposit)).says
    ≡ Done
grants_group = refl

unknown_group : (right_effect file (codes "alice") staff (all_fine (Ok [])) (Granted 2 staff) (Some deposit)).says
    ≡ Refused fault.UnknownGroup
unknown_group = refl

not_the_owner_of_it : (right_effect file (codes "carol") staff (all_fine (Ok [])) (Granted 2 staff)
    (Some deposit)).says ≡ Refused fault.NotOwner
not_the_owner_of_it = refl

-- an identity that was installed last isn't installed again, and one with another chain is
abbrev pub identity : IdentityValue
identity = setting.in_force.identity

abbrev pub installed : History
installed = Installed (installed_by identity) ∷ history

abbrev succeeding : IdentityValue → History → Effect
succeeding next b =
    succeed_effect (all_fine (Ok [])) (installed_by next) (is_latest (installed_by next) (latest_identity b))

installed_once : (succeeding identity history).adds ≡ Installed (installed_by identity) ∷ []
installed_once = refl

installed_again : (succeeding identity installed).adds ≡ []
installed_again = refl

abbrev pub chained : IdentityValue
chained = record identity { chain = 2 ∷ [] }

installed_chained : (succeeding chained installed).adds ≡ Installed (installed_by chained) ∷ []
installed_chained = refl

-- a succession that is refused leaves what was in force
abbrev pub chained_force : InForce
chained_force = record { identity = chained; algorithm = [] }

kept_force : setting_after setting (Succeed chained_force) (Refused fault.Store) ≡ setting
kept_force = refl

new_force : (setting_after setting (Succeed chained_force) Done).in_force ≡ chained_force
new_force = refl

-- nobody is named by a file that doesn't want it
unnamed : tsa_of setting ≡ None
unnamed = refl

named : tsa_of (record setting { file = record file { counter = record file.counter { tsa_name = true } } })
    ≡ Some (subject_of identity)
named = refl

-- the second calibration's number
second_calibration : (calibrate_effect (record { reading = pos 5; offset = pos 0; uncertainty = 0 }) history).says
    ≡ Numbered 2
second_calibration = refl
