-- A deposit in its parts: stepping stones of the proofs.
use Rattle.std.specs.Prelude.{◌≡◌, ℕ, ℤ, if◌then◌else◌, List, Option, Some, None}
use Rattle.std.specs.Str.{bytes_eq}
use Rattle.der.specs.Node.{encoding}
use Rattle.policy.specs.Record.{AccountValue}
use Rattle.tsp.specs.Request.{RequestValue, time_stamp_req, unstated}
use Rattle.book.specs.{History.History, History.deposit_under, Rows.DepositRow}
use Rattle.desk.specs.Outcome.{Refusal, ByRule, ByCause}
use Rattle.desk.specs.{Batches.Question, Fault.IsLate, declared.new_deposit.Known.Known}
use Rattle.desk.specs.declared.new_deposit.Known.TheVariants as known

-- what stands under a reference, as the octets are told from others
abbrev pub known_in : List ℕ → Option DepositRow → Known
known_in bytes None = known.Nothing
known_in bytes (Some d) = if bytes_eq d.bytes bytes then known.Same d.serial else known.Other

-- a rule that fails is one that a deposit may fail
abbrev pub FailsLate : Refusal → Type 0
FailsLate (ByRule rule) = IsLate rule
FailsLate (ByCause cause) = Unit {0}

-- the owner hasn't used the reference
abbrev pub IsUnused : AccountValue → List ℕ → History → Type 0
IsUnused owner reference b = deposit_under owner.name reference b ≡ None

-- the octets of a request, in which no FALSE is stated, and the stamp that is asked for by them
abbrev pub octets_of : RequestValue → List ℕ
octets_of r = encoding (time_stamp_req unstated r)

abbrev pub question_of : Option AccountValue → ℤ → RequestValue → Question
question_of account reading r = record { account = account; reading = reading; octets = octets_of r }
