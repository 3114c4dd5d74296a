-- What stands in the way of a call on deposits and rights: stepping stones of the proofs.
use Rattle.std.specs.Prelude.{◌≡◌, ◌⊎◌, ℕ, true, false, List, [], Option, Some, None, option_and_then, Result, Ok, Err}
use Rattle.std.specs.Str.{bytes_eq}
use Rattle.policy.specs.Record.{PolicyValue}
use Rattle.book.specs.{Fault.IsOfStorage, Rows.DepositRow, Rows.StampRow, History.History, Readers.Reader}
use Rattle.book.specs.{Readers.Viewer, Rights.seen_by, declared.fault.StoreFault.StoreFault}
use Rattle.desk.specs.Outcome.{Outcome, OutOfMemory, all_fine}
use Rattle.desk.specs.{Command.Answer, Command.Refused, Effects.fault_of, Effects.objection, Calls.call_of}
use Rattle.desk.specs.{Calls.store_cause, Fault.NamesAccount, Fault.NamesGroup, Viewers.viewer_in}
use Rattle.desk.specs.{declared.fault.Fault.Fault, declared.obstacle.Obstacle.Obstacle}
use Rattle.desk.specs.declared.fault.Fault.TheVariants as fault
use Rattle.desk.specs.declared.obstacle.Obstacle.TheVariants as obstacle

abbrev pub fault_with : Obstacle → Fault
fault_with (obstacle.Denied f) = f
fault_with (obstacle.Searching f) = fault_of (store_cause f)
fault_with (obstacle.Looking f) = fault_of (store_cause f)
fault_with obstacle.OutOfMemory = fault.Memory
fault_with (obstacle.Adding f) = fault_of (store_cause f)

-- what stands in the way where the store refuses to add
abbrev pub adding : {A : Type 0} → Result A StoreFault → Result A Obstacle
adding (Ok a) = Ok a
adding (Err f) = Err (obstacle.Adding f)

-- all calls answered but the one that was refused
abbrev pub hindered : Obstacle → Outcome
hindered (obstacle.Denied f) = all_fine (Ok [])
hindered (obstacle.Searching f) = record (all_fine (Ok [])) { searching = call_of f }
hindered (obstacle.Looking f) = record (all_fine (Ok [])) { looking = call_of f }
hindered obstacle.OutOfMemory = record (all_fine (Ok [])) { growing = OutOfMemory }
hindered (obstacle.Adding f) = record (all_fine (Ok [])) { adding = call_of f }

abbrev pub outcome_with : {A : Type 0} → Result A Obstacle → Outcome
outcome_with (Ok a) = all_fine (Ok [])
outcome_with (Err obstacle) = hindered obstacle

-- what is answered
abbrev pub told_with : {A : Type 0} → (A → Answer) → Result A Obstacle → Answer
told_with as_answer (Ok a) = as_answer a
told_with as_answer (Err obstacle) = Refused (fault_with obstacle)

-- what stands in the way of seeing a deposit
abbrev pub IsOfSight : Obstacle → Type 0
IsOfSight (obstacle.Denied f) = f ≡ fault.NotHere
IsOfSight (obstacle.Searching f) = IsOfStorage f
IsOfSight (obstacle.Looking f) = IsOfStorage f
IsOfSight _ = ⊥

-- what an account may not do with a reader's right to it
abbrev pub IsDenied : Reader → Fault → Type 0
IsDenied reader fault.NotHere = Unit {0}
IsDenied reader fault.NotOwner = Unit {0}
IsDenied reader fault.UnknownReader = NamesAccount reader
IsDenied reader fault.UnknownGroup = NamesGroup reader
IsDenied reader fault.SelfGrant = NamesAccount reader
IsDenied reader _ = ⊥

-- what stands in the way of giving or taking it
abbrev pub IsOfRight : Reader → Obstacle → Type 0
IsOfRight reader (obstacle.Denied f) = IsDenied reader f
IsOfRight reader (obstacle.Searching f) = IsOfStorage f
IsOfRight reader (obstacle.Looking f) = IsOfStorage f
IsOfRight reader _ = ⊥

-- who asks sees a deposit with that number
abbrev pub Sees : Viewer → ℕ → History → Type 0
Sees viewer number b = (d : DepositRow) × (seen_by viewer number b ≡ Some d)

-- the token of a stamp that is found, if it has one
abbrev pub token_in : Option StampRow → Option (List ℕ)
token_in found = option_and_then (λ s. s.token) found

-- it sees none with that number, or what it sees couldn't be read
abbrev pub IsUnseen : Viewer → ℕ → History → Obstacle → Type 0
IsUnseen viewer number b (obstacle.Denied f) = seen_by viewer number b ≡ None
IsUnseen viewer number b (obstacle.Looking f) = Sees viewer number b
IsUnseen viewer number b _ = Unit {0}

-- the account sees this deposit, which is its own
pub record Owns (file : PolicyValue) (account : List ℕ) (number : ℕ) (b : History) (d : DepositRow) : Type 0 where
  pub seen : seen_by (viewer_in file account) number b ≡ Some d
  pub owns : bytes_eq d.owner account ≡ true

-- what is against a reader's right that the owner gives or takes
abbrev pub IsOpposed : PolicyValue → List ℕ → Reader → Obstacle → Type 0
IsOpposed file owner reader (obstacle.Denied f) = objection file owner reader ≡ Some f
IsOpposed file owner reader _ = ⊥

-- the account may give and take a reader's right to the deposit
pub record MayName (file : PolicyValue) (account : List ℕ) (reader : Reader) (number : ℕ) (b : History)
    : Type 0 where
  pub deposit : DepositRow
  pub own : Owns file account number b deposit
  pub unopposed : objection file account reader ≡ None

-- and why not
abbrev pub MayNot : PolicyValue → List ℕ → Reader → ℕ → History → Obstacle → Type 0
MayNot file account reader number b (obstacle.Denied f) =
    ((f ≡ fault.NotHere) × (seen_by (viewer_in file account) number b ≡ None))
    ⊎ (((f ≡ fault.NotOwner) × (d : DepositRow) × (seen_by (viewer_in file account) number b ≡ Some d)
    × (bytes_eq d.owner account ≡ false))
    ⊎ ((d : DepositRow) × Owns file account number b d × (objection file account reader ≡ Some f)))
MayNot file account reader number b (obstacle.Looking f) = Sees (viewer_in file account) number b
MayNot file account reader number b _ = Unit {0}
