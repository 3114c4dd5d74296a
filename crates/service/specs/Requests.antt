-- What a request asks for: a command for the desk, or a report that takes a look into its store; or it is refused.
use Rattle.std.specs.Prelude.{◌≡◌, ℕ, ◌<◌, ℤ, List, [], ◌++◌, length, Option, Result, Ok, Err}
use Rattle.std.specs.Io.KnownBytes.{Consumes, IsAtEnd}
use Rattle.httparse.specs.Grammar.{RequestHead, print_request}
use Rattle.policy.specs.Record.{AccountValue, PolicyValue}
use Rattle.book.specs.History.{CalibrationValue, HoldValue}
use Rattle.desk.specs.Asked.{right_command}
use Rattle.desk.specs.Command.{Command, Stamp, Deposit, Show, Token, ListAll, Calibrate, Hold}
use Rattle.service.specs.Checks.{◌>>=◌, WantedValue, wanted_by, account_shown, active_account, number_stated}
use Rattle.service.specs.Checks.{reference_stated, range_stated, operator_shown, watcher_shown}
use Rattle.service.specs.Heads.{HeadValue, head_value, IsHead, IsBegun, IsHeadless}
use Rattle.service.specs.declared.routes.DepositAction.{DepositAction}
use Rattle.service.specs.{Forms.calibration_stated, Forms.hold_stated, Received.IsPartial, Routes.reader_of}
use Rattle.service.specs.{Routes.segment, declared.refusal.Refusal.Refusal, declared.routes.Action.Action}
use Rattle.service.specs.declared.refusal.Refusal.TheVariants as refusal
use Rattle.service.specs.declared.routes.Action.TheVariants as action
use Rattle.service.specs.declared.routes.DepositAction.TheVariants as deposit

-- What is told out of the desk's store: to an account, an extract of the stamps with serial numbers from the first
-- number on and up to the second; the counter's state; to an account, what it may ask for and has used, and who reads
-- the deposit with a number.
pub data Report : Type 0 where
  Extract : AccountValue → ℕ → ℕ → Report
  Status : Report
  OfAccount : AccountValue → Report
  OfReaders : AccountValue → ℕ → Report

-- it is one text, or none; an extract is written row by row
abbrev pub IsText : Report → Type 0
IsText (Extract account from to) = ⊥
IsText other = Unit {0}

-- What is asked for: that the desk takes a command's step, or a report.
pub data Asked : Type 0 where
  Step : Command → Asked
  Look : Report → Asked

-- an active account and the reference of its deposit
abbrev pub account_and_reference : PolicyValue → HeadValue → Result (AccountValue × List ℕ) Refusal
account_and_reference file h = do
  account ← active_account file h
  reference ← reference_stated h
  Ok (account, reference)

-- an active account and the target's number
abbrev pub account_and_number : PolicyValue → HeadValue → Result (AccountValue × ℕ) Refusal
account_and_number file h = do
  account ← active_account file h
  number ← number_stated h
  Ok (account, number)

-- an active account and the target's two numbers
abbrev pub account_and_range : PolicyValue → HeadValue → Result (AccountValue × ℕ × ℕ) Refusal
account_and_range file h = do
  account ← active_account file h
  (from, to) ← range_stated h
  Ok (account, from, to)

-- the calibration that an operator's form states
abbrev pub calibration_asked : PolicyValue → HeadValue → List ℕ → Result CalibrationValue Refusal
calibration_asked file h form = do
  account ← operator_shown file h
  calibration_stated form

-- the hold that an operator's form states
abbrev pub hold_asked : PolicyValue → HeadValue → List ℕ → Result HoldValue Refusal
hold_asked file h form = do
  account ← operator_shown file h
  hold_stated form

-- what the checks of a whole request find
abbrev pub Found : Action → Type 0
Found action.Stamp = Option AccountValue
Found action.Keep = AccountValue × List ℕ
Found action.List = AccountValue
Found (action.Deposit what) = AccountValue × ℕ
Found action.Extract = AccountValue × ℕ × ℕ
Found action.Calibrate = CalibrationValue
Found action.Hold = HoldValue
Found action.Status = AccountValue
Found action.Account = AccountValue

-- those checks
abbrev pub found_by : PolicyValue → HeadValue → List ℕ → (a : Action) → Result (Found a) Refusal
found_by file h body action.Stamp = account_shown file h
found_by file h body action.Keep = account_and_reference file h
found_by file h body action.List = active_account file h
found_by file h body (action.Deposit what) = account_and_number file h
found_by file h body action.Extract = account_and_range file h
found_by file h body action.Calibrate = calibration_asked file h body
found_by file h body action.Hold = hold_asked file h body
found_by file h body action.Status = watcher_shown file h
found_by file h body action.Account = active_account file h

-- what an account asks for of the deposit with a number; the name is that of a reader
abbrev pub asked_of_deposit : AccountValue → ℕ → List ℕ → DepositAction → Asked
asked_of_deposit account number name deposit.Show = Step (Show account number)
asked_of_deposit account number name deposit.Token = Step (Token account number)
asked_of_deposit account number name deposit.Readers = Look (OfReaders account number)
asked_of_deposit account number name (deposit.Right change kind) =
    Step (right_command change account number (reader_of kind name))

-- what a request asks for whose checks find this
abbrev pub asked_of : ℤ → HeadValue → List ℕ → (a : Action) → Found a → Asked
asked_of reading h body action.Stamp account = Step (Stamp account reading body)
asked_of reading h body action.Keep (account, reference) = Step (Deposit account reading reference body)
asked_of reading h body action.List account = Step (ListAll account)
asked_of reading h body (action.Deposit what) (account, number) =
    asked_of_deposit account number (segment 4 h.target) what
asked_of reading h body action.Extract (account, from, to) = Look (Extract account from to)
asked_of reading h body action.Calibrate calibration = Step (Calibrate calibration)
asked_of reading h body action.Hold hold = Step (Hold hold)
asked_of reading h body action.Status account = Look Status
asked_of reading h body action.Account account = Look (OfAccount account)

-- The checks of a whole request, and what it asks for; the reading is the clock's, in microseconds.
abbrev pub asked_by : PolicyValue → ℤ → HeadValue → List ℕ → Action → Result Asked Refusal
asked_by file reading h body a = do
  found ← found_by file h body a
  Ok (asked_of reading h body a found)

-- What was read, from what a reader had left to what it has left then, and no octet behind it:
pub data IsRequest (file : PolicyValue) (reading : ℤ) (old new : Option (List ℕ)) (asked : Result Asked Refusal)
    : Type 0 where
  -- octets that no head begins, whatever follows
  headless : (octets : List ℕ) → IsHeadless octets → Consumes old new octets → asked ≡ Err refusal.BadRequest
      → IsRequest file reading old new asked
  -- the last octets of an input that ends in a head
  cut_head : (octets : List ℕ) → (octets ≡ [] → ⊥) → IsBegun octets → Consumes old new octets → IsAtEnd new
      → asked ≡ Err refusal.BadRequest → IsRequest file reading old new asked
  -- a head of which a check fails
  refused_head : (h : RequestHead) → IsHead (print_request h) h → Consumes old new (print_request h) → (r : Refusal)
      → wanted_by (head_value h) ≡ Err r → asked ≡ Err r → IsRequest file reading old new asked
  -- a head, and the last octets of an input that ends in its body
  cut_body : (h : RequestHead) → IsHead (print_request h) h → (w : WantedValue) → wanted_by (head_value h) ≡ Ok w
      → (part : List ℕ) → length part < w.count → Consumes old new (print_request h ++ part) → IsAtEnd new
      → asked ≡ Err refusal.BadRequest → IsRequest file reading old new asked
  -- a head and its body
  whole : (h : RequestHead) → IsHead (print_request h) h → (w : WantedValue) → wanted_by (head_value h) ≡ Ok w
      → (body : List ℕ) → length body ≡ w.count → Consumes old new (print_request h ++ body)
      → asked ≡ asked_by file reading (head_value h) body w.action → IsRequest file reading old new asked

-- A part of a request was read, to which at least one octet is wanting, and no octet behind it.
pub record IsPart (old new : Option (List ℕ)) : Type 0 where
  pub octets : List ℕ
  pub is : IsPartial octets
  pub consumed : Consumes old new octets

-- Nothing was read, or a head with which a body comes, and no octet behind it.
pub data IsEarly (old new : Option (List ℕ)) : Type 0 where
  nothing : Consumes old new [] → IsEarly old new
  head : (h : RequestHead) → IsHead (print_request h) h → (w : WantedValue) → wanted_by (head_value h) ≡ Ok w
      → 0 < w.count → Consumes old new (print_request h) → IsEarly old new
