-- The checks of a request that has a head, each a sentence that stands by itself, and their order: the first that
-- fails refuses it.
use Rattle.std.specs.Prelude.{ℕ, ◌==◌, nat_le, Bool, true, false, ◌||◌, List, codes, Option, Some, None, Result, Ok}
use Rattle.std.specs.{Prelude.Err, Prelude.if◌then◌else◌, List.before_first, Str.bytes_eq}
use Rattle.httparse.specs.Grammar.{trim_ows}
use Rattle.policy.specs.{LookUp.account_of_key, LookUp.anonymous_account, Record.AccountValue, Record.PolicyValue}
use Rattle.service.specs.Fields.{Stated, Never, Once, Twice, stated, same_letters}
use Rattle.service.specs.{Heads.HeadValue, Numbers.length_in, Numbers.number_in, Numbers.is_reference}
use Rattle.service.specs.{Routes.methods_at, Routes.action_of, Routes.segment, declared.refusal.Refusal.Refusal}
use Rattle.service.specs.{declared.routes.Action.Action, declared.routes.Methods.Methods}
use Rattle.service.specs.declared.refusal.Refusal.TheVariants as refusal
use Rattle.service.specs.declared.routes.Action.TheVariants as action

-- one check after another
infixl 10 ◌>>=◌
abbrev pub ◌>>=◌ : {A B : Type 0} → Result A Refusal → (A → Result B Refusal) → Result B Refusal
(Ok a) >>= next = next a
(Err r) >>= next = Err r

abbrev pub given_or : {A : Type 0} → Refusal → Option A → Result A Refusal
given_or r None = Err r
given_or r (Some a) = Ok a

abbrev pub check : Bool → Refusal → Result (Unit {0}) Refusal
check passed r = if passed then Ok tt else Err r

-- the value of a field that has to stand once
abbrev pub once : Refusal → Refusal → Stated → Result (List ℕ) Refusal
once absent repeated Never = Err absent
once absent repeated (Once value) = Ok value
once absent repeated Twice = Err repeated

abbrev pub is_never : Stated → Bool
is_never Never = true
is_never (Once value) = false
is_never Twice = false

-- There is no transfer coding.
abbrev pub without_coding : HeadValue → Result (Unit {0}) Refusal
without_coding h = check (is_never (stated (codes "transfer-encoding") h.fields)) refusal.TransferEncoding

-- The method does something at the target.
abbrev pub acting : HeadValue → Methods → Result Action Refusal
acting h m = given_or (refusal.Method m) (action_of m h.method)

-- A body comes with POST alone.
abbrev pub has_body : List ℕ → Bool
has_body method = bytes_eq method (codes "POST")

-- the most octets of a body
abbrev pub most_body : ℕ
most_body = 1048576

-- One field tells how many octets the body has, and they aren't too many (RFC 9112 6.2).
abbrev pub stated_length : HeadValue → Result ℕ Refusal
stated_length h = do
  digits ← once refusal.Length refusal.BadLength (stated (codes "content-length") h.fields)
  count ← given_or refusal.BadLength (length_in digits)
  few ← check (nat_le count most_body) refusal.TooLarge
  Ok count

-- the body's octets; where none comes with the method, no field is looked at, and nothing behind the head is read
abbrev pub body_length : HeadValue → Result ℕ Refusal
body_length h = if has_body h.method then stated_length h else Ok 0

-- the media type of a field's value, without its parameters (RFC 9110 8.3.1)
abbrev pub type_in : List ℕ → List ℕ
type_in value = trim_ows (before_first (λ octet. octet == 0x3B) value)

-- One field tells that the body is a time-stamp request (RFC 3161 3.4).
abbrev pub stated_query : HeadValue → Result (Unit {0}) Refusal
stated_query h = do
  value ← once refusal.Type refusal.Type (stated (codes "content-type") h.fields)
  check (same_letters (type_in value) (codes "application/timestamp-query")) refusal.Type

abbrev pub is_stamp : Action → Bool
is_stamp action.Stamp = true
is_stamp other = false

-- a type is asked of a time-stamp request alone
abbrev pub typed : HeadValue → Action → Result (Unit {0}) Refusal
typed h a = if is_stamp a then stated_query h else Ok tt

-- what a head asks for, and how many octets its body has
pub record WantedValue : Type 0 where
  pub action : Action
  pub count : ℕ

-- The checks of a head, where this is what the methods do at its target, if it has a route. That the target is UTF-8
-- is no check of its own: with another there is no head (`target_text` in `httparse`'s `IsRequestHead`).
unfoldable pub wanted_at : HeadValue → Option Methods → Result WantedValue Refusal
wanted_at h methods = do
  plain ← without_coding h
  m ← given_or refusal.NoRoute methods
  a ← acting h m
  count ← body_length h
  typed ← typed h a
  Ok (record { action = a; count = count })

abbrev pub wanted_by : HeadValue → Result WantedValue Refusal
wanted_by h = wanted_at h (methods_at h.target)

-- No two keys are shown: the account whose key it is, or the anonymous one, or none.
abbrev pub account_by : PolicyValue → Stated → Result (Option AccountValue) Refusal
account_by file Never = Ok (anonymous_account file)
account_by file (Once key) = Ok (account_of_key file key)
account_by file Twice = Err refusal.BadRequest

abbrev pub account_shown : PolicyValue → HeadValue → Result (Option AccountValue) Refusal
account_shown file h = account_by file (stated (codes "counter-key") h.fields)

-- There is an account, and it is active.
abbrev pub active : Option AccountValue → Result AccountValue Refusal
active None = Err refusal.NoAccount
active (Some a) = if a.active then Ok a else Err refusal.NoAccount

abbrev pub active_account : PolicyValue → HeadValue → Result AccountValue Refusal
active_account file h = account_shown file h >>= active

-- It is an operator's.
abbrev pub operator_shown : PolicyValue → HeadValue → Result AccountValue Refusal
operator_shown file h = do
  account ← active_account file h
  operates ← check account.operator refusal.NotOperator
  Ok account

-- It is an operator's or an auditor's.
abbrev pub watcher_shown : PolicyValue → HeadValue → Result AccountValue Refusal
watcher_shown file h = do
  account ← active_account file h
  watches ← check (account.operator || account.auditor) refusal.NotOperator
  Ok account

-- The target's number is one.
abbrev pub number_stated : HeadValue → Result ℕ Refusal
number_stated h = given_or refusal.NotHere (number_in (segment 2 h.target))

-- The target's two numbers are ones: the first serial number of a range, and the last.
abbrev pub range_stated : HeadValue → Result (ℕ × ℕ) Refusal
range_stated h = do
  from ← given_or refusal.BadRange (number_in (segment 2 h.target))
  to ← given_or refusal.BadRange (number_in (segment 3 h.target))
  Ok (from, to)

-- One field tells the reference.
abbrev pub reference_stated : HeadValue → Result (List ℕ) Refusal
reference_stated h = do
  reference ← once refusal.BadReference refusal.BadReference (stated (codes "deposit-reference") h.fields)
  formed ← check (is_reference reference) refusal.BadReference
  Ok reference
