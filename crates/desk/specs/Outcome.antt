-- What the store, the signer and memory answer in one command: all that a command's effect may depend on besides the
-- history.
use Rattle.std.specs.Prelude.{ℕ, List, [], ◌∷◌, Option, Some, None, Result, Ok, Err}
use Rattle.std.specs.Hash.DefaultHasher.{wrapping_add}
use Rattle.tsp.specs.declared.rule.Rule.{Rule}
use Rattle.cms.specs.declared.signer.SignerFault.{SignerFault}
use Rattle.cms.specs.declared.signer.SignerFault.TheVariants as signer

-- a call of the store or a growth: it was answered, it was refused for want of memory, or for another cause, which
-- the store counts
pub data Call : Type 0 where
  Fine : Call
  OutOfMemory : Call
  Failed : Call

-- A call that a command doesn't make is Fine (`IsFit`).
pub record Outcome : Type 0 where
  -- whether a deposit stands under the reference, or the account sees one
  pub searching : Call
  -- what the history says of the clock, or what the command shows
  pub looking : Call
  -- the account's day
  pub counting : Call
  -- the memory for what is signed, or for what is shown
  pub growing : Call
  -- the first commit
  pub adding : Call
  -- what the signer answered
  pub signing : Result (List ℕ) SignerFault
  -- the memory for token and reply
  pub wrapping : Call
  -- the second commit
  pub sealing : Call

-- why a command that needed an answer had none
pub data Cause : Type 0 where
  OfMemory : Cause
  OfStore : Cause
  OfSigner : Cause

-- why nothing comes of a stamp: a rule fails, or a call that is needed had no answer
pub data Refusal : Type 0 where
  ByRule : Rule → Refusal
  ByCause : Cause → Refusal

abbrev pub cause_of : Call → Option Cause
cause_of Fine = None
cause_of OutOfMemory = Some OfMemory
cause_of Failed = Some OfStore

abbrev pub cause_of_signing : Result (List ℕ) SignerFault → Option Cause
cause_of_signing (Ok signature) = None
cause_of_signing (Err signer.Failed) = Some OfSigner
cause_of_signing (Err signer.Memory) = Some OfMemory

-- the first of the causes, in the order of the calls
abbrev pub first_cause : List (Option Cause) → Option Cause
first_cause [] = None
first_cause (None ∷ causes) = first_cause causes
first_cause (Some cause ∷ causes) = Some cause

-- the store's count of faults: it goes up with each call that is refused for another cause than memory
abbrev pub counted : Call → ℕ → ℕ
counted Fine count = count
counted OutOfMemory count = count
counted Failed count = wrapping_add count 1

abbrev pub faults_after : Outcome → ℕ → ℕ
faults_after o count =
    counted o.sealing (counted o.wrapping (counted o.adding (counted o.growing (counted o.counting
    (counted o.looking (counted o.searching count))))))

-- all calls answered, with this signature
abbrev pub all_fine : Result (List ℕ) SignerFault → Outcome
all_fine signing = record {
  searching = Fine;
  looking = Fine;
  counting = Fine;
  growing = Fine;
  adding = Fine;
  signing = signing;
  wrapping = Fine;
  sealing = Fine;
}
