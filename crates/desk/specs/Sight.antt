-- Who is shown which deposits: exactly its owner and its current readers.
use Rattle.std.specs.Prelude.{◌≡◌, ℕ, ◌<◌, ◌⊎◌, true, List, [], ◌∷◌, map, Some, Contains}
use Rattle.std.specs.List.{AllByRecursion}
use Rattle.policy.specs.Record.{PolicyValue}
use Rattle.tsp.specs.Granted.{granted_octets}
use Rattle.book.specs.History.{History, ReservationValue, deposit_at, reservation_at, token_of}
use Rattle.book.specs.{Readers.Viewer, Rights.ListedValue, Rights.may_read, Rights.listed_as, Rows.DepositRow}
use Rattle.desk.specs.Outcome.{Outcome, Cause, OfMemory, OfStore, cause_of, first_cause}
use Rattle.desk.specs.Command.{Command, Stamp, Begin, Finish, Abandon, Deposit, Show, Token, ListAll, Grant, Revoke}
use Rattle.desk.specs.Command.{Calibrate, Hold, Succeed, Answer, Shown, Listed, Refused}
use Rattle.desk.specs.Viewers.{viewer_in}
use Rattle.desk.specs.declared.fault.Fault.TheVariants as fault

-- Who asks may see this deposit, which has the number: it is its owner, or one of its current readers, which are those
-- whose last entry about it is a grant.
pub record MaySee (viewer : Viewer) (number : ℕ) (b : History) (d : DepositRow) : Type 0 where
  pub deposited : deposit_at number b ≡ Some d
  pub may : (d.owner ≡ viewer.name) ⊎ (may_read viewer number b ≡ true)

-- a call that has to be answered before a deposit is shown had no answer, for this cause
abbrev pub HasNoSight : Outcome → Cause → Type 0
HasNoSight o cause = first_cause (cause_of o.searching ∷ cause_of o.looking ∷ cause_of o.growing ∷ []) ≡ Some cause

-- Something is shown only of a deposit that who asks may see; it is told that none is here only where it may see none;
-- and any other answer comes only where a call wasn't answered. So what it may see is shown where calls are answered.
abbrev pub IsShownFrom : (DepositRow → List ℕ → Type 0) → Viewer → ℕ → Outcome → History → Answer → Type 0
IsShownFrom IsOf viewer number o b (Shown octets) = (d : DepositRow) × MaySee viewer number b d × IsOf d octets
IsShownFrom IsOf viewer number o b (Refused fault.NotHere) = (d : DepositRow) → MaySee viewer number b d → ⊥
IsShownFrom IsOf viewer number o b (Refused fault.Memory) = HasNoSight o OfMemory
IsShownFrom IsOf viewer number o b (Refused fault.Store) = HasNoSight o OfStore
IsShownFrom IsOf viewer number o b answer = ⊥

-- the octets of a deposit
abbrev pub IsBytesOf : DepositRow → List ℕ → Type 0
IsBytesOf d octets = octets ≡ d.bytes

-- the granted reply with the token of its stamp
abbrev pub IsReplyOf : History → DepositRow → List ℕ → Type 0
IsReplyOf b d octets = (token : List ℕ) × (token_of d.serial b ≡ Some token) × (octets ≡ granted_octets token)

-- what a list tells of a deposit: number, owner, reference, and the genTime of its stamp
pub record IsRowOf (b : History) (d : DepositRow) (row : ListedValue) : Type 0 where
  pub reservation : ReservationValue
  pub reserved : reservation_at d.serial b ≡ Some reservation
  pub is_row : row ≡ listed_as d reservation

-- each number is below all that come after it
abbrev pub Climbs : List ℕ → Type 0
Climbs [] = Unit {0}
Climbs (n ∷ ns) = AllByRecursion (λ m. n < m) ns × Climbs ns

-- A list of exactly the deposits that who asks may see, each once, by rising number.
pub record IsExactList (viewer : Viewer) (b : History) (rows : List ListedValue) : Type 0 where
  pub rising : Climbs (map (λ row. row.number) rows)
  pub only : (row : ListedValue) → Contains rows row
      → (d : DepositRow) × MaySee viewer row.number b d × IsRowOf b d row
  pub all : (number : ℕ) (d : DepositRow) → MaySee viewer number b d
      → (row : ListedValue) × Contains rows row × (row.number ≡ number) × IsRowOf b d row

-- such a list, or a call wasn't answered
abbrev pub IsListedFrom : Viewer → Outcome → History → Answer → Type 0
IsListedFrom viewer o b (Listed rows) = IsExactList viewer b rows
IsListedFrom viewer o b (Refused fault.Memory) = cause_of o.looking ≡ Some OfMemory
IsListedFrom viewer o b (Refused fault.Store) = cause_of o.looking ≡ Some OfStore
IsListedFrom viewer o b answer = ⊥

-- What a command that shows or lists answers, is exactly what its account may see, by the policy file. The others show
-- and list nothing.
abbrev pub ShowsExactly : PolicyValue → Command → Outcome → History → Answer → Type 0
ShowsExactly file (Show a n) o b answer = IsShownFrom IsBytesOf (viewer_in file a.name) n o b answer
ShowsExactly file (Token a n) o b answer = IsShownFrom (IsReplyOf b) (viewer_in file a.name) n o b answer
ShowsExactly file (ListAll a) o b answer = IsListedFrom (viewer_in file a.name) o b answer
ShowsExactly file (Stamp account reading octets) o b answer = Unit {0}
ShowsExactly file (Begin account reading octets) o b answer = Unit {0}
ShowsExactly file (Finish p signature) o b answer = Unit {0}
ShowsExactly file (Abandon p) o b answer = Unit {0}
ShowsExactly file (Deposit a reading reference bytes) o b answer = Unit {0}
ShowsExactly file (Grant a n reader) o b answer = Unit {0}
ShowsExactly file (Revoke a n reader) o b answer = Unit {0}
ShowsExactly file (Calibrate c) o b answer = Unit {0}
ShowsExactly file (Hold h) o b answer = Unit {0}
ShowsExactly file (Succeed next) o b answer = Unit {0}
