-- What a command gives out of a book that is closed for tokens: nothing, and it leaves it so.
use Rattle.std.specs.Prelude.{◌≡◌, ℕ, true, [], drop, None}
use Rattle.book.specs.Continuation.{is_closed}
use Rattle.book.specs.History.{History, greatest_serial, last_gen_time, reservations}
use Rattle.desk.specs.Command.{Command, Finish, Answer, Stamped, Begun, Kept}
use Rattle.desk.specs.{Effects.Effect, MachineRuns.cut, Serials.given_by}

-- no stamp is granted or begun, and no deposit is new
abbrev pub IsUngranted : Answer → Type 0
IsUngranted (Stamped serial reply) = ⊥
IsUngranted (Begun p) = ⊥
IsUngranted (Kept number true) = ⊥
IsUngranted _ = Unit {0}

-- but what was begun before may be finished
abbrev pub IsUngrantedBy : Command → Answer → Type 0
IsUngrantedBy (Finish p signature) answer = Unit {0}
IsUngrantedBy _ answer = IsUngranted answer

-- no serial number is reserved, nothing is to be signed, and nothing is granted
pub record GivesNothingOut (c : Command) (e : Effect) : Type 0 where
  pub unreserved : reservations e.adds ≡ []
  pub unsigned : e.asks ≡ None
  pub ungranted : IsUngrantedBy c e.says

-- What it adds, or a stop in it leaves of that, changes neither the greatest serial number nor the last genTime, and no
-- text is given out.
pub record StaysClosed (k : ℕ) (e : Effect) (b : History) : Type 0 where
  pub closed : is_closed (cut k e b) ≡ true
  pub serial : greatest_serial (cut k e b) ≡ greatest_serial b
  pub moment : last_gen_time (cut k e b) ≡ last_gen_time b
  pub given : given_by e.asks e.says (drop k e.adds) ≡ []
