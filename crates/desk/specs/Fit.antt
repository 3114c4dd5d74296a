-- Which calls of the store, of the signer and for memory each command makes: an outcome fits a command where all others
-- are fine.
use Rattle.std.specs.Prelude.{◌≡◌, List, [], ℕ, Option, Some, None, Result, Ok, Err}
use Rattle.policy.specs.Record.{AccountValue}
use Rattle.cms.specs.declared.signer.SignerFault.{SignerFault}
use Rattle.cms.specs.declared.signer.SignerFault.TheVariants as signer
use Rattle.desk.specs.Outcome.{Call, Fine, OutOfMemory, Failed, Outcome, all_fine}
use Rattle.desk.specs.Command.{Command, Stamp, Begin, Finish, Abandon, Deposit, Show, Token, ListAll, Grant, Revoke}
use Rattle.desk.specs.Command.{Calibrate, Hold, Succeed}

-- nobody's day is asked for
abbrev pub counting_for : Option AccountValue → Call → Call
counting_for None call = Fine
counting_for (Some account) call = call

-- the outcome with the calls that the command makes, and with all others fine
abbrev pub made_by : Command → Outcome → Outcome
made_by (Stamp account reading octets) o = record o {
  searching = Fine;
  counting = counting_for account o.counting;
}
made_by (Begin account reading octets) o = record (all_fine (Ok [])) {
  looking = o.looking;
  counting = counting_for account o.counting;
  growing = o.growing;
  adding = o.adding;
}
made_by (Finish p signature) o = record (all_fine (Ok [])) { wrapping = o.wrapping; sealing = o.sealing }
made_by (Abandon p) o = all_fine (Ok [])
made_by (Deposit a reading reference bytes) o = o
made_by (Show a n) o = record (all_fine (Ok [])) { searching = o.searching; looking = o.looking }
made_by (Token a n) o = record (all_fine (Ok [])) {
  searching = o.searching;
  looking = o.looking;
  growing = o.growing;
}
made_by (ListAll a) o = record (all_fine (Ok [])) { looking = o.looking }
made_by (Grant a n reader) o = record (all_fine (Ok [])) {
  searching = o.searching;
  looking = o.looking;
  adding = o.adding;
}
made_by (Revoke a n reader) o = record (all_fine (Ok [])) {
  searching = o.searching;
  looking = o.looking;
  adding = o.adding;
}
made_by (Calibrate c) o = record (all_fine (Ok [])) { adding = o.adding }
made_by (Hold h) o = record (all_fine (Ok [])) { adding = o.adding }
made_by (Succeed next) o = record (all_fine (Ok [])) { looking = o.looking; adding = o.adding }

-- a call that wasn't refused for a cause that is counted
abbrev pub IsUncounted : Call → Type 0
IsUncounted Fine = Unit {0}
IsUncounted OutOfMemory = Unit {0}
IsUncounted Failed = ⊥

abbrev pub IsUnfailed : Result (List ℕ) SignerFault → Type 0
IsUnfailed (Ok signature) = Unit {0}
IsUnfailed (Err signer.Failed) = ⊥
IsUnfailed (Err signer.Memory) = Unit {0}

-- Memory that is asked for is there, or it is wanting: no growth is refused for another cause.
abbrev pub AreGrowths : Outcome → Type 0
AreGrowths o = IsUncounted o.growing × IsUncounted o.wrapping

abbrev pub IsFit : Command → Outcome → Type 0
IsFit c o = (o ≡ made_by c o) × AreGrowths o

-- neither the store nor the signer refused a call for a cause that it counts
pub record HasNoneFailed (o : Outcome) : Type 0 where
  pub searching : IsUncounted o.searching
  pub looking : IsUncounted o.looking
  pub counting : IsUncounted o.counting
  pub growing : IsUncounted o.growing
  pub adding : IsUncounted o.adding
  pub signing : IsUnfailed o.signing
  pub wrapping : IsUncounted o.wrapping
  pub sealing : IsUncounted o.sealing
