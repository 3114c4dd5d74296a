-- A void stamp in place of a history's last one.
use Rattle.std.specs.Prelude.{◌≡◌, ◌⊎◌, ℕ, ◌<◌, ◌≤◌, List, length, Option, Some, None}
use Rattle.gentime.specs.GenTime.{last_moment}
use Rattle.tsp.specs.{Request.RequestValue, Request.Spells, Tst.SpellsTst, Tst.TstValue}
use Rattle.book.specs.Continuation.{Floor as Void, reserved_as as reserved_above}
use Rattle.book.specs.declared.fault.StoreFault.TheVariants.{Memory, NotOurs}
use Rattle.book.specs.{History.ReservationValue, Rows.StampRow, Sound.greatest_number}
use Rattle.desk.specs.Continuation.{IsRestated}
use Rattle.operations.specs.declared.fault.ContinuationFault.{ContinuationFault}
use Rattle.operations.specs.declared.fault.ContinuationFault.TheVariants.{Unclosed, NotAfter}
use Rattle.operations.specs.{declared.void_stamp.Floor.Floor, declared.void_stamp.VoidStamp.VoidStamp}

-- what was reserved for a stamp
abbrev pub reserved_as : StampRow → ReservationValue
reserved_as s = record {
  serial = s.serial;
  account = s.account;
  gen_time = s.gen_time;
  policy = s.policy;
  algorithm = s.algorithm;
  digest = s.digest;
  request = s.request;
  tst = s.tst;
}

abbrev pub void_of : ℕ → ℕ → List ℕ → Void
void_of serial gen_time tst = record { serial = serial; gen_time = gen_time; tst = tst }

abbrev pub void_view : VoidStamp → Void
void_view v = void_of v.serial v.gen_time v.tst.items

-- what is reserved in place of a stamp
abbrev pub reserved_in_place : Void → StampRow → ReservationValue
reserved_in_place void s = reserved_above (Some void) (reserved_as s)

-- it comes after the last stamp
pub record ComesAfter (floor : Floor) (last : StampRow) : Type 0 where
  pub rises : last.serial < floor.serial
  pub within : floor.serial ≤ greatest_number
  pub follows : last.gen_time ≤ floor.gen_time
  pub moment : floor.gen_time ≤ last_moment

-- where there is one
abbrev pub IsNoneAfter : Floor → Option StampRow → Type 0
IsNoneAfter floor None = Unit {0}
IsNoneAfter floor (Some last) = ComesAfter floor last → ⊥

-- the last stamp's request or TSTInfo can't be read
abbrev pub IsUnreadable : StampRow → Type 0
IsUnreadable last =
    ((request : RequestValue) → Spells last.request request → length last.request ≤ 65536 → ⊥)
    ⊎ ((tst : TstValue) → SpellsTst last.tst tst → ⊥)

-- and it comes after that
abbrev pub IsUnreadAfter : Floor → Option StampRow → Type 0
IsUnreadAfter floor None = ⊥
IsUnreadAfter floor (Some last) = ComesAfter floor last × IsUnreadable last

-- it doesn't, or there is none, and it is asked for
abbrev pub IsNoneAfterIfAny : Option Floor → Option StampRow → Type 0
IsNoneAfterIfAny None last = ⊥
IsNoneAfterIfAny (Some floor) last = IsNoneAfter floor last

-- It has this serial number and genTime, which come after the last stamp's, and is for its request.
pub record IsVoidAfter (floor : Floor) (last : StampRow) (void : Void) : Type 0 where
  pub serial : void.serial ≡ floor.serial
  pub gen_time : void.gen_time ≡ floor.gen_time
  pub after : ComesAfter floor last
  pub restated : IsRestated void (reserved_as last)

abbrev pub IsVoidFor : Floor → Option StampRow → Void → Type 0
IsVoidFor floor None void = ⊥
IsVoidFor floor (Some last) void = IsVoidAfter floor last void

-- there is one exactly where it is asked for
abbrev pub IsVoidIfAny : Option Floor → Option StampRow → Option Void → Type 0
IsVoidIfAny None last None = Unit {0}
IsVoidIfAny (Some floor) last (Some void) = IsVoidFor floor last void
IsVoidIfAny None last (Some void) = ⊥
IsVoidIfAny (Some floor) last None = ⊥

-- how it can be refused
abbrev pub IsVoidFault : ContinuationFault → Type 0
IsVoidFault fault = (fault ≡ NotAfter) ⊎ ((fault ≡ Unclosed Memory) ⊎ (fault ≡ Unclosed NotOurs))
