-- What the TSTInfo says of a void stamp that stands in place of a history's last one.
use Rattle.std.specs.Prelude.{◌≡◌, Option, Some, None}
use Rattle.der.specs.Node.{Node}
use Rattle.cms.specs.Certificate.{IsSubject}
use Rattle.tsp.specs.{Request.RequestValue, Request.Spells, Tst.SpellsTst, Tst.TstValue, Tst.answer}
use Rattle.book.specs.{Continuation.Floor, Continuation.last_reservation, Continuation.reserved_as, History.History}
use Rattle.book.specs.{History.InstalledValue, History.ReservationValue, Identities.identity_at_reservation}
use Rattle.desk.specs.Content.{IsForRequest}

-- nobody is named, or the subject of this identity
abbrev pub Names : Option Node → Option InstalledValue → Type 0
Names None identity = Unit {0}
Names (Some name) identity = (i : InstalledValue) × (identity ≡ Some i) × IsSubject i.certificate name

-- It answers the last stamp's request under the floor's serial number and at its genTime, and names nobody, or the
-- identity that was in force when the last stamp was reserved.
pub record IsStated (floor : Floor) (b : History) : Type 0 where
  pub last : ReservationValue
  pub reserved : last_reservation b ≡ Some last
  pub stamped : IsForRequest (reserved_as (Some floor) last)
  pub named : Names stamped.tsa (identity_at_reservation last.serial b)

-- It answers the request of this stamp as the stamp's own TSTInfo does, by the same policy, accuracy and ordering, but
-- under the floor's serial number and at its genTime; and it names nobody.
pub record IsRestated (floor : Floor) (last : ReservationValue) : Type 0 where
  pub request : RequestValue
  pub spelled : Spells last.request request
  pub before : TstValue
  pub read : SpellsTst last.tst before
  pub restated : SpellsTst floor.tst
      (answer request before.policy floor.serial floor.gen_time before.accuracy before.ordering None)

abbrev pub IsStatedIfAny : Option Floor → History → Type 0
IsStatedIfAny None b = Unit {0}
IsStatedIfAny (Some floor) b = IsStated floor b
