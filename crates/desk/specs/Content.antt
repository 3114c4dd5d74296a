-- Sound histories in full: besides what the history alone says, each reservation holds its request's digest and
-- TSTInfo, which names nobody else than the identity of its serial number, and each deposit is what its stamp was given
-- for (RFC 3161 2.4.2).
use Rattle.std.specs.Prelude.{◌≡◌, ℕ, Bool, List, Option, Some}
use Rattle.der.specs.{Node.Node, ObjectIdentifier.oid_content}
use Rattle.sha2.specs.Sha256.{sha256}
use Rattle.tsp.specs.{Request.RequestValue, Request.Spells, Tst.SpellsTst, Tst.answer}
use Rattle.book.specs.History.{Entry, Reserved, Sealed, Deposited, Calibrated, Held, Granted, Revoked, Installed}
use Rattle.book.specs.History.{History, ReservationValue, reservation_at}
use Rattle.book.specs.{Rows.DepositRow, Sound.Along, Sound.IsSound}
use Rattle.desk.specs.Succession.{NamesLatest}

-- A reservation is for the request that its octets spell: with its algorithm and digest, and the TSTInfo that answers
-- it.
pub record IsForRequest (r : ReservationValue) : Type 0 where
  pub request : RequestValue
  pub spelled : Spells r.request request
  pub algorithm : r.algorithm ≡ oid_content request.imprint.algorithm
  pub digest : r.digest ≡ request.imprint.hash
  -- under some policy's object identifier, accuracy and ordering
  pub policy : List ℕ
  pub accuracy : ℕ
  pub ordering : Bool
  -- naming this authority, if any
  pub tsa : Option Node
  pub content : r.policy ≡ oid_content policy
  pub tst : SpellsTst r.tst (answer request policy r.serial r.gen_time accuracy ordering tsa)

-- Its TSTInfo names nobody, or the identity of its serial number: the last that was installed before it.
pub record IsNamedBy (r : ReservationValue) (b : History) : Type 0 where
  pub stamped : IsForRequest r
  pub named : NamesLatest stamped.tsa b

-- A deposit's stamp has the digest of its octets.
pub record IsStampedBy (d : DepositRow) (b : History) : Type 0 where
  pub reservation : ReservationValue
  pub reserved : reservation_at d.serial b ≡ Some reservation
  pub digest : reservation.digest ≡ sha256 d.bytes

-- what an entry says of texts and hashes
abbrev pub IsTrueOf : Entry → History → Type 0
IsTrueOf (Reserved r) b = IsForRequest r
IsTrueOf (Sealed serial token) b = Unit {0}
IsTrueOf (Deposited d token) b = IsStampedBy d b
IsTrueOf (Calibrated c) b = Unit {0}
IsTrueOf (Held h) b = Unit {0}
IsTrueOf (Granted number account) b = Unit {0}
IsTrueOf (Revoked number account) b = Unit {0}
IsTrueOf (Installed i) b = Unit {0}

-- whom an entry names
abbrev pub IsNaming : Entry → History → Type 0
IsNaming (Reserved r) b = IsNamedBy r b
IsNaming (Sealed serial token) b = Unit {0}
IsNaming (Deposited d token) b = Unit {0}
IsNaming (Calibrated c) b = Unit {0}
IsNaming (Held h) b = Unit {0}
IsNaming (Granted number account) b = Unit {0}
IsNaming (Revoked number account) b = Unit {0}
IsNaming (Installed i) b = Unit {0}

pub record IsSoundInFull (b : History) : Type 0 where
  pub sound : IsSound b
  pub content : Along IsTrueOf b
  pub naming : Along IsNaming b
