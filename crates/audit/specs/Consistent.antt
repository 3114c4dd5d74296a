-- Whether a stamp's octets say what its row says.
use Rattle.std.specs.Prelude.{◌≡◌, ◌≤◌, List, length, Option, Some, None}
use Rattle.der.specs.{Node.Node, ObjectIdentifier.oid_content}
use Rattle.book.specs.{Identities.identity_before, Rows.StampRow, Rows.InstalledRow}
use Rattle.cms.specs.Certificate.{IsSubject}
use Rattle.tsp.specs.{Request.RequestValue, Request.Spells, Tst.TstValue, Tst.SpellsTst}

-- a name is there only where an identity was in force, and is the subject of its certificate (RFC 3161 2.4.2)
abbrev pub IsOwnName : Option InstalledRow → Option Node → Type 0
IsOwnName identity None = Unit {0}
IsOwnName None (Some name) = ⊥
IsOwnName (Some identity) (Some name) = IsSubject identity.certificate name

-- a TSTInfo with the row's serial number, genTime and policy, with no name but that of the identity that was in force,
-- and with the imprint of a request that has the row's algorithm and digest
pub record Agree (stamp : StampRow) (identity : Option InstalledRow) (tst : TstValue) (request : RequestValue)
    : Type 0 where
  pub serial : tst.serial ≡ stamp.serial
  pub gen_time : tst.gen_time ≡ stamp.gen_time
  pub policy : oid_content tst.policy ≡ stamp.policy
  pub tsa : IsOwnName identity tst.tsa
  pub imprint : tst.imprint ≡ request.imprint
  pub algorithm : oid_content request.imprint.algorithm ≡ stamp.algorithm
  pub digest : request.imprint.hash ≡ stamp.digest

-- The stored TSTInfo is one (RFC 3161 2.4.2), the stored request is one of at most 65,536 octets (RFC 3161 2.4.1), and
-- they agree with each other, with the row, and with the identity that was in force at its serial number.
pub record IsConsistent (stamp : StampRow) (identities : List InstalledRow) : Type 0 where
  pub tst : TstValue
  pub spelled : SpellsTst stamp.tst tst
  pub request : RequestValue
  pub asked : Spells stamp.request request
  pub short : length stamp.request ≤ 65536
  pub agree : Agree stamp (identity_before stamp.serial identities) tst request
