-- Reading a certificate and an algorithm from values: the answer, or none where the value isn't of the grammar.
use Rattle.std.specs.Prelude.{◌&&◌, nat_le, if◌then◌else◌, true, Bool, Option, Some, None, option_and_then, is_some}
use Rattle.der.specs.Node.{Node, Nodes, no_nodes, node, contents_of, components_of, first_of, take_under, is_end}
use Rattle.der.specs.{Node.levels, Number.is_shortest, ObjectIdentifier.oid_of}
use Rattle.cms.specs.Certificate.{CertificateParts, serial_number, issuer_name, subject_name, after_serial}
use Rattle.cms.specs.Certificate.{after_issuer}

infixl 10 ◌>>=◌
abbrev pub ◌>>=◌ : {A B : Type 0} → Option A → (A → Option B) → Option B
o >>= f = option_and_then f o

-- where serial number, issuer and subject stand: what follows each in the TBSCertificate, and what follows that
pub record Outline : Type 0 where
  pub serial : Node
  pub after_serial : Nodes
  pub issuer : Node
  pub after_issuer : Nodes
  pub subject : Node
  pub after_subject : Nodes
  pub after : Nodes

-- of a certificate's parts
abbrev pub outline : CertificateParts → Outline
outline p = record {
  serial = serial_number p;
  after_serial = after_serial p;
  issuer = issuer_name p;
  after_issuer = after_issuer p;
  subject = subject_name p;
  after_subject = p.further;
  after = p.after;
}

-- the SEQUENCE at the front, and what is left
unfoldable pub sequence_at : Nodes → Option (Node × Nodes)
sequence_at ns = do
  first ← first_of ns
  inside ← components_of 0x30 first.0
  Some first

-- the INTEGER in the shortest form at the front, and what is left
unfoldable pub serial_at : Nodes → Option (Node × Nodes)
serial_at ns = do
  first ← first_of ns
  octets ← contents_of 0x02 first.0
  if is_shortest octets then Some first else None

-- without the version, where it stands
unfoldable pub after_version : Nodes → Nodes
after_version ns = (take_under 0xa0 ns).1

-- the SEQUENCE of at most 29 levels at the front, and what is left
unfoldable pub subject_at : Nodes → Option (Node × Nodes)
subject_at ns = do
  first ← sequence_at ns
  if nat_le (levels first.0) 29 then Some first else None

unfoldable pub outline_of : Node → Option Outline
outline_of n = do
  members ← components_of 0x30 n
  tbs ← first_of members
  inside ← components_of 0x30 tbs.0
  serial ← serial_at (after_version inside)
  signature ← sequence_at serial.1
  issuer ← sequence_at signature.1
  validity ← sequence_at issuer.1
  subject ← subject_at validity.1
  Some (record {
    serial = serial.0;
    after_serial = serial.1;
    issuer = issuer.0;
    after_issuer = issuer.1;
    subject = subject.0;
    after_subject = subject.1;
    after = tbs.1;
  })

-- one value at most
unfoldable pub is_optional : Nodes → Bool
is_optional no_nodes = true
is_optional (node value others) = is_end others

-- whether a value is an AlgorithmIdentifier
unfoldable pub algorithm_of : Node → Option (Unit {0})
algorithm_of n = do
  members ← components_of 0x30 n
  first ← first_of members
  octets ← contents_of 0x06 first.0
  if is_some (oid_of octets) && is_optional first.1 then Some tt else None
