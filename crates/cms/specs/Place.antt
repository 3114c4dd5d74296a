-- Where a certificate's issuer, serial number and subject stand in its octets.
use Rattle.std.specs.Prelude.{◌≡◌, ℕ, ◌≤◌, List, length, slice_range}
use Rattle.der.specs.Node.{Node, encoding}
use Rattle.cms.specs.Certificate.{CertificateParts, serial_number, issuer_name, subject_name, IsSubject}
use Rattle.cms.specs.declared.place.Place.{Place}

-- a value stands in octets at that place
pub record IsPlace (octets : List ℕ) (n : Node) (place : Place) : Type 0 where
  pub ordered : place.start ≤ place.end
  pub within : place.end ≤ length octets
  pub stands : slice_range octets place.start place.end ≡ encoding n

-- issuer, serial number and subject of a certificate's parts stand at these places
pub record ArePlaces (octets : List ℕ) (p : CertificateParts) (issuer serial subject : Place) : Type 0 where
  pub issuer_stands : IsPlace octets (issuer_name p) issuer
  pub serial_stands : IsPlace octets (serial_number p) serial
  pub subject_stands : IsPlace octets (subject_name p) subject

-- at that place stands the subject of the certificate that the octets are, which is short
pub record IsSubjectPlace (octets : List ℕ) (place : Place) : Type 0 where
  pub name : Node
  pub is : IsSubject octets name
  pub short : length octets ≤ 16384
  pub stands : IsPlace octets name place
