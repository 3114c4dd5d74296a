-- Whose certificate tokens name, as files tell.
use Rattle.std.specs.Prelude.{◌≡◌, ℕ, ◌≤◌, List, length}
use Rattle.cms.specs.Certificate.{CertificateParts, IsCertificate, identity_with}
use Rattle.cms.specs.{Chain.AreFurtherCertificates, Identity.IdentityValue}

-- of some certificate, and of the further ones of some chain
pub record IsIdentity (identity : IdentityValue) : Type 0 where
  pub certificate : List ℕ
  pub parts : CertificateParts
  pub is : IsCertificate certificate parts
  pub short : length certificate ≤ 16384
  pub further : List (List ℕ)
  pub chained : AreFurtherCertificates certificate further
  pub same : identity ≡ identity_with certificate further parts
