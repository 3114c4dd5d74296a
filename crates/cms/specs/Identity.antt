-- Who signs: what a token takes of the signer's certificate, and the certificates that go with it.
use Rattle.std.specs.Prelude.{ℕ, List}

-- The signer's certificate, and its chain: further certificates, one after the other, as they were handed in. All
-- certificates in ascending order, one after the other. The encodings of the signer's issuer, serial number and
-- subject, as they stand in its certificate (RFC 5280 4.1).
pub record IdentityValue : Type 0 where
  pub certificate : List ℕ
  pub chain : List ℕ
  pub certificates : List ℕ
  pub issuer : List ℕ
  pub serial : List ℕ
  pub subject : List ℕ
