-- Certificates that go with a signer's: which may, and the first fault of those that may not.
use Rattle.std.specs.Prelude.{◌≡◌, ◌⊎◌, ℕ, ◌<◌, ◌≤◌, ◌^◌, List, [], ◌∷◌, ◌++◌, length}
use Rattle.std.specs.List.{AllByRecursion, Contains}
use Rattle.der.specs.Node.{element, IsLowTag}
use Rattle.cms.specs.Certificate.{CertificateParts, IsCertificate}
use Rattle.cms.specs.{Grammar.joined, SetOf.ascending, declared.fault.CmsFault.CmsFault}
use Rattle.cms.specs.declared.fault.CmsFault.TheVariants.{NotCertificate, TooLarge, Memory, TooMany, Repeated}

-- The octets are a certificate, of at most 16,384 octets.
pub record IsShortCertificate (octets : List ℕ) : Type 0 where
  pub parts : CertificateParts
  pub is : IsCertificate octets parts
  pub short : length octets ≤ 16384

-- no two are the same
abbrev pub AreApart : List (List ℕ) → Type 0
AreApart [] = Unit {0}
AreApart (first ∷ others) = (Contains others first → ⊥) × AreApart others

-- These go with a signer's certificate: three at most, each of them one, none of them twice, and none the signer's.
pub record AreFurtherCertificates (signer : List ℕ) (further : List (List ℕ)) : Type 0 where
  pub few : length further ≤ 3
  pub each : AllByRecursion IsShortCertificate further
  pub apart : AreApart (signer ∷ further)

-- The certificates of an identity are its signer's and those of its chain, in ascending order, one after the other.
pub record AreAll (signer chain certificates : List ℕ) : Type 0 where
  pub further : List (List ℕ)
  pub fitting : AreFurtherCertificates signer further
  pub split : chain ≡ joined further
  pub all : certificates ≡ joined (ascending (signer ∷ further))

-- an element: an identifier octet, the fewest length octets, and the contents octets (X.690 8.1.1)
pub record IsElement (octets : List ℕ) : Type 0 where
  pub identifier : ℕ
  pub contents : List ℕ
  pub low : IsLowTag identifier
  pub short : length contents < 2 ^ 24
  pub is : octets ≡ element identifier contents

-- octets begin with that element
pub record BeginsWith (octets first : List ℕ) : Type 0 where
  pub rest : List ℕ
  pub front : IsElement first
  pub split : octets ≡ first ++ rest

-- Why octets after these certificates are refused, of which at least one is left. An entry of a chain ends where the
-- element at the front ends.
abbrev pub IsRefused : List (List ℕ) → List ℕ → CmsFault → Type 0
IsRefused certificates octets TooMany = 4 ≤ length certificates
IsRefused certificates octets TooLarge =
    (length certificates < 4) × ((first : List ℕ) × BeginsWith octets first × (16384 < length first))
IsRefused certificates octets NotCertificate =
    (length certificates < 4)
    × ((first : List ℕ) → BeginsWith octets first → (length first ≤ 16384) × (IsShortCertificate first → ⊥))
IsRefused certificates octets Repeated =
    (length certificates < 4)
    × ((first : List ℕ) × BeginsWith octets first × IsShortCertificate first × Contains certificates first)
IsRefused certificates octets Memory = ⊥

-- The first fault along a chain: it begins with certificates that go with the signer's, and what is next is refused.
pub record IsChainFault (signer chain : List ℕ) (fault : CmsFault) : Type 0 where
  pub further : List (List ℕ)
  pub rest : List ℕ
  pub fitting : AreFurtherCertificates signer further
  pub split : chain ≡ joined further ++ rest
  pub left : rest ≡ [] → ⊥
  pub refused : IsRefused (signer ∷ further) rest fault

-- why octets are no signer's certificate
abbrev pub IsSignerCertificateFault : List ℕ → CmsFault → Type 0
IsSignerCertificateFault signer TooLarge = 16384 < length signer
IsSignerCertificateFault signer NotCertificate = (length signer ≤ 16384) × (IsShortCertificate signer → ⊥)
IsSignerCertificateFault signer fault = ⊥

-- The first fault of a signer's certificate and of its chain. Want of memory is met behind the certificate.
abbrev pub IsFirstFault : List ℕ → List ℕ → CmsFault → Type 0
IsFirstFault signer chain Memory = IsShortCertificate signer
IsFirstFault signer chain fault =
    IsSignerCertificateFault signer fault ⊎ (IsShortCertificate signer × IsChainFault signer chain fault)
