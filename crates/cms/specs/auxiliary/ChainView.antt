-- Stepping stones of reading a chain.
use Rattle.std.specs.Prelude.{◌≡◌, ℕ, ◌<◌, ◌≤◌, List, [], ◌∷◌, ◌++◌, length}
use Rattle.std.specs.List.{Contains}
use Rattle.cms.specs.Chain.{IsShortCertificate, BeginsWith}
use Rattle.cms.specs.declared.fault.CmsFault.{CmsFault, TheVariants.NotCertificate, TheVariants.TooLarge}

-- why octets begin with no certificate of at most 16,384 octets
abbrev pub IsFrontFault : List ℕ → CmsFault → Type 0
IsFrontFault octets TooLarge = (first : List ℕ) × BeginsWith octets first × (16384 < length first)
IsFrontFault octets NotCertificate =
    (first : List ℕ) → BeginsWith octets first → (length first ≤ 16384) × (IsShortCertificate first → ⊥)
IsFrontFault octets fault = ⊥

-- The certificate at the front of a chain goes behind those before it, fewer than four and others than it.
pub record IsTaken (before : List (List ℕ)) (chain : List ℕ) (after : List (List ℕ)) (rest : List ℕ) : Type 0 where
  pub certificate : List ℕ
  pub is : IsShortCertificate certificate
  pub few : length before < 4
  pub new : Contains before certificate → ⊥
  pub split : chain ≡ certificate ++ rest
  pub more : after ≡ before ++ certificate ∷ []
