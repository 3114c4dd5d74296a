-- The stand-in signer: a hash of a key and the text.
use Rattle.std.specs.Prelude.{◌≡◌, ◌⊎◌, ℕ, List, [], ◌∷◌, ◌++◌, Result, Ok, Err}
use Rattle.sha2.specs.Sha256.{sha256}
use Rattle.cms.specs.declared.signer.SignerFault.{SignerFault, TheVariants.Memory}

-- SHA-256 of the key followed by the text, or want of memory; the key stays
abbrev pub SignsByHash : List ℕ → List ℕ → Result (List ℕ) SignerFault → List ℕ → Type 0
SignsByHash before text answer after =
    ((answer ≡ Ok (sha256 (before ++ text))) ⊎ (answer ≡ Err Memory)) × (after ≡ before)

-- the AlgorithmIdentifier of 2.999.9, without parameters
abbrev pub keyed_hash_algorithm : List ℕ
keyed_hash_algorithm = 0x30 ∷ 0x05 ∷ 0x06 ∷ 0x03 ∷ 0x88 ∷ 0x37 ∷ 0x09 ∷ []

-- nothing goes out
abbrev pub SendsNothing : List ℕ → List (List ℕ) → List ℕ → Type 0
SendsNothing before texts after = after ≡ before
