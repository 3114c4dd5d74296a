-- Files that are read, as what opens them tells: which octets, in which order, and which fault.
use Rattle.std.specs.Prelude.{◌≡◌, ◌≢◌, ◌⊎◌, ℕ, ◌+◌, ◌*◌, ◌≤◌, List, [], length, take, Option, Some, None, IfSome}
use Rattle.std.specs.Prelude.{Result, Ok, Err, String, Vec, string_bytes, IsUtf8}
use Rattle.std.specs.{declared.io.ErrorKind.ErrorKind, declared.io.ErrorKind.TheVariants.OutOfMemory}
use Rattle.cms.specs.Certificate.{CertificateParts, IsAlgorithm, IsCertificate, identity_with}
use Rattle.cms.specs.Chain.{AreFurtherCertificates, IsFirstFault}
use Rattle.cms.specs.{Grammar.joined, Identity.IdentityValue, declared.fault.CmsFault.CmsFault}
use Rattle.cms.specs.declared.fault.CmsFault.TheVariants as cms
use Rattle.policy.specs.{Answers.IsFirstFault as IsFirstPolicyFault, Meaning.meaning_of, View.policy_view}
use Rattle.policy.specs.{declared.fault.PolicyFault.PolicyFault, declared.policy.Policy.Policy as PolicyRead}
use Rattle.console.specs.declared.fault.Fault.TheVariants.{Cms, Input, Policy}
use Rattle.console.specs.declared.fault.InputFault.TheVariants.{File, Memory}
use Rattle.console.specs.{declared.fault.Fault.Fault, declared.fault.InputFault.InputFault}

-- So many octets of each file decide how it is read: one more than a certificate or an algorithm may have; and of a
-- chain two certificates, one value more of the most contents that a value has, and an octet behind that.
abbrev pub most_of_certificate : ℕ
most_of_certificate = 16_384 + 1

abbrev pub most_of_chain : ℕ
most_of_chain = 2 * 16_384 + 5 + 16_777_215 + 1

abbrev pub most_of_algorithm : ℕ
most_of_algorithm = 256 + 1

abbrev pub most_of_key : ℕ
most_of_key = 256 + 1

-- the octets that were read, or the fault
abbrev pub octets_of : {A E : Type 0} → Result (Vec ℕ A) E → Result (List ℕ) E
octets_of (Ok octets) = Ok octets.items
octets_of (Err fault) = Err fault

-- the octets of a text, or the fault
abbrev pub text_of : {A E : Type 0} → Result (String A) E → Result (List ℕ) E
text_of (Ok text) = Ok (string_bytes text)
text_of (Err fault) = Err fault

-- what an error of that kind is to the program
pub record IsFaultOf (kind : ErrorKind) (fault : InputFault) : Type 0 where
  pub memory : kind ≡ OutOfMemory → fault ≡ Memory
  pub other : kind ≢ OutOfMemory → fault ≡ File

-- Whose certificate tokens name, by the octets of a certificate and of a chain; or their first fault.
abbrev pub IsIdentityOf : List ℕ → List ℕ → Result IdentityValue Fault → Type 0
IsIdentityOf certificate chain (Ok identity) = (parts : CertificateParts) × (further : List (List ℕ))
    × IsCertificate certificate parts × (length certificate ≤ 16384) × AreFurtherCertificates certificate further
    × (chain ≡ joined further) × (identity ≡ identity_with certificate further parts)
IsIdentityOf certificate chain (Err fault) = (refusal : CmsFault) × ((fault ≡ Cms refusal)
    × IsFirstFault certificate chain refusal)

-- an algorithm of these octets, or why they are none
abbrev pub IsAlgorithmOf : List ℕ → Result (List ℕ) Fault → Type 0
IsAlgorithmOf octets (Ok algorithm) = (algorithm ≡ octets) × (length algorithm ≤ 256) × IsAlgorithm algorithm
IsAlgorithmOf octets (Err fault) = (refusal : CmsFault) × ((fault ≡ Cms refusal)
    × (IsAlgorithm octets → length octets ≤ 256 → refusal ≡ cms.Memory))

-- a signing key of these octets, or why they are none
abbrev pub IsKeyOf : List ℕ → Result (List ℕ) Fault → Type 0
IsKeyOf octets (Ok key) = (key ≡ octets) × (1 ≤ length key) × (length key ≤ 256)
IsKeyOf octets (Err fault) = ((fault ≡ Input File) × (1 ≤ length octets → length octets ≤ 256 → ⊥))
    ⊎ (fault ≡ Cms cms.Memory)

-- the policy that a text means, or its first fault
abbrev pub IsPolicyOf : List ℕ → Result PolicyRead Fault → Type 0
IsPolicyOf text (Ok policy) = meaning_of text ≡ Ok (policy_view policy)
IsPolicyOf text (Err fault) = (first : PolicyFault) × ((fault ≡ Policy first)
    × IsFirstPolicyFault first (meaning_of text))

-- What is known of files that are opened at paths: at which path which file is, by which error none is, and what octets
-- a file has, where that is told.
pub record Source (S F : Type 0) : Type 1 where
  pub opens : S → List ℕ → F → Type 0
  pub refuses : S → List ℕ → ErrorKind → Type 0
  pub remaining : F → Option (List ℕ)
  pub source : S

abbrev pub source_of : {S F : Type 0} → (S → List ℕ → F → Type 0) → (S → List ℕ → ErrorKind → Type 0)
    → (F → Option (List ℕ)) → S → Source S F
source_of opens refuses remaining source = record {
  opens = opens;
  refuses = refuses;
  remaining = remaining;
  source = source;
}

module _ {S F : Type 0} (files : Source S F) where
  -- What reading at most so many octets of the file at a path gives: all that it has where these are fewer. It fails
  -- by the kind of the error, where the file can't be opened, or not read to there.
  abbrev pub Reads : List ℕ → ℕ → Result (List ℕ) InputFault → Type 0
  Reads path most (Ok octets) =
      (file : F) × (files.opens files.source path file
      × IfSome (files.remaining file) (λ all. octets ≡ take most all))
  Reads path most (Err fault) = (kind : ErrorKind) × (files.refuses files.source path kind × IsFaultOf kind fault)

  -- The same of a whole file, as text; one that isn't UTF-8 is none.
  abbrev pub ReadsText : List ℕ → Result (List ℕ) InputFault → Type 0
  ReadsText path (Ok text) =
      (file : F) × (files.opens files.source path file × IfSome (files.remaining file) (λ all. text ≡ all))
  ReadsText path (Err fault) = ((kind : ErrorKind) × (files.refuses files.source path kind × IsFaultOf kind fault))
      ⊎ ((fault ≡ File) × ((file : F) × (files.opens files.source path file
      × IfSome (files.remaining file) (λ all. IsUtf8 all → ⊥))))

  -- A policy file is read, and what it means follows from its text.
  pub data ReadsPolicy (path : List ℕ) (result : Result PolicyRead Fault) : Type 0 where
    text_not_read : (fault : InputFault) → ReadsText path (Err fault) → result ≡ Err (Input fault)
        → ReadsPolicy path result
    text_read : (text : List ℕ) → ReadsText path (Ok text) → IsPolicyOf text result → ReadsPolicy path result

  -- A file is read, and what it is follows from its octets.
  pub data ReadsAs {A : Type 0} (path : List ℕ) (most : ℕ) (is : List ℕ → Result A Fault → Type 0)
      (result : Result A Fault) : Type 0 where
    not_read : (fault : InputFault) → Reads path most (Err fault) → result ≡ Err (Input fault)
        → ReadsAs path most is result
    read_as : (octets : List ℕ) → Reads path most (Ok octets) → is octets result → ReadsAs path most is result

  -- The chain of a certificate is read, where a file is named for it. What is wrong with the certificate comes first.
  pub data ReadsChain (certificate : List ℕ) (chain : Option (List ℕ)) (result : Result (List ℕ) Fault) : Type 0 where
    no_chain : chain ≡ None → result ≡ Ok [] → ReadsChain certificate chain result
    of_no_certificate : (path : List ℕ) → chain ≡ Some path → (fault : Fault) → IsIdentityOf certificate [] (Err fault)
        → result ≡ Err fault → ReadsChain certificate chain result
    chain_not_read : (path : List ℕ) → chain ≡ Some path → (parts : CertificateParts) → IsCertificate certificate parts
        → (fault : InputFault) → Reads path most_of_chain (Err fault) → result ≡ Err (Input fault)
        → ReadsChain certificate chain result
    chain_read : (path : List ℕ) → chain ≡ Some path → (parts : CertificateParts) → IsCertificate certificate parts
        → (octets : List ℕ) → Reads path most_of_chain (Ok octets) → result ≡ Ok octets
        → ReadsChain certificate chain result

  -- The certificate is read first, then the chain, and then what both are.
  pub data ReadsIdentity (path : List ℕ) (chain : Option (List ℕ)) (result : Result IdentityValue Fault) : Type 0 where
    certificate_not_read : (fault : InputFault) → Reads path most_of_certificate (Err fault)
        → result ≡ Err (Input fault) → ReadsIdentity path chain result
    chain_refused : (certificate : List ℕ) → Reads path most_of_certificate (Ok certificate) → (fault : Fault)
        → ReadsChain certificate chain (Err fault) → result ≡ Err fault → ReadsIdentity path chain result
    identity_read : (certificate : List ℕ) → Reads path most_of_certificate (Ok certificate) → (octets : List ℕ)
        → ReadsChain certificate chain (Ok octets) → IsIdentityOf certificate octets result
        → ReadsIdentity path chain result
