-- The files that say by what requests are answered, and who signs.
use Rattle.std.specs.Prelude.{◌≡◌, ◌≤◌, ℕ, List, [], Option, None, option_map, length, Ok, Err}
use Rattle.std.proofs.Common.{Bor}
use Rattle.cms.specs.{Certificate.IsAlgorithm, Identity.IdentityValue, declared.fault.CmsFault.CmsFault}
use Rattle.command_line.specs.{declared.words.DeskWords.DeskWords, declared.words.SignerWords.SignerWords}
use Rattle.command_line.specs.declared.words.SignerWords.TheVariants as words
use Rattle.console.specs.Files.{IsAlgorithmOf, IsKeyOf, ReadsAs, ReadsIdentity, ReadsPolicy, ReadsText, Source}
use Rattle.console.specs.Files.{most_of_algorithm, most_of_key}
use Rattle.console.specs.{declared.fault.Fault.Fault, declared.fault.Fault.TheVariants.Cms}
use Rattle.operations.specs.{declared.host.SignerSource.SignerSource, SignerSource.algorithm_of}
use Rattle.operations.specs.declared.host.SignerSource.TheVariants as signing
use Rattle.desk.specs.{Calls.in_force_of, Command.Setting}
use Rattle.policy.specs.{Meaning.meaning_of, Record.PolicyValue, declared.policy.Policy.Policy}

-- the path of a file, where one is named
abbrev pub path_of : Option (Bor (List ℕ)) → Option (List ℕ)
path_of path = option_map (λ path. path.now) path

module _ {S F : Type 0} (files : Source S F) where
  -- The stand-in signs by a key of 1 to 256 octets, which the file holds. A key holder is asked at the address that the
  -- words tell, and its AlgorithmIdentifier, of at most 256 octets, is the file's.
  abbrev pub SignsAs : SignerWords → SignerSource → Type 0
  SignsAs (words.Key path) (signing.Keyed signer) =
      ReadsAs files path.now most_of_key IsKeyOf (Ok signer) × (1 ≤ length signer) × (length signer ≤ 256)
  SignsAs (words.Key path) (signing.Session at algorithm) = ⊥
  SignsAs (words.Session address path) (signing.Keyed signer) = ⊥
  SignsAs (words.Session address path) (signing.Session at algorithm) =
      (at.now ≡ address.now)
      × ReadsAs files path.now most_of_algorithm IsAlgorithmOf (Ok algorithm)
      × (length algorithm ≤ 256)
      × IsAlgorithm algorithm

  -- What these files say: the policy; the certificate that tokens name (ESSCertIDv2, RFC 5816) and its chain, which is
  -- empty where no file is named; and who signs, by an AlgorithmIdentifier that tokens state (RFC 5652 5.3).
  pub record ReadsDesk (words : DeskWords) : Type 0 where
    pub rules : List ℕ
    pub rules_read : ReadsText files words.rules.now (Ok rules)
    pub policy : PolicyValue
    pub meant : meaning_of rules ≡ Ok policy
    pub identity : IdentityValue
    pub identity_read : ReadsIdentity files words.certificate.now (path_of words.chain) (Ok identity)
    pub alone : words.chain ≡ None → identity.chain ≡ []
    pub signing : SignerSource
    pub signs : SignsAs words.signer signing

  -- how the file of who signs is refused
  abbrev pub RefusesSigner : SignerWords → Fault → Type 0
  RefusesSigner (words.Key path) fault = ReadsAs files path.now most_of_key IsKeyOf (Err fault)
  RefusesSigner (words.Session address path) fault =
      ReadsAs files path.now most_of_algorithm IsAlgorithmOf (Err fault)

  -- The first fault of these files: of the policy file, then of the certificate and its chain, and then of the file
  -- of who signs. Last its algorithm is kept for the tokens.
  pub data RefusesFiles (words : DeskWords) (fault : Fault) : Type 0 where
    of_policy : ReadsPolicy files words.rules.now (Err fault) → RefusesFiles words fault
    of_identity : (policy : Policy) → ReadsPolicy files words.rules.now (Ok policy)
        → ReadsIdentity files words.certificate.now (path_of words.chain) (Err fault) → RefusesFiles words fault
    of_signer : (policy : Policy) → ReadsPolicy files words.rules.now (Ok policy) → (identity : IdentityValue)
        → ReadsIdentity files words.certificate.now (path_of words.chain) (Ok identity)
        → RefusesSigner words.signer fault → RefusesFiles words fault
    of_algorithm : (policy : Policy) → ReadsPolicy files words.rules.now (Ok policy) → (identity : IdentityValue)
        → ReadsIdentity files words.certificate.now (path_of words.chain) (Ok identity) → (signing : SignerSource)
        → SignsAs words.signer signing → (refusal : CmsFault) → fault ≡ Cms refusal → RefusesFiles words fault

-- the setting of a desk by what they say
abbrev pub setting_of : {S F : Type 0} {files : Source S F} {words : DeskWords} → ReadsDesk files words → Setting
setting_of read = record { file = read.policy; in_force = in_force_of read.identity (algorithm_of read.signing) }
