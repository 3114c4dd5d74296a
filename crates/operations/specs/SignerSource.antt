-- Who signs.
use Rattle.std.specs.Prelude.{◌≡◌, ℕ, List}
use Rattle.cms.specs.KeyedHash.{keyed_hash_algorithm}
use Rattle.operations.specs.declared.signers.AnySigner.{AnySigner}
use Rattle.operations.specs.declared.host.Renewal.TheVariants.{Never, AfterLoss}
use Rattle.operations.specs.declared.host.SignerSource.TheVariants.{Keyed, Session}
use Rattle.operations.specs.{declared.host.Renewal.Renewal, declared.host.SignerSource.SignerSource}
use Rattle.operations.specs.declared.signers.AnySigner.TheVariants as any

-- the encoding of the AlgorithmIdentifier of the signatures
abbrev pub algorithm_of : SignerSource → List ℕ
algorithm_of (Keyed signer) = keyed_hash_algorithm
algorithm_of (Session address algorithm) = algorithm

-- what is reached of a key holder: one session, or sessions of which another is opened where one was lost
abbrev pub IsSession : {S K : Type 0} → Renewal → AnySigner S K → Type 0
IsSession {S} {K} Never reached = (session : S) × (reached ≡ any.Session session)
IsSession {S} {K} (AfterLoss told) reached = (sessions : K) × (reached ≡ any.Reconnecting sessions)

-- what is reached: the stand-in as it is, or that
abbrev pub IsOfKind : {S K : Type 0} → SignerSource → Renewal → AnySigner S K → Type 0
IsOfKind (Keyed signer) renewal reached = reached ≡ any.Keyed signer
IsOfKind (Session address algorithm) renewal reached = IsSession renewal reached
