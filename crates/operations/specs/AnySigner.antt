-- A signer that was reached, whichever it is: it signs, counts and names its algorithm as that.
use Rattle.std.specs.Prelude.{ℕ, List, Result}
use Rattle.cms.specs.KeyedHash.{SignsByHash, SendsNothing, keyed_hash_algorithm}
use Rattle.cms.specs.{Signer.AwaitsInTurn, declared.signer.SignerFault.SignerFault}
use Rattle.operations.specs.declared.signers.AnySigner.{AnySigner}
use Rattle.operations.specs.declared.signers.AnySigner.TheVariants.{Keyed, Session, Reconnecting}

module _ {S K : Type 0} (signs : S → List ℕ → Result (List ℕ) SignerFault → S → Type 0)
    (signs_renewed : K → List ℕ → Result (List ℕ) SignerFault → K → Type 0) where
  abbrev pub SignsAsAny : AnySigner S K → List ℕ → Result (List ℕ) SignerFault → AnySigner S K → Type 0
  SignsAsAny (Keyed before) text answer (Keyed after) = SignsByHash before text answer after
  SignsAsAny (Session before) text answer (Session after) = signs before text answer after
  SignsAsAny (Reconnecting before) text answer (Reconnecting after) = signs_renewed before text answer after
  SignsAsAny _ text answer _ = ⊥

module _ {S K : Type 0} (sent : S → List (List ℕ) → S → Type 0) (sent_renewed : K → List (List ℕ) → K → Type 0) where
  abbrev pub SendsAsAny : AnySigner S K → List (List ℕ) → AnySigner S K → Type 0
  SendsAsAny (Keyed before) texts (Keyed after) = SendsNothing before texts after
  SendsAsAny (Session before) texts (Session after) = sent before texts after
  SendsAsAny (Reconnecting before) texts (Reconnecting after) = sent_renewed before texts after
  SendsAsAny _ texts _ = ⊥

module _ {S K : Type 0}
    (awaits : S → List (List ℕ) → List (Result (List ℕ) SignerFault) → List (List ℕ) → S → Type 0)
    (awaits_renewed : K → List (List ℕ) → List (Result (List ℕ) SignerFault) → List (List ℕ) → K → Type 0) where
  abbrev pub AwaitsAsAny : AnySigner S K → List (List ℕ) → List (Result (List ℕ) SignerFault) → List (List ℕ)
      → AnySigner S K → Type 0
  AwaitsAsAny (Keyed before) texts answers outstanding (Keyed after) =
      AwaitsInTurn SignsByHash SendsNothing before texts answers outstanding after
  AwaitsAsAny (Session before) texts answers outstanding (Session after) =
      awaits before texts answers outstanding after
  AwaitsAsAny (Reconnecting before) texts answers outstanding (Reconnecting after) =
      awaits_renewed before texts answers outstanding after
  AwaitsAsAny _ texts answers outstanding _ = ⊥

module _ {S K : Type 0} (count : S → ℕ) (count_renewed : K → ℕ) where
  abbrev pub faults_of : AnySigner S K → ℕ
  faults_of (Keyed signer) = 0
  faults_of (Session signer) = count signer
  faults_of (Reconnecting signer) = count_renewed signer

module _ {S K : Type 0} (algorithm : S → List ℕ) (algorithm_renewed : K → List ℕ) where
  abbrev pub algorithm_of : AnySigner S K → List ℕ
  algorithm_of (Keyed signer) = keyed_hash_algorithm
  algorithm_of (Session signer) = algorithm signer
  algorithm_of (Reconnecting signer) = algorithm_renewed signer
