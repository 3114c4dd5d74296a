-- What the trait of signers asks of the signer that was reached. Proofs, no definitions.
use Rattle.std.proofs.Common.{ℕ, List, [], ◌∷◌, ◌++◌, Result, refl, ap, ◌∙◌}
use Rattle.cms.specs.{KeyedHash.SignsByHash, Signer.SignsEach, declared.signer.SignerFault.SignerFault}
use Rattle.operations.specs.AnySigner.{SignsAsAny, SendsAsAny, AwaitsAsAny}
use Rattle.operations.specs.declared.signers.AnySigner.{AnySigner}
use Rattle.operations.specs.declared.signers.AnySigner.TheVariants.{Keyed, Session, Reconnecting}

-- what is signed one after the other by one relation is so by each that follows from it
each_as : {S T : Type 0} (signs : S → List ℕ → Result (List ℕ) SignerFault → S → Type 0)
    (signs_as : T → List ℕ → Result (List ℕ) SignerFault → T → Type 0) (f : S → T)
    → ((x : S) (text : List ℕ) (answer : Result (List ℕ) SignerFault) (y : S) → signs x text answer y
    → signs_as (f x) text answer (f y))
    → (x : S) (texts : List (List ℕ)) (answers : List (Result (List ℕ) SignerFault)) (y : S)
    → SignsEach signs x texts answers y → SignsEach signs_as (f x) texts answers (f y)
each_as signs signs_as f goes x [] [] y each = ap f each
each_as signs signs_as f goes x (text ∷ texts) (answer ∷ answers) y each = (
  f each.0,
  (goes x text answer each.0 each.1.0, each_as signs signs_as f goes each.0 texts answers y each.1.1),
)
each_as signs signs_as f goes x [] (answer ∷ answers) y each = absurd each
each_as signs signs_as f goes x (text ∷ texts) [] y each = absurd each

module _ {S K : Type 0} (sent : S → List (List ℕ) → S → Type 0) (sent_renewed : K → List (List ℕ) → K → Type 0) where
  pub sends_nothing : ((x : S) (texts : List (List ℕ)) → sent x texts x)
      → ((x : K) (texts : List (List ℕ)) → sent_renewed x texts x) → (x : AnySigner S K) (texts : List (List ℕ))
      → SendsAsAny sent sent_renewed x texts x
  sends_nothing one other (Keyed x) texts = refl
  sends_nothing one other (Session x) texts = one x texts
  sends_nothing one other (Reconnecting x) texts = other x texts

  pub sends_after : ((x y z : S) (texts others : List (List ℕ)) → sent x texts y → sent y others z
      → sent x (texts ++ others) z)
      → ((x y z : K) (texts others : List (List ℕ)) → sent_renewed x texts y → sent_renewed y others z
      → sent_renewed x (texts ++ others) z)
      → (x y z : AnySigner S K) (texts others : List (List ℕ)) → SendsAsAny sent sent_renewed x texts y
      → SendsAsAny sent sent_renewed y others z → SendsAsAny sent sent_renewed x (texts ++ others) z
  sends_after one other (Keyed x) (Keyed y) (Keyed z) texts others first second = second ∙ first
  sends_after one other (Session x) (Session y) (Session z) texts others first second =
      one x y z texts others first second
  sends_after one other (Reconnecting x) (Reconnecting y) (Reconnecting z) texts others first second =
      other x y z texts others first second
  sends_after one other (Keyed x) (Keyed y) z texts others first second = absurd second
  sends_after one other (Session x) (Session y) z texts others first second = absurd second
  sends_after one other (Reconnecting x) (Reconnecting y) z texts others first second = absurd second
  sends_after one other _ _ z texts others first second = absurd first

module _ {S K : Type 0}
    (awaits : S → List (List ℕ) → List (Result (List ℕ) SignerFault) → List (List ℕ) → S → Type 0)
    (awaits_renewed : K → List (List ℕ) → List (Result (List ℕ) SignerFault) → List (List ℕ) → K → Type 0) where
  pub all_signed : (signs : S → List ℕ → Result (List ℕ) SignerFault → S → Type 0)
      (signs_renewed : K → List ℕ → Result (List ℕ) SignerFault → K → Type 0)
      → ((x y : S) (texts : List (List ℕ)) (answers : List (Result (List ℕ) SignerFault))
      → awaits x texts answers [] y → SignsEach signs x texts answers y)
      → ((x y : K) (texts : List (List ℕ)) (answers : List (Result (List ℕ) SignerFault))
      → awaits_renewed x texts answers [] y → SignsEach signs_renewed x texts answers y)
      → (x y : AnySigner S K) (texts : List (List ℕ)) (answers : List (Result (List ℕ) SignerFault))
      → AwaitsAsAny awaits awaits_renewed x texts answers [] y
      → SignsEach (SignsAsAny signs signs_renewed) x texts answers y
  all_signed signs signs_renewed one other (Keyed x) (Keyed y) texts answers a =
      each_as SignsByHash (SignsAsAny signs signs_renewed) Keyed (λ x text answer y step. step) x texts answers y
      a.signed
  all_signed signs signs_renewed one other (Session x) (Session y) texts answers a =
      each_as signs (SignsAsAny signs signs_renewed) Session (λ x text answer y step. step) x texts answers y
      (one x y texts answers a)
  all_signed signs signs_renewed one other (Reconnecting x) (Reconnecting y) texts answers a =
      each_as signs_renewed (SignsAsAny signs signs_renewed) Reconnecting (λ x text answer y step. step) x texts answers
      y (other x y texts answers a)
  all_signed signs signs_renewed one other _ _ texts answers a = absurd a

  pub all_sent : (sent : S → List (List ℕ) → S → Type 0) (sent_renewed : K → List (List ℕ) → K → Type 0)
      → ((x y : S) (texts : List (List ℕ)) (answers : List (Result (List ℕ) SignerFault))
      (outstanding : List (List ℕ)) → awaits x texts answers outstanding y → sent x (texts ++ outstanding) y)
      → ((x y : K) (texts : List (List ℕ)) (answers : List (Result (List ℕ) SignerFault))
      (outstanding : List (List ℕ)) → awaits_renewed x texts answers outstanding y
      → sent_renewed x (texts ++ outstanding) y)
      → (x y : AnySigner S K) (texts : List (List ℕ)) (answers : List (Result (List ℕ) SignerFault))
      (outstanding : List (List ℕ)) → AwaitsAsAny awaits awaits_renewed x texts answers outstanding y
      → SendsAsAny sent sent_renewed x (texts ++ outstanding) y
  all_sent sent sent_renewed one other (Keyed x) (Keyed y) texts answers outstanding a = a.went_out
  all_sent sent sent_renewed one other (Session x) (Session y) texts answers outstanding a =
      one x y texts answers outstanding a
  all_sent sent sent_renewed one other (Reconnecting x) (Reconnecting y) texts answers outstanding a =
      other x y texts answers outstanding a
  all_sent sent sent_renewed one other _ _ texts answers outstanding a = absurd a
