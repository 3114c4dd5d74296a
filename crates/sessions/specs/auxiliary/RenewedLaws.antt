-- What the trait of signers asks of one whose session is opened anew. Proofs, no definitions.
use Rattle.std.specs.Prelude.{◌≡◌, ℕ, List, [], Option, Result, refl}
use Rattle.std.proofs.Common.{sym, subst, arith}
use Rattle.cms.specs.{Signer.SignsEach, declared.signer.SignerFault.SignerFault}
use Rattle.sessions.specs.ReconnectingSigner.{ReconnectingState, SignsRenewed, SendsRenewed, Stands, AwaitsRenewed}
use Rattle.sessions.specs.ReconnectingSigner.{nothing}
use Rattle.sessions.specs.ReconnectingSigner.{still, taken, sent, gone}

pub sends_nothing : {S O : Type 0} (goes : S → List (List ℕ) → S → Type 0) (fresh : S → Type 0)
    (opens : O → Option S → O → Type 0) (signed : O → O → Type 0) (loses : O → S → O → Type 0)
    (x : ReconnectingState S O) (texts : List (List ℕ)) → SendsRenewed goes fresh opens signed loses x texts x
sends_nothing goes fresh opens signed loses x texts = nothing x texts x refl refl

-- with nothing outstanding it is as it would be
as_it_is : {S O : Type 0} (signs : S → List ℕ → Result (List ℕ) SignerFault → S → Type 0)
    (is_ahead : S → List (List ℕ) → S → Type 0) (fresh : S → Type 0) (as_if now : ReconnectingState S O)
    → Stands signs is_ahead fresh as_if [] now → now ≡ as_if
as_it_is signs is_ahead fresh as_if now (still same none lost) = same
as_it_is signs is_ahead fresh as_if now (taken session is kept none fine some) = absurd (omega (arith, some))
as_it_is signs is_ahead fresh as_if now (sent before after is ahead kept many fine some) =
    absurd (omega (arith, some))
as_it_is signs is_ahead fresh as_if now (gone fails left none lost some) = absurd (omega (arith, some))

pub all_signed : {S O : Type 0} (signs : S → List ℕ → Result (List ℕ) SignerFault → S → Type 0)
    (is_ahead : S → List (List ℕ) → S → Type 0) (fresh : S → Type 0)
    (goes : ReconnectingState S O → List (List ℕ) → ReconnectingState S O → Type 0) (x y : ReconnectingState S O)
    (texts : List (List ℕ)) (answers : List (Result (List ℕ) SignerFault))
    → AwaitsRenewed signs is_ahead fresh goes x texts answers [] y
    → SignsEach (SignsRenewed signs fresh) x texts answers y
all_signed signs is_ahead fresh goes x y texts answers awaits =
    subst (λ z. SignsEach (SignsRenewed signs fresh) x texts answers z)
    (sym (as_it_is signs is_ahead fresh awaits.as_if y awaits.stands)) awaits.signed
