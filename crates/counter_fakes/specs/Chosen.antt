-- Calls that are chosen to fail.
use Rattle.std.specs.Prelude.{◌≡◌, ℕ, List, Contains, Result, Err}
use Rattle.std.specs.Hash.DefaultHasher.{wrapping_add}
use Rattle.cms.specs.{declared.signer.SignerFault.SignerFault, declared.signer.SignerFault.TheVariants.Failed}
use Rattle.counter_fakes.specs.declared.signer.FailingSigner.{FailingSigner}

-- A chosen call fails, and the signer behind isn't asked; any other call is that signer's. Calls are counted from 1.
pub record SignsUnlessChosen {S : Type 0} (signs : S → List ℕ → Result (List ℕ) SignerFault → S → Type 0)
    (before : FailingSigner S) (text : List ℕ) (answer : Result (List ℕ) SignerFault)
    (after : FailingSigner S) : Type 0 where
  pub counted : after.calls ≡ wrapping_add before.calls 1
  pub same_choice : after.chosen ≡ before.chosen
  pub fails : Contains before.chosen.items (wrapping_add before.calls 1) → answer ≡ Err Failed
  pub spares : Contains before.chosen.items (wrapping_add before.calls 1) → after.signer ≡ before.signer
  pub asks : (Contains before.chosen.items (wrapping_add before.calls 1) → ⊥)
      → signs before.signer text answer after.signer
