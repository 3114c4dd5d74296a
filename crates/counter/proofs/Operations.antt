-- What holds of an operation's answer, and of its refusal, as the program tells it.
use Rattle.std.proofs.Common.{◌≡◌, Result, Ok, Err, IfOk, refl, subst, sym}
use Rattle.std.specs.Prelude.{IfErr, MatchResult}

module _ {T E F : Type 0} (fault_of : E → F) where
  pub told : (done : Result T E) (result : Result T F) (P : T → Type 0)
      → MatchResult done (λ answer. result ≡ Ok answer) (λ refused. result ≡ Err (fault_of refused))
      → IfOk done P → IfOk result P
  told (Ok answer) result P is holds = subst (λ r. IfOk r P) (sym is) holds
  told (Err refused) result P is holds = subst (λ r. IfOk r P) (sym is) tt

  pub told_refusal : (done : Result T E) (result : Result T F) (P : E → Type 0)
      → MatchResult done (λ answer. result ≡ Ok answer) (λ refused. result ≡ Err (fault_of refused))
      → IfErr done P → IfErr result (λ fault. (refused : E) × P refused × (fault ≡ fault_of refused))
  told_refusal (Ok answer) result P is holds =
      subst (λ r. IfErr r (λ fault. (refused : E) × P refused × (fault ≡ fault_of refused))) (sym is) tt
  told_refusal (Err refused) result P is holds =
      subst (λ r. IfErr r (λ fault. (refused : E) × P refused × (fault ≡ fault_of refused))) (sym is)
      (refused, holds, refl)

pub both : {T E : Type 0} (done : Result T E) (P Q : T → Type 0) → IfOk done P → IfOk done Q
    → IfOk done (λ answer. P answer × Q answer)
both (Ok answer) P Q one other = (one, other)
both (Err refused) P Q one other = tt

-- that it is the answer
pub as_answered : {T E : Type 0} (done : Result T E) (P : T → Type 0) → IfOk done P
    → IfOk done (λ answer. P answer × (done ≡ Ok answer))
as_answered (Ok answer) P holds = (holds, refl)
as_answered (Err refused) P holds = tt
