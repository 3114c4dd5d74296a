-- Calls whose refusals are wrapped.
use Rattle.std.proofs.Common.{◌≡◌, Result, Ok, Err, refl, ap}
use Rattle.std.specs.{Prelude.MatchResult, Result.IsErrAnd}

-- what is told of an answer
abbrev pub wrapped : {T E D : Type 0} → (E → D) → Result T E → Result T D
wrapped wrap (Ok x) = Ok x
wrapped wrap (Err e) = Err (wrap e)

abbrev pub IsWrapped : {T E D : Type 0} → (E → D) → Result T E → Result T D → Type 0
IsWrapped wrap r told = MatchResult r (λ x. told ≡ Ok x) (λ e. IsErrAnd told (λ d. d ≡ wrap e))

pub wrapped_is : {T E D : Type 0} (wrap : E → D) (r : Result T E) (told : Result T D) → IsWrapped wrap r told
    → told ≡ wrapped wrap r
wrapped_is wrap (Ok x) told h = h
wrapped_is wrap (Err e) (Err d) h = ap Err h
wrapped_is wrap (Err e) (Ok x) h = absurd h

-- what was answered where an answer is told
pub call_ok : {T E D : Type 0} (wrap : E → D) (r : Result T E) (x : T) → IsWrapped wrap r (Ok x) → r ≡ Ok x
call_ok wrap (Ok y) x h = cc
call_ok wrap (Err e) x h = absurd h

-- and where a refusal is
pub call_err : {T E D : Type 0} (wrap : E → D) (r : Result T E) (d : D) → IsWrapped wrap r (Err d)
    → (e : E) × (r ≡ Err e) × (d ≡ wrap e)
call_err wrap (Ok y) d h = cc
call_err wrap (Err e) d h = (e, refl, h)
