-- How a start of serving is refused, and how serving ends, as the program tells it.
use Rattle.std.proofs.Common.{◌≡◌, ◌⊎◌, Result, Ok, Err, inl, inr, refl, subst, sym}
use Rattle.std.specs.Prelude.{MatchResult, OnOk}
use Rattle.console.specs.declared.fault.InputFault.TheVariants.{Failed}
use Rattle.console.specs.{Fault.IsSettingFault, declared.fault.Fault.Fault, declared.fault.Fault.TheVariants.Input}
use Rattle.counter.specs.Fault.{fault_of_operation}
use Rattle.operations.specs.DatabaseFaults.{IsServingFault, IsStartingFault, IsUnheard}
use Rattle.operations.specs.declared.fault.OperationFault.{OperationFault}
use Rattle.operations.specs.declared.fault.OperationFault.TheVariants as operation

abbrev refused_as : {A : Type 0} → Fault → Result A Fault
refused_as fault = Err fault

-- a file isn't refused as a stream or a clock that fails
pub file_not_failed : {A : Type 0} (fault : Fault) → IsSettingFault fault
    → refused_as {A = A} fault ≡ Err (Input Failed) → ⊥
file_not_failed fault (inl (inl file)) is = cc (file, is)
file_not_failed fault (inl (inr (inl memory))) is = cc (memory, is)
file_not_failed fault (inl (inr (inr (refusal, cms)))) is = cc (cms, is)
file_not_failed fault (inr (refusal, policy)) is = cc (policy, is)

-- nor is a start
pub start_not_failed : {A : Type 0} (refused : OperationFault) → IsStartingFault refused ⊎ IsUnheard refused
    → refused_as {A = A} (fault_of_operation refused) ≡ Err (Input Failed) → ⊥
start_not_failed operation.Clock (inl starting) is = starting
start_not_failed operation.Clock (inr unheard) is = cc unheard
start_not_failed _ refused is = cc is

-- a start that is refused so is one of serving
pub start_is_serving : (refused : OperationFault) → IsStartingFault refused ⊎ IsUnheard refused → IsServingFault refused
start_is_serving (operation.Store fault) (inl starting) = starting
start_is_serving (operation.Store fault) (inr unheard) = absurd (cc unheard)
start_is_serving (operation.Desk fault) (inl starting) = starting
start_is_serving (operation.Desk fault) (inr unheard) = absurd (cc unheard)
start_is_serving _ refused = tt

abbrev IsTold : Result (Unit {0}) OperationFault → Result (Unit {0}) Fault → Type 0
IsTold done result =
    MatchResult done (λ answer. result ≡ Ok answer) (λ refused. result ≡ Err (fault_of_operation refused))

abbrev IsDone : Result (Unit {0}) OperationFault → Type 0
IsDone done = done ≡ Ok tt

-- where it is told that all is done, it is
pub told_done : (done : Result (Unit {0}) OperationFault) (result : Result (Unit {0}) Fault) → IsTold done result
    → OnOk result (IsDone done)
told_done (Ok answer) result is = subst (λ r. OnOk r (IsDone (Ok answer))) (sym is) refl
told_done (Err refused) result is = subst (λ r. OnOk r (IsDone (Err refused))) (sym is) tt

-- and where a failure is told, the clock failed
pub told_failed : (done : Result (Unit {0}) OperationFault) (result : Result (Unit {0}) Fault) → IsTold done result
    → result ≡ Err (Input Failed) → done ≡ Err operation.Clock
told_failed (Err operation.Clock) result is failed = refl
told_failed _ result is failed = absurd (cc (is, failed))
