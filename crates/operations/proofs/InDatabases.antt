-- What is done in a database that is opened and closed again, and at a desk over it, where it is answered, and where it
-- is refused.
use Rattle.std.proofs.Common.{◌≡◌, ◌⊎◌, Result, Ok, Err, IfOk, IfErr, inl, inr, subst, sym}
use Rattle.std.specs.Prelude.{OnErr}
use Rattle.book.specs.declared.fault.StoreFault.TheVariants.{Backwards}
use Rattle.book.specs.{declared.fault.StoreFault.StoreFault, declared.standing.Standing.Ghosts}
use Rattle.desk.specs.{CallContract.DeskValue, Command.Setting}
use Rattle.operations.specs.Visits.{IsUnopened, IsUnvisited, IsVisited}
use Rattle.operations.specs.{DatabaseFaults.IsOpeningFault, declared.fault.OperationFault.OperationFault}

-- one was opened, this was done to it, and what that left was closed
abbrev IsDoneIn : {B : Type 0} → (Opens Closes : B → Type 0) → (B → B → Type 0) → Type 0
IsDoneIn {B} Opens Closes Does = (opened : B) × Opens opened × ((left : B) × Does opened left × Closes left)

-- what is said of an answer, where there is one
pub answered_in : {B : Type 0} (Opens Closes : B → Type 0) {A E : Type 0} (r : Result A E) (P : A → B → B → Type 0)
    (Q : B → B → Type 0) → IsDoneIn Opens Closes (λ opened left. IfOk r (λ a. P a opened left) × Q opened left)
    → IfOk r (λ a. IsDoneIn Opens Closes (P a))
answered_in Opens Closes (Ok a) P Q moved = (moved.0, moved.1, (moved.2.0, moved.2.1.0, moved.2.2))
answered_in Opens Closes (Err e) P Q moved = tt

-- and of a refusal
pub refused_in : {B : Type 0} (Opens Closes : B → Type 0) {A E : Type 0} (r : Result A E) (P : B → B → Type 0)
    (Q : E → B → B → Type 0) (Other : E → Type 0)
    → IsDoneIn Opens Closes (λ opened left. P opened left × IfErr r (λ e. Q e opened left))
    → IfErr r (λ e. Other e ⊎ IsDoneIn Opens Closes (Q e))
refused_in Opens Closes (Ok a) P Q Other moved = tt
refused_in Opens Closes (Err e) P Q Other moved = inr (moved.0, moved.1, (moved.2.0, moved.2.1.1, moved.2.2))

-- what holds in any case holds of each refusal
pub anyway : {A E : Type 0} (r : Result A E) (Other : E → Type 0) (P : Type 0) → P → IfErr r (λ e. Other e ⊎ P)
anyway (Ok a) Other P holds = tt
anyway (Err e) Other P holds = inr holds

abbrev refused_as : {A E : Type 0} → E → Result A E
refused_as fault = Err fault

-- an opening isn't refused as a calibration before the latest is
pub not_backwards : {A : Type 0} (fault : StoreFault) → IsOpeningFault fault → refused_as {A = A} fault ≡ Err Backwards
    → ⊥
not_backwards fault (inl memory) is = cc (memory, is)
not_backwards fault (inr (inl database)) is = cc (database, is)
not_backwards fault (inr (inr foreign)) is = cc (foreign, is)

module _ {B X : Type 0} (g : Ghosts B) (setting : Setting) (Reaches Leaves : X → Type 0) (old new : B) (before after : X)
  where
    -- what was done with this signer was done with one that was reached so
    pub visited_as : {A E : Type 0} (r : Result A E)
        (Does : A → (desk desk' : DeskValue B) (signer signer' : X) → Type 0) → Reaches before → Leaves after
        → IfOk r (λ a. IsVisited g setting (λ signer. signer ≡ before) (λ signer. signer ≡ after) old new (Does a))
        → IfOk r (λ a. IsVisited g setting Reaches Leaves old new (Does a))
    visited_as (Ok a) Does reached left visited = record {
      desk = visited.desk;
      opens = visited.opens;
      signer = visited.signer;
      reached = subst Reaches (sym visited.reached) reached;
      signer_after = visited.signer_after;
      signer_left = subst Leaves (sym visited.signer_left) left;
      desk_after = visited.desk_after;
      left = visited.left;
      done = visited.done;
    }
    visited_as (Err e) Does reached left visited = tt

    -- and where nothing was done
    pub unvisited_as : {A : Type 0} (r : Result A OperationFault) (Refuses : OperationFault → Type 0)
        → Reaches before → Leaves after → OnErr r (after ≡ before) → IfErr r (IsUnopened g setting old new)
        → IfErr r (IsUnvisited g setting Reaches Leaves Refuses old new)
    unvisited_as (Ok a) Refuses reached left same unopened = tt
    unvisited_as (Err fault) Refuses reached left same unopened = inr ((before, reached, subst Leaves same left), unopened)
