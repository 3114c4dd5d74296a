-- A calibration and a hold are steps of the machine.
use Rattle.std.proofs.Common.{◌≡◌, ℕ, cond, Bool, true, false, [], ◌∷◌, ◌++◌, Option, Some, None, Ok, Err, refl}
use Rattle.std.proofs.Common.{sym}
use Rattle.std.proofs.Common.{ap, ◌∙◌, subst, inl, inr, Result}
use Rattle.std.specs.{Prelude.MatchResult, Result.IsErrAnd}
use Rattle.book.specs.{declared.standing.Standing.Ghosts, History.Entry, History.History, Sound.Fits, Entries.Appends}
use Rattle.book.specs.{Stands.Stands, Stands.LeavesAsBefore, declared.fault.StoreFault.StoreFault}
use Rattle.book.specs.declared.fault.StoreFault.TheVariants as store
use Rattle.desk.specs.Outcome.{Call, Fine, Outcome, Cause, cause_of}
use Rattle.desk.specs.Command.{Setting, Command, Refused}
use Rattle.desk.specs.Effects.{Effect, only, unless, fault_of, numbered}
use Rattle.desk.specs.auxiliary.Obstacles.{adding}
use Rattle.desk.specs.CallContract.{StepsBy, MayBeLeft, IsBlamed, IsExcused, no_signer, committed}
use Rattle.desk.specs.{Fit.IsFit, Outcome.faults_after, Outcome.all_fine}
use Rattle.desk.specs.{MachineStep.HasEffect, MachineStep.IsMet, declared.obstacle.Obstacle.Obstacle}
use Rattle.desk.specs.declared.fault.Fault.TheVariants as fault
use Rattle.desk.specs.declared.obstacle.Obstacle.TheVariants as obstacle
use Rattle.desk.proofs.stamps.Beginnings.{one_in_doubt}

-- what a command does that enters one entry, unless the history turns it back
abbrev pub entering : Entry → ℕ → Option Cause → Bool → Effect
entering entry number refused turned = unless refused (cond turned (only (Refused fault.Store)) (numbered entry number))

-- the command is such a one
pub record Enters (s : Setting) (c : Command) (entry : Entry) (numbers : History → ℕ) (turns : History → Bool)
    : Type 0 where
  pub has : (o : Outcome) (b : History) (e : Effect) → e ≡ entering entry (numbers b) (cause_of o.adding) (turns b)
      → HasEffect s c o b e
  pub fits : (b : History) → IsMet c b → Fits entry b
  pub made : (call : Call) → IsFit c (record (all_fine (Ok [])) { adding = call })

-- the history doesn't turn it back
unturned : (t : Bool) → (t ≡ true → ⊥) → t ≡ false
unturned true free = absurd (free refl)
unturned false free = refl

-- the commit is refused by this cause
refused_as : {B : Type 0} (g : Ghosts B) (s : Setting) (c : Command) (entry : Entry) (numbers : History → ℕ)
    (turns : History → Bool) (old new : B) (o : Outcome) (cause : Cause) → Enters s c entry numbers turns
    → cause_of o.adding ≡ Some cause → cause_of (committed o).adding ≡ None
    → (o.adding ≡ Fine → o.sealing ≡ Fine → ⊥)
    → IsFit c o → IsBlamed g c o old new (Refused (fault_of cause))
    → g.fault_count new ≡ faults_after o (g.fault_count old)
    → (f : StoreFault) → Appends {A = ℕ} g (entry ∷ []) old new (Err f)
    → (g.honest new → (b : History) → Stands g b old → turns b ≡ true → LeavesAsBefore g old new)
    → StepsBy g no_signer s c o old new (Refused (fault_of cause))
refused_as g s c entry numbers turns old new o cause enters why answered was_refused fits blamed counted f a before =
    record {
      fits = fits;
      counted = counted;
      signer = tt;
      blames = blamed;
      opened = λ honest. tt;
      steps = λ honest b stands met. record {
        effect = only (Refused (fault_of cause));
        has = enters.has o b (only (Refused (fault_of cause))) (ap (λ x. entering entry (numbers b) x (turns b)) (sym why));
        says = refl;
        moves = refl;
        stands = a.err b stands;
        left = λ left r.
            let doubt : (t : Bool) → turns b ≡ t → MayBeLeft g s c o b old (only (Refused (fault_of cause))) left = elim [
              | true ↦ λ e. inl (refl, before honest b stands e left r)
              | false ↦ λ e. elim (a.crash honest left r) [
                | inl left ↦ inl (refl, left)
                | inr adds ↦ inr (inr (record {
                  refused = was_refused;
                  doubted = numbered entry (numbers b);
                  has = enters.has (committed o) b (numbered entry (numbers b))
                      (sym (ap (λ x. entering entry (numbers b) x (turns b)) answered
                      ∙ ap (λ t. entering entry (numbers b) None t) e));
                  holds = subst (λ es. g.holds left (es ++ b)) (sym (one_in_doubt o.adding entry))
                      (adds b stands (enters.fits b met, tt));
                }))
              ]
            ] in doubt (turns b) refl;
      };
    }

-- the store turns it back
turned_back : {B : Type 0} (g : Ghosts B) (s : Setting) (c : Command) (entry : Entry) (numbers : History → ℕ)
    (turns : History → Bool) (old new : B) → Enters s c entry numbers turns
    → Appends {A = ℕ} g (entry ∷ []) old new (Err store.Backwards)
    → (g.honest new → (b : History) → Stands g b old → turns b ≡ true)
    → IsExcused g c old new
    → (g.honest new → (b : History) → Stands g b old → turns b ≡ true → LeavesAsBefore g old new)
    → StepsBy g no_signer s c (all_fine (Ok [])) old new (Refused fault.Store)
turned_back g s c entry numbers turns old new enters a turned excused before = record {
  fits = enters.made Fine;
  counted = a.faults;
  signer = tt;
  blames = inr excused;
  opened = λ honest. tt;
  steps = λ honest b stands met. record {
    effect = only (Refused fault.Store);
    has = enters.has (all_fine (Ok [])) b (only (Refused fault.Store))
        (sym (ap (λ t. entering entry (numbers b) None t) (turned honest b stands)));
    says = refl;
    moves = refl;
    stands = a.err b stands;
    left = λ left r. inl (refl, before honest b stands (turned honest b stands) left r);
  };
}

-- a refusal of the store's as what stands in the way
pub adding_is : (r : Result ℕ StoreFault) (told : Result ℕ Obstacle)
    → MatchResult r (λ number. told ≡ Ok number) (λ f. IsErrAnd told (λ x. x ≡ obstacle.Adding f)) → told ≡ adding r
adding_is (Ok number) told h = h
adding_is (Err f) (Err x) h = ap Err h
adding_is (Err f) (Ok number) h = absurd h
