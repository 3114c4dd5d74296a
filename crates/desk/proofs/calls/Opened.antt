-- What is proved of a desk's parts is said of the desk.
use Rattle.std.proofs.Common.{◌≡◌, ◌∙◌, [], Result, Ok, Err, refl, sym, ap, subst}
use Rattle.std.specs.Result.{IsErrAnd}
use Rattle.book.specs.{declared.standing.Standing.Ghosts, History.History, Sound.IsSound}
use Rattle.desk.specs.Command.{InForce, Setting, Command, Succeed, Answer, Done, Refused, setting_after}
use Rattle.desk.specs.auxiliary.Obstacles.{fault_with, hindered, outcome_with, told_with}
use Rattle.desk.specs.declared.obstacle.Obstacle.{Obstacle}
use Rattle.desk.specs.CallContract.{DeskValue, desk_of, SignerStep, no_signer, StepsBy, IsStepBy, IsStep, HasOpened}
use Rattle.desk.specs.{Answers.answered, declared.fault.Fault.Fault}
use Rattle.desk.specs.{Effects.Effect, Outcome.Outcome, Outcome.all_fine, Promises.KeepsPromises, MachineStep.HasEffect}
use Rattle.desk.proofs.calls.Wrapped.{IsWrapped, wrapped, wrapped_is}

-- what is promised of each command
abbrev pub ArePromises : Type 0
ArePromises = (s : Setting) (c : Command) (o : Outcome) (b : History) (e : Effect) → IsSound b → HasEffect s c o b e
    → KeepsPromises s c o b e

pub promised : {B : Type 0} (g : Ghosts B) → ArePromises → (t : SignerStep) (s : Setting) (c : Command) (o : Outcome)
    (old new : B) (answer : Answer) → StepsBy g t s c o old new answer → IsStepBy g t s c o old new answer
promised g promises t s c o old new answer by = record {
  step = by;
  promises = λ honest b stands met.
      let h = by.steps honest b stands met in promises s c o b h.effect stands.sound h.has;
}

-- the setting stays under the command, whatever is answered
abbrev pub StaysUnder : Command → Type 0
StaysUnder c = (s : Setting) (a : Answer) → setting_after s c a ≡ s

pub steps_opened : {B : Type 0} (g : Ghosts B) → ArePromises → (t : SignerStep) (seen now : DeskValue B)
    (one other : Command) (o : Outcome) (new : B) (said says : Answer) → StaysUnder other → seen ≡ now → one ≡ other
    → says ≡ said → StepsBy g t seen.setting one o seen.store new said
    → IsStep g t other now (record { setting = seen.setting; store = new }) says
steps_opened g promises t seen now one other o new said says stays same command answer step = record {
  setting = ap (λ d. d.setting) same ∙ sym (stays now.setting says);
  outcome = o;
  by = promised g promises t now.setting other o now.store new says
      (subst (λ d. StepsBy g t d.setting other o d.store new says) same
      (subst (λ c. StepsBy g t seen.setting c o seen.store new says) command
      (subst (λ a. StepsBy g t seen.setting one o seen.store new a) (sym answer) step)));
}

answered_as : {A : Type 0} (as_answer : A → Answer) (r : Result A Obstacle)
    → answered as_answer (wrapped fault_with r) ≡ told_with as_answer r
answered_as as_answer (Ok x) = refl
answered_as as_answer (Err x) = refl

-- what a part answers is told, and its obstacle as a fault
pub steps_told : {A B : Type 0} (g : Ghosts B) → ArePromises → (seen now : DeskValue B) (c : Command)
    (as_answer : A → Answer) (r : Result A Obstacle) (told : Result A Fault) (new : B) → StaysUnder c → seen ≡ now
    → IsWrapped fault_with r told
    → StepsBy g no_signer seen.setting c (outcome_with r) seen.store new (told_with as_answer r)
    → IsStep g no_signer c now (record { setting = seen.setting; store = new }) (answered as_answer told)
steps_told g promises seen now c as_answer r told new stays same is step =
    steps_opened g promises no_signer seen now c c (outcome_with r) new (told_with as_answer r)
    (answered as_answer told) stays same refl
    (ap (answered as_answer) (wrapped_is fault_with r told is) ∙ answered_as as_answer r) step

-- an opening, and one that is refused
pub opens_by : {B : Type 0} (g : Ghosts B) → ArePromises → (s : Setting) (old new : B)
    → StepsBy g no_signer s (Succeed s.in_force) (all_fine (Ok [])) old new Done
    → HasOpened g s old (Ok (desk_of s new))
opens_by g promises s old new step = (
  refl,
  record {
    setting = refl;
    outcome = all_fine (Ok []);
    by = promised g promises no_signer s (Succeed s.in_force) (all_fine (Ok [])) old new Done step;
  },
)

pub opening_refused : {B : Type 0} (g : Ghosts B) → ArePromises → (s : Setting) (x : Obstacle) (f : Fault) (old new : B)
    → f ≡ fault_with x → StepsBy g no_signer s (Succeed s.in_force) (hindered x) old new (Refused (fault_with x))
    → HasOpened g s old (Err (f, new))
opening_refused g promises s x f old new same step = record {
  setting = refl;
  outcome = hindered x;
  by = promised g promises no_signer s (Succeed s.in_force) (hindered x) old new (Refused f)
      (subst (λ k. StepsBy g no_signer s (Succeed s.in_force) (hindered x) old new (Refused k)) (sym same) step);
}

-- a succession of a desk that is open
pub succeeds_by : {B : Type 0} (g : Ghosts B) → ArePromises → (seen now : DeskValue B) (k : InForce) (new : B)
    (after : Setting) → seen ≡ now → after ≡ record seen.setting { in_force = k }
    → StepsBy g no_signer seen.setting (Succeed k) (all_fine (Ok [])) seen.store new Done
    → IsStep g no_signer (Succeed k) now (desk_of after new) Done
succeeds_by g promises seen now k new after same brought step = record {
  setting = brought ∙ ap (λ d. record d.setting { in_force = k }) same;
  outcome = all_fine (Ok []);
  by = promised g promises no_signer now.setting (Succeed k) (all_fine (Ok [])) now.store new Done
      (subst (λ d. StepsBy g no_signer d.setting (Succeed k) (all_fine (Ok [])) d.store new Done) same step);
}

pub succession_refused : {B : Type 0} (g : Ghosts B) → ArePromises → (seen now : DeskValue B) (k : InForce) (x : Obstacle)
    (f : Fault) (new : B) → seen ≡ now → f ≡ fault_with x
    → StepsBy g no_signer seen.setting (Succeed k) (hindered x) seen.store new (Refused (fault_with x))
    → IsStep g no_signer (Succeed k) now (desk_of seen.setting new) (Refused f)
succession_refused g promises seen now k x f new same told step = record {
  setting = ap (λ d. d.setting) same;
  outcome = hindered x;
  by = promised g promises no_signer now.setting (Succeed k) (hindered x) now.store new (Refused f)
      (subst (λ d. StepsBy g no_signer d.setting (Succeed k) (hindered x) d.store new (Refused f)) same
      (subst (λ j. StepsBy g no_signer seen.setting (Succeed k) (hindered x) seen.store new (Refused j)) (sym told) step));
}

-- a refusal of the desk's is answered as the fault that it is
pub refused_as : {A : Type 0} (as_answer : A → Answer) (r : Result A Fault) (fault : Fault)
    → IsErrAnd r (λ f. f ≡ fault) → answered as_answer r ≡ Refused fault
refused_as as_answer (Err f) fault h = ap Refused h
refused_as as_answer (Ok a) fault h = absurd h
