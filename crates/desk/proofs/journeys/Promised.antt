-- What is promised of each command is kept.
use Rattle.std.proofs.Common.{subst}
use Rattle.desk.specs.Command.{Setting, Command}
use Rattle.desk.specs.{Effects.Effect, MachineStep.HasEffect, Outcome.Outcome, Promises.KeepsPromises}
use Rattle.book.specs.{History.History, Sound.IsSound}
use Rattle.desk.proofs.journeys.Given.{asked_is_reserved, begun_is_reserved}
use Rattle.desk.proofs.journeys.Installation.{in_force_kept, brought_in_force}
use Rattle.desk.proofs.documents.Sighted.{shows_exactly}
use Rattle.desk.proofs.{journeys.Agreement.step_agrees, journeys.Others.step_stays, journeys.Planned.of_plan}
use Rattle.desk.proofs.{journeys.SameEffect.effect_same, journeys.Sound.TextLaws, journeys.Whole.step_sound}

pub keeps_promises : TextLaws → (s : Setting) (c : Command) (o : Outcome) (b : History) (e : Effect) → IsSound b
    → HasEffect s c o b e → KeepsPromises s c o b e
keeps_promises laws s c o b e sound h = record {
  asked = λ text. asked_is_reserved s c o b e text h;
  begun = λ p. begun_is_reserved s c o b e p h;
  of_plan = of_plan laws s c o b e sound h;
  shows = shows_exactly s c o b e sound h;
  isolated = λ account own other fine agree. record {
    has = effect_same account s c o b other e agree own h;
    agree = step_agrees account s c o b other e sound fine agree own h;
  };
  undisturbed = λ account other. step_stays account s c o b e sound other h;
  whole = λ proper nameable full met. step_sound laws s c o e b proper nameable full met h;
  in_force = in_force_kept s c o b e h;
  brought = λ next same. brought_in_force s next o b e (subst (λ x. HasEffect s x o b e) same h);
}
