-- Calls one after the other are a run of the machine.
use Rattle.std.proofs.Common.{◌≡◌, ℕ, ◌+◌, ◌<◌, length, get_or, take, map, List, [], ◌∷◌, ◌++◌, Option, Some, Ok, Err}
use Rattle.std.proofs.Common.{refl, sym, ◌∙◌, ap, subst, inl, inr}
use Rattle.std.proofs.{Common.Result, lemmas.List.take_more, lemmas.List.map-append}
use Rattle.std.specs.Prelude.{IfOk, OnOk}
use Rattle.book.specs.{declared.standing.Standing.Ghosts, History.History, Readers.Viewer, Sound.IsSound, Stands.Stands}
use Rattle.cms.specs.{Signer.count_after, declared.signer.SignerFault.SignerFault}
use Rattle.desk.specs.Command.{InForce, Setting, Command, Succeed, Answer, setting_after}
use Rattle.desk.specs.auxiliary.Obstacles.{hindered, outcome_with, told_with}
use Rattle.desk.specs.CallContract.{StepsBy, MayBeLeft, IsBlamed, IsOpened, no_signer, with_signer}
use Rattle.desk.specs.RunContract.{Obeys, WasOpen, AreSteps, ArePromised, MayBeLeftBy, AreCommandsOfOthers, OneConcerns}
use Rattle.desk.specs.{Outcome.Outcome, Calls.settings_view, Calls.or_before, Calls.succeeded_as, Effects.Effect}
use Rattle.desk.specs.{MachineStep.HasEffect, MachineStep.Moves, Promises.KeepsPromises, RunContract.RunsBy}
use Rattle.desk.specs.{RunContract.told_by, declared.settings.Settings.Settings, declared.obstacle.Obstacle.Obstacle}
use Rattle.desk.specs.{MachineRuns.IsProper, MachineRuns.Told, MachineRuns.Runs, MachineRuns.after, Laws.AreMet}
use Rattle.desk.specs.{Laws.Concerns, Laws.Continues, Laws.StaysFor, Succession.HasSubject, Viewers.viewer_in}
use Rattle.desk.specs.declared.obstacle.Obstacle.TheVariants as obstacle
use Rattle.desk.proofs.journeys.Whole.{continued, runs_alike}
use Rattle.desk.proofs.{journeys.Sound.TextLaws, journeys.Acknowledged.readers_along}
use Rattle.desk.proofs.{journeys.FallingSerials.given_in_order, journeys.KeptPromises.journeys_have_properties}
use Rattle.desk.proofs.{calls.Opened.StaysUnder, journeys.Others.step_stays, journeys.Promised.keeps_promises}

-- the policy file stays
pub file_stays : {B X : Type 0} (g : Ghosts B) (signs : X → List ℕ → Result (List ℕ) SignerFault → X → Type 0)
    (count : X → ℕ) (s : Setting) (cs : List Command) (os : List Outcome) (answers : List Answer) (old : B) (x : X)
    (s' : Setting) (new : B) (y : X) → AreSteps g signs count s cs os answers old x s' new y → s'.file ≡ s.file
file_stays g signs count s [] [] [] old x s' new y h = ap (λ k. k.file) h.0
file_stays g signs count s (c ∷ cs) (o ∷ os) (answer ∷ answers) old x s' new y h =
    file_stays g signs count (setting_after s c answer) cs os answers h.0 h.1 s' new y h.2.2
file_stays g signs count s [] [] (answer ∷ answers) old x s' new y h = absurd h
file_stays g signs count s [] (o ∷ os) answers old x s' new y h = absurd h
file_stays g signs count s (c ∷ cs) [] answers old x s' new y h = absurd h
file_stays g signs count s (c ∷ cs) (o ∷ os) [] old x s' new y h = absurd h

-- and so it is proper still
pub proper_still : (s s' : Setting) → IsProper s → s'.file ≡ s.file → HasSubject s'.in_force.identity → IsProper s'
proper_still s s' proper same subject =
    let file = subst (λ f. IsProper (record s { file = f })) (sym same) proper in record {
      some_accuracy = file.some_accuracy;
      most_accuracy = file.most_accuracy;
      policies = file.policies;
      identity = subject;
    }

-- a step that asks no signer, with a signer that stays as it is
pub with_resting : {B X : Type 0} (g : Ghosts B) (signs : X → List ℕ → Result (List ℕ) SignerFault → X → Type 0)
    (count : X → ℕ) (x : X) (s : Setting) (c : Command) (o : Outcome) (old new : B) (said says : Answer)
    → o.signing ≡ Ok [] → says ≡ said → StepsBy g no_signer s c o old new said
    → StepsBy g (with_signer signs count x x) s c o old new says
with_resting g signs count x s c o old new said says unasked same step = record {
  fits = step.fits;
  counted = step.counted;
  signer = subst (λ a. count x ≡ count_after a (count x)) (sym unasked) refl;
  blames = subst (IsBlamed g c o old new) (sym same) step.blames;
  opened = λ honest. subst (λ a. IsOpened g c a new) (sym same) (step.opened honest);
  steps = λ honest b stands met.
      let then = step.steps honest b stands met in
      record {
        effect = then.effect;
        has = then.has;
        says = same ∙ then.says;
        moves = subst (λ asked. Moves signs asked o.signing x x) (sym then.moves) refl;
        stands = then.stands;
        left = then.left;
      };
}

-- no signer is asked by what stands in the way of a call on deposits and rights
unsigned_by : (x : Obstacle) → (hindered x).signing ≡ Ok []
unsigned_by (obstacle.Denied f) = refl
unsigned_by (obstacle.Searching f) = refl
unsigned_by (obstacle.Looking f) = refl
unsigned_by obstacle.OutOfMemory = refl
unsigned_by (obstacle.Adding f) = refl

unsigned : {A : Type 0} (r : Result A Obstacle) → (outcome_with r).signing ≡ Ok []
unsigned (Ok a) = refl
unsigned (Err x) = unsigned_by x

-- a command's part, as which it is answered
pub obeyed_by : {A B X : Type 0} (g : Ghosts B) (signs : X → List ℕ → Result (List ℕ) SignerFault → X → Type 0)
    (count : X → ℕ) (x : X) (s : Setting) (c d : Command) (as_answer : A → Answer) (r : Result A Obstacle)
    (old new : B) (says : Answer) → StaysUnder c → ((a : Answer) → WasOpen g c a old) → d ≡ c
    → says ≡ told_with as_answer r
    → StepsBy g no_signer s c (outcome_with r) old new (told_with as_answer r)
    → Obeys g signs count s d old x s new x says
obeyed_by g signs count x s c d as_answer r old new says stays plain same is step = (
  (
    outcome_with r,
    subst (λ k. StepsBy g (with_signer signs count x x) s k (outcome_with r) old new says) (sym same)
        (with_resting g signs count x s c (outcome_with r) old new (told_with as_answer r) says (unsigned r) is step),
  ),
  sym (ap (λ k. setting_after s k says) same ∙ stays s says),
  λ honest. subst (λ k. WasOpen g k says old) (sym same) (plain says),
)

-- a succession
pub succeeded_after : (outcome : Result Settings Obstacle) (before : Settings) (k : InForce)
    → IfOk outcome (λ after. settings_view after ≡ record (settings_view before) { in_force = k })
    → settings_view (or_before outcome before)
    ≡ setting_after (settings_view before) (Succeed k) (told_with succeeded_as outcome)
succeeded_after (Ok after) before k h = h
succeeded_after (Err x) before k h = refl

was_open : {B : Type 0} (g : Ghosts B) (k : InForce) (r : Result Settings Obstacle) (old : B) → OnOk r (g.is_open old)
    → WasOpen g (Succeed k) (told_with succeeded_as r) old
was_open g k (Ok after) old opened = opened
was_open g k (Err x) old opened = tt

pub obeyed_succession : {B X : Type 0} (g : Ghosts B) (signs : X → List ℕ → Result (List ℕ) SignerFault → X → Type 0)
    (count : X → ℕ) (x : X) (s : Setting) (k : InForce) (d : Command) (r : Result Settings Obstacle)
    (old new : B) (says : Answer) (after : Setting) → d ≡ Succeed k → says ≡ told_with succeeded_as r
    → after ≡ setting_after s (Succeed k) (told_with succeeded_as r)
    → StepsBy g no_signer s (Succeed k) (outcome_with r) old new (told_with succeeded_as r)
    → (g.honest new → OnOk r (g.is_open old))
    → Obeys g signs count s d old x after new x says
obeyed_succession g signs count x s k d r old new says after same is brought step opened = (
  (
    outcome_with r,
    subst (λ c. StepsBy g (with_signer signs count x x) s c (outcome_with r) old new says) (sym same)
        (with_resting g signs count x s (Succeed k) (outcome_with r) old new (told_with succeeded_as r) says (unsigned r)
        is step),
  ),
  brought ∙ sym (ap (λ c. setting_after s c says) same ∙ ap (setting_after s (Succeed k)) is),
  λ honest. subst (λ c. WasOpen g c says old) (sym same)
      (subst (λ a. WasOpen g (Succeed k) a old) (sym is) (was_open g k r old (opened honest))),
)

-- the store was honest before, where it is after
pub honest_before : {B X : Type 0} (g : Ghosts B) (signs : X → List ℕ → Result (List ℕ) SignerFault → X → Type 0)
    (count : X → ℕ) (s : Setting) (cs : List Command) (os : List Outcome) (answers : List Answer) (old : B)
    (x : X) (s' : Setting) (new : B) (y : X)
    → AreSteps g signs count s cs os answers old x s' new y → g.honest new → g.honest old
honest_before g signs count s [] [] [] old x s' new y h honest = subst g.honest h.1 honest
honest_before g signs count s (c ∷ cs) (o ∷ os) (answer ∷ answers) old x s' new y h honest =
    (h.2.0 (honest_before g signs count (setting_after s c answer) cs os answers h.0 h.1 s' new y h.2.2 honest)).0
honest_before g signs count s [] [] (answer ∷ answers) old x s' new y h honest = absurd h
honest_before g signs count s [] (o ∷ os) answers old x s' new y h honest = absurd h
honest_before g signs count s (c ∷ cs) [] answers old x s' new y h honest = absurd h
honest_before g signs count s (c ∷ cs) (o ∷ os) [] old x s' new y h honest = absurd h

-- calls go on by one more
pub steps_go_on : {B X : Type 0} (g : Ghosts B) (signs : X → List ℕ → Result (List ℕ) SignerFault → X → Type 0)
    (count : X → ℕ) (s : Setting) (cs : List Command) (os : List Outcome) (answers : List Answer) (c : Command)
    (o : Outcome) (answer : Answer) (old : B) (x : X) (t : Setting) (mid : B) (z : X) (new : B) (y : X)
    → AreSteps g signs count s cs os answers old x t mid z → (g.honest new → g.honest mid)
    → StepsBy g (with_signer signs count z y) t c o mid new answer → (g.honest new → WasOpen g c answer mid)
    → AreSteps g signs count s (cs ++ (c ∷ [])) (os ++ (o ∷ [])) (answers ++ (answer ∷ [])) old x
    (setting_after t c answer) new y
steps_go_on g signs count s [] [] [] c o answer old x t mid z new y h honest step was = (
  new,
  y,
  (
    λ k. (subst g.honest h.1 (honest k), subst (λ m. WasOpen g c answer m) h.1 (was k)),
    subst (λ r. StepsBy g (with_signer signs count x y) r c o old new answer) h.0
        (subst (λ m. StepsBy g (with_signer signs count x y) t c o m new answer) h.1
        (subst (λ k. StepsBy g (with_signer signs count k y) t c o mid new answer) h.2 step)),
    (ap (λ r. setting_after r c answer) h.0, refl, refl),
  ),
)
steps_go_on g signs count s (d ∷ ds) (p ∷ ps) (a ∷ told) c o answer old x t mid z new y h honest step was = (
  h.0,
  h.1,
  (
    h.2.0,
    h.2.1,
    steps_go_on g signs count (setting_after s d a) ds ps told c o answer h.0 h.1 t mid z new y h.2.2 honest step was,
  ),
)
steps_go_on g signs count s [] [] (a ∷ told) c o answer old x t mid z new y h honest step was = absurd h
steps_go_on g signs count s [] (p ∷ ps) told c o answer old x t mid z new y h honest step was = absurd h
steps_go_on g signs count s (d ∷ ds) [] told c o answer old x t mid z new y h honest step was = absurd h
steps_go_on g signs count s (d ∷ ds) (p ∷ ps) [] c o answer old x t mid z new y h honest step was = absurd h

-- as a loop over the program's commands goes on: the item at the index comes next
pub steps_more : {A C B X : Type 0} (g : Ghosts B) (signs : X → List ℕ → Result (List ℕ) SignerFault → X → Type 0)
    (count : X → ℕ) (s : Setting) (f : A → Command) (h : C → Answer) (commands : List A) (i : ℕ) (item : A)
    (os : List Outcome) (told : List C) (answer : C) (now : List C) (o : Outcome) (old : B) (x : X)
    (t : Setting) (mid : B) (z : X) (s' : Setting) (new : B) (y : X) → i < length commands
    → item ≡ get_or commands i item → now ≡ told ++ (answer ∷ [])
    → AreSteps g signs count s (map f (take i commands)) os (map h told) old x t mid z
    → (g.honest new → g.honest mid) → StepsBy g (with_signer signs count z y) t (f item) o mid new (h answer)
    → s' ≡ setting_after t (f item) (h answer) → (g.honest new → WasOpen g (f item) (h answer) mid)
    → AreSteps g signs count s (map f (take (i + 1) commands)) (os ++ (o ∷ [])) (map h now) old x s' new y
steps_more g signs count s f h commands i item os told answer now o old x t mid z s' new y within is all before honest step after was =
    let one = map f (take i commands) in
    let longer : map f (take (i + 1) commands) ≡ one ++ (f item ∷ []) =
    ap (map f) (take_more commands i item within)
    ∙ (map-append f (take i commands) (get_or commands i item ∷ [])
    ∙ ap (λ v. one ++ (f v ∷ [])) (sym is)) in
    let answers : map h now ≡ map h told ++ (h answer ∷ []) =
    ap (map h) all ∙ map-append h told (answer ∷ []) in
    subst (λ cs. AreSteps g signs count s cs (os ++ (o ∷ [])) (map h now) old x s' new y) (sym longer)
    (subst (λ all_told. AreSteps g signs count s (one ++ (f item ∷ [])) (os ++ (o ∷ [])) all_told old x s' new y)
    (sym answers)
    (subst (λ r. AreSteps g signs count s (one ++ (f item ∷ [])) (os ++ (o ∷ [])) (map h told ++ (h answer ∷ [])) old x r
    new y) (sym after)
    (steps_go_on g signs count s one os (map h told) (f item) o (h answer) old x t mid z new y before honest step was)))

-- what is left after the first call and the others
left_after : {B : Type 0} (g : Ghosts B) (s : Setting) (c : Command) (cs : List Command) (o : Outcome)
    (os : List Outcome) (e : Effect) (b last : History) (old mid : B) (left : g.Left) → HasEffect s c o b e
    → (g.leaves mid left → MayBeLeft g s c o b old e left)
    → MayBeLeftBy g (setting_after s c e.says) cs os (after e b) mid last left
    → MayBeLeftBy g s (c ∷ cs) (o ∷ os) b old last left
left_after g s c cs o os e b last old mid left has step (inl same) =
    elim (step same.1) [
      | inl none ↦ inl (same.0 ∙ ap (λ added. added ++ b) none.0, none.1)
      | inr more ↦ elim more [
        | inl holds ↦ inr (inl (subst (λ y. g.holds left y) (sym same.0) holds))
        | inr doubt ↦ inr (inr (e, (has, inl (same.0, doubt))))
      ]
    ]
left_after g s c cs o os e b last old mid left has step (inr (inl holds)) = inr (inl holds)
left_after g s c cs o os e b last old mid left has step (inr (inr doubt)) = inr (inr (e, (has, inr doubt)))

-- what a command leaves of what an account may know, and what the others leave
stays_on : (viewer : Viewer) (c : Command) (cs : List Command) (b mid last : History)
    → StaysFor viewer (λ number. Concerns number c) b mid → StaysFor viewer (λ number. OneConcerns number cs) mid last
    → StaysFor viewer (λ number. OneConcerns number (c ∷ cs)) b last
stays_on viewer c cs b mid last one others = record {
  own_stamps = one.own_stamps ∙ others.own_stamps;
  own_deposits = one.own_deposits ∙ others.own_deposits;
  seen = λ number free. one.seen number (λ h. free (inl h)) ∙ others.seen number (λ h. free (inr h));
  calibration = one.calibration ∙ others.calibration;
  holding = one.holding ∙ others.holding;
  identity = one.identity ∙ others.identity;
}

-- where calls come from a history that the store stood for
record Reaches {B X : Type 0} (g : Ghosts B) (signs : X → List ℕ → Result (List ℕ) SignerFault → X → Type 0)
    (s : Setting) (cs : List Command) (os : List Outcome) (answers : List Answer) (b : History) (old : B)
    (x : X) (s' : Setting) (new : B) (y : X) : Type 0 where
  history : History
  runs : Runs signs s cs os b x answers history y
  stands : Stands g history new
  left : (left : g.Left) → g.leaves new left → MayBeLeftBy g s cs os b old history left
  undisturbed : (account : List ℕ) → AreCommandsOfOthers account cs
      → StaysFor (viewer_in s.file account) (λ number. OneConcerns number cs) b history
  ends : (w : List Told) → Continues s cs os b w history (Some s') (told_by cs answers w)
  promises : ArePromised s cs os answers b

-- a run that goes on by one command is told with its answer
told_more : (s : Setting) (c : Command) (cs : List Command) (o : Outcome) (os : List Outcome) (b last : History)
    (x' : Option Setting) (w : List Told) (e : Effect) (answer : Answer) (answers : List Answer) → HasEffect s c o b e
    → answer ≡ e.says
    → ((told : List Told)
    → Continues (setting_after s c e.says) cs os (after e b) told last x' (told_by cs answers told))
    → Continues s (c ∷ cs) (o ∷ os) b w last x' (told_by (c ∷ cs) (answer ∷ answers) w)
told_more s c cs o os b last x' w e answer answers has says rest =
    let first : Told = record { command = c; answer = e.says } in (
      e,
      has,
      inr (subst (λ (a : Answer). Continues (setting_after s c e.says) cs os (after e b) (first ∷ w) last x'
          (told_by cs answers (record { command = c; answer = a } ∷ w))) (sym says) (rest (first ∷ w))),
    )

reaches : {B X : Type 0} (g : Ghosts B) (signs : X → List ℕ → Result (List ℕ) SignerFault → X → Type 0)
    (count : X → ℕ) (s : Setting) (cs : List Command) (os : List Outcome) (answers : List Answer) (b : History)
    (old : B) (x : X) (s' : Setting) (new : B) (y : X) → AreSteps g signs count s cs os answers old x s' new y
    → ((s : Setting) (c : Command) (o : Outcome) (b : History) (e : Effect) → IsSound b → HasEffect s c o b e
    → KeepsPromises s c o b e)
    → g.honest new → Stands g b old → AreMet s cs os b → Reaches g signs s cs os answers b old x s' new y
reaches g signs count s [] [] [] b old x s' new y h promised honest stands met = record {
  history = b;
  runs = (refl, h.2);
  stands = subst (Stands g b) (sym h.1) stands;
  left = λ left k. inl (refl, subst (λ m. g.leaves m left) h.1 k);
  undisturbed = λ account others. record {
    own_stamps = refl;
    own_deposits = refl;
    seen = λ number free. refl;
    calibration = refl;
    holding = refl;
    identity = refl;
  };
  ends = λ w. (refl, ap Some h.0, refl);
  promises = tt;
}
reaches g signs count s (c ∷ cs) (o ∷ os) (answer ∷ answers) b old x s' new y h promised honest stands met =
    let middle = honest_before g signs count (setting_after s c answer) cs os answers h.0 h.1 s' new y h.2.2 honest in
    let step = h.2.1.steps middle b stands met.0 in
    let e = step.effect in
    let later = subst (λ a. AreSteps g signs count (setting_after s c a) cs os answers h.0 h.1 s' new y) step.says
    h.2.2 in
    let rest = reaches g signs count (setting_after s c e.says) cs os answers (after e b) h.0 h.1 s' new y later promised
    honest step.stands (met.1 e step.has) in
    record {
      history = rest.history;
      runs = (e, h.1, (step.has, step.moves, step.says, rest.runs));
      stands = rest.stands;
      left = λ left k. left_after g s c cs o os e b rest.history old h.0 left step.has (step.left left)
          (rest.left left k);
      undisturbed = λ account others. stays_on (viewer_in s.file account) c cs b (after e b)
          rest.history
          (step_stays account s c o b e stands.sound others.0 step.has) (rest.undisturbed account others.1);
      ends = λ w. told_more s c cs o os b rest.history (Some s') w e answer answers step.has step.says rest.ends;
      promises = (e, (step.has, step.says, promised s c o b e stands.sound step.has, rest.promises));
    }
reaches g signs count s [] [] (answer ∷ answers) b old x s' new y h promised honest stands met = absurd h
reaches g signs count s [] (o ∷ os) answers b old x s' new y h promised honest stands met = absurd h
reaches g signs count s (c ∷ cs) [] answers b old x s' new y h promised honest stands met = absurd h
reaches g signs count s (c ∷ cs) (o ∷ os) [] b old x s' new y h promised honest stands met = absurd h

-- calls one after the other are a run
pub steps_run : {B X : Type 0} (g : Ghosts B) (signs : X → List ℕ → Result (List ℕ) SignerFault → X → Type 0)
    (count : X → ℕ) → TextLaws → (s : Setting) → IsProper s → (cs : List Command) (os : List Outcome)
    (answers : List Answer) (old : B) (x : X) (s' : Setting) (new : B) (y : X)
    → AreSteps g signs count s cs os answers old x s' new y → RunsBy g signs count s cs os answers old x s' new y
steps_run g signs count laws s proper cs os answers old x s' new y h = record {
  steps = h;
  run = λ honest b stands met.
      let r = reaches g signs count s cs os answers b old x s' new y h (keeps_promises laws) honest stands met in
      record {
        history = r.history;
        runs = r.runs;
        stands = r.stands;
        left = r.left;
        journeys = λ w journey outcomes b' x' w' sees_to on.
            let whole = continued s cs outcomes b w b' x' w' sees_to journey on in
            record {
              journey = whole;
              properties = journeys_have_properties laws b' x' w' whole;
              readers = readers_along b' x' w';
              given = given_in_order laws b' x' w';
            };
        ends = r.ends;
        promises = r.promises;
        isolated = λ account own c sound agree.
            runs_alike signs laws account s cs os b c x answers r.history y proper own stands.sound sound agree r.runs;
        undisturbed = r.undisturbed;
      };
}
