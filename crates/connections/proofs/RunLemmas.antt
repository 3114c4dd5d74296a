-- Connections are a run of the machine.
use Rattle.std.proofs.Common.{◌≡◌, ◌∙◌, ◌⊎◌, ℕ, ℤ, List, [], ◌∷◌, ◌++◌, map, Option, Some, None, Result, Ok, Err, refl}
use Rattle.std.proofs.Common.{subst, sym, inl, inr, IsErr}
use Rattle.std.proofs.{Common.ap, lemmas.Bool.false≢true}
use Rattle.book.specs.{declared.standing.Standing.Ghosts, History.History, Readers.Reader, Readers.Viewer}
use Rattle.book.specs.{Rights.is_reader, Sound.IsSound, Stands.OnlyLooks, Stands.Stands}
use Rattle.cms.specs.declared.signer.SignerFault.{SignerFault}
use Rattle.policy.specs.Record.{PolicyValue}
use Rattle.desk.specs.Command.{Setting, Command, Stamp, Begin, Finish, Abandon, Deposit, Show, Token, ListAll, Grant}
use Rattle.desk.specs.Command.{Revoke, Calibrate, Hold, Succeed, Answer, setting_after}
use Rattle.desk.specs.Laws.{AreMet, AreCommandsOf, Concerns, Continues, IsCommandOfOther, RunsAlike, StaysFor}
use Rattle.desk.specs.MachineRuns.{Told, Runs, Journey, HasProperties, IsProper, after}
use Rattle.desk.specs.CallContract.{DeskValue, HasStepped, IsStep, MayBeLeft, no_signer, with_signer}
use Rattle.desk.specs.{Effects.Effect, Agreement.Agree, Outcome.Outcome, Promises.KeepsPromises, Readers.rights_along}
use Rattle.desk.specs.{Batches.Question, Batches.stamp_for, Batches.stamps_for, MachineStep.HasEffect}
use Rattle.desk.specs.{MachineStep.IsMet, MachineStep.Moves, Serials.given_along, Serials.AreInOrder, Viewers.viewer_in}
use Rattle.desk.specs.RunContract as ran
use Rattle.desk.proofs.journeys.Whole.{continued}
use Rattle.service.specs.{Requests.IsRequest, Requests.Step, Served.Turn, Served.AreTaken, Served.Steps}
use Rattle.connections.specs.Parts.{Answered, Member, Part, alone, together, IsAlone, AreTogether, AreDone}
use Rattle.connections.specs.Run.{commands_in, commands_of, answers_of, all_outcomes, Arrives}
use Rattle.connections.specs.Run.{IsDoubtedBy, MayBeLeftAlong, IsRunAlong, ServesEach}
use Rattle.connections.specs.Turns.{State, untold, IsServedBy, StopsByClock}
use Rattle.connections.specs.declared.clock.ClockFailed.{ClockFailed}
use Rattle.connections.proofs.PartsLemmas.{done_honest}

-- what the caller of each command has to see to, whatever the history at its moment
abbrev AreMetAnywhere : List Command → Type 0
AreMetAnywhere [] = Unit {0}
AreMetAnywhere (c ∷ cs) = ((b : History) → IsMet c b) × AreMetAnywhere cs

met_anywhere : (s : Setting) (cs : List Command) (os : List Outcome) (b : History) → AreMetAnywhere cs
    → AreMet s cs os b
met_anywhere s (c ∷ cs) (o ∷ os) b met =
    (met.0 b, λ e has. met_anywhere (setting_after s c e.says) cs os (after e b) met.1)
met_anywhere s [] os b met = tt
met_anywhere s (c ∷ cs) [] b met = tt

-- a step of the desk
record OneStep {B X : Type 0} (g : Ghosts B) (signs : X → List ℕ → Result (List ℕ) SignerFault → X → Type 0)
    (count : X → ℕ) (s : Setting) (c : Command) (reply : Answer) (old new : DeskValue B) (x x' : X) : Type 0 where
  outcome : Outcome
  setting : new.setting ≡ setting_after s c reply
  steps : g.honest new.store → (b : History) → Stands g b old.store → IsMet c b
      → HasStepped g (with_signer signs count x x') s c outcome b old.store new.store reply
  promises : (honest : g.honest new.store) (b : History) (stood : Stands g b old.store) (met : IsMet c b)
      → KeepsPromises s c outcome b (steps honest b stood met).effect

module _ {B X : Type 0} (g : Ghosts B) (signs : X → List ℕ → Result (List ℕ) SignerFault → X → Type 0) (count : X → ℕ)
    (old new : DeskValue B) (x x' : X) (reply : Answer) where
  abbrev Stepped : Command → Type 0
  Stepped c = OneStep g signs count old.setting c reply old new x x'

  signed : (c : Command) → IsStep g (with_signer signs count x x') c old new reply → Stepped c
  signed c step = record {
    outcome = step.outcome;
    setting = step.setting;
    steps = step.by.step.steps;
    promises = step.by.promises;
  }

  unsigned : (c : Command) → IsStep g no_signer c old new reply → x' ≡ x → Stepped c
  unsigned c step same = record {
    outcome = step.outcome;
    setting = step.setting;
    steps = λ honest b stood met.
        let h = step.by.step.steps honest b stood met in
        record {
          effect = h.effect;
          has = h.has;
          says = h.says;
          moves = subst (λ asked. Moves signs asked step.outcome.signing x x') (sym h.moves) same;
          stands = h.stands;
          left = h.left;
        };
    promises = step.by.promises;
  }

  one_step : (c : Command) → Steps g signs count old new x x' c reply → Stepped c
  one_step (Stamp account reading octets) t = signed (Stamp account reading octets) t.0
  one_step (Deposit a reading reference bytes) t = signed (Deposit a reading reference bytes) t
  one_step (Begin account reading octets) t = unsigned (Begin account reading octets) t.0 t.1
  one_step (Finish p signature) t = unsigned (Finish p signature) t.0 t.1
  one_step (Abandon p) t = unsigned (Abandon p) t.0 t.1
  one_step (Show a n) t = unsigned (Show a n) t.0 t.1
  one_step (Token a n) t = unsigned (Token a n) t.0 t.1
  one_step (ListAll a) t = unsigned (ListAll a) t.0 t.1
  one_step (Grant a n reader) t = unsigned (Grant a n reader) t.0 t.1
  one_step (Revoke a n reader) t = unsigned (Revoke a n reader) t.0 t.1
  one_step (Calibrate c) t = unsigned (Calibrate c) t.0 t.1
  one_step (Hold h) t = unsigned (Hold h) t.0 t.1
  one_step (Succeed n) t = unsigned (Succeed n) t.0 t.1

-- what is left after a part, and what the others leave
left_after : {B : Type 0} (g : Ghosts B) (s : Setting) (part : Part (Unit {0})) (later : List (Part (Unit {0})))
    (os : List Outcome) (oss : List (List Outcome)) (b mid last : History) (old between : B) (left : g.Left)
    → Arrives s (commands_in part) os b mid
    → (g.leaves between left → ((mid ≡ b) × g.leaves old left)
    ⊎ (g.holds left mid ⊎ IsDoubtedBy g s part os b mid left))
    → MayBeLeftAlong g s later oss mid between last left
    → MayBeLeftAlong g s (part ∷ later) (os ∷ oss) b old last left
left_after g s part later os oss b mid last old between left arrives leaves (inl same) =
    elim (leaves same.1) [
      | inl none ↦ inl (same.0 ∙ none.0, none.1)
      | inr more ↦ elim more [
        | inl holds ↦ inr (inl (subst (λ y. g.holds left y) (sym same.0) holds))
        | inr doubt ↦ inr (inr (mid, (arrives, inl (same.0, doubt))))
      ]
    ]
left_after g s part later os oss b mid last old between left arrives leaves (inr (inl holds)) = inr (inl holds)
left_after g s part later os oss b mid last old between left arrives leaves (inr (inr doubt)) =
    inr (inr (mid, (arrives, inr doubt)))

-- after one command
one_left : {B : Type 0} (g : Ghosts B) (s : Setting) (a : Answered (Unit {0})) (step : Told) (o : Outcome) (e : Effect)
    (b : History) (old : B) (left : g.Left) → HasEffect s step.command o b e → MayBeLeft g s step.command o b old e left
    → ((after e b ≡ b) × g.leaves old left)
    ⊎ (g.holds left (after e b) ⊎ IsDoubtedBy g s (alone a (step ∷ [])) (o ∷ []) b (after e b) left)
one_left g s a step o e b old left has (inl none) = inl (ap (λ added. added ++ b) none.0, none.1)
one_left g s a step o e b old left has (inr (inl holds)) = inr (inl holds)
one_left g s a step o e b old left has (inr (inr doubt)) = inr (inr (e, (has, inl (refl, doubt))))

-- what a command leaves of what an account may know, and what the others leave
stays_on : (viewer : Viewer) (c : Command) (cs : List Command) (b mid last : History)
    → StaysFor viewer (λ number. Concerns number c) b mid
    → StaysFor viewer (λ number. ran.OneConcerns number cs) mid last
    → StaysFor viewer (λ number. ran.OneConcerns number (c ∷ cs)) b last
stays_on viewer c cs b mid last first others = record {
  own_stamps = first.own_stamps ∙ others.own_stamps;
  own_deposits = first.own_deposits ∙ others.own_deposits;
  seen = λ number free. first.seen number (λ h. free (inl h)) ∙ others.seen number (λ h. free (inr h));
  calibration = first.calibration ∙ others.calibration;
  holding = first.holding ∙ others.holding;
  identity = first.identity ∙ others.identity;
}

-- a run that goes on by one command is told with its answer
told_more : (s : Setting) (c : Command) (cs : List Command) (o : Outcome) (os : List Outcome) (b last : History)
    (x' : Option Setting) (w : List Told) (e : Effect) (answer : Answer) (answers : List Answer) → HasEffect s c o b e
    → answer ≡ e.says
    → ((w : List Told) → Continues (setting_after s c e.says) cs os (after e b) w last x' (ran.told_by cs answers w))
    → Continues s (c ∷ cs) (o ∷ os) b w last x' (ran.told_by (c ∷ cs) (answer ∷ answers) w)
told_more s c cs o os b last x' w e answer answers has says rest =
    let first : Told = record { command = c; answer = e.says } in (
      e,
      has,
      inr (subst (λ (a : Answer). Continues (setting_after s c e.says) cs os (after e b) (first ∷ w) last x'
          (ran.told_by cs answers (record { command = c; answer = a } ∷ w))) (sym says) (rest (first ∷ w))),
    )

-- Under one outcome a command has one effect.
abbrev OneEffect : Type 0
OneEffect =
    (s : Setting) (c : Command) (o : Outcome) (b : History) (e other : Effect) → HasEffect s c o b e
    → HasEffect s c o b other → e ≡ other

-- stamps that thus, and what runs behind them
module _ {X : Type 0} (signs : X → List ℕ → Result (List ℕ) SignerFault → X → Type 0) (s : Setting) where
  abbrev Ran : List Question → List Outcome → History → X → List Answer → History → X → Type 0
  Ran asked os b x answers mid z = Runs signs s (stamps_for asked) os b x answers mid z

  arrives : (asked : List Question) (os : List Outcome) (b : History) (x : X) (answers : List Answer) (mid : History)
      (z : X) → Ran asked os b x answers mid z → Arrives s (stamps_for asked) os b mid
  arrives [] [] b x [] mid z r = r.0
  arrives [] [] b x (answer ∷ answers) mid z thus = absurd thus
  arrives [] (o ∷ os) b x answers mid z thus = absurd thus
  arrives (a ∷ asked) [] b x answers mid z thus = absurd thus
  arrives (a ∷ asked) (o ∷ os) b x [] mid z thus = absurd thus
  arrives (a ∷ asked) (o ∷ os) b x (answer ∷ answers) mid z thus =
      (thus.0, (thus.2.0, arrives asked os (after thus.0 b) thus.1 answers mid z thus.2.3))

  module _ (cs : List Command) (us : List Outcome) (more : List Answer) (last : History) where
    runs_then : (asked : List Question) (os : List Outcome) (b : History) (x : X) (answers : List Answer)
        (mid : History) (z y : X) → Ran asked os b x answers mid z → Runs signs s cs us mid z more last y
        → Runs signs s (stamps_for asked ++ cs) (os ++ us) b x (answers ++ more) last y
    runs_then [] [] b x [] mid z y thus rest =
        subst (λ u. Runs signs s cs us b u more last y) thus.1
        (subst (λ h. Runs signs s cs us h z more last y) thus.0 rest)
    runs_then [] [] b x (answer ∷ answers) mid z y thus rest = absurd thus
    runs_then [] (o ∷ os) b x answers mid z y thus rest = absurd thus
    runs_then (a ∷ asked) [] b x answers mid z y thus rest = absurd thus
    runs_then (a ∷ asked) (o ∷ os) b x [] mid z y thus rest = absurd thus
    runs_then (a ∷ asked) (o ∷ os) b x (answer ∷ answers) mid z y thus rest = (
      thus.0,
      thus.1,
      (
        thus.2.0,
        thus.2.1,
        thus.2.2,
        runs_then asked os (after thus.0 b) thus.1 answers mid z y thus.2.3 rest,
      ),
    )

    ends_then : (x' : Option Setting) (asked : List Question) (os : List Outcome) (b : History) (x : X)
        (answers : List Answer) (mid : History) (z : X) (w : List Told) → Ran asked os b x answers mid z
        → ((w : List Told) → Continues s cs us mid w last x' (ran.told_by cs more w))
        → Continues s (stamps_for asked ++ cs) (os ++ us) b w last x'
        (ran.told_by (stamps_for asked ++ cs) (answers ++ more) w)
    ends_then x' [] [] b x [] mid z w thus rest =
        subst (λ h. Continues s cs us h w last x' (ran.told_by cs more w)) thus.0 (rest w)
    ends_then x' [] [] b x (answer ∷ answers) mid z w thus rest = absurd thus
    ends_then x' [] (o ∷ os) b x answers mid z w thus rest = absurd thus
    ends_then x' (a ∷ asked) [] b x answers mid z w thus rest = absurd thus
    ends_then x' (a ∷ asked) (o ∷ os) b x [] mid z w thus rest = absurd thus
    ends_then x' (a ∷ asked) (o ∷ os) b x (answer ∷ answers) mid z w thus rest =
        told_more s (stamp_for a) (stamps_for asked ++ cs) o (os ++ us) b last x' w thus.0 answer (answers ++ more)
        thus.2.0 thus.2.2
        (λ w. ends_then x' asked os (after thus.0 b) thus.1 answers mid z w thus.2.3 rest)

    module _ (one : OneEffect) where
      promises_then : (asked : List Question) (os : List Outcome) (b : History) (x : X) (answers : List Answer)
          (mid : History) (z : X) → Ran asked os b x answers mid z
          → ran.ArePromised s (stamps_for asked) os answers b → ran.ArePromised s cs us more mid
          → ran.ArePromised s (stamps_for asked ++ cs) (os ++ us) (answers ++ more) b
      promises_then [] [] b x [] mid z thus p rest = subst (λ h. ran.ArePromised s cs us more h) thus.0 rest
      promises_then [] [] b x (answer ∷ answers) mid z thus p rest = absurd thus
      promises_then [] (o ∷ os) b x answers mid z thus p rest = absurd thus
      promises_then (a ∷ asked) [] b x answers mid z thus p rest = absurd thus
      promises_then (a ∷ asked) (o ∷ os) b x [] mid z thus p rest = absurd thus
      promises_then (a ∷ asked) (o ∷ os) b x (answer ∷ answers) mid z thus p rest =
          let on = subst (λ e. Ran asked os (after e b) thus.1 answers mid z)
          (one s (stamp_for a) o b thus.0 p.0 thus.2.0 p.1.0) thus.2.3 in (
            p.0,
            (
              p.1.0,
              p.1.1,
              p.1.2,
              promises_then asked os (after p.0 b) thus.1 answers mid z on p.1.3 rest,
            ),
          )

      undisturbed_then : (account : List ℕ) (asked : List Question) (os : List Outcome) (b : History) (x : X)
          (answers : List Answer) (mid : History) (z : X) → Ran asked os b x answers mid z
          → ran.ArePromised s (stamps_for asked) os answers b
          → (ran.AreCommandsOfOthers account cs
          → StaysFor (viewer_in s.file account) (λ number. ran.OneConcerns number cs) mid last)
          → ran.AreCommandsOfOthers account (stamps_for asked ++ cs)
          → StaysFor (viewer_in s.file account) (λ number. ran.OneConcerns number (stamps_for asked ++ cs)) b last
      undisturbed_then account [] [] b x [] mid z thus p rest others =
          subst (λ h. StaysFor (viewer_in s.file account) (λ number. ran.OneConcerns number cs) h last) thus.0
          (rest others)
      undisturbed_then account [] [] b x (answer ∷ answers) mid z thus p rest others = absurd thus
      undisturbed_then account [] (o ∷ os) b x answers mid z thus p rest others = absurd thus
      undisturbed_then account (a ∷ asked) [] b x answers mid z thus p rest others = absurd thus
      undisturbed_then account (a ∷ asked) (o ∷ os) b x [] mid z thus p rest others = absurd thus
      undisturbed_then account (a ∷ asked) (o ∷ os) b x (answer ∷ answers) mid z thus p rest others =
          let on = subst (λ e. Ran asked os (after e b) thus.1 answers mid z)
          (one s (stamp_for a) o b thus.0 p.0 thus.2.0 p.1.0) thus.2.3 in
          stays_on (viewer_in s.file account) (stamp_for a) (stamps_for asked ++ cs) b (after p.0 b) last
          (p.1.2.undisturbed account others.0)
          (undisturbed_then account asked os (after p.0 b) thus.1 answers mid z on p.1.3 rest others.1)

met_stamps : (asked : List Question) (cs : List Command) → AreMetAnywhere cs → AreMetAnywhere (stamps_for asked ++ cs)
met_stamps [] cs rest = rest
met_stamps (a ∷ asked) cs rest = (λ b. tt, met_stamps asked cs rest)

-- The laws of the machine that runs rest on.
pub record RunLaws {X : Type 0} (signs : X → List ℕ → Result (List ℕ) SignerFault → X → Type 0) : Type 0 where
  pub met : (file : PolicyValue) (reading : ℤ) (before left : Option (List ℕ)) (c : Command)
      → IsRequest file reading before left (Ok (Step c)) → (b : History) → IsMet c b
  pub one_effect : OneEffect
  pub properties : (b : History) (x : Option Setting) (w : List Told) → Journey b x w → HasProperties b w
  pub readers : (b : History) (x : Option Setting) (w : List Told) (j : Journey b x w) (number : ℕ) (reader : Reader)
      → is_reader number reader b ≡ is_reader number reader (rights_along j)
  pub given : (b : History) (x : Option Setting) (w : List Told) (j : Journey b x w) → AreInOrder (given_along j) b
  pub isolated : (account : List ℕ) (s : Setting) (cs : List Command) (os : List Outcome) (b c : History) (x : X)
      (answers : List Answer) (b' : History) (x' : X) → IsProper s → AreCommandsOf account cs → IsSound b → IsSound c
      → Agree (viewer_in s.file account) b c → Runs signs s cs os b x answers b' x'
      → RunsAlike signs account s cs os c x answers b' x'
  pub undisturbed : (account : List ℕ) (s : Setting) (c : Command) (o : Outcome) (b : History) (e : Effect)
      → IsSound b → IsCommandOfOther account c → HasEffect s c o b e
      → StaysFor (viewer_in s.file account) (λ number. Concerns number c) b (after e b)

-- what others' commands leave for an account
abbrev DisturbLittle : Type 0
DisturbLittle =
    (account : List ℕ) (s : Setting) (c : Command) (o : Outcome) (b : History) (e : Effect)
    → IsSound b → IsCommandOfOther account c → HasEffect s c o b e
    → StaysFor (viewer_in s.file account) (λ number. Concerns number c) b (after e b)

-- what a request asks for is met
abbrev AsksForMet : Type 0
AsksForMet =
    (file : PolicyValue) (reading : ℤ) (before left : Option (List ℕ)) (c : Command)
    → IsRequest file reading before left (Ok (Step c)) → (b : History) → IsMet c b

module _ {B X : Type 0} (g : Ghosts B) (signs : X → List ℕ → Result (List ℕ) SignerFault → X → Type 0) (count : X → ℕ)
  where
    abbrev Done : List (Part (Unit {0})) → DeskValue B → X → DeskValue B → X → Type 0
    Done = AreDone untold g signs count

    abbrev turn : Answered (Unit {0}) → DeskValue B → X → DeskValue B → X → Turn (Unit {0}) B X
    turn a old x new y = record {
      input = None;
      input_after = None;
      writer = a.handed.stream;
      writer_after = a.stream_after;
      desk = old;
      desk_after = new;
      signer = x;
      signer_after = y;
    }

    taken : (a : Answered (Unit {0})) (steps : List Told) (old : DeskValue B) (x : X) (new : DeskValue B) (y : X)
        → IsAlone untold g signs count a steps old x new y
        → AreTaken g signs count a.handed.reading (turn a old x new y) steps
    taken a steps old x new y done = (done.serves None None tt (λ ended taken. tt)).taken

    -- what was told is met
    met_steps : AsksForMet → (reading : ℤ) (t : Turn (Unit {0}) B X) (steps : List Told)
        → AreTaken g signs count reading t steps → (cs : List Command) → AreMetAnywhere cs
        → AreMetAnywhere (map (λ step. step.command) steps ++ cs)
    met_steps law reading t [] taken cs rest = rest
    met_steps law reading t (step ∷ []) taken cs rest = (law _ _ _ _ step.command taken.0, rest)
    met_steps law reading t (step ∷ other ∷ more) taken cs rest = absurd taken

    met_along : AsksForMet → (parts : List (Part (Unit {0}))) (old : DeskValue B) (x : X) (new : DeskValue B) (y : X)
        → Done parts old x new y → AreMetAnywhere (commands_of parts)
    met_along law [] old x new y done = tt
    met_along law (alone a steps ∷ parts) old x new y done =
        met_steps law a.handed.reading (turn a old x done.desk done.signer) steps
        (taken a steps old x done.desk done.signer done.first) (commands_of parts)
        (met_along law parts done.desk done.signer new y done.rest)
    met_along law (together members ∷ parts) old x new y done =
        met_stamps (map (λ m. m.question) members) (commands_of parts)
        (met_along law parts done.desk done.signer new y done.rest)

    -- where parts lead under these outcomes, from a history that the store stood for
    record Reaches (s : Setting) (all : List (Part (Unit {0}))) (outcomes : List (List Outcome)) (b : History) (old : B)
        (x : X) (new : DeskValue B) (y : X) : Type 0 where
      history : History
      runs : Runs signs s (commands_of all) (all_outcomes outcomes) b x (answers_of all) history y
      stands : Stands g history new.store
      left : (left : g.Left) → g.leaves new.store left → MayBeLeftAlong g s all outcomes b old history left
      ends : (w : List Told) → Continues s (commands_of all) (all_outcomes outcomes) b w history (Some new.setting)
          (ran.told_by (commands_of all) (answers_of all) w)
      promises : ran.ArePromised s (commands_of all) (all_outcomes outcomes) (answers_of all) b
      undisturbed : (account : List ℕ) → ran.AreCommandsOfOthers account (commands_of all)
          → StaysFor (viewer_in s.file account) (λ number. ran.OneConcerns number (commands_of all)) b history

    -- and from each of these
    record Leads (s : Setting) (all : List (Part (Unit {0}))) (old : B) (x : X) (new : DeskValue B) (y : X) : Type 0
      where
        outcomes : List (List Outcome)
        reaches : g.honest new.store → (b : History) → Stands g b old → AreMetAnywhere (commands_of all)
            → Reaches s all outcomes b old x new y

    -- the commands behind stamps are met where all are
    met_behind : (asked : List Question) (cs : List Command) → AreMetAnywhere (stamps_for asked ++ cs) → AreMetAnywhere cs
    met_behind [] cs met = met
    met_behind (a ∷ asked) cs met = met_behind asked cs met.1

    module _ (disturb : DisturbLittle) (old next : DeskValue B) (x z : X) (new : DeskValue B) (y : X)
        (setting : next.setting ≡ old.setting) (before : g.honest new.store → g.honest next.store)
        (later : List (Part (Unit {0}))) (rest : Leads next.setting later next.store z new y) where
      rests : (a : Answered (Unit {0})) → OnlyLooks g old.store next.store → z ≡ x
          → Leads old.setting (alone a [] ∷ later) old.store x new y
      rests a looks same = record {
        outcomes = [] ∷ rest.outcomes;
        reaches = λ honest b stood met.
            let P : X → Type 0 = λ u. Reaches next.setting later rest.outcomes b next.store u new y in
            let Q : Setting → Type 0 = λ s. Reaches s later rest.outcomes b next.store x new y in
            let r = subst Q setting (subst P same (rest.reaches honest b (looks.stands b stood) met)) in
            record {
              history = r.history;
              runs = r.runs;
              stands = r.stands;
              left = λ left k. left_after g old.setting (alone a []) later [] rest.outcomes b b r.history old.store
                  next.store left refl (λ l. inl (refl, looks.leaves (before honest) left l)) (r.left left k);
              ends = r.ends;
              promises = r.promises;
              undisturbed = r.undisturbed;
            };
      }

      steps : (a : Answered (Unit {0})) (step : Told) → Steps g signs count old next x z step.command step.answer
          → Leads old.setting (alone a (step ∷ []) ∷ later) old.store x new y
      steps a step takes =
          let c = step.command in
          let one = one_step g signs count old next x z step.answer c takes in
          let s = old.setting in
          let cs = commands_of later in
          let os = all_outcomes rest.outcomes in
          let says = answers_of later in
          record {
            outcomes = (one.outcome ∷ []) ∷ rest.outcomes;
            reaches = λ honest b stood met.
                let h = one.steps (before honest) b stood (met.0 b) in
                let mid = after h.effect b in
                let after_it : s ≡ setting_after s c h.effect.says =
                sym setting ∙ (one.setting ∙ ap (setting_after s c) h.says) in
                let Q : Setting → Type 0 = λ s. Reaches s later rest.outcomes mid next.store z new y in
                let r = subst Q setting (rest.reaches honest mid h.stands met.1) in
                record {
                  history = r.history;
                  runs = (
                    h.effect,
                    z,
                    (
                      h.has,
                      h.moves,
                      h.says,
                      subst (λ s. Runs signs s cs os mid z says r.history y) after_it r.runs,
                    ),
                  );
                  stands = r.stands;
                  left = λ left k. left_after g s (alone a (step ∷ [])) later (one.outcome ∷ []) rest.outcomes b mid
                      r.history old.store next.store left (h.effect, (h.has, refl))
                      (λ l. one_left g s a step one.outcome h.effect b old.store left h.has (h.left left l))
                      (r.left left k);
                  ends = λ w. told_more s c cs one.outcome os b r.history (Some new.setting) w h.effect step.answer says
                      h.has h.says (λ w. subst (λ s. Continues s cs os mid w r.history (Some new.setting)
                      (ran.told_by cs says w)) after_it (r.ends w));
                  promises = (
                    h.effect,
                    (
                      h.has,
                      h.says,
                      one.promises (before honest) b stood (met.0 b),
                      subst (λ s. ran.ArePromised s cs os says mid) after_it r.promises,
                    ),
                  );
                  undisturbed = λ account others. stays_on (viewer_in s.file account) c cs b mid r.history
                      (disturb account s c one.outcome b h.effect stood.sound others.0 h.has)
                      (r.undisturbed account others.1);
                };
          }

      goes : (a : Answered (Unit {0})) (all : List Told)
          → AreTaken g signs count a.handed.reading (turn a old x next z) all
          → Leads old.setting (alone a all ∷ later) old.store x new y
      goes a [] taken = rests a taken.0 taken.1
      goes a (step ∷ []) taken = steps a step taken.1
      goes a (step ∷ other ∷ more) taken = absurd taken

      batches : OneEffect → (members : List (Member (Unit {0})))
          → AreTogether untold g signs count members old x next z
          → Leads old.setting (together members ∷ later) old.store x new y
      batches one members done =
          let s = old.setting in
          let asked = map (λ m. m.question) members in
          let answers = map (λ m. m.reply) members in
          let os = done.answered.outcomes in
          let cs = commands_of later in
          let us = all_outcomes rest.outcomes in
          let more = answers_of later in
          record {
            outcomes = os ∷ rest.outcomes;
            reaches = λ honest b stood met.
                let t = done.answered.run (before honest) b stood in
                let Q : Setting → Type 0 = λ s. Reaches s later rest.outcomes t.history next.store z new y in
                let r = subst Q setting (rest.reaches honest t.history t.stands (met_behind asked cs met)) in
                record {
                  history = r.history;
                  runs = runs_then signs s cs us more r.history asked os b x answers t.history z y t.runs r.runs;
                  stands = r.stands;
                  left = λ left k. left_after g s (together members) later os rest.outcomes b t.history r.history
                      old.store next.store left (arrives signs s asked os b x answers t.history z t.runs) (t.left left)
                      (r.left left k);
                  ends = λ w. ends_then signs s cs us more r.history (Some new.setting) asked os b x answers t.history
                      z w t.runs r.ends;
                  promises = promises_then signs s cs us more r.history one asked os b x answers t.history z t.runs
                      t.promises r.promises;
                  undisturbed = λ account others. undisturbed_then signs s cs us more r.history one account asked os b x
                      answers t.history z t.runs t.promises (r.undisturbed account) others;
                };
          }

    leads_along : DisturbLittle → OneEffect → (parts : List (Part (Unit {0}))) (old : DeskValue B) (x : X)
        (new : DeskValue B) (y : X) → Done parts old x new y → Leads old.setting parts old.store x new y
    leads_along disturb one [] old x new y done = record {
      outcomes = [];
      reaches = λ honest b stood met. record {
        history = b;
        runs = (refl, done.1);
        stands = subst (λ d. Stands g b d.store) (sym done.0) stood;
        left = λ left k. inl (refl, subst (λ d. g.leaves d.store left) done.0 k);
        ends = λ w. (refl, ap (λ d. Some d.setting) done.0, refl);
        promises = tt;
        undisturbed = λ account others. record {
          own_stamps = refl;
          own_deposits = refl;
          seen = λ number free. refl;
          calibration = refl;
          holding = refl;
          identity = refl;
        };
      };
    }
    leads_along disturb one (alone a steps ∷ parts) old x new y done =
        goes disturb old done.desk x done.signer new y done.first.setting
        (done_honest untold g signs count parts done.desk done.signer new y done.rest) parts
        (leads_along disturb one parts done.desk done.signer new y done.rest) a steps
        (taken a steps old x done.desk done.signer done.first)
    leads_along disturb one (together members ∷ parts) old x new y done =
        batches disturb old done.desk x done.signer new y done.first.setting
        (done_honest untold g signs count parts done.desk done.signer new y done.rest) parts
        (leads_along disturb one parts done.desk done.signer new y done.rest) one members done.first

module _ {C B X : Type 0} (reads : C → Result ℤ ClockFailed → C → Type 0) (g : Ghosts B)
    (signs : X → List ℕ → Result (List ℕ) SignerFault → X → Type 0) (count : X → ℕ) (laws : RunLaws signs) where
  is_run : (n : ℕ) (old new : State C B X) (served : IsServedBy reads g signs count n old new)
      → IsProper old.desk.setting → IsRunAlong g signs served.parts old new
  is_run n old new served proper =
      let met = met_along g signs count laws.met served.parts old.desk old.signer new.desk new.signer served.done in
      let leads = leads_along g signs count laws.undisturbed laws.one_effect served.parts old.desk old.signer new.desk
      new.signer served.done in
      let s = old.desk.setting in
      let cs = commands_of served.parts in
      record {
        outcomes = leads.outcomes;
        run = λ honest b stood.
            let r = leads.reaches honest b stood met in
            record {
              history = r.history;
              runs = r.runs;
              stands = r.stands;
              left = r.left;
              journeys = λ w journey os b' x' w' sees_to on.
                  let whole = continued s cs os b w b' x' w' sees_to journey on in
                  record {
                    journey = whole;
                    properties = laws.properties b' x' w' whole;
                    readers = laws.readers b' x' w';
                    given = laws.given b' x' w';
                  };
              ends = r.ends;
              promises = r.promises;
              isolated = λ account own c sound agree.
                  laws.isolated account s cs (all_outcomes leads.outcomes) b c old.signer (answers_of served.parts)
                  r.history new.signer proper own stood.sound sound agree r.runs;
              undisturbed = r.undisturbed;
            };
        met = λ b os. met_anywhere s cs os b met;
      }

  pub served_run : (n : ℕ) (old new : State C B X) → IsServedBy reads g signs count n old new
      → IsProper old.desk.setting
      → (served : IsServedBy reads g signs count n old new) × IsRunAlong g signs served.parts old new
  served_run n old new served proper = (served, is_run n old new served proper)

  pub stopped_run : {A : Type 0} (n : ℕ) (old new : State C B X)
      → StopsByClock reads g signs count n old new → IsProper old.desk.setting
      → (result : Result A ClockFailed) → IsErr result → ServesEach reads g signs count n old new result
  stopped_run n old new stops proper (Err stopped) is =
      (stops, is_run stops.served old stops.last stops.before proper)
  stopped_run n old new stops proper (Ok done) is = absurd (false≢true is)
