-- Connections are a run of the machine: those that asked for a command, over these commands in their order, with the
-- desk's replies. The others leave the history.
use Rattle.std.specs.Prelude.{◌≡◌, ◌⊎◌, ℕ, ℤ, List, [], ◌∷◌, ◌++◌, map, Result, Ok, Err}
use Rattle.book.specs.{declared.standing.Standing.Ghosts, History.History, Stands.Stands}
use Rattle.cms.specs.declared.signer.SignerFault.{SignerFault}
use Rattle.desk.specs.Command.{Setting, Command, Answer, setting_after}
use Rattle.desk.specs.{Batches.stamps_for, Effects.Effect, Laws.AreMet, MachineRuns.after, MachineStep.HasEffect}
use Rattle.desk.specs.{Outcome.Outcome, RunContract.HasRun, RunContract.IsDoubtedIn, Together.IsDoubtedTogether}
use Rattle.connections.specs.Turns.{State, IsServedBy, StopsByClock}
use Rattle.connections.specs.{Parts.Part, Parts.alone, Parts.together, declared.clock.ClockFailed.ClockFailed}

-- a part's commands, and the desk's answers to them
abbrev pub commands_in : {S : Type 0} → Part S → List Command
commands_in (alone a steps) = map (λ t. t.command) steps
commands_in (together members) = stamps_for (map (λ m. m.question) members)

abbrev pub answers_in : {S : Type 0} → Part S → List Answer
answers_in (alone a steps) = map (λ t. t.answer) steps
answers_in (together members) = map (λ m. m.reply) members

abbrev pub commands_of : {S : Type 0} → List (Part S) → List Command
commands_of [] = []
commands_of (part ∷ parts) = commands_in part ++ commands_of parts

abbrev pub answers_of : {S : Type 0} → List (Part S) → List Answer
answers_of [] = []
answers_of (part ∷ parts) = answers_in part ++ answers_of parts

-- the outcomes of all, from those of each
abbrev pub all_outcomes : List (List Outcome) → List Outcome
all_outcomes [] = []
all_outcomes (os ∷ rest) = os ++ all_outcomes rest

-- under these outcomes the commands lead from the one history to the other
abbrev pub Arrives : Setting → List Command → List Outcome → History → History → Type 0
Arrives s [] [] b last = last ≡ b
Arrives s (c ∷ cs) (o ∷ os) b last =
    (e : Effect) × (HasEffect s c o b e × Arrives (setting_after s c e.says) cs os (after e b) last)
Arrives s [] (o ∷ os) b last = ⊥
Arrives s (c ∷ cs) [] b last = ⊥

-- A commit of a part was refused, of one command or of all its stamps together, and nothing was added after it.
abbrev pub IsDoubtedBy : {B S : Type 0} → (g : Ghosts B) → Setting → Part S → List Outcome → History → History → g.Left
    → Type 0
IsDoubtedBy g s (alone a steps) os b last left = IsDoubtedIn g s (commands_in (alone a steps)) os b last left
IsDoubtedBy g s (together members) os b last left =
    IsDoubtedTogether g s (map (λ m. m.question) members) os (map (λ m. m.reply) members) b last left

-- The same in one of them, each under its outcomes.
abbrev pub IsDoubtedAlong : {B S : Type 0} → (g : Ghosts B) → Setting → List (Part S) → List (List Outcome) → History
    → History → g.Left → Type 0
IsDoubtedAlong g s (part ∷ parts) (os ∷ others) b last left =
    (mid : History) × (Arrives s (commands_in part) os b mid
    × (((last ≡ mid) × IsDoubtedBy g s part os b mid left) ⊎ IsDoubtedAlong g s parts others mid last left))
IsDoubtedAlong g s [] others b last left = ⊥
IsDoubtedAlong g s (part ∷ parts) [] b last left = ⊥

-- What a stop after them may leave: where nothing was added, what it could leave before; the history after them; or, in
-- doubt, what a refused commit would have added too.
abbrev pub MayBeLeftAlong : {B S : Type 0} → (g : Ghosts B) → Setting → List (Part S) → List (List Outcome) → History
    → B → History → g.Left → Type 0
MayBeLeftAlong g s parts outcomes b old last left =
    ((last ≡ b) × g.leaves old left) ⊎ (g.holds left last ⊎ IsDoubtedAlong g s parts outcomes b last left)

module _ {C B X : Type 0} (g : Ghosts B) (signs : X → List ℕ → Result (List ℕ) SignerFault → X → Type 0) where
  -- What the connections told is a run of the machine from that history, under these outcomes: what holds after it, as
  -- after a desk's own run (`HasRun`). The store stands for the history to which it leads; each journey that ends in
  -- that history goes on by these commands, to their end or to a stop in one of them; the end of this run, with its
  -- answers, is one of those; one account's commands are isolated, and others' disturb little.
  abbrev pub IsRunFrom : List (Part (Unit {0})) → List (List Outcome) → History → State C B X → State C B X → Type 0
  IsRunFrom parts outcomes b old new =
      HasRun g signs old.desk.setting (commands_of parts) (all_outcomes outcomes) (answers_of parts) b
      (MayBeLeftAlong g old.desk.setting parts outcomes b old.desk.store) old.signer new.desk.setting new.desk.store
      new.signer

  -- While the store returns what was written, what the connections did is a run from each history that it stood for,
  -- under outcomes that are the same for all of these. The caller of each command has seen to what it has to, whatever
  -- history and outcomes, so journeys go on with no condition.
  pub record IsRunAlong (parts : List (Part (Unit {0}))) (old new : State C B X) : Type 0 where
    pub outcomes : List (List Outcome)
    pub run : g.honest new.desk.store → (b : History) → Stands g b old.desk.store → IsRunFrom parts outcomes b old new
    pub met : (b : History) (outcomes : List Outcome) → AreMet old.desk.setting (commands_of parts) outcomes b

module _ {C B X : Type 0} (reads : C → Result ℤ ClockFailed → C → Type 0) (g : Ghosts B)
    (signs : X → List ℕ → Result (List ℕ) SignerFault → X → Type 0) (count : X → ℕ) where
  -- What each result says: so many connections were served, or fewer, as the clock failed; and these are a run.
  abbrev pub ServesEach : ℕ → State C B X → State C B X → {A : Type 0} → Result A ClockFailed → Type 0
  ServesEach connections old new (Ok done) =
      (served : IsServedBy reads g signs count connections old new) × IsRunAlong g signs served.parts old new
  ServesEach connections old new (Err fault) =
      (stops : StopsByClock reads g signs count connections old new)
      × IsRunAlong g signs stops.before.parts old stops.last
