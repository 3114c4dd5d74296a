-- Calls one after the other are a run of the machine: what the contract of `run` says.
use Rattle.std.specs.Prelude.{◌≡◌, ◌⊎◌, ℕ, List, [], ◌∷◌, Option, Some, Result}
use Rattle.book.specs.declared.standing.Standing.{Ghosts}
use Rattle.book.specs.{History.History, Readers.Reader, Rights.is_reader, Sound.IsSound, Stands.Stands}
use Rattle.cms.specs.declared.signer.SignerFault.{SignerFault}
use Rattle.desk.specs.Command.{Setting, Command, Stamp, Begin, Finish, Abandon, Deposit, Show, Token, ListAll, Grant}
use Rattle.desk.specs.Command.{Revoke, Calibrate, Hold, Succeed, Answer, Stamped, Rejected, Begun, Kept, Shown, Listed}
use Rattle.desk.specs.Command.{Done, Numbered, Refused, setting_after}
use Rattle.desk.specs.MachineRuns.{Told, Journey, HasProperties, Runs, after}
use Rattle.desk.specs.Laws.{Continues, AreMet, AreCommandsOf, RunsAlike, IsCommandOfOther, Concerns, StaysFor}
use Rattle.desk.specs.CallContract.{DeskValue, StepsBy, IsBareStep, IsDoubted, with_signer}
use Rattle.desk.specs.{Agreement.Agree, Outcome.Outcome, Effects.Effect, MachineStep.HasEffect, Readers.rights_along}
use Rattle.desk.specs.{Serials.given_along, Serials.AreInOrder, Promises.KeepsPromises, Viewers.viewer_in}

-- A succession that is done, where nothing was added too, was of a store that was open. Of what was committed the step
-- says that the store is open after it.
abbrev pub WasOpenFor : {B : Type 0} → Ghosts B → Answer → B → Type 0
WasOpenFor g Done old = g.is_open old
WasOpenFor g (Stamped serial octets) old = Unit {0}
WasOpenFor g (Rejected rule) old = Unit {0}
WasOpenFor g (Begun p) old = Unit {0}
WasOpenFor g (Kept number is_new) old = Unit {0}
WasOpenFor g (Shown octets) old = Unit {0}
WasOpenFor g (Listed rows) old = Unit {0}
WasOpenFor g (Numbered number) old = Unit {0}
WasOpenFor g (Refused f) old = Unit {0}

abbrev pub WasOpen : {B : Type 0} → Ghosts B → Command → Answer → B → Type 0
WasOpen g (Succeed next) answer old = WasOpenFor g answer old
WasOpen g (Stamp account reading octets) answer old = Unit {0}
WasOpen g (Begin account reading octets) answer old = Unit {0}
WasOpen g (Finish p signature) answer old = Unit {0}
WasOpen g (Abandon p) answer old = Unit {0}
WasOpen g (Deposit a reading reference bytes) answer old = Unit {0}
WasOpen g (Show a n) answer old = Unit {0}
WasOpen g (Token a n) answer old = Unit {0}
WasOpen g (ListAll a) answer old = Unit {0}
WasOpen g (Grant a n reader) answer old = Unit {0}
WasOpen g (Revoke a n reader) answer old = Unit {0}
WasOpen g (Calibrate c) answer old = Unit {0}
WasOpen g (Hold h) answer old = Unit {0}

-- What one command of a run is: a step, and what it leaves in force.
abbrev pub Obeys : {B X : Type 0} → Ghosts B → (X → List ℕ → Result (List ℕ) SignerFault → X → Type 0) → (X → ℕ)
    → Setting → Command → B → X → Setting → B → X → Answer → Type 0
Obeys g signs count s c old x s' new y answer =
    IsBareStep g (with_signer signs count x y) s c old new answer × (s' ≡ setting_after s c answer)
    × (g.honest new → WasOpen g c answer old)

-- Each call is a step under its outcome, from what the one before it left of setting, store and signer, and the last
-- one leaves the second setting.
abbrev pub AreSteps : {B X : Type 0} → Ghosts B → (X → List ℕ → Result (List ℕ) SignerFault → X → Type 0) → (X → ℕ)
    → Setting → List Command → List Outcome → List Answer → B → X → Setting → B → X → Type 0
AreSteps g signs count s [] [] [] old x s' new y = (s' ≡ s) × (new ≡ old) × (y ≡ x)
AreSteps {B} {X} g signs count s (c ∷ cs) (o ∷ os) (answer ∷ answers) old x s' new y =
    (mid : B) × (z : X) × ((g.honest mid → g.honest old × WasOpen g c answer old)
    × StepsBy g (with_signer signs count x z) s c o old mid answer
    × AreSteps g signs count (setting_after s c answer) cs os answers mid z s' new y)
AreSteps g signs count s [] [] (answer ∷ answers) old x s' new y = ⊥
AreSteps g signs count s [] (o ∷ os) answers old x s' new y = ⊥
AreSteps g signs count s (c ∷ cs) [] answers old x s' new y = ⊥
AreSteps g signs count s (c ∷ cs) (o ∷ os) [] old x s' new y = ⊥

-- A commit was refused, and nothing was added after it: the history with what its command adds where it is there
-- after all.
abbrev pub IsDoubtedIn : {B : Type 0} → (g : Ghosts B) → Setting → List Command → List Outcome → History → History
    → g.Left → Type 0
IsDoubtedIn g s (c ∷ cs) (o ∷ os) b last left =
    (e : Effect) × (HasEffect s c o b e
    × (((last ≡ after e b) × IsDoubted g s c o b left)
    ⊎ IsDoubtedIn g (setting_after s c e.says) cs os (after e b) last left))
IsDoubtedIn g s [] os b last left = ⊥
IsDoubtedIn g s (c ∷ cs) [] b last left = ⊥

-- What a stop after a run may leave: where nothing was added, what it could leave before; the history after
-- it; or, in doubt, with what a refused commit would have added too. Between its calls each step says it.
abbrev pub MayBeLeftBy : {B : Type 0} → (g : Ghosts B) → Setting → List Command → List Outcome → History → B
    → History → g.Left → Type 0
MayBeLeftBy g s cs os b old last left =
    ((last ≡ b) × g.leaves old left) ⊎ (g.holds left last ⊎ IsDoubtedIn g s cs os b last left)

-- each command is another account's
abbrev pub AreCommandsOfOthers : List ℕ → List Command → Type 0
AreCommandsOfOthers account [] = Unit {0}
AreCommandsOfOthers account (c ∷ cs) = IsCommandOfOther account c × AreCommandsOfOthers account cs

-- one of the commands gives or takes a right to the deposit with this number
abbrev pub OneConcerns : ℕ → List Command → Type 0
OneConcerns number [] = ⊥
OneConcerns number (c ∷ cs) = Concerns number c ⊎ OneConcerns number cs

-- Journeys lead to this history with these answers. What they promise holds, and of each of them: who reads after it
-- is told by the rights that it acknowledged and that its stops left, and the serial numbers of the texts that it gave
-- out fall from the newest to the oldest.
pub record GoesOn (b : History) (x : Option Setting) (w : List Told) : Type 0 where
  pub journey : Journey b x w
  pub properties : HasProperties b w
  pub readers : (j : Journey b x w) (number : ℕ) (reader : Reader)
      → is_reader number reader b ≡ is_reader number reader (rights_along j)
  pub given : (j : Journey b x w) → AreInOrder (given_along j) b

-- what was asked and answered before, and these commands with their answers, the newest first
abbrev pub told_by : List Command → List Answer → List Told → List Told
told_by (c ∷ cs) (answer ∷ answers) w = told_by cs answers (record { command = c; answer = answer } ∷ w)
told_by [] answers w = w
told_by (c ∷ cs) [] w = w

-- Each command of a run, from the history before it: its effect, whose answer it is, and what is promised of it.
abbrev pub ArePromised : Setting → List Command → List Outcome → List Answer → History → Type 0
ArePromised s (c ∷ cs) (o ∷ os) (answer ∷ answers) b =
    (e : Effect) × (HasEffect s c o b e × (answer ≡ e.says) × KeepsPromises s c o b e
    × ArePromised (setting_after s c e.says) cs os answers (after e b))
ArePromised s [] os answers b = Unit {0}
ArePromised s (c ∷ cs) [] answers b = Unit {0}
ArePromised s (c ∷ cs) (o ∷ os) [] b = Unit {0}

-- What holds after a run from a setting to another, where the store stood for the history b, and where a stop may leave
-- this beside the history after it.
pub record HasRun {B X : Type 0} (g : Ghosts B) (signs : X → List ℕ → Result (List ℕ) SignerFault → X → Type 0)
    (s : Setting) (cs : List Command) (os : List Outcome) (answers : List Answer) (b : History)
    (May : History → g.Left → Type 0) (x : X) (s' : Setting) (new : B) (y : X) : Type 0 where
  pub history : History
  -- The answers, the history that follows and the signer are a run of the machine,
  pub runs : Runs signs s cs os b x answers history y
  -- and the store stands for that history.
  pub stands : Stands g history new
  pub left : (left : g.Left) → g.leaves new left → May history left
  -- Each journey that ends in b with this setting goes on by these commands, whatever the outcomes, to their end or to
  -- a stop in one of them, and keeps its promises there.
  pub journeys : (w : List Told) → Journey b (Some s) w → (outcomes : List Outcome) (b' : History)
      (x' : Option Setting) (w' : List Told)
      → AreMet s cs outcomes b → Continues s cs outcomes b w b' x' w' → GoesOn b' x' w'
  -- The end of this run, with its answers, is one of those.
  pub ends : (w : List Told) → Continues s cs os b w history (Some s') (told_by cs answers w)
  -- Of each command: what it has signed, grants, shows and lists, and tells of others.
  pub promises : ArePromised s cs os answers b
  -- Where the commands are one account's, they would be answered so from each history that agrees with b for it, and
  -- the histories that follow agree again.
  pub isolated : (account : List ℕ) → AreCommandsOf account cs → (c : History) → IsSound c
      → Agree (viewer_in s.file account) b c
      → RunsAlike signs account s cs os c x answers history y
  -- Commands of others change for an account, of what agreement names, at most the greatest serial number, the last
  -- genTime and deposits to which they give or take a right.
  pub undisturbed : (account : List ℕ) → AreCommandsOfOthers account cs
      → StaysFor (viewer_in s.file account) (λ number. OneConcerns number cs) b history

-- Calls one after the other, under their outcomes. While the store returns what was written, what holds after them is
-- the run's, from each history that the store stood for.
pub record RunsBy {B X : Type 0} (g : Ghosts B) (signs : X → List ℕ → Result (List ℕ) SignerFault → X → Type 0)
    (count : X → ℕ) (s : Setting) (cs : List Command) (os : List Outcome) (answers : List Answer) (old : B)
    (x : X) (s' : Setting) (new : B) (y : X) : Type 0 where
  pub steps : AreSteps g signs count s cs os answers old x s' new y
  pub run : g.honest new → (b : History) → Stands g b old → AreMet s cs os b
      → HasRun g signs s cs os answers b (MayBeLeftBy g s cs os b old) x s' new y

-- the same under some outcomes
abbrev pub IsRun : {B X : Type 0} → Ghosts B → (X → List ℕ → Result (List ℕ) SignerFault → X → Type 0) → (X → ℕ)
    → List Command → List Answer → DeskValue B → X → DeskValue B → X → Type 0
IsRun g signs count cs answers old x new y =
    (os : List Outcome) × RunsBy g signs count old.setting cs os answers old.store x new.setting new.store y
