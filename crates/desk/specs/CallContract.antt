-- A call of the program is a step of the machine: what each call's contract says.
use Rattle.std.specs.Prelude.{◌≡◌, ℕ, ◌≤◌, ◌⊎◌, true, false, List, [], ◌∷◌, ◌++◌, Option, None, Result, Ok, Err}
use Rattle.book.specs.History.{Entry, Installed, History, greatest_serial, latest_calibration}
use Rattle.book.specs.{declared.standing.Standing.Ghosts, Sound.IsBackwards, Sound.greatest_number, Stands.Stands}
use Rattle.cms.specs.{Signer.count_after, declared.signer.SignerFault.SignerFault}
use Rattle.cms.specs.declared.signer.SignerFault.TheVariants as signer
use Rattle.desk.specs.Outcome.{Call, Fine, Failed, Outcome, faults_after}
use Rattle.desk.specs.Command.{InForce, Setting, Command, Stamp, Begin, Abandon, Deposit, Calibrate, Succeed, Answer}
use Rattle.desk.specs.Command.{Stamped, Rejected, Begun, Kept, Shown, Listed, Done, Numbered}
use Rattle.desk.specs.{Fit.IsFit, Fit.HasNoneFailed, Command.Refused, Command.setting_after, declared.fault.Fault.Fault}
use Rattle.desk.specs.{Effects.Effect, MachineStep.HasEffect, MachineStep.IsMet, MachineStep.Moves, MachineRuns.after}
use Rattle.desk.specs.{Promises.KeepsPromises, Succession.installed_by, Succession.IsInForce}
use Rattle.desk.specs.declared.fault.Fault.TheVariants as fault

-- a desk: by what it answers, and its store
pub record DeskValue (B : Type 0) : Type 0 where
  pub setting : Setting
  pub store : B

-- a desk of this setting, over this store
abbrev pub desk_of : {B : Type 0} → Setting → B → DeskValue B
desk_of s store = record { setting = s; store = store }

-- the desk with another store
abbrev pub with_store : {B : Type 0} → DeskValue B → B → DeskValue B
with_store desk store = record desk { store = store }

-- the signer in a call: how its count of faults goes on, and how it moves by the text that it is asked to sign
pub record SignerStep : Type 1 where
  pub counts : Result (List ℕ) SignerFault → Type 0
  pub moves : Option (List ℕ) → Result (List ℕ) SignerFault → Type 0

-- no signer is there, so none is asked
abbrev pub no_signer : SignerStep
no_signer = record { counts = λ answer. Unit {0}; moves = λ asked answer. asked ≡ None }

-- the signer before the call, and after it
abbrev pub with_signer : {X : Type 0} → (X → List ℕ → Result (List ℕ) SignerFault → X → Type 0) → (X → ℕ) → X → X
    → SignerStep
with_signer signs count before after = record {
  counts = λ answer. count after ≡ count_after answer (count before);
  moves = λ asked answer. Moves signs asked answer before after;
}

-- the same outcome where both commits are answered
abbrev pub committed : Outcome → Outcome
committed o = record o { adding = Fine; sealing = Fine }

-- the first that was added
abbrev pub oldest : List Entry → List Entry
oldest [] = []
oldest (e ∷ []) = e ∷ []
oldest (e ∷ d ∷ es) = oldest (d ∷ es)

-- What is in doubt of a command's entries: where the first commit was refused, which is the reservation's, that alone,
-- since nothing came after it; else all.
abbrev pub in_doubt : Call → List Entry → List Entry
in_doubt Fine entries = entries
in_doubt _ entries = oldest entries

-- A commit was refused: the history with what it would have added, where it is there after all.
pub record IsDoubted {B : Type 0} (g : Ghosts B) (s : Setting) (c : Command) (o : Outcome) (b : History) (left : g.Left)
    : Type 0 where
  pub refused : o.adding ≡ Fine → o.sealing ≡ Fine → ⊥
  pub doubted : Effect
  pub has : HasEffect s c (committed o) b doubted
  pub holds : g.holds left (in_doubt o.adding doubted.adds ++ b)

-- What a stop after the call may leave: where nothing was added, what it could leave before; the history with what
-- was added; or, in doubt, with what the refused commit would have added too.
abbrev pub MayBeLeft : {B : Type 0} → (g : Ghosts B) → Setting → Command → Outcome → History → B → Effect → g.Left
    → Type 0
MayBeLeft g s c o b old e left =
    ((e.adds ≡ []) × g.leaves old left) ⊎ (g.holds left (after e b) ⊎ IsDoubted g s c o b left)

-- What holds after a call, where the store stood for the history b: the answer is that of the command's effect, the
-- signer moved by it, the store stands for the history with what the effect adds, and so does what a stop leaves.
pub record HasStepped {B : Type 0} (g : Ghosts B) (t : SignerStep) (s : Setting) (c : Command) (o : Outcome)
    (b : History) (old new : B) (answer : Answer) : Type 0 where
  pub effect : Effect
  pub has : HasEffect s c o b effect
  pub says : answer ≡ effect.says
  pub moves : t.moves effect.asks o.signing
  pub stands : Stands g (after effect b) new
  pub left : (left : g.Left) → g.leaves new left → MayBeLeft g s c o b old effect left

-- one of the store's calls was refused for a cause that the store counts
abbrev pub HasStoreFailed : Outcome → Type 0
HasStoreFailed o = (o.searching ≡ Failed) ⊎ ((o.looking ≡ Failed) ⊎ ((o.counting ≡ Failed) ⊎ ((o.growing ≡ Failed)
    ⊎ ((o.adding ≡ Failed) ⊎ ((o.wrapping ≡ Failed) ⊎ (o.sealing ≡ Failed))))))

-- while the store returns what was written, no serial number is left
abbrev pub IsSpentIn : {B : Type 0} → Ghosts B → B → B → Type 0
IsSpentIn g old new = g.honest new → (b : History) → Stands g b old → greatest_number ≤ greatest_serial b

-- Why the store is named though it didn't fail: no serial number is left, or the calibration is before the last one.
-- Nothing excuses it in any other command, whatever it returns.
abbrev pub IsExcused : {B : Type 0} → Ghosts B → Command → B → B → Type 0
IsExcused g (Stamp account reading octets) old new = IsSpentIn g old new
IsExcused g (Begin account reading octets) old new = IsSpentIn g old new
IsExcused g (Deposit a reading reference bytes) old new = IsSpentIn g old new
IsExcused g (Calibrate c) old new =
    g.honest new → (b : History) → Stands g b old → IsBackwards c (latest_calibration b)
IsExcused g _ old new = ⊥

-- Store and signer are named only where they failed and counted it, and the store where it is excused. Want of memory
-- is named only where neither did.
abbrev pub IsBlamedFor : {B : Type 0} → Ghosts B → Command → Outcome → B → B → Fault → Type 0
IsBlamedFor g c o old new fault.NotHere = Unit {0}
IsBlamedFor g c o old new fault.NotOwner = Unit {0}
IsBlamedFor g c o old new fault.Conflict = Unit {0}
IsBlamedFor g c o old new fault.UnknownReader = Unit {0}
IsBlamedFor g c o old new fault.UnknownGroup = Unit {0}
IsBlamedFor g c o old new fault.SelfGrant = Unit {0}
IsBlamedFor g c o old new fault.TooLarge = Unit {0}
IsBlamedFor g c o old new (fault.Rejected rule) = Unit {0}
IsBlamedFor g c o old new fault.Memory = HasNoneFailed o
IsBlamedFor g c o old new fault.Store = HasStoreFailed o ⊎ IsExcused g c old new
IsBlamedFor g c o old new fault.Signer = o.signing ≡ Err signer.Failed

abbrev pub IsBlamed : {B : Type 0} → Ghosts B → Command → Outcome → B → B → Answer → Type 0
IsBlamed g c o old new (Stamped serial octets) = Unit {0}
IsBlamed g c o old new (Rejected rule) = Unit {0}
IsBlamed g c o old new (Begun p) = Unit {0}
IsBlamed g c o old new (Kept number is_new) = Unit {0}
IsBlamed g c o old new (Shown octets) = Unit {0}
IsBlamed g c o old new (Listed rows) = Unit {0}
IsBlamed g c o old new Done = Unit {0}
IsBlamed g c o old new (Numbered number) = Unit {0}
IsBlamed g c o old new (Refused f) = IsBlamedFor g c o old new f

-- What is done was committed, but for an abandonment, which commits nothing, and a succession, which may find its
-- identity installed: of that the calls say it themselves, before it and after it.
abbrev pub IsOpenedOnceDone : {B : Type 0} → Ghosts B → Command → B → Type 0
IsOpenedOnceDone g (Abandon p) new = Unit {0}
IsOpenedOnceDone g (Succeed next) new = Unit {0}
IsOpenedOnceDone g _ new = g.is_open new

-- After a call that acknowledges what it committed, the store is open: a store whose connection is shut stands for
-- every history. A known deposit, what is shown or listed, a rejection and a refusal acknowledge no commit.
abbrev pub IsOpened : {B : Type 0} → Ghosts B → Command → Answer → B → Type 0
IsOpened g c (Stamped serial octets) new = g.is_open new
IsOpened g c (Rejected rule) new = Unit {0}
IsOpened g c (Begun p) new = g.is_open new
IsOpened g c (Kept number true) new = g.is_open new
IsOpened g c (Kept number false) new = Unit {0}
IsOpened g c (Shown octets) new = Unit {0}
IsOpened g c (Listed rows) new = Unit {0}
IsOpened g c Done new = IsOpenedOnceDone g c new
IsOpened g c (Numbered number) new = g.is_open new
IsOpened g c (Refused f) new = Unit {0}

-- A call is a step of the machine under an outcome, in which the calls that the command doesn't make are fine. The
-- counts of faults of store and signer are the outcome's, and they are named only where the outcome says that they
-- failed, or the store is excused, whatever it returns. While it returns what was written, what holds after it is the
-- step's, from each history that the store stood for, and of which P holds.
pub record StepsWhere {B : Type 0} (g : Ghosts B) (t : SignerStep) (s : Setting) (c : Command) (P : History → Type 0)
    (o : Outcome) (old new : B) (answer : Answer) : Type 0 where
  pub fits : IsFit c o
  pub counted : g.fault_count new ≡ faults_after o (g.fault_count old)
  pub signer : t.counts o.signing
  pub blames : IsBlamed g c o old new answer
  pub opened : g.honest new → IsOpened g c answer new
  pub steps : g.honest new → (b : History) → Stands g b old → P b → HasStepped g t s c o b old new answer

-- the same where the caller's condition is met
abbrev pub StepsBy : {B : Type 0} → Ghosts B → SignerStep → Setting → Command → Outcome → B → B → Answer → Type 0
StepsBy g t s c o old new answer = StepsWhere g t s c (IsMet c) o old new answer

-- the same under some outcome: a stepping stone of the proofs
abbrev pub IsBareStep : {B : Type 0} → Ghosts B → SignerStep → Setting → Command → B → B → Answer
    → Type 0
IsBareStep g t s c old new answer = (o : Outcome) × StepsBy g t s c o old new answer

-- A call is a step of the machine, and what is promised of a command holds of this step's effect.
pub record IsStepBy {B : Type 0} (g : Ghosts B) (t : SignerStep) (s : Setting) (c : Command) (o : Outcome)
    (old new : B) (answer : Answer) : Type 0 where
  pub step : StepsBy g t s c o old new answer
  pub promises : (honest : g.honest new) (b : History) (stands : Stands g b old) (met : IsMet c b)
      → KeepsPromises s c o b (step.steps honest b stands met).effect

-- A call of a desk is such a step, under some outcome, from the desk before it to the desk after it: the policy file
-- stays, and so does what is in force, unless it is succeeded.
pub record IsStep {B : Type 0} (g : Ghosts B) (t : SignerStep) (c : Command) (old new : DeskValue B) (answer : Answer)
    : Type 0 where
  pub setting : new.setting ≡ setting_after old.setting c answer
  pub outcome : Outcome
  pub by : IsStepBy g t old.setting c outcome old.store new.store answer

-- What an opening by a setting answers: a desk of it, or a refusal, with the store handed back. What is in force is
-- brought as a succession brings it.
abbrev pub HasOpened : {B : Type 0} → Ghosts B → Setting → B → Result (DeskValue B) (Fault × B) → Type 0
HasOpened g s store (Ok desk) =
    (desk.setting ≡ s) × IsStep g no_signer (Succeed s.in_force) (desk_of s store) desk Done
HasOpened g s store (Err refusal) =
    IsStep g no_signer (Succeed s.in_force) (desk_of s store) (desk_of s refusal.1) (Refused refusal.0)

-- From each history that the store stood for, it stands for one whose latest identity is the one in force: for that
-- history, or, open, for that with the identity installed.
pub record StandsInForce {B : Type 0} (g : Ghosts B) (k : InForce) (b : History) (new : B) : Type 0 where
  pub history : History
  pub adds : (history ≡ b) ⊎ ((history ≡ Installed (installed_by k.identity) ∷ b) × g.is_open new)
  pub stands : Stands g history new
  pub in_force : IsInForce k history
