-- Stamps that are answered together: what is asked, what comes of it, and what a stop after them may leave.
use Rattle.std.specs.Prelude.{◌≡◌, ℕ, ◌⊎◌, List, [], ◌∷◌, ◌++◌, map, Result, Ok, Err}
use Rattle.std.specs.List.{AllByRecursion}
use Rattle.policy.specs.Record.{PolicyValue}
use Rattle.tsp.specs.{Rules.IsFirstFailing, declared.rule.Rule.Rule}
use Rattle.cms.specs.{Signer.count_after_each, declared.signer.SignerFault.SignerFault}
use Rattle.cms.specs.declared.signer.SignerFault.TheVariants as signer
use Rattle.decide.specs.View.{account_asked}
use Rattle.book.specs.{declared.standing.Standing.Ghosts, History.Entry, History.Reserved, History.History}
use Rattle.book.specs.{History.ReservationValue, Shows.ShowsSame, Sound.IsSound, Stands.Stands, Stands.OnlyLooks}
use Rattle.desk.specs.Outcome.{Call, Fine, Outcome, counted}
use Rattle.desk.specs.Command.{Setting, Answer, Rejected}
use Rattle.desk.specs.Batches.{Question, SealValue, stamp_for, stamps_for, seal_entry, with_reserved}
use Rattle.desk.specs.{MachineRuns.Runs, MachineRuns.Told, RunContract.ArePromised, Findings.HoldsUnasked}
use Rattle.desk.specs.{Batches.IsCutTogether, Batches.faults_along, Commits.IsCommitted, Commits.if_accepted}
use Rattle.desk.specs.{Effects.name_of, Fit.IsFit, declared.batch.Asked.Asked, declared.findings.Requested.Requested}

abbrev pub question_view : Asked → Question
question_view a = record { account = account_asked a.account; reading = a.reading; octets = a.query.now }

-- of a request that was read of these octets
abbrev pub question_with : Requested → List ℕ → Question
question_with r octets = record { account = account_asked r.account; reading = r.reading; octets = octets }

abbrev pub questions_view : List Asked → List Question
questions_view asked = map question_view asked

-- the outcomes fit their stamps: the calls that they don't make are fine
abbrev pub AreFit : List Question → List Outcome → Type 0
AreFit [] [] = Unit {0}
AreFit (a ∷ asked) (o ∷ os) = IsFit (stamp_for a) o × AreFit asked os
AreFit [] (o ∷ os) = ⊥
AreFit (a ∷ asked) [] = ⊥

-- the signer answers each the same, or its answer never comes
abbrev pub AreSignedAlike : List Outcome → List Outcome → Type 0
AreSignedAlike [] [] = Unit {0}
AreSignedAlike (o ∷ os) (other ∷ others) =
    ((other.signing ≡ o.signing) ⊎ (other.signing ≡ Err signer.Memory)) × AreSignedAlike os others
AreSignedAlike [] (other ∷ others) = ⊥
AreSignedAlike (o ∷ os) [] = ⊥

-- each of them is a rejection
abbrev pub AreRejections : List Answer → Type 0
AreRejections answers = AllByRecursion (λ answer. (rule : Rule) × (answer ≡ Rejected rule)) answers

-- One of the two commits was refused, and with it each of the stamps: where it is there after all, a history that shows
-- what the last one shows, with what was in doubt.
pub record IsDoubtedTogether {B : Type 0} (g : Ghosts B) (s : Setting) (asked : List Question) (os : List Outcome)
    (answers : List Answer) (b last : History) (left : g.Left) : Type 0 where
  pub refused : AreRejections answers
  pub history : History
  pub doubted : List Entry
  pub same : ShowsSame history (doubted ++ last)
  -- It is what a stop in a run over the stamps leaves,
  pub cut : (w : List Told) → IsCutTogether s asked b w history
  -- in which nothing is signed otherwise.
  pub signed : (w : List Told) → AreSignedAlike os (cut w).outcomes
  pub holds : g.holds left history

-- What a stop after the stamps may leave: where nothing was added, what it could leave before; the history after them;
-- or what a refused commit left in doubt.
abbrev pub MayBeLeftTogether : {B : Type 0} → (g : Ghosts B) → Setting → List Question → List Outcome → List Answer
    → History → B → History → g.Left → Type 0
MayBeLeftTogether g s asked os answers b old last left =
    ((last ≡ b) × g.leaves old left) ⊎ (g.holds left last ⊎ IsDoubtedTogether g s asked os answers b last left)

-- From a history that the store stood for: the answers, the history that follows and the signer are a run of the
-- machine over the stamps, one after the other, in their order; the store stands for that history, and so does what a
-- stop leaves.
pub record RunsTogether {B S : Type 0} (g : Ghosts B) (signs : S → List ℕ → Result (List ℕ) SignerFault → S → Type 0)
    (s : Setting) (asked : List Question) (os : List Outcome) (answers : List Answer) (b : History) (old : B) (x : S)
    (new : B) (y : S) : Type 0 where
  pub history : History
  pub runs : Runs signs s (stamps_for asked) os b x answers history y
  pub stands : Stands g history new
  pub left : (left : g.Left) → g.leaves new left → MayBeLeftTogether g s asked os answers b old history left
  -- Of each stamp: what it has signed, grants, and tells of others.
  pub promises : ArePromised s (stamps_for asked) os answers b

-- a stamp fails one of the rules 1 to 9
abbrev pub FailsUnasked : PolicyValue → Question → Type 0
FailsUnasked file a = (rule : Rule) × IsFirstFailing (HoldsUnasked file a.account a.octets) rule

-- each stamp that fails one of the rules 1 to 9 is rejected by the first, and nothing is signed for it
abbrev pub AreRejectedUnasked : PolicyValue → List Question → List Answer → List Outcome → Type 0
AreRejectedUnasked file [] [] [] = Unit {0}
AreRejectedUnasked file (a ∷ asked) (answer ∷ answers) (o ∷ os) =
    ((rule : Rule) → IsFirstFailing (HoldsUnasked file a.account a.octets) rule
    → (answer ≡ Rejected rule) × (o.signing ≡ Ok []))
    × AreRejectedUnasked file asked answers os
AreRejectedUnasked file [] [] (o ∷ os) = ⊥
AreRejectedUnasked file [] (answer ∷ answers) os = ⊥
AreRejectedUnasked file (a ∷ asked) [] os = ⊥
AreRejectedUnasked file (a ∷ asked) (answer ∷ answers) [] = ⊥

-- in their order, each of these is of another of those, at most one of each
abbrev pub AreOfSome : {X Y : Type 0} → (X → Y → Type 0) → List X → List Y → Type 0
AreOfSome IsOf xs [] = Unit {0}
AreOfSome IsOf [] (y ∷ ys) = ⊥
AreOfSome IsOf (x ∷ xs) (y ∷ ys) = (IsOf x y × AreOfSome IsOf xs ys) ⊎ AreOfSome IsOf xs (y ∷ ys)

-- it is for a stamp that passes the rules 1 to 9, by its octets
abbrev pub IsForPassing : PolicyValue → Question → ReservationValue → Type 0
IsForPassing file a r = (FailsUnasked file a → ⊥) × (r.account ≡ name_of a.account) × (r.request ≡ a.octets)

-- The two commits, whatever the store returns: of reservations for stamps that pass the rules 1 to 9, and, once they
-- are accepted, of tokens under their numbers. Besides, the store is only looked at.
pub record IsCommittedTogether {B : Type 0} (g : Ghosts B) (file : PolicyValue) (asked : List Question)
    (reserving sealing : Call) (old new : B) : Type 0 where
  pub reserved : List ReservationValue
  pub passing : AreOfSome (IsForPassing file) asked reserved
  -- there are histories that they fit, so that their commit is of none else
  pub fit : IsSound (with_reserved reserved [])
  pub sealed : List SealValue
  pub numbers : AreOfSome (λ r v. v.serial ≡ r.serial) (if_accepted reserving reserved) sealed
  -- the store before and after the first, and before the second
  pub judged : B
  pub held : B
  pub signed : B
  pub looks : OnlyLooks g old judged
  pub reserves : IsCommitted g (map Reserved reserved) judged held reserving
  pub waits : OnlyLooks g held signed
  pub seals : IsCommitted g (map seal_entry sealed) signed new sealing

-- Stamps that are answered together are a run, under outcomes that fit them. The store counts what their judging met,
-- and the two commits. By the rules 1 to 9 each is judged whatever store and signer do, and nothing is added for one
-- that fails one of them; where nothing is reserved, the signer isn't asked.
pub record IsAnsweredTogether {B S : Type 0} (g : Ghosts B)
    (signs : S → List ℕ → Result (List ℕ) SignerFault → S → Type 0) (count : S → ℕ) (s : Setting)
    (asked : List Question) (answers : List Answer) (old : B) (x : S) (new : B) (y : S) : Type 0 where
  pub outcomes : List Outcome
  pub fits : AreFit asked outcomes
  -- what the judging met, which commits nothing
  pub looks : List Outcome
  pub uncommitted : AllByRecursion (λ o. (o.adding ≡ Fine) × (o.sealing ≡ Fine)) looks
  pub reserving : Call
  pub sealing : Call
  pub counted : g.fault_count new ≡ counted sealing (counted reserving (faults_along looks (g.fault_count old)))
  pub signer : count y ≡ count_after_each (map (λ o. o.signing) outcomes) (count x)
  pub judged : AreRejectedUnasked s.file asked answers outcomes
  pub commits : IsCommittedTogether g s.file asked reserving sealing old new
  pub unasked : if_accepted reserving commits.reserved ≡ [] → y ≡ x
  pub run : g.honest new → (b : History) → Stands g b old → RunsTogether g signs s asked outcomes answers b old x new y
