-- A right is entered, or refused.
use Rattle.std.proofs.Common.{◌≡◌, ℕ, cond, Bool, true, false, List, [], ◌∷◌, ◌++◌, Option, Some, None, Ok, Err, refl}
use Rattle.std.proofs.Common.{sym, ap, ◌∙◌, subst, inl, inr}
use Rattle.std.specs.{Prelude.Result, Prelude.IfErr, Prelude.MatchResult, Str.bytes_eq, Hash.DefaultHasher.wrapping_add}
use Rattle.policy.specs.Record.{AccountValue, PolicyValue}
use Rattle.book.specs.Rights.{is_of, is_own, seen_by}
use Rattle.book.specs.{declared.fault.StoreFault.StoreFault, declared.standing.Standing.Ghosts, Fault.IsOfStorage}
use Rattle.book.specs.{History.Entry, History.History, Readers.Reader, Readers.Viewer, Rows.DepositRow, Sound.Fits}
use Rattle.book.specs.{Sound.FitsRight, Entries.Appends, Stands.Stands, Stands.OnlyLooks}
use Rattle.book.specs.declared.fault.StoreFault.TheVariants as store
use Rattle.desk.specs.Command.{Setting, Answer, Done, Refused}
use Rattle.desk.specs.Effects.{Effect, only, unless, fault_of, objection, accepted, unless_against, right_effect}
use Rattle.desk.specs.auxiliary.Obstacles.{fault_with, hindered, outcome_with, IsOfRight, IsOpposed}
use Rattle.desk.specs.auxiliary.Obstacles.{told_with, MayName, MayNot, Owns}
use Rattle.desk.specs.Outcome.{Call, Fine, OutOfMemory, Failed, Outcome, Cause, OfMemory, OfStore, cause_of}
use Rattle.desk.specs.CallContract.{no_signer, IsBlamed, IsOpened, StepsBy, committed}
use Rattle.desk.specs.declared.rights.Change.TheVariants.{Give, Take}
use Rattle.desk.specs.{Asked.right_command, Asked.right_entry, Outcome.faults_after, Outcome.all_fine}
use Rattle.desk.specs.{MachineStep.HasEffect, Fit.IsFit, Shown.done_as, Viewers.viewer_in, declared.fault.Fault.Fault}
use Rattle.desk.specs.{declared.obstacle.Obstacle.Obstacle, declared.rights.Change.Change}
use Rattle.desk.specs.declared.fault.Fault.TheVariants as fault
use Rattle.desk.specs.declared.obstacle.Obstacle.TheVariants as obstacle
use Rattle.desk.proofs.calls.Fits.{by_storage, none_failed}
use Rattle.desk.proofs.{documents.Denied.denied, stamps.Beginnings.one_in_doubt, documents.Sighted.may_see}
use Rattle.desk.proofs.{journeys.StepFacts.right_seen, calls.Wrapped.wrapped}

-- what is seen is whose it is asked for
pub owned : (viewer : Viewer) (account : List ℕ) (n : ℕ) (b : History) (d : DepositRow) (owns : Bool)
    → seen_by viewer n b ≡ Some d → owns ≡ is_own account n b → bytes_eq d.owner account ≡ owns
owned viewer account n b d owns seen is = sym (is ∙ ap (is_of account) (may_see viewer n b d seen).deposited)

-- the owner may give a right, or what is against it stands in the way
pub named_by : {A : Type 0} (file : PolicyValue) (account : List ℕ) (reader : Reader) (n : ℕ) (b : History)
    (d : DepositRow) (r : Result A Obstacle) → Owns file account n b d
    → MatchResult r (λ _. objection file account reader ≡ None) (IsOpposed file account reader)
    → MatchResult r (λ _. MayName file account reader n b) (MayNot file account reader n b)
named_by file account reader n b d (Ok a) own h = record { deposit = d; own = own; unopposed = h }
named_by file account reader n b d (Err (obstacle.Denied f)) own h = inr (inr (d, own, h))
named_by file account reader n b d (Err (obstacle.Searching f)) own h = absurd h
named_by file account reader n b d (Err (obstacle.Looking f)) own h = absurd h
named_by file account reader n b d (Err obstacle.OutOfMemory) own h = absurd h
named_by file account reader n b d (Err (obstacle.Adding f)) own h = absurd h

-- a right to the deposit with a number, which its owner gives a reader or takes
module _ (s : Setting) (a : AccountValue) (n : ℕ) (reader : Reader) where
  -- the effect of its entry on a history
  abbrev righted : Entry → Outcome → History → Effect
  righted entry o b = unless (cause_of o.searching)
      (right_effect s.file a.name reader o entry (seen_by (viewer_in s.file a.name) n b))

  -- is that of the command
  righting : (change : Change) (o : Outcome) (b : History) (e : Effect)
      → e ≡ righted (right_entry change n reader) o b → HasEffect s (right_command change a n reader) o b e
  righting Give o b e h = h
  righting Take o b e h = h

  right_fits : (change : Change) (b : History) → FitsRight n b → Fits (right_entry change n reader) b
  right_fits Give b fits = fits
  right_fits Take b fits = fits

  -- the calls that the command makes
  calls_fit : (change : Change) (searching looking adding : Call) → IsFit (right_command change a n reader)
      (record (all_fine (Ok [])) { searching = searching; looking = looking; adding = adding })
  calls_fit Give searching looking adding = (refl, (tt, tt))
  calls_fit Take searching looking adding = (refl, (tt, tt))

  right_opens : {B : Type 0} (g : Ghosts B) (change : Change) (new : B) → g.is_open new
      → IsOpened g (right_command change a n reader) Done new
  right_opens g Give new opened = opened
  right_opens g Take new opened = opened

  abbrev named : Option Cause → Entry → Bool → Option Fault → Effect
  named refused entry owns against =
      cond owns (unless_against against (unless refused (accepted entry))) (only (Refused fault.NotOwner))

  right_is : (o : Outcome) (entry : Entry) (d : DepositRow) (seen : Option DepositRow) (owns : Bool)
      (against : Option Fault) → cause_of o.looking ≡ None → seen ≡ Some d → bytes_eq d.owner a.name ≡ owns
      → objection s.file a.name reader ≡ against
      → right_effect s.file a.name reader o entry seen ≡ named (cause_of o.adding) entry owns against
  right_is o entry d seen owns against looked is e f =
      let r = cause_of o.adding in
      ap (right_effect s.file a.name reader o entry) is
      ∙ (ap (λ x. unless x (named r entry (bytes_eq d.owner a.name) (objection s.file a.name reader))) looked
      ∙ (ap (λ x. named r entry x (objection s.file a.name reader)) e ∙ ap (λ x. named r entry owns x) f))

  -- the account may, and so the entry stands where the commit is answered
  made : (b : History) (entry : Entry) (o : Outcome) → MayName s.file a.name reader n b → cause_of o.searching ≡ None
      → cause_of o.looking ≡ None → (refused : Option Cause) → cause_of o.adding ≡ refused
      → righted entry o b ≡ unless refused (accepted entry)
  made b entry o m searched looked refused e =
      let seen = seen_by (viewer_in s.file a.name) n b in
      ap (λ x. unless x (right_effect s.file a.name reader o entry seen)) searched
      ∙ (right_is o entry m.deposit seen true None looked m.own.seen m.own.owns m.unopposed
      ∙ ap (λ x. unless x (accepted entry)) e)

  -- the owner may not, for this fault
  opposed : (b : History) (entry : Entry) (d : DepositRow) (f : Fault) → Owns s.file a.name n b d
      → objection s.file a.name reader ≡ Some f → righted entry (all_fine (Ok [])) b ≡ only (Refused f)
  opposed b entry d f own against =
      right_is (all_fine (Ok [])) entry d (seen_by (viewer_in s.file a.name) n b) true (Some f) refl own.seen own.owns
      against

  hidden : (entry : Entry) (b : History) (x : Obstacle) → IsOfRight reader x → MayNot s.file a.name reader n b x
      → righted entry (hindered x) b ≡ only (Refused (fault_with x))
  hidden entry b (obstacle.Denied f) of (inl may) =
      ap (right_effect s.file a.name reader (all_fine (Ok [])) entry) may.1 ∙ ap (λ f. only (Refused f)) (sym may.0)
  hidden entry b (obstacle.Denied f) of (inr (inl may)) =
      right_is (all_fine (Ok [])) entry may.1 (seen_by (viewer_in s.file a.name) n b) false
      (objection s.file a.name reader) refl may.2 may.3 refl ∙ ap (λ f. only (Refused f)) (sym may.0)
  hidden entry b (obstacle.Denied f) of (inr (inr may)) = opposed b entry may.0 f may.1 may.2
  hidden entry b (obstacle.Searching f) of may =
      by_storage (λ f. righted entry (hindered (obstacle.Searching f)) b
      ≡ only (Refused (fault_with (obstacle.Searching f)))) refl refl f of
  hidden entry b (obstacle.Looking f) of may =
      by_storage (λ f. righted entry (hindered (obstacle.Looking f)) b ≡ only (Refused (fault_with (obstacle.Looking f))))
      (ap (right_effect s.file a.name reader (hindered (obstacle.Looking store.Memory)) entry) may.1)
      (ap (right_effect s.file a.name reader (hindered (obstacle.Looking store.Database)) entry) may.1) f of
  hidden entry b obstacle.OutOfMemory of may = absurd of
  hidden entry b (obstacle.Adding f) of may = absurd of

module _ {B : Type 0} (g : Ghosts B) (s : Setting) (a : AccountValue) (n : ℕ) (reader : Reader) (change : Change)
    (old mid new : B) where
  abbrev Changes : Outcome → B → Answer → Type 0
  Changes o after says = StepsBy g no_signer s (right_command change a n reader) o old after says

  -- the look-ups tell why the right stays as it is
  pub right_denied : (x : Obstacle) → IsOfRight reader x → OnlyLooks g old mid
      → g.fault_count mid ≡ faults_after (hindered x) (g.fault_count old)
      → (g.honest mid → (b : History) → Stands g b old → MayNot s.file a.name reader n b x)
      → Changes (hindered x) mid (Refused (fault_with x))
  right_denied x of looks counted may =
      denied reader g s (right_command change a n reader) old mid x
      (λ searching looking. calls_fit s a n reader change searching looking Fine) (λ f. tt) of looks counted
      (λ honest b st. righting s a n reader change (hindered x) b (only (Refused (fault_with x)))
      (sym (hidden s a n reader (right_entry change n reader) b x of (may honest b st))))

  -- what the look-ups before the commit found
  pub record Allows : Type 0 where
    pub looks : OnlyLooks g old mid
    pub uncounted : g.fault_count mid ≡ g.fault_count old
    pub may : g.honest mid → (b : History) → Stands g b old → MayName s.file a.name reader n b

  abbrev Adds : Result (Unit {0}) StoreFault → Type 0
  Adds r = Appends g (right_entry change n reader ∷ []) mid new r

  abbrev refusing : Call → Outcome
  refusing adding = record (all_fine (Ok [])) { adding = adding }

  fits_then : (b : History) → MayName s.file a.name reader n b → Fits (right_entry change n reader) b
  fits_then b m =
      right_fits s a n reader change b (right_seen (viewer_in s.file a.name) n b m.deposit m.own.seen)

  -- the right is entered
  right_entered : Allows → Adds (Ok tt) → Changes (all_fine (Ok [])) new Done
  right_entered allows x = record {
    fits = calls_fit s a n reader change Fine Fine Fine;
    counted = x.faults ∙ allows.uncounted;
    signer = tt;
    blames = tt;
    opened = λ honest. right_opens s a n reader g change new (x.opened honest).1;
    steps = λ honest b st met.
        let entry = right_entry change n reader in
        let m = allows.may (x.honest honest) b st in
        let now = x.ok b (allows.looks.stands b st) (fits_then b m, tt) in
        record {
          effect = accepted entry;
          has = righting s a n reader change (all_fine (Ok [])) b (accepted entry)
              (sym (made s a n reader b entry (all_fine (Ok [])) m refl refl None refl));
          says = refl;
          moves = refl;
          stands = now;
          left = λ left r. inr (inl (now.settled honest (x.opened honest).1 left r));
        };
  }

  -- the store refuses to add it by this fault
  refused_as : (adding : Call) (cause : Cause) → Allows → cause_of adding ≡ Some cause → (adding ≡ Fine → ⊥)
      → IsBlamed g (right_command change a n reader) (refusing adding) old new (Refused (fault_of cause))
      → g.fault_count new ≡ faults_after (refusing adding) (g.fault_count old) → (f : StoreFault) → Adds (Err f)
      → Changes (refusing adding) new (Refused (fault_of cause))
  refused_as adding cause allows why was_refused blames counted f x =
      let entry = right_entry change n reader in
      let o = refusing adding in
      record {
        fits = calls_fit s a n reader change Fine Fine adding;
        counted = counted;
        signer = tt;
        blames = blames;
        opened = λ honest. tt;
        steps = λ honest b st met.
            let m = allows.may (x.honest honest) b st in
            let stood = allows.looks.stands b st in
            record {
              effect = only (Refused (fault_of cause));
              has = righting s a n reader change o b (only (Refused (fault_of cause)))
                  (sym (made s a n reader b entry o m refl refl (Some cause) why));
              says = refl;
              moves = refl;
              stands = x.err b stood;
              left = λ left r. elim (x.crash honest left r) [
                | inl same ↦ inl (refl, allows.looks.leaves (x.honest honest) left same)
                | inr adds ↦ inr (inr (record {
                  refused = λ fine sealed. was_refused fine;
                  doubted = accepted entry;
                  has = righting s a n reader change (committed o) b (accepted entry)
                      (sym (made s a n reader b entry (committed o) m refl refl None refl));
                  holds = subst (λ es. g.holds left (es ++ b)) (sym (one_in_doubt adding entry))
                      (adds b stood (fits_then b m, tt));
                }))
              ];
            };
      }

  right_refused : (f : StoreFault) → Allows → IsOfStorage f → Adds (Err f)
      → Changes (hindered (obstacle.Adding f)) new (Refused (fault_with (obstacle.Adding f)))
  right_refused f allows of =
      by_storage (λ f. Adds (Err f) → Changes (hindered (obstacle.Adding f)) new (Refused (fault_with (obstacle.Adding f))))
      (λ x. refused_as OutOfMemory OfMemory allows refl (λ fine. cc) (none_failed _ tt tt tt tt tt tt tt tt)
      (x.faults ∙ allows.uncounted) store.Memory x)
      (λ x. refused_as Failed OfStore allows refl (λ fine. cc) (inl (inr (inr (inr (inr (inl refl))))))
      (x.faults ∙ ap (λ n. wrapping_add n 1) allows.uncounted) store.Database x) f of

  -- what the store answers to it is told
  pub right_told : (r : Result (Unit {0}) StoreFault) → Allows → IfErr r IsOfStorage → Adds r
      → Changes (outcome_with (wrapped obstacle.Adding r)) new (told_with done_as (wrapped obstacle.Adding r))
  right_told (Ok tt) allows of x = right_entered allows x
  right_told (Err f) allows of x = right_refused f allows of x
