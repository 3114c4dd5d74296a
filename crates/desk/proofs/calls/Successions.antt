-- An identity is installed, unless it is the one that was installed last.
use Rattle.std.proofs.Common.{◌≡◌, false, List, [], ◌∷◌, ◌++◌, length, map, reverse, Option, Some, None}
use Rattle.std.proofs.Common.{Result, Ok, Err, refl, sym, ◌∙◌, ap, subst, inl, inr, arith}
use Rattle.std.proofs.lemmas.List.{reverse-append, reverse-reverse, map-append}
use Rattle.std.specs.{Prelude.option_map, Prelude.IfErr, Hash.DefaultHasher.wrapping_add}
use Rattle.book.specs.History.{Reserved, Sealed, Deposited, Calibrated, Held, Granted, Revoked, Installed, History}
use Rattle.book.specs.History.{InstalledValue, first_of}
use Rattle.book.specs.Identities.{latest_identity, installed_rows, identities, installed_as}
use Rattle.book.specs.{declared.fault.StoreFault.StoreFault, declared.rows.IdentityRow.IdentityRow}
use Rattle.book.specs.{declared.standing.Standing.Ghosts, Fault.count_after, Fault.IsOfStorage, Rows.InstalledRow}
use Rattle.book.specs.{Entries.Appends, Stands.Stands, Stands.OnlyLooks, Values.identity_view}
use Rattle.book.specs.declared.fault.StoreFault.TheVariants as store
use Rattle.desk.specs.Command.{InForce, Setting, Succeed, Done, Refused}
use Rattle.desk.specs.Effects.{only, unless, fault_of, accepted, succeed_effect}
use Rattle.desk.specs.auxiliary.Obstacles.{fault_with, hindered, outcome_with, told_with}
use Rattle.desk.specs.Outcome.{Fine, Outcome, Cause, OfMemory, OfStore, cause_of, faults_after, all_fine}
use Rattle.desk.specs.CallContract.{no_signer, IsBlamed, StepsBy, committed}
use Rattle.desk.specs.{Fit.IsFit, Shown.done_as, Succession.installed_by, Succession.is_latest}
use Rattle.desk.specs.declared.obstacle.Obstacle.TheVariants as obstacle
use Rattle.desk.proofs.calls.Fits.{by_storage, none_failed}
use Rattle.desk.proofs.{stamps.Beginnings.one_in_doubt, calls.Wrapped.wrapped}

-- the latest identity is that of the newest row
abbrev newest_in : List InstalledRow → Option InstalledValue
newest_in rows = option_map installed_as (first_of rows)

newest : (b : History) → latest_identity b ≡ newest_in (installed_rows b)
newest [] = refl
newest (Installed i ∷ b) = refl
newest (Reserved r ∷ b) = newest b
newest (Sealed n t ∷ b) = newest b
newest (Deposited d t ∷ b) = newest b
newest (Calibrated c ∷ b) = newest b
newest (Held h ∷ b) = newest b
newest (Granted n a ∷ b) = newest b
newest (Revoked n a ∷ b) = newest b

by_number : (b : History) (rows : List InstalledRow) → rows ≡ identities b → latest_identity b ≡ newest_in (reverse rows)
by_number b rows e =
    newest b ∙ ap newest_in (sym (reverse-reverse (installed_rows b)) ∙ ap reverse (sym e))

-- there is none
nothing : {A : Type 0} (xs : List A) → length xs ≡ 0 → xs ≡ []
nothing [] e = refl
nothing (x ∷ xs) e = absurd (omega arith)

pub none_installed : (b : History) (rows : List IdentityRow) → length rows ≡ 0 → map identity_view rows ≡ identities b
    → latest_identity b ≡ None
none_installed b rows none e =
    by_number b [] (sym (ap (map identity_view) (nothing rows none)) ∙ e)

-- the last row has it
pub last_installed : (b : History) (rows rest : List IdentityRow) (row : IdentityRow) → rows ≡ rest ++ (row ∷ [])
    → map identity_view rows ≡ identities b → latest_identity b ≡ Some (installed_as (identity_view row))
last_installed b rows rest row all e =
    let before = map identity_view rest in
    let last = identity_view row in
    by_number b (before ++ (last ∷ []))
    (sym (ap (map identity_view) all ∙ map-append identity_view rest (row ∷ [])) ∙ e)
    ∙ ap newest_in (reverse-append before (last ∷ []))

-- what the look-up found: another one is the latest, or none
pub record FindsOther {B : Type 0} (g : Ghosts B) (i : InstalledValue) (old mid : B) : Type 0 where
  pub looks : OnlyLooks g old mid
  pub uncounted : g.fault_count mid ≡ g.fault_count old
  pub other : g.honest mid → (b : History) → Stands g b old → false ≡ is_latest i (latest_identity b)

-- it is installed
succeeded_now : {B : Type 0} (g : Ghosts B) (s : Setting) (next : InForce) (old mid new : B)
    → FindsOther g (installed_by next.identity) old mid
    → Appends {A = Unit {0}} g (Installed (installed_by next.identity) ∷ []) mid new (Ok tt)
    → StepsBy g no_signer s (Succeed next) (all_fine (Ok [])) old new Done
succeeded_now g s next old mid new finds a = record {
  fits = (refl, (tt, tt));
  counted = a.faults ∙ finds.uncounted;
  signer = tt;
  blames = tt;
  opened = λ honest. tt;
  steps = λ honest b st met.
      let now = a.ok b (finds.looks.stands b st) (tt, tt) in
      record {
        effect = accepted (Installed (installed_by next.identity));
        has = ap (succeed_effect (all_fine (Ok [])) (installed_by next.identity)) (finds.other (a.honest honest) b st);
        says = refl;
        moves = refl;
        stands = now;
        left = λ left r. inr (inl (now.settled honest (a.opened honest).1 left r));
      };
}

-- the look-up is refused
unlooked_by : {B : Type 0} (g : Ghosts B) (s : Setting) (next : InForce) (old new : B) (o : Outcome) (cause : Cause)
    → cause_of o.looking ≡ Some cause → IsFit (Succeed next) o
    → IsBlamed g (Succeed next) o old new (Refused (fault_of cause))
    → g.fault_count new ≡ faults_after o (g.fault_count old) → OnlyLooks g old new
    → StepsBy g no_signer s (Succeed next) o old new (Refused (fault_of cause))
unlooked_by g s next old new o cause why fits blames counted looks = record {
  fits = fits;
  counted = counted;
  signer = tt;
  blames = blames;
  opened = λ honest. tt;
  steps = λ honest b st met.
      let i = installed_by next.identity in
      record {
        effect = only (Refused (fault_of cause));
        has = sym (ap (λ x. unless x (succeed_effect o i (is_latest i (latest_identity b)))) why);
        says = refl;
        moves = refl;
        stands = looks.stands b st;
        left = λ left r. inl (refl, looks.leaves honest left r);
      };
}

pub unlooked : {B : Type 0} (g : Ghosts B) (s : Setting) (next : InForce) (old new : B) (f : StoreFault) → IsOfStorage f
    → g.fault_count new ≡ count_after f (g.fault_count old) → OnlyLooks g old new
    → StepsBy g no_signer s (Succeed next) (hindered (obstacle.Looking f)) old new
    (Refused (fault_with (obstacle.Looking f)))
unlooked g s next old new =
    by_storage (λ f. g.fault_count new ≡ count_after f (g.fault_count old) → OnlyLooks g old new
    → StepsBy g no_signer s (Succeed next) (hindered (obstacle.Looking f)) old new
    (Refused (fault_with (obstacle.Looking f))))
    (unlooked_by g s next old new (hindered (obstacle.Looking store.Memory)) OfMemory refl (refl, (tt, tt))
    (none_failed _ tt tt tt tt tt tt tt tt))
    (unlooked_by g s next old new (hindered (obstacle.Looking store.Database)) OfStore refl (refl, (tt, tt))
    (inl (inr (inl refl))))

-- another one is the latest, and so the commit's answer is the succession's
succession_is : (i : InstalledValue) (o : Outcome) (b : History) → cause_of o.looking ≡ None
    → is_latest i (latest_identity b) ≡ false → (refused : Option Cause) → cause_of o.adding ≡ refused
    → unless (cause_of o.looking) (succeed_effect o i (is_latest i (latest_identity b)))
    ≡ unless refused (accepted (Installed i))
succession_is i o b looked other refused e =
    ap (λ x. unless x (succeed_effect o i (is_latest i (latest_identity b)))) looked
    ∙ (ap (succeed_effect o i) other ∙ ap (λ x. unless x (accepted (Installed i))) e)

-- the commit is refused
uninstalled_by : {B : Type 0} (g : Ghosts B) (s : Setting) (next : InForce) (old mid new : B) (o : Outcome)
    (cause : Cause) → FindsOther g (installed_by next.identity) old mid
    → cause_of o.looking ≡ None → cause_of o.adding ≡ Some cause → cause_of (committed o).looking ≡ None
    → cause_of (committed o).adding ≡ None → (o.adding ≡ Fine → o.sealing ≡ Fine → ⊥) → IsFit (Succeed next) o
    → IsBlamed g (Succeed next) o old new (Refused (fault_of cause))
    → g.fault_count new ≡ faults_after o (g.fault_count old) → (f : StoreFault)
    → Appends {A = Unit {0}} g (Installed (installed_by next.identity) ∷ []) mid new (Err f)
    → StepsBy g no_signer s (Succeed next) o old new (Refused (fault_of cause))
uninstalled_by g s next old mid new o cause finds looked why also_looked answered was_refused fits blames counted f
    a = record {
      fits = fits;
      counted = counted;
      signer = tt;
      blames = blames;
      opened = λ honest. tt;
      steps = λ honest b st met.
          let i = installed_by next.identity in
          let stood = finds.looks.stands b st in
          let other = finds.other (a.honest honest) b st in
          record {
            effect = only (Refused (fault_of cause));
            has = sym (succession_is i o b looked (sym other) (Some cause) why);
            says = refl;
            moves = refl;
            stands = a.err b stood;
            left = λ left r. elim (a.crash honest left r) [
              | inl same ↦ inl (refl, finds.looks.leaves (a.honest honest) left same)
              | inr adds ↦ inr (inr (record {
                refused = was_refused;
                doubted = accepted (Installed i);
                has = sym (succession_is i (committed o) b also_looked (sym other) None answered);
                holds = subst (λ es. g.holds left (es ++ b)) (sym (one_in_doubt o.adding (Installed i)))
                    (adds b stood (tt, tt));
              }))
            ];
          };
    }

uninstalled : {B : Type 0} (g : Ghosts B) (s : Setting) (next : InForce) (old mid new : B) (f : StoreFault)
    → FindsOther g (installed_by next.identity) old mid → IsOfStorage f
    → Appends {A = Unit {0}} g (Installed (installed_by next.identity) ∷ []) mid new (Err f)
    → StepsBy g no_signer s (Succeed next) (hindered (obstacle.Adding f)) old new
    (Refused (fault_with (obstacle.Adding f)))
uninstalled g s next old mid new f finds of =
    by_storage (λ f. Appends {A = Unit {0}} g (Installed (installed_by next.identity) ∷ []) mid new (Err f)
    → StepsBy g no_signer s (Succeed next) (hindered (obstacle.Adding f)) old new
    (Refused (fault_with (obstacle.Adding f))))
    (λ a. uninstalled_by g s next old mid new (hindered (obstacle.Adding store.Memory)) OfMemory finds refl refl refl refl
    (λ fine sealed. cc) (refl, (tt, tt)) (none_failed _ tt tt tt tt tt tt tt tt) (a.faults ∙ finds.uncounted) store.Memory a)
    (λ a. uninstalled_by g s next old mid new (hindered (obstacle.Adding store.Database)) OfStore finds refl refl refl refl
    (λ fine sealed. cc) (refl, (tt, tt)) (inl (inr (inr (inr (inr (inl refl))))))
    (a.faults ∙ ap (λ n. wrapping_add n 1) finds.uncounted) store.Database a) f of

-- what the store answers to it is told
pub addition_told : {B : Type 0} (g : Ghosts B) (s : Setting) (next : InForce) (old mid new : B)
    (r : Result (Unit {0}) StoreFault) → FindsOther g (installed_by next.identity) old mid → IfErr r IsOfStorage
    → Appends {A = Unit {0}} g (Installed (installed_by next.identity) ∷ []) mid new r
    → StepsBy g no_signer s (Succeed next) (outcome_with (wrapped obstacle.Adding r)) old new
    (told_with done_as (wrapped obstacle.Adding r))
addition_told g s next old mid new (Ok tt) finds of a = succeeded_now g s next old mid new finds a
addition_told g s next old mid new (Err f) finds of a = uninstalled g s next old mid new f finds of a
