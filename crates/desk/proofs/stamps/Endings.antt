-- How a stamp ends: its token is kept, or it stays void. A finish is such an end.
use Rattle.std.proofs.Common.{◌≡◌, ℕ, List, [], ◌∷◌, ◌++◌, Option, Some, None, Result, Ok, Err, refl, sym, ◌∙◌}
use Rattle.std.proofs.Common.{ap, subst, inl, inr}
use Rattle.std.specs.Prelude.{IfErr}
use Rattle.book.specs.{declared.standing.Standing.Ghosts, Entries.Appends, History.History}
use Rattle.book.specs.{Sound.FitsSealed, Stands.Stands}
use Rattle.cms.specs.{Signer.count_after, declared.signer.SignerFault.SignerFault}
use Rattle.cms.specs.declared.signer.SignerFault.TheVariants as signer
use Rattle.desk.specs.Outcome.{Fine, OutOfMemory, Failed, Outcome, Cause, OfMemory, OfStore, OfSigner}
use Rattle.desk.specs.Outcome.{Refusal, ByCause, faults_after, all_fine}
use Rattle.desk.specs.Command.{Setting, PendingValue, Finish, Answer, Refused}
use Rattle.desk.specs.Effects.{Keeping, in_seal, for_parts, refused_for, fault_by, unless, no_seal, finish_effect}
use Rattle.desk.specs.CallContract.{StepsBy, IsBlamed, MayBeLeft, no_signer, committed, in_doubt}
use Rattle.desk.specs.Calls.{refused, why_of, signer_cause}
use Rattle.desk.specs.auxiliary.Wholes.{joined, token_or, ending, added, ended, answer_by, MayStay, WasMet, Ends}
use Rattle.desk.specs.auxiliary.Wholes.{IsOfFinish}
use Rattle.desk.specs.declared.refusal.StampRefusal.{StampRefusal}
use Rattle.desk.specs.{Fit.IsFit, Texts.token_with, MachineStep.IsWaiting, Answers.reply_as, declared.reply.Reply.Reply}
use Rattle.desk.specs.declared.refusal.StampRefusal.TheVariants as refusal
use Rattle.desk.proofs.stamps.Stamps.{tells_opened, tells_blamed, met_all}
use Rattle.desk.proofs.stamps.Beginnings.{tells_parts}

-- what waits may be sealed
pub waiting_fits : (p : PendingValue) (b : History) → IsWaiting p b → FitsSealed p.serial b
waiting_fits p b w = record { reservation = w.reservation; reserved = w.reserved; open_yet = w.open_yet }

-- the signer gives no signature
unsigned_met : (f : SignerFault) → WasMet (Err f) (all_fine (Ok [])) (signer_cause f)
unsigned_met signer.Failed = refl
unsigned_met signer.Memory = (tt, tt)

pub unsigned : {B : Type 0} (g : Ghosts B) (k : Keeping) (p : PendingValue) (f : SignerFault) (v : B)
    → Ends g k p (Err f) (all_fine (Ok [])) v v (Err (ByCause (signer_cause f)))
unsigned g k p f v = record {
  says = refl;
  grows = tt;
  counted = refl;
  opened = λ honest. tt;
  met = unsigned_met f;
  steps = λ honest b stands fits. record { stands = stands; left = λ left r. inl (refl, r) };
}

pub signer_counted : (A : Type 0) (fault : SignerFault) (n : ℕ)
    → count_after {A = A} (Err fault) n ≡ count_after {A = List ℕ} (Err fault) n
signer_counted A signer.Failed n = refl
signer_counted A signer.Memory n = refl

-- the token is kept
stored_as : {B : Type 0} (g : Ghosts B) (k : Keeping) (p : PendingValue) (signature : List ℕ) (old new : B)
    → Appends {A = Unit {0}} g (k.adds p.serial (token_with p signature) ∷ []) old new (Ok tt)
    → Ends g k p (Ok signature) (all_fine (Ok [])) old new (Ok (k.says p.serial (token_with p signature)))
stored_as g k p signature old new a = record {
  says = refl;
  grows = tt;
  counted = a.faults;
  opened = λ honest. (a.opened honest).1;
  met = tt;
  steps = λ honest b stands fits.
      let now = a.ok b stands (fits (token_with p signature), tt) in
      record { stands = now; left = λ left r. inr (inl (now.settled honest (a.opened honest).1 left r)) };
}

pub stored : {B : Type 0} (g : Ghosts B) (k : Keeping) (p : PendingValue) (signature : List ℕ) (serial : ℕ)
    (token : List ℕ) (old new : B) → serial ≡ p.serial → token ≡ token_with p signature
    → Appends {A = Unit {0}} g (k.adds serial token ∷ []) old new (Ok tt)
    → Ends g k p (Ok signature) (all_fine (Ok [])) old new (Ok (k.says serial token))
stored g k p signature serial token old new number is a =
    subst (λ n. Ends g k p (Ok signature) (all_fine (Ok [])) old new (Ok (k.says n token))) (sym number)
    (subst (λ t. Ends g k p (Ok signature) (all_fine (Ok [])) old new (Ok (k.says p.serial t))) (sym is)
    (stored_as g k p signature old new
    (subst (λ x. Appends {A = Unit {0}} g (k.adds p.serial x ∷ []) old new (Ok tt)) is
    (subst (λ n. Appends {A = Unit {0}} g (k.adds n token ∷ []) old new (Ok tt)) number a))))

-- a finish is the end of a stamp whose signature is handed in: what it adds and says
finish_is : (p : PendingValue) (signature : List ℕ) (why : Option Cause)
    → ((unless why (finish_effect p signature)).adds ≡ added in_seal p.serial (token_or (token_with p signature) why))
    × (((unless why (finish_effect p signature)).asks ≡ None)
    × ((unless why (finish_effect p signature)).says
    ≡ answer_by for_parts (ended in_seal p.serial (token_or (token_with p signature) why))))
finish_is p signature None = (refl, (refl, refl))
finish_is p signature (Some cause) = (refl, (refl, refl))

left_finished : {B : Type 0} (g : Ghosts B) (s : Setting) (p : PendingValue) (signature : List ℕ) (o : Outcome)
    (b : History) (old : B) (left : g.Left) → o.adding ≡ Fine → MayStay g in_seal p (Ok signature) o b old left
    → MayBeLeft g s (Finish p signature) o b old (unless (no_seal o) (finish_effect p signature)) left
left_finished g s p signature o b old left fine (inl before) =
    inl ((finish_is p signature (no_seal o)).0 ∙ before.0, before.1)
left_finished g s p signature o b old left fine (inr (inl holds)) =
    inr (inl (subst (λ es. g.holds left (es ++ b)) (sym (finish_is p signature (no_seal o)).0) holds))
left_finished g s p signature o b old left fine (inr (inr doubt)) =
    let tried = unless (no_seal (committed o)) (finish_effect p signature) in
    inr (inr (record {
      refused = λ adding. doubt.0;
      doubted = tried;
      has = refl;
      holds = subst (λ call. g.holds left (in_doubt call tried.adds ++ b)) (sym fine)
          (subst (λ es. g.holds left (es ++ b)) (sym (finish_is p signature (no_seal (committed o))).0) doubt.1);
    }))

finish_met : (signature : List ℕ) (o : Outcome) (end : Result (List ℕ) Cause) → IfErr end (WasMet (Ok signature) o)
    → IfErr end (WasMet (Ok []) o)
finish_met signature o (Ok token) met = tt
finish_met signature o (Err OfMemory) met = met
finish_met signature o (Err OfStore) met = met
finish_met signature o (Err OfSigner) met = cc

finish_fits : (p : PendingValue) (signature : List ℕ) (r : StampRefusal) → IsOfFinish r
    → IsFit (Finish p signature) (refused r) × (refused_for for_parts (why_of r) ≡ Refused (fault_by (why_of r)))
finish_fits p signature (refusal.Fails rule) h = absurd h
finish_fits p signature (refusal.Looking f) h = absurd h
finish_fits p signature (refusal.Counting f) h = absurd h
finish_fits p signature refusal.Exhausted h = absurd h
finish_fits p signature refusal.OutOfMemory h = absurd h
finish_fits p signature (refusal.Adding f) h = absurd h
finish_fits p signature (refusal.Signing f) h = absurd h
finish_fits p signature refusal.OutOfReplyMemory h = ((refl, (tt, tt)), refl)
finish_fits p signature (refusal.Sealing f) h = ((refl, (tt, tt)), refl)

finishes_as : {B : Type 0} (g : Ghosts B) (s : Setting) (p : PendingValue) (signature : List ℕ) (o : Outcome)
    (old new : B) (answer : Result Answer Refusal) → IsFit (Finish p signature) o
    → Ends g in_seal p (Ok signature) o old new answer
    → StepsBy g no_signer s (Finish p signature) o old new (answer_by for_parts answer)
finishes_as g s p signature o old new answer fit ends =
    let c = Finish p signature in
    let end = ending p (Ok signature) o in
    let tells = tells_parts g c in
    let is = finish_is p signature (no_seal o) in
    subst (λ a. StepsBy g no_signer s c o old new (answer_by for_parts a)) (sym ends.says)
    (record {
      fits = fit;
      counted = ends.counted ∙ sym (ap (λ w. faults_after w (g.fault_count old)) fit.0);
      signer = tt;
      blames = subst (λ w. IsBlamed g c w old new (answer_by for_parts (ended in_seal p.serial end)))
          (sym fit.0) (tells_blamed g c for_parts tells p.serial (joined (all_fine (Ok [])) (Ok []) o) old new end
          (met_all g c (Ok []) o old new end ends.grows (finish_met signature o end ends.met)));
      opened = λ honest. tells_opened g c for_parts tells p.serial new end (ends.opened honest);
      steps = λ honest b stands met.
          let h = ends.steps honest b stands (λ token. waiting_fits p b met.0) in
          record {
            effect = unless (no_seal o) (finish_effect p signature);
            has = refl;
            says = sym is.1.1;
            moves = is.1.0;
            stands = subst (λ es. Stands g (es ++ b) new) (sym is.0) h.stands;
            left = λ left r. left_finished g s p signature o b old left (ap (λ w. w.adding) fit.0) (h.left left r);
          };
    })

pub finishes : {B : Type 0} (g : Ghosts B) (s : Setting) (p : PendingValue) (signature : List ℕ) (old new : B)
    (r : Reply) → Ends g in_seal p (Ok signature) (all_fine (Ok [])) old new (Ok (reply_as r))
    → StepsBy g no_signer s (Finish p signature) (all_fine (Ok [])) old new (reply_as r)
finishes g s p signature old new r ends =
    finishes_as g s p signature (all_fine (Ok [])) old new (Ok (reply_as r)) (refl, (tt, tt)) ends

pub finish_refused : {B : Type 0} (g : Ghosts B) (s : Setting) (p : PendingValue) (signature : List ℕ) (old new : B)
    (r : StampRefusal) → IsOfFinish r → Ends g in_seal p (Ok signature) (refused r) old new (Err (why_of r))
    → StepsBy g no_signer s (Finish p signature) (refused r) old new (Refused (fault_by (why_of r)))
finish_refused g s p signature old new r of ends =
    let fits = finish_fits p signature r of in
    subst (StepsBy g no_signer s (Finish p signature) (refused r) old new) fits.1
    (finishes_as g s p signature (refused r) old new (Err (why_of r)) fits.0 ends)
