-- Stamps that are answered together are a run of the machine, and what a stop after them may leave.
use Rattle.std.proofs.Common.{◌≡◌, ◌⊎◌, ℕ, List, [], ◌∷◌, ◌++◌, map, Option, Some, None, Result, Ok, refl, sym, ap}
use Rattle.std.proofs.Common.{◌∙◌, subst, inl, inr, append_assoc}
use Rattle.std.specs.List.{AllByRecursion}
use Rattle.policy.specs.Record.{PolicyValue}
use Rattle.tsp.specs.{Rules.IsFirstFailing, declared.rule.Rule.Rule, declared.rule.Rule.TheVariants.System}
use Rattle.cms.specs.{Signer.count_after_each, Signer.SignsEach, declared.signer.SignerFault.SignerFault}
use Rattle.book.specs.{declared.standing.Standing.Ghosts, Entries.with_all, Entries.FitInTurn, Shows.ShowsSame}
use Rattle.book.specs.{History.Entry, History.Reserved, History.History, Sound.IsSound, Stands.OnlyLooks, Stands.Stands}
use Rattle.desk.specs.Batches.{Question, SealValue, stamp_for, stamps_for, seal_entry, with_reserved, with_sealed}
use Rattle.desk.specs.Batches.{HaveEffects, all_reserved, batch_of, after_batch, faults_along}
use Rattle.desk.specs.Commits.{if_accepted, IsCommitted, untried, added, refused}
use Rattle.desk.specs.auxiliary.Completions.{Completion, seals_of, texts_of, AreWaiting, AreWritten}
use Rattle.desk.specs.auxiliary.Halves.{IsTried, at_once, anew}
use Rattle.desk.specs.Outcome.{Call, Fine, OutOfMemory, Failed, Outcome, counted, faults_after}
use Rattle.desk.specs.auxiliary.Verdicts.{Verdict, Settled, Waits, JudgedStamp, rule_of, rules_of, all_looks, waits_of}
use Rattle.desk.specs.auxiliary.Verdicts.{AreJudged, IsItsOwn, IsJudgedRightly, JudgesEach, merged, met_by, reply_for}
use Rattle.desk.specs.Together.{AreFit, AreRejections, AreSignedAlike, IsDoubtedTogether, MayBeLeftTogether}
use Rattle.desk.specs.Together.{AreOfSome, AreRejectedUnasked, IsForPassing, IsCommittedTogether, IsAnsweredTogether}
use Rattle.desk.specs.WaitingStamps.{waiting_view, pendings_in, with_waiting}
use Rattle.desk.specs.declared.waiting_stamp.WaitingStamp.{WaitingStamp}
use Rattle.desk.specs.{Command.Setting, Command.Answer, Findings.HoldsUnasked, MachineRuns.Runs, MachineRuns.after}
use Rattle.desk.specs.{RunContract.ArePromised, Sent.texts_for, Sent.SendsReserved, auxiliary.Verdicts.waiting_before}
use Rattle.desk.proofs.stamps.Assembly.{questions_of, signings_of, replies_of, AreOf, outcomes_of, effects_of}
use Rattle.desk.proofs.stamps.Assembly.{Grow, behind, outcome_in, have_effects, reserves_all, seals_all, says_all}
use Rattle.desk.proofs.stamps.Assembly.{says_void}
use Rattle.desk.proofs.stamps.Assembly.{move_in_turn, signers_counted, are_fit, all_wait}
use Rattle.desk.proofs.stamps.BatchJudgement.{judged_sound}
use Rattle.desk.proofs.stamps.Batches.{ShowLaws, shows_itself, shows_over, reaches, judges_itself, stamp_shape}
use Rattle.desk.proofs.stamps.Batches.{sound_adds, unsigned, fit_each, cut_once_reserved, cut_at_whole}
use Rattle.desk.proofs.stamps.Committed.{none_accepted, accepted_none, none_committed, commit_honest, commit_counted}
use Rattle.desk.proofs.stamps.Committed.{commit_stands, commit_kept}
use Rattle.desk.proofs.stamps.Completions.{IsSealOf, of_more, seals_among, seals_fit, void_seals}
use Rattle.desk.proofs.{calls.Fits.is_refused, journeys.Promised.keeps_promises, journeys.Sound.TextLaws}

-- what is promised of each stamp of a run
promised_along : {S : Type 0} (signs : S → List ℕ → Result (List ℕ) SignerFault → S → Type 0) → TextLaws
    → (s : Setting) (asked : List Question) (os : List Outcome) (b : History) (x : S) (answers : List Answer)
    (last : History) (y : S) → IsSound b → Runs signs s (stamps_for asked) os b x answers last y
    → ArePromised s (stamps_for asked) os answers b
promised_along signs laws s [] os b x answers last y sound h = tt
promised_along signs laws s (a ∷ asked) [] b x answers last y sound h = tt
promised_along signs laws s (a ∷ asked) (o ∷ os) b x [] last y sound h = tt
promised_along signs laws s (a ∷ asked) (o ∷ os) b x (answer ∷ answers) last y sound h =
    let e = h.0 in
    let has = h.2.0 in (
      e,
      (
        has,
        h.2.2,
        keeps_promises laws s (stamp_for a) o b e sound has,
        promised_along signs laws s asked os (after e b) h.1 answers last y
            (sound_adds s b e sound (stamp_shape s a o b e has)) h.2.3,
      ),
    )

-- what is judged by the rules 1 to 9 is answered so
rejected_step : (file : PolicyValue) (a : Question) (v : Option Rule) (vs : List (Option Rule))
    (completions : List Answer) (asked : List Question) (o : Outcome) (os : List Outcome)
    → ((rule : Rule) → IsFirstFailing (HoldsUnasked file a.account a.octets) rule
    → (v ≡ Some rule) × (o.signing ≡ Ok []))
    → ((rest : List Answer) → AreRejectedUnasked file asked (merged vs rest) os)
    → AreRejectedUnasked file (a ∷ asked) (merged (v ∷ vs) completions) (o ∷ os)
rejected_step file a (Some r) vs completions asked o os h rest = (
  λ rule first. (ap (λ v. reply_for v None) (h rule first).0, (h rule first).1),
  rest completions,
)
rejected_step file a None vs (answer ∷ completions) asked o os h rest =
    (λ rule first. absurd (let none : None ≡ Some rule = (h rule first).0 in cc), rest completions)
rejected_step file a None vs [] asked o os h rest =
    (λ rule first. absurd (let none : None ≡ Some rule = (h rule first).0 in cc), rest [])

-- nothing is signed for what fails a rule
unsigned_by : (sealing : Call) (v : Verdict) (zs : List Completion) (rule : Rule) → rule_of v ≡ Some rule
    → (met_by v).signing ≡ Ok [] → (outcome_in sealing v zs).signing ≡ Ok []
unsigned_by sealing (Settled why o) zs rule is none = none
unsigned_by sealing (Waits w) zs rule is none = absurd (let waits : None ≡ Some rule = is in cc)

rejected_unasked : (s : Setting) (sealing : Call) (js : List JudgedStamp) (zs : List Completion)
    (completions : List Answer) → AllByRecursion (IsJudgedRightly s) js
    → AreRejectedUnasked s.file (questions_of js) (merged (rules_of js) completions) (outcomes_of sealing js zs)
rejected_unasked s sealing [] zs completions h = tt
rejected_unasked s sealing (j ∷ js) zs completions h =
    rejected_step s.file j.question (rule_of j.verdict) (rules_of js) completions (questions_of js)
    (outcome_in sealing j.verdict zs) (outcomes_of sealing js (behind j.verdict zs))
    (λ rule first.
    (h.0.unasked rule first, unsigned_by sealing j.verdict zs rule (h.0.unasked rule first) h.0.unsigned))
    (λ rest. rejected_unasked s sealing js (behind j.verdict zs) rest h.1)

-- where a commit was refused, each is rejected
all_rejected : (vs : List (Option Rule)) → AreRejections (merged vs [])
all_rejected [] = tt
all_rejected (Some rule ∷ vs) = ((rule, refl), all_rejected vs)
all_rejected (None ∷ vs) = ((System, refl), all_rejected vs)

-- entries that are added stand in front of what was there
record AreInFront (entries : List Entry) (b : History) : Type 0 where
  adds : List Entry
  is : with_all entries b ≡ adds ++ b

are_in_front : (entries : List Entry) (b : History) → AreInFront entries b
are_in_front [] b = record { adds = []; is = refl }
are_in_front (entry ∷ entries) b =
    let rest = are_in_front entries (entry ∷ b) in
    record { adds = rest.adds ++ (entry ∷ []); is = rest.is ∙ sym (append_assoc rest.adds (entry ∷ []) b) }

-- the counts don't depend on the order
swapped : (c d : Call) (n : ℕ) → counted c (counted d n) ≡ counted d (counted c n)
swapped Fine d n = refl
swapped OutOfMemory d n = refl
swapped Failed Fine n = refl
swapped Failed OutOfMemory n = refl
swapped Failed Failed n = refl

swapped_after : (o : Outcome) (c : Call) (n : ℕ) → faults_after o (counted c n) ≡ counted c (faults_after o n)
swapped_after o c n =
    let a = λ (m : ℕ). counted o.searching m in
    let b = λ (m : ℕ). counted o.looking m in
    let d = λ (m : ℕ). counted o.counting m in
    let e = λ (m : ℕ). counted o.growing m in
    let f = λ (m : ℕ). counted o.adding m in
    let h = λ (m : ℕ). counted o.wrapping m in
    let k = λ (m : ℕ). counted o.sealing m in
    ap (λ m. k (h (f (e (d (b m)))))) (swapped o.searching c n)
    ∙ (ap (λ m. k (h (f (e (d m))))) (swapped o.looking c (a n))
    ∙ (ap (λ m. k (h (f (e m)))) (swapped o.counting c (b (a n)))
    ∙ (ap (λ m. k (h (f m))) (swapped o.growing c (d (b (a n))))
    ∙ (ap (λ m. k (h m)) (swapped o.adding c (e (d (b (a n)))))
    ∙ (ap k (swapped o.wrapping c (f (e (d (b (a n)))))) ∙ swapped o.sealing c (h (f (e (d (b (a n)))))))))))

pub swapped_along : (os : List Outcome) (c : Call) (n : ℕ)
    → faults_along os (counted c n) ≡ counted c (faults_along os n)
swapped_along [] c n = refl
swapped_along (o ∷ os) c n = ap (faults_along os) (swapped_after o c n) ∙ swapped_along os c (faults_after o n)

along_both : (os us : List Outcome) (n : ℕ) → faults_along (os ++ us) n ≡ faults_along us (faults_along os n)
along_both [] us n = refl
along_both (o ∷ os) us n = along_both os us (faults_after o n)

looks_uncommitted : (js : List JudgedStamp)
    → AllByRecursion (λ o. (o.adding ≡ Fine) × (o.sealing ≡ Fine)) (all_looks js)
looks_uncommitted [] = tt
looks_uncommitted (j ∷ js) = ((refl, refl), looks_uncommitted js)

all_both : {X : Type 0} (P : X → Type 0) (xs ys : List X) → AllByRecursion P xs → AllByRecursion P ys
    → AllByRecursion P (xs ++ ys)
all_both P [] ys one other = other
all_both P (x ∷ xs) ys one other = (one.0, all_both P xs ys one.1 other)

-- where nothing is left of a list, there was nothing in it
pub map_none : {X Y : Type 0} (f : X → Y) (xs : List X) → map f xs ≡ [] → xs ≡ []
map_none f [] none = refl
map_none f (x ∷ xs) none = absurd cc

none_asked : (s : Setting) (js : List JudgedStamp) (zs : List Completion) → AreOf s js zs → questions_of js ≡ []
    → (waits_of js ≡ []) × (zs ≡ [])
none_asked s [] [] of none = (refl, refl)
none_asked s [] (z ∷ zs) of none = absurd cc
none_asked s (j ∷ js) zs of none = absurd cc

none_waits : (js : List JudgedStamp) → questions_of js ≡ [] → waits_of js ≡ []
none_waits [] none = refl
none_waits (j ∷ js) none = absurd cc

-- nothing is signed otherwise
signed_one : (v : Verdict) (zs : List Completion) (one other : Call)
    → (outcome_in other v zs).signing ≡ (outcome_in one v zs).signing
signed_one (Settled why o) zs one other = refl
signed_one (Waits w) zs one other = refl

signed_alike : (js : List JudgedStamp) (zs : List Completion) (one other : Call)
    → AreSignedAlike (outcomes_of one js zs) (outcomes_of other js zs)
signed_alike [] zs one other = tt
signed_alike (j ∷ js) zs one other =
    (inl (signed_one j.verdict zs one other), signed_alike js (behind j.verdict zs) one other)

unsigned_alike : (asked : List Question) (os us : List Outcome) → AreFit asked os → AreFit asked us
    → AreSignedAlike os (map unsigned us)
unsigned_alike [] [] [] fits fit = tt
unsigned_alike (a ∷ asked) (o ∷ os) (u ∷ us) fits fit = (inr refl, unsigned_alike asked os us fits.1 fit.1)
unsigned_alike [] (o ∷ os) us fits fit = absurd fits
unsigned_alike [] [] (u ∷ us) fits fit = absurd fit
unsigned_alike (a ∷ asked) [] us fits fit = absurd fits
unsigned_alike (a ∷ asked) (o ∷ os) [] fits fit = absurd fit

fine_or_refused : (c : Call) → (c ≡ Fine) ⊎ (c ≡ Fine → ⊥)
fine_or_refused Fine = inl refl
fine_or_refused OutOfMemory = inr (λ fine. cc)
fine_or_refused Failed = inr (λ fine. cc)

says_by : (s : Setting) (sealing : Call) (js : List JudgedStamp) (zs : List Completion) (told : List Answer)
    → AreOf s js zs → told ≡ replies_of zs
    → map (λ e. e.says) (effects_of s sealing js zs) ≡ merged (rules_of js) (if_accepted sealing told)
says_by s Fine js zs told of are = says_all s js zs of ∙ ap (merged (rules_of js)) (sym are)
says_by s OutOfMemory js zs told of are = says_void s OutOfMemory (λ fine. cc) js zs
says_by s Failed js zs told of are = says_void s Failed (λ fine. cc) js zs

-- the history after both commits
abbrev ends_in : Call → List JudgedStamp → List Completion → History → History
ends_in sealing js zs b = with_sealed (seals_of sealing zs) (with_waiting (waits_of js) b)

ends_whole : (s : Setting) (sealing : Call) (js : List JudgedStamp) (zs : List Completion) (b : History) → AreOf s js zs
    → after_batch (batch_of (effects_of s sealing js zs)) b ≡ ends_in sealing js zs b
ends_whole s sealing js zs b of =
    let es = effects_of s sealing js zs in
    ap (λ v. with_sealed v (with_reserved (all_reserved es) b)) (seals_all s sealing js zs of)
    ∙ ap (λ rs. with_sealed (seals_of sealing zs) (with_reserved rs b)) (reserves_all s sealing js zs)

-- what waits is for stamps that pass the rules 1 to 9
passing_before : (file : PolicyValue) (v : Verdict) (a : Question) (asked : List Question) (ws : List WaitingStamp)
    → ((rule : Rule) → IsFirstFailing (HoldsUnasked file a.account a.octets) rule → rule_of v ≡ Some rule)
    → IsItsOwn a v → AreOfSome (IsForPassing file) asked (map waiting_view ws)
    → AreOfSome (IsForPassing file) (a ∷ asked) (map waiting_view (waiting_before v ws))
passing_before file (Settled why o) a asked ws unasked own rest =
    of_more (IsForPassing file) a asked (map waiting_view ws) rest
passing_before file (Waits w) a asked ws unasked own rest =
    inl ((λ fails. let none : None ≡ Some fails.0 = unasked fails.0 fails.1 in cc, own.0, own.1), rest)

passing : (s : Setting) (js : List JudgedStamp) → AllByRecursion (IsJudgedRightly s) js
    → AreOfSome (IsForPassing s.file) (questions_of js) (map waiting_view (waits_of js))
passing s [] rightly = tt
passing s (j ∷ js) rightly =
    passing_before s.file j.verdict j.question (questions_of js) (waits_of js) rightly.0.unasked rightly.0.own
    (passing s js rightly.1)

all_passing : {B : Type 0} (g : Ghosts B) (s : Setting) (asked : List Question) (rules : List (Option Rule))
    (ws : List WaitingStamp) (old new : B) → JudgesEach g s asked rules ws old new
    → AreOfSome (IsForPassing s.file) asked (map waiting_view ws)
all_passing g s asked rules ws old new h =
    subst (λ qs. AreOfSome (IsForPassing s.file) qs (map waiting_view ws)) h.questions
    (subst (λ xs. AreOfSome (IsForPassing s.file) (questions_of h.stamps) (map waiting_view xs)) h.waits
    (passing s h.stamps h.rightly))

-- Both commits, with what an earlier try counted.
record HaveCommitted {B : Type 0} (g : Ghosts B) (s : Setting) (asked : List Question) (ws : List WaitingStamp)
    (sealing : Call) (old begun new : B) : Type 0 where
  looks : List Outcome
  uncommitted : AllByRecursion (λ o. (o.adding ≡ Fine) × (o.sealing ≡ Fine)) looks
  reserving : Call
  counted : g.fault_count begun ≡ counted reserving (faults_along looks (g.fault_count old))
  commits : IsCommittedTogether g s.file asked reserving sealing old new
  accepted : if_accepted reserving commits.reserved ≡ map waiting_view ws

-- what an earlier try left as it was, and counted
module _ {B : Type 0} (g : Ghosts B) (s : Setting) (asked : List Question) (ws : List WaitingStamp) (old begun : B) where
  pub tried_honest : IsTried g s asked ws old begun → g.honest begun → g.honest old
  tried_honest (at_once same) honest = subst g.honest same honest
  tried_honest (anew rules tried reserving mid h commit refusal none) honest =
      h.looks.honest (commit_honest g (map Reserved (map waiting_view tried)) mid begun reserving commit honest)

  tried_stands : (b : History) → IsTried g s asked ws old begun → Stands g b old → Stands g b begun
  tried_stands b (at_once same) stands = subst (Stands g b) (sym same) stands
  tried_stands b (anew rules tried reserving mid h commit refusal none) stands =
      commit_kept g (map Reserved (map waiting_view tried)) mid begun reserving b commit refusal
      (h.looks.stands b stands)

  tried_commits : (vs : List SealValue) (sealing : Call) (judged held new : B) → IsTried g s asked ws old begun
      → AreOfSome (IsForPassing s.file) asked (map waiting_view ws) → AreOfSome IsSealOf (map waiting_view ws) vs
      → IsSound (with_waiting ws []) → OnlyLooks g begun judged → IsCommitted g (map Reserved (map waiting_view ws)) judged held Fine
      → IsCommitted g (map seal_entry vs) held new sealing → HaveCommitted g s asked ws sealing old begun new
  tried_commits vs sealing judged held new (at_once same) pass numbers fit looks reserves seals = record {
    looks = [];
    uncommitted = tt;
    reserving = Fine;
    counted = ap g.fault_count same;
    commits = record {
      reserved = map waiting_view ws;
      passing = pass;
      fit = fit;
      sealed = vs;
      numbers = numbers;
      judged = judged;
      held = held;
      signed = held;
      looks = subst (λ v. OnlyLooks g v judged) same looks;
      reserves = reserves;
      waits = record { honest = λ h. h; stands = λ b st. st; leaves = λ h left r. r };
      seals = seals;
    };
    accepted = refl;
  }
  tried_commits vs sealing judged held new (anew rules tried reserving mid h commit refusal none) pass numbers fit
      looks reserves seals =
      let entries = λ (ws : List WaitingStamp). map Reserved (map waiting_view ws) in
      let nothing = ap (map waiting_view) none ∙ sym (none_accepted reserving (map waiting_view tried) refusal) in
      record {
        looks = all_looks h.stamps;
        uncommitted = looks_uncommitted h.stamps;
        reserving = reserving;
        counted = commit_counted g (entries tried) mid begun reserving commit ∙ ap (counted reserving) h.counted;
        commits = record {
          reserved = map waiting_view tried;
          passing = all_passing g s asked rules tried old mid h;
          fit = h.fit;
          sealed = vs;
          numbers = subst (λ rs. AreOfSome IsSealOf rs vs) nothing numbers;
          judged = mid;
          held = begun;
          signed = held;
          looks = h.looks;
          reserves = commit;
          waits = subst (OnlyLooks g begun)
              (sym (none_committed g (entries ws) judged held Fine (ap entries none) reserves).1) looks;
          seals = seals;
        };
        accepted = sym nothing;
      }

  -- its reservations may be there after all
  tried_left : ShowLaws → (os : List Outcome) (answers : List Answer) (b : History) (left : g.Left)
      → IsTried g s asked ws old begun → AreFit asked os → (ws ≡ [] → AreRejections answers) → g.honest begun
      → Stands g b old → g.leaves begun left → MayBeLeftTogether g s asked os answers b old b left
  tried_left shows os answers b left (at_once same) fits rejected honest stands r =
      inl (refl, subst (λ v. g.leaves v left) same r)
  tried_left shows os answers b left (anew rules tried reserving mid h (untried nothing fine is) refusal none) fits
      rejected honest stands r = absurd (refusal fine)
  tried_left shows os answers b left (anew rules tried reserving mid h (added some fine a) refusal none) fits rejected
      honest stands r = absurd (refusal fine)
  tried_left shows os answers b left (anew rules tried reserving mid h (refused some fault is storage a) refusal none)
      fits rejected honest stands r =
      let js = h.stamps in
      let judged = h.judged (a.honest honest) b stands in
      let d = with_waiting (waits_of js) b in
      let es = effects_of s Fine js [] in
      let outcomes = outcomes_of Fine js [] in
      let have = have_effects s Fine js [] b judged in
      let ends : with_reserved (all_reserved es) b ≡ d = ap (λ rs. with_reserved rs b) (reserves_all s Fine js []) in
      let front = are_in_front (map Reserved (map waiting_view (waits_of js))) b in
      let fit = subst (λ qs. AreFit qs os) (sym h.questions) fits in
      let asked_some : questions_of js ≡ [] → ⊥ = λ nobody. some (ap (λ xs. map Reserved (map waiting_view xs))
      (sym h.waits ∙ none_waits js nobody)) in
      elim (a.crash honest left r) [
        | inl earlier ↦ inl (refl, h.looks.leaves (a.honest honest) left earlier)
        | inr adds ↦ inr (inr (subst (λ qs. IsDoubtedTogether g s qs os answers b b left) h.questions (record {
          refused = rejected none;
          history = d;
          doubted = front.adds;
          same = subst (ShowsSame d) front.is (shows_itself d);
          cut = λ w.
              let c = cut_once_reserved shows s (questions_of js) outcomes es b w stands.sound asked_some have in
              record {
                outcomes = map unsigned outcomes;
                history = c.history;
                told = c.told;
                cut = c.cut;
                sound = c.sound;
                same = subst (λ x. ShowsSame x c.history) ends c.same;
              };
          signed = λ w. unsigned_alike (questions_of js) os outcomes fit (are_fit s Fine js [] h.rightly tt);
          holds = subst (λ xs. g.holds left (with_waiting xs b)) (sym h.waits) (adds b (h.looks.stands b stands)
              (fit_each (map Reserved (map waiting_view tried)) b
              (subst (λ xs. IsSound (with_waiting xs b)) h.waits (judged_sound s js b judged stands.sound))));
        })))
      ]

module _ {B S : Type 0} (g : Ghosts B) (signs : S → List ℕ → Result (List ℕ) SignerFault → S → Type 0) (count : S → ℕ)
    (sent : S → List (List ℕ) → S → Type 0) (shows : ShowLaws) (laws : TextLaws) (s : Setting) where
  fit_in : (js : List JudgedStamp) (zs : List Completion) (vs : List SealValue) (b : History) → AreOf s js zs
      → vs ≡ seals_of Fine zs → IsSound b → AreJudged s js b
      → FitInTurn (map seal_entry vs) (with_waiting (waits_of js) b)
  fit_in js zs vs b of are sound judged =
      let d = with_waiting (waits_of js) b in
      subst (λ xs. FitInTurn (map seal_entry xs) d) (sym are)
      (seals_fit zs d (subst (λ ps. AreWaiting ps d) (sym of) (all_wait s js b sound judged)))

  -- the store stands for it
  stands_in : (sealing : Call) (js : List JudgedStamp) (zs : List Completion) (vs : List SealValue) (b : History)
      (held new : B) → AreOf s js zs → vs ≡ seals_of Fine zs → IsSound b → AreJudged s js b
      → IsCommitted g (map seal_entry vs) held new sealing → Stands g (with_waiting (waits_of js) b) held
      → Stands g (ends_in sealing js zs b) new
  stands_in sealing js zs vs b held new of are sound judged commit stands =
      let d = with_waiting (waits_of js) b in
      let fit = fit_in js zs vs b of are sound judged in
      elim (fine_or_refused sealing) [
        | inl fine ↦ subst (λ c. Stands g (ends_in c js zs b) new) (sym fine)
            (subst (λ xs. Stands g (with_sealed xs d) new) are
            (commit_stands g (map seal_entry vs) held new sealing d commit fine stands fit))
        | inr refusal ↦ subst (λ xs. Stands g (with_sealed xs d) new) (sym (void_seals sealing refusal zs))
            (commit_kept g (map seal_entry vs) held new sealing d commit refusal stands)
      ]

  -- The commit of all tokens was refused: what is in doubt is the history with them, or without.
  doubtful : (sealing tried : Call) (js : List JudgedStamp) (zs : List Completion) (answers : List Answer)
      (b last : History) (left : g.Left) → IsSound b → AreJudged s js b → AreOf s js zs → (questions_of js ≡ [] → ⊥)
      → AreRejections answers → ShowsSame (with_waiting (waits_of js) b) last → g.holds left (ends_in tried js zs b)
      → IsDoubtedTogether g s (questions_of js) (outcomes_of sealing js zs) answers b last left
  doubtful sealing tried js zs answers b last left sound judged of some rejected same holds =
      let d = with_waiting (waits_of js) b in
      let entries = map seal_entry (seals_of tried zs) in
      let front = are_in_front entries last in
      let es = effects_of s tried js zs in
      let outcomes = outcomes_of tried js zs in
      record {
        refused = rejected;
        history = ends_in tried js zs b;
        doubted = front.adds;
        same = subst (ShowsSame (ends_in tried js zs b)) front.is (shows_over shows entries d last same);
        cut = λ w.
            let c = cut_at_whole shows s (questions_of js) outcomes es b w sound some
            (have_effects s tried js zs b judged) in
            record {
              outcomes = outcomes;
              history = c.history;
              told = c.told;
              cut = c.cut;
              sound = c.sound;
              same = subst (λ x. ShowsSame x c.history) (ends_whole s tried js zs b of) c.same;
            };
        signed = λ w. signed_alike js zs sealing tried;
        holds = holds;
      }

  -- where something was reserved, the store is open
  held_open : (ws : List WaitingStamp) (mid held : B) → IsCommitted g (map Reserved (map waiting_view ws)) mid held Fine
      → g.honest held → ((ws ≡ []) × (held ≡ mid)) ⊎ g.is_open held
  held_open ws mid held (untried none fine same) honest =
      inl (map_none waiting_view ws (map_none Reserved (map waiting_view ws) none), same)
  held_open ws mid held (added some fine a) honest = inr (a.opened honest).1
  held_open ws mid held (refused some fault is storage a) honest = absurd (is_refused fault storage (sym is))

  -- what a stop after both commits may leave
  left_after : (sealing : Call) (js : List JudgedStamp) (zs : List Completion) (vs : List SealValue)
      (answers : List Answer) (b last : History) (old mid held new : B) (left : g.Left) → IsSound b → AreJudged s js b
      → AreOf s js zs → vs ≡ seals_of Fine zs → ((sealing ≡ Fine → ⊥) → AreRejections answers)
      → IsCommitted g (map Reserved (map waiting_view (waits_of js))) mid held Fine
      → IsCommitted g (map seal_entry vs) held new sealing → g.honest new
      → (last ≡ b → g.leaves mid left
      → MayBeLeftTogether g s (questions_of js) (outcomes_of sealing js zs) answers b old last left)
      → (waits_of js ≡ [] → last ≡ b) → Stands g (with_waiting (waits_of js) b) held → Stands g last new
      → ShowsSame (ends_in sealing js zs b) last → g.leaves new left
      → MayBeLeftTogether g s (questions_of js) (outcomes_of sealing js zs) answers b old last left
  left_after sealing js zs vs answers b last old mid held new left sound judged of are rejected reserving
      (untried none fine same) honest before still middle end shown r =
      elim (held_open (waits_of js) mid held reserving (subst g.honest same honest)) [
        | inl nothing ↦ before (still nothing.0)
            (subst (λ x. g.leaves x left) nothing.1 (subst (λ x. g.leaves x left) same r))
        | inr open_held ↦ inr (inl (end.settled honest (subst g.is_open (sym same) open_held) left r))
      ]
  left_after sealing js zs vs answers b last old mid held new left sound judged of are rejected reserving
      (added some fine a) honest before still middle end shown r =
      inr (inl (end.settled honest (a.opened honest).1 left r))
  left_after sealing js zs vs answers b last old mid held new left sound judged of are rejected reserving
      (refused some fault is storage a) honest before still middle end shown r =
      let d = with_waiting (waits_of js) b in
      let refusal : sealing ≡ Fine → ⊥ = λ fine. is_refused fault storage (sym is ∙ fine) in
      let none = void_seals sealing refusal zs in
      let asked : questions_of js ≡ [] → ⊥ = λ nobody.
      some (ap (map seal_entry) (are ∙ ap (seals_of Fine) (none_asked s js zs of nobody).1)) in
      let same = subst (λ xs. ShowsSame (with_sealed xs d) last) none shown in
      let doubt = λ (tried : Call) (holds : g.holds left (ends_in tried js zs b)).
      doubtful sealing tried js zs answers b last left sound judged of asked (rejected refusal) same holds in
      elim (a.crash honest left r) [
        | inl earlier ↦ elim (held_open (waits_of js) mid held reserving (a.honest honest)) [
          | inl nothing ↦ before (still nothing.0) (subst (λ x. g.leaves x left) nothing.1 earlier)
          | inr open_held ↦ inr (inr (doubt sealing (subst (λ xs. g.holds left (with_sealed xs d)) (sym none)
              (middle.settled (a.honest honest) open_held left earlier))))
        ]
        | inr adds ↦ inr (inr (doubt Fine (subst (λ xs. g.holds left (with_sealed xs d)) are
            (adds d middle (fit_in js zs vs b of are sound judged)))))
      ]

  -- judged, reserved and completed together, they are a run
  whole : (js : List JudgedStamp) (zs : List Completion) (vs : List SealValue) (answers told : List Answer)
      (sealing : Call) (old begun mid held : B) (x : S) (new : B) (y : S) → AreOf s js zs → Grow zs
      → vs ≡ seals_of Fine zs → told ≡ replies_of zs → IsTried g s (questions_of js) (waits_of js) old begun
      → JudgesEach g s (questions_of js) (rules_of js) (waits_of js) begun mid → AllByRecursion (IsJudgedRightly s) js
      → g.fault_count mid ≡ faults_along (all_looks js) (g.fault_count begun)
      → (g.honest mid → (b : History) → Stands g b begun → AreJudged s js b)
      → IsCommitted g (map Reserved (map waiting_view (waits_of js))) mid held Fine
      → SignsEach signs x (texts_of (pendings_in s (waits_of js))) (signings_of zs) y
      → count y ≡ count_after_each (signings_of zs) (count x) → IsCommitted g (map seal_entry vs) held new sealing
      → sent x (texts_for s (map waiting_view (waits_of js))) y → answers ≡ merged (rules_of js) (if_accepted sealing told)
      → ((b d : History) → Stands g b new → IsSound d → ShowsSame b d → Stands g d new)
      → IsAnsweredTogether g signs count s (questions_of js) answers old x new y
      × SendsReserved g sent s (questions_of js) old x new y
  whole js zs vs answers told sealing old begun mid held x new y of grow are told_are tried judges rightly counts judged
      reserving signed signer sealed sends says tell =
      let qs = questions_of js in
      let ws = waits_of js in
      let outcomes = outcomes_of sealing js zs in
      let es = effects_of s sealing js zs in
      let fits = are_fit s sealing js zs rightly grow in
      let both = tried_commits g s qs ws old begun vs sealing mid held new tried (passing s js rightly)
      (subst (AreOfSome IsSealOf (map waiting_view ws)) (sym are) (seals_among s ws zs of)) judges.fit judges.looks
      reserving sealed in
      let n = g.fault_count old in
      let entries = map Reserved (map waiting_view ws) in
      let honest_mid : g.honest new → g.honest mid = λ honest.
      commit_honest g entries mid held Fine reserving
      (commit_honest g (map seal_entry vs) held new sealing sealed honest) in
      let stood : g.honest new → (b : History) → Stands g b old → AreJudged s js b × Stands g (with_waiting ws b) held =
      λ honest b stands.
      let begins = tried_stands g s qs ws old begun b tried stands in
      let h = judged (honest_mid honest) b begins in (
        h,
        commit_stands g entries mid held Fine b reserving refl (judges.looks.stands b begins)
            (fit_each entries b (judged_sound s js b h stands.sound)),
      ) in (
        record {
          outcomes = outcomes;
          fits = fits;
          looks = both.looks ++ all_looks js;
          uncommitted = all_both (λ o. (o.adding ≡ Fine) × (o.sealing ≡ Fine)) both.looks (all_looks js) both.uncommitted
              (looks_uncommitted js);
          reserving = both.reserving;
          sealing = sealing;
          counted = commit_counted g (map seal_entry vs) held new sealing sealed
              ∙ ap (counted sealing)
              (commit_counted g (map Reserved (map waiting_view (waits_of js))) mid held Fine reserving
              ∙ (counts ∙ (ap (faults_along (all_looks js)) both.counted
              ∙ (swapped_along (all_looks js) both.reserving (faults_along both.looks n)
              ∙ ap (counted both.reserving) (sym (along_both both.looks (all_looks js) n))))));
          signer = signer ∙ signers_counted s sealing js zs (count x) of rightly;
          judged = subst (λ xs. AreRejectedUnasked s.file (questions_of js) xs outcomes) (sym says)
              (rejected_unasked s sealing js zs (if_accepted sealing told) rightly);
          commits = both.commits;
          unasked = λ nothing.
              let none : waits_of js ≡ [] = map_none waiting_view ws (sym both.accepted ∙ nothing) in
              subst (λ ws. SignsEach signs x (texts_of (pendings_in s ws)) [] y) none
              (subst (λ zs. SignsEach signs x (texts_of (pendings_in s (waits_of js))) (signings_of zs) y)
              (map_none (λ z. z.pending) zs (of ∙ ap (pendings_in s) none)) signed);
          run = λ honest b stands.
              let h = stood honest b stands in
              let are_judged = h.0 in
              let have = have_effects s sealing js zs b are_judged in
              let moves = move_in_turn signs s sealing js zs x y signed in
              let run = reaches signs shows s (questions_of js) outcomes es b b x y (judges_itself b) stands.sound have
              moves in
              let shown = subst (λ e. ShowsSame e run.history) (ends_whole s sealing js zs b of) run.same in
              let end = tell (ends_in sealing js zs b) run.history
              (stands_in sealing js zs vs b held new of are stands.sound are_judged sealed h.1) run.sound shown in
              let answered = says ∙ sym (says_by s sealing js zs told of told_are) in
              let runs = subst (λ a. Runs signs s (stamps_for (questions_of js)) outcomes b x a run.history y)
              (sym answered) run.runs in
              let rejected : if_accepted sealing told ≡ [] → AreRejections answers = λ none.
              subst AreRejections (sym (says ∙ ap (merged (rules_of js)) none)) (all_rejected (rules_of js)) in
              record {
                history = run.history;
                runs = runs;
                stands = end;
                left = λ left r. left_after sealing js zs vs answers b run.history old mid held new left stands.sound
                    are_judged of are (λ refusal. rejected (none_accepted sealing told refusal)) reserving sealed honest
                    (λ same before. subst (λ d. MayBeLeftTogether g s qs outcomes answers b old d left) (sym same)
                    (tried_left g s qs ws old begun shows outcomes answers b left tried fits
                    (λ none. rejected (accepted_none sealing told (told_are ∙ ap replies_of
                    (map_none (λ z. z.pending) zs (of ∙ ap (pendings_in s) none))))) (judges.looks.honest (honest_mid honest))
                    stands (judges.looks.leaves (honest_mid honest) left before)))
                    (λ none. run.still (reserves_all s sealing js zs ∙ ap (map waiting_view) none)) h.1 end shown r;
                promises = promised_along signs laws s (questions_of js) outcomes b x answers run.history y stands.sound
                    runs;
              };
        },
        record {
          reserving = both.reserving;
          sealing = sealing;
          commits = both.commits;
          sends = subst (λ rs. sent x (texts_for s rs) y) (sym both.accepted) sends;
          batch = λ honest b stands.
              let h = stood honest b stands in
              record {
                outcomes = outcomes;
                effects = es;
                have = have_effects s sealing js zs b h.0;
                reserves = reserves_all s sealing js zs ∙ sym both.accepted;
                stands = subst (λ d. Stands g d new) (sym (ends_whole s sealing js zs b of))
                    (stands_in sealing js zs vs b held new of are stands.sound h.0 sealed h.1);
              };
        },
      )

  pub assembled : (asked : List Question) (rules : List (Option Rule)) (ws : List WaitingStamp)
      (ss : List (Result (List ℕ) SignerFault)) (vs : List SealValue) (answers told : List Answer) (sealing : Call)
      (old begun mid held : B) (x : S) (new : B) (y : S) → IsTried g s asked ws old begun
      → JudgesEach g s asked rules ws begun mid
      → IsCommitted g (map Reserved (map waiting_view ws)) mid held Fine
      → SignsEach signs x (texts_of (pendings_in s ws)) ss y → count y ≡ count_after_each ss (count x)
      → AreWritten (pendings_in s ws) ss vs told → IsCommitted g (map seal_entry vs) held new sealing
      → sent x (texts_for s (map waiting_view ws)) y → answers ≡ merged rules (if_accepted sealing told)
      → ((b d : History) → Stands g b new → IsSound d → ShowsSame b d → Stands g d new)
      → IsAnsweredTogether g signs count s asked answers old x new y × SendsReserved g sent s asked old x new y
  assembled asked rules ws ss vs answers told sealing old begun mid held x new y tried h reserving signed signer written
      sealed sends says tell =
      let js = h.stamps in
      let zs = written.completions in
      let own : JudgesEach g s (questions_of js) (rules_of js) (waits_of js) begun mid = record {
        stamps = js;
        questions = refl;
        rules_are = refl;
        waits = refl;
        rightly = h.rightly;
        fit = subst (λ ws. IsSound (with_waiting ws [])) (sym h.waits) h.fit;
        looks = h.looks;
        counted = h.counted;
        judged = h.judged;
      } in
      subst (λ qs. IsAnsweredTogether g signs count s qs answers old x new y × SendsReserved g sent s qs old x new y)
      h.questions
      (whole js zs vs answers told sealing old begun mid held x new y
      (written.pendings ∙ ap (pendings_in s) (sym h.waits)) written.grows written.seals_are written.says
      (subst (λ qs. IsTried g s qs (waits_of js) old begun) (sym h.questions)
      (subst (λ xs. IsTried g s asked xs old begun) (sym h.waits) tried)) own h.rightly h.counted h.judged
      (subst (λ xs. IsCommitted g (map Reserved (map waiting_view xs)) mid held Fine) (sym h.waits) reserving)
      (subst (λ xs. SignsEach signs x (texts_of (pendings_in s xs)) (signings_of zs) y) (sym h.waits)
      (subst (λ xs. SignsEach signs x (texts_of (pendings_in s ws)) xs y) (sym written.signed) signed))
      (subst (λ xs. count y ≡ count_after_each xs (count x)) (sym written.signed) signer) sealed
      (subst (λ xs. sent x (texts_for s (map waiting_view xs)) y) (sym h.waits) sends)
      (says ∙ ap (λ rs. merged rs (if_accepted sealing told)) (sym h.rules_are)) tell)
