-- How each of the stamps that are answered together is judged, what waits, and what each is told: stepping stones of
-- the proofs.
use Rattle.std.specs.Prelude.{◌≡◌, List, [], ◌∷◌, ◌++◌, map, Option, Some, None, Result, Ok, Err, IfErr}
use Rattle.std.specs.List.{AllByRecursion}
use Rattle.tsp.specs.{Rules.IsFirstFailing, declared.rule.Rule.Rule, declared.rule.Rule.TheVariants.System}
use Rattle.book.specs.History.{Reserved, History}
use Rattle.book.specs.{declared.standing.Standing.Ghosts, Sound.IsSound, Stands.Stands, Stands.OnlyLooks}
use Rattle.desk.specs.Outcome.{Call, Fine, OutOfMemory, Failed, Outcome, Refusal, all_fine, faults_after}
use Rattle.desk.specs.{auxiliary.Beginnings.IsSettled, auxiliary.Beginnings.IsAwaited, auxiliary.Beginnings.IsOfJudging}
use Rattle.desk.specs.{Calls.why_of, Calls.refused, Calls.outcome_of, Command.Setting, Command.Answer, Command.Begin}
use Rattle.desk.specs.{Command.Rejected, WaitingStamps.waiting_view, WaitingStamps.with_waiting}
use Rattle.desk.specs.{WaitingStamps.pending_in, WaitingStamps.HasText, Effects.name_of, Effects.rule_by}
use Rattle.desk.specs.{Findings.HoldsUnasked, Batches.Question, Batches.faults_along, Fit.IsFit}
use Rattle.desk.specs.{declared.waiting_stamp.WaitingStamp.WaitingStamp, declared.refusal.StampRefusal.StampRefusal}
use Rattle.desk.specs.declared.refusal.StampRefusal.TheVariants as refusal

-- How a stamp is judged: nothing is reserved for it, where this was met; or it waits for its signature.
pub data Verdict : Type 0 where
  Settled : Refusal → Outcome → Verdict
  Waits : WaitingStamp → Verdict

abbrev pub verdict_of : Result WaitingStamp StampRefusal → Verdict
verdict_of (Ok w) = Waits w
verdict_of (Err r) = Settled (why_of r) (refused r)

pub record JudgedStamp : Type 0 where
  pub question : Question
  pub verdict : Verdict

abbrev pub rule_of : Verdict → Option Rule
rule_of (Settled why o) = Some (rule_by why)
rule_of (Waits w) = None

abbrev pub rules_of : List JudgedStamp → List (Option Rule)
rules_of js = map (λ j. rule_of j.verdict) js

-- what was met, and what of it the store was asked for the judging
abbrev pub met_by : Verdict → Outcome
met_by (Settled why o) = o
met_by (Waits w) = all_fine (Ok [])

abbrev pub looks_of : Verdict → Outcome
looks_of verdict = record (met_by verdict) { adding = Fine; sealing = Fine }

abbrev pub all_looks : List JudgedStamp → List Outcome
all_looks js = map (λ j. looks_of j.verdict) js

-- what waits, the first of the list first
abbrev pub waiting_before : Verdict → List WaitingStamp → List WaitingStamp
waiting_before (Settled why o) ws = ws
waiting_before (Waits w) ws = w ∷ ws

abbrev pub waits_of : List JudgedStamp → List WaitingStamp
waits_of [] = []
waits_of (j ∷ js) = waiting_before j.verdict (waits_of js)

-- the history by which the next one is judged
abbrev pub reserved_for : Verdict → History → History
reserved_for (Settled why o) b = b
reserved_for (Waits w) b = Reserved (waiting_view w) ∷ b

abbrev pub IsJudgedAs : Setting → Question → Verdict → History → Type 0
IsJudgedAs s a (Settled why o) b = IsSettled s a why o b
IsJudgedAs s a (Waits w) b = IsAwaited s a b (waiting_view w) (pending_in s w)

-- each by the history with the reservations of those before it
abbrev pub AreJudged : Setting → List JudgedStamp → History → Type 0
AreJudged s [] b = Unit {0}
AreJudged s (j ∷ js) b = IsJudgedAs s j.question j.verdict b × AreJudged s js (reserved_for j.verdict b)

abbrev pub HasItsText : Setting → Verdict → Type 0
HasItsText s (Settled why o) = Unit {0}
HasItsText s (Waits w) = HasText s w

-- what is reserved for it is for who asks, by their octets
abbrev pub IsItsOwn : Question → Verdict → Type 0
IsItsOwn a (Settled why o) = Unit {0}
IsItsOwn a (Waits w) = (w.account.now ≡ name_of a.account) × (w.query.now ≡ a.octets)

-- What holds of a stamp that was judged, whatever the store answers: the calls that a stamp doesn't make are fine, no
-- signer was asked, what waits has its text and is its own, and one that fails a rule of 1 to 9 is rejected by the
-- first.
pub record IsJudgedRightly (s : Setting) (j : JudgedStamp) : Type 0 where
  pub fits : IsFit (Begin j.question.account j.question.reading j.question.octets) (met_by j.verdict)
  pub unsigned : (met_by j.verdict).signing ≡ Ok []
  pub text : HasItsText s j.verdict
  pub own : IsItsOwn j.question j.verdict
  pub unasked : (rule : Rule) → IsFirstFailing (HoldsUnasked s.file j.question.account j.question.octets) rule
      → rule_of j.verdict ≡ Some rule

-- Stamps are judged: a rule for each that is rejected, and what waits of the others, by itself a sound history. Nothing
-- is changed.
pub record JudgesEach {B : Type 0} (g : Ghosts B) (s : Setting) (asked : List Question) (rules : List (Option Rule))
    (ws : List WaitingStamp) (old new : B) : Type 0 where
  pub stamps : List JudgedStamp
  pub questions : map (λ j. j.question) stamps ≡ asked
  pub rules_are : rules_of stamps ≡ rules
  pub waits : waits_of stamps ≡ ws
  pub rightly : AllByRecursion (IsJudgedRightly s) stamps
  pub fit : IsSound (with_waiting ws [])
  pub looks : OnlyLooks g old new
  pub counted : g.fault_count new ≡ faults_along (all_looks stamps) (g.fault_count old)
  pub judged : g.honest new → (b : History) → Stands g b old → AreJudged s stamps b

-- one of them
pub record JudgesOne {B : Type 0} (g : Ghosts B) (s : Setting) (a : Question) (ws : List WaitingStamp)
    (verdict : Verdict) (old new : B) : Type 0 where
  pub rightly : IsJudgedRightly s (record { question = a; verdict = verdict })
  pub fit : IsSound (with_waiting ws []) → IsSound (reserved_for verdict (with_waiting ws []))
  pub looks : OnlyLooks g old new
  pub counted : g.fault_count new ≡ faults_after (looks_of verdict) (g.fault_count old)
  pub judged : g.honest new → (b : History) → Stands g b old → IsSound (with_waiting ws b)
      → IsJudgedAs s a verdict (with_waiting ws b)

-- the same by what is answered of it
pub record JudgesAs {B : Type 0} (g : Ghosts B) (s : Setting) (a : Question) (ws : List WaitingStamp)
    (judged : Result WaitingStamp StampRefusal) (old new : B) : Type 0 where
  pub judges : JudgesOne g s a ws (verdict_of judged) old new
  pub counted : g.fault_count new ≡ faults_after (outcome_of judged) (g.fault_count old)
  pub refusals : IfErr judged IsOfJudging
  pub unasked : (rule : Rule) → IsFirstFailing (HoldsUnasked s.file a.account a.octets) rule
      → (judged ≡ Err (refusal.Fails rule)) × (new ≡ old)

-- it is put behind those before it
abbrev pub IsKept : Verdict → List (Option Rule) → List (Option Rule) → List WaitingStamp → List WaitingStamp → Type 0
IsKept verdict rules rules' ws ws' =
    (rules' ≡ rules ++ (rule_of verdict ∷ [])) × (ws' ≡ ws ++ waiting_before verdict [])

-- a reply for each: the rejection by the rule that it fails, or, where it waited, what came of it
abbrev pub merged : List (Option Rule) → List Answer → List Answer
merged [] completed = []
merged (Some rule ∷ vs) completed = Rejected rule ∷ merged vs completed
merged (None ∷ vs) (answer ∷ completed) = answer ∷ merged vs completed
merged (None ∷ vs) [] = Rejected System ∷ merged vs []

-- one of them
abbrev pub reply_for : Option Rule → Option Answer → Answer
reply_for (Some rule) completion = Rejected rule
reply_for None (Some answer) = answer
reply_for None None = Rejected System
