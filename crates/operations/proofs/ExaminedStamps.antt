-- Stamps that are looked at one after the other.
use Rattle.std.proofs.Common.{◌≡◌, ◌≢◌, ◌∙◌, ℕ, ◌+◌, Bool, true, false, List, [], ◌∷◌, ◌++◌, length, take}
use Rattle.std.proofs.Common.{Option, Some, None, Result, Ok, Err, IfOk, IsTrue, ◌↔◌, refl, sym, ap, inl, inr, subst}
use Rattle.std.proofs.Common.{arith, append_assoc, append-nil}
use Rattle.std.proofs.{KnownBytes.Appends-nil, KnownBytes.Appends-trans, Math.Seq.take-append-add, Math.Seq.take-length}
use Rattle.std.proofs.{lemmas.Grind.flat_map-append, lemmas.List.length-append}
use Rattle.std.specs.Io.KnownBytes.{Appends}
use Rattle.audit.proofs.Lines.{looks_after, looks_not}
use Rattle.audit.specs.{Consistent.IsConsistent, Intact.IsIntact}
use Rattle.book.specs.{declared.standing.Standing.Ghosts, Identities.identities, Rights.deposit_with_stamp}
use Rattle.book.specs.{Rows.StampRow, History.History, History.stamps_between, Ranges.IsNextStamp, Stands.OnlyLooks}
use Rattle.book.specs.{Stands.Stands, Values.stamp_view, declared.rows.Stamp.Stamp}
use Rattle.judgement.specs.{Judged.IsJudgedBehind, Readings.evidence_in, declared.judgement.Judgement.Judgement}
use Rattle.policy.specs.View.{policy_view}
use Rattle.operations.specs.Audits.{AreFailing, ExaminesBehind, Failure, IsCutOff, IsFound, Knows, TellsSome}
use Rattle.operations.specs.Audits.{failing_line, failing_lines, failures_of}
use Rattle.operations.specs.declared.audits.Findings.{Findings}
use Rattle.operations.specs.{Kept.IsKept, declared.audits.Examination.Examination, declared.kept.Kept.Kept}

-- what comes next of a range is the stamp that is handed out
pub next_is : (from to : ℕ) (b : History) (found : Option Stamp) (stamp : Stamp) → found ≡ Some stamp
    → IsNextStamp from to b found
    → stamps_between from to b ≡ stamp_view stamp ∷ stamps_between (stamp.serial + 1) to b
next_is from to b found stamp is next = subst (IsNextStamp from to b) is next

-- what is left of a range behind its next stamp
split_next : (all before after after' : List StampRow) (stamp : StampRow) → all ≡ before ++ after
    → after ≡ stamp ∷ after' → all ≡ (before ++ stamp ∷ []) ++ after'
split_next all before after after' stamp parts next =
    parts ∙ ap (λ l. before ++ l) next ∙ sym (append_assoc before (stamp ∷ []) after')

nonempty_after : (failures own : List Failure) → own ≢ [] → failures ++ own ≢ []
nonempty_after [] own some e = some e
nonempty_after (first ∷ failures) own some e = cc e

lines_after : (failures own : List Failure)
    → failing_lines (failures ++ own) ≡ failing_lines failures ++ failing_lines own
lines_after failures own = flat_map-append failing_line failures own

-- lines of some, or a beginning of them
some_told : (err err' : Option (List ℕ)) (failures : List Failure) → failures ≢ [] → (n : ℕ)
    → Appends err err' (take n (failing_lines failures)) → TellsSome err err'
some_told err err' [] some n told = absurd (some refl)
some_told err err' (first ∷ others) some n told = (first, others, n, told)

pub all_told : (err err' : Option (List ℕ)) (failures : List Failure) → failures ≢ []
    → Appends err err' (failing_lines failures) → TellsSome err err'
all_told err err' failures some told =
    some_told err err' failures some (length (failing_lines failures))
    (subst (Appends err err') (sym (take-length (failing_lines failures))) told)

module _ (asked : Examination) where
  -- a further stamp is looked at
  failing_next : (b : History) (before stamps : List StampRow) (failures : List Failure) (stamp : StampRow)
      (found : Findings) → AreFailing asked b before stamps failures
      → IsFound asked b (before ++ stamps) stamp found
      → AreFailing asked b before (stamps ++ stamp ∷ []) (failures ++ failures_of stamp.serial found)
  failing_next b before [] failures stamp found failing is =
      let own = failures_of stamp.serial found in (
        found,
        subst (λ (rows : List StampRow). IsFound asked b rows stamp found) (append-nil before) is,
        ([], ap (λ (l : List Failure). l ++ own) failing ∙ sym (append-nil own), refl),
      )
  failing_next b before (first ∷ stamps) failures stamp found failing is =
      let own = failures_of stamp.serial found in
      let rest = failing.2 in (
        failing.0,
        failing.1,
        (
          rest.0 ++ own,
          ap (λ (l : List Failure). l ++ own) rest.1 ∙ append_assoc (failures_of first.serial failing.0) rest.0 own,
          failing_next b (before ++ first ∷ []) stamps rest.0 stamp found rest.2
              (subst (λ (rows : List StampRow). IsFound asked b rows stamp found)
              (sym (append_assoc before (first ∷ []) stamps)) is),
        ),
      )

  module _ (b : History) (rows : List StampRow) where
    module _ (stamp : StampRow) where
      abbrev pub IsJudgedSo : Option Judgement → Type 0
      IsJudgedSo judged =
          asked.judge ≡ true → IsJudgedBehind (evidence_in (policy_view asked.inquiry.policy.now) b) rows stamp judged

      -- where stamps are judged
      pub judged_so : {E : Type 0} (kept kept' : Kept) (r : Result (Option Judgement) E) → asked.judge ≡ true
          → Knows asked b rows kept
          → (IsKept b rows kept → IfOk r (λ judged.
          IsJudgedBehind (evidence_in (policy_view asked.inquiry.policy.now) b) rows stamp judged
          × IsKept b (rows ++ stamp ∷ []) kept'))
          → IfOk r (λ judged. IsJudgedSo judged × Knows asked b (rows ++ stamp ∷ []) kept')
      judged_so kept kept' (Ok judged) judge known is =
          let found = is (known.kept_is judge) in (
            λ e. found.0,
            record { installed = found.1.installed; kept_is = λ e. found.1 },
          )
      judged_so kept kept' (Err e) judge known is = tt

      -- where they aren't checked
      pub found_unchecked : (judged : Option Judgement) → asked.check ≡ false → IsJudgedSo judged
          → (asked.judge ≡ false → judged ≡ None)
          → IsFound asked b rows stamp (record { row = true; deposit = true; judged = judged })
      found_unchecked judged check_is is unjudged = record {
        row = λ e. cc e;
        deposit = λ e. cc e;
        unchecked = λ e. (refl, refl);
        judged = is;
        unjudged = unjudged;
      }

      -- and where they are
      pub found_checked : (row deposit : Bool) (judged : Option Judgement) → asked.check ≡ true
          → (IsTrue row ↔ IsConsistent stamp (identities b))
          → (IsTrue deposit ↔ IsIntact (deposit_with_stamp stamp.serial b)) → IsJudgedSo judged
          → (asked.judge ≡ false → judged ≡ None)
          → IsFound asked b rows stamp (record { row = row; deposit = deposit; judged = judged })
      found_checked row deposit judged check_is passes intact is unjudged = record {
        row = λ e. passes;
        deposit = λ e. intact;
        unchecked = λ e. cc e;
        judged = is;
        unjudged = unjudged;
      }

  -- what is to be found of a stamp behind the rows that are known, with which it is known then
  abbrev pub IsFoundBy : {B : Type 0} → Ghosts B → (now next : B) → (kept kept' : Kept) → StampRow → Findings → Type 0
  IsFoundBy g now next kept kept' stamp found =
      g.honest next → (b : History) → Stands g b now → (rows : List StampRow) → Knows asked b rows kept
      → IsFound asked b rows stamp found × Knows asked b (rows ++ stamp ∷ []) kept'

  -- what is known of the stamps before those that are left, behind these rows
  pub record Examined (b : History) (before : List StampRow) (failures : List Failure) (kept : Kept) (left : ℕ)
      : Type 0 where
    pub stamps : List StampRow
    pub parts : stamps_between asked.inquiry.from asked.inquiry.to b ≡ stamps ++ stamps_between left asked.inquiry.to b
    pub failing : AreFailing asked b before stamps failures
    pub known : Knows asked b (before ++ stamps) kept

  -- The stamps before those that are left were looked at, and the lines of what fails are told.
  pub record HasExamined {B : Type 0} (g : Ghosts B) (old now : B) (kept kept' : Kept) (err err' : Option (List ℕ))
      (left : ℕ) (agree : Bool)
      : Type 0 where
    pub looks : OnlyLooks g old now
    pub failures : List Failure
    pub told : Appends err err' (failing_lines failures)
    pub agreed : agree ≡ true → (failures ≡ []) × (err' ≡ err)
    pub failed : agree ≡ false → failures ≢ []
    pub examined : g.honest now → (b : History) → Stands g b old
        → (before : List StampRow) → Knows asked b before kept → Examined b before failures kept' left

  pub begun : {B : Type 0} (g : Ghosts B) (store : B) (kept : Kept) (err : Option (List ℕ))
      → HasExamined g store store kept kept err err asked.inquiry.from true
  begun g store kept err = record {
    looks = looks_not g store;
    failures = [];
    told = Appends-nil err;
    agreed = λ e. (refl, refl);
    failed = λ e. cc e;
    examined = λ h b s before known. record {
      stamps = [];
      parts = refl;
      failing = refl;
      known = subst (λ (rows : List StampRow). Knows asked b rows kept) (sym (append-nil before)) known;
    };
  }

  -- what the next stamp is to a history's
  abbrev pub IsNext : {B : Type 0} → Ghosts B → (now next : B) → (left left' : ℕ) → StampRow → Type 0
  IsNext g now next left left' stamp =
      g.honest next → (b : History) → Stands g b now
      → stamps_between left asked.inquiry.to b ≡ stamp ∷ stamps_between left' asked.inquiry.to b

  -- the next stamp, and what is found of it
  pub record Follows {B : Type 0} (g : Ghosts B) (now next : B) (kept kept' : Kept) (left left' : ℕ) (stamp : StampRow)
      (found : Findings) : Type 0 where
    pub looks : OnlyLooks g now next
    pub is : IsNext g now next left left' stamp
    pub by : IsFoundBy g now next kept kept' stamp found

  pub follows : {B : Type 0} (g : Ghosts B) (now mid next : B) (kept kept' : Kept) (left : ℕ) (o : Option Stamp)
      (stamp : Stamp) (found : Findings)
      → o ≡ Some stamp → OnlyLooks g now mid → OnlyLooks g mid next
      → (g.honest mid → (b : History) → Stands g b now → IsNextStamp left asked.inquiry.to b o)
      → IsFoundBy g mid next kept kept' (stamp_view stamp) found
      → Follows g now next kept kept' left (stamp.serial + 1) (stamp_view stamp) found
  follows g now mid next kept kept' left o stamp found some first second is by = record {
    looks = looks_after g now mid next first second;
    is = λ h b s. next_is left asked.inquiry.to b o stamp some (is (second.honest h) b s);
    by = λ h b s rows known. by h b (first.stands b s) rows known;
  }

  module _ {B : Type 0} {g : Ghosts B} {old now next : B} {kept kept' kept'' : Kept} {err err' : Option (List ℕ)}
      {left left' : ℕ} {agree : Bool} {stamp : StampRow} {found : Findings}
      (before : HasExamined g old now kept kept' err err' left agree)
      (after : Follows g now next kept' kept'' left left' stamp found) where
    abbrev own : List Failure
    own = failures_of stamp.serial found

    -- with this one
    examined_next : g.honest next → (b : History) → Stands g b old → (rows : List StampRow) → Knows asked b rows kept
        → Examined b rows (before.failures ++ own) kept'' left'
    examined_next h b s rows known =
        let was = before.examined (after.looks.honest h) b s rows known in
        let stands = before.looks.stands b s in
        let here = after.by h b stands (rows ++ was.stamps) was.known in
        record {
          stamps = was.stamps ++ stamp ∷ [];
          parts = split_next (stamps_between asked.inquiry.from asked.inquiry.to b) was.stamps (stamps_between left asked.inquiry.to b)
              (stamps_between left' asked.inquiry.to b) stamp was.parts (after.is h b stands);
          failing = failing_next b rows was.stamps before.failures stamp found was.failing here.0;
          known = subst (λ (l : List StampRow). Knows asked b l kept'') (append_assoc rows was.stamps (stamp ∷ []))
              here.1;
        }

    pub passed : own ≡ [] → HasExamined g old next kept kept'' err err' left' agree
    passed none = record {
      looks = looks_after g old now next before.looks after.looks;
      failures = before.failures;
      told = before.told;
      agreed = before.agreed;
      failed = before.failed;
      examined = λ h b s rows known.
          subst (λ (l : List Failure). Examined b rows l kept'' left')
          (ap (λ (l : List Failure). before.failures ++ l) none ∙ append-nil before.failures)
          (examined_next h b s rows known);
    }

    module _ (some : own ≢ []) (err'' : Option (List ℕ)) where
      some_after : before.failures ++ own ≢ []
      some_after = nonempty_after before.failures own some

      pub failed : Appends err' err'' (failing_lines own) → HasExamined g old next kept kept'' err err'' left' false
      failed lines = record {
        looks = looks_after g old now next before.looks after.looks;
        failures = before.failures ++ own;
        told = subst (Appends err err'') (sym (lines_after before.failures own))
            (Appends-trans err err' err'' (failing_lines before.failures) (failing_lines own) before.told lines);
        agreed = λ e. cc e;
        failed = λ e. some_after;
        examined = examined_next;
      }

      -- the lines of this one are cut off
      cut_next : IsCutOff err' err'' (failing_lines own) → IsCutOff err err'' (failing_lines (before.failures ++ own))
      cut_next cut =
          let lines = failing_lines before.failures in
          let line = failing_lines own in
          let whole = lines_after before.failures own in
          let appended = Appends-trans err err' err'' lines (take cut.0 line) before.told cut.2 in
          let taken : take (length lines + cut.0) (failing_lines (before.failures ++ own)) ≡ lines ++ take cut.0 line =
          ap (take (length lines + cut.0)) whole ∙ take-append-add lines line cut.0 in (
            length lines + cut.0,
            omega (arith, cut.1, ap length whole, length-append lines line),
            subst (Appends err err'') (sym taken) appended,
          )

      pub cut_off : IsCutOff err' err'' (failing_lines own) → g.honest next → (b : History) → Stands g b old
          → (rows : List StampRow) → Knows asked b rows kept → ExaminesBehind asked b rows err err'' false
      cut_off cut h b s rows known =
          let seen = examined_next h b s rows known in
          record {
            examined = seen.stamps;
            left = stamps_between left' asked.inquiry.to b;
            parts = seen.parts;
            failures = before.failures ++ own;
            failing = seen.failing;
            told = inr (cut_next cut);
            agreed = λ e. cc e;
            failed = λ e. some_after;
          }

      pub cut_told : IsCutOff err' err'' (failing_lines own) → TellsSome err err''
      cut_told cut =
          let told = cut_next cut in
          some_told err err'' (before.failures ++ own) some_after told.0 told.2

  pub ended : {B : Type 0} (g : Ghosts B) (old now next : B) (kept kept' : Kept) (err err' : Option (List ℕ))
      (left : ℕ) (agree : Bool)
      → HasExamined g old now kept kept' err err' left agree → OnlyLooks g now next
      → (g.honest next → (b : History) → Stands g b now → stamps_between left asked.inquiry.to b ≡ [])
      → g.honest next → (b : History) → Stands g b old → (rows : List StampRow) → Knows asked b rows kept
      → ExaminesBehind asked b rows err err' agree
  ended g old now next kept kept' err err' left agree before looks none h b s rows known =
      let was = before.examined (looks.honest h) b s rows known in
      let last = none h b (before.looks.stands b s) in
      record {
        examined = was.stamps;
        left = [];
        parts = was.parts ∙ ap (λ l. was.stamps ++ l) last;
        failures = before.failures;
        failing = was.failing;
        told = inl (refl, before.told);
        agreed = λ e. ((before.agreed e).0, refl);
        failed = before.failed;
      }
