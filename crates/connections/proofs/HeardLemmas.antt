-- Connections that are heard: more of them, and what is left of them where nothing is told.
use Rattle.std.proofs.Common.{◌≡◌, ◌∙◌, ℕ, ◌+◌, ◌-◌, ℤ, List, [], ◌∷◌, ◌++◌, length, map, Option, Result, Ok}
use Rattle.std.proofs.Common.{Err, OnErr, OnOk, arith, refl, sym, ap, subst}
use Rattle.std.proofs.lemmas.List.{length-append, length-map, map-append}
use Rattle.book.specs.declared.standing.Standing.{Ghosts}
use Rattle.cms.specs.declared.signer.SignerFault.{SignerFault}
use Rattle.desk.specs.MachineRuns.{IsProper}
use Rattle.service.specs.{Received.ReceivedValue, declared.exchange.Exchanged.Exchanged}
use Rattle.connections.specs.Heard.{Hall, IsHeard, failed, answered, Follow, AreHeard, StopsHearing}
use Rattle.connections.specs.Turns.{State, untold, AreGiven, IsServedBy, StopsByClock}
use Rattle.connections.specs.declared.clock.ClockFailed.{ClockFailed}
use Rattle.connections.specs.{Heard.counted_along, Parts.handed_along, Parts.readings, Run.ServesEach}
use Rattle.connections.proofs.PartsLemmas.{given_then, handed_in_turn, done_then, done_setting, done_honest}
use Rattle.connections.proofs.RunLemmas.{RunLaws, served_run, stopped_run}
use Rattle.connections.proofs.UntoldLemmas.{bare_part, bare_readings, as_many_bare, bare_done}

-- what holds where there is an error
pub on_err : {A E : Type 0} (result : Result A E) (P : Type 0) → P → OnErr result P
on_err (Ok done) P is = tt
on_err (Err fault) P is = is

counted_more : {A : Type 0} (after : List (ℕ × A)) (n : ℕ) (new : A)
    → counted_along (after ++ ((n, new) ∷ [])) ≡ counted_along after + n
counted_more [] n new = omega arith
counted_more (next ∷ rest) n new = omega (arith, counted_more rest n new)

module _ {L S C B X : Type 0} (hands : L → Option ℕ → ReceivedValue → S → L → Type 0) (fails : L → ℕ → L → Type 0)
    (stays : L → L → Type 0) (takes_back : L → S → Exchanged → L → Type 0) (contents : S → Option (List ℕ))
    (reads : C → Result ℤ ClockFailed → C → Type 0) (g : Ghosts B)
    (signs : X → List ℕ → Result (List ℕ) SignerFault → X → Type 0) (count : X → ℕ) where
  abbrev One : ℕ → ℕ → Hall L C B X → Hall L C B X → Type 0
  One = IsHeard hands fails stays takes_back contents reads g signs count

  abbrev Many : ℕ → Hall L C B X → List (ℕ × Hall L C B X) → Hall L C B X → Type 0
  Many = Follow hands fails stays takes_back contents reads g signs count

  abbrev All : ℕ → ℕ → Hall L C B X → Hall L C B X → Type 0
  All = AreHeard hands fails stays takes_back contents reads g signs count

  follow_more : (most : ℕ) (old : Hall L C B X) (after : List (ℕ × Hall L C B X)) (mid : Hall L C B X) (n : ℕ)
      (new : Hall L C B X) → Many most old after mid → One (most - counted_along after) n mid new
      → Many most old (after ++ ((n, new) ∷ [])) new
  follow_more most old [] mid n new same heard =
      let all : most - 0 ≡ most = omega arith in
      (subst (λ s. One most n s new) same (subst (λ k. One k n mid new) all heard), refl)
  follow_more most old (next ∷ rest) mid n new follow heard =
      let left : most - (next.0 + counted_along rest) ≡ (most - next.0) - counted_along rest = omega arith in (
        follow.0,
        follow_more (most - next.0) next.1 rest mid n new follow.1 (subst (λ k. One k n mid new) left heard),
      )

  -- none
  pub heard_none : (most : ℕ) (old : Hall L C B X) → All most 0 old old
  heard_none most old = record { after = []; counted = refl; follow = refl }

  -- more
  pub heard_more : (most n m : ℕ) (old mid new : Hall L C B X) → All most n old mid → One (most - n) m mid new
      → All most (n + m) old new
  heard_more most n m old mid new heard next = record {
    after = heard.after ++ ((m, new) ∷ []);
    counted = counted_more heard.after m new ∙ ap (λ k. k + m) heard.counted;
    follow = follow_more most old heard.after mid m new heard.follow
        (subst (λ k. One (most - k) m mid new) (sym heard.counted) next);
  }

  -- as many
  pub heard_as : (most n k : ℕ) (old new : Hall L C B X) → n ≡ k → All most n old new → All most k old new
  heard_as most n k old new is heard = record {
    after = heard.after;
    counted = heard.counted ∙ is;
    follow = heard.follow;
  }

  -- what is told of no octets
  served_first : (most n : ℕ) (old next : Hall L C B X) (rest : ℕ) (new : State C B X) → One most n old next
      → IsServedBy reads g signs count rest next.others new
      → IsServedBy reads g signs count (n + rest) old.others new
  served_first most n old next rest new (failed one fell same) r =
      let more : IsServedBy reads g signs count (n + rest) next.others new = record {
        parts = r.parts;
        failed = r.failed + 1;
        counted = omega (arith, one, r.counted);
        given = r.given;
        done = r.done;
      } in
      subst (λ s. IsServedBy reads g signs count (n + rest) s new) same more
  served_first most n old next rest new (answered is) r =
      let parts = is.answered.parts in
      let bare = map bare_part parts in
      let are : readings is.handed ≡ readings (handed_along bare) =
      ap readings (sym is.answered.are) ∙ sym (bare_readings parts) in
      let as_many : length (handed_along bare) ≡ n =
      as_many_bare parts ∙ (ap length is.answered.are ∙ is.counted) in
      let all = handed_in_turn bare r.parts in
      let lengths = ap length all ∙ length-append (handed_along bare) (handed_along r.parts) in
      let clocks : readings (handed_along (bare ++ r.parts))
      ≡ readings (handed_along bare) ++ readings (handed_along r.parts) =
      ap readings all ∙ map-append (λ h. h.reading) (handed_along bare) (handed_along r.parts) in
      record {
        parts = bare ++ r.parts;
        failed = r.failed;
        counted = omega (arith, as_many, lengths, r.counted);
        given = subst (λ rs. AreGiven reads old.others.clock rs new.clock) (sym clocks)
            (given_then reads old.others.clock (readings (handed_along bare)) next.others.clock
            (readings (handed_along r.parts)) new.clock
            (subst (λ rs. AreGiven reads old.others.clock rs next.others.clock) are is.gathered.given) r.given);
        done = done_then untold g signs count bare old.others.desk old.others.signer next.others.desk
            next.others.signer r.parts new.desk new.signer
            (bare_done contents g signs count parts old.others.desk old.others.signer next.others.desk
            next.others.signer is.answered.done) r.done;
      }

  served_along : (most : ℕ) (old : Hall L C B X) (after : List (ℕ × Hall L C B X)) (new : Hall L C B X)
      → Many most old after new → IsServedBy reads g signs count (counted_along after) old.others new.others
  served_along most old [] new same = record {
    parts = [];
    failed = 0;
    counted = refl;
    given = ap (λ s. s.others.clock) same;
    done = (ap (λ s. s.others.desk) same, ap (λ s. s.others.signer) same);
  }
  served_along most old (next ∷ rest) new follow =
      served_first most next.0 old next.1 (counted_along rest) new.others follow.0
      (served_along (most - next.0) next.1 rest new follow.1)

  pub served : (most n : ℕ) (old new : Hall L C B X) → All most n old new
      → IsServedBy reads g signs count n old.others new.others
  served most n old new heard =
      subst (λ k. IsServedBy reads g signs count k old.others new.others) heard.counted
      (served_along most old heard.after new heard.follow)

  -- what each result tells
  abbrev Told : ℕ → Hall L C B X → Hall L C B X → {A : Type 0} → Result A ClockFailed → Type 0
  Told n old new result =
      OnOk result (All n n old new)
      × OnErr result (StopsHearing hands fails stays takes_back contents reads g signs count n old new)

  served_setting : (most n : ℕ) (old new : Hall L C B X) → All most n old new
      → new.others.desk.setting ≡ old.others.desk.setting
  served_setting most n old new heard =
      let all = served most n old new heard in
      done_setting untold g signs count all.parts old.others.desk old.others.signer new.others.desk new.others.signer
      all.done

  served_honest : (most n : ℕ) (old new : Hall L C B X) → All most n old new
      → g.honest new.others.desk.store → g.honest old.others.desk.store
  served_honest most n old new heard honest =
      let all = served most n old new heard in
      done_honest untold g signs count all.parts old.others.desk old.others.signer new.others.desk new.others.signer
      all.done honest

  pub told_setting : (n : ℕ) (old new : Hall L C B X) {A : Type 0} (result : Result A ClockFailed)
      → Told n old new result → new.others.desk.setting ≡ old.others.desk.setting
  told_setting n old new (Ok done) told = served_setting n n old new told.0
  told_setting n old new (Err fault) told =
      let s = told.1 in
      ap (λ d. d.setting) s.dropped.desk ∙ served_setting n s.heard old s.last s.before

  pub told_honest : (n : ℕ) (old new : Hall L C B X) {A : Type 0} (result : Result A ClockFailed)
      → Told n old new result → g.honest new.others.desk.store → g.honest old.others.desk.store
  told_honest n old new (Ok done) told honest = served_honest n n old new told.0 honest
  told_honest n old new (Err fault) told honest =
      let s = told.1 in
      served_honest n s.heard old s.last s.before (subst (λ d. g.honest d.store) s.dropped.desk honest)

  -- it is a run
  pub told_run : RunLaws signs → (n : ℕ) (old new : Hall L C B X) {A : Type 0} (result : Result A ClockFailed)
      → IsProper old.others.desk.setting → Told n old new result
      → ServesEach reads g signs count n old.others new.others result
  told_run laws n old new (Ok done) proper told =
      served_run reads g signs count laws n old.others new.others (served n n old new told.0) proper
  told_run laws n old new {A} (Err fault) proper told =
      let s = told.1 in
      let cut = s.dropped.cut in
      let stops : StopsByClock reads g signs count n old.others new.others = record {
        served = s.heard;
        last = s.last.others;
        before = served n s.heard old s.last s.before;
        readings = readings cut.gathered;
        clock = cut.asked;
        given = cut.given;
        failed = (cut.fault, cut.refused);
        fewer = omega (arith, cut.fewer, s.counted, length-map cut.gathered (λ h. h.reading));
        desk = s.dropped.desk;
        signer = s.dropped.signer;
      } in
      stopped_run reads g signs count laws {A = A} n old.others new.others stops proper (Err fault) refl
