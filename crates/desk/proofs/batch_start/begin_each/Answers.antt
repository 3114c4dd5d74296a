use Rattle.std.proofs.Common.{◌∙◌, map, refl, sym, ap, subst}
use Rattle.book.specs.History.{Reserved}
use Rattle.desk.specs.auxiliary.Halves.{AreBegun, at_once, anew}
use Rattle.desk.specs.{Calls.settings_view, Commits.call_for, Commits.IsCommitted, Commits.untried}
use Rattle.desk.specs.{Together.questions_view, auxiliary.Verdicts.JudgesEach, WaitingStamps.waiting_view}
use Rattle.desk.proofs.batch_start.begin_each.Goals.{then-is_err, else-is_err}
use Rattle.desk.proofs.{stamps.Committed.commit_fine, stamps.Committed.commit_refused, stamps.Halves.begun_honest}
use Rattle.desk.proofs.batch_start.begin_each.Goals as goal

pub returns-clause-begins : goal.returns-clause-begins
returns-clause-begins g c =
    let s = settings_view c.args.settings in
    let asked = questions_view c.args.asked.now in
    let old = c.args.store.now in
    let mid = c.judge_each.new.store in
    let held = c.reserve_each.new.store in
    let h = c.judge_each.ensures.judges in
    let call = call_for c.reserve_each.result in
    let commits = subst (λ xs. IsCommitted g.B.Standing (map Reserved (map waiting_view xs)) mid held call)
    c.deref.ensures.value c.reserve_each.ensures.commits in
    elim c.if-is_err.branch [
      | then-is_err w ↦
          let refusal = commit_refused c.reserve_each.result c.reserve_each.ensures.refusals
          (sym w.if-is_err.ensures.value) in
          let none = ap (λ v. v.items) w.waits-is ∙ w.clear.ensures.items in
          subst (λ t. AreBegun g.B.Standing s asked c.if-is_err.verdicts.items c.if-is_err.waits.items old t)
          (sym w.store-is)
          (subst (λ v. AreBegun g.B.Standing s asked v.items c.if-is_err.waits.items old w.settle_each.new.store)
          (sym w.verdicts-is)
          (record {
            begun = held;
            tried = anew c.judge_each.new.verdicts.items c.judge_each.new.waits.items call mid h commits refusal none;
            judged = w.settle_each.new.store;
            judges = subst (λ ws. JudgesEach g.B.Standing s asked w.settle_each.new.verdicts.items ws held
                w.settle_each.new.store) (sym none) (w.settle_each.ensures.judges call refusal);
            reserved = untried (ap (λ ws. map Reserved (map waiting_view ws)) none) refl refl;
          }))
      | else-is_err w ↦
          subst (λ t. AreBegun g.B.Standing s asked c.if-is_err.verdicts.items c.if-is_err.waits.items old t)
          (sym w.store-is)
          (subst (λ v. AreBegun g.B.Standing s asked v.items c.if-is_err.waits.items old held) (sym w.verdicts-is)
          (subst (λ v. AreBegun g.B.Standing s asked c.judge_each.new.verdicts.items v.items old held) (sym w.waits-is)
          (record {
            begun = old;
            tried = at_once refl;
            judged = mid;
            judges = h;
            reserved = subst (λ k. IsCommitted g.B.Standing (map Reserved (map waiting_view
                c.judge_each.new.waits.items)) mid held k)
                (commit_fine c.reserve_each.result (sym w.if-is_err.ensures.value)) commits;
          })))
    ]

pub returns-clause-honest : goal.returns-clause-honest
returns-clause-honest g c = begun_honest g.B.Standing (settings_view c.args.settings) (questions_view c.args.asked.now)
    c.if-is_err.verdicts.items c.if-is_err.waits.items c.args.store.now c.if-is_err.store (returns-clause-begins g c)
