use Rattle.tables.proofs.Words.{entries_view, err_from_is_err_and, refl, state, subst, sym, ◌∙◌}
use Rattle.tables.proofs.EachLemmas.{made_next, made_none, made_whole, refused_next}
use Rattle.tables.specs.{Changes.applied_all, Transaction.Carries}
use Rattle.tables.proofs.changes.make_each.Goals as goal

pub loop-entry-init : goal.loop-entry-init
loop-entry-init g c = record { same = refl; made = made_none c.args.entries.now _ }

pub loop-entry-preserved : goal.loop-entry-preserved
loop-entry-preserved g c = record {
  same = c.make.ensures.same_reference ∙ c.loop-entry.invariant.same;
  made = made_next c.args.entries.now c.loop-entry.entry-index _ _ _ _ _ c.loop-entry-test.true
      c.loop-entry.invariant.made c.in_ok-make.ensures.carries;
}

pub returns-in_err-make-clause-carries : goal.returns-in_err-make-clause-carries
returns-in_err-make-clause-carries g c =
    let failing = err_from_is_err_and c.from_residual.result c.from_residual.ensures.1 in
    subst (λ r. Carries (applied_all (entries_view c.args.entries.now)) (state g.S.Store c.args.tx.now.conn.now)
    (state g.S.Store c.make.new.tx.conn.now) r) (sym (failing.1))
    (refused_next c.args.entries.now c.loop-entry.entry-index _ _ _ _ _ _ c.loop-entry.invariant.made
    c.in_err-make.ensures.carries)

pub returns-clause-carries : goal.returns-clause-carries
returns-clause-carries g c =
    made_whole c.args.entries.now c.loop-entry.entry-index _ _ c.requires c.loop-entry-test.false
    c.loop-entry.invariant.made
