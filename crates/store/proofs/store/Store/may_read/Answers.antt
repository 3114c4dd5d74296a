use Rattle.store.proofs.Words.{ap, drop_more, map, subst, viewer_of}
use Rattle.store.proofs.{Asked.HasAsked, Asked.asked_alone, Asked.asked_more, Calls.no_answer, Walk.looks_after}
use Rattle.store.proofs.store.Store.may_read.Goals as goal

pub loop-name-init : goal.loop-name-init
loop-name-init g c =
    asked_alone g.S.Store _ _ _ _ _ c.in_ok-reads.ensures.looks c.in_ok-reads.ensures.faults
    c.in_ok-reads.ensures.opened c.if-reads.false c.in_ok-reads.ensures.value

pub returns-in_err-reads-2-clause-looks : goal.returns-in_err-reads-2-clause-looks
returns-in_err-reads-2-clause-looks g c =
    looks_after g.S.Store _ _ _ c.loop-name.invariant.looks c.in_err-reads-2.ensures.looks

pub returns-then-reads-2-clause-looks : goal.returns-then-reads-2-clause-looks
returns-then-reads-2-clause-looks g c =
    looks_after g.S.Store _ _ _ c.loop-name.invariant.looks c.in_ok-reads-2.ensures.looks

pub loop-name-preserved : goal.loop-name-preserved
loop-name-preserved g c =
    asked_more g.S.Store _ _ _ _ _ _ _ _
    (subst (λ left. HasAsked g.S.Store c.args.self.now c.loop-name.self c.args.number
    (viewer_of c.args.account.now (map (λ name. name.now) c.args.groups.now)) left)
    (ap (map (λ name. name.now)) (drop_more c.args.groups.now c.loop-name.name-index _ c.loop-name-test.true))
    c.loop-name.invariant)
    c.in_ok-reads-2.ensures.looks c.in_ok-reads-2.ensures.faults c.if-reads-2.false c.in_ok-reads-2.ensures.value

pub returns-in_err-reads-clause-value : goal.returns-in_err-reads-clause-value
returns-in_err-reads-clause-value g c honest b s = no_answer _ _ c.from_residual.ensures.0

pub returns-in_err-reads-2-clause-value : goal.returns-in_err-reads-2-clause-value
returns-in_err-reads-2-clause-value g c honest b s = no_answer _ _ c.from_residual-in_err-reads-2.ensures.0
