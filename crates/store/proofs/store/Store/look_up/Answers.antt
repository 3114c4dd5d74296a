use Rattle.store.proofs.{Calls.kept_seen, Calls.looks_now, LabelRows.one_more_owned}
use Rattle.store.proofs.store.Store.look_up.Goals as goal

pub returns-in_err-labels-clause-looks : goal.returns-in_err-labels-clause-looks
returns-in_err-labels-clause-looks g c = looks_now g.S.Store _ _ _ c.self.view_is c.in_err-labels.ensures.reads

pub returns-in_default-clause-looks : goal.returns-in_default-clause-looks
returns-in_default-clause-looks g c = looks_now g.S.Store _ _ _ c.self.view_is c.in_ok-labels.ensures.reads

pub returns-in_err-push-clause-looks : goal.returns-in_err-push-clause-looks
returns-in_err-push-clause-looks g c = looks_now g.S.Store _ _ _ c.self.view_is c.in_ok-labels.ensures.reads

pub returns-clause-looks : goal.returns-clause-looks
returns-clause-looks g c = looks_now g.S.Store _ _ _ c.self.view_is c.in_ok-labels.ensures.reads

pub returns-clause-value : goal.returns-clause-value
returns-clause-value g c honest b s owned =
    one_more_owned b _ _ _ c.args.owner.now c.in_ok-push.ensures.items owned c.in-Ok.ensures.ok
    (c.in_ok-labels.ensures.value honest _ (kept_seen g.S.Store _ _ b c.self.view_is s))
