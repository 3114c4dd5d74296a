use Rattle.store.proofs.{Words.◌∙◌, Calls.kept_seen, Calls.looks_now, Numbered.calibration_view_of}
use Rattle.store.proofs.store.StoreBook.calibration.Goals as goal

pub returns-in_err-latest-clause-looks : goal.returns-in_err-latest-clause-looks
returns-in_err-latest-clause-looks g c = looks_now g.S.Store _ _ _ c.self.view_is c.in_err-latest.ensures.reads

pub returns-clause-looks : goal.returns-clause-looks
returns-clause-looks g c = looks_now g.S.Store _ _ _ c.self.view_is c.in_ok-latest.ensures.reads

pub returns-clause-value : goal.returns-clause-value
returns-clause-value g c honest b s =
    c.calibration_from.ensures
    ∙ (calibration_view_of b _ (c.in_ok-latest.ensures.value honest _ (kept_seen g.S.Store _ _ b c.self.view_is s))).0
