use Rattle.store.proofs.{Words.◌∙◌, AtNumber.calibration_at, Calls.looks_up_with}
use Rattle.store.proofs.sequence.CalibrationNumbered.after.Goals as goal

pub returns : goal.returns
returns g c =
    looks_up_with g.S.Store _ _ _ _ _ _
    (λ t is b sound same. c.calibration_from.ensures ∙ calibration_at b c.args.count _ (rw same at is))
    c.in_ok-found.ensures
