use Rattle.std.proofs.Common.{sym, subst}
use Rattle.book.specs.Values.{hold_view}
use Rattle.desk.specs.auxiliary.Obstacles.{outcome_with, told_with}
use Rattle.desk.specs.{CallContract.StepsBy, CallContract.no_signer, Command.Hold, Shown.numbered_as}
use Rattle.desk.proofs.calls.Added.{adding_is}
use Rattle.desk.proofs.additions.hold_by.Goals as goal

pub returns-clause-step : goal.returns-clause-step
returns-clause-step g c s =
    let command = Hold (hold_view c.args.hold.now) in
    subst (λ r. StepsBy g.B.Standing no_signer s command (outcome_with r) c.args.store.now c.add_hold.new.store
    (told_with numbered_as r)) (sym (adding_is c.add_hold.result c.map_err.result c.map_err.ensures.cases))
    (c.add_hold.ensures.step s)
