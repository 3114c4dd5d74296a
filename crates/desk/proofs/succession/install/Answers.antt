use Rattle.std.proofs.{Common.sym, Common.◌∙◌, lemmas.Result.err_from_is_err_and}
use Rattle.desk.specs.Calls.{in_force_of}
use Rattle.desk.specs.declared.obstacle.Obstacle.TheVariants as obstacle
use Rattle.desk.proofs.calls.Successions.{unlooked, addition_told}
use Rattle.desk.proofs.calls.Wrapped.{call_ok, call_err, wrapped_is}
use Rattle.desk.proofs.succession.install.Goals as goal

pub returns-in_err-latest-clause-step : goal.returns-in_err-latest-clause-step
returns-in_err-latest-clause-step g c s algorithm =
    let looked = c.is_installed.ensures in
    let refused = call_err obstacle.Looking c.is_installed.result c.in_err-latest.field-0.0
    c.in_err-latest.ensures.cases in
    let told = err_from_is_err_and c.from_residual.result c.from_residual.ensures.1 in
    rw (told.1, told.2, refused.2) (unlooked g.B.Standing s (in_force_of c.args.identity.now algorithm)
    c.args.store.now c.is_installed.new.store refused.0 (rw refused.1 at looked.refusals) (rw refused.1 at looked.faults)
    looked.looks)

pub returns-clause-step : goal.returns-clause-step
returns-clause-step g c s algorithm =
    let looked = c.is_installed.ensures in
    let is = call_ok obstacle.Looking c.is_installed.result c.in_ok-latest.latest c.in_ok-latest.ensures.cases in
    rw (wrapped_is obstacle.Adding c.add.result c.map_err-2.result c.map_err-2.ensures.cases)
    (addition_told g.B.Standing s (in_force_of c.args.identity.now algorithm) c.args.store.now c.is_installed.new.store
    c.add.new.store c.add.result (record {
      looks = looked.looks;
      uncounted = rw is at looked.faults;
      other = λ honest b st. sym c.if-latest.false ∙ (rw is at (looked.value honest b st));
    }) c.add.ensures.refusals c.add.ensures.appends)
