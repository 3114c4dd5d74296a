use Rattle.std.proofs.Common.{◌∙◌, sym, ap}
use Rattle.desk.specs.Succession.{installed_by, is_latest}
use Rattle.desk.proofs.calls.Successions.{none_installed, last_installed}
use Rattle.desk.proofs.succession.is_last.Goals as goal

pub returns-in-None : goal.returns-in-None
returns-in-None c b e =
    sym (ap (is_latest (installed_by c.args.identity.now))
    (none_installed b c.args.rows.items (sym c.args.rows.ok.0 ∙ c.in-None.ensures.cases.0) e))

pub returns : goal.returns
returns c b e =
    c.is_of.ensures
    ∙ sym (ap (is_latest (installed_by c.args.identity.now))
    (last_installed b c.args.rows.items c.pop.new.self.items c.in-Some.row c.in-Some.ensures.items e))
