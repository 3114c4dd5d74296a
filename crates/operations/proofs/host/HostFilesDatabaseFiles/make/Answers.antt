use Rattle.std.proofs.lemmas.Result.{IfOk-weaker}
use Rattle.operations.proofs.FileStores.{stands_as_book}
use Rattle.operations.proofs.host.HostFilesDatabaseFiles.make.Goals as goal

pub returns-clause-stands : goal.returns-clause-stands
returns-clause-stands g c =
    IfOk-weaker c.make_with.result _ _ (λ made makes fit. stands_as_book _ _ made (makes fit)) c.make_with.ensures.made
