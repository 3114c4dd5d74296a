use Rattle.std.proofs.{Common.ap, lemmas.Result.IfOk-weaker}
use Rattle.book.specs.declared.values.Last.{Last}
use Rattle.operations.proofs.GoingOn.{last_found}
use Rattle.operations.proofs.continuation.last_stamp.Goals as goal

pub returns-clause-value : goal.returns-clause-value
returns-clause-value g c honest b s =
    let looks = c.next_stamp.ensures.looks in
    let last = c.in_ok-last.ensures in
    IfOk-weaker c.next_stamp.result _ _
    (λ found next. last_found b _ found s.sound (ap (λ (l : Last). l.serial) (last.value (looks.honest honest) b s)) next)
    (c.next_stamp.ensures.value honest b (last.looks.stands b s))
