-- The answers of the machine that those of the calls on deposits and rights are.
use Rattle.std.specs.{Prelude.ℕ, Prelude.map, Prelude.Vec, declared.alloc.Global.Global}
use Rattle.book.specs.{Values.listed_view, declared.values.Listed.Listed as Row}
use Rattle.desk.specs.Command.{Answer, Kept, Shown, Listed, Done, Numbered}
use Rattle.desk.specs.declared.reply.Deposited.{Deposited}

abbrev pub deposited_as : Deposited → Answer
deposited_as d = Kept d.number d.is_new

abbrev pub shown_as : Vec ℕ Global → Answer
shown_as octets = Shown octets.items

abbrev pub listed_as : Vec Row Global → Answer
listed_as rows = Listed (map listed_view rows.items)

abbrev pub done_as : Unit {0} → Answer
done_as done = Done

abbrev pub numbered_as : ℕ → Answer
numbered_as number = Numbered number
