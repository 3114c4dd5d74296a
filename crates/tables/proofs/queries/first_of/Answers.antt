use Rattle.tables.proofs.Words.{arith, length, nat_tests, ◌<◌, ◌≡◌}
use Rattle.tables.proofs.NumberLemmas.{first_is, none_is}
use Rattle.tables.proofs.queries.first_of.Goals as goal

pub returns-then-is_empty : goal.returns-then-is_empty
returns-then-is_empty c = let none : length c.args.rows.items ≡ 0 = grind (arith, nat_tests) in none_is _ none

pub returns : goal.returns
returns c =
    let some : 0 < length c.args.rows.items = grind (arith, nat_tests) in
    first_is _ _ some c.swap_remove.ensures.value
