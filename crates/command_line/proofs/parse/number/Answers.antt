use Rattle.std.proofs.Common.{◌≡◌, ◌<◌, ◌^◌, arith}
use Rattle.std.specs.Str.Parse.{ExplainsUnsignedError, HasUnsignedDigitsIfOk, ParsesUnsigned}
use Rattle.clap.specs.Words.{found_of, rows_of}
use Rattle.command_line.proofs.Stated.{one_number, reads_number, unread_number}
use Rattle.command_line.proofs.parse.number.Goals.{else-numbers-number-via-then-numbers-number+else-number-numbers}
use Rattle.command_line.proofs.parse.number.Goals.{else-numbers-number-via-else-numbers-number}
use Rattle.command_line.proofs.parse.number.Goals as goal

pub returns-then-number-numbers-clause-stated : goal.returns-then-number-numbers-clause-stated
returns-then-number-numbers-clause-stated c =
    reads_number (λ t r. ParsesUnsigned 64 10 t r × ExplainsUnsignedError 10 t r × HasUnsignedDigitsIfOk t r)
    (found_of c.args.matches.now) c.args.name.now c.get_one.result c.in-Some.number c.get_one.ensures.none
    c.get_one.ensures.value
    (λ t r gives. gives.0) c.in-Some.is

pub returns-in_default-clause-none : goal.returns-in_default-clause-none
returns-in_default-clause-none c =
    λ _ number states least most.
    let small : number < 2 ^ 64 = omega arith in
    unread_number (λ t r. ParsesUnsigned 64 10 t r × ExplainsUnsignedError 10 t r × HasUnsignedDigitsIfOk t r)
    (found_of c.args.matches.now) c.args.name.now c.get_one.result number c.get_one.ensures.value
    (λ t r gives. gives.0) c.in_default.is states small

pub returns-else-numbers-number-clause-none : goal.returns-else-numbers-number-clause-none
returns-else-numbers-number-clause-none c =
    λ _ number states least most.
    let read = reads_number (λ t r. ParsesUnsigned 64 10 t r × ExplainsUnsignedError 10 t r × HasUnsignedDigitsIfOk t r)
    (found_of c.args.matches.now) c.args.name.now c.get_one.result c.in-Some.number c.get_one.ensures.none
    c.get_one.ensures.value
    (λ t r gives. gives.0) c.in-Some.is in
    let same : number ≡ c.in-Some.number =
    one_number (rows_of (found_of c.args.matches.now)) c.args.name.now _ _ states read in
    elim c.else-numbers-number.branch [
      | else-numbers-number-via-then-numbers-number+else-number-numbers w ↦
          let over = w.if-number-numbers.false in
          absurd (omega arith)
      | else-numbers-number-via-else-numbers-number w ↦
          let under = w.if-numbers-number.false in
          absurd (omega arith)
    ]
