use Rattle.std.proofs.Common.{◌≡◌, ◌+◌, ◌≤◌, drop}
use Rattle.gentime.specs.auxiliary.Fraction.{worth, micros_of}
use Rattle.gentime.proofs.parser.micros_of.Given as goal

abbrev pub invariant-loop-digit : goal.invariant-loop-digit
invariant-loop-digit l =
    (l.unit ≤ 100_000) × (l.micros + worth l.unit (drop l.digit-index l.digits) ≡ micros_of l.digits)
