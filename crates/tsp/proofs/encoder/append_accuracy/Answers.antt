-- Three parts of an accuracy have at most 39 octets.
use Rattle.std.proofs.Common.{◌/◌, ◌%◌, length, arith, ap}
use Rattle.tsp.proofs.TstLawful.{part_adds}
use Rattle.tsp.proofs.encoder.append_accuracy.Goals as goal

pub append_value-requires : goal.append_value-requires
append_value-requires c =
    let one = part_adds 2 (c.args.micros / 1000000) _ _ (omega arith) c.in_ok-append_part.ensures.ok in
    let two = part_adds 128 (c.args.micros / 1000 % 1000) _ _ (omega arith) c.in_ok-append_part-2.ensures.ok in
    let three = part_adds 129 (c.args.micros % 1000) _ _ (omega arith) c.in_ok-append_part-3.ensures.ok in
    omega (arith, one, two, three, ap length c.inner-parts.ensures, ap length c.as_slice.ensures)
