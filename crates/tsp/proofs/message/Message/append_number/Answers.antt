-- A number below 2 ^ 63 has at most eight contents octets.
use Rattle.std.proofs.Common.{◌≡◌, pos, length, arith, ap, ◌∙◌, rules, to_z, of_z}
use mir.Syntax.{w128}
use Rattle.der.specs.Number.{number_content}
use Rattle.tsp.proofs.TstLawful.{number_is_short}
use Rattle.tsp.proofs.message.Message.append_number.Goals as goal

pub append_value-requires : goal.append_value-requires
append_value-requires c =
    let from : to_z w128 (of_z w128 c.from.result) ≡ pos c.args.number = search rules in
    let contents = c.in-Ok.ensures.computed ∙ ap number_content from in
    omega (
      arith,
      c.deref.ensures.len,
      ap length c.deref.ensures.value,
      ap length contents,
      number_is_short c.args.number c.requires,
    )
