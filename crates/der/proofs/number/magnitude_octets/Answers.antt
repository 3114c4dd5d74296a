use Rattle.std.proofs.Common.{◌∙◌}
use Rattle.der.proofs.NumberContents.{magnitude_more, magnitude_last}
use Rattle.der.proofs.number.magnitude_octets.Goals as goal

pub loop-rest-preserved : goal.loop-rest-preserved
loop-rest-preserved c =
    magnitude_more c.args.number c.loop-rest.rest c.loop-rest.octets.items _ c.loop-rest-test.true c.loop-rest.invariant
    c.in_ok-push.ensures.items

pub returns-clause-content : goal.returns-clause-content
returns-clause-content c =
    c.reverse.ensures.items ∙ magnitude_last c.args.number c.loop-rest.rest c.loop-rest.octets.items _
    c.loop-rest-test.false c.loop-rest.invariant c.in_ok-push-2.ensures.items
