use Rattle.cms.proofs.Ascending.{joined_more}
use Rattle.cms.proofs.chain.join_ascending.Goals as goal

pub loop-one-preserved : goal.loop-one-preserved
loop-one-preserved c =
    joined_more c.deref-one-items.result.now c.loop-one.joint.items c.extend_from_slice.new.self.items
    c.loop-one.one-index _ _ c.loop-one-test.true c.in_ok-extend_from_slice.ensures.items c.loop-one.invariant
