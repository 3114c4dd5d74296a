use Rattle.std.proofs.Common.{◌∙◌, ◌+◌, [], ap, sym, subst, arith}
use Rattle.std.specs.List.{AllByRecursion}
use Rattle.cms.specs.Signer.{signed_by, count_after, count_after_each, IsSized}
use Rattle.cms.proofs.SignedEach.{awaits_next, count_more, sized_more, is_sized}
use Rattle.cms.proofs.signer.Signer.sign_each.Goals as goal

pub loop-text-preserved : goal.loop-text-preserved
loop-text-preserved g c =
    let before = c.loop-text.invariant in
    record {
      counted = c.push_reserved.ensures.len ∙ ap (λ n. n + 1) before.counted;
      room = omega (arith, before.room, c.push_reserved.ensures.capacity);
      awaits = awaits_next g.Self.Signer.awaits (λ text. text.now) signed_by c.args.texts.now c.loop-text.text-index
          (record { ref_ptr = (0, 0); now = [] }) c.loop-text.answers.items c.push_reserved.new.self.items
          c.receive.result c.args.self.now c.loop-text.self c.receive.new.self c.loop-text-test.true
          c.push_reserved.ensures.items before.awaits (c.receive.ensures.awaits c.args.self.now);
      sized = subst (λ answers. AllByRecursion IsSized answers) (sym c.push_reserved.ensures.items)
          (sized_more c.loop-text.answers.items c.receive.result before.sized
          (is_sized c.receive.result c.receive.ensures.some c.receive.ensures.few));
      faults = c.receive.ensures.counted
          ∙ (ap (count_after c.receive.result) before.faults
          ∙ (sym (count_more c.loop-text.answers.items c.receive.result (g.Self.Signer.fault_count c.args.self.now))
          ∙ ap (λ answers. count_after_each answers (g.Self.Signer.fault_count c.args.self.now))
          (sym c.push_reserved.ensures.items)));
      algorithm = c.receive.ensures.same_algorithm ∙ before.algorithm;
    }
