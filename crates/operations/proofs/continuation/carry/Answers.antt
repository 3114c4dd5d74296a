use Rattle.std.proofs.Common.{◌≡◌, ◌∙◌, Err, Ok, ap, map, reverse}
use Rattle.book.specs.{History.holds, Values.hold_view}
use Rattle.operations.proofs.GoingOn.{closes_as, fails_as, known_from, storage_fault}
use Rattle.operations.proofs.continuation.carry.Goals as goal

pub returns-in-Ok-clause-done : goal.returns-in-Ok-clause-done
returns-in-Ok-clause-done g c = λ known.
    let found = c.in_ok-carried.ensures in
    let done = c.in-Ok.ensures in
    let held = ap (map hold_view) c.as_slice.ensures.value in (
      closes_as g.B.Standing _ c.args.book.now c.close_for_tokens.new.book tt c.in_ok-carried.carried
          (known_from g.B.Standing (λ b. map hold_view c.as_slice.result.now ≡ reverse (holds b)) _ c.args.book.now
          c.look_up.new.book c.close_for_tokens.new.book (Ok tt) found.looks
          (λ honest b s k. held ∙ (found.value honest b s).holds) done.closes),
      found.asked,
      λ h b s. found.value (done.closes.honest h) b s,
      λ h l leaves b s. done.settled h l leaves b (found.looks.stands b s)
          (held ∙ (found.value (done.closes.honest h) b s).holds)
          (λ before. found.settled (done.closes.honest h) l before b s),
    )

pub returns-in-Err-clause-done : goal.returns-in-Err-clause-done
returns-in-Err-clause-done g c = λ known.
    let found = c.in_ok-carried.ensures in
    let refused = c.in-Err in (
      storage_fault refused.refused refused.ensures.refusals,
      known_from g.B.Standing (λ b. map hold_view c.as_slice.result.now ≡ reverse (holds b)) _ c.args.book.now
          c.look_up.new.book c.close_for_tokens.new.book (Err refused.refused) found.looks
          (λ honest b s k. ap (map hold_view) c.as_slice.ensures.value ∙ (found.value honest b s).holds)
          (fails_as g.B.Standing _ c.look_up.new.book c.close_for_tokens.new.book refused.refused
          refused.ensures.closes),
    )
