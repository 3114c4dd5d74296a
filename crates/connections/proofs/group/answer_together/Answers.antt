use Rattle.std.proofs.{Common.length, Common.map, Common.ap, Common.arith, lemmas.List.length-map}
use Rattle.desk.specs.Answers.{reply_as}
use Rattle.connections.specs.auxiliary.Gathering.{handed_view}
use Rattle.connections.proofs.GroupLemmas.{as_many_asked, as_many_judged, together_answered}
use Rattle.connections.proofs.group.answer_together.Goals as goal

pub write_each-requires : goal.write_each-requires
write_each-requires g c =
    let r = c.in-Some.ensures in
    record {
      as_many = omega (
        arith,
        ap length c.deref-in-Some.ensures.value,
        length-map c.in-Some.replies.items reply_as,
        as_many_judged c.args.desk.now.setting.file r.asked (map reply_as c.in-Some.replies.items) r.answered.outcomes
            r.answered.judged,
        as_many_asked c.args.desk.now.setting.file (map handed_view c.deref.result.now) r.asked r.each,
        length-map c.deref.result.now handed_view,
        ap length c.deref.ensures.value,
      );
    }

pub returns-in-Some : goal.returns-in-Some
returns-in-Some g c =
    let as_many = length-map c.args.stamps.items handed_view in
    together_answered _ _ _ _ _ (map handed_view c.args.stamps.items) (map reply_as c.in-Some.replies.items) _ _ _ _ _ _
    (omega (arith, c.if-len-gt1.true, c.args.stamps.ok.0, as_many)) (omega (arith, c.requires.few, as_many))
    (rw c.deref.ensures.value at c.in-Some.ensures) (rw c.deref-in-Some.ensures.value at c.write_each.ensures)
