use Rattle.std.proofs.Common.{◌≡◌, ◌∙◌, List, ℕ, map, ap, subst}
use Rattle.cms.specs.Signer.{signed_by, SignsEach}
use Rattle.desk.specs.Together.{questions_view, IsAnsweredTogether}
use Rattle.desk.specs.{Answers.reply_as, Calls.settings_view, auxiliary.Completions.texts_of}
use Rattle.desk.specs.{auxiliary.Halves.AreFinished, Sent.SendsReserved, WaitingStamps.pendings_in}
use Rattle.desk.proofs.stamps.Halves.{begun_texts, halves}
use Rattle.desk.proofs.{stamps.Batches.ShowLaws, stamps.Completions.counts_each, journeys.Sound.TextLaws}
use Rattle.desk.proofs.batch.answer_together.Goals as goal

pub returns : goal.returns
returns g c =
    let s = settings_view c.args.settings in
    let asked = questions_view c.args.asked.now in
    let signs = g.G.Signer.signs in
    let x = c.args.signer.now in
    let y = c.sign_each.new.self in
    let begun = c.in_ok-pending.ensures in
    let pending = c.in_ok-pending.pending in
    let rules = pending.verdicts.items in
    let ws = pending.waits.items in
    let held = c.begin_each.new.store in
    let new = c.finish_each-replies.new.store in
    let signed = c.sign_each.new.answers.items in
    let ss = map signed_by signed in
    let answers = map reply_as c.finish_each-replies.result.items in
    let one = c.requests_have_one_reading.ensures in
    let laws : TextLaws = record { one_request = one.one; lawful_answers = one.lawful } in
    let show = c.histories_show_the_same.ensures in
    let shows : ShowLaws = record { apart = show.sealed; more = show.more } in
    let texts = ap (map (λ text. text.now)) c.deref-2.ensures.value
    ∙ (c.texts_of-texts.ensures.texts ∙ (ap (map (λ waiting. waiting.unsigned.text.items)) c.deref.ensures.value
    ∙ begun_texts g.B.Standing s asked rules ws c.args.store.now held begun.begins)) in
    let moves = subst (λ (ts : List (List ℕ)). SignsEach signs x ts ss y) texts c.sign_each.ensures.signs in
    let sends = subst (λ (ts : List (List ℕ)). g.G.Signer.sent x ts y) texts c.sign_each.ensures.sent in
    let finished = subst (λ k. AreFinished g.B.Standing (settings_view k) rules ws ss answers held new) begun.keeps
    (subst (λ xs. AreFinished g.B.Standing (settings_view pending.settings) rules ws (map signed_by xs) answers held
    new) c.deref-3.ensures.value c.finish_each-replies.ensures.finishes) in
    let both = halves g.B.Standing s asked signs g.G.Signer.fault_count g.G.Signer.sent shows laws rules ws ss answers
    c.args.store.now held new x y begun.begins moves sends
    (c.sign_each.ensures.counted ∙ counts_each signed (g.G.Signer.fault_count x)) finished c.tell_the_same.ensures in
    record {
      honest = λ honest. c.begin_each.ensures.honest (c.finish_each-replies.ensures.honest honest);
      memory = tt;
      unmoved = tt;
      together = both.0;
      sent = both.1;
    }
