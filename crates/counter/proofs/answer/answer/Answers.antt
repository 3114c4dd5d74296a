use Rattle.std.proofs.Common.{◌≡◌, ◌<◌, ◌^◌, ap, refl, rules, w64}
use Rattle.std.proofs.{lemmas.Int.to_z_pos, lemmas.Option.IfSome_then, lemmas.Result.IfOk-weaker}
use Rattle.der.specs.Node.{encoding}
use Rattle.desk.specs.declared.reply.Reply.TheVariants.{Granted, Rejected}
use Rattle.desk.specs.{Answers.reply_as, declared.reply.Reply.Reply}
use Rattle.desk.specs.Command as answer
use Rattle.policy.specs.View.{policy_view}
use Rattle.tsp.specs.{Rejection.rejection, declared.rule.Rule.Rule}
use Rattle.counter.specs.{Fault.fault_of_operation, Reply.IsReplyOf, Reply.octets_of}
use Rattle.counter.proofs.{ReadDesks.reads_desk, Operations.both, Operations.told}
use Rattle.counter.proofs.answer.answer.Goals as goal

rejected_octets : (reply : Reply) (rule : Rule) → reply_as reply ≡ answer.Rejected rule
    → octets_of reply ≡ encoding (rejection rule)
rejected_octets (Granted serial bytes) rule is = cc
rejected_octets (Rejected rejected) rule is =
    let same : rejected.rule ≡ rule = cc in
    ap (λ r. encoding (rejection r)) same

-- the octets are those of the machine's reply
reply_octets : (reply : Reply) → IsReplyOf (reply_as reply) (octets_of reply)
reply_octets (Granted serial bytes) = refl
reply_octets (Rejected rejected) = refl

pub returns : goal.returns
returns g c =
    let files = c.in_ok-policy.field-0 in
    let read = c.in_ok-policy.ensures in
    let small : c.args.words.now.reading < 2 ^ 63 = search rules in
    let judged = rw (c.in_ok-account.ensures.found, c.as_slice.ensures.value) at c.answer.ensures.judged in
    let stepped = rw (
      c.in_ok-account.ensures.found,
      c.as_slice.ensures.value,
      to_z_pos w64 c.args.words.now.reading small,
      c.in_ok-policy.ensures.algorithm,
    ) at c.answer.ensures.stepped
    in
    let known = told fault_of_operation c.answer.result c.answer_of.result _ c.answer_of.ensures
    (both c.answer.result _ _ judged stepped) in
    IfOk-weaker c.answer_of.result _ _
    (λ reply it. IfSome_then (g.I.Read.remaining c.args.input.now) c.in_ok-query.ensures.found
    (λ text spelled. record {
      read = reads_desk _ c.args.words.now.desk files read.meant read.identity read.alone read.signs;
      known = c.in_ok-account.ensures.known;
      query = c.in_ok-query.query.items;
      spelled = spelled;
      answer = reply_as reply;
      stepped = it.1;
      reply = octets_of reply;
      says = reply_octets reply;
      judged = λ rule first. rejected_octets reply rule (it.0 rule first);
      digits = refl;
    }))
    known
