use Rattle.std.proofs.Common.{Some, ap, sym, subst, SFits, w64, to_z-of_z, rules}
use Rattle.policy.specs.View.{account_view}
use Rattle.tsp.specs.{Request.RequestValue, View.request_view}
use Rattle.desk.specs.CallContract.{StepsWhere, with_signer}
use Rattle.desk.specs.auxiliary.NewDeposit.{octets_of, question_of, IsUnused}
use Rattle.desk.specs.{Calls.settings_view, Command.Deposit, Effects.for_deposit}
use Rattle.desk.proofs.documents.NewDeposits.{request_is, new_deposit, lent_octets}
use Rattle.desk.proofs.{stamps.Beginnings.begins, stamps.Stamps.is_whole}
use Rattle.desk.proofs.new_deposit.deposit_new.Goals as goal

pub judge_read-judged-requires : goal.judge_read-judged-requires
judge_read-judged-requires g c =
    let made = c.of_sha256-request in
    let r = request_view made.result in
    let lent = lent_octets (λ q. q.now) c.octets_in.result (octets_of r) r
    (c.octets_in.ensures (octets_of r) c.write_request-written.ensures.text) made.ensures.spelled made.ensures.short in
    record { spelled = lent.0; short = lent.1 }

pub reserve-begun-requires : goal.reserve-begun-requires
reserve-begun-requires g c =
    let made = c.of_sha256-request in
    let octets = octets_of (request_view made.result) in
    let judged = c.judge_read-judged.ensures.judges octets made.ensures.spelled made.ensures.short
    (c.octets_in.ensures octets c.write_request-written.ensures.text) in
    record { text = judged.judges.rightly.text }

pub returns : goal.returns
returns g c =
    let s = settings_view c.args.settings in
    let a = account_view c.args.submission.account.now in
    let reading = c.args.submission.reading in
    let reference = c.args.submission.reference.now in
    let bytes = c.args.submission.bytes.now in
    let signs = g.X.Signer.signs in
    let count = g.X.Signer.fault_count in
    let fits : SFits w64 reading = search rules in
    let made = c.of_sha256-request in
    let r = request_view made.result in
    let same = request_is s.file a bytes c.digest-digest.result c.gives_certificate.result r made.ensures.made
    c.digest-digest.ensures c.gives_certificate.ensures in
    let q = question_of (Some a) reading r in
    let old = c.args.store.now in
    let judged = c.judge_read-judged in
    let reserved = c.reserve-begun in
    let done = c.complete in
    let judges = rw (to_z-of_z fits) at (judged.ensures.judges (octets_of r) made.ensures.spelled made.ensures.short
    (c.octets_in.ensures (octets_of r) c.write_request-written.ensures.text)) in
    let whole = is_whole g.B.Standing signs count s (Deposit a reading reference bytes)
    (for_deposit a.name reference bytes) q (IsUnused a reference)
    (new_deposit g.B.Standing s a reading reference bytes r same c.requires.few made.ensures.spelled)
    c.args.signer.now done.new.signer reserved.result done.result old reserved.new.store done.new.store
    (begins g.B.Standing s q judged.result reserved.result old judged.new.store reserved.new.store judges
    reserved.ensures.reserves) done.ensures.honest done.ensures.completes in
    record {
      honest = λ honest. judges.judges.looks.honest (reserved.ensures.honest (done.ensures.honest honest));
      refusals = c.deposited_by.ensures.refusals (done.ensures.late (reserved.ensures.late (judged.ensures.late
          (ap (λ (v : RequestValue). v.version) made.ensures.made))));
      step = (
        whole.0,
        subst (StepsWhere g.B.Standing (with_signer signs count c.args.signer.now done.new.signer) s
            (Deposit a reading reference bytes) (IsUnused a reference) whole.0 old done.new.store)
            (sym (c.deposited_by.ensures.answer a.name reference bytes)) whole.1,
      );
    }
