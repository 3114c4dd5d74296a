use Rattle.std.proofs.Common.{◌∙◌, ap, refl}
use Rattle.policy.specs.View.{account_view}
use Rattle.service.specs.{Answers.unavailable, Readers.readers_text, Reports.wants}
use Rattle.service.proofs.ReadersTold.{hidden_told, readers_told}
use Rattle.service.proofs.readers.serve_readers.Goals as goal

pub returns-in_default-clause-served : goal.returns-in_default-clause-served
returns-in_default-clause-served g c = λ faults. (unavailable, wants tt refl, c.out_of_memory.ensures.sent)

pub returns-then-not-own-clause-served : goal.returns-then-not-own-clause-served
returns-then-not-own-clause-served g c = λ faults.
    hidden_told _ g.W.Write.contents _ c.args.writer.now c.refuse.new.writer _ _ _ _ _ c.is_owner.new.self c.in-Ok.own
    (rw (c.store.ensures.same, c.as_str-owner.ensures.value) at c.in-Ok.ensures.value)
    (record { honest = λ h. h; stands = λ b st. st; leaves = λ h left r. r })
    (let found = c.if-not-own.true in cc) c.refuse.ensures.sent

pub returns-in-None-clause-served : goal.returns-in-None-clause-served
returns-in-None-clause-served g c = λ faults. (unavailable, wants tt refl, c.out_of_memory-in-None.ensures.sent)

pub returns-in-Some-clause-served : goal.returns-in-Some-clause-served
returns-in-Some-clause-served g c = λ faults.
    readers_told _ g.W.Write.contents _ c.args.writer.now c.succeed.new.writer _ _ _ _ _ c.is_owner.new.self c.in-Ok.own
    (rw (c.store.ensures.same, c.as_str-owner.ensures.value) at c.in-Ok.ensures.value)
    (rw c.store-2.ensures.same at c.in-Some.ensures.looks)
    (let found = c.if-not-own.false in cc)
    (rw c.store.ensures.same at c.in-Ok.ensures.looks.stands)
    c.deref.result.now
    (λ honest b stands own.
    c.deref.ensures.value
    ∙ (rw (c.store-2.ensures.same, c.as_str-owner.ensures.value) at c.in-Some.ensures.value) honest b stands own
    ∙ ap (λ file. readers_text file (account_view c.args.account.now).name c.args.number b) c.policy-file.ensures)
    c.succeed.ensures.sent
