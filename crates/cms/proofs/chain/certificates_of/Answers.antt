use Rattle.std.proofs.Common.{map}
use Rattle.cms.proofs.Chains.{all_taken, at_this_entry, one_taken, only_memory, refused_so}
use Rattle.cms.proofs.chain.certificates_of.Goals as goal

pub returns-in_err-rest-clause-only : goal.returns-in_err-rest-clause-only
returns-in_err-rest-clause-only c = λ further fits is.
    only_memory _ c.args.signer.now c.args.chain.now further c.from_residual-in_err-rest.result c.in_err-rest.field-0.0
    c.elements_have_one_beginning.ensures fits is c.from_residual-in_err-rest.ensures.1
    (at_this_entry c.args.signer.now c.args.chain.now _ c.loop-rest.rest.now c.in_err-rest.field-0.0
    c.loop-rest.invariant c.loop-rest-test.ensures c.in_err-rest.ensures.err)

pub returns-in_err-rest-clause-err : goal.returns-in_err-rest-clause-err
returns-in_err-rest-clause-err c =
    refused_so c.args.signer.now c.args.chain.now c.from_residual-in_err-rest.result c.in_err-rest.field-0.0
    c.from_residual-in_err-rest.ensures.1
    (at_this_entry c.args.signer.now c.args.chain.now _ c.loop-rest.rest.now c.in_err-rest.field-0.0
    c.loop-rest.invariant c.loop-rest-test.ensures c.in_err-rest.ensures.err)

pub loop-rest-preserved : goal.loop-rest-preserved
loop-rest-preserved c =
    one_taken c.args.signer.now c.args.chain.now (map (λ o. o.now) c.loop-rest.certificates.items)
    (map (λ o. o.now) c.take.new.certificates.items) c.loop-rest.rest.now c.in_ok-rest.rest.now c.loop-rest.invariant
    c.in_ok-rest.ensures.ok

pub returns-clause-only : goal.returns-clause-only
returns-clause-only c = λ further fits is.
    all_taken c.args.signer.now c.args.chain.now (map (λ o. o.now) c.loop-rest.certificates.items) further
    c.loop-rest.rest.now c.elements_have_one_beginning.ensures c.loop-rest.invariant c.loop-rest-test.ensures fits is
