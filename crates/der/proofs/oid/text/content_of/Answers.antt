use Rattle.std.proofs.Common.{◌≡◌, ◌+◌, ◌-◌, sym, length, arith, refl, ◌∙◌}
use Rattle.std.proofs.lemmas.Bool.{eqb-false}
use Rattle.der.specs.ObjectIdentifier.{subidentifier_octets}
use Rattle.der.proofs.OidTextLoops.{pushed_more, content_more, content_lost, pushed_no_number}
use Rattle.der.proofs.oid.text.content_of.Goals as goal
use Rattle.der.proofs.oid.text.content_of.Goals.{then-is_ok, else-is_ok}

pub returns-in_default-clause-bad_value : goal.returns-in_default-clause-bad_value
returns-in_default-clause-bad_value c =
    let some = eqb-false (length c.loop-rest.rest.now) 0 (sym c.loop-rest-test.ensures) in (
      λ same others are e. pushed_no_number _ _ _ _ _ _ c.loop-rest.invariant (omega (arith, some)) c.in_default.ensures
          others are e,
      λ none. refl,
    )

pub loop-rest-preserved : goal.loop-rest-preserved
loop-rest-preserved c =
    let down : c.loop-rest.left ≡ c.loop-rest.left - 1 + 1 = omega arith in
    let so_far = c.loop-rest.invariant in
    elim c.if-is_ok.branch [
      | then-is_ok w ↦
          rw (w.pushed-is, w.content-is)
          (pushed_more _ _ _ _ _ _ _ _ _ _ _ so_far c.in-Some.ensures
          (content_more c.loop-rest.pushed _ (subidentifier_octets c.args.first) c.loop-rest.content.items
          w.push_subidentifier-pushed-then-is_ok.new.content.items so_far.read c.in-Some.number
          (sym c.is_ok.ensures.value ∙ w.if-is_ok.true) so_far.content_is
          w.push_subidentifier-pushed-then-is_ok.ensures) down)
      | else-is_ok w ↦
          rw (w.pushed-is, w.content-is)
          (pushed_more _ _ _ _ _ _ _ _ _ _ _ so_far c.in-Some.ensures
          (content_lost _ _ (sym c.is_ok.ensures.value ∙ w.if-is_ok.false)) down)
    ]
