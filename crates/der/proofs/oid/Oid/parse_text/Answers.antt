use Rattle.std.proofs.Common.{◌≡◌, ℕ, List, Result, Err, ap, refl, ◌∙◌, ⊎_elim}
use Rattle.std.proofs.lemmas.Result.{err_from_is_err_and}
use Rattle.der.specs.{ObjectIdentifier.IsOid, ObjectIdentifier.oid_text, declared.fault.DerFault.DerFault}
use Rattle.der.proofs.OidTexts.{has_first, has_second, has_arcs, has_others, IsMade, made_of, ReadsAsOid-made}
use Rattle.der.proofs.OidTexts.{made-found, made-only}
use Rattle.der.proofs.OidOfTexts.{oid_of_text-other, none-not_text, none-no_others}
use Rattle.der.proofs.oid.Oid.parse_text.Goals as goal

-- an error is the same whatever else could have been answered
as_bad : {A B : Type 0} {e f : DerFault} → ◌≡◌ {A = Result A DerFault} (Err e) (Err f)
    → ◌≡◌ {A = Result B DerFault} (Err e) (Err f)
as_bad {A} {B} {e} {f} same =
    let inner : e ≡ f = cc in
    ap Err inner

no_first : (c : goal.In_default) (ss : List ℕ) → IsOid ss → c.args.text.now ≡ oid_text ss → ⊥
no_first c ss oid e = has_first c.as_bytes.result.now ss oid (c.as_bytes.ensures.value ∙ e) c.in_default.ensures

no_second : (c : goal.In_default-dotted_number_at) (ss : List ℕ) → IsOid ss → c.args.text.now ≡ oid_text ss → ⊥
no_second c ss oid e = has_second c.as_bytes.result.now ss _ _ oid
    (c.as_bytes.ensures.value ∙ e) c.in-Some.ensures c.in_default-dotted_number_at.ensures

no_arcs : (c : goal.In_default-joined_arcs) (ss : List ℕ) → IsOid ss → c.args.text.now ≡ oid_text ss → ⊥
no_arcs c ss oid e = has_arcs c.as_bytes.result.now ss _ _ _ _ oid
    (c.as_bytes.ensures.value ∙ e) c.in-Some.ensures c.in-Some-dotted_number_at.ensures
    c.in_default-joined_arcs.ensures

pub returns-in_default-clause-bad_value : goal.returns-in_default-clause-bad_value
returns-in_default-clause-bad_value c = (λ same. oid_of_text-other c.args.text.now (no_first c), λ none. refl)

pub returns-in_default-dotted_number_at-clause-only : goal.returns-in_default-dotted_number_at-clause-only
returns-in_default-dotted_number_at-clause-only c ss oid e = absurd (no_second c ss oid e)

pub returns-in_default-dotted_number_at-clause-bad_value : goal.returns-in_default-dotted_number_at-clause-bad_value
returns-in_default-dotted_number_at-clause-bad_value c =
    (λ same. oid_of_text-other c.args.text.now (no_second c), λ none. refl)

pub returns-in_default-joined_arcs-clause-only : goal.returns-in_default-joined_arcs-clause-only
returns-in_default-joined_arcs-clause-only c ss oid e = absurd (no_arcs c ss oid e)

pub returns-in_default-joined_arcs-clause-bad_value : goal.returns-in_default-joined_arcs-clause-bad_value
returns-in_default-joined_arcs-clause-bad_value c =
    (λ same. oid_of_text-other c.args.text.now (no_arcs c), λ none. refl)

pub returns-in_err-content_of-clause-only : goal.returns-in_err-content_of-clause-only
returns-in_err-content_of-clause-only c ss oid e =
    let p = err_from_is_err_and c.from_residual.result c.from_residual.ensures.1 in
    rw (p.1, p.2)
    (⊎_elim (λ bad. absurd (has_others c.as_bytes.result.now ss _ _ _ _ oid
    (c.as_bytes.ensures.value ∙ e) c.in-Some.ensures c.in-Some-dotted_number_at.ensures
    (c.in_err-content_of.ensures.bad_value.0 (ap Err bad))))
    (λ memory. memory) c.in_err-content_of.ensures.refusals)

pub returns-in_err-content_of-clause-bad_value : goal.returns-in_err-content_of-clause-bad_value
returns-in_err-content_of-clause-bad_value c =
    let p = err_from_is_err_and c.from_residual.result c.from_residual.ensures.1 in
    let arcs = c.in-Some-joined_arcs.ensures in
    rw (p.1, p.2) (
      λ bad. oid_of_text-other c.args.text.now (λ ss oid e. has_others c.as_bytes.result.now ss _ _ _ _ oid
          (c.as_bytes.ensures.value ∙ e) c.in-Some.ensures c.in-Some-dotted_number_at.ensures
          (c.in_err-content_of.ensures.bad_value.0 (as_bad bad))),
      λ none. as_bad (c.in_err-content_of.ensures.bad_value.1
          (none-no_others c.args.text.now _ _ _ _ _ _ c.as_bytes.ensures.value c.in-Some.ensures
          c.in-Some-dotted_number_at.ensures arcs.0 arcs.1 arcs.2 none)),
    )

is_made : (c : goal.In_ok-content_of) → IsMade c.args.text.now c.in_ok-content_of.field-0.items
is_made c =
    let found = c.in_ok-content_of.ensures.found in
    let arcs = c.in-Some-joined_arcs.ensures in
    made_of _ _ _ _ _ _ _ _ _ c.as_bytes.ensures.value c.in-Some.ensures c.in-Some-dotted_number_at.ensures arcs.0
    arcs.1 arcs.2 found.1 found.2 found.3

pub invariant_of-result : goal.invariant_of-result
invariant_of-result c = ReadsAsOid-made c.args.text.now _ (is_made c)

pub returns-clause-found : goal.returns-clause-found
returns-clause-found c = made-found c.args.text.now _ (is_made c)

pub returns-clause-only : goal.returns-clause-only
returns-clause-only c ss oid e = made-only c.args.text.now _ ss (is_made c) oid e

pub returns-clause-bad_value : goal.returns-clause-bad_value
returns-clause-bad_value c =
    let made = is_made c in
    (λ same. absurd (cc same), λ none. absurd (none-not_text c.args.text.now made.made none made.oid made.spelled))
