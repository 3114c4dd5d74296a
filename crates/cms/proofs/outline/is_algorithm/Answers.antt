use Rattle.std.proofs.Common.{◌≡◌, true, Some, rules, sym, ◌∙◌}
use Rattle.std.specs.Option.{is_some}
use Rattle.der.specs.DataValueView.{value_view}
use Rattle.cms.specs.{Certificate.algorithm_identifier, auxiliary.Outline.algorithm_of}
use Rattle.cms.proofs.Outlines.{accepted, algorithm_found, algorithm_only}
use Rattle.cms.proofs.outline.is_algorithm.Goals as goal

pub returns-in-Ok : goal.returns-in-Ok
returns-in-Ok c =
    let n = value_view c.in-Ok.value in
    let (lawful, is) = c.in-Ok.ensures.found in (
      λ yes.
          let told : is_some c.algorithm_from.result ≡ true = search rules in
          algorithm_found c.oids_have_one_content_and_text.ensures.found c.args.octets.now n lawful is
          (sym c.algorithm_from.ensures ∙ accepted c.algorithm_from.result told),
      λ algorithm.
          let read = c.in-Ok.ensures.only (algorithm_identifier algorithm.subidentifiers algorithm.parameters)
          algorithm.lawful algorithm.encoded in
          let known : algorithm_of n ≡ Some tt =
          algorithm_only c.oids_have_one_content_and_text.ensures.computed c.args.octets.now n algorithm read in
          let answered : c.algorithm_from.result ≡ Some tt = c.algorithm_from.ensures ∙ known in
          search rules,
    )

-- an AlgorithmIdentifier is read as its value
pub returns-in-Err : goal.returns-in-Err
returns-in-Err c = (
  λ yes. search rules,
  λ algorithm. absurd (c.in-Err.ensures.only (algorithm_identifier algorithm.subidentifiers algorithm.parameters)
      algorithm.lawful algorithm.encoded),
)
