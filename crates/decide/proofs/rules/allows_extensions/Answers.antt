use Rattle.std.proofs.Common.{◌≡◌, List, [], map, sym, ◌∙◌, subst, ◌⊎◌}
use Rattle.std.specs.Bool.{Decides}
use Rattle.tsp.specs.Request.{ExtensionValue}
use Rattle.decide.specs.Rules.{AreDistinct}
use Rattle.decide.proofs.Sentences.{Known, extensions_known, extensions_unknown}
use Rattle.decide.proofs.rules.allows_extensions.Goals as goal

pub returns-then-are_known : goal.returns-then-are_known
returns-then-are_known c =
    let policy = c.args.policy.now in
    let oid = c.args.oid.now in
    let some : c.extensions-extensions.result ≡ [] → ⊥ = λ none. let empty = c.is_empty.ensures.1 none in
    cc (sym empty ∙ c.if-is_empty.false) in
    subst
    (λ (es : List ExtensionValue). Decides c.stand_once.result
    ((es ≡ []) ⊎ (Known policy oid es × AreDistinct (map (λ x. x.identifier) es))))
    c.extensions-extensions.ensures
    (extensions_known c.oids_have_one_content_and_text.ensures.one_content policy c.extensions-extensions.result
    c.content.result.now oid
    c.content.ensures.encoded some c.are_known.result c.are_known.ensures c.if-are_known.true
    c.stand_once.result (rw c.deref.ensures.value at c.stand_once.ensures))

pub returns-else-are_known : goal.returns-else-are_known
returns-else-are_known c =
    let policy = c.args.policy.now in
    let oid = c.args.oid.now in
    let some : c.extensions-extensions.result ≡ [] → ⊥ = λ none. let empty = c.is_empty.ensures.1 none in
    cc (sym empty ∙ c.if-is_empty.false) in
    subst
    (λ (es : List ExtensionValue). Decides c.are_known.result
    ((es ≡ []) ⊎ (Known policy oid es × AreDistinct (map (λ x. x.identifier) es))))
    c.extensions-extensions.ensures
    (extensions_unknown c.oids_have_one_content_and_text.ensures.one_content policy c.extensions-extensions.result
    c.content.result.now oid
    c.content.ensures.encoded some c.are_known.result c.are_known.ensures c.if-are_known.false)
