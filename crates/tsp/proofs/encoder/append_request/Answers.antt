use Rattle.std.proofs.Common.{[], ◌++◌, length, arith, ap, ◌∙◌}
use Rattle.der.specs.{Node.element, Node.encodings, Tree.nodes}
use Rattle.tsp.{specs.Request.extensions_under, specs.View.request_view, proofs.RequestText.request_text}
use Rattle.tsp.proofs.encoder.append_request.Goals as goal

-- the parts, one after the other; a request that is lawful has fewer than 2 ^ 24 contents octets
pub returns : goal.returns
returns c =
    let text = request_text (request_view c.args.request.now) _ _ _ _ _ _ _ c.requires.empty
    (c.in_ok-append_value.ensures.ok ∙ ap (λ x. c.args.members.now ++ element 2 x) c.content.ensures)
    c.in_ok-append_imprint.ensures.ok
    c.in_ok-append_policy.ensures.ok c.in_ok-append_nonce.ensures.ok c.in_ok-append_flag.ensures.ok
    (c.in_ok-append_extensions.ensures.ok ∙ ap (λ xs. c.append_flag.new.writer
    ++ encodings (nodes (extensions_under 160 [] xs))) c.extensions.ensures) in
    record {
      contents = ap (element 48) text;
      short = omega (arith, ap length text, c.requires.lawful.formed.3);
      memory = tt;
    }
