use Rattle.std.proofs.Common.{[], ◌++◌, length, arith, ap, ◌∙◌}
use Rattle.der.specs.{Node.element, Node.encodings, Tree.nodes}
use Rattle.tsp.{specs.Request.extensions_under, specs.View.tst_view, proofs.TstText.tst_text}
use Rattle.tsp.proofs.encoder.append_tst.Goals as goal

-- the parts, one after the other; a TSTInfo that is lawful has fewer than 2 ^ 24 contents octets
pub returns : goal.returns
returns c =
    let text = tst_text (tst_view c.args.tst.now) _ _ _ _ _ _ _ _ _ _ _ c.requires.empty
    c.in_ok-append_value.ensures.ok (c.in_ok-append_value-2.ensures.ok
    ∙ ap (λ x. c.append_value.new.self ++ element 6 x) c.content.ensures.encoded)
    c.in_ok-append_imprint.ensures.ok
    c.in_ok-append_number.ensures.ok c.in_ok-append_time.ensures.ok c.in_ok-append_accuracy.ensures.ok
    c.in_ok-append_flag.ensures.ok c.in_ok-append_nonce.ensures.ok
    c.in_ok-append_tsa.ensures.ok (c.in_ok-append_extensions.ensures.ok ∙ ap (λ xs. c.append_tsa.new.writer
    ++ encodings (nodes (extensions_under 161 [] xs))) c.again.ensures) in
    record {
      contents = ap (element 48) text;
      short = omega (arith, ap length text, c.requires.lawful.formed.3);
      memory = tt;
    }
