-- The octets of a request without stated FALSEs, part by part.
use Rattle.std.proofs.Common.{◌≡◌, ℕ, false, List, [], ◌++◌, sym, ap, ◌∙◌, append_assoc}
use Rattle.der.specs.Node.{Nodes, node, element, encoding, encodings}
use Rattle.der.specs.{Tree.nodes, Number.number_content}
use Rattle.tsp.specs.Grammar.{integer, object_identifier, optional, false_by_default}
use Rattle.tsp.specs.Request.{RequestValue, message_imprint, extensions_under, unstated}
use Rattle.tsp.proofs.{RequestReads.request_tail, TstText.encodings-before}

regroup : (a b c d e f : List ℕ) → ((((a ++ b) ++ c) ++ d) ++ e) ++ f ≡ a ++ (b ++ (c ++ (d ++ (e ++ f))))
regroup a b c d e f = simp append_assoc

-- the parts of a request, one after the other
abbrev pub members_of : RequestValue → Nodes
members_of r =
    node (integer r.version) (node (message_imprint r.imprint)
    (nodes (optional object_identifier r.policy ++ (optional integer r.nonce
    ++ (false_by_default false r.cert_req ++ extensions_under 160 [] r.extensions)))))

tail : (r : RequestValue) → encodings (nodes
    (optional object_identifier r.policy ++ (optional integer r.nonce
    ++ (false_by_default false r.cert_req ++ extensions_under 160 [] r.extensions))))
    ≡ encodings (nodes (optional object_identifier r.policy))
    ++ (encodings (nodes (optional integer r.nonce))
    ++ (encodings (nodes (false_by_default false r.cert_req))
    ++ encodings (nodes (extensions_under 160 [] r.extensions))))
tail r = ap encodings (request_tail unstated r) ∙ encodings-before (optional object_identifier r.policy) _
    ∙ ap (λ octets. encodings (nodes (optional object_identifier r.policy)) ++ octets)
    (encodings-before (optional integer r.nonce) _
    ∙ ap (λ octets. encodings (nodes (optional integer r.nonce)) ++ octets)
    (encodings-before (false_by_default false r.cert_req) _))

-- What is written part after part is the contents of the request.
pub request_text : (r : RequestValue) (w0 w1 w2 w3 w4 w5 w6 : List ℕ) → w0 ≡ []
    → w1 ≡ w0 ++ element 2 (number_content r.version) → w2 ≡ w1 ++ encoding (message_imprint r.imprint)
    → w3 ≡ w2 ++ encodings (nodes (optional object_identifier r.policy))
    → w4 ≡ w3 ++ encodings (nodes (optional integer r.nonce))
    → w5 ≡ w4 ++ encodings (nodes (false_by_default false r.cert_req))
    → w6 ≡ w5 ++ encodings (nodes (extensions_under 160 [] r.extensions))
    → w6 ≡ encodings (members_of r)
request_text r w0 w1 w2 w3 w4 w5 w6 e0 e1 e2 e3 e4 e5 e6 =
    let s1 : w1 ≡ encoding (integer r.version) = e1 ∙ ap (λ w. w ++ element 2 (number_content r.version)) e0 in
    let s2 = e2 ∙ ap (λ w. w ++ encoding (message_imprint r.imprint)) s1 in
    let s3 = e3 ∙ ap (λ w. w ++ encodings (nodes (optional object_identifier r.policy))) s2 in
    let s4 = e4 ∙ ap (λ w. w ++ encodings (nodes (optional integer r.nonce))) s3 in
    let s5 = e5 ∙ ap (λ w. w ++ encodings (nodes (false_by_default false r.cert_req))) s4 in
    let s6 = e6 ∙ ap (λ w. w ++ encodings (nodes (extensions_under 160 [] r.extensions))) s5 in
    s6 ∙ regroup (encoding (integer r.version)) (encoding (message_imprint r.imprint))
    (encodings (nodes (optional object_identifier r.policy))) (encodings (nodes (optional integer r.nonce)))
    (encodings (nodes (false_by_default false r.cert_req))) (encodings (nodes (extensions_under 160 [] r.extensions)))
    ∙ ap (λ w. encoding (integer r.version) ++ (encoding (message_imprint r.imprint) ++ w)) (sym (tail r))
