-- The octets of a TSTInfo, part by part.
use Rattle.std.proofs.Common.{◌≡◌, ℕ, false, pos, List, [], ◌∷◌, ◌++◌, refl, sym, ap, ◌∙◌, append_assoc}
use Rattle.der.specs.Node.{Node, Nodes, node, element, encoding, encodings}
use Rattle.der.specs.{Tree.nodes, Number.number_content, ObjectIdentifier.oid_content}
use Rattle.tsp.specs.Grammar.{integer, object_identifier, optional, false_by_default}
use Rattle.tsp.{specs.Request.message_imprint, specs.Request.extensions_under, specs.Tst.TstValue, specs.Tst.accuracy}
use Rattle.tsp.{specs.Tst.generalized_time, specs.Tst.tsa, proofs.Components.before, proofs.TstLawful.tst_tail}

pub encodings-before : (xs : List Node) (rest : Nodes)
    → encodings (before xs rest) ≡ encodings (nodes xs) ++ encodings rest
encodings-before [] rest = refl
encodings-before (x ∷ xs) rest = ap (λ octets. encoding x ++ octets) (encodings-before xs rest)
    ∙ sym (append_assoc (encoding x) (encodings (nodes xs)) (encodings rest))

regroup : (a b c d e f g h i j : List ℕ)
    → ((((((((a ++ b) ++ c) ++ d) ++ e) ++ f) ++ g) ++ h) ++ i) ++ j
    ≡ a ++ (b ++ (c ++ (d ++ (e ++ (f ++ (g ++ (h ++ (i ++ j))))))))
regroup a b c d e f g h i j = simp append_assoc

one : element 2 (1 ∷ []) ≡ encoding (integer (pos 1))
unfolding number_content
one = refl

-- the parts of a TSTInfo, one after the other
abbrev pub members_of : TstValue → Nodes
members_of t =
    node (integer (pos 1)) (node (object_identifier t.policy)
    (node (message_imprint t.imprint) (node (integer (pos t.serial))
    (node (generalized_time t.gen_time) (node (accuracy t.accuracy) (nodes (false_by_default false t.ordering
    ++ (optional integer t.nonce ++ (optional tsa t.tsa ++ extensions_under 161 [] t.extensions)))))))))

tail : (t : TstValue) → encodings (nodes (false_by_default false t.ordering
    ++ (optional integer t.nonce ++ (optional tsa t.tsa ++ extensions_under 161 [] t.extensions))))
    ≡ encodings (nodes (false_by_default false t.ordering))
    ++ (encodings (nodes (optional integer t.nonce))
    ++ (encodings (nodes (optional tsa t.tsa)) ++ encodings (nodes (extensions_under 161 [] t.extensions))))
tail t = ap encodings (tst_tail t) ∙ encodings-before (false_by_default false t.ordering) _
    ∙ ap (λ octets. encodings (nodes (false_by_default false t.ordering)) ++ octets)
    (encodings-before (optional integer t.nonce) _
    ∙ ap (λ octets. encodings (nodes (optional integer t.nonce)) ++ octets) (encodings-before (optional tsa t.tsa) _))

-- What is written part after part is the contents of the TSTInfo.
pub tst_text : (t : TstValue) (w0 w1 w2 w3 w4 w5 w6 w7 w8 w9 w10 : List ℕ) → w0 ≡ [] → w1 ≡ w0 ++ element 2 (1 ∷ [])
    → w2 ≡ w1 ++ element 6 (oid_content t.policy)
    → w3 ≡ w2 ++ encoding (message_imprint t.imprint) → w4 ≡ w3 ++ element 2 (number_content (pos t.serial))
    → w5 ≡ w4 ++ encoding (generalized_time t.gen_time)
    → w6 ≡ w5 ++ encoding (accuracy t.accuracy) → w7 ≡ w6 ++ encodings (nodes (false_by_default false t.ordering))
    → w8 ≡ w7 ++ encodings (nodes (optional integer t.nonce))
    → w9 ≡ w8 ++ encodings (nodes (optional tsa t.tsa))
    → w10 ≡ w9 ++ encodings (nodes (extensions_under 161 [] t.extensions))
    → w10 ≡ encodings (members_of t)
tst_text t w0 w1 w2 w3 w4 w5 w6 w7 w8 w9 w10 e0 e1 e2 e3 e4 e5 e6 e7 e8 e9 e10 =
    let s1 : w1 ≡ encoding (integer (pos 1)) = e1 ∙ ap (λ w. w ++ element 2 (1 ∷ [])) e0 ∙ one in
    let s2 = e2 ∙ ap (λ w. w ++ element 6 (oid_content t.policy)) s1 in
    let s3 = e3 ∙ ap (λ w. w ++ encoding (message_imprint t.imprint)) s2 in
    let s4 = e4 ∙ ap (λ w. w ++ encoding (integer (pos t.serial))) s3 in
    let s5 = e5 ∙ ap (λ w. w ++ encoding (generalized_time t.gen_time)) s4 in
    let s6 = e6 ∙ ap (λ w. w ++ encoding (accuracy t.accuracy)) s5 in
    let s7 = e7 ∙ ap (λ w. w ++ encodings (nodes (false_by_default false t.ordering))) s6 in
    let s8 = e8 ∙ ap (λ w. w ++ encodings (nodes (optional integer t.nonce))) s7 in
    let s9 = e9 ∙ ap (λ w. w ++ encodings (nodes (optional tsa t.tsa))) s8 in
    let s10 = e10 ∙ ap (λ w. w ++ encodings (nodes (extensions_under 161 [] t.extensions))) s9 in
    s10 ∙ regroup (encoding (integer (pos 1))) (encoding (object_identifier t.policy))
    (encoding (message_imprint t.imprint)) (encoding (integer (pos t.serial)))
    (encoding (generalized_time t.gen_time)) (encoding (accuracy t.accuracy))
    (encodings (nodes (false_by_default false t.ordering)))
    (encodings (nodes (optional integer t.nonce))) (encodings (nodes (optional tsa t.tsa)))
    (encodings (nodes (extensions_under 161 [] t.extensions)))
    ∙ ap (λ w. encoding (integer (pos 1)) ++ (encoding (object_identifier t.policy)
    ++ (encoding (message_imprint t.imprint) ++ (encoding (integer (pos t.serial))
    ++ (encoding (generalized_time t.gen_time) ++ (encoding (accuracy t.accuracy) ++ w)))))) (sym (tail t))
