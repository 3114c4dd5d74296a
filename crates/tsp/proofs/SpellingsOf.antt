-- The octets that spell a request are written out part by part, and a request without a FALSE has one spelling.
use Rattle.std.proofs.Common.{◌≡◌, ℕ, Bool, true, false, List, [], ◌∷◌, ◌++◌, inl, inr, refl, sym, ap, ap₂, ◌∙◌}
use Rattle.std.{proofs.Common.append-nil, specs.List.AllByRecursion}
use Rattle.der.specs.Node.{Node, constructed, element, encoding, encodings, length_octets}
use Rattle.der.specs.Tree.{nodes}
use Rattle.tsp.specs.Grammar.{sequence, integer, object_identifier, octet_string, optional, false_by_default}
use Rattle.tsp.specs.Request.{ExtensionValue, RequestValue, Stated, Spells, message_imprint, extension, extension_nodes}
use Rattle.tsp.specs.Request.{extensions_under, time_stamp_req}
use Rattle.tsp.specs.Spellings.{HasNoFalse, AreFlag, AreExtension, AreExtensionList, AreExtensions, AreRequest}
use Rattle.tsp.proofs.{Components.nodes-append, TstText.encodings-before, RequestReads.request_tail}

flag_octets : (stated b : Bool) → AreFlag b (encodings (nodes (false_by_default stated b)))
unfolding length_octets
flag_octets stated true = refl
flag_octets true false = inr refl
flag_octets false false = inl refl

extension_octets : (stated : Bool) (e : ExtensionValue) → AreExtension (encoding (extension stated e)) e
extension_octets stated e = record {
  flag = encodings (nodes (false_by_default stated e.critical));
  is_flag = flag_octets stated e.critical;
  same =
      ap (λ octets. element 48 (encoding (object_identifier e.identifier) ++ octets))
      (ap encodings (nodes-append (false_by_default stated e.critical) (octet_string e.value ∷ []))
      ∙ encodings-before (false_by_default stated e.critical) (nodes (octet_string e.value ∷ []))
      ∙ ap (λ octets. encodings (nodes (false_by_default stated e.critical)) ++ octets)
      (append-nil (encoding (octet_string e.value))));
}

list_octets : (stated : List Bool) (es : List ExtensionValue)
    → AreExtensionList (encodings (nodes (extension_nodes stated es))) es
list_octets stated [] = refl
list_octets [] (e ∷ es) = (
  encoding (extension false e),
  encodings (nodes (extension_nodes [] es)),
  refl,
  extension_octets false e,
  list_octets [] es,
)
list_octets (s ∷ ss) (e ∷ es) =
    (encoding (extension s e), encodings (nodes (extension_nodes ss es)), refl, extension_octets s e, list_octets ss es)

extensions_octets : (stated : List Bool) (es : List ExtensionValue)
    → AreExtensions (encodings (nodes (extensions_under 160 stated es))) es
extensions_octets stated [] = refl
extensions_octets stated (e ∷ es) = (
  encodings (nodes (extension_nodes stated (e ∷ es))),
  append-nil (element 160 (encodings (nodes (extension_nodes stated (e ∷ es))))),
  list_octets stated (e ∷ es),
)

tail_octets : (s : Stated) (r : RequestValue)
    → encodings (nodes (optional object_identifier r.policy ++ (optional integer r.nonce
    ++ (false_by_default s.cert_req r.cert_req ++ extensions_under 160 s.critical r.extensions))))
    ≡ encodings (nodes (optional object_identifier r.policy)) ++ (encodings (nodes (optional integer r.nonce))
    ++ (encodings (nodes (false_by_default s.cert_req r.cert_req))
    ++ encodings (nodes (extensions_under 160 s.critical r.extensions))))
tail_octets s r = ap encodings (request_tail s r) ∙ encodings-before (optional object_identifier r.policy) _
    ∙ ap (λ octets. encodings (nodes (optional object_identifier r.policy)) ++ octets)
    (encodings-before (optional integer r.nonce) _
    ∙ ap (λ octets. encodings (nodes (optional integer r.nonce)) ++ octets)
    (encodings-before (false_by_default s.cert_req r.cert_req) _))

pub request_octets : (octets : List ℕ) (r : RequestValue) → Spells octets r → AreRequest octets r
request_octets octets r h = record {
  flag = encodings (nodes (false_by_default h.stated.cert_req r.cert_req));
  is_flag = flag_octets h.stated.cert_req r.cert_req;
  extensions = encodings (nodes (extensions_under 160 h.stated.critical r.extensions));
  are_extensions = extensions_octets h.stated.critical r.extensions;
  same = h.spelled ∙ ap (λ rest. element 48 (encoding (integer r.version)
      ++ (encoding (message_imprint r.imprint) ++ rest))) (tail_octets h.stated r);
}

-- ---- a request without a FALSE

flag_same : (s t b : Bool) → b ≡ true → false_by_default s b ≡ false_by_default t b
flag_same s t true is = refl
flag_same s t false is = cc

extension_same : (s t : Bool) (e : ExtensionValue) → e.critical ≡ true → extension s e ≡ extension t e
extension_same s t e is = rw is refl

nodes_same : (s t : List Bool) (es : List ExtensionValue) → AllByRecursion (λ e. e.critical ≡ true) es
    → extension_nodes s es ≡ extension_nodes t es
nodes_same s t [] all = refl
nodes_same [] [] (e ∷ es) all = refl
nodes_same [] (y ∷ ys) (e ∷ es) all =
    ap₂ (λ (x : Node) xs. x ∷ xs) (extension_same false y e all.0) (nodes_same [] ys es all.1)
nodes_same (x ∷ xs) [] (e ∷ es) all =
    ap₂ (λ (x : Node) xs. x ∷ xs) (extension_same x false e all.0) (nodes_same xs [] es all.1)
nodes_same (x ∷ xs) (y ∷ ys) (e ∷ es) all =
    ap₂ (λ (x : Node) xs. x ∷ xs) (extension_same x y e all.0) (nodes_same xs ys es all.1)

under_same : (s t : List Bool) (es : List ExtensionValue) → AllByRecursion (λ e. e.critical ≡ true) es
    → extensions_under 160 s es ≡ extensions_under 160 t es
under_same s t [] all = refl
under_same s t (e ∷ es) all = ap (λ xs. constructed 160 (nodes xs) ∷ []) (nodes_same s t (e ∷ es) all)

request_same : (s t : Stated) (r : RequestValue) → HasNoFalse r → time_stamp_req s r ≡ time_stamp_req t r
request_same s t r none =
    ap₂ (λ flag extensions. sequence (integer r.version ∷ message_imprint r.imprint
    ∷ (optional object_identifier r.policy ++ (optional integer r.nonce ++ (flag ++ extensions)))))
    (flag_same s.cert_req t.cert_req r.cert_req none.cert_req)
    (under_same s.critical t.critical r.extensions none.critical)

pub one_spelling : (octets others : List ℕ) (r : RequestValue) → HasNoFalse r → Spells octets r → Spells others r
    → octets ≡ others
one_spelling octets others r none h g =
    h.spelled ∙ ap encoding (request_same h.stated g.stated r none) ∙ sym g.spelled
