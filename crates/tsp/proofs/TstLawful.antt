-- The TSTInfo that answers a request of at most 65,536 octets is lawful.
use Rattle.std.proofs.Common.{◌≡◌, ℕ, suc, ◌+◌, ◌/◌, ◌%◌, ◌<◌, ◌≤◌, ◌^◌, Bool, true, false, cond, eqb, pos, List, []}
use Rattle.std.proofs.Common.{◌∷◌, ◌++◌, length, ◌⊎◌, Option, Some, None, inl, inr, refl, sym, ap, ◌∙◌, subst, arith}
use Rattle.std.{proofs.Common.length-append, specs.Option.IfSome}
use Rattle.der.specs.Node.{Node, primitive, constructed, Nodes, no_nodes, node, element, encoding, encodings, AreOctets}
use Rattle.der.specs.{Node.IsLawful, Node.IsLowTag, Node.bit_six, Tree.nodes, Number.number_content}
use Rattle.der.specs.ObjectIdentifier.{IsOid, oid_content}
use Rattle.der.proofs.NumberContents.{octets-number_content, length-magnitude}
use Rattle.der.proofs.OidContents.{octets-oid_content, length-oid_content}
use Rattle.gentime.{specs.GenTime.text_of, specs.GenTime.last_moment, proofs.Texts.text_of_short}
use Rattle.tsp.specs.Grammar.{integer, boolean, octet_string, object_identifier, sequence, optional, false_by_default}
use Rattle.tsp.specs.Request.{ExtensionValue, RequestValue, IsRequest, Spells, sha256_identifier, sha256_request}
use Rattle.tsp.specs.Request.{message_imprint, extension, extension_nodes, extensions_under, unstated, time_stamp_req}
use Rattle.tsp.specs.Tst.{TstValue, IsTst, IsTsaName, accuracy_part, accuracy, generalized_time, tsa, tst_info, IsName}
use Rattle.tsp.{specs.Tst.answer, proofs.Components.before, proofs.Components.nodes-append}
use Rattle.tsp.proofs.{ObjectIdentifiers.sha256_is_oid, RequestReads.request_tail}
use Rattle.tsp.proofs.Sizes.{IsWithin, AreWithin, wider, within_none, within_node, within_before, within_primitive}
use Rattle.tsp.proofs.Sizes.{within_constructed, within_components, within_first, within_parts, length-element}

oid_is_short : (a : List ℕ) → IsOid a → AreOctets (oid_content a) × (length (oid_content a) ≤ 608)
oid_is_short a h = (octets-oid_content a, omega (arith, length-oid_content a h))

-- a number below 2 ^ 63 has at most eight octets
pub number_is_short : (n : ℕ) → n < 9223372036854775808 → length (number_content (pos n)) ≤ 8
unfolding number_content
number_is_short n small = length-magnitude 7 n (omega arith)

within_number : (t n : ℕ) → (t ≡ 2) ⊎ ((t ≡ 128) ⊎ (t ≡ 129)) → n < 9223372036854775808
    → IsWithin 1 13 (primitive t (number_content (pos n)))
within_number t n kind small = within_primitive t 8 (number_content (pos n)) (omega arith, omega arith) (omega arith)
    (octets-number_content (pos n)) (number_is_short n small) (omega arith)

within_oid : (a : List ℕ) → IsOid a → IsWithin 1 613 (object_identifier a)
within_oid a h = let short = oid_is_short a h in
    within_primitive 6 608 (oid_content a) (omega arith, omega arith) refl short.0 short.1 (omega arith)

within_time : (moment : ℕ) → moment ≤ last_moment → IsWithin 1 27 (generalized_time moment)
within_time moment h = let short = text_of_short 6 moment h in
    within_primitive 24 22 (text_of 6 moment) (omega arith, omega arith) refl short.2 short.1 (omega arith)

within_boolean : (b : Bool) → IsWithin 1 6 (boolean b)
within_boolean true = within_primitive 1 1 (255 ∷ []) (omega arith, omega arith) refl (omega arith, tt) (omega arith)
    (omega arith)
within_boolean false = within_primitive 1 1 (0 ∷ []) (omega arith, omega arith) refl (omega arith, tt) (omega arith)
    (omega arith)

within_flag : (stated b : Bool) → AreWithin 1 6 (nodes (false_by_default stated b))
within_flag stated true = within_node 1 6 0 (boolean true) no_nodes (within_boolean true) (within_none 1)
within_flag true false = within_node 1 6 0 (boolean false) no_nodes (within_boolean false) (within_none 1)
within_flag false false = record { formed = tt; deep = omega arith; long = omega arith }

within_part : (t n : ℕ) → (t ≡ 2) ⊎ ((t ≡ 128) ⊎ (t ≡ 129)) → n < 9223372036854775808
    → AreWithin 1 13 (nodes (accuracy_part t n))
within_part t n kind small = by_test (eqb n 0)
  where
    by_test : (z : Bool) → AreWithin 1 13 (nodes (cond z [] (primitive t (number_content (pos n)) ∷ [])))
    by_test true = record { formed = tt; deep = omega arith; long = omega arith }
    by_test false = within_node 1 13 0 (primitive t (number_content (pos n))) no_nodes (within_number t n kind small)
        (within_none 1)

within_accuracy : (n : ℕ) → n ≤ 1000000 → IsWithin 2 44 (accuracy n)
within_accuracy n small =
    let seconds = within_part 2 (n / 1000000) (inl refl) (omega arith) in
    let millis = within_part 128 (n / 1000 % 1000) (inr (inl refl)) (omega arith) in
    let micros = within_part 129 (n % 1000) (inr (inr refl)) (omega arith) in
    let split : nodes (accuracy_part 2 (n / 1000000)
    ++ (accuracy_part 128 (n / 1000 % 1000) ++ accuracy_part 129 (n % 1000)))
    ≡ before (accuracy_part 2 (n / 1000000)) (before (accuracy_part 128 (n / 1000 % 1000))
    (nodes (accuracy_part 129 (n % 1000)))) =
    nodes-append _ _ ∙ ap (before (accuracy_part 2 (n / 1000000))) (nodes-append _ _) in
    let all = within_before 1 13 26 (accuracy_part 2 (n / 1000000)) _ seconds
    (within_before 1 13 13 (accuracy_part 128 (n / 1000 % 1000)) _ millis micros) in
    within_constructed 48 1 39 _ (omega arith, omega arith) refl (subst (AreWithin 1 39) (sym split) all) (omega arith)

-- an extension's FALSE left away makes it no larger
without_false : (depth size : ℕ) (id value : Node)
    → IsWithin (suc depth) size (constructed 48 (node id (node (boolean false) (node value no_nodes))))
    → IsWithin (suc depth) size (constructed 48 (node id (node value no_nodes)))
without_false depth size id value h =
    let old_contents = encodings (node id (node (boolean false) (node value no_nodes))) in
    let new_contents = encodings (node id (node value no_nodes)) in
    let old = length-element 48 old_contents h.formed.3 in
    let flag = length-element 1 (0 ∷ []) (omega arith) in
    let old_sum = length-append (encoding id) (encodings (node (boolean false) (node value no_nodes))) in
    let flag_sum = length-append (encoding (boolean false)) (encodings (node value no_nodes)) in
    let new_sum = length-append (encoding id) (encodings (node value no_nodes)) in
    let shorter : length new_contents + 3 ≤ length old_contents = omega (arith, old_sum, flag_sum, new_sum, flag.0) in
    let count : length new_contents < 16777216 = omega (arith, shorter, h.formed.3) in
    record {
      formed = (h.formed.0, h.formed.1, (h.formed.2.0, h.formed.2.1.1), count);
      deep = omega (arith, h.deep);
      long = omega (arith, (length-element 48 new_contents count).1, old.0, shorter, h.long);
    }

within_extension : (stated critical : Bool) (depth size : ℕ) (id value : List ℕ)
    → IsWithin (suc depth) size (sequence (object_identifier id
    ∷ (false_by_default stated critical ++ (octet_string value ∷ []))))
    → IsWithin (suc depth) size (sequence (object_identifier id
    ∷ (false_by_default false critical ++ (octet_string value ∷ []))))
within_extension stated true depth size id value h = h
within_extension false false depth size id value h = h
within_extension true false depth size id value h =
    without_false depth size (object_identifier id) (octet_string value) h

within_extensions : (stated : List Bool) (depth size : ℕ) (es : List ExtensionValue)
    → AreWithin (suc depth) size (nodes (extension_nodes stated es))
    → AreWithin (suc depth) size (nodes (extension_nodes [] es))
within_extensions stated depth size [] h = h
within_extensions [] depth size (e ∷ es) h = h
within_extensions (s ∷ ss) depth size (e ∷ es) h =
    let first = within_first (suc depth) size (extension s e) (nodes (extension_nodes ss es)) h in
    let sum = length-append (encoding (extension s e)) (encodings (nodes (extension_nodes ss es))) in
    let one = within_extension s e.critical depth (length (encoding (extension s e))) e.identifier e.value
    (record { formed = first.0.formed; deep = first.0.deep; long = omega arith }) in
    let rest = within_extensions ss depth (length (encodings (nodes (extension_nodes ss es)))) es
    (record { formed = first.1.formed; deep = first.1.deep; long = omega arith }) in
    let all = within_node (suc depth) (length (encoding (extension s e)))
    (length (encodings (nodes (extension_nodes ss es)))) (extension false e)
    (nodes (extension_nodes [] es)) one rest in
    record { formed = all.formed; deep = all.deep; long = omega (arith, all.long, sum, h.long) }

-- the extensions of a request under a tag, without stated FALSEs
within_extension_list : (tag : ℕ) (stated : List Bool) (depth size : ℕ) (es : List ExtensionValue) → IsLowTag tag
    → bit_six tag ≡ 1 → size < 16777216 → AreWithin (suc (suc depth)) size (nodes (extensions_under 160 stated es))
    → AreWithin (suc (suc depth)) (size + 5) (nodes (extensions_under tag [] es))
within_extension_list tag stated depth size [] low bit small h =
    record { formed = tt; deep = omega arith; long = omega arith }
within_extension_list tag stated depth size (e ∷ es) low bit small h =
    let inside = within_components 160 (suc depth) size _ (within_first (suc (suc depth)) size _ no_nodes h).0 in
    let new = within_constructed tag (suc depth) size _ low bit (within_extensions stated depth size (e ∷ es) inside)
    small in
    let one = within_node (suc (suc depth)) (size + 5) 0 _ no_nodes new (within_none (suc (suc depth))) in
    record { formed = one.formed; deep = one.deep; long = omega (arith, one.long) }

-- the parts of a request
record Parts (r : RequestValue) : Type 0 where
  version : IsWithin 31 65536 (integer r.version)
  imprint : IsWithin 31 65536 (message_imprint r.imprint)
  policy : AreWithin 31 65536 (nodes (optional object_identifier r.policy))
  nonce : AreWithin 31 65536 (nodes (optional integer r.nonce))
  extensions : (tag : ℕ) → IsLowTag tag → bit_six tag ≡ 1
      → AreWithin 31 65541 (nodes (extensions_under tag [] r.extensions))

parts_of : (octets : List ℕ) (r : RequestValue) → Spells octets r → length octets ≤ 65536 → Parts r
parts_of octets r spells short =
    let s = spells.stated in
    let whole : IsWithin 32 65536 (time_stamp_req s r) = record {
      formed = spells.lawful.formed;
      deep = spells.lawful.depth;
      long = omega (arith, short, ap length spells.spelled);
    } in
    let first = within_first 31 65536 (integer r.version) _ (within_components 48 31 65536 _ whole) in
    let second = within_first 31 65536 (message_imprint r.imprint) _ first.1 in
    let tail = subst (AreWithin 31 65536) (request_tail s r) second.1 in
    let policy = within_parts 31 65536 (optional object_identifier r.policy) _ tail in
    let nonce = within_parts 31 65536 (optional integer r.nonce) _ policy.1 in
    let flag = within_parts 31 65536 (false_by_default s.cert_req r.cert_req) _ nonce.1 in
    record {
      version = first.0;
      imprint = second.0;
      policy = policy.0;
      nonce = nonce.0;
      extensions = λ tag low bit. within_extension_list tag s.critical 29 65536 r.extensions low bit (omega arith)
          flag.1;
    }

-- the optional components of a TSTInfo, one after the other
pub tst_tail : (t : TstValue) → nodes (false_by_default false t.ordering
    ++ (optional integer t.nonce ++ (optional tsa t.tsa ++ extensions_under 161 [] t.extensions)))
    ≡ before (false_by_default false t.ordering)
    (before (optional integer t.nonce) (before (optional tsa t.tsa) (nodes (extensions_under 161 [] t.extensions))))
tst_tail t = nodes-append _ _ ∙ ap (before (false_by_default false t.ordering))
    (nodes-append _ _ ∙ ap (before (optional integer t.nonce)) (nodes-append _ _))

-- the field tsa of a name for which there is room
within_tsa : (name : Option Node) → IfSome name IsTsaName → AreWithin 31 65546 (nodes (optional tsa name))
within_tsa None h = record { formed = tt; deep = omega arith; long = omega arith }
within_tsa (Some n) h =
    let name : IsWithin 29 65536 n = record { formed = h.formed; deep = h.depth; long = h.short } in
    let alone = within_node 29 65536 0 n no_nodes name (within_none 29) in
    let directory = within_constructed 164 29 65536 (node n no_nodes) (omega arith, omega arith) refl alone
    (omega arith) in
    let inside = within_node 30 65541 0 (constructed 164 (node n no_nodes)) no_nodes directory (within_none 30) in
    let field = within_constructed 160 30 65541 _ (omega arith, omega arith) refl inside (omega arith) in
    within_node 31 65546 0 (tsa n) no_nodes field (within_none 31)

deeper : (depth more size : ℕ) (ns : Nodes) → AreWithin depth size ns → depth ≤ more → AreWithin more size ns
deeper depth more size ns h d = record { formed = h.formed; deep = omega (arith, h.deep); long = h.long }

tst_within : (t : TstValue) → IsTst t → IsWithin 31 65536 (message_imprint t.imprint)
    → AreWithin 31 65536 (nodes (optional integer t.nonce))
    → AreWithin 31 65541 (nodes (extensions_under 161 [] t.extensions)) → IfSome t.tsa IsTsaName → IsLawful (tst_info t)
tst_within t h imprint nonce extensions name =
    let tail = subst (AreWithin 31 196629) (sym (tst_tail t))
    (within_before 31 6 196623 (false_by_default false t.ordering) _
    (deeper 1 31 6 _ (within_flag false t.ordering) (omega arith))
    (within_before 31 65536 131087 (optional integer t.nonce) _ nonce
    (within_before 31 65546 65541 (optional tsa t.tsa) _ (within_tsa t.tsa name) extensions))) in
    let up = λ (n : Node) (size : ℕ) (w : IsWithin 1 size n). wider 1 size 31 size n w (omega arith) (omega arith) in
    let accurate = wider 2 44 31 44 _ (within_accuracy t.accuracy h.most_accuracy) (omega arith) (omega arith) in
    let a = within_node 31 44 196629 _ _ accurate tail in
    let b = within_node 31 27 196673 _ _ (up _ 27 (within_time t.gen_time h.gen_time)) a in
    let serial = within_number 2 t.serial (inl refl) (omega (arith, h.last_serial)) in
    let d = within_node 31 65536 196713 _ _ imprint (within_node 31 13 196700 _ _ (up _ 13 serial) b) in
    let e = within_node 31 613 262249 _ _ (up _ 613 (within_oid t.policy h.policy)) d in
    let f = within_node 31 13 262862 _ _ (up _ 13 (within_number 2 1 (inl refl) (omega arith))) e in
    let whole = within_constructed 48 31 262875 _ (omega arith, omega arith) refl f (omega arith) in
    record { formed = whole.formed; depth = whole.deep }

pub tst_is_lawful : (octets : List ℕ) (r : RequestValue) (t : TstValue) → Spells octets r → length octets ≤ 65536
    → IsTst t → t.imprint ≡ r.imprint → t.nonce ≡ r.nonce → t.extensions ≡ r.extensions → IfSome t.tsa IsTsaName
    → IsLawful (tst_info t)
tst_is_lawful octets r t spells short h i n x name =
    let parts = parts_of octets r spells short in
    tst_within t h (subst (λ v. IsWithin 31 65536 (message_imprint v)) (sym i) parts.imprint)
    (subst (λ v. AreWithin 31 65536 (nodes (optional integer v))) (sym n) parts.nonce)
    (subst (λ v. AreWithin 31 65541 (nodes (extensions_under 161 [] v))) (sym x)
    (parts.extensions 161 (omega arith, omega arith) refl)) name

-- a name for which there is room is a Name
fitting_is_name : (name : Option Node) → IfSome name IsTsaName → IfSome name IsName
fitting_is_name None h = tt
fitting_is_name (Some n) h = h.name

-- what writing a part of an accuracy adds
pub part_adds : (t n : ℕ) (old new : List ℕ) → n < 4294967296 → new ≡ old ++ encodings (nodes (accuracy_part t n))
    → length new ≤ length old + 13
part_adds t n old new small e = by_test (eqb n 0) e
  where
    by_test : (z : Bool) → new ≡ old ++ encodings (nodes (cond z [] (primitive t (number_content (pos n)) ∷ [])))
        → length new ≤ length old + 13
    by_test true e = omega (arith, ap length e, length-append old [])
    by_test false e =
        let short = number_is_short n (omega arith) in
        let size = length-element t (number_content (pos n)) (omega arith) in
        omega (
          arith,
          ap length e,
          length-append old (element t (number_content (pos n)) ++ []),
          length-append (element t (number_content (pos n))) [],
          size.1,
        )

-- what answers a request is within its ranges, and lawful
pub answer_is_lawful : (octets : List ℕ) (r : RequestValue) → Spells octets r → length octets ≤ 65536
    → (policy : List ℕ) (serial gen_time accuracy : ℕ) (ordering : Bool) (tsa : Option Node) → IsOid policy
    → 1 ≤ serial → serial < 2 ^ 63 → gen_time ≤ last_moment → 1 ≤ accuracy → accuracy ≤ 1000000 → IfSome tsa IsTsaName
    → IsTst (answer r policy serial gen_time accuracy ordering tsa)
    × IsLawful (tst_info (answer r policy serial gen_time accuracy ordering tsa))
answer_is_lawful octets r spells short policy serial gen_time accuracy ordering tsa p s1 s2 g a1 a2 n =
    let ranges : IsTst (answer r policy serial gen_time accuracy ordering tsa) = record {
      policy = p;
      algorithm = spells.proper.algorithm;
      some_serial = s1;
      last_serial = s2;
      gen_time = g;
      some_accuracy = a1;
      most_accuracy = a2;
      tsa = fitting_is_name tsa n;
      extensions = spells.proper.extensions;
    } in (
      ranges,
      tst_is_lawful octets r (answer r policy serial gen_time accuracy ordering tsa) spells short ranges refl refl
          refl n,
    )

-- what is read from at most 65,536 octets is lawful without its stated FALSEs
pub unstated_is_lawful : (octets : List ℕ) (r : RequestValue) → Spells octets r → length octets ≤ 65536
    → IsLawful (time_stamp_req unstated r)
unstated_is_lawful octets r spells short =
    let parts = parts_of octets r spells short in
    let a = within_before 31 6 65541 (false_by_default false r.cert_req) _
    (deeper 1 31 6 _ (within_flag false r.cert_req) (omega arith))
    (parts.extensions 160 (omega arith, omega arith) refl) in
    let b = within_before 31 65536 65547 (optional integer r.nonce) _ parts.nonce a in
    let c = within_before 31 65536 131083 (optional object_identifier r.policy) _ parts.policy b in
    let d = subst (AreWithin 31 196619) (sym (request_tail unstated r)) c in
    let f = within_node 31 65536 262155 _ _ parts.version (within_node 31 65536 196619 _ _ parts.imprint d) in
    let all = within_constructed 48 31 327691 _ (omega arith, omega arith) refl f (omega arith) in
    record { formed = all.formed; depth = all.deep }

-- ---- the request of a SHA-256

within_flag_alone : (cert_req : Bool) → AreWithin 3 6 (nodes (false_by_default false cert_req ++ []))
within_flag_alone true = deeper 1 3 6 _ (within_flag false true) (omega arith)
within_flag_alone false = deeper 1 3 6 _ (within_flag false false) (omega arith)

within_sha256 : (digest : List ℕ) (cert_req : Bool) → AreOctets digest → length digest ≤ 32
    → IsWithin 4 689 (time_stamp_req unstated (sha256_request digest cert_req))
within_sha256 digest cert_req octets short =
    let null = within_primitive 5 0 [] (omega arith, omega arith) refl tt (omega arith) (omega arith) in
    let parameters = within_node 1 5 0 (primitive 5 []) no_nodes null (within_none 1) in
    let identifier = within_node 1 613 5 _ _ (within_oid sha256_identifier sha256_is_oid) parameters in
    let algorithm = within_constructed 48 1 618 _ (omega arith, omega arith) refl identifier (omega arith) in
    let string = within_primitive 4 32 digest (omega arith, omega arith) refl octets short (omega arith) in
    let wide = wider 1 37 2 37 _ string (omega arith) (omega arith) in
    let both = within_node 2 623 37 _ _ algorithm (within_node 2 37 0 _ no_nodes wide (within_none 2)) in
    let imprint = within_constructed 48 2 660 _ (omega arith, omega arith) refl both (omega arith) in
    let rest = within_node 3 665 6 _ _ imprint (within_flag_alone cert_req) in
    let version = wider 1 13 3 13 _ (within_number 2 1 (inl refl) (omega arith)) (omega arith) (omega arith) in
    let all = within_node 3 13 671 (integer (pos 1)) _ version rest in
    within_constructed 48 3 684 _ (omega arith, omega arith) refl all (omega arith)

-- the request of a SHA-256, without a stated FALSE, is lawful and short
pub sha256_is_spelled : (digest : List ℕ) (cert_req : Bool) → AreOctets digest → length digest ≤ 32
    → Spells (encoding (time_stamp_req unstated (sha256_request digest cert_req))) (sha256_request digest cert_req)
    × (length (encoding (time_stamp_req unstated (sha256_request digest cert_req))) ≤ 65536)
sha256_is_spelled digest cert_req octets short =
    let whole = within_sha256 digest cert_req octets short in
    let proper : IsRequest (sha256_request digest cert_req) =
    record { algorithm = sha256_is_oid; policy = tt; extensions = tt } in (
      record {
        proper = proper;
        stated = unstated;
        lawful =
            record { formed = whole.formed; depth = omega (arith, whole.deep) };
        spelled = refl;
      },
      omega (arith, whole.long),
    )
