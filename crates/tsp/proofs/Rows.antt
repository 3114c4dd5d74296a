-- The definitions, computed on octets that OpenSSL writes for the same values.
use Rattle.std.proofs.Common.{◌≡◌, pos, true, false, [], ◌∷◌, refl, Some, None}
use Rattle.der.specs.Node.{Node, primitive, constructed, no_nodes, node, encoding, length_octets}
use Rattle.der.specs.{Number.number_content, ObjectIdentifier.subidentifier_octets}
use Rattle.gentime.specs.{Calendar.civil_date, GenTime.spelling, GenTime.text_of, GenTime.time_of}
use Rattle.tsp.specs.Request.{ImprintValue, ExtensionValue, RequestValue, time_stamp_req}
use Rattle.tsp.specs.Tst.{answer, tst_info}

-- SHA-256 with NULL parameters, and three octets for a hash
abbrev imprint : ImprintValue
imprint = record {
  algorithm = 96 ∷ 840 ∷ 1 ∷ 101 ∷ 3 ∷ 4 ∷ 2 ∷ 1 ∷ [];
  parameters = Some (primitive 5 []);
  hash = 1 ∷ 2 ∷ 3 ∷ [];
}

-- 2.999.7
abbrev extension : ExtensionValue
extension = record { identifier = 1079 ∷ 7 ∷ []; critical = false; value = 42 ∷ [] }

-- under the policy 2.999.1, with the nonce 258, certReq and the extension
abbrev asked : RequestValue
asked = record {
  version = pos 1;
  imprint = imprint;
  policy = Some (1079 ∷ 1 ∷ []);
  nonce = Some (pos 258);
  cert_req = true;
  extensions = extension ∷ [];
}

-- with the extension's FALSE stated
request_octets : encoding (time_stamp_req (record { cert_req = false; critical = true ∷ [] }) asked) ≡
    48 ∷ 52 ∷ 2 ∷ 1 ∷ 1 ∷ 48 ∷ 20 ∷ 48 ∷ 13 ∷ 6 ∷ 9 ∷ 96 ∷ 134 ∷ 72 ∷ 1 ∷ 101 ∷ 3 ∷ 4 ∷ 2 ∷ 1 ∷ 5 ∷ 0 ∷ 4 ∷ 3 ∷ 1 ∷ 2
    ∷ 3 ∷ 6 ∷ 3 ∷ 136 ∷
    55 ∷ 1 ∷ 2 ∷ 2 ∷ 1 ∷ 2 ∷ 1 ∷ 1 ∷ 255 ∷ 160 ∷ 13 ∷ 48 ∷ 11 ∷ 6 ∷ 3 ∷ 136 ∷ 55 ∷ 7 ∷ 1 ∷ 1 ∷ 0 ∷ 4 ∷ 1 ∷ 42 ∷ []
unfolding length_octets number_content subidentifier_octets
request_octets = refl

-- 1999-06-09T00:13:26.34352Z, 1,500 microseconds, ordering
tst_info_octets : encoding (tst_info (answer asked (1079 ∷ 1 ∷ []) 128 928887206343520 1500 true None)) ≡
    48 ∷ 85 ∷ 2 ∷ 1 ∷ 1 ∷ 6 ∷ 3 ∷ 136 ∷ 55 ∷ 1 ∷ 48 ∷ 20 ∷ 48 ∷ 13 ∷ 6 ∷ 9 ∷ 96 ∷ 134 ∷ 72 ∷ 1 ∷ 101 ∷ 3 ∷ 4 ∷ 2 ∷ 1 ∷ 5
    ∷ 0 ∷ 4 ∷ 3 ∷ 1 ∷
    2 ∷ 3 ∷ 2 ∷ 2 ∷ 0 ∷ 128 ∷ 24 ∷ 21 ∷ 49 ∷ 57 ∷ 57 ∷ 57 ∷ 48 ∷ 54 ∷ 48 ∷ 57 ∷ 48 ∷ 48 ∷ 49 ∷ 51 ∷ 50 ∷ 54 ∷ 46 ∷ 51
    ∷ 52 ∷ 51 ∷ 53 ∷ 50 ∷
    90 ∷ 48 ∷ 7 ∷ 128 ∷ 1 ∷ 1 ∷ 129 ∷ 2 ∷ 1 ∷ 244 ∷ 1 ∷ 1 ∷ 255 ∷ 2 ∷ 2 ∷ 1 ∷ 2 ∷ 161 ∷ 10 ∷ 48 ∷ 8 ∷ 6 ∷ 3 ∷ 136 ∷ 55
    ∷ 7 ∷ 4 ∷ 1 ∷ 42 ∷ []
unfolding length_octets number_content subidentifier_octets text_of spelling time_of civil_date
tst_info_octets = refl

-- a Name: commonName TSA, in one relative distinguished name of one attribute
abbrev name : Node
name =
    constructed 48 (node (constructed 49 (node (constructed 48 (node (primitive 6 (85 ∷ 4 ∷ 3 ∷ []))
    (node (primitive 12 (84 ∷ 83 ∷ 65 ∷ [])) no_nodes))) no_nodes)) no_nodes)

-- SHA-256 of abc, and nothing else asked for
abbrev plain : RequestValue
plain = record {
  version = pos 1;
  imprint = record {
    algorithm = 96 ∷ 840 ∷ 1 ∷ 101 ∷ 3 ∷ 4 ∷ 2 ∷ 1 ∷ [];
    parameters = Some (primitive 5 []);
    hash =
        186 ∷ 120 ∷ 22 ∷ 191 ∷ 143 ∷ 1 ∷ 207 ∷ 234 ∷ 65 ∷ 65 ∷ 64 ∷ 222 ∷ 93 ∷ 174 ∷ 34 ∷ 35 ∷ 176 ∷ 3 ∷ 97 ∷ 163 ∷ 150
        ∷ 23 ∷ 122 ∷ 156 ∷ 180 ∷ 16 ∷ 255 ∷ 97 ∷ 242 ∷ 0 ∷ 21 ∷ 173 ∷ [];
  };
  policy = None;
  nonce = None;
  cert_req = false;
  extensions = [];
}

-- with the authority's name, 1970-01-01T00:00:00Z, one second
named_octets : encoding (tst_info (answer plain (1079 ∷ 1 ∷ []) 1 0 1000000 false (Some name))) ≡
    48 ∷ 104 ∷ 2 ∷ 1 ∷ 1 ∷ 6 ∷ 3 ∷ 136 ∷ 55 ∷ 1 ∷ 48 ∷ 49 ∷ 48 ∷ 13 ∷ 6 ∷ 9 ∷ 96 ∷ 134 ∷ 72 ∷ 1 ∷ 101 ∷ 3 ∷ 4 ∷ 2 ∷ 1
    ∷ 5 ∷ 0 ∷ 4 ∷ 32 ∷ 186 ∷ 120 ∷ 22 ∷ 191 ∷ 143 ∷ 1 ∷ 207 ∷ 234 ∷ 65 ∷ 65 ∷ 64 ∷ 222 ∷ 93 ∷ 174 ∷ 34 ∷ 35 ∷ 176 ∷ 3
    ∷ 97 ∷ 163 ∷ 150 ∷ 23 ∷ 122 ∷ 156 ∷ 180 ∷ 16 ∷ 255 ∷ 97 ∷ 242 ∷ 0 ∷ 21 ∷ 173 ∷ 2 ∷ 1 ∷ 1 ∷ 24 ∷ 15 ∷ 49 ∷ 57 ∷ 55
    ∷ 48 ∷ 48 ∷ 49 ∷ 48 ∷ 49 ∷ 48 ∷ 48 ∷ 48 ∷ 48 ∷ 48 ∷ 48 ∷ 90 ∷ 48 ∷ 3 ∷ 2 ∷ 1 ∷ 1 ∷ 160 ∷ 18 ∷ 164 ∷ 16 ∷ 48 ∷ 14
    ∷ 49 ∷ 12 ∷ 48 ∷ 10 ∷ 6 ∷ 3 ∷ 85 ∷ 4 ∷ 3 ∷ 12 ∷ 3 ∷ 84 ∷ 83 ∷ 65 ∷ []
unfolding length_octets number_content subidentifier_octets text_of spelling time_of civil_date
named_octets = refl
