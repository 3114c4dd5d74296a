-- TSTInfo (RFC 3161 2.4.2).
use Rattle.std.specs.Prelude.{◌≡◌, ℕ, ◌/◌, ◌%◌, ◌^◌, ◌<◌, ◌≤◌, ◌==◌, Bool, false, if◌then◌else◌, ℤ, pos, List, [], ◌∷◌}
use Rattle.std.specs.{Prelude.◌++◌, Prelude.length, Prelude.Option, Prelude.IfSome, List.AllByRecursion}
use Rattle.der.specs.Node.{Node, primitive, constructed, Nodes, no_nodes, node, encoding, levels, IsFormed, IsLawful}
use Rattle.der.specs.{Number.number_content, ObjectIdentifier.IsOid}
use Rattle.gentime.specs.GenTime.{last_moment, text_of}
use Rattle.tsp.specs.Grammar.{sequence, integer, object_identifier, optional, false_by_default}
use Rattle.tsp.specs.Request.{ImprintValue, ExtensionValue, RequestValue, message_imprint, extensions_under}

-- a Name, which is a SEQUENCE (RFC 5280 4.1.2.4)
pub record IsName (n : Node) : Type 0 where
  pub components : Nodes
  pub sequence : n ≡ constructed 0x30 components

-- A Name for which each TSTInfo that answers a request has room: formed, of at most 29 levels, since three stand above
-- it, and of at most 65,536 octets.
pub record IsTsaName (n : Node) : Type 0 where
  pub name : IsName n
  pub formed : IsFormed n
  pub depth : levels n ≤ 29
  pub short : length (encoding n) ≤ 65536

-- genTime and accuracy in microseconds; the authority's name is a Name
pub record TstValue : Type 0 where
  pub policy : List ℕ
  pub imprint : ImprintValue
  pub serial : ℕ
  pub gen_time : ℕ
  pub accuracy : ℕ
  pub ordering : Bool
  pub nonce : Option ℤ
  pub tsa : Option Node
  pub extensions : List ExtensionValue

-- the ranges of its parts
pub record IsTst (t : TstValue) : Type 0 where
  pub policy : IsOid t.policy
  pub algorithm : IsOid t.imprint.algorithm
  pub some_serial : 1 ≤ t.serial
  pub last_serial : t.serial < 2 ^ 63
  pub gen_time : t.gen_time ≤ last_moment
  pub some_accuracy : 1 ≤ t.accuracy
  pub most_accuracy : t.accuracy ≤ 1000000
  pub tsa : IfSome t.tsa IsName
  pub extensions : AllByRecursion (λ extension. IsOid extension.identifier) t.extensions

-- a part of an accuracy, where it isn't zero
abbrev pub accuracy_part : ℕ → ℕ → List Node
accuracy_part tag n = if n == 0 then [] else primitive tag (number_content (pos n)) ∷ []

-- Accuracy: whole seconds, then milliseconds under [0] and microseconds under [1], each 1 to 999 where it stands
abbrev pub accuracy : ℕ → Node
accuracy n =
    sequence (
    accuracy_part 0x02 (n / 1000000)
    ++ (accuracy_part 0x80 (n / 1000 % 1000)
    ++ accuracy_part 0x81 (n % 1000)))

abbrev pub generalized_time : ℕ → Node
generalized_time moment = primitive 0x18 (text_of 6 moment)

-- tsa: a GeneralName under [0], of the kind directoryName, which is a Name under [4]; both tags are explicit, since
-- GeneralName and Name are CHOICEs (RFC 5280 4.2.1.6, X.680 31.2.7)
abbrev pub tsa : Node → Node
tsa name = constructed 0xa0 (node (constructed 0xa4 (node name no_nodes)) no_nodes)

-- TSTInfo: version 1, accuracy always stated, no FALSE stated, extensions under [1]
abbrev pub tst_info : TstValue → Node
tst_info t =
    sequence (
    integer (pos 1)
    ∷ object_identifier t.policy
    ∷ message_imprint t.imprint
    ∷ integer (pos t.serial)
    ∷ generalized_time t.gen_time
    ∷ accuracy t.accuracy
    ∷ (false_by_default false t.ordering
    ++ (optional integer t.nonce
    ++ (optional tsa t.tsa
    ++ extensions_under 0xa1 [] t.extensions))))

-- The octets are the encoding of the TSTInfo, whose parts are in their ranges and which is a lawful value.
pub record SpellsTst (octets : List ℕ) (t : TstValue) : Type 0 where
  pub ranges : IsTst t
  pub lawful : IsLawful (tst_info t)
  pub spelled : octets ≡ encoding (tst_info t)

-- the TSTInfo that answers a request
abbrev pub answer : RequestValue → List ℕ → ℕ → ℕ → ℕ → Bool → Option Node → TstValue
answer r policy serial gen_time accuracy ordering tsa = record {
  policy = policy;
  imprint = r.imprint;
  serial = serial;
  gen_time = gen_time;
  accuracy = accuracy;
  ordering = ordering;
  nonce = r.nonce;
  tsa = tsa;
  extensions = r.extensions;
}
