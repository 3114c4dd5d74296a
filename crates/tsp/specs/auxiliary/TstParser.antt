-- Reading a TSTInfo from a value: the answer, or none where the value isn't of the grammar.
use Rattle.std.specs.Prelude.{ℕ, ◌+◌, ◌*◌, ◌-◌, ◌^◌, ◌&&◌, Bool, false, if◌then◌else◌, nat_lt, nat_le, ℤ, pos, negsuc}
use Rattle.std.specs.Prelude.{List, [], ◌∷◌, ◌++◌, Option, Some, None, unwrap_or}
use Rattle.der.specs.Node.{Node, primitive, Nodes, contents_of, components_of, first_of}
use Rattle.gentime.specs.GenTime.{text_of}
use Rattle.tsp.specs.Grammar.{sequence, integer, object_identifier, optional, false_by_default}
use Rattle.tsp.specs.Parser.{◌>>=◌, only, optional_at, integer_value_of, integer_of, oid_in, imprint_of, flag_at}
use Rattle.tsp.specs.{Parser.extensions_at, Tst.TstValue, Tst.accuracy, Tst.tsa}
use Rattle.tsp.specs.Request.{ImprintValue, ExtensionValue, message_imprint, extensions_under}

-- the first five parts of a TSTInfo after its version, of which the time is still its octets
pub record TstHead : Type 0 where
  pub policy : List ℕ
  pub imprint : ImprintValue
  pub serial : ℕ
  pub time : List ℕ
  pub accuracy : ℕ

-- a number from 0 to 2 ^ 63 - 1
unfoldable pub natural : ℤ → Option ℕ
natural (pos n) = if nat_lt n (2 ^ 63) then Some n else None
natural (negsuc n) = None

unfoldable pub natural_of : List ℕ → Option ℕ
natural_of octets = integer_value_of octets >>= natural

-- from 1 to a greatest number
unfoldable pub up_to : ℕ → ℕ → Option ℕ
up_to most n = if nat_le 1 n && nat_le n most then Some n else None

-- a number under a tag, from 1 to a greatest one
unfoldable pub number_in : ℕ → ℕ → Node → Option ℕ
number_in tag most n = do
  octets ← contents_of tag n
  number ← natural_of octets
  up_to most number

-- a part of an accuracy, 0 where it is left away, and what is left
unfoldable pub part_at : ℕ → ℕ → Nodes → Option (ℕ × Nodes)
part_at tag most ns = optional_at tag (number_in tag most) ns >>= λ found. Some (unwrap_or found.0 0, found.1)

-- an Accuracy, in microseconds
unfoldable pub accuracy_of : Node → Option ℕ
accuracy_of n = do
  members ← components_of 0x30 n
  seconds ← part_at 0x02 1 members
  millis ← part_at 0x80 999 seconds.1
  micros ← part_at 0x81 999 millis.1
  whole ← only micros.1 (seconds.0 * 1000000 + (millis.0 * 1000 + micros.0))
  up_to 1000000 whole

unfoldable pub head_of : Nodes → Option (TstHead × Nodes)
head_of members = do
  first ← first_of members
  version ← number_in 0x02 1 first.0
  second ← first_of first.1
  policy ← oid_in second.0
  third ← first_of second.1
  imprint ← imprint_of third.0
  fourth ← first_of third.1
  serial ← number_in 0x02 (2 ^ 63 - 1) fourth.0
  fifth ← first_of fourth.1
  time ← contents_of 0x18 fifth.0
  sixth ← first_of fifth.1
  accuracy ← accuracy_of sixth.0
  Some (record { policy = policy; imprint = imprint; serial = serial; time = time; accuracy = accuracy }, sixth.1)

-- the parts of a TSTInfo
pub record TstParts : Type 0 where
  pub head : TstHead
  pub ordering : Bool
  pub nonce : Option ℤ
  pub tsa : Option Node
  pub extensions : List ExtensionValue

-- the one value under an explicit tag
unfoldable pub explicit_of : ℕ → Node → Option Node
explicit_of tag n = do
  members ← components_of tag n
  first ← first_of members
  only first.1 first.0

-- a Name: a SEQUENCE
unfoldable pub name_of : Node → Option Node
name_of n = components_of 0x30 n >>= λ components. Some n

-- the Name under directoryName under tsa
unfoldable pub tsa_of : Node → Option Node
tsa_of n = do
  general_name ← explicit_of 0xa0 n
  name ← explicit_of 0xa4 general_name
  name_of name

unfoldable pub parts_of : Node → Option TstParts
parts_of n = do
  members ← components_of 0x30 n
  head ← head_of members
  ordering ← flag_at false head.1
  nonce ← optional_at 0x02 integer_of ordering.1
  tsa ← optional_at 0xa0 tsa_of nonce.1
  extensions ← extensions_at false 0xa1 tsa.1
  only extensions.1 (record {
    head = head.0;
    ordering = ordering.0;
    nonce = nonce.0;
    tsa = tsa.0;
    extensions = extensions.0;
  })

-- the TSTInfo of its parts
abbrev pub info_of : TstParts → Node
info_of p =
    sequence (integer (pos 1)
    ∷ object_identifier p.head.policy
    ∷ message_imprint p.head.imprint
    ∷ integer (pos p.head.serial)
    ∷ primitive 0x18 p.head.time
    ∷ accuracy p.head.accuracy
    ∷ (false_by_default false p.ordering
    ++ (optional integer p.nonce
    ++ (optional tsa p.tsa
    ++ extensions_under 0xa1 [] p.extensions))))

-- the parts of a TSTInfo, with the time as its octets
abbrev pub parts_in : TstValue → TstParts
parts_in t = record {
  head = record {
    policy = t.policy;
    imprint = t.imprint;
    serial = t.serial;
    time = text_of 6 t.gen_time;
    accuracy = t.accuracy;
  };
  ordering = t.ordering;
  nonce = t.nonce;
  tsa = t.tsa;
  extensions = t.extensions;
}
