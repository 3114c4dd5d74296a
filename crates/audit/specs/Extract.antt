-- The extract of a history: comma-separated values (RFC 4180, but that a line ends in LF), a line of the columns' names
-- and a record for each stamp of a range of serial numbers.
use Rattle.std.specs.Prelude.{ℕ, nat_le, if◌then◌else◌, List, [], ◌∷◌, ◌++◌, Option, Some, None, codes}
use Rattle.std.specs.{Fmt.decimal, List.flat_map}
use Rattle.csv.specs.Writing.{default_writer, row_text}
use Rattle.der.specs.ObjectIdentifier.{oid_of, oid_text}
use Rattle.gentime.specs.GenTime.{last_moment, text_of}
use Rattle.hex.specs.Hex.{encode_lower}
use Rattle.sha2.specs.Sha256.{sha256}
use Rattle.book.specs.{Rows.StampRow, History.History, History.stamps_between}

abbrev pub columns : List (List ℕ)
columns =
    codes "serial" ∷ codes "genTime" ∷ codes "account" ∷ codes "policy" ∷ codes "algorithm" ∷ codes "digest"
    ∷ codes "state" ∷ codes "token" ∷ []

-- a moment as a genTime (RFC 3161 2.4.2); one after 9999, which has none, in microseconds
abbrev pub moment_text : ℕ → List ℕ
moment_text moment = if nat_le moment last_moment then text_of 6 moment else decimal moment

-- dotted numbers, or hexadecimal digits where the octets are no object identifier's
abbrev pub text_of_oid : List ℕ → Option (List ℕ) → List ℕ
text_of_oid octets None = encode_lower octets
text_of_oid octets (Some oid) = oid_text oid

-- the text of the object identifier that has these contents octets (X.690 8.19)
abbrev pub identifier_text : List ℕ → List ℕ
identifier_text octets = text_of_oid octets (oid_of octets)

-- a stamp without its token is void
abbrev pub state_text : Option (List ℕ) → List ℕ
state_text None = codes "void"
state_text (Some token) = codes "sealed"

-- the token's SHA-256 (FIPS 180-4), nothing where it is void
abbrev pub token_text : Option (List ℕ) → List ℕ
token_text None = []
token_text (Some token) = encode_lower (sha256 token)

abbrev pub fields : StampRow → List (List ℕ)
fields stamp =
    decimal stamp.serial
    ∷ moment_text stamp.gen_time
    ∷ stamp.account
    ∷ identifier_text stamp.policy
    ∷ identifier_text stamp.algorithm
    ∷ encode_lower stamp.digest
    ∷ state_text stamp.token
    ∷ token_text stamp.token
    ∷ []

-- the line of a stamp
unfoldable pub stamp_text : StampRow → List ℕ
stamp_text stamp = row_text default_writer (fields stamp)

abbrev pub stamps_text : List StampRow → List ℕ
stamps_text stamps = flat_map stamp_text stamps

-- the columns' names
unfoldable pub header_text : List ℕ
header_text = row_text default_writer columns

-- the columns' names and the lines of stamps
abbrev pub lines_text : List StampRow → List ℕ
lines_text stamps = header_text ++ stamps_text stamps

-- the extract: all stamps of the range, both ends in it, by serial number, void ones too
abbrev pub extract_text : ℕ → ℕ → History → List ℕ
extract_text from to b = lines_text (stamps_between from to b)
