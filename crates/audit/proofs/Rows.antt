-- The definitions, computed on rows.
use Rattle.std.proofs.Common.{◌≡◌, List, ℕ, [], ◌∷◌, ◌++◌, refl}
use Rattle.std.specs.{Fmt.digits, Prelude.codes}
use Rattle.csv.specs.Writing.{escaped, fields_text, is_blank}
use Rattle.der.specs.ObjectIdentifier.{decimal, oid_of, subidentifier_octets, subidentifiers_of}
use Rattle.gentime.specs.{Calendar.civil_date, GenTime.spelling, GenTime.text_of, GenTime.time_of}
use Rattle.hex.specs.Hex.{encode_with}
use Rattle.book.specs.History.{Reserved, ReservationValue}
use Rattle.audit.specs.Extract.{extract_text, header_text, identifier_text, moment_text, stamp_text}

-- SHA-256 of `abc`
abbrev digest : List ℕ
digest =
    0xba ∷ 0x78 ∷ 0x16 ∷ 0xbf ∷ 0x8f ∷ 0x01 ∷ 0xcf ∷ 0xea ∷ 0x41 ∷ 0x41 ∷ 0x40 ∷ 0xde ∷ 0x5d ∷ 0xae ∷ 0x22 ∷ 0x23 ∷ 0xb0
    ∷ 0x03 ∷ 0x61 ∷ 0xa3 ∷ 0x96 ∷ 0x17 ∷ 0x7a ∷ 0x9c ∷ 0xb4 ∷ 0x10 ∷ 0xff ∷ 0x61 ∷ 0xf2 ∷ 0x00 ∷ 0x15 ∷ 0xad ∷ []

-- a reservation that never got its token
abbrev reserved : ReservationValue
reserved = record {
  serial = 1;
  account = codes "guest";
  gen_time = 0;
  policy = 0x88 ∷ 0x37 ∷ 0x01 ∷ [];
  algorithm = 0x60 ∷ 0x86 ∷ 0x48 ∷ 0x01 ∷ 0x65 ∷ 0x03 ∷ 0x04 ∷ 0x02 ∷ 0x01 ∷ [];
  digest = digest;
  request = [];
  tst = [];
}

abbrev names : List ℕ
names = codes "serial,genTime,account,policy,algorithm,digest,state,token" ++ 10 ∷ []

void_row : extract_text 1 1 (Reserved reserved ∷ [])
    ≡ names
    ++ codes "1,19700101000000Z,guest,2.999.1,2.16.840.1.101.3.4.2.1,"
    ++ codes "ba7816bf8f01cfea414140de5dae2223b00361a396177a9cb410ff61f20015ad,void," ++ 10 ∷ []
unfolding header_text stamp_text escaped fields_text is_blank decimal digits oid_of subidentifiers_of
    subidentifier_octets encode_with text_of spelling time_of civil_date
void_row = refl

no_row : extract_text 2 9 (Reserved reserved ∷ []) ≡ names
unfolding header_text escaped fields_text is_blank
no_row = refl

-- octets that are no object identifier's
no_identifier : identifier_text (0x80 ∷ 0xab ∷ []) ≡ codes "80ab"
unfolding oid_of subidentifiers_of subidentifier_octets encode_with
no_identifier = refl

-- a genTime with a fraction, and a moment that has none
fraction_text : moment_text 343520 ≡ codes "19700101000000.34352Z"
unfolding text_of spelling time_of civil_date
fraction_text = refl

later_moment_text : moment_text 253402300800000000 ≡ codes "253402300800000000"
unfolding digits
later_moment_text = refl
