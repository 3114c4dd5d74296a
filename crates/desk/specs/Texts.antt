-- The texts that a stamp consists of.
use Rattle.std.specs.Prelude.{ℕ, Bool, false, List, option_map, unwrap_or}
use Rattle.der.specs.{Node.encoding, ObjectIdentifier.oid_content}
use Rattle.sha2.specs.Sha256.{sha256}
use Rattle.policy.specs.{LookUp.default_policy, Record.AccountValue, Record.PolicyValue}
use Rattle.tsp.specs.Request.{RequestValue, time_stamp_req, sha256_request, unstated}
use Rattle.tsp.specs.Tst.{tst_info, answer}
use Rattle.cms.specs.SignedData.{token}
use Rattle.book.specs.History.{ReservationValue}
use Rattle.desk.specs.{Findings.StampPlan, Command.Setting, Command.PendingValue, Succession.tsa_of}

-- the TSTInfo by the plan, under a serial number, with the policy file's accuracy and ordering, and the name of the
-- identity in force where the file wants it
abbrev pub tst_of : Setting → StampPlan → ℕ → List ℕ
tst_of s plan serial =
    encoding (tst_info (answer plan.request plan.policy serial plan.gen_time s.file.counter.accuracy_us
    s.file.counter.ordering (tsa_of s)))

-- what is reserved for an account by the plan
abbrev pub reservation_of : Setting → List ℕ → StampPlan → List ℕ → ℕ → ReservationValue
reservation_of s account plan octets serial = record {
  serial = serial;
  account = account;
  gen_time = plan.gen_time;
  policy = oid_content plan.policy;
  algorithm = oid_content plan.request.imprint.algorithm;
  digest = plan.request.imprint.hash;
  request = octets;
  tst = tst_of s plan serial;
}

-- what waits for the signature of a reservation
abbrev pub pending_of : Setting → StampPlan → ReservationValue → PendingValue
pending_of s plan r = record {
  serial = r.serial;
  tst = r.tst;
  certificate = plan.request.cert_req;
  identity = s.in_force.identity;
  algorithm = s.in_force.algorithm;
}

-- its token, once it is signed
abbrev pub token_with : PendingValue → List ℕ → List ℕ
token_with p signature = token p.identity p.algorithm p.tst signature p.certificate

-- the account's default policy gives the certificate out
abbrev pub gives_certificate : PolicyValue → AccountValue → Bool
gives_certificate file owner = unwrap_or (option_map (λ p. p.certificate) (default_policy file owner)) false

-- A deposit is stamped as this request: SHA-256 with NULL parameters, no policy, nonce or extension, and certReq
-- exactly where the owner's default policy gives the certificate out.
abbrev pub request_for : PolicyValue → AccountValue → List ℕ → RequestValue
request_for file owner bytes = sha256_request (sha256 bytes) (gives_certificate file owner)

-- its octets, in which no FALSE is stated
abbrev pub octets_for : PolicyValue → AccountValue → List ℕ → List ℕ
octets_for file owner bytes = encoding (time_stamp_req unstated (request_for file owner bytes))
