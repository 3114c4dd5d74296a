use Rattle.std.proofs.Common.{refl}
use Rattle.tsp.specs.Request.{unstated}
use Rattle.tsp.proofs.{Spelled.same_request, SpellingsOf.request_octets, SpellingsOf.one_spelling}
use Rattle.tsp.proofs.TstLawful.{tst_is_lawful, answer_is_lawful, unstated_is_lawful, sha256_is_spelled}
use Rattle.tsp.proofs.request.requests_have_one_reading.Goals as goal

pub returns : goal.returns
returns c = record {
  one = same_request;
  parts = request_octets;
  one_spelling = one_spelling;
  unstated = unstated_is_lawful;
  written = λ r proper lawful. record { proper = proper; stated = unstated; lawful = lawful; spelled = refl };
  sha256 = sha256_is_spelled;
  lawful = tst_is_lawful;
  answer = answer_is_lawful;
}
