use Rattle.der.proofs.NumberContents.{twos_value-number_content, octets-number_content, some-number_content}
use Rattle.der.proofs.NumberContents.{is_shortest-number_content, IsNumberContent-number_content, number_content_only}
use Rattle.der.proofs.NumberContents.{number_content-twos_value}
use Rattle.der.proofs.number.numbers_have_one_content.Goals as goal

pub returns : goal.returns
returns c = record {
  value = twos_value-number_content;
  octets = octets-number_content;
  some = some-number_content;
  shortest = is_shortest-number_content;
  content = IsNumberContent-number_content;
  only = number_content_only;
  from_shortest = number_content-twos_value;
}
