use Rattle.book.proofs.Identities.{found_before}
use Rattle.book.proofs.laws.identities_tell_who_signed.Goals as goal

pub returns : goal.returns
returns c b serial r sound reserved = found_before b serial r sound reserved
