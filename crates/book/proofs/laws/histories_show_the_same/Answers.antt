use Rattle.std.proofs.Common.{refl}
use Rattle.book.proofs.Shown.{grant_shows, revocation_shows, shows_more}
use Rattle.book.proofs.laws.histories_show_the_same.Goals as goal

pub returns : goal.returns
returns c = record {
  granted = grant_shows;
  revoked = revocation_shows;
  sealed = λ serial token r b. record {
    reserved = refl;
    tokens = λ serial. refl;
    calibrated = refl;
    held = refl;
    deposited = refl;
    readers = λ number reader. refl;
    installed = refl;
  };
  more = shows_more;
}
