use Rattle.store.proofs.{Words.arith, Words.reservations, Alike.not_above}
use Rattle.store.proofs.laws.serials_rise.Goals as goal

pub returns-clause-greatest : goal.returns-clause-greatest
returns-clause-greatest c b r m = not_above (reservations b) r m

pub returns-clause-next : goal.returns-clause-next
returns-clause-next c b new r fits m = let below = not_above (reservations b) r m in let rises = fits.rises in
    omega (arith, below, rises)
