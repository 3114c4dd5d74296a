use Rattle.store.proofs.{Calls.stands_for, Same.keeps_shown}
use Rattle.store.proofs.store.StoreBook.tell_the_same.Goals as goal

pub returns : goal.returns
returns g c b d s sound same =
    stands_for g.S.Store d c.args.self.now sound (keeps_shown g.S.Store c.args.self.now b d s.sound sound same s.kept)
