use Rattle.store.proofs.{Words.subst₂, Words.sym, Alike.alike, Replayed.replayed_is}
use Rattle.store.specs.Alike.{HaveSameRows}
use Rattle.store.proofs.laws.equal_tables_tell_the_same.Goals as goal

pub returns : goal.returns
returns c b d sound other rows =
    alike b d sound other (subst₂ HaveSameRows (sym (replayed_is b sound)) (sym (replayed_is d other)) rows)
