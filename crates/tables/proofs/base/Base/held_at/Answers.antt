use Rattle.tables.proofs.Words.{SFits, refl, rules, to_z-of_z, w64}
use Rattle.tables.proofs.{CellLemmas.int_more, FoundLemmas.any_looks, Lookups.finds_hold_at}
use Rattle.tables.proofs.base.Base.held_at.Goals as goal

pub returns : goal.returns
returns g c =
    let fits : SFits w64 c.args.now = search rules in
    any_looks g.S.Store _ (int_more (to_z-of_z fits) refl) _ _ _ c.any_row.ensures (finds_hold_at c.args.now)
