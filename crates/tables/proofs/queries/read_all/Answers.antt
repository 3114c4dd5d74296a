use Rattle.tables.proofs.Words.{[], ap, subst₂, sym, take, take_more, ◌++◌, ◌∙◌, ◌∷◌}
use Rattle.tables.proofs.FoundLemmas.{read_more}
use Rattle.tables.specs.QueryAnswers.{AreReadAs}
use Rattle.tables.proofs.queries.read_all.Goals as goal

pub loop-row-preserved : goal.loop-row-preserved
loop-row-preserved g c =
    let rows = c.args.rows.now in
    let index = c.loop-row.row-index in
    let one_more = take_more rows index c.row-item.result c.loop-row-test.true
    ∙ ap (λ row. take index rows ++ row ∷ []) (sym c.row-item.is) in
    subst₂ (AreReadAs g.R.FromRow.shows) (sym one_more) (sym c.in_ok-push.ensures.items)
    (read_more g.R.FromRow.shows _ _ _ _ c.loop-row.invariant c.in_ok-value.ensures)
