use Rattle.tables.proofs.{Words.refl, CellLemmas.text_more, FoundLemmas.all_looks, Lookups.finds_labels}
use Rattle.tables.specs.Queries.{label_view}
use Rattle.tables.proofs.base.Base.labels.Goals as goal

pub returns : goal.returns
returns g c =
    all_looks g.S.Store _ (text_more c.as_bytes.ensures.value refl) _ _ (λ labels. labels.items) label_view _
    c.all_as.ensures (finds_labels c.args.owner.now)
