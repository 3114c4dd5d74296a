use Rattle.std.proofs.Common.{[], ◌∷◌, map}
use Rattle.connections.specs.auxiliary.Gathering.{handed_view}
use Rattle.connections.proofs.GroupLemmas.{all_answered}
use Rattle.connections.proofs.group.answer_gathered.Goals as goal

pub returns-in-Some : goal.returns-in-Some
returns-in-Some g c =
    rw c.in-Some.is
    (all_answered _ _ _ _ _ (map handed_view c.args.gathering.stamps.items) (handed_view c.in-Some.one ∷ []) _ _ _
    c.answer_together.ensures c.answer_one.ensures)
