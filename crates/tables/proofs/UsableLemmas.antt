-- A call leaves a connection as usable as it was.
use Rattle.tables.proofs.Words.{HasCleanDisk, State, Survives, Trees, arith, inl, inr, ◌∙◌}
use Rattle.tables.specs.QueryAnswers.{Looks, StaysUsable}

pub survivor_usable : (old new : State) (Commits : Trees → Type 0) → Survives old new Commits → StaysUsable old new
survivor_usable old new Commits s = record { counts = s.counts; stays = s.closes; limit = s.limit }

pub usable_in_turn : (old mid new : State) → (HasCleanDisk new → HasCleanDisk mid) → StaysUsable old mid
    → StaysUsable mid new → StaysUsable old new
usable_in_turn old mid new clean first then = record {
  counts = omega (arith, first.counts, then.counts);
  stays = λ honest is_open. elim (first.stays (clean honest) is_open) [
    | inl still ↦ elim (then.stays honest still) [
      | inl last ↦ inl last
      | inr failed ↦ inr (omega (arith, first.counts, failed))
    ]
    | inr failed ↦ inr (omega (arith, then.counts, failed))
  ];
  limit = then.limit ∙ first.limit;
}

pub looks_in_turn : (old mid new : State) → Looks old mid → Looks mid new → Looks old new
looks_in_turn old mid new first then = record {
  clean = λ clean. first.clean (then.clean clean);
  reopens = λ clean is_open. first.reopens (then.clean clean) (then.reopens clean is_open);
  kept = λ clean is_open settled.
      let before = first.kept (then.clean clean) (then.reopens clean is_open) settled in
      let after = then.kept clean is_open before.1 in
      (after.0 ∙ before.0, after.1);
  leaves = λ clean db may. first.leaves (then.clean clean) db (then.leaves clean db may);
  usable = usable_in_turn old mid new then.clean first.usable then.usable;
}
