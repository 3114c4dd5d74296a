use Rattle.policy.{specs.View.group_view, proofs.SoundRecords.few_answered}
use Rattle.policy.specs.declared.field.Field.TheVariants as field
use Rattle.policy.proofs.document.from_table.Goals as goal

pub invariant_of-result : goal.invariant_of-result
invariant_of-result c = record { few_groups = few_answered group_view field.Group 16 _ _ _ c.in_ok-groups.ensures }
