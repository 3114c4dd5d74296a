-- What `explain` does: a stamp is explained by a policy file, and nothing changes.
use Rattle.std.specs.Prelude.{◌≡◌, ℕ, List, Option, Ok}
use Rattle.command_line.specs.declared.words.ExplainWords.{ExplainWords}
use Rattle.connections.specs.Clock.{Reading}
use Rattle.console.specs.Files.{ReadsText, Source}
use Rattle.operations.specs.{Explanations.IsExplainedOver, Machine.Machine}
use Rattle.policy.specs.{Meaning.meaning_of, Record.PolicyValue}

pub record Explains {D X C S F : Type 0} (m : Machine D X C Reading) (files : Source S F) (words : ExplainWords)
    (found : Option (List ℕ)) : Type 0 where
  -- the text of the policy file means this policy
  pub rules : List ℕ
  pub rules_read : ReadsText files words.rules.now (Ok rules)
  pub policy : PolicyValue
  pub meant : meaning_of rules ≡ Ok policy
  -- the store of the database is only looked at; by that policy the stamp with the serial number that the words state
  -- is explained, or none has it
  pub explained : IsExplainedOver m.disk m.held policy words.serial found
