use Rattle.std.proofs.Common.{ℕ, ◌≤◌, List, arith, codes, refl}
use Rattle.clap.specs.Words.{Row}
use Rattle.command_line.specs.{Words.IsUnasked, Words.StatesNumber, declared.words.Word.TheVariants.Serve}
use Rattle.command_line.proofs.parse.serve_word.Goals as goal

no_connections : (rows : List Row)
    → ((n : ℕ) → StatesNumber rows (codes "connections") n → 0 ≤ n → n ≤ 4294967295 → ⊥)
    → IsUnasked (codes "serve") rows
no_connections rows none (Serve words) asked =
    none words.connections asked.1.connections (omega arith) (let few = words.few in omega (arith, few))
no_connections rows none word asked = grind arith

pub returns-in_err-connections-clause-none : goal.returns-in_err-connections-clause-none
returns-in_err-connections-clause-none c =
    λ _. no_connections _ (c.number.ensures.none (rw c.in_err-connections.was refl))
