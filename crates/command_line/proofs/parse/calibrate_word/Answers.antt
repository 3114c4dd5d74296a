use Rattle.std.proofs.Common.{ℕ, ◌≤◌, List, arith, codes, refl}
use Rattle.clap.specs.Words.{Row}
use Rattle.command_line.specs.{Words.IsUnasked, Words.StatesNumber, declared.words.Word.TheVariants.Calibrate}
use Rattle.command_line.proofs.parse.calibrate_word.Goals as goal

no_uncertainty : (rows : List Row)
    → ((n : ℕ) → StatesNumber rows (codes "uncertainty") n → 0 ≤ n → n ≤ 1000000000000 → ⊥)
    → IsUnasked (codes "calibrate") rows
no_uncertainty rows none (Calibrate words) asked =
    none words.uncertainty asked.1.uncertainty (omega arith) words.most_uncertainty
no_uncertainty rows none word asked = grind arith

pub returns-in_err-uncertainty-clause-none : goal.returns-in_err-uncertainty-clause-none
returns-in_err-uncertainty-clause-none c =
    λ _. no_uncertainty _ (c.number-3.ensures.none (rw c.in_err-uncertainty.was refl))
