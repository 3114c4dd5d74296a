use Rattle.std.proofs.Common.{ℕ, ◌≤◌, List, arith, codes, refl}
use Rattle.clap.specs.Words.{Row}
use Rattle.command_line.specs.{Words.IsUnasked, Words.StatesNumber, declared.words.Word.TheVariants.Tst}
use Rattle.command_line.proofs.parse.tst_word.Goals as goal

no_digits : (rows : List Row)
    → ((n : ℕ) → StatesNumber rows (codes "digits") n → 0 ≤ n → n ≤ 6 → ⊥) → IsUnasked (codes "tst") rows
no_digits rows none (Tst words) asked = none words.digits asked.1.digits (omega arith) words.fraction
no_digits rows none word asked = grind arith

pub returns-in_err-digits-clause-none : goal.returns-in_err-digits-clause-none
returns-in_err-digits-clause-none c = λ _. no_digits _ (c.number-2.ensures.none (rw c.in_err-digits.was refl))

no_accuracy : (rows : List Row)
    → ((n : ℕ) → StatesNumber rows (codes "accuracy") n → 1 ≤ n → n ≤ 1000000 → ⊥) → IsUnasked (codes "tst") rows
no_accuracy rows none word asked = grind arith

pub returns-in_err-accuracy-clause-none : goal.returns-in_err-accuracy-clause-none
returns-in_err-accuracy-clause-none c = λ _. no_accuracy _ (c.number-4.ensures.none (rw c.in_err-accuracy.was refl))
