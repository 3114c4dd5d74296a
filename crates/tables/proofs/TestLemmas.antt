-- What the tests of WHERE say of the cells of a row.
use Rattle.std.specs.Prelude.{bytes_eq}
use Rattle.std.proofs.lemmas.Map.Text.{is_eq-slice_cmp}
use Rattle.tables.proofs.Words.{Binary, Bool, Compare, Eq, Ge, Gt, Int, Is, Le, List, Some, Text, ap, arith, binary}
use Rattle.tables.proofs.Words.{false, from_truth, int_cmp, int_le, int_lt, is_eq, is_ge, is_gt, is_le, is_true, nat_le}
use Rattle.tables.proofs.Words.{nat_lt, nat_tests, pos, refl, true, value_cmp-Int, value_cmp-Text, ℕ, ℤ, ◌==◌, ◌∙◌, ◌≡◌}

said_truth : (b : Bool) → is_true (from_truth (Some b)) ≡ b
said_truth true = refl
said_truth false = refl

same_number : (m n : ℕ) → is_eq (int_cmp (pos m) (pos n)) ≡ (m == n)
same_number m n = grind (arith, nat_tests)

pub test_number : (m n : ℕ) → is_true (binary (Compare Eq Binary) (Int (pos m)) (Int (pos n))) ≡ (m == n)
unfolding binary
test_number m n = said_truth _ ∙ ap is_eq (value_cmp-Int (pos m) (pos n)) ∙ same_number m n

pub test_text : (a b : List ℕ) → is_true (binary (Compare Eq Binary) (Text a) (Text b)) ≡ bytes_eq a b
unfolding binary
test_text a b = said_truth _ ∙ ap is_eq (value_cmp-Text a b) ∙ is_eq-slice_cmp a b

pub test_at_most : (m n : ℤ) → is_true (binary (Compare Le Binary) (Int m) (Int n)) ≡ int_le m n
unfolding binary
test_at_most m n = said_truth _ ∙ ap is_le (value_cmp-Int m n) ∙ grind (arith)

pub test_above : (m n : ℤ) → is_true (binary (Compare Gt Binary) (Int m) (Int n)) ≡ int_lt n m
unfolding binary
test_above m n = said_truth _ ∙ ap is_gt (value_cmp-Int m n) ∙ grind (arith)

-- the same of numbers
pub test_after : (m n : ℕ) → is_true (binary (Compare Gt Binary) (Int (pos m)) (Int (pos n))) ≡ nat_lt n m
test_after m n = test_above (pos m) (pos n) ∙ grind (arith, nat_tests)

pub test_up_to : (m n : ℕ) → is_true (binary (Compare Le Binary) (Int (pos m)) (Int (pos n))) ≡ nat_le m n
test_up_to m n = test_at_most (pos m) (pos n) ∙ grind (arith, nat_tests)

pub test_from : (m n : ℕ) → is_true (binary (Compare Ge Binary) (Int (pos m)) (Int (pos n))) ≡ nat_le n m
unfolding binary
test_from m n = said_truth _ ∙ ap is_ge (value_cmp-Int (pos m) (pos n)) ∙ grind (arith, nat_tests)

pub test_is : (m n : ℕ) → is_true (binary (Is Binary) (Int (pos m)) (Int (pos n))) ≡ (m == n)
unfolding binary
test_is m n = said_truth _ ∙ ap is_eq (value_cmp-Int (pos m) (pos n)) ∙ same_number m n
