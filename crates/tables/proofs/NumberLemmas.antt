-- The greatest number of a table's rows, as a query inside a transaction tells it, and a step that takes it.
use Rattle.std.specs.{Prelude.Contains, List.slice_get}
use Rattle.tables.proofs.Words.{Err, Error, Has, HasCleanDisk, IfOk, Int, List, None, Ok, Option, Result, Row, Some}
use Rattle.tables.proofs.Words.{State, Trees, [], ap, arith, column, contains_had, get_or, has_contained, inl, inr}
use Rattle.tables.proofs.Words.{length, pos, refl, sym, unwrap_or, ℕ, ◌<◌, ◌∙◌, ◌∷◌, ◌≡◌, ◌≤◌}
use Rattle.tables.proofs.{CountLemmas.chained, CountLemmas.reworded, LookupLemmas.FindsGreatest}
use Rattle.tables.specs.Layout.{Holds, IsDatabaseOf}
use Rattle.tables.specs.QueryAnswers.{IsReadAs, TellsNumber, TellsRows}
use Rattle.tables.specs.{Changes.greatest_by, Found.IsGreatestAs, Tables.Tables, Transaction.Carries}

-- ---- what an answer begins with

pub first_is : {A : Type 0} (xs : List A) (x : A) → 0 < length xs → x ≡ get_or xs 0 x → slice_get xs 0 ≡ Some x
first_is [] x some is = absurd (omega arith)
first_is (y ∷ ys) x some is = ap Some (sym is)

pub none_is : {A : Type 0} (xs : List A) → length xs ≡ 0 → slice_get xs 0 ≡ None
none_is [] none = refl
none_is (y ∷ ys) none = absurd (omega arith)

pub nothing_told : (sql : List ℕ) (db : Trees) (rows : List Row) → TellsRows sql [] db rows
    → slice_get rows 0 ≡ None → TellsNumber sql db 0
nothing_told sql db rows told none = (None, (None, (rows, told, none), refl), refl)

pub number_told : {E : Type 0} (sql : List ℕ) (db : Trees) (rows : List Row) (row : Row) (r : Result ℕ E)
    → TellsRows sql [] db rows → slice_get rows 0 ≡ Some row → IfOk r (λ n. column row 0 ≡ Int (pos n))
    → IfOk r (TellsNumber sql db)
number_told sql db rows row (Ok n) told first read = (Some n, (Some row, (rows, told, first), (n, refl, read)), refl)
number_told sql db rows row (Err e) told first read = tt

-- ---- the greatest

module _ {X : Type 0} (key : X → ℕ) where
  at_least : (xs : List X) (x : X) → Has xs x → key x ≤ greatest_by key xs
  at_least [] x there = absurd there
  at_least (y ∷ xs) x (inl same) = let first : key x ≡ key y = ap key same in omega arith
  at_least (y ∷ xs) x (inr there) = let rest = at_least xs x there in omega arith

  at_most : (xs : List X) (bound : ℕ) → ((x : X) → Has xs x → key x ≤ bound) → greatest_by key xs ≤ bound
  at_most [] bound each = omega arith
  at_most (y ∷ xs) bound each =
      let first : key y ≤ bound = each y (inl refl) in
      let rest : greatest_by key xs ≤ bound = at_most xs bound (λ x there. each x (inr there)) in
      omega arith

  none_greatest : (xs : List X) → ((x : X) → Contains xs x → ⊥) → greatest_by key xs ≡ 0
  none_greatest [] none = refl
  none_greatest (x ∷ xs) none = absurd (none x (contains_had (x ∷ xs) x (inl refl)))

  -- the number that an answer of the rows in falling order begins with
  pub number_is : (image : X → Row) → ((x : X) → column (image x) 0 ≡ Int (pos (key x)))
      → (sql : List ℕ) (rows : Tables → List X) → FindsGreatest sql [] rows image key
      → (t : Tables) (db : Trees) (n : ℕ) → Holds t db → TellsNumber sql db n → n ≡ greatest_by key (rows t)
  number_is image shows sql rows finds t db n h (found, (row, told, read), is) =
      go (rows t) row found (finds.found t db row h told) read is
    where
      go : (xs : List X) (row : Option Row) (found : Option ℕ) → IsGreatestAs (λ x r. r ≡ image x) key xs row
          → IsReadAs (λ row m. column row 0 ≡ Int (pos m)) row found → n ≡ unwrap_or found 0 → n ≡ greatest_by key xs
      go xs None found none read is = is ∙ ap (λ f. unwrap_or f 0) read ∙ sym (none_greatest xs none)
      go xs (Some row) found (x, there, most, shown) (m, same, reads) is =
          let number : Int (pos m) ≡ Int (pos (key x)) = sym reads ∙ ap (λ r. column r 0) shown ∙ shows x in
          let known : n ≡ key x = is ∙ ap (λ f. unwrap_or f 0) same ∙ cc in
          let low = at_least xs x (has_contained xs x there) in
          let high = at_most xs (key x) (λ y has. most y (contains_had xs y has)) in
          omega arith

-- ---- a step that takes a number of the tables, which was asked before

pub numbered : {X : Type 0} (step : ℕ → Tables → Tables) (number : Tables → ℕ) (a b c : State) (n : ℕ)
    (result : Result X Error) → Carries (λ t. t) a b (Ok n)
    → (HasCleanDisk b → (t : Tables) → IsDatabaseOf t a.now → n ≡ number t) → Carries (step n) b c result
    → Carries (λ t. step (number t) t) a c result
numbered step number a b c n result asked is then =
    reworded (step n) (λ t. step (number t) t) a c result
    (chained (λ t. t) (step n) a b c n result asked then)
    (λ clean inside t d. let early : HasCleanDisk b = omega (arith, then.survives.clean) in
    ap (λ m. step m t) (is early t d.database))
