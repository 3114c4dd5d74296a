-- Statements in turn, and the tally of a stamp.
use Rattle.tables.proofs.Words.{Bool, Database, Err, Error, HasCleanDisk, IsTrue, KeepsCommit, List, Ok, OnOk, Result}
use Rattle.tables.proofs.Words.{State, [], ap, arith, cond, false, filter, length, list_any, map, refl, subst}
use Rattle.tables.proofs.Words.{survives_then, sym, true, ℕ, ◌+◌, ◌||◌, ◌∙◌, ◌∷◌, ◌≡◌, ◌≢◌}
use Rattle.tables.proofs.ListLemmas.{none_any, some_any}
use Rattle.tables.specs.Transaction.{Carries, CarriesFrom, Goes, GoesFrom, IsSoundOf}
use Rattle.tables.specs.auxiliary.Steps.{with_count, with_first_tally, with_raised}
use Rattle.tables.specs.{Layout.IsDatabaseOf, Tables.Tables, Tables.TallyRow, Tables.is_tally_of, Tables.raised_row}

pub keeps_then : (a b c : State) → KeepsCommit a b → KeepsCommit b c → KeepsCommit a c
keeps_then a b c p q =
    record { was_open = λ o. p.was_open (q.was_open o); committed = λ o. q.committed o ∙ p.committed (q.was_open o) }

-- a step from what is known of a database, and then another of the tables that it made
pub built_on : {X Y : Type 0} {Before : Tables → Database → Type 0} {K L : Type 0} (f h : Tables → Tables)
    (a b c : State) (x : X) (result : Result Y Error)
    → CarriesFrom Before K f a b (Ok x) → Carries h b c result → CarriesFrom Before L (λ t. h (f t)) a c result
built_on {X} {Y} {Before} {K} {L} f h a b c x result p q = record {
  survives = survives_then a b c (λ _. ⊥) (λ _. ⊥) (λ _. ⊥) (λ _ db none. none) (λ _ db none. none) p.survives
      q.survives;
  kept = λ clean inside. let early = clean_before clean in let one = p.ok early inside in
      keeps_then a b c (p.kept early inside) (q.kept clean one.inside);
  ok = λ clean inside. let early = clean_before clean in let one = p.ok early inside in
      both (p.kept early inside) one result (q.ok clean one.inside);
}
  where
    clean_before : HasCleanDisk c → HasCleanDisk b
    clean_before clean = omega (arith, q.survives.clean)

    both : KeepsCommit a b → GoesFrom Before K f a b → (r : Result Y Error) → OnOk r (Goes h b c)
        → OnOk r (GoesFrom Before L (λ t. h (f t)) a c)
    both kept one (Err e) two = tt
    both kept one (Ok y) two = record {
      was_open = λ known. kept.was_open (two.was_open tt);
      inside = two.inside;
      goes = λ t d. two.goes (f t) (record { database = one.goes t d; sound = one.sound t d });
      sound = λ t d. two.sound (f t) (record { database = one.goes t d; sound = one.sound t d });
    }

-- one step, whatever is known by it, and then another
pub chained : {X Y : Type 0} {K : Type 0} (f h : Tables → Tables) (a b c : State) (x : X) (result : Result Y Error)
    → CarriesFrom IsSoundOf K f a b (Ok x) → Carries h b c result → Carries (λ t. h (f t)) a c result
chained = built_on

-- the same step in other words, of what is known by it or less
pub restated : {X : Type 0} {K L : Type 0} (f h : Tables → Tables) (a b : State) (result : Result X Error) → (L → K)
    → CarriesFrom IsSoundOf K f a b result
    → (HasCleanDisk b → IsTrue a.in_transaction → (t : Tables) → IsSoundOf t a.now → f t ≡ h t)
    → CarriesFrom IsSoundOf L h a b result
restated {X} {K} {L} f h a b result less p same =
    record {
      survives = p.survives;
      kept = p.kept;
      ok = λ clean inside. go result (same clean inside) (p.ok clean inside);
    }
  where
    go : (r : Result X Error) → ((t : Tables) → IsSoundOf t a.now → f t ≡ h t) → OnOk r (GoesFrom IsSoundOf K f a b)
        → OnOk r (GoesFrom IsSoundOf L h a b)
    go (Err e) is one = tt
    go (Ok y) is one = record {
      was_open = λ known. one.was_open (less known);
      inside = one.inside;
      goes = λ t d. subst (λ s. IsDatabaseOf s b.now) (is t d) (one.goes t d);
      sound = one.sound;
    }

pub reworded : {X : Type 0} (f h : Tables → Tables) (a b : State) (result : Result X Error) → Carries f a b result
    → (HasCleanDisk b → IsTrue a.in_transaction → (t : Tables) → IsSoundOf t a.now → f t ≡ h t)
    → Carries h a b result
reworded f h a b result p same = restated f h a b result (λ known. known) p same

unraised : (account : List ℕ) (day : ℕ) (xs : List TallyRow) → list_any (is_tally_of account day) xs ≡ false
    → map (raised_row account day) xs ≡ xs
unraised account day [] none = refl
unraised account day (x ∷ xs) none = go (is_tally_of account day x) refl none (unraised account day xs)
  where
    go : (b : Bool) → is_tally_of account day x ≡ b → (b || list_any (is_tally_of account day) xs) ≡ false
        → (list_any (is_tally_of account day) xs ≡ false → map (raised_row account day) xs ≡ xs)
        → cond b (record x { count = x.count + 1 }) x ∷ map (raised_row account day) xs ≡ x ∷ xs
    go true is h later = absurd (cc)
    go false is h later = ap (λ l. x ∷ l) (later h)

module _ (account : List ℕ) (day : ℕ) (a b : State) (count : ℕ)
    (raised : Carries (with_raised account day) a b (Ok count))
    (counts : HasCleanDisk b → IsTrue a.in_transaction → (t : Tables) → IsDatabaseOf t a.now → count
    ≡ length (filter (is_tally_of account day) t.tallies)) where
  pub counted_first : (c : State) (result : Result ℕ Error) → count ≡ 0
      → Carries (with_first_tally account day) b c result → Carries (with_count account day) a c result
  counted_first c result none first =
      reworded (λ t. with_first_tally account day (with_raised account day t)) (with_count account day) a c result
      (chained (with_raised account day) (with_first_tally account day) a b c count result raised first)
      (λ clean inside t d.
      let early : HasCleanDisk b = omega (arith, first.survives.clean) in
      let absent = none_any (is_tally_of account day) t.tallies (sym (counts early inside t d.database) ∙ none) in
      ap (λ (l : List TallyRow). let u : Tables = record t { tallies = l } in
      u) (ap (λ l. record { account = account; day = day; count = 1 } ∷ l) (unraised account day t.tallies absent)
      ∙ sym (ap (λ v. cond v (map (raised_row account day) t.tallies)
      (record { account = account; day = day; count = 1 } ∷ t.tallies)) absent)))

  pub counted_more : count ≢ 0 → Carries (with_count account day) a b (Ok count)
  counted_more some =
      reworded (with_raised account day) (with_count account day) a b (Ok count) raised
      (λ clean inside t d.
      let present = some_any (is_tally_of account day) t.tallies (λ e. some (counts clean inside t d.database ∙ e)) in
      ap (λ (l : List TallyRow). let u : Tables = record t { tallies = l } in u)
      (sym (ap (λ v. cond v (map (raised_row account day) t.tallies) (record { account = account; day = day; count = 1 }
      ∷ t.tallies)) present)))
