-- What a history has of a kind, such as its identities, is gathered one after the other.
use Rattle.store.proofs.Words.{BaseValue, Ghosts, History, IsHonest, IsOpen, List, None, OnlyLooks, Some, Stands, []}
use Rattle.store.proofs.Words.{ap, length, refl, slice_get, subst, suc, sym, take, zero, ℕ, ◌++◌, ◌∙◌, ◌∷◌, ◌≡◌}
use Rattle.store.proofs.{AtNumber.get_none, Walk.looks_after}
use Rattle.store.specs.Stands.{over_tables}

take_next : {X : Type 0} (xs : List X) (k : ℕ) (x : X) → slice_get xs k ≡ Some x
    → take (suc k) xs ≡ take k xs ++ x ∷ []
take_next [] k x got = absurd (let apart = sym (get_none k) ∙ got in cc)
take_next (y ∷ xs) zero x got = let same : y ≡ x = cc in ap (λ z. z ∷ []) same
take_next (y ∷ xs) (suc k) x got = ap (λ rest. y ∷ rest) (take_next xs k x got)

take_whole : {X : Type 0} (xs : List X) (k : ℕ) → slice_get xs k ≡ None → take k xs ≡ xs
take_whole [] zero none = refl
take_whole [] (suc k) none = refl
take_whole (x ∷ xs) zero none = absurd (let apart = none in cc)
take_whole (x ∷ xs) (suc k) none = ap (λ rest. x ∷ rest) (take_whole xs k none)

-- the rows are the first of all that there are, and nothing has changed
pub record HasGathered {S X : Type 0} (g : Ghosts S) (all : History → List X) (old now : BaseValue S) (rows : List X)
    : Type 0 where
  pub looks : OnlyLooks (over_tables g) old now
  pub faults : now.faults ≡ old.faults
  pub opened : IsHonest g now → IsOpen g now → IsOpen g old
  pub gathered : IsHonest g now → (b : History) → Stands (over_tables g) b old → rows ≡ take (length rows) (all b)

pub nothing_gathered : {S X : Type 0} (g : Ghosts S) (all : History → List X) (old : BaseValue S)
    → HasGathered g all old old []
nothing_gathered g all old = record {
  looks = record { honest = λ h. h; stands = λ b s. s; leaves = λ h db r. r };
  faults = refl;
  opened = λ h o. o;
  gathered = λ h b s. refl;
}

longer : {X : Type 0} (xs : List X) (y : X) → length (xs ++ y ∷ []) ≡ suc (length xs)
longer [] y = refl
longer (x ∷ xs) y = ap suc (longer xs y)

pub one_gathered : {S X : Type 0} (g : Ghosts S) (all : History → List X) (old now new : BaseValue S) (rows : List X)
    (row : X) (count : ℕ) → count ≡ length rows
    → HasGathered g all old now rows
    → OnlyLooks (over_tables g) now new → new.faults ≡ now.faults → (IsHonest g new → IsOpen g now)
    → (IsHonest g new → (b : History) → Stands (over_tables g) b now → Some row ≡ slice_get (all b) count)
    → HasGathered g all old new (rows ++ row ∷ [])
one_gathered g all old now new rows row count is before looks still is_open found = record {
  looks = looks_after g old now new before.looks looks;
  faults = still ∙ before.faults;
  opened = λ h o. before.opened (looks.honest h) (is_open h);
  gathered = λ h b s.
      let here = subst (λ k. Some row ≡ slice_get (all b) k) is (found h b (before.looks.stands b s)) in
      ap (λ l. l ++ row ∷ []) (before.gathered (looks.honest h) b s)
      ∙ sym (take_next (all b) (length rows) row (sym here))
      ∙ ap (λ k. take k (all b)) (sym (longer rows row));
}

pub all_gathered : {S X : Type 0} (g : Ghosts S) (all : History → List X) (old now new : BaseValue S) (rows : List X)
    (count : ℕ) → count ≡ length rows
    → HasGathered g all old now rows → OnlyLooks (over_tables g) now new
    → (IsHonest g new → (b : History) → Stands (over_tables g) b now → None ≡ slice_get (all b) count)
    → IsHonest g new → (b : History) → Stands (over_tables g) b old → rows ≡ all b
all_gathered g all old now new rows count is before looks none h b s =
    let here = subst (λ k. None ≡ slice_get (all b) k) is (none h b (before.looks.stands b s)) in
    before.gathered (looks.honest h) b s ∙ take_whole (all b) (length rows) (sym here)
