-- The cursors of a list move on, one after the other.
use Rattle.store.proofs.Words.{Account, BaseValue, Ghosts, Group, History, IsHonest, List, None, OnlyLooks, Option}
use Rattle.store.proofs.Words.{Stands, Viewer, [], arith, cases_Bool, get_or, get_or-set_other, get_or-set_same, inl}
use Rattle.store.proofs.Words.{inr, length, length-set, ltb-false, ltb-true, nat_lt, refl, set, subst, suc, sym, zero}
use Rattle.store.proofs.Words.{ℕ, ◌+◌, ◌<◌, ◌∙◌, ◌∷◌, ◌≡◌, ◌≢◌, ◌≤◌, ◌⊎◌}
use Rattle.store.proofs.Walk.{looks_after}
use Rattle.store.specs.Stands.{over_tables}
use Rattle.store.specs.auxiliary.Steps.{AreCursors, AreNextReadable, IsCursor, IsNextReadable}

-- those below an index have moved, the others are as they were, and nothing else has changed
pub record HasMoved {S : Type 0} (g : Ghosts S) (old now : BaseValue S) (viewer : Viewer) (after : ℕ)
    (own_before : Option ℕ) (before : List (Option ℕ)) (own : Option ℕ) (shared : List (Option ℕ)) (index : ℕ)
    : Type 0 where
  pub looks : OnlyLooks (over_tables g) old now
  pub faults : now.faults ≡ old.faults
  pub sized : length shared ≡ length before
  pub alone : IsHonest g now → (b : History) → Stands (over_tables g) b old
      → AreCursors viewer after b own_before before → IsNextReadable (Account viewer.name) after b own
  pub moved : IsHonest g now → (b : History) → Stands (over_tables g) b old
      → AreCursors viewer after b own_before before
      → (k : ℕ) → k < index → IsNextReadable (Group (get_or viewer.groups k [])) after b (get_or shared k None)
  pub others : (k : ℕ) → index ≤ k → get_or shared k None ≡ get_or before k None

pub moved_own : {S : Type 0} (g : Ghosts S) (old now : BaseValue S) (viewer : Viewer) (after : ℕ)
    (own_before : Option ℕ) (before : List (Option ℕ)) (own : Option ℕ)
    → OnlyLooks (over_tables g) old now → now.faults ≡ old.faults
    → (IsHonest g now → (b : History) → Stands (over_tables g) b old
    → IsCursor (Account viewer.name) after b own_before → IsNextReadable (Account viewer.name) after b own)
    → HasMoved g old now viewer after own_before before own before 0
moved_own g old now viewer after own_before before own looks faults value = record {
  looks = looks;
  faults = faults;
  sized = refl;
  alone = λ h b s known. value h b s known.0;
  moved = λ h b s known k below. absurd (omega (arith, below));
  others = λ k above. refl;
}

-- what stands past the end says nothing of what is within
pub any_default : {X : Type 0} (xs : List X) (i : ℕ) (d e : X) → i < length xs → get_or xs i d ≡ get_or xs i e
any_default [] i d e within = absurd (omega (arith, within))
any_default (x ∷ xs) zero d e within = refl
any_default (x ∷ xs) (suc i) d e within = any_default xs i d e (omega (arith, within))

-- below one more is below, or at it
below_or_at : (k index : ℕ) → k < index + 1 → (k < index) ⊎ (k ≡ index)
below_or_at k index below =
    elim (cases_Bool (nat_lt k index)) [
      | inl t ↦ inl (ltb-true k index t)
      | inr f ↦ (let not_less = ltb-false k index f in inr (omega (arith, below, not_less)))
    ]

pub moved_more : {S : Type 0} (g : Ghosts S) (old now new : BaseValue S) (viewer : Viewer) (after : ℕ)
    (own_before : Option ℕ) (before : List (Option ℕ)) (own : Option ℕ) (shared : List (Option ℕ)) (index : ℕ)
    (found next : Option ℕ) (name : List ℕ)
    → HasMoved g old now viewer after own_before before own shared index
    → index < length viewer.groups → length before ≡ length viewer.groups
    → name ≡ get_or viewer.groups index [] → found ≡ get_or shared index None
    → OnlyLooks (over_tables g) now new → new.faults ≡ now.faults
    → (IsHonest g new → (b : History) → Stands (over_tables g) b now
    → IsCursor (Group name) after b found → IsNextReadable (Group name) after b next)
    → HasMoved g old new viewer after own_before before own (set shared index next) (index + 1)
moved_more g old now new viewer after own_before before own shared index found next name moved within sized is at looks
    faults value = record {
      looks = looks_after g old now new moved.looks looks;
      faults = faults ∙ moved.faults;
      sized = length-set shared index next ∙ moved.sized;
      alone = λ h b s known. moved.alone (looks.honest h) b s known;
      moved = λ h b s known k below. elim (below_or_at k index below) [
        | inl less ↦
            (let apart : k ≢ index = λ e. absurd (omega (arith, less, e)) in
            let same : get_or (set shared index next) k None ≡ get_or shared k None =
            get_or-set_other shared index k next None apart in
            subst (λ o. IsNextReadable (Group (get_or viewer.groups k [])) after b o) (sym same)
            (moved.moved (looks.honest h) b s known k less))
        | inr here ↦
            (let inside : index < length shared = omega (arith, within, sized, moved.sized) in
            let same : get_or (set shared index next) index None ≡ next =
            get_or-set_same shared index next None inside in
            let cursor : IsCursor (Group name) after b found =
            subst (λ a. IsCursor (Group a) after b found) (sym is)
            (subst (λ o. IsCursor (Group (get_or viewer.groups index [])) after b o)
            (sym (at ∙ moved.others index (omega arith))) (known.1 index within)) in
            let first : IsNextReadable (Group name) after b next =
            value h b (moved.looks.stands b s) cursor in
            subst (λ j. IsNextReadable (Group (get_or viewer.groups j [])) after b
            (get_or (set shared index next) j None)) (sym here)
            (subst (λ a. IsNextReadable (Group a) after b (get_or (set shared index next) index None)) is
            (subst (λ o. IsNextReadable (Group name) after b o) (sym same) first)))
      ];
      others = λ k above.
          let apart : k ≢ index = λ e. absurd (omega (arith, above, e)) in
          get_or-set_other shared index k next None apart ∙ moved.others k (omega (arith, above));
    }

-- where all have moved, each is the next
pub all_moved : {S : Type 0} (g : Ghosts S) (old now : BaseValue S) (viewer : Viewer) (after : ℕ)
    (own_before : Option ℕ) (before : List (Option ℕ)) (own : Option ℕ) (shared : List (Option ℕ)) (index : ℕ)
    → HasMoved g old now viewer after own_before before own shared index → length viewer.groups ≤ index
    → IsHonest g now → (b : History) → Stands (over_tables g) b old → AreCursors viewer after b own_before before
    → AreNextReadable viewer after b own shared
all_moved g old now viewer after own_before before own shared index moved whole h b s known =
    (moved.alone h b s known, λ k within. moved.moved h b s known k (omega (arith, within, whole)))
