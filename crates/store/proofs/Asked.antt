-- Whether an account reads a deposit, asked of its own name and of each of its groups in turn.
use Rattle.store.proofs.Words.{Account, BaseValue, Bool, Ghosts, Group, History, IsHonest, IsOpen, List, OnlyLooks}
use Rattle.store.proofs.Words.{Stands, Viewer, false, is_reader, list_any, map, may_read, refl, sym, true, ℕ, ◌∙◌, ◌∷◌}
use Rattle.store.proofs.{Words.◌≡◌, Walk.looks_after}
use Rattle.store.specs.Stands.{over_tables}

abbrev any_of : ℕ → List (List ℕ) → History → Bool
any_of number names b = list_any (λ reader. is_reader number reader b) (map Group names)

-- nobody that was asked of reads it, and nothing has changed
pub record HasAsked {S : Type 0} (g : Ghosts S) (old now : BaseValue S) (number : ℕ) (viewer : Viewer)
    (left : List (List ℕ))
    : Type 0 where
  pub looks : OnlyLooks (over_tables g) old now
  pub faults : now.faults ≡ old.faults
  pub opened : IsHonest g now → IsOpen g old
  pub others : IsHonest g now → (b : History) → Stands (over_tables g) b old
      → may_read viewer number b ≡ any_of number left b

pub asked_alone : {S : Type 0} (g : Ghosts S) (old now : BaseValue S) (number : ℕ) (viewer : Viewer) (reads : Bool)
    → OnlyLooks (over_tables g) old now → now.faults ≡ old.faults → (IsHonest g now → IsOpen g old) → reads ≡ false
    → (IsHonest g now → (b : History) → Stands (over_tables g) b old
    → reads ≡ is_reader number (Account viewer.name) b)
    → HasAsked g old now number viewer viewer.groups
asked_alone g old now number viewer reads looks faults is_open false_is value = record {
  looks = looks;
  faults = faults;
  opened = is_open;
  others = λ h b s.
      let alone : is_reader number (Account viewer.name) b ≡ false = sym (value h b s) ∙ false_is in rw alone refl;
}

pub asked_more : {S : Type 0} (g : Ghosts S) (old now new : BaseValue S) (number : ℕ) (viewer : Viewer)
    (name : List ℕ) (names : List (List ℕ)) (reads : Bool)
    → HasAsked g old now number viewer (name ∷ names)
    → OnlyLooks (over_tables g) now new → new.faults ≡ now.faults → reads ≡ false
    → (IsHonest g new → (b : History) → Stands (over_tables g) b now → reads ≡ is_reader number (Group name) b)
    → HasAsked g old new number viewer names
asked_more g old now new number viewer name names reads before looks faults false_is value = record {
  looks = looks_after g old now new before.looks looks;
  faults = faults ∙ before.faults;
  opened = λ h. before.opened (looks.honest h);
  others = λ h b s.
      let this : is_reader number (Group name) b ≡ false = sym (value h b (before.looks.stands b s)) ∙ false_is in
      before.others (looks.honest h) b s ∙ rw this refl;
}

-- the account itself reads it
pub found_alone : (number : ℕ) (viewer : Viewer) (reads : Bool) (b : History) → reads ≡ true
    → reads ≡ is_reader number (Account viewer.name) b → true ≡ may_read viewer number b
found_alone number viewer reads b true_is value =
    let this : is_reader number (Account viewer.name) b ≡ true = sym value ∙ true_is in sym (rw this refl)
