-- The walk of a list, one visible deposit after the other.
use Rattle.book.specs.declared.values.Listed.{Listed}
use Rattle.store.proofs.Words.{Account, BaseValue, Ghosts, Group, History, IsHonest, IsOpen, List, ListedValue, None}
use Rattle.store.proofs.Words.{OnlyLooks, Option, Reader, Some, Stands, Viewer, [], ap, arith, get_or, get_or-replicate}
use Rattle.store.proofs.Words.{length, length-replicate, listed, listed_view, option_map, option_to_list, refl}
use Rattle.store.proofs.Words.{replicate, sym, unwrap_or, ℕ, ◌++◌, ◌<◌, ◌∙◌, ◌≡◌}
use Rattle.store.proofs.Lists.{all_listed, listed_up_to, next_listed, still_cursors}
use Rattle.store.specs.auxiliary.Steps.{AreCursors, AreNextReadable, AreOwned, IsCursor, IsNextSeen, listing_at}
use Rattle.store.specs.{Stands.over_tables, declared.cursors.Cursors.Cursors, declared.labels.Owned.Owned}

pub looks_after : {S : Type 0} (g : Ghosts S) (old mid new : BaseValue S) → OnlyLooks (over_tables g) old mid
    → OnlyLooks (over_tables g) mid new
    → OnlyLooks (over_tables g) old new
looks_after g old mid new first second = record {
  honest = λ h. first.honest (second.honest h);
  stands = λ b s. second.stands b (first.stands b s);
  leaves = λ h db r. first.leaves (second.honest h) db (second.leaves h db r);
}

-- the rows are what is listed up to a number, the cursors are known, and nothing has changed
pub record HasListed {S : Type 0} (g : Ghosts S) (old now : BaseValue S) (viewer : Viewer) (rows : List ListedValue)
    (last : ℕ) (cursors : Cursors) (known : List Owned)
    : Type 0 where
  pub looks : OnlyLooks (over_tables g) old now
  pub faults : now.faults ≡ old.faults
  pub opened : IsHonest g now → IsOpen g old
  pub sized : length cursors.shared.items ≡ length viewer.groups
  pub listed : IsHonest g now → (b : History) → Stands (over_tables g) b old → rows ≡ listed_up_to viewer b last
  pub ahead : IsHonest g now → (b : History) → Stands (over_tables g) b old
      → AreCursors viewer last b cursors.own cursors.shared.items
  pub owned : IsHonest g now → (b : History) → Stands (over_tables g) b old → AreOwned b known

-- at the beginning no cursor is after 0
abbrev pub at_first : Option ℕ
at_first = Some 0

not_after : (reader : Reader) (b : History) (found : Option ℕ) → found ≡ at_first → IsCursor reader 0 b found
not_after reader b None same above = absurd cc
not_after reader b (Some n) same above =
    let zero_is : n ≡ 0 = ap (λ o. unwrap_or o 0) same in absurd (omega (arith, above, zero_is))

pub sized_at_first : (viewer : Viewer) (cursors : Cursors)
    → cursors.shared.items ≡ replicate (length viewer.groups) at_first
    → length cursors.shared.items ≡ length viewer.groups
sized_at_first viewer cursors shared = ap length shared ∙ length-replicate (length viewer.groups) at_first

pub ahead_at_first : (viewer : Viewer) (cursors : Cursors) → cursors.own ≡ at_first
    → cursors.shared.items ≡ replicate (length viewer.groups) at_first
    → (b : History) → AreCursors viewer 0 b cursors.own cursors.shared.items
ahead_at_first viewer cursors own shared b = (
  not_after (Account viewer.name) b cursors.own own,
  λ k within. not_after (Group (get_or viewer.groups k [])) b (get_or cursors.shared.items k None)
      (ap (λ l. get_or l k None) shared ∙ get_or-replicate (length viewer.groups) k at_first None within),
)

pub nothing_listed : {S : Type 0} (g : Ghosts S) (old now : BaseValue S) (viewer : Viewer) (cursors : Cursors)
    (known : List Owned) → OnlyLooks (over_tables g) old now → now.faults ≡ old.faults
    → (IsHonest g now → IsOpen g old) → length cursors.shared.items ≡ length viewer.groups
    → ((b : History) → AreCursors viewer 0 b cursors.own cursors.shared.items)
    → (IsHonest g now → (b : History) → Stands (over_tables g) b old → AreOwned b known)
    → HasListed g old now viewer [] 0 cursors known
nothing_listed g old now viewer cursors known looks faults opened sized ahead owned = record {
  looks = looks;
  faults = faults;
  opened = opened;
  sized = sized;
  listed = λ h b s. refl;
  ahead = λ h b s. ahead b;
  owned = owned;
}

-- what one deposit adds
pub row_listed : {S : Type 0} (g : Ghosts S) (old now seen new : BaseValue S) (viewer : Viewer)
    (rows : List ListedValue) (last number : ℕ) (before after : Cursors) (known more most : List Owned)
    (row : Option Listed)
    → HasListed g old now viewer rows last before known
    → OnlyLooks (over_tables g) now seen → OnlyLooks (over_tables g) seen new
    → seen.faults ≡ now.faults → new.faults ≡ seen.faults
    → last < number → length after.shared.items ≡ length before.shared.items
    → (IsHonest g seen → (b : History) → Stands (over_tables g) b now
    → AreCursors viewer last b before.own before.shared.items → AreOwned b known
    → IsNextSeen viewer last b (Some number) × AreNextReadable viewer last b after.own after.shared.items)
    → (IsHonest g seen → (b : History) → Stands (over_tables g) b now → AreOwned b known → AreOwned b more)
    → (IsHonest g new → (b : History) → Stands (over_tables g) b seen → AreOwned b more
    → option_map listed_view row ≡ listing_at number b)
    → (IsHonest g new → (b : History) → Stands (over_tables g) b seen → AreOwned b more → AreOwned b most)
    → HasListed g old new viewer (rows ++ option_to_list (option_map listed_view row)) number after most
row_listed g old now seen new viewer rows last number before after known more most row listed first second same still
    rises sized found learnt shows kept = record {
      looks = looks_after g old seen new (looks_after g old now seen listed.looks first) second;
      faults = still ∙ same ∙ listed.faults;
      opened = λ h. listed.opened (first.honest (second.honest h));
      sized = sized ∙ listed.sized;
      listed = λ h b s.
          (let at_seen = second.honest h in
          let at_now = first.honest at_seen in
          let stood = listed.looks.stands b s in
          let owned = listed.owned at_now b s in
          let here = shows h b (first.stands b stood) (learnt at_seen b stood owned) in
          let step = next_listed viewer b last number (found at_seen b stood (listed.ahead at_now b s) owned).0 in
          ap (λ l. l ++ option_to_list (option_map listed_view row)) (listed.listed at_now b s)
          ∙ ap (λ o. listed_up_to viewer b last ++ option_to_list o) here ∙ sym step);
      ahead = λ h b s.
          (let at_seen = second.honest h in
          let at_now = first.honest at_seen in
          let stood = listed.looks.stands b s in
          still_cursors b viewer last number after.own after.shared.items rises
          (found at_seen b stood (listed.ahead at_now b s) (listed.owned at_now b s)).1);
      owned = λ h b s.
          (let at_seen = second.honest h in
          let stood = listed.looks.stands b s in
          kept h b (first.stands b stood) (learnt at_seen b stood (listed.owned (first.honest at_seen) b s)));
    }

-- where none is seen any more, all is listed
pub whole_listed : {S : Type 0} (g : Ghosts S) (old now seen : BaseValue S) (viewer : Viewer)
    (rows : List ListedValue) (last : ℕ) (cursors : Cursors) (known : List Owned)
    → HasListed g old now viewer rows last cursors known → OnlyLooks (over_tables g) now seen
    → (IsHonest g seen → (b : History) → Stands (over_tables g) b now
    → AreCursors viewer last b cursors.own cursors.shared.items → AreOwned b known → IsNextSeen viewer last b None)
    → IsHonest g seen → (b : History) → Stands (over_tables g) b old → rows ≡ listed viewer b
whole_listed g old now seen viewer rows last cursors known before first none h b s =
    let at_now = first.honest h in
    before.listed at_now b s ∙ all_listed viewer b last s.sound
    (none h b (before.looks.stands b s) (before.ahead at_now b s) (before.owned at_now b s))
