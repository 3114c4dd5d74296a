-- Who keeps the tables of one history keeps those of each that shows the same.
use Rattle.book.specs.Shows.{ShowsSame}
use Rattle.store.proofs.Words.{Account, BaseValue, Ghosts, Group, History, IsPermutation, IsPermutation-refl, IsSound}
use Rattle.store.proofs.Words.{Keeps, List, Name, ReservationValue, TallyRow, [], ap, calibration_row, count_by, day_of}
use Rattle.store.proofs.Words.{hold_row, is_of_day, map, refl, reservations, rows_of, stamp_of, stamps, subst, sym}
use Rattle.store.proofs.Words.{the_version, token_of, ℕ, ◌∙◌, ◌∷◌, ◌≡◌}
use Rattle.store.proofs.Readers.{group_readers_are, group_readers_once, once_same, readers_are, readers_once}
use Rattle.store.proofs.{Readers.stands_reordered, Replayed.replayed_is}
use Rattle.store.specs.TablesOf.{firsts, numbered, tables_of, tally_of}
use Rattle.store.specs.auxiliary.Replay.{replayed}
use Rattle.tables.specs.Names as name

mapped_same : {X Y : Type 0} (f g : X → Y) → ((x : X) → f x ≡ g x) → (xs : List X) → map f xs ≡ map g xs
mapped_same f g same [] = refl
mapped_same f g same (x ∷ xs) = ap (λ y. y ∷ map f xs) (same x) ∙ ap (λ ys. g x ∷ ys) (mapped_same f g same xs)

stamps_same : (b d : History) → reservations b ≡ reservations d
    → ((serial : ℕ) → token_of serial b ≡ token_of serial d) → stamps b ≡ stamps d
stamps_same b d same tokens =
    mapped_same (λ r. stamp_of (token_of r.serial b) r) (λ r. stamp_of (token_of r.serial d) r)
    (λ r. ap (λ token. stamp_of token r) (tokens r.serial)) (reservations b)
    ∙ ap (map (λ r. stamp_of (token_of r.serial d) r)) same

tallies_same : (b d : History) → reservations b ≡ reservations d
    → map (tally_of b) (firsts (reservations b)) ≡ map (tally_of d) (firsts (reservations d))
tallies_same b d same =
    let of : List ReservationValue → List TallyRow =
    λ rs. map (λ r. record {
      account = r.account;
      day = day_of r.gen_time;
      count = count_by (is_of_day r.account (day_of r.gen_time)) rs;
    }) (firsts rs) in
    ap of same

equal_rows : {X : Type 0} (xs ys : List X) → xs ≡ ys → IsPermutation xs ys
equal_rows xs ys same = subst (λ zs. IsPermutation xs zs) same (IsPermutation-refl xs)

module _ (b d : History) (s : ShowsSame b d) where
  readers_same : IsPermutation (replayed b).readers (replayed d).readers
  readers_same = once_same (replayed b).readers (replayed d).readers (readers_once b) (readers_once d)
      (λ n a. readers_are b n a ∙ s.readers n (Account a) ∙ sym (readers_are d n a))

  group_readers_same : IsPermutation (replayed b).group_readers (replayed d).group_readers
  group_readers_same =
      once_same (replayed b).group_readers (replayed d).group_readers (group_readers_once b) (group_readers_once d)
      (λ n a. group_readers_are b n a ∙ s.readers n (Group a) ∙ sym (group_readers_are d n a))

  tables_same : IsSound b → IsSound d → (n : Name)
      → IsPermutation (rows_of the_version n (tables_of b)) (rows_of the_version n (tables_of d))
  tables_same sb sd name.Meta = IsPermutation-refl _
  tables_same sb sd name.Stamp = equal_rows _ _ (stamps_same b d s.reserved s.tokens)
  tables_same sb sd name.Calibration = equal_rows _ _ (ap (numbered calibration_row) s.calibrated)
  tables_same sb sd name.Hold = equal_rows _ _ (ap (numbered hold_row) s.held)
  tables_same sb sd name.Deposit = equal_rows _ _ s.deposited
  tables_same sb sd name.Reader =
      subst (λ t. IsPermutation t.readers (tables_of d).readers) (replayed_is b sb)
      (subst (λ t. IsPermutation (replayed b).readers t.readers) (replayed_is d sd) readers_same)
  tables_same sb sd name.Tally = equal_rows _ _ (tallies_same b d s.reserved)
  tables_same sb sd name.GroupReader =
      subst (λ t. IsPermutation t.group_readers (tables_of d).group_readers) (replayed_is b sb)
      (subst (λ t. IsPermutation (replayed b).group_readers t.group_readers) (replayed_is d sd) group_readers_same)
  tables_same sb sd name.Identity = equal_rows _ _ s.installed

shows_sym : (b d : History) → ShowsSame b d → ShowsSame d b
shows_sym b d s = record {
  reserved = sym s.reserved;
  tokens = λ serial. sym (s.tokens serial);
  calibrated = sym s.calibrated;
  held = sym s.held;
  deposited = sym s.deposited;
  readers = λ number reader. sym (s.readers number reader);
  installed = sym s.installed;
}

pub keeps_shown : {S : Type 0} (g : Ghosts S) (store : BaseValue S) (b d : History) → IsSound b → IsSound d
    → ShowsSame b d → Keeps g (tables_of b) store → Keeps g (tables_of d) store
keeps_shown g store b d sb sd s kept honest is_open =
    stands_reordered (tables_of d) (tables_of b) _ (tables_same d b (shows_sym b d s) sd sb)
    (tallies_same b d s.reserved) (kept honest is_open)
