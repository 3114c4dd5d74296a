-- The identities of the tables are the history's, numbered in the order of their entries.
use Rattle.store.proofs.Words.{AllByRecursion, History, Installed, InstalledRow, InstalledValue, IsSound, List, Option}
use Rattle.store.proofs.Words.{ReservationValue, StampRow, [], ap, arith, greatest_by, greatest_of, greatest_serial}
use Rattle.store.proofs.Words.{installations, installed_rows, length, map, max, refl, reservations, stamp_of, suc}
use Rattle.store.proofs.Words.{token_of, ℕ, ◌+◌, ◌<◌, ◌∙◌, ◌∷◌, ◌≡◌}
use Rattle.store.proofs.{Members.IsFalling, Numbered.max_more, Stamps.stamps_are}
use Rattle.store.specs.auxiliary.Replay.{replayed}

pub length_rows : (b : History) → length (installed_rows b) ≡ length (installations b)
length_rows [] = refl
length_rows (Installed i ∷ b) = ap suc (length_rows b)
length_rows (_ ∷ b) = length_rows b

greatest_stamped : (token : ReservationValue → Option (List ℕ)) (rs : List ReservationValue)
    → greatest_by (λ (row : StampRow). row.serial) (map (λ r. stamp_of (token r) r) rs) ≡ greatest_of rs
greatest_stamped token [] = refl
greatest_stamped token (r ∷ rs) = ap (max r.serial) (greatest_stamped token rs)

greatest_is : (b : History) → IsSound b → greatest_by (λ (row : StampRow). row.serial) (replayed b).stamps ≡ greatest_serial b
greatest_is b s = ap (greatest_by (λ (row : StampRow). row.serial)) (stamps_are b s) ∙ greatest_stamped (λ r. token_of r.serial b) (reservations b)

-- so the greatest of their numbers is how many there are
greatest_installed : (b : History) → greatest_by (λ (row : InstalledRow). row.number) (installed_rows b)
    ≡ length (installations b)
greatest_installed [] = refl
greatest_installed (Installed i ∷ b) =
    ap (max (length (installations b) + 1)) (greatest_installed b) ∙ max_more (length (installations b))
greatest_installed (_ ∷ b) = greatest_installed b

abbrev row_with : InstalledValue → ℕ → ℕ → InstalledRow
row_with i number after_serial = record {
  number = number;
  after_serial = after_serial;
  certificate = i.certificate;
  chain = i.chain;
}

pub identities_are : (b : History) → IsSound b → (replayed b).identities ≡ installed_rows b
identities_are [] s = refl
identities_are (Installed i ∷ b) s =
    let rest = identities_are b s.1 in
    let rows = (replayed b).identities in
    let next : greatest_by (λ (row : InstalledRow). row.number) rows ≡ length (installations b) =
    ap (greatest_by (λ (row : InstalledRow). row.number)) rest ∙ greatest_installed b in
    ap (λ n. row_with i (n + 1) (greatest_by (λ (row : StampRow). row.serial) (replayed b).stamps) ∷ rows) next
    ∙ ap (λ n. row_with i (length (installations b) + 1) n ∷ rows) (greatest_is b s.1)
    ∙ ap (λ rows. row_with i (length (installations b) + 1) (greatest_serial b) ∷ rows) rest
identities_are (_ ∷ b) s = identities_are b s.1

below : (b : History) (n : ℕ) → length (installations b) < n → AllByRecursion (λ row. row.number < n) (installed_rows b)
below [] n l = tt
below (Installed i ∷ b) n l = (omega (arith, l), below b n (omega (arith, l)))
below (_ ∷ b) n l = below b n l

pub rows_fall : (b : History) → IsFalling (λ (row : InstalledRow). row.number) (installed_rows b)
rows_fall [] = tt
rows_fall (Installed i ∷ b) = (below b (length (installations b) + 1) (omega arith), rows_fall b)
rows_fall (_ ∷ b) = rows_fall b
