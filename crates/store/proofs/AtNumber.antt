-- Rows that are numbered in the order of their entries, each found by its number.
use Rattle.std.proofs.lemmas.Option.{slice_get-map}
use Rattle.book.specs.{declared.rows.IdentityRow.IdentityRow, declared.values.Hold.Hold}
use Rattle.store.proofs.Words.{CalibrationRow, CalibrationValue, Contains, History, HoldRow, HoldValue, Installed}
use Rattle.store.proofs.Words.{InstalledRow, IsFoundAs, IsSound, List, None, NumberedCalibration, Option}
use Rattle.store.proofs.Words.{ShowsCalibration, ShowsHold, ShowsIdentity, Some, [], ap, arith, calibration_row}
use Rattle.store.proofs.Words.{calibrations, eq-eqb, eqb-true, hold_row, hold_view, holds, identities, identity_view}
use Rattle.store.proofs.Words.{inl, inr, installed_rows, is_calibration, is_hold, is_identity, length, length-reverse}
use Rattle.store.proofs.Words.{map, map-append, map-id, option_map, refl, reverse, reverse-append, slice_get, subst}
use Rattle.store.proofs.Words.{suc, sym, zero, ℕ, ◌++◌, ◌+◌, ◌==◌, ◌∙◌, ◌∷◌, ◌≡◌, ◌≢◌}
use Rattle.store.proofs.Installed.{identities_are, length_rows}
use Rattle.store.proofs.Members.{member_after, member_cases, member_here, no_member}
use Rattle.store.proofs.Numbered.{calibrations_are, holds_are, unnumbered}
use Rattle.store.specs.{TablesOf.numbered, auxiliary.Replay.replayed, auxiliary.Steps.calibration_from}

-- what a row says besides its number
abbrev calibration_in : CalibrationRow → CalibrationValue
calibration_in row = record { reading = row.reading; offset = row.offset; uncertainty = row.uncertainty }

abbrev hold_in : HoldRow → HoldValue
hold_in row = record { from = row.from; to = row.to }

pub get_none : {X : Type 0} (n : ℕ) → ◌≡◌ {A = Option X} (slice_get [] n) None
get_none zero = refl
get_none (suc n) = refl

get_left : {X : Type 0} (xs ys : List X) (n : ℕ) (x : X) → slice_get xs n ≡ Some x → slice_get (xs ++ ys) n ≡ Some x
get_left [] ys n x got = absurd (let apart = sym (get_none n) ∙ got in cc)
get_left (y ∷ xs) ys zero x got = got
get_left (y ∷ xs) ys (suc n) x got = get_left xs ys n x got

get_last : {X : Type 0} (xs : List X) (y : X) → slice_get (xs ++ y ∷ []) (length xs) ≡ Some y
get_last [] y = refl
get_last (x ∷ xs) y = get_last xs y

get_past : {X : Type 0} (xs : List X) (y : X) (n : ℕ) → slice_get xs n ≡ None → n ≢ length xs
    → slice_get (xs ++ y ∷ []) n ≡ None
get_past [] y zero none apart = absurd (apart refl)
get_past [] y (suc n) none apart = get_none n
get_past (x ∷ xs) y zero none apart = absurd (let e = none in cc)
get_past (x ∷ xs) y (suc n) none apart = get_past xs y n none (λ e. apart (ap suc e))

turned : {X Y : Type 0} (f : X → Y) (xs : List X) → reverse (map f xs) ≡ map f (reverse xs)
turned f [] = refl
turned f (x ∷ xs) =
    reverse-append (f x ∷ []) (map f xs) ∙ ap (λ ys. ys ++ f x ∷ []) (turned f xs)
    ∙ sym (ap (map f) (reverse-append (x ∷ []) xs) ∙ map-append f (reverse xs) (x ∷ []))

module _ {R : Type 0} (number : R → ℕ) where
  -- the newest comes first, and they count 1, 2, 3 from the oldest
  abbrev pub AreCounted : List R → Type 0
  AreCounted [] = Unit {0}
  AreCounted (x ∷ xs) = (number x ≡ length xs + 1) × AreCounted xs

  at_number : (xs : List R) (n : ℕ) (x : R) → AreCounted xs → Contains xs x → number x ≡ n + 1
      → slice_get (reverse xs) n ≡ Some x
  at_number [] n x are m e = absurd (no_member x m)
  at_number (y ∷ xs) n x are m e =
      ap (λ rows. slice_get rows n) (reverse-append (y ∷ []) xs)
      ∙ elim (member_cases y x xs m) [
        | inl same ↦ (let here : length xs + 1 ≡ number x = sym are.0 ∙ ap number same in
            let long = length-reverse xs in
            let place : n ≡ length (reverse xs) = omega (arith, here, e, long) in
            ap (slice_get (reverse xs ++ y ∷ [])) place ∙ get_last (reverse xs) y ∙ ap Some same)
        | inr older ↦ get_left (reverse xs) (y ∷ []) n x (at_number xs n x are.1 older e)
      ]

  none_at : (xs : List R) (n : ℕ) → AreCounted xs → ((x : R) → Contains xs x → number x ≢ n + 1)
      → slice_get (reverse xs) n ≡ None
  none_at [] n are none = get_none n
  none_at (y ∷ xs) n are none =
      let long = length-reverse xs in
      let here = are.0 in
      let apart : n ≢ length (reverse xs) = λ e. none y (member_here y xs) (omega (arith, e, long, here)) in
      ap (λ rows. slice_get rows n) (reverse-append (y ∷ []) xs)
      ∙ get_past (reverse xs) y n (none_at xs n are.1 (λ x m. none x (member_after y x xs m))) apart

  said : {V : Type 0} (says : R → V) (xs : List R) (n : ℕ)
      → slice_get (reverse (map says xs)) n ≡ option_map says (slice_get (reverse xs) n)
  said says xs n = ap (λ vs. slice_get vs n) (turned says xs) ∙ slice_get-map says (reverse xs) n

  -- what is found under a number is what the row with that number says
  pub found_at : {V Y : Type 0} (says : R → V) (Shows : R → Y → Type 0) (view : Y → V)
      → ((x : R) (y : Y) → Shows x y → view y ≡ says x) → (xs : List R) (n : ℕ) (found : Option Y) → AreCounted xs
      → IsFoundAs Shows (λ x. number x == n + 1) xs found
      → option_map view found ≡ slice_get (reverse (map says xs)) n
  found_at says Shows view shows xs n None are none =
      sym (said says xs n ∙ ap (option_map says)
      (none_at xs n are (λ x m e. let apart = sym (eq-eqb (number x) (n + 1) e) ∙ none x m in cc)))
  found_at says Shows view shows xs n (Some y) are (x, m, passes, shown) =
      ap Some (shows x y shown)
      ∙ sym (said says xs n ∙ ap (option_map says)
      (at_number xs n x are m (eqb-true (number x) (n + 1) passes)))

-- rows that are made with their numbers
module _ {V R : Type 0} (row : V → ℕ → R) (number : R → ℕ)
    (numbered_so : (v : V) (n : ℕ) → number (row v n) ≡ n) where
  long : (vs : List V) → length (numbered row vs) ≡ length vs
  long [] = refl
  long (v ∷ vs) = ap suc (long vs)

  pub are_counted : (vs : List V) → AreCounted number (numbered row vs)
  are_counted [] = tt
  are_counted (v ∷ vs) = (numbered_so v (length vs + 1) ∙ ap (λ n. n + 1) (sym (long vs)), are_counted vs)

-- ---- calibrations, holds and identities

pub calibration_at : (b : History) (n : ℕ) (found : Option NumberedCalibration)
    → IsFoundAs ShowsCalibration (is_calibration (n + 1)) (replayed b).calibrations found
    → option_map calibration_from found ≡ slice_get (reverse (calibrations b)) n
calibration_at b n found is =
    let rows = numbered calibration_row (calibrations b) in
    found_at (λ (row : CalibrationRow). row.n) calibration_in ShowsCalibration calibration_from
    (λ x y shows. rw (shows.1, shows.2, shows.3) refl) rows n found
    (are_counted calibration_row (λ row. row.n) (λ v n. refl) (calibrations b))
    (subst (λ rows. IsFoundAs ShowsCalibration (is_calibration (n + 1)) rows found) (calibrations_are b) is)
    ∙ ap (λ vs. slice_get (reverse vs) n)
    (unnumbered calibration_row calibration_in (λ v n. refl) (calibrations b))

pub hold_at : (b : History) (n : ℕ) (found : Option Hold)
    → IsFoundAs ShowsHold (is_hold (n + 1)) (replayed b).holds found
    → option_map hold_view found ≡ slice_get (reverse (holds b)) n
hold_at b n found is =
    found_at (λ (row : HoldRow). row.n) hold_in ShowsHold hold_view (λ x y shows. rw (shows.0, shows.1) refl)
    (numbered hold_row (holds b)) n found
    (are_counted hold_row (λ row. row.n) (λ v n. refl) (holds b))
    (subst (λ rows. IsFoundAs ShowsHold (is_hold (n + 1)) rows found) (holds_are b) is)
    ∙ ap (λ vs. slice_get (reverse vs) n) (unnumbered hold_row hold_in (λ v n. refl) (holds b))

identities_counted : (b : History) → AreCounted (λ (row : InstalledRow). row.number) (installed_rows b)
identities_counted [] = tt
identities_counted (Installed i ∷ b) = (ap (λ n. n + 1) (sym (length_rows b)), identities_counted b)
identities_counted (_ ∷ b) = identities_counted b

pub identity_at : (b : History) (n : ℕ) (found : Option IdentityRow) → IsSound b
    → IsFoundAs ShowsIdentity (is_identity (n + 1)) (replayed b).identities found
    → option_map identity_view found ≡ slice_get (identities b) n
identity_at b n found sound is =
    found_at (λ (row : InstalledRow). row.number) (λ row. row) ShowsIdentity identity_view (λ x y shows. shows)
    (installed_rows b) n found (identities_counted b)
    (subst (λ rows. IsFoundAs ShowsIdentity (is_identity (n + 1)) rows found) (identities_are b sound) is)
    ∙ ap (λ rows. slice_get (reverse rows) n) (map-id (installed_rows b))
