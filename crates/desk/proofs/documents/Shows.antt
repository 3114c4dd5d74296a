-- Who sees a deposit, and whom the policy file names.
use Rattle.std.proofs.Common.{◌≡◌, ℕ, ◌==◌, ◌||◌, cond, Bool, true, false, is_some, List, [], ◌∷◌, map, Option, Some}
use Rattle.std.proofs.{Common.None, Common.refl, Common.ap, Common.◌∙◌, Common.subst, lemmas.Bool.eqb-true}
use Rattle.std.specs.{List.find, Option.option_and_then, Option.option_map, Str.bytes_eq}
use Rattle.policy.specs.{Record.AccountValue, Record.PolicyValue, Kinds.is_among, LookUp.account_named}
use Rattle.book.specs.History.{Reserved, Sealed, Deposited, Calibrated, Held, Granted, Revoked, History}
use Rattle.book.specs.History.{Installed, ReservationValue, stamp_of, token_of, reservation_at, deposit_at}
use Rattle.book.specs.Rights.{may_read, shown_to, seen_by, is_visible, deposit_with_stamp}
use Rattle.book.specs.Sound.{Along, Fits, FitsSealed, IsSound}
use Rattle.book.specs.{Rows.DepositRow, Rows.StampRow, Readers.Viewer}
use Rattle.desk.specs.Effects.{has_account}
use Rattle.desk.proofs.journeys.Views.{reservation_stays}

abbrev with_stamp : Option (List ℕ) → Option ReservationValue → Option DepositRow → Option (DepositRow × StampRow)
with_stamp token reserved at = option_and_then (λ d. option_map (λ s. (d, s)) (option_map (stamp_of token) reserved)) at

-- a deposit's number is reserved
reserved_here : (y d : DepositRow) (n : ℕ) (b : History) (same : Bool) → (y.serial == n) ≡ same
    → FitsSealed y.serial b → (deposit_at n b ≡ Some d → (r : ReservationValue) × (reservation_at n b ≡ Some r))
    → cond same (Some y) (deposit_at n b) ≡ Some d → (r : ReservationValue) × (reservation_at n b ≡ Some r)
reserved_here y d n b true same fits later e =
    (fits.reservation, subst (λ k. reservation_at k b ≡ Some fits.reservation) (eqb-true y.serial n same) fits.reserved)
reserved_here y d n b false same fits later e = later e

abbrev HasReservation : ℕ → History → Type 0
HasReservation n b = (r : ReservationValue) × (reservation_at n b ≡ Some r)

pub deposit_reserved : (b : History) → Along Fits b → (n : ℕ) (d : DepositRow) → deposit_at n b ≡ Some d
    → HasReservation n b
deposit_reserved [] g n d e = cc
deposit_reserved (Reserved r ∷ b) g n d e =
    let h = deposit_reserved b g.1 n d e in (h.0, reservation_stays (Reserved r) b g.0 n h.0 h.1)
deposit_reserved (Sealed m x ∷ b) g n d e = deposit_reserved b g.1 n d e
deposit_reserved (Deposited y x ∷ b) g n d e =
    reserved_here y d n b (y.serial == n) refl g.0.sealed (deposit_reserved b g.1 n d) e
deposit_reserved (Calibrated c ∷ b) g n d e = deposit_reserved b g.1 n d e
deposit_reserved (Held h ∷ b) g n d e = deposit_reserved b g.1 n d e
deposit_reserved (Granted m a ∷ b) g n d e = deposit_reserved b g.1 n d e
deposit_reserved (Revoked m a ∷ b) g n d e = deposit_reserved b g.1 n d e
deposit_reserved (Installed i ∷ b) g n d e = deposit_reserved b g.1 n d e

absent_at : (token : Option (List ℕ)) (at : Option DepositRow) (reserved : Option ReservationValue)
    → ((d : DepositRow) → at ≡ Some d → (r : ReservationValue) × (reserved ≡ Some r))
    → None ≡ with_stamp token reserved at → at ≡ None
absent_at token None reserved there e = refl
absent_at token (Some d) None there e = let h = there d refl in let some : None ≡ Some h.0 = h.1 in cc
absent_at token (Some d) (Some r) there e = cc

-- where no deposit with a stamp is found, nobody sees one
pub unseen : (viewer : Viewer) (n : ℕ) (b : History) → IsSound b → None ≡ deposit_with_stamp n b
    → seen_by viewer n b ≡ None
unseen viewer n b sound e =
    ap (option_and_then (shown_to viewer (may_read viewer n b)))
    (absent_at (token_of n b) (deposit_at n b) (reservation_at n b) (deposit_reserved b sound n) e)

some_where : {A : Type 0} (o : Option A) → true ≡ is_some o → (x : A) × (o ≡ Some x)
some_where None e = cc
some_where (Some x) e = (x, refl)

-- what is visible is seen
pub seen_where : (viewer : Viewer) (n : ℕ) (b : History) → true ≡ is_visible viewer n b
    → (d : DepositRow) × (seen_by viewer n b ≡ Some d)
seen_where viewer n b e = some_where (seen_by viewer n b) e

none_where : {A : Type 0} (o : Option A) → false ≡ is_some o → o ≡ None
none_where None e = refl
none_where (Some x) e = cc

-- an account of the file has the name
known_at : (name : List ℕ) (a : AccountValue) (accounts : List AccountValue) (here : Bool)
    → is_some (find (λ x. bytes_eq x.name name) accounts) ≡ is_among (map (λ x. x.name) accounts) name
    → is_some (cond here (Some a) (find (λ x. bytes_eq x.name name) accounts))
    ≡ (here || is_among (map (λ x. x.name) accounts) name)
known_at name a accounts true later = refl
known_at name a accounts false later = later

known_in : (name : List ℕ) (accounts : List AccountValue)
    → is_some (find (λ x. bytes_eq x.name name) accounts) ≡ is_among (map (λ x. x.name) accounts) name
known_in name [] = refl
known_in name (a ∷ accounts) = known_at name a accounts (bytes_eq a.name name) (known_in name accounts)

some_mapped : {A B : Type 0} (f : A → B) (o : Option A) → is_some o ≡ is_some (option_map f o)
some_mapped f None = refl
some_mapped f (Some x) = refl

pub known_by : {A : Type 0} (f : A → AccountValue) (file : PolicyValue) (name : List ℕ) (o : Option A) (known : Bool)
    → known ≡ is_some o → option_map f o ≡ account_named file name → known ≡ has_account file name
known_by f file name o known is found =
    is ∙ (some_mapped f o ∙ (ap is_some found ∙ known_in name file.accounts))
