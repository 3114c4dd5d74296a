-- The deposits of the tables are the history's, each number once and each reference of an owner once.
use Rattle.store.proofs.Words.{Bool, Contains, Deposit, DepositRow, Deposited, Global, Granted, History, IsFoundAs}
use Rattle.store.proofs.Words.{IsSound, List, None, Option, Origin, Reader, ReservationValue, Reserved, Revoked, Sealed}
use Rattle.store.proofs.Words.{ShowsDeposit, ShowsOrigin, ShowsReference, ShowsStamp, Some, Stamp, StampRow, String}
use Rattle.store.proofs.Words.{Viewer, [], and_parts, ap, arith, bytes_eq, bytes_eq-Decides, cases_Bool, cond}
use Rattle.store.proofs.Words.{deposit_at, deposit_under, deposit_view, deposits, eq-eqb, eqb-true, eqb_tells, false}
use Rattle.store.proofs.Words.{find, greatest_number, greatest_serial, inl, inr, is_deposit, is_deposit_of, is_of}
use Rattle.store.proofs.Words.{is_own, is_owned, is_reader, is_same, is_some, is_stamp, is_visible, list_any, map}
use Rattle.store.proofs.Words.{may_read, option_and_then, option_map, readers_as, refl, reservation_at, reservations}
use Rattle.store.proofs.Words.{shown_to, stamp_at, stamp_of, stamp_view, stamps, string_bytes, subst, sym, token_of}
use Rattle.store.proofs.Words.{true, ℕ, ◌&&◌, ◌<◌, ◌==◌, ◌||◌, ◌∙◌, ◌∷◌, ◌≡◌, ◌≤◌}
use Rattle.store.proofs.Members.{IsSearchedAs, IsSingle, falling_single, find_none, find_single, found_is_searched}
use Rattle.store.proofs.Members.{found_member, member_cases, no_member, none_pass, some_pass}
use Rattle.store.proofs.{FallingSerials.stamps_fall, Stamps.absent_above, Stamps.stamps_are, Stamps.unreserved}
use Rattle.store.specs.{auxiliary.Replay.replayed, auxiliary.Steps.IsOriginOf, auxiliary.Steps.listing_at}

pub deposits_are : (b : History) → (replayed b).deposits ≡ deposits b
deposits_are [] = refl
deposits_are (Deposited d token ∷ b) = ap (λ (ds : List DepositRow). d ∷ ds) (deposits_are b)
deposits_are (_ ∷ b) = deposits_are b

-- ---- each number once

-- a number with a token is not open yet
token_before : (b : History) (m n : ℕ) (token : List ℕ) → (cond (m == n) (Some token) (token_of n b)) ≡ None
    → token_of n b ≡ None
token_before b m n token e =
    elim (cases_Bool (m == n)) [
      | inl t ↦ (let here : Some token ≡ None = sym (rw t refl) ∙ e in cc)
      | inr f ↦ sym (rw f refl) ∙ e
    ]

pub deposit_sealed : (b : History) (d : DepositRow) → Contains (deposits b) d → token_of d.serial b ≡ None → ⊥
deposit_sealed [] d m e = no_member d m
deposit_sealed (Sealed n token ∷ b) d m e = deposit_sealed b d m (token_before b n d.serial token e)
deposit_sealed (Deposited x token ∷ b) d m e =
    elim (member_cases x d (deposits b) m) [
      | inl same ↦ (let t : (x.serial == d.serial) ≡ true =
          eq-eqb x.serial d.serial (ap (λ (v : DepositRow). v.serial) same) in
          let here : Some token ≡ None = sym (rw t refl) ∙ e in cc)
      | inr m ↦ deposit_sealed b d m (token_before b x.serial d.serial token e)
    ]
deposit_sealed (_ ∷ b) d m e = deposit_sealed b d m e

single_cons : {X : Type 0} (p : X → Bool) (x : X) (xs : List X)
    → (p x ≡ true → (y : X) → Contains xs y → p y ≡ true → ⊥) → IsSingle p xs → IsSingle p (x ∷ xs)
single_cons p x xs apart single y z m k e f =
    elim (member_cases x y xs m) [
      | inl xy ↦ (elim (member_cases x z xs k) [
        | inl xz ↦ sym xy ∙ xz
        | inr k ↦ absurd (apart (ap p xy ∙ e) z k f)
      ])
      | inr m ↦ (elim (member_cases x z xs k) [
        | inl xz ↦ absurd (apart (ap p xz ∙ f) y m e)
        | inr k ↦ single y z m k e f
      ])
    ]

single_none : {X : Type 0} (p : X → Bool) → IsSingle p []
single_none p x y m k e f = absurd (no_member x m)

pub single_number : (b : History) (n : ℕ) → IsSound b → IsSingle (is_deposit n) (deposits b)
single_number [] n s = single_none (is_deposit n)
single_number (Deposited d token ∷ b) n s =
    single_cons (is_deposit n) d (deposits b)
    (λ here y m there.
    (let same : y.serial ≡ d.serial = eqb-true y.serial n there ∙ sym (eqb-true d.serial n here) in
    let P : ℕ → Type 0 = λ k. token_of k b ≡ None in
    deposit_sealed b y m (subst P (sym same) s.0.sealed.open_yet)))
    (single_number b n s.1)
single_number (_ ∷ b) n s = single_number b n s.1

-- ---- each reference of an owner once

-- where a search finds nothing, none passes
pub fails_where_none : {X : Type 0} (p : X → Bool) (xs : List X) → find p xs ≡ None → (y : X) → Contains xs y
    → p y ≡ true → ⊥
fails_where_none p [] none y m e = no_member y m
fails_where_none p (x ∷ xs) none y m e =
    elim (cases_Bool (p x)) [
      | inl t ↦ (let here : Some x ≡ None = sym (rw t refl) ∙ none in cc)
      | inr f ↦ elim (member_cases x y xs m) [
        | inl same ↦ (let t : p x ≡ true = ap p same ∙ e in cc)
        | inr m ↦ fails_where_none p xs (sym (rw f refl) ∙ none) y m e
      ]
    ]

reference_is : (owner reference : List ℕ) (d : DepositRow) → is_deposit_of owner reference d ≡ true
    → (d.owner ≡ owner) × (d.reference ≡ reference)
reference_is owner reference d e =
    let parts = and_parts (bytes_eq d.owner owner) (bytes_eq d.reference reference) e in
    ((bytes_eq-Decides d.owner owner).0 parts.0, (bytes_eq-Decides d.reference reference).0 parts.1)

reference_passes : (owner reference : List ℕ) (d : DepositRow) → d.owner ≡ owner → d.reference ≡ reference
    → is_deposit_of owner reference d ≡ true
reference_passes owner reference d e f =
    rw ((bytes_eq-Decides d.owner owner).1 e, (bytes_eq-Decides d.reference reference).1 f) refl

pub single_reference : (b : History) (owner reference : List ℕ) → IsSound b
    → IsSingle (is_deposit_of owner reference) (deposits b)
single_reference [] owner reference s = single_none (is_deposit_of owner reference)
single_reference (Deposited d token ∷ b) owner reference s =
    single_cons (is_deposit_of owner reference) d (deposits b)
    (λ here y m there.
    (let new = reference_is owner reference d here in
    let old = reference_is owner reference y there in
    fails_where_none (is_deposit_of d.owner d.reference) (deposits b) s.0.unused y m
    (reference_passes d.owner d.reference y (old.0 ∙ sym new.0) (old.1 ∙ sym new.1))))
    (single_reference b owner reference s.1)
single_reference (_ ∷ b) owner reference s = single_reference b owner reference s.1

-- ---- what the look-ups show

shown_of : {X Y : Type 0} (view : Y → X) (test : X → Bool) (rows : List X) (answer : Option Y) → IsSingle test rows
    → IsFoundAs (λ x y. view y ≡ x) test rows answer → option_map view answer ≡ find test rows
shown_of view test rows None single found = sym (find_none test rows (none_pass test rows found))
shown_of view test rows (Some y) single (x, m, passes, shows) =
    sym (find_single test rows x single m passes ∙ ap Some (sym shows))

pub deposit_view_of : (b : History) (n : ℕ) (answer : Option Deposit) → IsSound b
    → IsFoundAs ShowsDeposit (is_deposit n) (replayed b).deposits answer
    → option_map deposit_view answer ≡ deposit_at n b
deposit_view_of b n answer s found =
    let P : List DepositRow → Type 0 = λ rows. IsFoundAs ShowsDeposit (is_deposit n) rows answer in
    shown_of deposit_view (is_deposit n) (deposits b) answer (single_number b n s) (subst P (deposits_are b) found)

pub under_view_of : (b : History) (owner reference : List ℕ) (answer : Option Deposit) → IsSound b
    → IsFoundAs ShowsDeposit (is_deposit_of owner reference) (replayed b).deposits answer
    → option_map deposit_view answer ≡ deposit_under owner reference b
under_view_of b owner reference answer s found =
    let P : List DepositRow → Type 0 = λ rows. IsFoundAs ShowsDeposit (is_deposit_of owner reference) rows answer in
    shown_of deposit_view (is_deposit_of owner reference) (deposits b) answer (single_reference b owner reference s)
    (subst P (deposits_are b) found)

single_stamp : (b : History) (n : ℕ) → IsSound b → IsSingle (is_stamp n) (stamps b)
single_stamp b n s x y m k e f =
    falling_single (λ (v : StampRow). v.serial) (stamps b) x y (stamps_fall b s) m k
    (eqb-true x.serial n e ∙ sym (eqb-true y.serial n f))

pub find_stamp : (b : History) (n : ℕ) (rs : List ReservationValue)
    → find (is_stamp n) (map (λ r. stamp_of (token_of r.serial b) r) rs)
    ≡ option_map (stamp_of (token_of n b)) (find (λ r. r.serial == n) rs)
find_stamp b n [] = refl
find_stamp b n (r ∷ rs) =
    elim (eqb_tells r.serial n) [
      | inl t ↦ rw t.0 (ap (λ k. Some (stamp_of (token_of k b) r)) t.1)
      | inr f ↦ rw f.0 (find_stamp b n rs)
    ]

pub stamp_view_of : (b : History) (n : ℕ) (answer : Option Stamp) → IsSound b
    → IsFoundAs ShowsStamp (is_stamp n) (replayed b).stamps answer
    → option_map stamp_view answer ≡ stamp_at n b
stamp_view_of b n answer s found =
    let P : List StampRow → Type 0 = λ rows. IsFoundAs ShowsStamp (is_stamp n) rows answer in
    shown_of stamp_view (is_stamp n) (stamps b) answer (single_stamp b n s) (subst P (stamps_are b s) found)
    ∙ find_stamp b n (reservations b)

-- whose stamp it is, and of when
pub origin_view_of : (b : History) (n : ℕ) (answer : Option Origin) → IsSound b
    → IsFoundAs ShowsOrigin (is_stamp n) (replayed b).stamps answer
    → IsOriginOf n b answer
origin_view_of b n answer s found =
    let P : List StampRow → Type 0 = λ rows. IsFoundAs ShowsOrigin (is_stamp n) rows answer in
    let searched = found_is_searched ShowsOrigin (is_stamp n) (stamps b) answer (single_stamp b n s)
    (subst P (stamps_are b s) found) in
    of_found answer (reservation_at n b) refl (find_stamp b n (reservations b)) searched where
      of_found : (answer : Option Origin) (r : Option ReservationValue) → reservation_at n b ≡ r
          → find (is_stamp n) (stamps b) ≡ option_map (stamp_of (token_of n b)) (reservation_at n b)
          → IsSearchedAs ShowsOrigin (is_stamp n) (stamps b) answer → IsOriginOf n b answer
      of_found None None e same none = e
      of_found None (Some r) e same none =
          let some : find (is_stamp n) (stamps b) ≡ Some (stamp_of (token_of n b) r) = same ∙ rw e refl in cc
      of_found (Some o) None e same (row, is, shows) =
          let none : find (is_stamp n) (stamps b) ≡ None = same ∙ rw e refl in cc
      of_found (Some o) (Some r) e same (row, is, shows) =
          let some : find (is_stamp n) (stamps b) ≡ Some (stamp_of (token_of n b) r) = same ∙ rw e refl in
          let same_row : row ≡ stamp_of (token_of n b) r = cc in (
            r,
            e,
            shows.0 ∙ ap (λ (v : StampRow). v.account) same_row,
            shows.1
                ∙ ap (λ (v : StampRow). v.gen_time) same_row,
          )

-- the account of a deposit's reservation owns it
owner_reserved : (b : History) (d : DepositRow) → IsSound b → Contains (deposits b) d
    → (r : ReservationValue) × (reservation_at d.serial b ≡ Some r) × (r.account ≡ d.owner)
owner_reserved [] d s m = absurd (no_member d m)
owner_reserved (Reserved x ∷ b) d s m =
    let rest = owner_reserved b d s.1 m in
    elim (eqb_tells x.serial d.serial) [
      | inl t ↦ (let rises : greatest_serial b < x.serial = s.0.rises in
          let none = absent_above (reservations b) d.serial (omega (arith, rises, t.1)) in
          let some : reservation_at d.serial b ≡ Some rest.0 = rest.1 in cc)
      | inr f ↦ (rest.0, rw f.0 rest.1, rest.2)
    ]
owner_reserved (Deposited x token ∷ b) d s m =
    elim (member_cases x d (deposits b) m) [
      | inl same ↦ (let P : DepositRow → Type 0 =
          λ v. (r : ReservationValue) × (reservation_at v.serial b ≡ Some r) × (r.account ≡ v.owner) in
          subst P same (s.0.sealed.reservation, s.0.sealed.reserved, s.0.owner))
      | inr m ↦ owner_reserved b d s.1 m
    ]
owner_reserved (_ ∷ b) d s m = owner_reserved b d s.1 m

-- the deposit that is found has the number, and its owner is its reservation's account
pub deposit_origin : (b : History) (n : ℕ) (d : DepositRow) (r : ReservationValue) → IsSound b → deposit_at n b ≡ Some d
    → reservation_at n b ≡ Some r → (d.serial ≡ n) × (r.account ≡ d.owner) × Contains (deposits b) d
deposit_origin b n d r s at reserved =
    let there = found_member (is_deposit n) (deposits b) d at in
    let is : d.serial ≡ n = eqb-true d.serial n there.1 in
    let own = owner_reserved b d s there.0 in
    let P : ℕ → Type 0 = λ k. reservation_at k b ≡ Some own.0 in
    let same : reservation_at n b ≡ Some own.0 = subst P is own.1 in
    let r_is : r ≡ own.0 = cc in
    (is, ap (λ (v : ReservationValue). v.account) r_is ∙ own.2, there.0)

-- ---- who sees a deposit

-- without a deposit no right
no_reader : (b : History) (n : ℕ) (reader : Reader) → IsSound b → deposit_at n b ≡ None
    → is_reader n reader b ≡ false
no_reader [] n reader s none = refl
no_reader (Deposited d token ∷ b) n reader s none =
    elim (cases_Bool (d.serial == n)) [
      | inl t ↦ (let here : Some d ≡ None = sym (rw t refl) ∙ none in cc)
      | inr f ↦ no_reader b n reader s.1 (sym (rw f refl) ∙ none)
    ]
no_reader (Granted m r ∷ b) n reader s none =
    elim (cases_Bool ((m == n) && is_same r reader)) [
      | inl t ↦ (let here : m ≡ n = eqb-true m n (and_parts (m == n) (is_same r reader) t).0 in
          let P : ℕ → Type 0 = λ k. deposit_at k b ≡ Some s.0.deposit in
          let there : deposit_at n b ≡ Some s.0.deposit = subst P here s.0.deposited in cc)
      | inr f ↦ rw f (no_reader b n reader s.1 none)
    ]
no_reader (Revoked m r ∷ b) n reader s none =
    elim (cases_Bool ((m == n) && is_same r reader)) [
      | inl t ↦ rw t refl
      | inr f ↦ rw f (no_reader b n reader s.1 none)
    ]
no_reader (_ ∷ b) n reader s none = no_reader b n reader s.1 none

no_right : (b : History) (n : ℕ) (viewer : Viewer) → IsSound b → deposit_at n b ≡ None
    → may_read viewer n b ≡ false
no_right b n viewer s none = none_reads (readers_as viewer) where
  none_reads : (readers : List Reader) → list_any (λ reader. is_reader n reader b) readers ≡ false
  none_reads [] = refl
  none_reads (reader ∷ readers) = rw (no_reader b n reader s none) (none_reads readers)

owned_is : (ds : List DepositRow) (n : ℕ) (a : List ℕ) (d : DepositRow) → IsSingle (is_deposit n) ds
    → find (is_deposit n) ds ≡ Some d
    → list_any (is_owned n a) ds ≡ bytes_eq d.owner a
owned_is ds n a d single is =
    let there = found_member (is_deposit n) ds d is in
    elim (cases_Bool (bytes_eq d.owner a)) [
      | inl t ↦ some_pass (is_owned n a) ds d there.0 (rw (there.1, t) refl) ∙ sym t
      | inr f ↦ none_pass (is_owned n a) ds (λ y m.
          (elim (cases_Bool (is_owned n a y)) [
            | inl own ↦ (let parts = and_parts (y.serial == n) (bytes_eq y.owner a) own in
                let same : y ≡ d = single y d m there.0 parts.0 there.1 in
                let t : bytes_eq d.owner a ≡ true = subst (λ v. bytes_eq v.owner a ≡ true) same parts.1 in cc)
            | inr not ↦ not
          ])) ∙ sym f
    ]

owned_none : (ds : List DepositRow) (n : ℕ) (a : List ℕ) → find (is_deposit n) ds ≡ None
    → list_any (is_owned n a) ds ≡ false
owned_none ds n a none =
    none_pass (is_owned n a) ds (λ y m.
    (elim (cases_Bool (is_owned n a y)) [
      | inl own ↦ (let parts = and_parts (y.serial == n) (bytes_eq y.owner a) own in
          absurd (fails_where_none (is_deposit n) ds none y m parts.0))
      | inr not ↦ not
    ]))

own_at : (b : History) (n : ℕ) (a : List ℕ) (o : Option DepositRow) → IsSound b → deposit_at n b ≡ o
    → list_any (is_owned n a) (deposits b) ≡ is_of a o
own_at b n a None s e = owned_none (deposits b) n a e
own_at b n a (Some d) s e = owned_is (deposits b) n a d (single_number b n s) e

-- an owner's row is there where the deposit is its own
pub own_view : (b : History) (n : ℕ) (a : List ℕ) → IsSound b
    → list_any (is_owned n a) (replayed b).deposits ≡ is_own a n b
own_view b n a s = rw (deposits_are b) (own_at b n a (deposit_at n b) s refl)

visible_at : (b : History) (n : ℕ) (viewer : Viewer) (o : Option DepositRow) → IsSound b → deposit_at n b ≡ o
    → (is_of viewer.name o || may_read viewer n b)
    ≡ is_some (option_and_then (shown_to viewer (may_read viewer n b)) o)
visible_at b n viewer None s e = no_right b n viewer s e
visible_at b n viewer (Some d) s e = choose (bytes_eq d.owner viewer.name || may_read viewer n b) where
  choose : (v : Bool) → v ≡ is_some (cond v (Some d) None)
  choose true = refl
  choose false = refl

-- visible is what has an owner's row, or what who asks may read
pub visible_view : (b : History) (n : ℕ) (viewer : Viewer) → IsSound b
    → (list_any (is_owned n viewer.name) (replayed b).deposits || may_read viewer n b) ≡ is_visible viewer n b
visible_view b n viewer s =
    ap (λ own. own || may_read viewer n b) (own_view b n viewer.name s)
    ∙ visible_at b n viewer (deposit_at n b) s refl

-- ---- numbers

-- what isn't reserved is no deposit
pub no_deposit : (b : History) (n : ℕ) → IsSound b → reservation_at n b ≡ None → deposit_at n b ≡ None
no_deposit b n s none = find_none (is_deposit n) (deposits b)
    (none_pass (is_deposit n) (deposits b) (λ y m. fails y m)) where
      fails : (y : DepositRow) → Contains (deposits b) y → is_deposit n y ≡ false
      fails y m =
          elim (cases_Bool (is_deposit n y)) [
            | inl t ↦ (let P : ℕ → Type 0 = λ k. token_of k b ≡ None in
                absurd (deposit_sealed b y m (subst P (sym (eqb-true y.serial n t)) (unreserved b n s none))))
            | inr f ↦ f
          ]

pub none_beyond : (b : History) (n : ℕ) → IsSound b → greatest_serial b < n → deposit_at n b ≡ None
none_beyond b n s l = no_deposit b n s (absent_above (reservations b) n l)

pub serials_within : (b : History) → IsSound b → greatest_serial b ≤ greatest_number
serials_within [] s = omega arith
serials_within (Reserved r ∷ b) s =
    let rises : greatest_serial b < r.serial = s.0.rises in
    let within : r.serial ≤ greatest_number = s.0.within in omega (arith, rises, within)
serials_within (_ ∷ b) s = serials_within b s.1

-- ---- what a list shows of a deposit

pub unreserved_listing : (b : History) (n : ℕ) → IsSound b → IsOriginOf n b None → listing_at n b ≡ None
unreserved_listing b n s none = rw (no_deposit b n s none) refl

-- its label stands under the account of its stamp
pub unlabelled_listing : (b : History) (n : ℕ) (origin : Origin) → IsSound b → IsOriginOf n b (Some origin)
    → IsFoundAs ShowsReference (is_owned n (string_bytes origin.account)) (replayed b).deposits None
    → listing_at n b ≡ None
unlabelled_listing b n origin s (r, at, account, gen_time) found =
    let P : List DepositRow → Type 0 =
    λ rows. IsFoundAs ShowsReference (is_owned n (string_bytes origin.account)) rows None in
    none_found (subst P (deposits_are b) found) (deposit_at n b) refl where
      none_found : IsFoundAs ShowsReference (is_owned n (string_bytes origin.account)) (deposits b) None
          → (o : Option DepositRow) → deposit_at n b ≡ o
          → listing_at n b ≡ None
      none_found none None e = rw e refl
      none_found none (Some d) e =
          let own = deposit_origin b n d r s e at in
          let fails : is_owned n (string_bytes origin.account) d ≡ false = none d own.2 in
          let passes : is_owned n (string_bytes origin.account) d ≡ true =
          rw (
            eq-eqb d.serial n own.0,
            (bytes_eq-Decides d.owner (string_bytes origin.account)).1
                (sym (account ∙ own.1)),
          ) refl in cc

pub labelled_listing : (b : History) (n : ℕ) (origin : Origin) (reference : String Global) → IsSound b
    → IsOriginOf n b (Some origin)
    → IsFoundAs ShowsReference (is_owned n (string_bytes origin.account)) (replayed b).deposits (Some reference)
    → Some (record {
      number = n;
      owner = string_bytes origin.account;
      reference = string_bytes reference;
      gen_time = origin.gen_time;
    })
    ≡ listing_at n b
labelled_listing b n origin reference s (r, at, account, gen_time) (d, m, passes, shows) =
    let P : List DepositRow → Type 0 = λ rows. Contains rows d in
    let parts = and_parts (d.serial == n) (bytes_eq d.owner (string_bytes origin.account)) passes in
    let found : deposit_at n b ≡ Some d =
    find_single (is_deposit n) (deposits b) d (single_number b n s) (subst P (deposits_are b) m) parts.0 in
    let serial : d.serial ≡ n = eqb-true d.serial n parts.0 in
    let owner : d.owner ≡ string_bytes origin.account =
    (bytes_eq-Decides d.owner (string_bytes origin.account)).0 parts.1 in
    rw (found, at, ← owner, shows, gen_time, serial) refl

-- ---- who sees a number that is asked for

pub seen_by_reader : (b : History) (n : ℕ) (viewer : Viewer) (reads : Bool) → IsSound b → reads ≡ true
    → reads ≡ may_read viewer n b → true ≡ is_visible viewer n b
seen_by_reader b n viewer reads s true_is found =
    let read : may_read viewer n b ≡ true = sym found ∙ true_is in
    sym (rw read (or_true (is_own viewer.name n b))) ∙ visible_at b n viewer (deposit_at n b) s refl where
      or_true : (v : Bool) → (v || true) ≡ true
      or_true true = refl
      or_true false = refl

pub seen_by_owner : (b : History) (n : ℕ) (viewer : Viewer) (reads owns : Bool) → IsSound b → reads ≡ false
    → reads ≡ may_read viewer n b → owns ≡ is_own viewer.name n b → owns ≡ is_visible viewer n b
seen_by_owner b n viewer reads owns s false_is found own =
    let read : may_read viewer n b ≡ false = sym found ∙ false_is in
    own ∙ sym (rw read (or_false (is_own viewer.name n b))) ∙ visible_at b n viewer (deposit_at n b) s refl where
      or_false : (v : Bool) → (v || false) ≡ v
      or_false true = refl
      or_false false = refl
