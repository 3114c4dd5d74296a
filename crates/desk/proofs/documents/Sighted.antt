-- What is shown and listed is exactly what the account may see.
use Rattle.std.proofs.Common.{arith, Contains, ◌≡◌, ℕ, zero, suc, ◌<◌, ◌≤◌, ◌+◌, ◌==◌, ◌||◌, cond, Bool, true, false}
use Rattle.std.proofs.Common.{List}
use Rattle.std.proofs.Common.{[], ◌∷◌, map, filter_map, Option, Some, None, refl, sym, ◌∙◌, ap, subst, inl, inr, ◌⊎◌}
use Rattle.std.proofs.{lemmas.Bool.eqb-true, lemmas.Bool.Decides.nat_tests, lemmas.Slice.Eq.bytes_eq-Decides}
use Rattle.std.specs.List.{AllByRecursion, find, range_with_len}
use Rattle.std.specs.{Option.option_and_then, Option.option_map, Str.bytes_eq}
use Rattle.book.specs.History.{Reserved, Sealed, Deposited, Calibrated, Held, Granted, Revoked, Installed, History}
use Rattle.book.specs.History.{ReservationValue, deposits, deposit_at, reservation_at, token_of, greatest_serial}
use Rattle.book.specs.Rights.{ListedValue, may_read, shown_to, seen_by, listed_as, listed_at, listed}
use Rattle.book.specs.{Readers.Viewer, Rows.DepositRow, Sound.Along, Sound.Fits, Sound.IsSound}
use Rattle.desk.specs.Command.{Setting, Command, Stamp, Begin, Finish, Abandon, Deposit, Show, Token, ListAll, Grant}
use Rattle.desk.specs.Command.{Revoke, Calibrate, Hold, Succeed, Shown, Listed, Refused}
use Rattle.desk.specs.Effects.{Effect, only, unless, fault_of, no_sight, show_effect, token_effect, reply_or_nothing}
use Rattle.desk.specs.Outcome.{Call, Fine, OutOfMemory, Failed, Outcome, Cause, OfMemory, OfStore, OfSigner, cause_of}
use Rattle.desk.specs.Sight.{MaySee, HasNoSight, IsShownFrom, IsBytesOf, IsReplyOf, IsRowOf, Climbs}
use Rattle.desk.specs.Sight.{IsListedFrom, ShowsExactly}
use Rattle.desk.specs.{Outcome.first_cause, MachineStep.HasEffect, Viewers.viewer_in}
use Rattle.desk.proofs.documents.Shows.{deposit_reserved}
use Rattle.desk.proofs.journeys.Views.{deposit_sealed, reserved_below, same_octets}

-- a deposit that is found has the number
number_here : (n : ℕ) (y d : DepositRow) (ds : List DepositRow) (same : Bool) → (y.serial == n) ≡ same
    → (find (λ x. x.serial == n) ds ≡ Some d → d.serial ≡ n)
    → cond same (Some y) (find (λ x. x.serial == n) ds) ≡ Some d → d.serial ≡ n
number_here n y d ds true same later e =
    let here : y ≡ d = cc in
    let number : y.serial ≡ n = eqb-true y.serial n same in
    cc
number_here n y d ds false same later e = later e

number_in : (n : ℕ) (ds : List DepositRow) (d : DepositRow) → find (λ x. x.serial == n) ds ≡ Some d → d.serial ≡ n
number_in n [] d e = cc
number_in n (y ∷ ds) d e = number_here n y d ds (y.serial == n) refl (number_in n ds d) e

pub deposit_number : (n : ℕ) (b : History) (d : DepositRow) → deposit_at n b ≡ Some d → d.serial ≡ n
deposit_number n b d e = number_in n (deposits b) d e

-- a serial number is not 0
some_here : (n : ℕ) (x r : ReservationValue) (at : Option ReservationValue) (same : Bool) → (x.serial == n) ≡ same
    → 1 ≤ x.serial → (at ≡ Some r → 1 ≤ n) → cond same (Some x) at ≡ Some r → 1 ≤ n
some_here n x r at true same some later e = let number : x.serial ≡ n = eqb-true x.serial n same in omega arith
some_here n x r at false same some later e = later e

some_serial : (b : History) → Along Fits b → (n : ℕ) (r : ReservationValue) → reservation_at n b ≡ Some r → 1 ≤ n
some_serial [] fits n r e = cc
some_serial (Reserved x ∷ b) fits n r e =
    let rises = fits.0.rises in
    some_here n x r (reservation_at n b) (x.serial == n) refl (omega arith) (some_serial b fits.1 n r) e
some_serial (Sealed m t ∷ b) fits n r e = some_serial b fits.1 n r e
some_serial (Deposited d t ∷ b) fits n r e = some_serial b fits.1 n r e
some_serial (Calibrated c ∷ b) fits n r e = some_serial b fits.1 n r e
some_serial (Held h ∷ b) fits n r e = some_serial b fits.1 n r e
some_serial (Granted m a ∷ b) fits n r e = some_serial b fits.1 n r e
some_serial (Revoked m a ∷ b) fits n r e = some_serial b fits.1 n r e
some_serial (Installed i ∷ b) fits n r e = some_serial b fits.1 n r e

-- what an viewer sees it may see
shown_may : (viewer : Viewer) (n : ℕ) (b : History) (x d : DepositRow) (reader own : Bool)
    → may_read viewer n b ≡ reader → bytes_eq x.owner viewer.name ≡ own
    → cond (own || reader) (Some x) None ≡ Some d
    → (x ≡ d) × ((x.owner ≡ viewer.name) ⊎ (may_read viewer n b ≡ true))
shown_may viewer n b x d reader true reads owns e = (cc, inl (same_octets x.owner viewer.name owns))
shown_may viewer n b x d true false reads owns e = (cc, inr reads)
shown_may viewer n b x d false false reads owns e = cc

may_at : (viewer : Viewer) (n : ℕ) (b : History) (d : DepositRow) (at : Option DepositRow) → deposit_at n b ≡ at
    → option_and_then (shown_to viewer (may_read viewer n b)) at ≡ Some d → MaySee viewer n b d
may_at viewer n b d None is e = cc
may_at viewer n b d (Some x) is e =
    let k = shown_may viewer n b x d (may_read viewer n b) (bytes_eq x.owner viewer.name) refl refl e in
    record {
      deposited = is ∙ ap Some k.0;
      may = subst (λ (y : DepositRow). (y.owner ≡ viewer.name) ⊎ (may_read viewer n b ≡ true)) k.0 k.1;
    }

pub may_see : (viewer : Viewer) (n : ℕ) (b : History) (d : DepositRow) → seen_by viewer n b ≡ Some d
    → MaySee viewer n b d
may_see viewer n b d e = may_at viewer n b d (deposit_at n b) refl e

-- and what it may see it sees
or_reads : (own : Bool) (d : DepositRow) → cond (own || true) (Some d) None ≡ Some d
or_reads true d = refl
or_reads false d = refl

sees_by : (viewer : Viewer) (n : ℕ) (b : History) (d : DepositRow)
    → (d.owner ≡ viewer.name) ⊎ (may_read viewer n b ≡ true)
    → cond (bytes_eq d.owner viewer.name || may_read viewer n b) (Some d) None ≡ Some d
sees_by viewer n b d (inl own) =
    ap (λ t. cond (t || may_read viewer n b) (Some d) None) ((bytes_eq-Decides d.owner viewer.name).1 own)
sees_by viewer n b d (inr reads) =
    ap (λ t. cond (bytes_eq d.owner viewer.name || t) (Some d) None) reads ∙ or_reads (bytes_eq d.owner viewer.name) d

pub sees : (viewer : Viewer) (n : ℕ) (b : History) (d : DepositRow) → MaySee viewer n b d
    → seen_by viewer n b ≡ Some d
sees viewer n b d m =
    ap (option_and_then (shown_to viewer (may_read viewer n b))) m.deposited ∙ sees_by viewer n b d m.may

unsees : (viewer : Viewer) (n : ℕ) (b : History) → seen_by viewer n b ≡ None → (d : DepositRow)
    → MaySee viewer n b d → ⊥
unsees viewer n b none d m = let some = sees viewer n b d m in cc

-- no call of the store is the signer's
unsigned : (x y z : Call) → first_cause (cause_of x ∷ cause_of y ∷ cause_of z ∷ []) ≡ Some OfSigner → ⊥
unsigned OutOfMemory y z e = cc
unsigned Failed y z e = cc
unsigned Fine OutOfMemory z e = cc
unsigned Fine Failed z e = cc
unsigned Fine Fine OutOfMemory e = cc
unsigned Fine Fine Failed e = cc
unsigned Fine Fine Fine e = cc

unsigned_call : (x : Call) → cause_of x ≡ Some OfSigner → ⊥
unsigned_call Fine e = cc
unsigned_call OutOfMemory e = cc
unsigned_call Failed e = cc

refused_sight : (IsOf : DepositRow → List ℕ → Type 0) (viewer : Viewer) (n : ℕ) (o : Outcome) (b : History)
    (cause : Cause) → HasNoSight o cause → IsShownFrom IsOf viewer n o b (Refused (fault_of cause))
refused_sight IsOf viewer n o b OfMemory h = h
refused_sight IsOf viewer n o b OfStore h = h
refused_sight IsOf viewer n o b OfSigner h = absurd (unsigned o.searching o.looking o.growing h)

searched_not : (o : Outcome) (cause : Cause) → cause_of o.searching ≡ Some cause → HasNoSight o cause
searched_not o cause e = ap (λ x. first_cause (x ∷ cause_of o.looking ∷ cause_of o.growing ∷ [])) e

looked_not : (o : Outcome) (cause : Cause) → cause_of o.searching ≡ None → no_sight o ≡ Some cause
    → HasNoSight o cause
looked_not o cause searched e =
    ap (λ x. first_cause (x ∷ cause_of o.looking ∷ cause_of o.growing ∷ [])) searched ∙ e

-- the octets of a deposit
show_some : (viewer : Viewer) (n : ℕ) (o : Outcome) (b : History) (d : DepositRow) → MaySee viewer n b d
    → cause_of o.searching ≡ None → (sight : Option Cause) → no_sight o ≡ sight
    → IsShownFrom IsBytesOf viewer n o b (unless sight (only (Shown d.bytes))).says
show_some viewer n o b d may searched None is = (d, may, refl)
show_some viewer n o b d may searched (Some cause) is =
    refused_sight IsBytesOf viewer n o b cause (looked_not o cause searched is)

show_sight : (viewer : Viewer) (n : ℕ) (o : Outcome) (b : History) (searched : Option Cause)
    → cause_of o.searching ≡ searched → (seen : Option DepositRow) → seen_by viewer n b ≡ seen
    → IsShownFrom IsBytesOf viewer n o b (unless searched (show_effect (no_sight o) seen)).says
show_sight viewer n o b (Some cause) is seen e =
    refused_sight IsBytesOf viewer n o b cause (searched_not o cause is)
show_sight viewer n o b None is None e = unsees viewer n b e
show_sight viewer n o b None is (Some d) e =
    show_some viewer n o b d (may_see viewer n b d e) is (no_sight o) refl

-- the reply with its token
reply_some : (viewer : Viewer) (n : ℕ) (o : Outcome) (b : History) (d : DepositRow) → MaySee viewer n b d
    → (token : List ℕ) → token_of n b ≡ Some token
    → IsShownFrom (IsReplyOf b) viewer n o b (reply_or_nothing (token_of n b))
reply_some viewer n o b d may token is =
    subst (λ x. IsShownFrom (IsReplyOf b) viewer n o b (reply_or_nothing x)) (sym is) (
      d,
      may,
      (token, ap (λ k. token_of k b) (deposit_number n b d may.deposited) ∙ is, refl),
    )

token_some : (viewer : Viewer) (n : ℕ) (o : Outcome) (b : History) (d : DepositRow) → MaySee viewer n b d
    → cause_of o.searching ≡ None → (sight : Option Cause) → no_sight o ≡ sight
    → IsShownFrom (IsReplyOf b) viewer n o b (unless sight (only (reply_or_nothing (token_of n b)))).says
token_some viewer n o b d may searched None is =
    let t = deposit_sealed b n d may.deposited in reply_some viewer n o b d may t.0 t.1
token_some viewer n o b d may searched (Some cause) is =
    refused_sight (IsReplyOf b) viewer n o b cause (looked_not o cause searched is)

token_sight : (viewer : Viewer) (n : ℕ) (o : Outcome) (b : History) (searched : Option Cause)
    → cause_of o.searching ≡ searched → (seen : Option DepositRow) → seen_by viewer n b ≡ seen
    → IsShownFrom (IsReplyOf b) viewer n o b (unless searched (token_effect (no_sight o) (token_of n b) seen)).says
token_sight viewer n o b (Some cause) is seen e =
    refused_sight (IsReplyOf b) viewer n o b cause (searched_not o cause is)
token_sight viewer n o b None is None e = unsees viewer n b e
token_sight viewer n o b None is (Some d) e =
    token_some viewer n o b d (may_see viewer n b d e) is (no_sight o) refl

-- a row of a list
record IsRowFor (viewer : Viewer) (b : History) (n : ℕ) (row : ListedValue) : Type 0 where
  deposit : DepositRow
  may : MaySee viewer n b deposit
  number : row.number ≡ n
  is_row : IsRowOf b deposit row

row_by : (viewer : Viewer) (b : History) (n : ℕ) (row : ListedValue) (d : DepositRow) → MaySee viewer n b d
    → (at : Option ReservationValue) → reservation_at n b ≡ at → option_map (listed_as d) at ≡ Some row
    → IsRowFor viewer b n row
row_by viewer b n row d may None is e = cc
row_by viewer b n row d may (Some r) is e =
    let own = deposit_number n b d may.deposited in
    let made : listed_as d r ≡ row = cc in
    record {
      deposit = d;
      may = may;
      number = sym (ap (λ x. x.number) made) ∙ own;
      is_row = record {
        reservation = r;
        reserved = ap (λ k. reservation_at k b) own ∙ is;
        is_row = sym made;
      };
    }

row_seen : (viewer : Viewer) (b : History) (n : ℕ) (row : ListedValue) (seen : Option DepositRow)
    → seen_by viewer n b ≡ seen
    → option_and_then (λ d. option_map (listed_as d) (reservation_at n b)) seen ≡ Some row
    → IsRowFor viewer b n row
row_seen viewer b n row None is e = cc
row_seen viewer b n row (Some d) is e =
    row_by viewer b n row d (may_see viewer n b d is) (reservation_at n b) refl e

row_of : (viewer : Viewer) (b : History) (n : ℕ) (row : ListedValue) → listed_at viewer b n ≡ Some row
    → IsRowFor viewer b n row
row_of viewer b n row e = row_seen viewer b n row (seen_by viewer n b) refl e

-- what a list of a range of numbers has
abbrev rows : Viewer → History → ℕ → ℕ → List ListedValue
rows viewer b from count = filter_map (listed_at viewer b) (range_with_len from count)

abbrev numbers : List ListedValue → List ℕ
numbers xs = map (λ row. row.number) xs

-- one number more
abbrev more_rows : Option ListedValue → List ListedValue → List ListedValue
more_rows None xs = xs
more_rows (Some x) xs = x ∷ xs

one_more : (f : ℕ → Option ListedValue) (from : ℕ) (ns : List ℕ)
    → filter_map f (from ∷ ns) ≡ more_rows (f from) (filter_map f ns)
one_more f from ns = refl

record ClimbsFrom (from : ℕ) (xs : List ListedValue) : Type 0 where
  climbs : Climbs (numbers xs)
  above : AllByRecursion (λ n. from ≤ n) (numbers xs)

lower : (m n : ℕ) → m ≤ n → (ns : List ℕ) → AllByRecursion (λ k. n ≤ k) ns → AllByRecursion (λ k. m ≤ k) ns
lower m n le [] h = tt
lower m n le (k ∷ ks) h = let first = h.0 in (omega arith, lower m n le ks h.1)

lower_than : (m n : ℕ) → m < n → (ns : List ℕ) → AllByRecursion (λ k. n ≤ k) ns → AllByRecursion (λ k. m < k) ns
lower_than m n lt [] h = tt
lower_than m n lt (k ∷ ks) h = let first = h.0 in (omega arith, lower_than m n lt ks h.1)

climbs_more : (viewer : Viewer) (b : History) (from : ℕ) (xs : List ListedValue) → ClimbsFrom (from + 1) xs
    → (found : Option ListedValue) → listed_at viewer b from ≡ found → ClimbsFrom from (more_rows found xs)
climbs_more viewer b from xs h None is = record {
  climbs = h.climbs;
  above = lower from (from + 1) (omega arith) (numbers xs) h.above;
}
climbs_more viewer b from xs h (Some row) is =
    let number = (row_of viewer b from row is).number in
    record {
      climbs = (lower_than row.number (from + 1) (omega arith) (numbers xs) h.above, h.climbs);
      above = (omega arith, lower from (from + 1) (omega arith) (numbers xs) h.above);
    }

rows_climb : (viewer : Viewer) (b : History) (from count : ℕ) → ClimbsFrom from (rows viewer b from count)
rows_climb viewer b from zero = record { climbs = tt; above = tt }
rows_climb viewer b from (suc count) =
    subst (ClimbsFrom from) (sym (one_more (listed_at viewer b) from (range_with_len (from + 1) count)))
    (climbs_more viewer b from (rows viewer b (from + 1) count) (rows_climb viewer b (from + 1) count)
    (listed_at viewer b from) refl)

-- each row is of a number
abbrev IsOfSome : Viewer → History → ListedValue → Type 0
IsOfSome viewer b row = (n : ℕ) × (listed_at viewer b n ≡ Some row)

row_more : (viewer : Viewer) (b : History) (from : ℕ) (xs : List ListedValue) (row : ListedValue)
    → (Contains xs row → IsOfSome viewer b row) → (found : Option ListedValue) → listed_at viewer b from ≡ found
    → Contains (more_rows found xs) row → IsOfSome viewer b row
row_more viewer b from xs row others None is h = others h
row_more viewer b from xs row others (Some x) is (zero, below, same) =
    let here : x ≡ row = cc in (from, is ∙ ap Some here)
row_more viewer b from xs row others (Some x) is (suc k, below, same) = others (k, omega arith, same)

row_in : (viewer : Viewer) (b : History) (from count : ℕ) (row : ListedValue) → Contains (rows viewer b from count) row
    → IsOfSome viewer b row
row_in viewer b from zero row (k, below, same) = absurd (omega arith)
row_in viewer b from (suc count) row h =
    row_more viewer b from (rows viewer b (from + 1) count) row (row_in viewer b (from + 1) count row)
    (listed_at viewer b from) refl
    (subst (λ xs. Contains xs row) (one_more (listed_at viewer b) from (range_with_len (from + 1) count)) h)

-- and each number in the range that has a row, has it in the list
contained_more : (found : Option ListedValue) (xs : List ListedValue) (row : ListedValue) → Contains xs row
    → Contains (more_rows found xs) row
contained_more None xs row h = h
contained_more (Some x) xs row (k, below, same) = (suc k, omega arith, same)

contained_here : (found : Option ListedValue) (xs : List ListedValue) (row : ListedValue) → found ≡ Some row
    → Contains (more_rows found xs) row
contained_here None xs row e = cc
contained_here (Some x) xs row e = let here : x ≡ row = cc in (0, omega arith, here)

next_of : (from n : ℕ) → from ≤ n → (from == n) ≡ false → from + 1 ≤ n
next_of from n low other = grind (arith, nat_tests)

row_at : (viewer : Viewer) (b : History) (from count n : ℕ) (row : ListedValue) (here : Bool) → (from == n) ≡ here
    → (from + 1 ≤ n → Contains (rows viewer b (from + 1) count) row) → from ≤ n → listed_at viewer b n ≡ Some row
    → Contains (more_rows (listed_at viewer b from) (rows viewer b (from + 1) count)) row
row_at viewer b from count n row true same later low is =
    let number : from ≡ n = eqb-true from n same in
    contained_here (listed_at viewer b from) (rows viewer b (from + 1) count) row
    (ap (listed_at viewer b) number ∙ is)
row_at viewer b from count n row false other later low is =
    contained_more (listed_at viewer b from) (rows viewer b (from + 1) count) row (later (next_of from n low other))

has_row : (viewer : Viewer) (b : History) (from count n : ℕ) (row : ListedValue) → from ≤ n → n < from + count
    → listed_at viewer b n ≡ Some row → Contains (rows viewer b from count) row
has_row viewer b from zero n row low high is = absurd (omega arith)
has_row viewer b from (suc count) n row low high is =
    subst (λ xs. Contains xs row) (sym (one_more (listed_at viewer b) from (range_with_len (from + 1) count)))
    (row_at viewer b from count n row (from == n) refl
    (λ later. has_row viewer b (from + 1) count n row later (omega arith) is) low is)

-- the whole list
list_only : (viewer : Viewer) (b : History) (row : ListedValue) → Contains (listed viewer b) row
    → (d : DepositRow) × MaySee viewer row.number b d × IsRowOf b d row
list_only viewer b row h =
    let found = row_in viewer b 1 (greatest_serial b) row h in
    let r = row_of viewer b found.0 row found.1 in
    (r.deposit, subst (λ n. MaySee viewer n b r.deposit) (sym r.number) r.may, r.is_row)

list_all : (viewer : Viewer) (b : History) → IsSound b → (n : ℕ) (d : DepositRow) → MaySee viewer n b d
    → (row : ListedValue) × Contains (listed viewer b) row × (row.number ≡ n) × IsRowOf b d row
list_all viewer b sound n d m =
    let r = deposit_reserved b sound n d m.deposited in
    let own = deposit_number n b d m.deposited in
    let low = some_serial b sound n r.0 r.1 in
    let high = reserved_below n b r.0 r.1 in
    let is : listed_at viewer b n ≡ Some (listed_as d r.0) =
    ap (option_and_then (λ x. option_map (listed_as x) (reservation_at n b))) (sees viewer n b d m)
    ∙ ap (option_map (listed_as d)) r.1 in (
      listed_as d r.0,
      has_row viewer b 1 (greatest_serial b) n (listed_as d r.0) low (omega arith) is,
      own,
      record {
        reservation = r.0;
        reserved = ap (λ k. reservation_at k b) own ∙ r.1;
        is_row = refl;
      },
    )

list_sight : (viewer : Viewer) (o : Outcome) (b : History) → IsSound b → (looked : Option Cause)
    → cause_of o.looking ≡ looked
    → IsListedFrom viewer o b (unless looked (only (Listed (listed viewer b)))).says
list_sight viewer o b sound None is = record {
  rising = (rows_climb viewer b 1 (greatest_serial b)).climbs;
  only = list_only viewer b;
  all = list_all viewer b sound;
}
list_sight viewer o b sound (Some OfMemory) is = is
list_sight viewer o b sound (Some OfStore) is = is
list_sight viewer o b sound (Some OfSigner) is = absurd (unsigned_call o.looking is)

pub shows_exactly : (s : Setting) (c : Command) (o : Outcome) (b : History) (e : Effect) → IsSound b
    → HasEffect s c o b e → ShowsExactly s.file c o b e.says
shows_exactly s (Show a n) o b e sound h =
    subst (λ x. ShowsExactly s.file (Show a n) o b x.says) (sym h)
    (show_sight (viewer_in s.file a.name) n o b (cause_of o.searching) refl (seen_by (viewer_in s.file a.name) n b) refl)
shows_exactly s (Token a n) o b e sound h =
    subst (λ x. ShowsExactly s.file (Token a n) o b x.says) (sym h)
    (token_sight (viewer_in s.file a.name) n o b (cause_of o.searching) refl (seen_by (viewer_in s.file a.name) n b) refl)
shows_exactly s (ListAll a) o b e sound h =
    subst (λ x. ShowsExactly s.file (ListAll a) o b x.says) (sym h)
    (list_sight (viewer_in s.file a.name) o b sound (cause_of o.looking) refl)
shows_exactly s (Stamp account reading octets) o b e sound h = tt
shows_exactly s (Begin account reading octets) o b e sound h = tt
shows_exactly s (Finish p signature) o b e sound h = tt
shows_exactly s (Abandon p) o b e sound h = tt
shows_exactly s (Deposit a reading reference bytes) o b e sound h = tt
shows_exactly s (Grant a n reader) o b e sound h = tt
shows_exactly s (Revoke a n reader) o b e sound h = tt
shows_exactly s (Calibrate c) o b e sound h = tt
shows_exactly s (Hold k) o b e sound h = tt
shows_exactly s (Succeed next) o b e sound h = tt
