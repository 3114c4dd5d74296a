-- A walk from one visible deposit to the next lists all of them, by number.
use Rattle.store.proofs.Words.{Account, Bool, Contains, DepositRow, Group, History, IfSome, IsLeastAs, IsSound, List}
use Rattle.store.proofs.Words.{ListedValue, None, Option, Reader, ReaderRow, ShowsDepositSerial, ShowsReaderSerial}
use Rattle.store.proofs.Words.{Some, Viewer, [], and_parts, ap, arith, bytes_eq, cases_Bool, cond, deposit_at, eq-eqb}
use Rattle.store.proofs.Words.{eqb-true, false, filter_map, filter_map-append, get_or, greatest_number, greatest_serial}
use Rattle.store.proofs.Words.{inl, inr, is_owned, is_owned_after, is_readable_after, is_reader, is_reader_row, is_some}
use Rattle.store.proofs.Words.{is_visible, le-leb, length, list_any, listed, listed_as, listed_at, lt-ltb, ltb-false}
use Rattle.store.proofs.Words.{ltb-true, map, may_read, min, name_of, nat_lt, option_and_then, option_map}
use Rattle.store.proofs.Words.{option_to_list, range_with_len, refl, reservation_at, rights_of, seen_by, shown_to}
use Rattle.store.proofs.Words.{subst, suc, sym, true, zero, ℕ, ◌&&◌, ◌++◌, ◌+◌, ◌-◌, ◌<◌, ◌==◌, ◌||◌, ◌∙◌, ◌∷◌, ◌≡◌}
use Rattle.store.proofs.DepositRows.{none_beyond, serials_within, visible_view}
use Rattle.store.proofs.{Words.◌≤◌, Words.◌⊎◌, Members.none_pass, Members.some_pass, Readers.rights_are}
use Rattle.store.specs.auxiliary.Replay.{replayed}
use Rattle.store.specs.auxiliary.Steps.{AreCursors, AreNextReadable, IsNextOf, IsNextReadable, IsNextSeen, later_of}
use Rattle.store.specs.auxiliary.Steps.{least_in, least_of, listing_at}

-- ---- the next row

passes_later : {X : Type 0} (key : X → ℕ) (mine : X → Bool) (x : X) (n after : ℕ) → after < n
    → ((key x == n) && mine x) ≡ true
    → ((mine x && nat_lt after (key x)) ≡ true) × (key x ≡ n)
passes_later key mine x n after later t =
    let parts = and_parts (key x == n) (mine x) t in
    let is : key x ≡ n = eqb-true (key x) n parts.0 in
    let lt : nat_lt after (key x) ≡ true = lt-ltb after (key x) (omega (arith, later, is)) in
    (rw (parts.1, lt) refl, is)

next_row : {X : Type 0} (key : X → ℕ) (mine : X → Bool) (rows : List X) (after : ℕ) (answer : Option ℕ)
    → IsLeastAs (λ x n. n ≡ key x) key (λ x. mine x && nat_lt after (key x)) rows answer
    → IsNextOf (λ n. list_any (λ x. (key x == n) && mine x) rows) after answer
next_row {X} key mine rows after None found =
    λ n later. none_pass (λ x. (key x == n) && mine x) rows (fails n later) where
      fails : (n : ℕ) → after < n → (x : X) → Contains rows x → ((key x == n) && mine x) ≡ false
      fails n later x m =
          elim (cases_Bool ((key x == n) && mine x)) [
            | inl t ↦ (let passes = passes_later key mine x n after later t in let fails = found x m in let no =
                passes.0 in cc)
            | inr f ↦ f
          ]
next_row {X} key mine rows after (Some next) (x, m, passes, least, shows) =
    let parts = and_parts (mine x) (nat_lt after (key x)) passes in
    let lt : after < key x = ltb-true after (key x) parts.1 in
    let here : ((key x == next) && mine x) ≡ true = rw (eq-eqb (key x) next (sym shows), parts.0) refl in
    (omega (arith, lt, shows), some_pass (λ x. (key x == next) && mine x) rows x m here, between) where
      between : (n : ℕ) → after < n → n < next → list_any (λ x. (key x == n) && mine x) rows ≡ false
      between n later before = none_pass (λ x. (key x == n) && mine x) rows fails where
        fails : (y : X) → Contains rows y → ((key y == n) && mine y) ≡ false
        fails y k =
            elim (cases_Bool ((key y == n) && mine y)) [
              | inl t ↦ (let passes = passes_later key mine y n after later t in
                  let above = least y k passes.0 in absurd (omega (arith, above, passes.1, shows, before)))
              | inr f ↦ f
            ]

nat_cases : (n m : ℕ) → (n ≤ m) ⊎ (m < n)
nat_cases n m =
    elim (cases_Bool (nat_lt m n)) [
      | inl t ↦ inr (ltb-true m n t)
      | inr f ↦ inl (omega (arith, ltb-false m n f))
    ]

-- the lesser of two is the next of both
least_next : (p q : ℕ → Bool) (after : ℕ) (a b : Option ℕ) → IsNextOf p after a → IsNextOf q after b
    → IsNextOf (λ n. p n || q n) after (least_of a b)
least_next p q after None None f g = λ n later. rw (f n later, g n later) refl
least_next p q after None (Some m) f g =
    let here : p m ≡ false = f m g.0 in
    (g.0, rw (here, g.1) refl, λ n later before. rw (f n later, g.2 n later before) refl)
least_next p q after (Some n) None f g = (f.0, rw f.1 refl, λ k later before. rw (f.2 k later before, g k later) refl)
least_next p q after (Some n) (Some m) f g =
    elim (nat_cases n m) [
      | inl less ↦ (let is : min n m ≡ n = omega (arith, less) in
          let P : ℕ → Type 0 = λ v. (after < v) × ((p v || q v) ≡ true) × ((k : ℕ) → after < k → k < v
          → (p k || q k) ≡ false) in
          subst P (sym is) (
            f.0,
            rw f.1 refl,
            λ k later before. rw
                (f.2 k later before, g.2 k later (omega (arith, before, less))) refl,
          ))
      | inr more ↦ (let is : min n m ≡ m = omega (arith, more) in
          let P : ℕ → Type 0 = λ v. (after < v) × ((p v || q v) ≡ true) × ((k : ℕ) → after < k → k < v
          → (p k || q k) ≡ false) in
          subst P (sym is) (
            g.0,
            rw g.1 (or_true (p m)),
            λ k later before. rw
                (f.2 k later (omega (arith, before, more)), g.2 k later before) refl,
          ))
    ] where
      or_true : (a : Bool) → (a || true) ≡ true
      or_true true = refl
      or_true false = refl

-- tests that say the same have the same next number
next_same : (p q : ℕ → Bool) (after : ℕ) (answer : Option ℕ) → ((n : ℕ) → p n ≡ q n) → IsNextOf p after answer
    → IsNextOf q after answer
next_same p q after None same next = λ n later. sym (same n) ∙ next n later
next_same p q after (Some m) same next =
    (next.0, sym (same m) ∙ next.1, λ n later before. sym (same n) ∙ next.2 n later before)

-- the next row of a reader is the next deposit that it reads
pub right_view : (reader : Reader) (b : History) (after : ℕ) (readable : Option ℕ)
    → IsLeastAs ShowsReaderSerial (λ row. row.serial) (is_readable_after (name_of reader) after)
    (rights_of reader (replayed b)) readable
    → IsNextReadable reader after b readable
right_view reader b after readable found =
    let rows : ℕ → Bool = λ n. list_any (is_reader_row n (name_of reader)) (rights_of reader (replayed b)) in
    next_same rows (λ n. is_reader n reader b) after readable (λ n. rights_are reader b n)
    (next_row (λ (row : ReaderRow). row.serial) (λ (row : ReaderRow). bytes_eq row.name (name_of reader))
    (rights_of reader (replayed b)) after readable found)

-- what is beyond all serial numbers isn't seen
unseen_beyond : (b : History) (viewer : Viewer) (n : ℕ) → IsSound b → greatest_serial b < n
    → is_visible viewer n b ≡ false
unseen_beyond b viewer n s later = rw (none_beyond b n s later) refl

seen_within : (b : History) (viewer : Viewer) (n : ℕ) → IsSound b → is_visible viewer n b ≡ true
    → n ≤ greatest_number
seen_within b viewer n s seen =
    elim (nat_cases n (greatest_serial b)) [
      | inl below ↦ (let within = serials_within b s in omega (arith, below, within))
      | inr beyond ↦ (let unseen = unseen_beyond b viewer n s beyond in cc)
    ]

-- a next number stays so up to itself
pub still_next : (test : ℕ → Bool) (before after : ℕ) (next : Option ℕ) → before < after
    → IfSome next (λ n. after < n) → IsNextOf test before next → IsNextOf test after next
still_next test before after None less above next = λ n later. next n (omega (arith, less, later))
still_next test before after (Some m) less above next =
    (above, next.1, λ n later within. next.2 n (omega (arith, less, later)) within)

-- so do cursors
pub still_cursors : (b : History) (viewer : Viewer) (before after : ℕ) (own : Option ℕ) (shared : List (Option ℕ))
    → before < after → AreNextReadable viewer before b own shared → AreCursors viewer after b own shared
still_cursors b viewer before after own shared less next = (
  λ above. still_next (λ n. is_reader n (Account viewer.name) b) before after own less above next.0,
  λ k within above.
      still_next (λ n. is_reader n (Group (get_or viewer.groups k [])) b) before after (get_or shared k None) less above
      (next.1 k within),
)

or_false : (v : Bool) → v ≡ (v || false)
or_false true = refl
or_false false = refl

or_first : (u v w : Bool) → ((u || v) || w) ≡ (u || (v || w))
or_first true v w = refl
or_first false v w = refl

-- the least of many is the next of all of them
least_all : (b : History) (names : List (List ℕ)) (test : ℕ → Bool) (after : ℕ) (own : Option ℕ)
    (shared : List (Option ℕ)) → length shared ≡ length names → IsNextOf test after own
    → ((k : ℕ) → k < length names → IsNextReadable (Group (get_or names k [])) after b (get_or shared k None))
    → IsNextOf (λ n. test n || list_any (λ reader. is_reader n reader b) (map Group names)) after (least_in own shared)
least_all b [] test after own [] same first each =
    next_same test (λ n. test n || false) after own (λ n. or_false (test n)) first
least_all b [] test after own (next ∷ shared) same first each = absurd (omega (arith, same))
least_all b (name ∷ names) test after own [] same first each = absurd (omega (arith, same))
least_all b (name ∷ names) test after own (next ∷ shared) same first each =
    let more : ℕ → Bool = λ n. test n || is_reader n (Group name) b in
    let others : ℕ → Bool = λ n. list_any (λ reader. is_reader n reader b) (map Group names) in
    next_same (λ n. more n || others n) (λ n. test n || (is_reader n (Group name) b || others n)) after
    (least_in (least_of own next) shared)
    (λ n. or_first (test n) (is_reader n (Group name) b) (others n))
    (least_all b names more after (least_of own next) shared (omega (arith, same))
    (least_next test (λ n. is_reader n (Group name) b) after own next first (each 0 (omega arith)))
    (λ k within. each (suc k) (omega (arith, within))))

-- the least of the next that an account owns and of those that it reads is the next that it sees
pub next_view : (b : History) (viewer : Viewer) (after : ℕ) (owned own : Option ℕ) (shared : List (Option ℕ))
    → IsSound b → length shared ≡ length viewer.groups
    → IsLeastAs ShowsDepositSerial (λ row. row.serial) (is_owned_after viewer.name after) (replayed b).deposits owned
    → AreNextReadable viewer after b own shared
    → IsNextSeen viewer after b (least_of owned (least_in own shared))
next_view b viewer after owned own shared s same first next =
    let owns : ℕ → Bool = λ n. list_any (is_owned n viewer.name) (replayed b).deposits in
    let mine : IsNextOf owns after owned =
    next_row (λ (row : DepositRow). row.serial) (λ (row : DepositRow). bytes_eq row.owner viewer.name)
    (replayed b).deposits after owned first in
    let read : IsNextOf (λ n. may_read viewer n b) after (least_in own shared) =
    least_all b viewer.groups (λ n. is_reader n (Account viewer.name) b) after own shared same next.0 next.1 in
    next_same (λ n. owns n || may_read viewer n b) (λ n. is_visible viewer n b) after
    (least_of owned (least_in own shared))
    (λ n. visible_view b n viewer s)
    (least_next owns (λ n. may_read viewer n b) after owned (least_in own shared) mine read)

-- the next is after the last, and a serial number
pub later_view : (b : History) (viewer : Viewer) (after : ℕ) (next : Option ℕ) → IsSound b
    → IsNextSeen viewer after b next → IsNextSeen viewer after b (later_of after next)
later_view b viewer after None s next = next
later_view b viewer after (Some n) s next =
    let small : n ≤ greatest_number = seen_within b viewer n s next.1 in
    let same : later_of after (Some n) ≡ Some n = rw (lt-ltb after n next.0, le-leb n greatest_number small) refl in
    subst (λ o. IsNextSeen viewer after b o) (sym same) next

-- ---- the walk

-- what is listed of the numbers up to one
abbrev pub listed_up_to : Viewer → History → ℕ → List ListedValue
listed_up_to viewer b n = filter_map (listed_at viewer b) (range_with_len 1 n)

range_more : (a n : ℕ) → range_with_len a (suc n) ≡ range_with_len a n ++ (a + n) ∷ []
range_more a zero = let same : a ≡ a + 0 = omega arith in ap (λ k. k ∷ []) same
range_more a (suc n) =
    let rest = range_more (a + 1) n in
    let same : a + 1 + n ≡ a + suc n = omega arith in
    ap (λ l. a ∷ l) rest ∙ ap (λ k. a ∷ (range_with_len (a + 1) n ++ k ∷ [])) same

one_more : (viewer : Viewer) (b : History) (n : ℕ)
    → listed_up_to viewer b (suc n) ≡ listed_up_to viewer b n ++ option_to_list (listed_at viewer b (suc n))
one_more viewer b n =
    let same : 1 + n ≡ suc n = omega arith in
    ap (filter_map (listed_at viewer b)) (range_more 1 n ∙ ap (λ k. range_with_len 1 n ++ k ∷ []) same)
    ∙ filter_map-append (listed_at viewer b) (range_with_len 1 n) (suc n ∷ [])
    ∙ ap (λ l. listed_up_to viewer b n ++ l) (of_one (listed_at viewer b (suc n)) refl) where
      of_one : (o : Option ListedValue) → listed_at viewer b (suc n) ≡ o
          → filter_map (listed_at viewer b) (suc n ∷ []) ≡ option_to_list o
      of_one None e = rw e refl
      of_one (Some v) e = rw e refl

hidden : (viewer : Viewer) (b : History) (n : ℕ) → is_visible viewer n b ≡ false → listed_at viewer b n ≡ None
hidden viewer b n e = go (seen_by viewer n b) e where
  go : (o : Option DepositRow) → is_some o ≡ false
      → option_and_then (λ d. option_map (listed_as d) (reservation_at n b)) o ≡ None
  go None e = refl
  go (Some d) e = cc

-- numbers that who asks doesn't see add nothing
passed_over : (viewer : Viewer) (b : History) (from k : ℕ)
    → ((n : ℕ) → from < n → n ≤ from + k → is_visible viewer n b ≡ false)
    → listed_up_to viewer b (from + k) ≡ listed_up_to viewer b from
passed_over viewer b from zero none = let same : from + 0 ≡ from = omega arith in ap (listed_up_to viewer b) same
passed_over viewer b from (suc k) none =
    let same : from + suc k ≡ suc (from + k) = omega arith in
    let last = hidden viewer b (suc (from + k)) (none (suc (from + k)) (omega arith) (omega arith)) in
    ap (listed_up_to viewer b) same ∙ one_more viewer b (from + k)
    ∙ rw last (append_nothing (listed_up_to viewer b (from + k)))
    ∙ passed_over viewer b from k (λ n later within. none n later (omega (arith, within))) where
      append_nothing : (xs : List ListedValue) → xs ++ [] ≡ xs
      append_nothing [] = refl
      append_nothing (x ∷ xs) = ap (λ l. x ∷ l) (append_nothing xs)

shown_whole : (viewer : Viewer) (b : History) (n : ℕ) → is_visible viewer n b ≡ true
    → listed_at viewer b n ≡ listing_at n b
shown_whole viewer b n e = go (deposit_at n b) e where
  go : (o : Option DepositRow) → is_some (option_and_then (shown_to viewer (may_read viewer n b)) o) ≡ true
      → option_and_then (λ d. option_map (listed_as d) (reservation_at n b))
      (option_and_then (shown_to viewer (may_read viewer n b)) o)
      ≡ option_and_then (λ d. option_map (listed_as d) (reservation_at n b)) o
  go None e = refl
  go (Some d) e = of_test (bytes_eq d.owner viewer.name || may_read viewer n b) e where
    of_test : (v : Bool) → is_some (cond v (Some d) None) ≡ true
        → option_and_then (λ d. option_map (listed_as d) (reservation_at n b)) (cond v (Some d) None)
        ≡ option_map (listed_as d) (reservation_at n b)
    of_test true e = refl
    of_test false e = cc

-- one step: the next that is seen adds what a list shows of it
pub next_listed : (viewer : Viewer) (b : History) (after next : ℕ) → IsNextSeen viewer after b (Some next)
    → listed_up_to viewer b next ≡ listed_up_to viewer b after ++ option_to_list (listing_at next b)
next_listed viewer b after next is =
    let lt = is.0 in
    let k : ℕ = next - suc after in
    let at : next ≡ suc (after + k) = omega (arith, lt) in
    let P : ℕ → Type 0 = λ n. is_visible viewer n b ≡ true in
    let skipped = passed_over viewer b after k (λ n later within. is.2 n later (omega (arith, within, lt))) in
    ap (listed_up_to viewer b) at ∙ one_more viewer b (after + k)
    ∙ ap (λ l. l ++ option_to_list (listed_at viewer b (suc (after + k)))) skipped
    ∙ ap (λ n. listed_up_to viewer b after ++ option_to_list (listed_at viewer b n)) (sym at)
    ∙ ap (λ o. listed_up_to viewer b after ++ option_to_list o) (shown_whole viewer b next is.1)

-- the end: all is listed
pub all_listed : (viewer : Viewer) (b : History) (after : ℕ) → IsSound b → IsNextSeen viewer after b None
    → listed_up_to viewer b after ≡ listed viewer b
all_listed viewer b after s none =
    elim (nat_cases after (greatest_serial b)) [
      | inl before ↦ (let k : ℕ = greatest_serial b - after in
          let at : after + k ≡ greatest_serial b = omega (arith, before) in
          sym (sym (ap (listed_up_to viewer b) at) ∙ passed_over viewer b after k (λ n later within. none n later)))
      | inr beyond ↦ (let k : ℕ = after - greatest_serial b in
          let at : greatest_serial b + k ≡ after = omega (arith, beyond) in
          sym (ap (listed_up_to viewer b) at)
          ∙ passed_over viewer b (greatest_serial b) k (λ n later within. unseen n later))
    ] where
      unseen : (n : ℕ) → greatest_serial b < n → is_visible viewer n b ≡ false
      unseen n later = unseen_beyond b viewer n s later
