-- The stamps of a range: the one with the least serial number comes first.
use Rattle.book.specs.Rows.{StampRow}
use Rattle.store.proofs.Words.{AllByRecursion, Bool, Contains, History, IfSome, IsLeastAs, IsNextStamp, IsSound}
use Rattle.store.proofs.Words.{IsWithin, List, None, Option, Reserved, ShowsStamp, Some, Stamp, [], ap, arith}
use Rattle.store.proofs.Words.{cases_Bool, false, filter, greatest_number, inl, inr, is_within, le-min, leb_tells, map}
use Rattle.store.proofs.Words.{min, min-le_left, min-le_right, nat_le, refl, reservations, reverse, reverse-append}
use Rattle.store.proofs.Words.{stamp_of, stamp_view, stamps, stamps_between, subst, sym, token_of, true, ℕ, ◌&&◌, ◌++◌}
use Rattle.store.proofs.Words.{◌+◌, ◌<◌, ◌^◌, ◌∙◌, ◌∷◌, ◌≡◌, ◌≤◌}
use Rattle.store.proofs.Members.{IsFalling, all_of, member_after, member_cases, member_here, no_member}
use Rattle.store.proofs.{FallingSerials.stamps_fall, Stamps.stamps_are}
use Rattle.store.specs.{auxiliary.Replay.replayed, auxiliary.Steps.only_within}

filter_keeps : {X : Type 0} (p : X → Bool) (x : X) (xs : List X) → p x ≡ true → filter p (x ∷ xs) ≡ x ∷ filter p xs
filter_keeps p x xs e = rw e refl

filter_drops : {X : Type 0} (p : X → Bool) (x : X) (xs : List X) → p x ≡ false → filter p (x ∷ xs) ≡ filter p xs
filter_drops p x xs e = rw e refl

filter_none : {X : Type 0} (p : X → Bool) (xs : List X) → ((x : X) → Contains xs x → p x ≡ false) → filter p xs ≡ []
filter_none p [] none = refl
filter_none p (x ∷ xs) none =
    filter_drops p x xs (none x (member_here x xs)) ∙ filter_none p xs (λ y m. none y (member_after x y xs m))

filter_same : {X : Type 0} (p q : X → Bool) (xs : List X) → AllByRecursion (λ x. p x ≡ q x) xs
    → filter p xs ≡ filter q xs
filter_same p q [] same = refl
filter_same p q (x ∷ xs) same = elim (cases_Bool (q x)) [
  | inl kept ↦
      filter_keeps p x xs (same.0 ∙ kept) ∙ ap (λ l. x ∷ l) (filter_same p q xs same.1) ∙ sym (filter_keeps q x xs kept)
  | inr dropped ↦ filter_drops p x xs (same.0 ∙ dropped) ∙ filter_same p q xs same.1 ∙ sym (filter_drops q x xs dropped)
]

le_true : (a b : ℕ) → a ≤ b → nat_le a b ≡ true
le_true a b l = elim (leb_tells a b) [ inl t ↦ t.0 | inr f ↦ absurd (omega (arith, l, f.1)) ]

le_false : (a b : ℕ) → b < a → nat_le a b ≡ false
le_false a b l = elim (leb_tells a b) [ inl t ↦ absurd (omega (arith, l, t.1)) | inr f ↦ f.0 ]

before_false : (from to : ℕ) (s : StampRow) → s.serial < from → is_within from to s ≡ false
before_false from to s before = rw (le_false from s.serial before) refl

after_false : (from to : ℕ) (s : StampRow) → to < s.serial → is_within from to s ≡ false
after_false from to s after = rw (le_false s.serial to after) (and_false (nat_le from s.serial))
  where
    and_false : (a : Bool) → a && false ≡ false
    and_false true = refl
    and_false false = refl

within_least : (from to : ℕ) (s : StampRow) → is_within from to s ≡ true → from ≤ s.serial
within_least from to s e =
    elim (leb_tells from s.serial) [ inl t ↦ t.1 | inr f ↦ absurd (let no = before_false from to s f.1 in cc) ]

within_most : (from to : ℕ) (s : StampRow) → is_within from to s ≡ true → s.serial ≤ to
within_most from to s e =
    elim (leb_tells s.serial to) [ inl t ↦ t.1 | inr f ↦ absurd (let no = after_false from to s f.1 in cc) ]

-- after a number that is in the range already, only the upper end counts
moved_within : (from to at : ℕ) (s : StampRow) → from ≤ at → at < s.serial
    → is_within from to s ≡ is_within (at + 1) to s
moved_within from to at s least later =
    rw (le_true from s.serial (omega (arith, least, later)), le_true (at + 1) s.serial (omega (arith, later))) refl

-- the least of a range stands last, and those above it before
least_last : (from to : ℕ) (l : List StampRow) (x : StampRow) → IsFalling (λ s. s.serial) l → Contains l x
    → is_within from to x ≡ true
    → ((other : StampRow) → Contains l other → is_within from to other ≡ true → x.serial ≤ other.serial)
    → filter (is_within from to) l ≡ filter (is_within (x.serial + 1) to) l ++ x ∷ []
least_last from to [] x fall m here least = absurd (no_member x m)
least_last from to (y ∷ ys) x fall m here least =
    elim (member_cases y x ys m) [
      | inl same ↦
          let below : (z : StampRow) → Contains ys z → z.serial < x.serial = λ z there.
          subst (λ (v : StampRow). z.serial < v.serial) same
          (all_of (λ (z : StampRow). z.serial < y.serial) ys z fall.0 there) in
          let rest = filter_none (is_within from to) ys (λ z there. elim (cases_Bool (is_within from to z)) [
            | inl in_it ↦ absurd (let most = least z (member_after y z ys there) in
                let less = below z there in omega (arith, most, less))
            | inr out ↦ out
          ]) in
          let above = filter_none (is_within (x.serial + 1) to) (y ∷ ys)
          (λ z there. before_false (x.serial + 1) to z (elim (member_cases y z ys there) [
            | inl first ↦ subst (λ (v : StampRow). v.serial < x.serial + 1) (sym same ∙ first) (omega arith)
            | inr later ↦ (let less = below z later in omega (arith, less))
          ])) in
          filter_keeps (is_within from to) y ys (subst (λ (v : StampRow). is_within from to v ≡ true) (sym same) here)
          ∙ ap (λ l. y ∷ l) rest ∙ ap (λ v. v ∷ []) same ∙ sym (ap (λ l. l ++ x ∷ []) above)
      | inr there ↦
          let later : x.serial < y.serial = all_of (λ (z : StampRow). z.serial < y.serial) ys x fall.0 there in
          let rest = least_last from to ys x fall.1 there here (λ z in_ys. least z (member_after y z ys in_ys)) in
          let same = moved_within from to x.serial y (within_least from to x here) later in
          elim (cases_Bool (is_within (x.serial + 1) to y)) [
            | inl kept ↦
                filter_keeps (is_within from to) y ys (same ∙ kept) ∙ ap (λ l. y ∷ l) rest
                ∙ sym (ap (λ l. l ++ x ∷ []) (filter_keeps (is_within (x.serial + 1) to) y ys kept))
            | inr dropped ↦
                filter_drops (is_within from to) y ys (same ∙ dropped) ∙ rest
                ∙ sym (ap (λ l. l ++ x ∷ []) (filter_drops (is_within (x.serial + 1) to) y ys dropped))
          ]
    ]

small_rows : (b c : History) → IsSound b → AllByRecursion (λ (s : StampRow). s.serial ≤ greatest_number)
    (map (λ r. stamp_of (token_of r.serial c) r) (reservations b))
small_rows [] c s = tt
small_rows (Reserved r ∷ b) c s = (s.0.within, small_rows b c s.1)
small_rows (_ ∷ b) c s = small_rows b c s.1

-- no serial number is above the greatest that there can be
pub capped : (b : History) (from to cap : ℕ) → IsSound b → cap ≡ min to greatest_number
    → filter (is_within from cap) (stamps b) ≡ filter (is_within from to) (stamps b)
capped b from to cap s is =
    filter_same (is_within from cap) (is_within from to) (stamps b) (each (stamps b) (small_rows b b s))
  where
    one : (row : StampRow) → row.serial ≤ greatest_number → is_within from cap row ≡ is_within from to row
    one row small =
        let left = min-le_left to greatest_number in
        elim (leb_tells row.serial to) [
          | inl t ↦ rw (t.0, le_true row.serial cap (subst (λ c. row.serial ≤ c) (sym is) (le-min t.1 small))) refl
          | inr f ↦ rw (f.0, le_false row.serial cap (omega (arith, f.1, is, left))) refl
        ]

    each : (rows : List StampRow) → AllByRecursion (λ (s : StampRow). s.serial ≤ greatest_number) rows
        → AllByRecursion (λ row. is_within from cap row ≡ is_within from to row) rows
    each [] small = tt
    each (row ∷ rows) small = (one row small.0, each rows small.1)

-- what a look-up of the least of a range answers is the next of a walk
pub next_view : (b : History) (from to cap : ℕ) (found : Option Stamp) → IsSound b → cap ≡ min to greatest_number
    → IsLeastAs ShowsStamp (λ row. row.serial) (is_within from cap) (replayed b).stamps found
    → IsNextStamp from to b (only_within from cap found)
next_view b from to cap found s is least =
    go found (subst (λ rows. IsLeastAs ShowsStamp (λ row. row.serial) (is_within from cap) rows found) (stamps_are b s)
    least)
  where
    kept : (stamp : Stamp) → is_within from cap (stamp_view stamp) ≡ true
        → only_within from cap (Some stamp) ≡ Some stamp
    kept stamp inside = rw inside refl

    go : (found : Option Stamp) → IsLeastAs ShowsStamp (λ row. row.serial) (is_within from cap) (stamps b) found
        → IsNextStamp from to b (only_within from cap found)
    go None none = ap reverse (sym (capped b from to cap s is) ∙ filter_none (is_within from cap) (stamps b) none)
    go (Some stamp) (row, there, here, first, shows) =
        let inside : is_within from cap (stamp_view stamp) ≡ true =
        subst (λ (r : StampRow). is_within from cap r ≡ true) (sym shows) here in
        let last : filter (is_within from cap) (stamps b)
        ≡ filter (is_within (row.serial + 1) cap) (stamps b) ++ row ∷ [] =
        least_last from cap (stamps b) row (stamps_fall b s) there here first in
        let rows : filter (is_within from to) (stamps b)
        ≡ filter (is_within (row.serial + 1) to) (stamps b) ++ row ∷ [] =
        sym (capped b from to cap s is) ∙ last ∙ ap (λ l. l ++ row ∷ []) (capped b (row.serial + 1) to cap s is) in
        let turned : stamps_between from to b ≡ row ∷ stamps_between (row.serial + 1) to b =
        ap reverse rows ∙ reverse-append (filter (is_within (row.serial + 1) to) (stamps b)) (row ∷ []) in
        subst (IsNextStamp from to b) (sym (kept stamp inside))
        (subst (λ (r : StampRow). stamps_between from to b ≡ r ∷ stamps_between (r.serial + 1) to b) (sym shows) turned)

-- nothing is in a range whose ends are crossed
pub empty_view : (b : History) (from to cap : ℕ) → IsSound b → cap ≡ min to greatest_number → cap < from
    → IsNextStamp from to b None
empty_view b from to cap s is crossed =
    ap reverse (sym (capped b from to cap s is) ∙ filter_none (is_within from cap) (stamps b)
    (λ row there. elim (cases_Bool (is_within from cap row)) [
      | inl in_it ↦ absurd (let least = within_least from cap row in_it in
          let most = within_most from cap row in_it in omega (arith, crossed, least, most))
      | inr out ↦ out
    ]))

small_cap : (to cap serial : ℕ) → cap ≡ min to greatest_number → serial ≤ cap → serial < 2 ^ 63
small_cap to cap serial is below = let most = min-le_right to greatest_number in omega (arith, is, below, most)

pub small_found : (from to cap : ℕ) (found : Option Stamp) → cap ≡ min to greatest_number
    → IfSome found (λ stamp. IsWithin from cap stamp.serial) → IfSome found (λ stamp. stamp.serial < 2 ^ 63)
small_found from to cap None is within = tt
small_found from to cap (Some stamp) is within = small_cap to cap stamp.serial is within.most
