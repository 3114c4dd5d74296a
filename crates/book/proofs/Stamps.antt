-- In a range of one number is the stamp with that number, or none.
use Rattle.std.proofs.Common.{◌≡◌, ℕ, ◌<◌, ◌≤◌, ◌==◌, ◌&&◌, max, nat_le, Bool, List, [], ◌∷◌, map, filter, find}
use Rattle.std.proofs.Common.{reverse, Option, Some, None, option_map, option_to_list, refl, sym, ap, ◌∙◌, inl, inr}
use Rattle.std.proofs.{Common.arith, Math.Nat.le-max_left, Math.Nat.le-max_right}
use Rattle.std.proofs.lemmas.Bool.{eq-eqb, ne_eqb, Decides.eqb_tells, Decides.leb_tells}
use Rattle.book.specs.History.{Reserved, History, ReservationValue, greatest_of, reservations, stamp_at, stamp_of}
use Rattle.book.specs.{History.stamps_between, History.token_of, Ranges.IsNextStamp, Values.stamp_view}
use Rattle.book.specs.{Rows.StampRow, Sound.IsSound, declared.rows.Stamp.Stamp}

abbrev Falls : List ReservationValue → Type 0
Falls [] = Unit {0}
Falls (r ∷ rs) = (greatest_of rs < r.serial) × Falls rs

falls : (b : History) → IsSound b → Falls (reservations b)
falls [] sound = tt
falls (Reserved r ∷ b) sound = (sound.0.rises, falls b sound.1)
falls (_ ∷ b) sound = falls b sound.1

abbrev is_at : ℕ → StampRow → Bool
is_at n s = nat_le n s.serial && nat_le s.serial n

at_is : (n m : ℕ) → (nat_le n m && nat_le m n) ≡ (m == n)
at_is n m = elim (leb_tells n m) [
  | inl from ↦ elim (leb_tells m n) [
    | inl to ↦ (let a = from.1 in let b = to.1 in rw (from.0, to.0, eq-eqb m n (omega (arith, a, b))) refl)
    | inr out ↦ (let b = out.1 in rw (from.0, out.0, ne_eqb m n (λ e. absurd (omega (arith, b, e)))) refl)
  ]
  | inr under ↦ (let a = under.1 in rw (under.0, ne_eqb m n (λ e. absurd (omega (arith, a, e)))) refl)
]

module _ (token : ℕ → Option (List ℕ)) (n : ℕ) where
  abbrev at : List ReservationValue → List StampRow
  at rs = filter (is_at n) (map (λ r. stamp_of (token r.serial) r) rs)

  none_at : (rs : List ReservationValue) → greatest_of rs < n → at rs ≡ []
  none_at [] above = refl
  none_at (r ∷ rs) above =
      let left : r.serial ≤ max r.serial (greatest_of rs) = le-max_left _ _ in
      let right : greatest_of rs ≤ max r.serial (greatest_of rs) = le-max_right _ _ in
      rw (at_is n r.serial, ne_eqb r.serial n (λ e. absurd (omega (arith, left, above, e))))
      (none_at rs (omega (arith, right, above)))

  one_at : (rs : List ReservationValue) → Falls rs
      → at rs ≡ option_to_list (option_map (stamp_of (token n)) (find (λ r. r.serial == n) rs))
  one_at [] fall = refl
  one_at (r ∷ rs) fall = elim (eqb_tells r.serial n) [
    | inl here ↦ (let rises : greatest_of rs < r.serial = fall.0 in
        let is = here.1 in
        rw (at_is n r.serial, here.0, none_at rs (omega (arith, rises, is)))
        (ap (λ k. stamp_of (token k) r ∷ []) is))
    | inr there ↦ rw (at_is n r.serial, there.0) (one_at rs fall.1)
  ]

turned_option : {X : Type 0} (o : Option X) → reverse (option_to_list o) ≡ option_to_list o
turned_option None = refl
turned_option (Some x) = refl

pub stamp_found : (b : History) (n : ℕ) (found : Option Stamp) → IsSound b → IsNextStamp n n b found
    → option_map stamp_view found ≡ stamp_at n b
stamp_found b n found sound next =
    go found (stamp_at n b)
    (ap reverse (one_at (λ m. token_of m b) n (reservations b) (falls b sound)) ∙ turned_option (stamp_at n b)) next
  where
    go : (found : Option Stamp) (o : Option StampRow) → stamps_between n n b ≡ option_to_list o
        → IsNextStamp n n b found → option_map stamp_view found ≡ o
    go None None are next = refl
    go None (Some s) are next = let apart = sym next ∙ are in cc
    go (Some stamp) None are next = let apart = sym next ∙ are in cc
    go (Some stamp) (Some s) are next = let same = sym next ∙ are in cc
