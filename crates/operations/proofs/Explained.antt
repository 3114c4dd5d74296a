-- A stamp that is found by its serial number.
use Rattle.std.proofs.Common.{◌≡◌, ◌∙◌, ◌+◌, ◌&&◌, ℕ, List, [], ◌∷◌, false, nat_le, Option, Some, refl}
use Rattle.std.proofs.Common.{reverse, sym, ap, subst, arith, inl, inr}
use Rattle.std.proofs.lemmas.Bool.Decides.{leb_tells}
use Rattle.std.specs.List.{filter}
use Rattle.book.specs.History.{History, stamps, stamps_between}
use Rattle.book.specs.{Ranges.IsNextStamp, Ranges.IsWithin, Rows.StampRow, Values.stamp_view, declared.rows.Stamp.Stamp}
use Rattle.operations.proofs.ExaminedStamps.{next_is}

none_above : (n m : ℕ) → (nat_le (n + 1) m && nat_le m n) ≡ false
none_above n m = elim (leb_tells (n + 1) m) [
  | inl above ↦ elim (leb_tells m n) [
    | inl below ↦ absurd (let a = above.1 in let b = below.1 in omega (arith, a, b))
    | inr out ↦ rw (above.0, out.0) refl
  ]
  | inr under ↦ rw under.0 refl
]

none_crossed : (n : ℕ) (rows : List StampRow)
    → filter (λ s. nat_le (n + 1) s.serial && nat_le s.serial n) rows ≡ []
none_crossed n [] = refl
none_crossed n (row ∷ rows) = rw (none_above n row.serial) (none_crossed n rows)

-- it is alone
pub found_alone : (n : ℕ) (b : History) (found : Option Stamp) (stamp : Stamp) → found ≡ Some stamp
    → IsWithin n n stamp.serial → IsNextStamp n n b found → stamps_between n n b ≡ stamp_view stamp ∷ []
found_alone n b found stamp is within next =
    let serial : stamp.serial ≡ n = (let least = within.least in let most = within.most in omega (arith, least, most)) in
    let crossed : stamps_between (stamp.serial + 1) n b ≡ [] =
    subst (λ k. stamps_between (k + 1) n b ≡ []) (sym serial) (ap reverse (none_crossed n (stamps b))) in
    next_is n n b found stamp is next ∙ ap (λ l. stamp_view stamp ∷ l) crossed
