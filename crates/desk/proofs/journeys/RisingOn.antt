-- Over both books serial numbers rise and genTimes never fall.
use Rattle.std.proofs.Common.{◌≡◌, ◌⊎◌, ℕ, zero, suc, ◌<◌, ◌≤◌, max, Bool, true, false, List, [], ◌∷◌, ◌++◌, Contains}
use Rattle.std.proofs.Common.{Option, Some, None, option_map, refl, sym, ap, ◌∙◌, subst, inl, inr, arith}
use Rattle.std.proofs.Math.Nat.{le-max_left, le-max_right}
use Rattle.decide.specs.Clock.{Follows}
use Rattle.book.specs.Continuation.{Floor, IsAboveIfAny, continued}
use Rattle.book.specs.History.{Entry, Reserved, History, ReservationValue, greatest_of, greatest_serial}
use Rattle.book.specs.{History.last_gen_time, History.reservations, Sound.Along, Sound.IsSound}
use Rattle.book.proofs.GoingOn.{floor_goes_on, moment_goes_on}
use Rattle.desk.specs.MachineRuns.{IsRising}
use Rattle.desk.proofs.journeys.FallingSerials.{greatest_goes_up, greatest_grows}

-- a member of a list is the first of it, or one of the others
first_or_other : {X : Type 0} (x y : X) (xs : List X) → Contains (x ∷ xs) y → (x ≡ y) ⊎ Contains xs y
first_or_other x y xs (zero, below, is) = inl is
first_or_other x y xs (suc k, below, is) = inr (k, omega arith, is)

none_in : {X Y : Type 0} (y : X) → Contains [] y → Y
none_in y m = let below = m.1 in absurd (omega arith)

-- ---- the stamps of a history

not_above : (rs : List ReservationValue) (r : ReservationValue) → Contains rs r → r.serial ≤ greatest_of rs
not_above [] r m = none_in r m
not_above (x ∷ rs) r m = elim (first_or_other x r rs m) [
  | inl is ↦
      let serial : x.serial ≡ r.serial = ap (λ (v : ReservationValue). v.serial) is in
      let left : x.serial ≤ max x.serial (greatest_of rs) = le-max_left _ _ in
      omega (arith, serial, left)
  | inr m ↦
      let right : greatest_of rs ≤ max x.serial (greatest_of rs) = le-max_right _ _ in
      let rest = not_above rs r m in
      omega (arith, right, rest)
]

-- some moment was reserved last, and it isn't before this one
abbrev IsReached : ℕ → History → Type 0
IsReached moment b = (last : ℕ) × (last_gen_time b ≡ Some last) × (moment ≤ last)

follows_reached : (ordering : Bool) (b : History) (moment next : ℕ) → IsReached moment b
    → Follows ordering (last_gen_time b) next → moment ≤ next
follows_reached ordering b moment next (last, is, reached) follows =
    go ordering (subst (λ before. Follows ordering before next) is follows)
  where
    go : (ordering : Bool) → Follows ordering (Some last) next → moment ≤ next
    go true after = omega (arith, after, reached)
    go false after = omega (arith, after, reached)

reached_by : (b : History) (r : ReservationValue) → Along IsRising b → Contains (reservations b) r
    → IsReached r.gen_time b
reached_by [] r rising m = none_in r m
reached_by (Reserved x ∷ b) r rising m = elim (first_or_other x r (reservations b) m) [
  | inl is ↦ (x.gen_time, refl, rw (ap (λ (v : ReservationValue). v.gen_time) is) (omega arith))
  | inr m ↦ (
    x.gen_time,
    refl,
    follows_reached rising.0.stamped.ordering b r.gen_time x.gen_time (reached_by b r rising.1 m) rising.0.follows,
  )
]
reached_by (_ ∷ b) r rising m = reached_by b r rising.1 m

-- ---- what is added to it

still_reached : (es : List Entry) (b : History) (moment : ℕ) → Along IsRising (es ++ b) → IsReached moment b
    → IsReached moment (es ++ b)
still_reached [] b moment rising reached = reached
still_reached (Reserved x ∷ es) b moment rising reached = (
  x.gen_time,
  refl,
  follows_reached rising.0.stamped.ordering (es ++ b) moment x.gen_time
      (still_reached es b moment rising.1 reached) rising.0.follows,
)
still_reached (_ ∷ es) b moment rising reached = still_reached es b moment rising.1 reached

-- a stamp that is added comes after what was there
comes_after : (es : List Entry) (b : History) (moment : ℕ) (r : ReservationValue) → IsSound (es ++ b)
    → Along IsRising (es ++ b) → IsReached moment b → Contains (reservations es) r
    → (greatest_serial b < r.serial) × (moment ≤ r.gen_time)
comes_after [] b moment r sound rising reached m = none_in r m
comes_after (Reserved x ∷ es) b moment r sound rising reached m = elim (first_or_other x r (reservations es) m) [
  | inl is ↦
      let serial : x.serial ≡ r.serial = ap (λ (v : ReservationValue). v.serial) is in
      let gen_time : x.gen_time ≡ r.gen_time = ap (λ (v : ReservationValue). v.gen_time) is in
      let rises : greatest_serial (es ++ b) < x.serial = sound.0.rises in
      let grows = greatest_grows es b in
      let follows = follows_reached rising.0.stamped.ordering (es ++ b) moment x.gen_time
      (still_reached es b moment rising.1 reached) rising.0.follows in
      (omega (arith, serial, rises, grows), omega (arith, gen_time, follows))
  | inr m ↦ comes_after es b moment r sound.1 rising.1 reached m
]
comes_after (_ ∷ es) b moment r sound rising reached m = comes_after es b moment r sound.1 rising.1 reached m

-- ---- both books

-- what goes on was reached before, or is the floor's
reached_on : (floor : Option Floor) (b : History) (moment : ℕ) → IsAboveIfAny floor b → IsReached moment b
    → IsReached moment (continued floor b)
reached_on None b moment above (last, is, reached) = (last, moment_goes_on b ∙ is, reached)
reached_on (Some floor) b moment above (last, is, reached) =
    let same : Some above.last.gen_time ≡ Some last =
    sym (ap (option_map (λ (r : ReservationValue). r.gen_time)) above.reserved) ∙ is in
    let gen_time : above.last.gen_time ≡ last = cc in
    let follows : above.last.gen_time ≤ floor.gen_time = above.follows in
    (floor.gen_time, (floor_goes_on floor b above).1, omega (arith, gen_time, follows, reached))

pub rises_on : (floor : Option Floor) (b : History) (added : List Entry) → Along IsRising b → IsSound b
    → IsAboveIfAny floor b → IsSound (added ++ continued floor b) → Along IsRising (added ++ continued floor b)
    → (before later : ReservationValue) → Contains (reservations b) before → Contains (reservations added) later
    → (before.serial < later.serial) × (before.gen_time ≤ later.gen_time)
rises_on floor b added rising sound above sound_on rising_on before later old new =
    let reached = reached_on floor b before.gen_time above (reached_by b before rising old) in
    let after = comes_after added (continued floor b) before.gen_time later sound_on rising_on reached new in
    let up = greatest_goes_up floor b sound above in
    let below = not_above (reservations b) before old in
    let over : greatest_serial (continued floor b) < later.serial = after.0 in
    (omega (arith, up, below, over), after.1)
