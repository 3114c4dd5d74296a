-- The serial numbers of the texts that were given out fall from the newest to the oldest.
use Rattle.std.proofs.Common.{ℕ, ◌<◌, ◌≤◌, List, [], ◌∷◌, ◌++◌, Option, Some, None, drop, arith}
use Rattle.std.specs.List.{AllByRecursion}
use Rattle.book.specs.History.{Entry, Reserved, Sealed, Deposited, Calibrated, Held, Granted, Revoked, History}
use Rattle.book.specs.Continuation.{Floor, IsAboveIfAny, continued}
use Rattle.book.specs.{History.Installed, History.greatest_serial, Sound.Along, Sound.Fits, Sound.IsSound}
use Rattle.book.proofs.GoingOn.{floor_goes_on, greatest_goes_on}
use Rattle.desk.specs.Command.{Setting, Answer, Stamped, Rejected, Begun, Kept, Shown, Listed, Done, Numbered, Refused}
use Rattle.desk.specs.MachineRuns.{Told, Journey, begins, opens, opens_older, shuts, rests, enters, breaks, goes, stops}
use Rattle.desk.specs.Serials.{serials_of, given_by, given_along, Falls, AreInOrder}
use Rattle.desk.specs.{Command.setting_after, MachineRuns.after, MachineRuns.cut, MachineRuns.continues}
use Rattle.desk.proofs.{journeys.Sound.TextLaws, journeys.KeptPromises.sound_along}

within_more : (m n : ℕ) → m ≤ n → (ns : List ℕ) → AllByRecursion (λ k. k ≤ m) ns → AllByRecursion (λ k. k ≤ n) ns
within_more m n le [] h = tt
within_more m n le (k ∷ ks) h = let low = h.0 in (omega arith, within_more m n le ks h.1)

all_below : (m n : ℕ) → m < n → (ns : List ℕ) → AllByRecursion (λ k. k ≤ m) ns → AllByRecursion (λ k. k < n) ns
all_below m n lt [] h = tt
all_below m n lt (k ∷ ks) h = let low = h.0 in (omega arith, all_below m n lt ks h.1)

-- what entries reserve comes after what was reserved before
reserved_in_order : (es : List Entry) (b : History) → Along Fits (es ++ b) → (ns : List ℕ) → AreInOrder ns b
    → Falls (serials_of es ++ ns) × AllByRecursion (λ k. k ≤ greatest_serial (es ++ b)) (serials_of es ++ ns)
reserved_in_order [] b fits ns h = (h.falling, h.within)
reserved_in_order (Reserved r ∷ es) b fits ns h =
    let more = reserved_in_order es b fits.1 ns h in
    let rises = fits.0.rises in
    let last = greatest_serial (es ++ b) in (
      (all_below last r.serial rises (serials_of es ++ ns) more.1, more.0),
      (
        omega arith,
        within_more last (greatest_serial (Reserved r ∷ (es ++ b))) (omega arith) (serials_of es ++ ns) more.1,
      ),
    )
reserved_in_order (Sealed serial token ∷ es) b fits ns h = reserved_in_order es b fits.1 ns h
reserved_in_order (Deposited d token ∷ es) b fits ns h = reserved_in_order es b fits.1 ns h
reserved_in_order (Calibrated c ∷ es) b fits ns h = reserved_in_order es b fits.1 ns h
reserved_in_order (Held k ∷ es) b fits ns h = reserved_in_order es b fits.1 ns h
reserved_in_order (Granted n a ∷ es) b fits ns h = reserved_in_order es b fits.1 ns h
reserved_in_order (Revoked n a ∷ es) b fits ns h = reserved_in_order es b fits.1 ns h
reserved_in_order (Installed i ∷ es) b fits ns h = reserved_in_order es b fits.1 ns h

-- entries that were added leave what was given out below the greatest serial number
pub greatest_grows : (es : List Entry) (b : History) → greatest_serial b ≤ greatest_serial (es ++ b)
greatest_grows [] b = omega arith
greatest_grows (Reserved r ∷ es) b = let more = greatest_grows es b in omega arith
greatest_grows (Sealed serial token ∷ es) b = greatest_grows es b
greatest_grows (Deposited d token ∷ es) b = greatest_grows es b
greatest_grows (Calibrated c ∷ es) b = greatest_grows es b
greatest_grows (Held k ∷ es) b = greatest_grows es b
greatest_grows (Granted n a ∷ es) b = greatest_grows es b
greatest_grows (Revoked n a ∷ es) b = greatest_grows es b
greatest_grows (Installed i ∷ es) b = greatest_grows es b

still_in_order : (es : List Entry) (b : History) (ns : List ℕ) → AreInOrder ns b → AreInOrder ns (es ++ b)
still_in_order es b ns h = record {
  falling = h.falling;
  within = within_more (greatest_serial b) (greatest_serial (es ++ b)) (greatest_grows es b) ns h.within;
}

-- a step, or what a stop leaves of one
step_in_order : (asks : Option (List ℕ)) (says : Answer) (es : List Entry) (b : History) → Along Fits (es ++ b)
    → (ns : List ℕ) → AreInOrder ns b → AreInOrder (given_by asks says es ++ ns) (es ++ b)
step_in_order (Some text) says es b fits ns h =
    let more = reserved_in_order es b fits ns h in record { falling = more.0; within = more.1 }
step_in_order None (Begun p) es b fits ns h =
    let more = reserved_in_order es b fits ns h in record { falling = more.0; within = more.1 }
step_in_order None (Stamped serial octets) es b fits ns h = still_in_order es b ns h
step_in_order None (Rejected rule) es b fits ns h = still_in_order es b ns h
step_in_order None (Kept number new) es b fits ns h = still_in_order es b ns h
step_in_order None (Shown octets) es b fits ns h = still_in_order es b ns h
step_in_order None (Listed rows) es b fits ns h = still_in_order es b ns h
step_in_order None Done es b fits ns h = still_in_order es b ns h
step_in_order None (Numbered number) es b fits ns h = still_in_order es b ns h
step_in_order None (Refused fault) es b fits ns h = still_in_order es b ns h

-- nor does what goes on in a new book
pub greatest_goes_up : (floor : Option Floor) (b : History) → IsSound b → IsAboveIfAny floor b
    → greatest_serial b ≤ greatest_serial (continued floor b)
greatest_goes_up None b sound above = rw (greatest_goes_on b sound) (omega arith)
greatest_goes_up (Some floor) b sound above =
    let rises : greatest_serial b < floor.serial = above.rises in
    rw ((floor_goes_on floor b above).0) (omega (arith, rises))

pub given_in_order : TextLaws → (b : History) (x : Option Setting) (w : List Told) (j : Journey b x w)
    → AreInOrder (given_along j) b
given_in_order laws b x w begins = record { falling = tt; within = tt }
given_in_order laws b x w (opens {b = b0} {x = x0} {w = w0} s o e proper h done j) =
    still_in_order e.adds b0 (given_along j) (given_in_order laws b0 x0 w0 j)
given_in_order laws b x w (opens_older {b = b0} {x = x0} {w = w0} s proper none unnamed j) = given_in_order laws b0 x0 w0 j
given_in_order laws b x w (shuts {b = b0} {x = x0} {w = w0} s o e k proper h j) =
    still_in_order (drop k e.adds) b0 (given_along j) (given_in_order laws b0 x0 w0 j)
given_in_order laws b x w (rests {b = b0} {x = x0} {w = w0} j) = given_in_order laws b0 x0 w0 j
given_in_order laws b x w (enters {b = b0} {w = w0} s c o e entering met h j) =
    still_in_order e.adds b0 (given_along j) (given_in_order laws b0 None w0 j)
given_in_order laws b x w (breaks {b = b0} {w = w0} s c o e k entering met h j) =
    still_in_order (drop k e.adds) b0 (given_along j) (given_in_order laws b0 None w0 j)
given_in_order laws b x w (goes {b = b0} {w = w0} s c o e met h j) =
    step_in_order e.asks e.says e.adds b0
    (sound_along laws (after e b0) (Some (setting_after s c e.says)) (record { command = c; answer = e.says } ∷ w0)
    (goes s c o e met h j)) (given_along j) (given_in_order laws b0 (Some s) w0 j)
given_in_order laws b x w (stops {b = b0} {w = w0} s c o e k met h j) =
    step_in_order e.asks e.says (drop k e.adds) b0
    (sound_along laws (cut k e b0) None w0 (stops s c o e k met h j)) (given_along j)
    (given_in_order laws b0 (Some s) w0 j)
given_in_order laws b x w (continues {b = b0} {w = w0} floor above stated j) =
    let before = given_in_order laws b0 None w0 j in record {
      falling = before.falling;
      within = within_more (greatest_serial b0) (greatest_serial (continued floor b0))
          (greatest_goes_up floor b0 (sound_along laws b0 None w0 j) above) (given_along j) before.within;
    }
