-- What another account's command leaves of what an account may know.
use Rattle.std.proofs.Common.{◌≡◌, ℕ, ◌<◌, ◌≤◌, ◌==◌, ◌&&◌, ◌||◌, nat_le, cond, Bool, true, false, List, [], ◌∷◌}
use Rattle.std.proofs.Common.{◌++◌, length, Option, Some, None, refl, sym, ◌∙◌, ap, subst, inl, inr, arith}
use Rattle.std.proofs.lemmas.Bool.{eqb-true}
use Rattle.std.specs.{Prelude.filter, Prelude.map, Prelude.option_map, Option.option_and_then, Str.bytes_eq}
use Rattle.book.specs.History.{deposits, Reserved, Sealed, Deposited, Calibrated, Held, Granted, Revoked, Installed}
use Rattle.book.specs.History.{History, ReservationValue, reservations, stamps, stamp_of, greatest_of, greatest_serial}
use Rattle.book.specs.History.{token_of, reservation_at, deposit_at}
use Rattle.book.specs.Readers.{Reader, is_same, Viewer}
use Rattle.book.specs.Rights.{seen_by, shown_to, is_reader, may_read, listed}
use Rattle.book.specs.{Rows.StampRow, Rows.DepositRow, Sound.Along, Sound.Fits, Sound.FitsRight, Values.deposit_of}
use Rattle.book.proofs.Rights.{reader_after_grant, reader_after_revocation}
use Rattle.desk.specs.Agreement.{SeenValue, seen_as, seen_at}
use Rattle.desk.specs.Command.{Setting, Command, Stamp, Begin, Finish, Abandon, Deposit, Show, Token, ListAll, Grant}
use Rattle.desk.specs.Command.{Revoke, Calibrate, Hold, Succeed, Listed}
use Rattle.desk.specs.Effects.{Purpose, purpose_found, for_reply, for_deposit}
use Rattle.desk.specs.{Outcome.Outcome, Outcome.cause_of, Findings.Finding, Texts.octets_for, Effects.Effect}
use Rattle.desk.specs.{Effects.unless, Effects.next_reservation, Effects.right_effect, Effects.no_sight}
use Rattle.desk.specs.{MachineStep.HasEffect, Laws.IsCommandOfOther, Laws.Concerns, Laws.StaysFor, Viewers.viewer_in}
use Rattle.desk.proofs.journeys.Readers.{nobody_reads, seen_beside_grant, seen_beside_revocation}
use Rattle.desk.proofs.journeys.StepFacts.{right_seen, shows_none, tokens_none, answers_none, IsAtMost, at_most_unless}
use Rattle.desk.proofs.journeys.Agreement.{differ, seen_beside, next_above}
use Rattle.desk.proofs.journeys.Branches.{stamp_has, deposit_has}
use Rattle.desk.proofs.{journeys.Views.sealed_below, journeys.Views.deposit_sealed, journeys.StepFacts.right_at_most}

deposit_below : (b : History) → Along Fits b → (n : ℕ) → FitsRight n b → n ≤ greatest_serial b
deposit_below b sound n fits =
    let token = deposit_sealed b n fits.deposit fits.deposited in sealed_below b sound n token.0 token.1

right_below : (b : History) → Along Fits b → (m n : ℕ) (reader : Reader) (same named given : Bool) → (m == n) ≡ same
    → FitsRight m b → (is_reader n reader b ≡ true → n ≤ greatest_serial b)
    → cond (same && named) given (is_reader n reader b) ≡ true → n ≤ greatest_serial b
right_below b sound m n reader true true given is fits later e =
    let number : m ≡ n = eqb-true m n is in
    let low = deposit_below b sound m fits in
    omega arith
right_below b sound m n reader true false given is fits later e = later e
right_below b sound m n reader false named given is fits later e = later e

-- rights are to deposits that stand
reader_of_deposit : (b : History) → Along Fits b → (n : ℕ) (reader : Reader) → is_reader n reader b ≡ true
    → n ≤ greatest_serial b
reader_of_deposit [] sound n reader e = cc
reader_of_deposit (Reserved r ∷ b) sound n reader e =
    let low = reader_of_deposit b sound.1 n reader e in omega arith
reader_of_deposit (Sealed m t ∷ b) sound n reader e = reader_of_deposit b sound.1 n reader e
reader_of_deposit (Deposited d t ∷ b) sound n reader e = reader_of_deposit b sound.1 n reader e
reader_of_deposit (Calibrated c ∷ b) sound n reader e = reader_of_deposit b sound.1 n reader e
reader_of_deposit (Held h ∷ b) sound n reader e = reader_of_deposit b sound.1 n reader e
reader_of_deposit (Installed i ∷ b) sound n reader e = reader_of_deposit b sound.1 n reader e
reader_of_deposit (Granted m x ∷ b) sound n reader e =
    right_below b sound.1 m n reader (m == n) (is_same x reader) true refl sound.0
    (reader_of_deposit b sound.1 n reader) (sym (reader_after_grant n reader m x b) ∙ e)
reader_of_deposit (Revoked m x ∷ b) sound n reader e =
    right_below b sound.1 m n reader (m == n) (is_same x reader) false refl sound.0
    (reader_of_deposit b sound.1 n reader) (sym (reader_after_revocation n reader m x b) ∙ e)

false_where : (t : Bool) → (t ≡ true → ⊥) → t ≡ false
false_where true h = absurd (h refl)
false_where false h = refl

-- a reservation of another account
other_reserved : (viewer : Viewer) (concerned : ℕ → Type 0) (b : History) (r : ReservationValue) → Along Fits b
    → bytes_eq r.account viewer.name ≡ false → greatest_serial b < r.serial
    → StaysFor viewer concerned b (Reserved r ∷ b)
other_reserved viewer concerned b r sound other above = record {
  own_stamps = sym (ap (λ t. cond t (stamp_of (token_of r.serial b) r
      ∷ filter (λ s. bytes_eq s.account viewer.name) (stamps b)) (filter (λ s. bytes_eq s.account viewer.name)
      (stamps b))) other);
  own_deposits = refl;
  seen = λ n free. sym (seen_beside viewer n b r sound above (seen_by viewer n b) refl);
  calibration = refl;
  holding = refl;
  identity = refl;
}

-- a token under a number above the others
abbrev rows : (ℕ → Option (List ℕ)) → List ReservationValue → List StampRow
rows token rs = map (λ r. stamp_of (token r.serial) r) rs

unsealed_rows : (n : ℕ) (t : List ℕ) (token : ℕ → Option (List ℕ)) (rs : List ReservationValue) → greatest_of rs < n
    → rows (λ m. cond (n == m) (Some t) (token m)) rs ≡ rows token rs
unsealed_rows n t token [] above = refl
unsealed_rows n t token (r ∷ rs) above =
    ap (λ same. stamp_of (cond same (Some t) (token r.serial)) r
    ∷ rows (λ m. cond (n == m) (Some t) (token m)) rs) (differ n r.serial (omega arith))
    ∙ ap (λ xs. stamp_of (token r.serial) r ∷ xs) (unsealed_rows n t token rs (omega arith))

-- a stamp of another account, sealed
seen_stamped : (viewer : Viewer) (m : ℕ) (r : ReservationValue) (t : List ℕ) (b : History) → Along Fits b
    → greatest_serial b < r.serial
    → (seen : Option DepositRow) → seen_by viewer m b ≡ seen
    → option_map (seen_as m (Sealed r.serial t ∷ Reserved r ∷ b)) seen ≡ option_map (seen_as m b) seen
seen_stamped viewer m r t b sound above None is = refl
seen_stamped viewer m r t b sound above (Some d) is =
    let low = deposit_below b sound m (right_seen viewer m b d is) in
    ap (λ same. Some (record {
      deposit = d;
      gen_time = option_map (λ x. x.gen_time) (cond same (Some r) (reservation_at m b));
      token = cond same (Some t) (token_of m b);
    })) (differ r.serial m (omega arith))

own_stamps_stay : (viewer : Viewer) (b : History) (r : ReservationValue) (t : List ℕ) → bytes_eq r.account viewer.name
    ≡ false → greatest_serial b < r.serial
    → filter (λ s. bytes_eq s.account viewer.name) (stamps b)
    ≡ filter (λ s. bytes_eq s.account viewer.name) (rows (λ m. cond (r.serial == m) (Some t) (token_of m b)) (r
    ∷ reservations b))
own_stamps_stay viewer b r t other above =
    let sealed = rows (λ m. cond (r.serial == m) (Some t) (token_of m b)) (reservations b) in
    let dropped = ap (λ mine. cond mine (stamp_of (cond (r.serial == r.serial) (Some t) (token_of r.serial b)) r
    ∷ filter (λ s. bytes_eq s.account viewer.name) sealed)
    (filter (λ s. bytes_eq s.account viewer.name) sealed)) other in
    sym (dropped ∙ ap (filter (λ s. bytes_eq s.account viewer.name)) (unsealed_rows r.serial t (λ m. token_of m b)
    (reservations b) above))

other_sealed : (viewer : Viewer) (concerned : ℕ → Type 0) (b : History) (r : ReservationValue) (t : List ℕ)
    → Along Fits b → bytes_eq r.account viewer.name ≡ false
    → greatest_serial b < r.serial → StaysFor viewer concerned b (Sealed r.serial t ∷ Reserved r ∷ b)
other_sealed viewer concerned b r t sound other above = record {
  own_stamps = own_stamps_stay viewer b r t other above;
  own_deposits = refl;
  seen = λ m free. sym (seen_stamped viewer m r t b sound above (seen_by viewer m b) refl);
  calibration = refl;
  holding = refl;
  identity = refl;
}

-- a deposit of another account
abbrev seen_new : Viewer → ℕ → DepositRow → ReservationValue → List ℕ → History → Bool → Option SeenValue
seen_new viewer m d r t b same =
    option_map (λ x. record {
      deposit = x;
      gen_time = option_map (λ y. y.gen_time) (cond same (Some r) (reservation_at m b));
      token = cond same (Some t) (token_of m b);
    }) (option_and_then (shown_to viewer (may_read viewer m b)) (cond same (Some d) (deposit_at m b)))

none_seen : (viewer : Viewer) (m : ℕ) (b : History) → Along Fits b → greatest_serial b < m
    → (seen : Option DepositRow) → seen_by viewer m b ≡ seen
    → None ≡ option_map (seen_as m b) seen
none_seen viewer m b sound above None is = refl
none_seen viewer m b sound above (Some d) is =
    let low = deposit_below b sound m (right_seen viewer m b d is) in absurd (omega arith)

new_unseen : (viewer : Viewer) (m : ℕ) (d : DepositRow) (r : ReservationValue) (t : List ℕ) (b : History)
    → Along Fits b → bytes_eq d.owner viewer.name ≡ false
    → greatest_serial b < r.serial → (same : Bool) → (r.serial == m) ≡ same → seen_new viewer m d r t b same
    ≡ seen_at viewer m b
new_unseen viewer m d r t b sound other above true is =
    let number : r.serial ≡ m = eqb-true r.serial m is in
    let no_reader : may_read viewer m b ≡ false = nobody_reads viewer m b (λ reader.
    false_where (is_reader m reader b) (λ e. let low = reader_of_deposit b sound m reader e in omega arith)) in
    let hidden : (bytes_eq d.owner viewer.name || may_read viewer m b)
    ≡ false = ap (λ o. o || may_read viewer m b) other ∙ no_reader in
    ap (λ t2. option_map (λ x. record { deposit = x; gen_time = Some r.gen_time; token = Some t })
    (cond t2 (Some d) None)) hidden
    ∙ none_seen viewer m b sound (omega arith) (seen_by viewer m b) refl
new_unseen viewer m d r t b sound other above false is = refl

other_deposited : (viewer : Viewer) (concerned : ℕ
    → Type 0) (b : History) (r : ReservationValue) (owner reference bytes t : List ℕ) → Along Fits b
    → bytes_eq owner viewer.name ≡ false → bytes_eq r.account viewer.name ≡ false → greatest_serial b < r.serial
    → StaysFor viewer concerned b (Deposited (deposit_of r.serial owner reference bytes) t ∷ Reserved r ∷ b)
other_deposited viewer concerned b r owner reference bytes t sound other_owner other above =
    let d = deposit_of r.serial owner reference bytes in
    record {
      own_stamps = own_stamps_stay viewer b r t other above;
      own_deposits = sym (ap (λ mine. cond mine (d ∷ filter (λ x. bytes_eq x.owner viewer.name) (deposits b))
          (filter (λ x. bytes_eq x.owner viewer.name) (deposits b))) other_owner);
      seen = λ m free. sym (new_unseen viewer m d r t b sound other_owner above (r.serial == m) refl);
      calibration = refl;
      holding = refl;
      identity = refl;
    }

same_stays : (viewer : Viewer) (concerned : ℕ → Type 0) (b : History) → StaysFor viewer concerned b b
same_stays viewer concerned b = record {
  own_stamps = refl;
  own_deposits = refl;
  seen = λ n free. refl;
  calibration = refl;
  holding = refl;
  identity = refl;
}

none_stays : (viewer : Viewer) (concerned : ℕ → Type 0) (e : Effect) (b : History) → e.adds ≡ []
    → StaysFor viewer concerned b (e.adds ++ b)
none_stays viewer concerned e b h = subst (λ es. StaysFor viewer concerned b (es ++ b)) (sym h)
    (same_stays viewer concerned b)

-- a right to a deposit that isn't this one
granted_stays : (viewer : Viewer) (n : ℕ) (x : Reader) (e : Effect) (b : History) → IsAtMost (Granted n x) e
    → StaysFor viewer (λ m. n ≡ m) b (e.adds ++ b)
granted_stays viewer n x e b (inl h) = none_stays viewer (λ m. n ≡ m) e b h
granted_stays viewer n x e b (inr h) =
    subst (λ es. StaysFor viewer (λ m. n ≡ m) b (es ++ b)) (sym h)
    (record {
      own_stamps = refl;
      own_deposits = refl;
      seen = λ m free. sym (ap (option_map (seen_as m b))
          (seen_beside_grant viewer n x m b (false_where (n == m) (λ e. free (eqb-true n m e)))));
      calibration = refl;
      holding = refl;
      identity = refl;
    })

revoked_stays : (viewer : Viewer) (n : ℕ) (x : Reader) (e : Effect) (b : History) → IsAtMost (Revoked n x) e
    → StaysFor viewer (λ m. n ≡ m) b (e.adds ++ b)
revoked_stays viewer n x e b (inl h) = none_stays viewer (λ m. n ≡ m) e b h
revoked_stays viewer n x e b (inr h) =
    subst (λ es. StaysFor viewer (λ m. n ≡ m) b (es ++ b)) (sym h)
    (record {
      own_stamps = refl;
      own_deposits = refl;
      seen = λ m free. sym (ap (option_map (seen_as m b))
          (seen_beside_revocation viewer n x m b (false_where (n == m) (λ e. free (eqb-true n m e)))));
      calibration = refl;
      holding = refl;
      identity = refl;
    })

-- a stamp of another account
stamp_stays : (viewer : Viewer) (concerned : ℕ → Type 0) (u : Purpose) (s : Setting) (name octets : List ℕ)
    (o : Outcome) (b : History) → Along Fits b → bytes_eq name viewer.name ≡ false
    → ((r : ReservationValue) (token : List ℕ) → bytes_eq r.account viewer.name ≡ false
    → greatest_serial b < r.serial
    → StaysFor viewer concerned b (u.keeping.adds r.serial token ∷ Reserved r ∷ b))
    → (f : Finding) → StaysFor viewer concerned b ((purpose_found u s name octets o b f).adds ++ b)
stamp_stays viewer concerned u s name octets o b sound other kept f =
    stamp_has (λ e. StaysFor viewer concerned b (e.adds ++ b)) u s name octets o b
    (λ rule. same_stays viewer concerned b) (λ cause. same_stays viewer concerned b) f
    (λ plan is left.
    let r = next_reservation s name plan octets b in
    let above = next_above s name plan octets b in
    (λ cause. other_reserved viewer concerned b r sound other above, λ token. kept r token other above))

-- what another account's command leaves
pub step_stays : (account : List ℕ) (s : Setting) (x : Command) (o : Outcome) (b : History) (e : Effect)
    → Along Fits b → IsCommandOfOther account x → HasEffect s x o b e
    → StaysFor (viewer_in s.file account) (λ n. Concerns n x) b (e.adds ++ b)
step_stays account s (Stamp None reading octets) o b e sound other h = absurd other
step_stays account s (Stamp (Some a) reading octets) o b e sound other h =
    let viewer = viewer_in s.file account in
    subst (λ y. StaysFor viewer (λ n. ⊥) b (y.adds ++ b)) (sym h.2)
    (stamp_stays viewer (λ n. ⊥) for_reply s a.name octets o b sound other
    (λ r token another above. other_sealed viewer (λ n. ⊥) b r token sound another above) h.0)
step_stays account s (Begin by reading octets) o b e sound other h = absurd other
step_stays account s (Finish p signature) o b e sound other h = absurd other
step_stays account s (Abandon p) o b e sound other h = absurd other
step_stays account s (Deposit a reading reference bytes) o b e sound other h =
    let viewer = viewer_in s.file account in
    deposit_has (λ x. StaysFor viewer (λ n. ⊥) b (x.adds ++ b)) (λ f. same_stays viewer (λ n. ⊥) b) s a reading
    reference bytes o b (λ d is. same_stays viewer (λ n. ⊥) b)
    (λ unused spelled f found. stamp_stays viewer (λ n. ⊥) (for_deposit a.name reference bytes) s a.name
    (octets_for s.file a bytes) o b sound other
    (λ r token another above. other_deposited viewer (λ n. ⊥) b r a.name reference bytes token sound other another
    above) f) (nat_le (length bytes) 1_048_576) e h
step_stays account s (Show a n) o b e sound other h =
    none_stays (viewer_in s.file account) (λ m. ⊥) e b
    (ap (λ x. x.adds) h ∙ shows_none (cause_of o.searching) (no_sight o) (seen_by (viewer_in s.file a.name) n b))
step_stays account s (Token a n) o b e sound other h =
    none_stays (viewer_in s.file account) (λ m. ⊥) e b
    (ap (λ x. x.adds) h
    ∙ tokens_none (cause_of o.searching) (no_sight o) (token_of n b) (seen_by (viewer_in s.file a.name) n b))
step_stays account s (ListAll a) o b e sound other h =
    none_stays (viewer_in s.file account) (λ m. ⊥) e b
    (ap (λ x. x.adds) h ∙ answers_none (cause_of o.looking) (Listed (listed (viewer_in s.file a.name) b)))
step_stays account s (Grant a n reader) o b e sound other h =
    let viewer = viewer_in s.file account in
    let entry = Granted n reader in
    let seen = seen_by (viewer_in s.file a.name) n b in
    let d = right_effect s.file a.name reader o entry seen in
    subst (λ y. StaysFor viewer (λ m. n ≡ m) b (y.adds ++ b)) (sym h)
    (granted_stays viewer n reader (unless (cause_of o.searching) d) b
    (at_most_unless entry (cause_of o.searching) d (right_at_most s.file a.name reader o entry seen)))
step_stays account s (Revoke a n reader) o b e sound other h =
    let viewer = viewer_in s.file account in
    let entry = Revoked n reader in
    let seen = seen_by (viewer_in s.file a.name) n b in
    let d = right_effect s.file a.name reader o entry seen in
    subst (λ y. StaysFor viewer (λ m. n ≡ m) b (y.adds ++ b)) (sym h)
    (revoked_stays viewer n reader (unless (cause_of o.searching) d) b
    (at_most_unless entry (cause_of o.searching) d (right_at_most s.file a.name reader o entry seen)))
step_stays account s (Calibrate c) o b e sound other h = absurd other
step_stays account s (Hold k) o b e sound other h = absurd other
step_stays account s (Succeed next) o b e sound other h = absurd other
