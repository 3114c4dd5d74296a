-- Stamps of a batch from their reservations on: what is written of each, and what the commit of all tokens does.
use Rattle.std.proofs.Common.{◌≡◌, ℕ, ◌<◌, ◌+◌, ◌==◌, List, [], ◌∷◌, ◌++◌, map, length, Some, None, Result, Ok}
use Rattle.std.proofs.Common.{Err, refl, sym, ◌∙◌, ap, arith, append_assoc, append-nil, false, if◌then◌else◌, take}
use Rattle.std.proofs.Common.{slice_index_or, Vec, inl, inr}
use Rattle.std.proofs.lemmas.List.{map-append, take_more}
use Rattle.std.specs.{Hash.DefaultHasher.wrapping_add, List.AllByRecursion}
use Rattle.book.specs.History.{Entry, Sealed, History, ReservationValue, token_of}
use Rattle.book.specs.{Entries.FitInTurn, Sound.Fits}
use Rattle.tsp.specs.declared.rule.Rule.TheVariants.{System}
use Rattle.cms.specs.Signer.{signed_by, count_after_each}
use Rattle.cms.specs.{SignedData.attribute_text, declared.signer.SignerFault.SignerFault}
use Rattle.cms.specs.declared.signer.SignerFault.TheVariants as signer
use Rattle.desk.specs.Batches.{SealValue, seal_entry, with_sealed, seals}
use Rattle.desk.specs.Command.{Setting, PendingValue, Answer, Rejected}
use Rattle.desk.specs.auxiliary.Completions.{texts_of, Completion, finished, completed, seals_of, AreWaiting}
use Rattle.desk.specs.auxiliary.Completions.{AreWritten, IsWrittenMore}
use Rattle.desk.specs.Outcome.{Call, Fine, OutOfMemory, Failed, Outcome, Cause, OfMemory, OfStore, cause_of}
use Rattle.desk.specs.Outcome.{first_cause}
use Rattle.desk.specs.auxiliary.Verdicts.{Verdict, Settled, Waits, JudgedStamp, waiting_before, waits_of, HasItsText}
use Rattle.desk.specs.WaitingStamps.{waiting_view, pending_in, pendings_in, HasText}
use Rattle.desk.specs.auxiliary.Wholes.{token_or, ending, added, ended, answer_by, stamped}
use Rattle.desk.specs.{Effects.in_seal, Effects.for_reply, Effects.no_seal, Fit.IsUncounted}
use Rattle.desk.specs.{Sent.texts_for, Texts.token_with, Together.AreOfSome, auxiliary.Verdicts.IsJudgedRightly}
use Rattle.desk.specs.declared.waiting_stamp.WaitingStamp.{WaitingStamp}
use Rattle.desk.proofs.{stamps.BatchJudgement.all_next, stamps.Endings.waiting_fits}

pub with_both : (vs us : List SealValue) (b : History) → with_sealed (vs ++ us) b ≡ with_sealed us (with_sealed vs b)
with_both [] us b = refl
with_both (v ∷ vs) us b = with_both vs us (seal_entry v ∷ b)

-- what waits still does once another serial number is sealed
unsealed_still : (n : ℕ) (p : ℕ) (token : List ℕ) (b : History) → n < p → token_of p b ≡ None
    → token_of p (Sealed n token ∷ b) ≡ None
unsealed_still n p token b less none =
    let other : (n == p) ≡ false = grind arith in
    ap (λ t. if t then Some token else token_of p b) other ∙ none

waits_still : (n : ℕ) (token : List ℕ) (ps : List PendingValue) (b : History)
    → AllByRecursion (λ q. n < q.serial) ps → AreWaiting ps b → AreWaiting ps (Sealed n token ∷ b)
waits_still n token [] b above waits = tt
waits_still n token (p ∷ ps) b above waits = (
  record {
    reservation = waits.0.reservation;
    reserved = waits.0.reserved;
    tst = waits.0.tst;
    open_yet = unsealed_still n p.serial token b above.0 waits.0.open_yet;
  },
  waits.1,
  waits_still n token ps b above.1 waits.2,
)

-- what waits behind one that ended does so still
waits_after_one : (p : PendingValue) (end : Result (List ℕ) Cause) (ps : List PendingValue) (b : History)
    → AllByRecursion (λ q. p.serial < q.serial) ps → AreWaiting ps b
    → AreWaiting ps (with_sealed (seals (added in_seal p.serial end ++ [])) b)
waits_after_one p (Ok token) ps b above waits = waits_still p.serial token ps b above waits
waits_after_one p (Err cause) ps b above waits = waits

-- all tokens fit in their turn
fit_one : (p : PendingValue) (end : Result (List ℕ) Cause) (vs : List SealValue) (b : History)
    → ((token : List ℕ) → Fits (Sealed p.serial token) b)
    → FitInTurn (map seal_entry vs) (with_sealed (seals (added in_seal p.serial end ++ [])) b)
    → FitInTurn (map seal_entry (seals (added in_seal p.serial end ++ []) ++ vs)) b
fit_one p (Ok token) vs b fits rest = (fits token, rest)
fit_one p (Err cause) vs b fits rest = rest

pub seals_fit : (zs : List Completion) (b : History) → AreWaiting (map (λ z. z.pending) zs) b
    → FitInTurn (map seal_entry (seals_of Fine zs)) b
seals_fit [] b waits = tt
seals_fit (z ∷ zs) b waits =
    let end = ending z.pending z.signing (finished Fine z) in
    fit_one z.pending end (seals_of Fine zs) b (λ token. waiting_fits z.pending b waits.0)
    (seals_fit zs (with_sealed (seals (completed Fine z).adds) b)
    (waits_after_one z.pending end (map (λ y. y.pending) zs) b waits.1 waits.2))

-- one more of those, of which none of these is
pub of_more : {X Y : Type 0} (IsOf : X → Y → Type 0) (x : X) (xs : List X) (ys : List Y) → AreOfSome IsOf xs ys
    → AreOfSome IsOf (x ∷ xs) ys
of_more IsOf x xs [] of = tt
of_more IsOf x xs (y ∷ ys) of = inr of

-- the first of them, and those behind it
pub first_of : (p q : PendingValue) (ps qs : List PendingValue) → p ∷ ps ≡ q ∷ qs → (p ≡ q) × (ps ≡ qs)
first_of p q ps qs e = (cc, cc)

-- seals are of what waits
abbrev pub IsSealOf : ReservationValue → SealValue → Type 0
IsSealOf r v = v.serial ≡ r.serial

seal_among : (p : PendingValue) (end : Result (List ℕ) Cause) (r : ReservationValue) (rs : List ReservationValue)
    (vs : List SealValue) → p.serial ≡ r.serial → AreOfSome IsSealOf rs vs
    → AreOfSome IsSealOf (r ∷ rs) (seals (added in_seal p.serial end ++ []) ++ vs)
seal_among p (Ok token) r rs vs is rest = inl (is, rest)
seal_among p (Err cause) r rs vs is rest = of_more IsSealOf r rs vs rest

pub seals_among : (s : Setting) (ws : List WaitingStamp) (zs : List Completion)
    → map (λ z. z.pending) zs ≡ pendings_in s ws → AreOfSome IsSealOf (map waiting_view ws) (seals_of Fine zs)
seals_among s ws [] of = tt
seals_among s [] (z ∷ zs) of = absurd cc
seals_among s (w ∷ ws) (z ∷ zs) of =
    let is = first_of z.pending (pending_in s w) (map (λ z. z.pending) zs) (pendings_in s ws) of in
    seal_among z.pending (ending z.pending z.signing (finished Fine z)) (waiting_view w) (map waiting_view ws)
    (seals_of Fine zs) (ap (λ p. p.serial) is.0) (seals_among s ws zs is.1)

-- where the commit was refused nothing is sealed, and all are rejected by rule 12
refused_seal : (wrapping sealing : Call) → (sealing ≡ Fine → ⊥)
    → (cause : Cause) × (first_cause (cause_of wrapping ∷ cause_of sealing ∷ []) ≡ Some cause)
refused_seal OutOfMemory sealing h = (OfMemory, refl)
refused_seal Failed sealing h = (OfStore, refl)
refused_seal Fine OutOfMemory h = (OfMemory, refl)
refused_seal Fine Failed h = (OfStore, refl)
refused_seal Fine Fine h = absurd (h refl)

pub void_one : (p : PendingValue) (signing : Result (List ℕ) SignerFault) (begun : List Entry) (sealing : Call)
    (o : Outcome) → o.sealing ≡ sealing → (sealing ≡ Fine → ⊥)
    → ((stamped for_reply p signing begun o).adds ≡ begun)
    × ((stamped for_reply p signing begun o).says ≡ Rejected System)
void_one p (Err fault) begun sealing o is h = (refl, refl)
void_one p (Ok signature) begun sealing o is h =
    let why = refused_seal o.wrapping sealing h in
    let none : no_seal o ≡ Some why.0 = ap (λ x. first_cause (cause_of o.wrapping ∷ cause_of x ∷ [])) is ∙ why.1 in
    let end = ap (token_or (token_with p signature)) none in (
      ap (λ e. added in_seal p.serial e ++ begun) end,
      ap (λ e. answer_by for_reply (ended in_seal p.serial e)) end,
    )

pub void_seals : (sealing : Call) → (sealing ≡ Fine → ⊥) → (zs : List Completion) → seals_of sealing zs ≡ []
void_seals sealing h [] = refl
void_seals sealing h (z ∷ zs) =
    ap (λ (adds : List Entry). seals adds ++ seals_of sealing zs)
    (void_one z.pending z.signing [] sealing (finished sealing z) refl h).0
    ∙ void_seals sealing h zs

-- one more of a list, as a loop over it goes on
mapped_more : {A C : Type 0} (f : A → C) (xs : List A) (i : ℕ) (x : A) → i < length xs → x ≡ slice_index_or xs i x
    → map f (take (i + 1) xs) ≡ map f (take i xs) ++ (f x ∷ [])
mapped_more f xs i x within is =
    ap (map f) (take_more xs i x within)
    ∙ (map-append f (take i xs) (slice_index_or xs i x ∷ [])
    ∙ ap (λ y. map f (take i xs) ++ (f y ∷ [])) (sym is))

-- the texts that are written are those to sign
pub texts_written : (s : Setting) (ws : List WaitingStamp) → AllByRecursion (HasText s) ws
    → map (λ w. w.unsigned.text.items) ws ≡ texts_of (pendings_in s ws)
texts_written s [] all = refl
texts_written s (w ∷ ws) all =
    ap (λ (text : List ℕ). text ∷ map (λ v. v.unsigned.text.items) ws) all.0
    ∙ ap (λ (texts : List (List ℕ)). attribute_text s.in_force.identity w.unsigned.tst.items ∷ texts)
    (texts_written s ws all.1)

-- and those of what is reserved
pub texts_reserved : (s : Setting) (ws : List WaitingStamp)
    → texts_of (pendings_in s ws) ≡ texts_for s (map waiting_view ws)
texts_reserved s [] = refl
texts_reserved s (w ∷ ws) =
    ap (λ (texts : List (List ℕ)). attribute_text s.in_force.identity w.unsigned.tst.items ∷ texts)
    (texts_reserved s ws)

text_before : (s : Setting) (v : Verdict) (ws : List WaitingStamp) → HasItsText s v → AllByRecursion (HasText s) ws
    → AllByRecursion (HasText s) (waiting_before v ws)
text_before s (Settled why o) ws text all = all
text_before s (Waits w) ws text all = (text, all)

pub texts_judged : (s : Setting) (js : List JudgedStamp) → AllByRecursion (IsJudgedRightly s) js
    → AllByRecursion (HasText s) (waits_of js)
texts_judged s [] rightly = tt
texts_judged s (j ∷ js) rightly = text_before s j.verdict (waits_of js) rightly.0.text (texts_judged s js rightly.1)

pub counts_each : {A : Type 0} (answers : List (Result (Vec ℕ A) SignerFault)) (count : ℕ)
    → count_after_each answers count ≡ count_after_each (map signed_by answers) count
counts_each [] count = refl
counts_each (Ok signature ∷ answers) count = counts_each answers count
counts_each (Err signer.Failed ∷ answers) count = counts_each answers (wrapping_add count 1)
counts_each (Err signer.Memory ∷ answers) count = counts_each answers count

sealed_more : (zs : List Completion) (z : Completion)
    → seals_of Fine (zs ++ (z ∷ [])) ≡ seals_of Fine zs ++ seals (completed Fine z).adds
sealed_more [] z = append-nil (seals (completed Fine z).adds)
sealed_more (y ∷ zs) z =
    ap (λ (vs : List SealValue). seals (completed Fine y).adds ++ vs) (sealed_more zs z)
    ∙ sym (append_assoc (seals (completed Fine y).adds) (seals_of Fine zs) (seals (completed Fine z).adds))

pub written_next : {W C : Type 0} (f : W → PendingValue) (h : C → Result (List ℕ) SignerFault) (ws : List W)
    (cs : List C) (i : ℕ) (w : W) (a : C) (vs now : List SealValue) (answers told : List Answer)
    → i < length ws → i < length cs → w ≡ slice_index_or ws i w → a ≡ slice_index_or cs i a
    → AreWritten (map f (take i ws)) (map h (take i cs)) vs answers → IsWrittenMore (f w) (h a) vs answers now told
    → AreWritten (map f (take (i + 1) ws)) (map h (take (i + 1) cs)) now told
written_next f h ws cs i w a vs now answers told within within_too is is_too all more =
    let zs = all.completions in
    let z : Completion = record { pending = f w; signing = h a; wrapping = more.wrapping } in
    record {
      completions = zs ++ (z ∷ []);
      pendings = map-append (λ y. y.pending) zs (z ∷ []) ∙ (ap (λ ps. ps ++ (f w ∷ [])) all.pendings
          ∙ sym (mapped_more f ws i w within is));
      signed = map-append (λ y. y.signing) zs (z ∷ []) ∙ (ap (λ ss. ss ++ (h a ∷ [])) all.signed
          ∙ sym (mapped_more h cs i a within_too is_too));
      grows = all_next (λ y. IsUncounted y.wrapping) zs z all.grows more.grows;
      seals_are = more.seals_are ∙ (ap (λ us. us ++ seals (completed Fine z).adds) all.seals_are
          ∙ sym (sealed_more zs z));
      says = more.says ∙ (ap (λ xs. xs ++ ((completed Fine z).says ∷ [])) all.says
          ∙ sym (map-append (λ y. (completed Fine y).says) zs (z ∷ [])));
    }
