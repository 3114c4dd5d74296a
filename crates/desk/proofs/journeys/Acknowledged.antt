-- The readers after a journey are those by the rights that it acknowledged and that its stops left.
use Rattle.std.proofs.Common.{zero, suc, ◌≡◌, ℕ, ◌+◌, ◌==◌, ◌&&◌, nat_le, cond, Bool, true, false, List, []}
use Rattle.std.proofs.Common.{◌∷◌, ◌++◌, drop, length, Option, Some, None, refl, sym, ◌∙◌, ap, subst}
use Rattle.book.specs.Continuation.{Floor, continued}
use Rattle.book.specs.History.{Entry, Reserved, Sealed, Deposited, Calibrated, Held, Granted, Revoked, History}
use Rattle.book.specs.History.{Installed, InstalledValue, calibrations, holds, latest_calibration, token_of}
use Rattle.book.specs.{History.ReservationValue, Identities.latest_identity, Readers.Reader, Readers.is_same}
use Rattle.book.specs.{Rights.is_reader, Rights.seen_by, Sound.Along, Sound.is_backwards}
use Rattle.book.proofs.Rights.{reader_after_grant, reader_after_revocation}
use Rattle.desk.specs.Findings.{StampPlan, Finding, Fails, Unanswered, Allowed}
use Rattle.desk.specs.Command.{InForce, Setting, Command, Stamp, Begin, Finish, Abandon, Deposit, Show, Token, ListAll}
use Rattle.desk.specs.Command.{Grant}
use Rattle.desk.specs.Command.{Revoke, Calibrate, Hold, Succeed, Answer, Done, Refused}
use Rattle.desk.specs.Effects.{Effect, only, unless, no_number, no_seal}
use Rattle.desk.specs.Effects.{accepted, numbered, succeed_effect, calibrate_effect, name_of}
use Rattle.desk.specs.MachineRuns.{Told, Journey, begins, opens, opens_older, shuts, rests, enters, breaks, goes, stops}
use Rattle.desk.specs.Effects.{Purpose, purpose_found, next_reservation, for_reply, for_deposit}
use Rattle.desk.specs.{Outcome.Outcome, Outcome.Cause, Outcome.cause_of, Texts.octets_for, Effects.begin_effect}
use Rattle.desk.specs.{Effects.begin_found, Effects.finish_effect, Effects.right_effect, Succession.installed_by}
use Rattle.desk.specs.{Succession.is_latest, declared.fault.Fault.Fault, MachineStep.HasEffect, MachineRuns.continues}
use Rattle.desk.specs.{Readers.where_done, Readers.rights_by, Readers.rights_along, Viewers.viewer_in}
use Rattle.desk.specs.declared.fault.Fault.TheVariants as fault
use Rattle.desk.proofs.journeys.Branches.{if_has, unless_has, right_has}
use Rattle.desk.proofs.journeys.StepFacts.{shows_none, tokens_none, answers_none}
use Rattle.desk.proofs.{journeys.WholeOn.goes_along, journeys.Branches.stamp_has, journeys.Branches.deposit_has}

-- entries that are the same to each reader of each deposit
abbrev SameRights : List Entry → List Entry → Type 0
SameRights xs ys = (b h : History) (n : ℕ) (reader : Reader) → is_reader n reader b ≡ is_reader n reader h
    → is_reader n reader (xs ++ b) ≡ is_reader n reader (ys ++ h)

same_rights : (xs : List Entry) → SameRights xs xs
same_rights [] b h n reader e = e
same_rights (Reserved r ∷ xs) b h n reader e = same_rights xs b h n reader e
same_rights (Sealed serial token ∷ xs) b h n reader e = same_rights xs b h n reader e
same_rights (Deposited d token ∷ xs) b h n reader e = same_rights xs b h n reader e
same_rights (Calibrated c ∷ xs) b h n reader e = same_rights xs b h n reader e
same_rights (Held k ∷ xs) b h n reader e = same_rights xs b h n reader e
same_rights (Installed i ∷ xs) b h n reader e = same_rights xs b h n reader e
same_rights (Granted m x ∷ xs) b h n reader e =
    reader_after_grant n reader m x (xs ++ b)
    ∙ (ap (cond ((m == n) && is_same x reader) true) (same_rights xs b h n reader e)
    ∙ sym (reader_after_grant n reader m x (xs ++ h)))
same_rights (Revoked m x ∷ xs) b h n reader e =
    reader_after_revocation n reader m x (xs ++ b)
    ∙ (ap (cond ((m == n) && is_same x reader) false) (same_rights xs b h n reader e)
    ∙ sym (reader_after_revocation n reader m x (xs ++ h)))

-- an effect that changes no right
abbrev IsSilent : Effect → Type 0
IsSilent e = SameRights e.adds []

refused_silent : (f : Fault) → IsSilent (only (Refused f))
refused_silent f b h n account e = e

stamp_silent : (u : Purpose) → ((r : ReservationValue) (token : List ℕ)
    → SameRights (u.keeping.adds r.serial token ∷ Reserved r ∷ []) [])
    → (s : Setting) (name octets : List ℕ) (o : Outcome) (b : History) (f : Finding)
    → IsSilent (purpose_found u s name octets o b f)
stamp_silent u silent s name octets o b f =
    stamp_has IsSilent u s name octets o b (λ rule c h n reader e. e) (λ cause c h n reader e. e) f
    (λ plan is left. (
      λ cause c h n reader e. e,
      λ token. silent (next_reservation s name plan octets b) token,
    ))

begin_silent : (s : Setting) (account octets : List ℕ) (plan : StampPlan) (b : History) (refused : Option Cause)
    → IsSilent (begin_effect s account plan octets b refused)
begin_silent s account octets plan b None c h n reader e = e
begin_silent s account octets plan b (Some cause) c h n reader e = e

begin_found_silent : (s : Setting) (account octets : List ℕ) (o : Outcome) (b : History) (f : Finding)
    → IsSilent (begin_found s account octets o b f)
begin_found_silent s account octets o b (Fails rule) = λ c h n reader e. e
begin_found_silent s account octets o b (Unanswered cause) = λ c h n reader e. e
begin_found_silent s account octets o b (Allowed plan) = begin_silent s account octets plan b (no_number o b)

-- an identity that is installed is no right
succeeded_silent : (o : Outcome) (i : InstalledValue) (latest : Bool) → IsSilent (succeed_effect o i latest)
succeeded_silent o i true = λ b h n reader e. e
succeeded_silent o i false =
    unless_has IsSilent refused_silent (cause_of o.adding) (accepted (Installed i)) (λ b h n reader e. e)

-- what adds nothing
none_silent : (e : Effect) → e.adds ≡ [] → IsSilent e
none_silent e none = subst (λ xs. SameRights xs []) (sym none) (λ b h n account same. same)

-- a right is added exactly where it is answered as done
abbrev IsRightOf : Entry → Effect → Type 0
IsRightOf entry e = e.adds ≡ where_done entry e.says

right_of : (entry : Entry) (c : Command) (e d : Effect) → ((a : Answer) → rights_by c a ≡ where_done entry a) → e ≡ d
    → IsRightOf entry d → SameRights e.adds (rights_by c e.says)
right_of entry c e d by same h =
    subst (λ x. SameRights x.adds (rights_by c x.says)) (sym same)
    (subst (λ xs. SameRights xs (rights_by c d.says)) (sym (h ∙ sym (by d.says))) (same_rights (rights_by c d.says)))

step_rights : (s : Setting) (c : Command) (o : Outcome) (b : History) (e : Effect) → HasEffect s c o b e
    → SameRights e.adds (rights_by c e.says)
step_rights s (Stamp account reading octets) o b e h =
    subst IsSilent (sym h.2) (stamp_silent for_reply (λ r token c k n reader e. e) s (name_of account) octets o b h.0)
step_rights s (Begin account reading octets) o b e h =
    subst IsSilent (sym h.2) (begin_found_silent s (name_of account) octets o b h.0)
step_rights s (Finish p signature) o b e h =
    subst IsSilent (sym h)
    (unless_has IsSilent refused_silent (no_seal o) (finish_effect p signature) (λ c k n account same. same))
step_rights s (Abandon p) o b e h = subst IsSilent (sym h) (λ c k n account same. same)
step_rights s (Deposit a reading reference bytes) o b e h =
    deposit_has IsSilent refused_silent s a reading reference bytes o b (λ d is c k n reader e. e)
    (λ unused spelled f found. stamp_silent (for_deposit a.name reference bytes) (λ r token c k n reader e. e) s a.name
    (octets_for s.file a bytes) o b f) (nat_le (length bytes) 1_048_576) e h
step_rights s (Show a n) o b e h =
    none_silent e (ap (λ x. x.adds) h ∙ shows_none (cause_of o.searching) _ (seen_by (viewer_in s.file a.name) n b))
step_rights s (Token a n) o b e h =
    none_silent e (ap (λ x. x.adds) h ∙ tokens_none (cause_of o.searching) _ (token_of n b) (seen_by (viewer_in s.file a.name) n b))
step_rights s (ListAll a) o b e h = none_silent e (ap (λ x. x.adds) h ∙ answers_none (cause_of o.looking) _)
step_rights s (Grant a n reader) o b e h =
    let entry = Granted n reader in
    let d = right_effect s.file a.name reader o entry (seen_by (viewer_in s.file a.name) n b) in
    right_of entry (Grant a n reader) e (unless (cause_of o.searching) d) (λ k. refl) h
    (unless_has (IsRightOf entry) (λ f. refl) (cause_of o.searching) d
    (right_has (IsRightOf entry) (λ f. refl) s.file a.name reader o entry (seen_by (viewer_in s.file a.name) n b)
    (λ x is owns. refl)))
step_rights s (Revoke a n reader) o b e h =
    let entry = Revoked n reader in
    let d = right_effect s.file a.name reader o entry (seen_by (viewer_in s.file a.name) n b) in
    right_of entry (Revoke a n reader) e (unless (cause_of o.searching) d) (λ k. refl) h
    (unless_has (IsRightOf entry) (λ f. refl) (cause_of o.searching) d
    (right_has (IsRightOf entry) (λ f. refl) s.file a.name reader o entry (seen_by (viewer_in s.file a.name) n b)
    (λ x is owns. refl)))
step_rights s (Calibrate c) o b e h =
    let backwards : Effect = only (Refused fault.Store) in
    subst IsSilent (sym h)
    (unless_has IsSilent refused_silent (cause_of o.adding) (calibrate_effect c b)
    (if_has IsSilent (is_backwards c (latest_calibration b)) backwards
    (numbered (Calibrated c) (length (calibrations b) + 1))
    (refused_silent fault.Store) (λ k l n account same. same)))
step_rights s (Hold k) o b e h =
    subst IsSilent (sym h)
    (unless_has IsSilent refused_silent (cause_of o.adding) (numbered (Held k) (length (holds b) + 1))
    (λ c l n account same. same))
step_rights s (Succeed next) o b e h =
    let i = installed_by next.identity in
    subst IsSilent (sym h)
    (unless_has IsSilent refused_silent (cause_of o.looking) (succeed_effect o i (is_latest i (latest_identity b)))
    (succeeded_silent o i (is_latest i (latest_identity b))))

-- what a stop leaves of a succession changes no right either
abbrev IsSilentCut : Effect → Type 0
IsSilentCut e = (k : ℕ) → SameRights (drop k e.adds) []

nothing_cut : (a : Answer) → IsSilentCut (only a)
nothing_cut a zero b h n reader e = e
nothing_cut a (suc k) b h n reader e = e

added_cut : (i : InstalledValue) → IsSilentCut (accepted (Installed i))
added_cut i zero b h n reader e = e
added_cut i (suc zero) b h n reader e = e
added_cut i (suc (suc k)) b h n reader e = e

succeeded_cut : (o : Outcome) (i : InstalledValue) (latest : Bool) → IsSilentCut (succeed_effect o i latest)
succeeded_cut o i true = nothing_cut Done
succeeded_cut o i false = unless_has IsSilentCut (λ f. nothing_cut (Refused f)) (cause_of o.adding) (accepted (Installed i)) (added_cut i)

opening_cut : (s : Setting) (next : InForce) (o : Outcome) (b : History) (e : Effect) → HasEffect s (Succeed next) o b e
    → IsSilentCut e
opening_cut s next o b e h =
    let i = installed_by next.identity in
    subst IsSilentCut (sym h)
    (unless_has IsSilentCut (λ f. nothing_cut (Refused f)) (cause_of o.looking) (succeed_effect o i (is_latest i (latest_identity b)))
    (succeeded_cut o i (is_latest i (latest_identity b))))

-- a new book begins without rights
abbrev IsRightless : Entry → History → Type 0
IsRightless (Granted n reader) b = ⊥
IsRightless (Revoked n reader) b = ⊥
IsRightless _ b = Unit {0}

rightless : (floor : Option Floor) (b : History) → Along IsRightless (continued floor b)
rightless floor b = goes_along IsRightless (record {
  calibrated = λ c b. tt;
  held = λ h b. tt;
  installed = λ i b. tt;
  sealed = λ n token b. tt;
}) floor b (λ r last. tt)

unread : (b : History) → Along IsRightless b → (n : ℕ) (reader : Reader) → is_reader n reader b ≡ is_reader n reader []
unread [] none n reader = refl
unread (Granted m x ∷ b) none n reader = absurd none.0
unread (Revoked m x ∷ b) none n reader = absurd none.0
unread (_ ∷ b) none n reader = unread b none.1 n reader

pub readers_along : (b : History) (x : Option Setting) (w : List Told) (j : Journey b x w) (n : ℕ) (reader : Reader)
    → is_reader n reader b ≡ is_reader n reader (rights_along j)
readers_along b x w begins n reader = refl
readers_along b x w (opens {b = b0} {x = x0} {w = w0} s o e proper h done j) n reader =
    step_rights s (Succeed s.in_force) o b0 e h b0 (rights_along j) n reader (readers_along b0 x0 w0 j n reader)
readers_along b x w (opens_older {b = b0} {x = x0} {w = w0} s proper none unnamed j) n reader =
    readers_along b0 x0 w0 j n reader
readers_along b x w (shuts {b = b0} {x = x0} {w = w0} s o e k proper h j) n reader =
    opening_cut s s.in_force o b0 e h k b0 (rights_along j) n reader (readers_along b0 x0 w0 j n reader)
readers_along b x w (rests {b = b0} {x = x0} {w = w0} j) n reader = readers_along b0 x0 w0 j n reader
readers_along b x w (enters {b = b0} {w = w0} s c o e entering met h j) n reader =
    step_rights s c o b0 e h b0 (rights_along j) n reader (readers_along b0 None w0 j n reader)
readers_along b x w (breaks {b = b0} {w = w0} s c o e k entering met h j) n reader =
    same_rights (drop k e.adds) b0 (rights_along j) n reader (readers_along b0 None w0 j n reader)
readers_along b x w (goes {b = b0} {w = w0} s c o e met h j) n reader =
    step_rights s c o b0 e h b0 (rights_along j) n reader (readers_along b0 (Some s) w0 j n reader)
readers_along b x w (stops {b = b0} {w = w0} s c o e k met h j) n reader =
    same_rights (drop k e.adds) b0 (rights_along j) n reader (readers_along b0 (Some s) w0 j n reader)
readers_along b x w (continues {b = b0} floor above stated j) n reader =
    unread (continued floor b0) (rightless floor b0) n reader
