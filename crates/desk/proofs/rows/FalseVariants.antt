-- What the promises refuse: false variants of what a journey gave out and acknowledged, of what an account is shown and
-- listed and may know of others, and of outcomes, effects and grants, each computed on the rows.
use Rattle.std.proofs.Common.{◌≡◌, ◌⊎◌, ℕ, ◌+◌, ◌<◌, pos, true, false, List, [], ◌∷◌, Option, Some, None, Ok, Err, refl}
use Rattle.std.proofs.{Common.inl, Common.inr, Common.arith, Common.sym, Common.◌∙◌, Common.ap}
use Rattle.std.specs.{Prelude.codes, Str.bytes_eq}
use Rattle.book.specs.declared.standing.Standing.{Ghosts}
use Rattle.book.specs.History.{Reserved, Granted, Revoked, Installed, InstalledValue, History}
use Rattle.book.specs.{History.HoldValue, Readers.Account, Readers.Group, Rights.ListedValue, Rows.DepositRow}
use Rattle.der.specs.Node.{Node}
use Rattle.cms.specs.Identity.{IdentityValue}
use Rattle.cms.specs.declared.signer.SignerFault.TheVariants as signer
use Rattle.desk.specs.Command.{Setting, PendingValue, Stamp, Begin, Finish, Show, Token, ListAll, Grant, Revoke}
use Rattle.desk.specs.Command.{Hold, Succeed, Stamped, Rejected, Begun, Shown, Done, Numbered, Refused, setting_after}
use Rattle.desk.specs.Succession.{installed_by, IsInForce, NamesLatest}
use Rattle.desk.specs.Laws.{IsFinished, IsStampOfPlan, IsRefusalOfPlan, AreMet}
use Rattle.desk.specs.{Agreement.seen_as, Agreement.Agree, Effects.only, Effects.accepted, Fit.IsFit}
use Rattle.desk.specs.{Findings.HoldsUnasked, Outcome.OutOfMemory, Outcome.Failed, Outcome.all_fine, Promises.IsAlike}
use Rattle.desk.specs.{Readers.rights_by, Replies.IsRejected, MachineRuns.IsProper, MachineRuns.IsKept}
use Rattle.desk.specs.{Serials.given_by, Serials.Falls, Serials.AreInOrder, Sight.ShowsExactly, Sight.IsExactList}
use Rattle.desk.specs.{CallContract.IsBlamedFor, CallContract.IsOpened, MachineStep.HasEffect, Viewers.viewer_in}
use Rattle.desk.specs.declared.fault.Fault.TheVariants as fault
use Rattle.tsp.specs.declared.rule.Rule.TheVariants.{Spelling, System}
use Rattle.desk.proofs.rows.Rows.{alice, carol, file, grouped, setting, reserved, history, deposit, deposited, identity}
use Rattle.desk.proofs.rows.Rows.{installed, chained, chained_force}

-- the text of a void stamp was given out, under its number
void_given : given_by (Some []) (Rejected System) (Reserved (reserved 3 0) ∷ []) ≡ 3 ∷ []
void_given = refl

-- of a command that a stop cut before its reservation, none was
none_given : given_by (Some []) (Rejected System) [] ≡ []
none_given = refl

-- a number that is given out twice, one that doesn't rise, and one above all that the history has
twice : Falls (2 ∷ 2 ∷ []) → ⊥
twice falls = let below : 2 < 2 = falls.0.0 in absurd (omega arith)

falling : Falls (2 ∷ 3 ∷ []) → ⊥
falling falls = let below : 3 < 2 = falls.0.0 in absurd (omega arith)

unreserved : AreInOrder (3 ∷ []) history → ⊥
unreserved order = let within = order.within.0 in absurd (omega arith)

-- carol, to whom a right was given, is told that none is here
abbrev shared : History
shared = Granted 2 (Account (codes "carol")) ∷ deposited

denied : ShowsExactly file (Show carol 2) (all_fine (Ok [])) shared (Refused fault.NotHere) → ⊥
denied h = h deposit (record { deposited = refl; may = inr refl })

-- and is told so though the calls were answered, by want of memory
wanting : ShowsExactly file (Show carol 2) (all_fine (Ok [])) shared (Refused fault.Memory) → ⊥
wanting h = cc

-- octets that differ
apart : true ≡ false → ⊥
apart e = cc

differ : (x y : List ℕ) → bytes_eq x x ≡ true → bytes_eq x y ≡ false → x ≡ y → ⊥
differ x y same other e = apart (sym same ∙ (ap (bytes_eq x) e ∙ other))

the_deposit : (d : DepositRow) → Some deposit ≡ Some d → deposit ≡ d
the_deposit d e = cc

-- she is shown it after the right was taken
taken_at : (d : DepositRow) → deposit ≡ d → (d.owner ≡ codes "carol") ⊎ (false ≡ true) → ⊥
taken_at d e (inl own) = differ (codes "alice") (codes "carol") refl refl (ap (λ x. x.owner) e ∙ own)
taken_at d e (inr reads) = apart (sym reads)

taken : ShowsExactly file (Show carol 2) (all_fine (Ok [])) (Revoked 2 (Account (codes "carol")) ∷ shared) (Shown (codes "abc")) → ⊥
taken h = taken_at h.0 (the_deposit h.0 h.1.deposited) h.1.may

-- a member is denied what is shared with its group, and is shown it after the group's right was taken
abbrev shared_with_group : History
shared_with_group = Granted 2 (Group (codes "staff")) ∷ deposited

denied_to_member : ShowsExactly grouped (Show carol 2) (all_fine (Ok [])) shared_with_group (Refused fault.NotHere) → ⊥
denied_to_member h = h deposit (record { deposited = refl; may = inr refl })

taken_from_group : ShowsExactly grouped (Show carol 2) (all_fine (Ok []))
    (Revoked 2 (Group (codes "staff")) ∷ shared_with_group) (Shown (codes "abc")) → ⊥
taken_from_group h = taken_at h.0 (the_deposit h.0 h.1.deposited) h.1.may

-- the right of an account is dropped with that of its group
dropped : ShowsExactly grouped (Show carol 2) (all_fine (Ok []))
    (Revoked 2 (Group (codes "staff")) ∷ Granted 2 (Account (codes "carol")) ∷ shared_with_group)
    (Refused fault.NotHere) → ⊥
dropped h = h deposit (record { deposited = refl; may = inr refl })

-- who has left the group is shown it
left_group : ShowsExactly file (Show carol 2) (all_fine (Ok [])) shared_with_group (Shown (codes "abc")) → ⊥
left_group h = taken_at h.0 (the_deposit h.0 h.1.deposited) h.1.may

-- a list leaves out what is shared with a group
empty_for_member : IsExactList (viewer_in grouped (codes "carol")) shared_with_group [] → ⊥
empty_for_member h =
    let row = (h.all 2 deposit (record { deposited = refl; may = inr refl })).1 in
    let below = row.1 in
    absurd (omega arith)

-- other octets are shown
others : ShowsExactly file (Show alice 2) (all_fine (Ok [])) deposited (Shown (codes "abd")) → ⊥
others h =
    differ (codes "abc") (codes "abd") refl refl
    (ap (λ x. x.bytes) (the_deposit h.0 h.1.deposited) ∙ sym h.2)

-- a list leaves a deposit out, and has it twice
empty : IsExactList (viewer_in file (codes "carol")) shared [] → ⊥
empty h =
    let row = (h.all 2 deposit (record { deposited = refl; may = inr refl })).1 in
    let below = row.1 in
    absurd (omega arith)

abbrev row : ListedValue
row = record { number = 2; owner = codes "alice"; reference = codes "plan-7"; gen_time = 86399000000 }

repeated : IsExactList (viewer_in file (codes "carol")) shared (row ∷ row ∷ []) → ⊥
repeated h = let below : 2 < 2 = h.rising.0.0 in absurd (omega arith)

-- a list that the database refused, and counted, is told as want of memory: by a call that it doesn't make, or though
-- its own call was counted
elsewhere : IsFit (ListAll alice) (record (all_fine (Ok [])) { looking = OutOfMemory; searching = Failed }) → ⊥
elsewhere fits = let same = ap (λ o. o.searching) fits.0 in cc

counted : {B : Type 0} (g : Ghosts B) (old new : B)
    → IsBlamedFor g (ListAll alice) (record (all_fine (Ok [])) { looking = Failed }) old new fault.Memory → ⊥
counted g old new none_failed = none_failed.looking

-- the store is named though it didn't fail, whatever it returned
unfailed : {B : Type 0} (g : Ghosts B) (old new : B)
    → IsBlamedFor g (Show alice 2) (all_fine (Ok [])) old new fault.Store → ⊥
unfailed g old new (inl failed) = elim failed [
  | inl e ↦ cc
  | inr a ↦ elim a [
    | inl e ↦ cc
    | inr b ↦ elim b [
      | inl e ↦ cc
      | inr c ↦ elim c [
        | inl e ↦ cc
        | inr d ↦ elim d [ inl e ↦ cc | inr f ↦ elim f [ inl e ↦ cc | inr g ↦ cc ] ]
      ]
    ]
  ]
]
unfailed g old new (inr excused) = excused

-- nobody has a day that could be counted
nobodys_day : IsFit (Stamp None (pos 0) []) (record (all_fine (Ok [])) { counting = Failed }) → ⊥
nobodys_day fits = let same = ap (λ o. o.counting) fits.0 in cc

-- a sight has no signer
unsigned : IsFit (Show alice 2) (all_fine (Err signer.Failed)) → ⊥
unsigned fits = let same = ap (λ o. o.signing) fits.0 in cc

-- a right that was acknowledged is forgotten, and one that was refused counts
forgotten : rights_by (Revoke alice 2 (Account (codes "carol"))) Done ≡ [] → ⊥
forgotten e = cc

refused_counts : rights_by (Grant carol 2 (Account (codes "alice"))) (Refused fault.NotOwner)
    ≡ Granted 2 (Account (codes "alice")) ∷ [] → ⊥
refused_counts e = cc

-- histories agree for her that differ in a deposit that she sees
agreeing : Agree (viewer_in file (codes "carol")) shared deposited → ⊥
agreeing agree = let seen : Some (seen_as 2 shared deposit) ≡ None = agree.seen 2 in cc

-- and she is shown from the one what isn't there in the other
alike_otherwise : IsAlike (codes "carol") setting (Show carol 2) (all_fine (Ok [])) history deposited
    (only (Shown (codes "abc"))) → ⊥
alike_otherwise alike =
    let says : Shown (codes "abc") ≡ Refused fault.NotHere = ap (λ e. e.says) alike.has in
    cc

-- the caller of a finish sees to what the history says at that moment, and can't where the number is sealed
abbrev waiting : PendingValue
waiting = record { serial = 2; tst = []; certificate = false; identity = identity; algorithm = [] }

met : AreMet setting (Finish waiting (1 ∷ []) ∷ []) (all_fine (Ok []) ∷ []) history
met = (
  (
    record { reservation = reserved 2 86399000000; reserved = refl; tst = refl; open_yet = refl },
    (omega arith, omega arith),
  ),
  λ e has. tt,
)

unmet : AreMet setting (Finish waiting (1 ∷ []) ∷ []) (all_fine (Ok []) ∷ []) deposited → ⊥
unmet are = let open_yet : Some [] ≡ None = are.0.0.open_yet in cc

-- a command has a second effect
second_effect : HasEffect setting (Show alice 2) (all_fine (Ok [])) deposited (only (Refused fault.NotHere)) → ⊥
second_effect h = let says : Refused fault.NotHere ≡ Shown (codes "abc") = ap (λ e. e.says) h in cc

-- a right is acknowledged over a store that is shut
shut : {B : Type 0} (g : Ghosts B) (new : B) → (g.is_open new → ⊥)
    → IsOpened g (Grant alice 2 (Account (codes "carol"))) Done new → ⊥
shut g new closed opened = closed opened

-- so is a hold, and what a command is said to have done that enters nothing
shut_hold : {B : Type 0} (g : Ghosts B) (new : B) (h : HoldValue) → (g.is_open new → ⊥)
    → IsOpened g (Hold h) (Numbered 1) new → ⊥
shut_hold g new h closed opened = closed opened

shut_sight : {B : Type 0} (g : Ghosts B) (new : B) → (g.is_open new → ⊥)
    → IsOpened g (Show alice 2) Done new → ⊥
shut_sight g new closed opened = closed opened

-- what a journey acknowledged: a stamp is begun, and so signed, under another identity than that of its number
abbrev begun_by : IdentityValue → PendingValue
begun_by of = record { serial = 3; tst = []; certificate = false; identity = of; algorithm = [] }

begun_otherwise : IsKept (Reserved (reserved 3 0) ∷ installed) (Begin None (pos 0) []) (Begun (begun_by chained)) → ⊥
begun_otherwise kept =
    let same : installed_by identity ≡ installed_by chained = kept.signer (installed_by identity) refl in
    let chains : identity.chain ≡ chained.chain = ap (λ i. i.chain) same in
    cc

-- of a number whose identity came later than its reservation, none is asked
begun_before : IsKept (Installed (installed_by identity) ∷ Reserved (reserved 3 0) ∷ history) (Begin None (pos 0) [])
    (Begun (begun_by chained))
begun_before = record { reservation = reserved 3 0; reserved = refl; tst = refl; signer = λ i found. absurd cc }

-- a stamp's token is gone, and a command is answered as none of its kind is
gone : (reply : List ℕ) → IsKept history (Stamp None (pos 0) []) (Stamped 2 reply) → ⊥
gone reply kept = let sealed = kept.2.sealed in cc

done_sight : IsKept history (Show alice 2) Done → ⊥
done_sight kept = kept

-- the token of a reply that was shown is gone, and a deposit is shown with other octets
gone_reply : (reply : List ℕ) → IsKept history (Token alice 2) (Shown reply) → ⊥
gone_reply reply kept = let sealed = kept.2 in cc

shown_otherwise : IsKept deposited (Show alice 2) (Shown (codes "abd")) → ⊥
shown_otherwise kept =
    differ (codes "abc") (codes "abd") refl refl (ap (λ x. x.bytes) (the_deposit kept.0 kept.1) ∙ sym kept.2)

-- a finish grants another number than that of what waited
another_number : (p : PendingValue) (reply : List ℕ) → IsFinished p [] (p.serial + 1) reply → ⊥
another_number p reply h = let same = h.number in absurd (omega arith)

-- a stamp is answered as a right is, and a deposit under a new reference is a conflict
done_stamp : IsStampOfPlan setting None (pos 0) [] (all_fine (Ok [])) history Done → ⊥
done_stamp done = done

new_conflict : (bytes : List ℕ)
    → IsRefusalOfPlan setting alice (pos 0) (codes "plan-8") bytes history fault.Conflict → ⊥
new_conflict bytes h = let found = h.1 in cc

-- rule 12 is given in place of a rule that asks the store nothing
instead : (octets : List ℕ) → (HoldsUnasked file None octets Spelling → ⊥)
    → IsRejected setting None (pos 0) octets history System → ⊥
instead octets unspelled (inl first) = unspelled (first.before Spelling (omega arith))
instead octets unspelled (inr last) = unspelled (last.1 Spelling)

-- a policy file without an accuracy is proper
improper : (s : Setting) → s.file.counter.accuracy_us ≡ 0 → IsProper s → ⊥
improper s none proper = let some = proper.some_accuracy in absurd (omega arith)

-- the authority is named though no identity was installed
unknown : (name : Node) → NamesLatest (Some name) history → ⊥
unknown name h = cc

-- an identity that was installed last is another one than that in force
abbrev chain_in : Option InstalledValue → List ℕ
chain_in None = []
chain_in (Some i) = i.chain

out_of_force : IsInForce chained_force installed → ⊥
out_of_force h = let same : identity.chain ≡ chained.chain = ap chain_in h in cc

-- an opening installs the same identity again
again : HasEffect setting (Succeed setting.in_force) (all_fine (Ok [])) installed
    (accepted (Installed (installed_by identity))) → ⊥
again h = let adds : Installed (installed_by identity) ∷ [] ≡ [] = ap (λ e. e.adds) h in cc

-- a succession that is refused has brought what it was to bring
brought_though : setting_after setting (Succeed chained_force) (Refused fault.Store) ≡ record {
  file = file;
  in_force = chained_force;
} → ⊥
brought_though e = let same : identity.chain ≡ chained.chain = ap (λ s. s.in_force.identity.chain) e in cc
