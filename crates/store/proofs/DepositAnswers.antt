-- From what the tables answer to what the look-ups of deposits answer.
use Rattle.store.proofs.Words.{Deposit, DepositRow, Global, History, IsFoundAs, IsSound, List, None, Option, Origin}
use Rattle.store.proofs.Words.{ShowsDeposit, ShowsOrigin, ShowsReference, ShowsStamp, Some, Stamp, String, ap}
use Rattle.store.proofs.Words.{deposit_at, deposit_view, deposit_with_stamp, is_deposit, is_owned, is_stamp, option_map}
use Rattle.store.proofs.Words.{refl, stamp_at, stamp_view, string_bytes, subst, sym, ℕ, ◌∙◌, ◌≡◌}
use Rattle.store.proofs.DepositRows.{deposit_view_of, labelled_listing, origin_view_of, stamp_view_of}
use Rattle.store.proofs.DepositRows.{unlabelled_listing, unreserved_listing}
use Rattle.store.specs.{auxiliary.Replay.replayed, auxiliary.Steps.IsOriginOf, auxiliary.Steps.listing_at}

-- ---- a deposit with its stamp

pub without_deposit : (b : History) (n : ℕ) (found : Option Deposit) → IsSound b → found ≡ None
    → IsFoundAs ShowsDeposit (is_deposit n) (replayed b).deposits found → None ≡ deposit_with_stamp n b
without_deposit b n found s none rows =
    let at : deposit_at n b ≡ None =
    sym (deposit_view_of b n found s rows) ∙ ap (option_map deposit_view) none in rw at refl

pub without_stamp : (b : History) (n : ℕ) (found : Option Stamp) → IsSound b → found ≡ None
    → IsFoundAs ShowsStamp (is_stamp n) (replayed b).stamps found → None ≡ deposit_with_stamp n b
without_stamp b n found s none rows =
    let at : stamp_at n b ≡ None = sym (stamp_view_of b n found s rows) ∙ ap (option_map stamp_view) none in
    whatever at (deposit_at n b) refl where
      whatever : stamp_at n b ≡ None → (o : Option DepositRow) → deposit_at n b ≡ o → None ≡ deposit_with_stamp n b
      whatever at None e = rw e refl
      whatever at (Some d) e = rw (e, at) refl

pub with_both : (b : History) (n : ℕ) (found : Option Deposit) (stamped : Option Stamp) (deposit : Deposit)
    (stamp : Stamp) → IsSound b → found ≡ Some deposit → stamped ≡ Some stamp
    → IsFoundAs ShowsDeposit (is_deposit n) (replayed b).deposits found
    → IsFoundAs ShowsStamp (is_stamp n) (replayed b).stamps stamped
    → Some (deposit_view deposit, stamp_view stamp) ≡ deposit_with_stamp n b
with_both b n found stamped deposit stamp s first second rows stamps =
    let at : deposit_at n b ≡ Some (deposit_view deposit) =
    sym (deposit_view_of b n found s rows) ∙ ap (option_map deposit_view) first in
    let stamp_is : stamp_at n b ≡ Some (stamp_view stamp) =
    sym (stamp_view_of b n stamped s stamps) ∙ ap (option_map stamp_view) second in
    rw (at, stamp_is) refl

-- ---- what a list shows of a deposit

pub without_origin : (b : History) (n : ℕ) (found : Option Origin) → IsSound b → found ≡ None
    → IsFoundAs ShowsOrigin (is_stamp n) (replayed b).stamps found → None ≡ listing_at n b
without_origin b n found s none rows =
    sym (unreserved_listing b n s (subst (λ o. IsOriginOf n b o) none (origin_view_of b n found s rows)))

pub without_label : (b : History) (n : ℕ) (found : Option Origin) (origin : Origin) (account : List ℕ)
    (labelled : Option (String Global)) → IsSound b
    → found ≡ Some origin → account ≡ string_bytes origin.account → labelled ≡ None
    → IsFoundAs ShowsOrigin (is_stamp n) (replayed b).stamps found
    → IsFoundAs ShowsReference (is_owned n account) (replayed b).deposits labelled → None ≡ listing_at n b
without_label b n found origin account labelled s is named none rows labels =
    let at = subst (λ o. IsOriginOf n b o) is (origin_view_of b n found s rows) in
    let under : IsFoundAs ShowsReference (is_owned n (string_bytes origin.account)) (replayed b).deposits labelled =
    subst (λ a. IsFoundAs ShowsReference (is_owned n a) (replayed b).deposits labelled) named labels in
    sym (unlabelled_listing b n origin s at
    (subst (λ l. IsFoundAs ShowsReference (is_owned n (string_bytes origin.account)) (replayed b).deposits l) none
    under))

pub with_label : (b : History) (n : ℕ) (found : Option Origin) (origin : Origin) (account : List ℕ)
    (labelled : Option (String Global)) (reference : String Global) → IsSound b
    → found ≡ Some origin → account ≡ string_bytes origin.account → labelled ≡ Some reference
    → IsFoundAs ShowsOrigin (is_stamp n) (replayed b).stamps found
    → IsFoundAs ShowsReference (is_owned n account) (replayed b).deposits labelled
    → Some (record {
      number = n;
      owner = string_bytes origin.account;
      reference = string_bytes reference;
      gen_time = origin.gen_time;
    })
    ≡ listing_at n b
with_label b n found origin account labelled reference s is named some rows labels =
    let at = subst (λ o. IsOriginOf n b o) is (origin_view_of b n found s rows) in
    let under : IsFoundAs ShowsReference (is_owned n (string_bytes origin.account)) (replayed b).deposits labelled =
    subst (λ a. IsFoundAs ShowsReference (is_owned n a) (replayed b).deposits labelled) named labels in
    labelled_listing b n origin reference s at
    (subst (λ l. IsFoundAs ShowsReference (is_owned n (string_bytes origin.account)) (replayed b).deposits l) some
    under)
