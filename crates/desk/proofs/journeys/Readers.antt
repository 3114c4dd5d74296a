-- What rights make of who reads a deposit, and of who sees it.
use Rattle.std.proofs.{Common.◌≡◌, Common.ℕ, Common.◌==◌, Common.◌&&◌, Common.◌||◌, Common.cond, Common.Bool}
use Rattle.std.proofs.{Common.true, Common.false, Common.List, Common.[], Common.◌∷◌, Common.Option, Common.Some}
use Rattle.std.proofs.{Common.None, Common.refl, Common.sym, Common.◌∙◌, Common.ap, Common.subst, lemmas.Bool.eqb-true}
use Rattle.std.specs.{List.list_any, Option.option_and_then, Str.bytes_eq}
use Rattle.book.specs.History.{Granted, Revoked, History, deposit_at}
use Rattle.book.specs.Readers.{Reader, is_same, Viewer, readers_as}
use Rattle.book.specs.{Rights.is_reader, Rights.may_read, Rights.shown_to, Rights.seen_by, Rows.DepositRow}
use Rattle.book.proofs.Rights.{reader_after_grant, reader_after_revocation}

any_same : (f g : Reader → Bool) → ((reader : Reader) → f reader ≡ g reader) → (readers : List Reader)
    → list_any f readers ≡ list_any g readers
any_same f g same [] = refl
any_same f g same (reader ∷ readers) =
    ap (λ t. t || list_any f readers) (same reader) ∙ ap (λ t. g reader || t) (any_same f g same readers)

none_of : (f : Reader → Bool) → ((reader : Reader) → f reader ≡ false) → (readers : List Reader)
    → list_any f readers ≡ false
none_of f none [] = refl
none_of f none (reader ∷ readers) = ap (λ t. t || list_any f readers) (none reader) ∙ none_of f none readers

-- where none is a reader, nobody reads
pub nobody_reads : (viewer : Viewer) (n : ℕ) (b : History) → ((reader : Reader) → is_reader n reader b ≡ false)
    → may_read viewer n b ≡ false
nobody_reads viewer n b none = none_of (λ reader. is_reader n reader b) none (readers_as viewer)

-- a right to another deposit leaves who sees this one
granted_beside : (n : ℕ) (x : Reader) (m : ℕ) (b : History) → (n == m) ≡ false → (reader : Reader)
    → is_reader m reader (Granted n x ∷ b) ≡ is_reader m reader b
granted_beside n x m b other reader =
    reader_after_grant m reader n x b
    ∙ ap (λ t. cond (t && is_same x reader) true (is_reader m reader b)) other

revoked_beside : (n : ℕ) (x : Reader) (m : ℕ) (b : History) → (n == m) ≡ false → (reader : Reader)
    → is_reader m reader (Revoked n x ∷ b) ≡ is_reader m reader b
revoked_beside n x m b other reader =
    reader_after_revocation m reader n x b
    ∙ ap (λ t. cond (t && is_same x reader) false (is_reader m reader b)) other

abbrev seen_where : Viewer → ℕ → History → Bool → Option DepositRow
seen_where viewer n b reads = option_and_then (shown_to viewer reads) (deposit_at n b)

pub seen_beside_grant : (viewer : Viewer) (n : ℕ) (x : Reader) (m : ℕ) (b : History) → (n == m) ≡ false
    → seen_by viewer m (Granted n x ∷ b) ≡ seen_by viewer m b
seen_beside_grant viewer n x m b other =
    ap (seen_where viewer m b)
    (any_same (λ reader. is_reader m reader (Granted n x ∷ b)) (λ reader. is_reader m reader b)
    (granted_beside n x m b other) (readers_as viewer))

pub seen_beside_revocation : (viewer : Viewer) (n : ℕ) (x : Reader) (m : ℕ) (b : History) → (n == m) ≡ false
    → seen_by viewer m (Revoked n x ∷ b) ≡ seen_by viewer m b
seen_beside_revocation viewer n x m b other =
    ap (seen_where viewer m b)
    (any_same (λ reader. is_reader m reader (Revoked n x ∷ b)) (λ reader. is_reader m reader b)
    (revoked_beside n x m b other) (readers_as viewer))

-- the deposit with the number is the viewer's own
pub record IsOwn (viewer : Viewer) (n : ℕ) (b : History) : Type 0 where
  pub deposit : DepositRow
  pub deposited : deposit_at n b ≡ Some deposit
  pub owns : bytes_eq deposit.owner viewer.name ≡ true

-- its owner sees it, whoever reads it
pub owner_sees : (viewer : Viewer) (n : ℕ) (b : History) (own : IsOwn viewer n b) (reads : Bool)
    → seen_where viewer n b reads ≡ Some own.deposit
owner_sees viewer n b own reads =
    ap (option_and_then (shown_to viewer reads)) own.deposited
    ∙ ap (λ t. cond (t || reads) (Some own.deposit) None) own.owns

-- so a right to it leaves what its owner sees
own_at : (viewer : Viewer) (n m : ℕ) (b : History) (one other : Bool) → IsOwn viewer n b → n ≡ m
    → seen_where viewer m b one ≡ seen_where viewer m b other
own_at viewer n m b one other own same =
    subst (λ k. seen_where viewer k b one ≡ seen_where viewer k b other) same
    (owner_sees viewer n b own one ∙ sym (owner_sees viewer n b own other))

granted_where : (viewer : Viewer) (n : ℕ) (x : Reader) (m : ℕ) (b : History) → IsOwn viewer n b → (same : Bool)
    → (n == m) ≡ same → seen_by viewer m (Granted n x ∷ b) ≡ seen_by viewer m b
granted_where viewer n x m b own true is =
    own_at viewer n m b (may_read viewer m (Granted n x ∷ b)) (may_read viewer m b) own (eqb-true n m is)
granted_where viewer n x m b own false is = seen_beside_grant viewer n x m b is

pub seen_after_grant : (viewer : Viewer) (n : ℕ) (x : Reader) (m : ℕ) (b : History) → IsOwn viewer n b
    → seen_by viewer m (Granted n x ∷ b) ≡ seen_by viewer m b
seen_after_grant viewer n x m b own = granted_where viewer n x m b own (n == m) refl

revoked_where : (viewer : Viewer) (n : ℕ) (x : Reader) (m : ℕ) (b : History) → IsOwn viewer n b → (same : Bool)
    → (n == m) ≡ same → seen_by viewer m (Revoked n x ∷ b) ≡ seen_by viewer m b
revoked_where viewer n x m b own true is =
    own_at viewer n m b (may_read viewer m (Revoked n x ∷ b)) (may_read viewer m b) own (eqb-true n m is)
revoked_where viewer n x m b own false is = seen_beside_revocation viewer n x m b is

pub seen_after_revocation : (viewer : Viewer) (n : ℕ) (x : Reader) (m : ℕ) (b : History) → IsOwn viewer n b
    → seen_by viewer m (Revoked n x ∷ b) ≡ seen_by viewer m b
seen_after_revocation viewer n x m b own = revoked_where viewer n x m b own (n == m) refl
