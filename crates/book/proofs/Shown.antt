-- What histories show: entries that show nothing, and entries on histories that show the same.
use Rattle.std.proofs.Common.{◌≡◌, ◌==◌, ◌&&◌, ℕ, suc, Bool, true, false, cond, List, [], ◌∷◌, length, Some, refl, sym}
use Rattle.std.proofs.{Common.ap, Common.◌∙◌, Common.subst, lemmas.Bool.eqb-true, lemmas.Slice.Eq.bytes_eq-Decides}
use Rattle.book.specs.{Entries.with_all, Entries.FitInTurn, Shows.ShowsSame, Sound.IsSound, Identities.installed_rows}
use Rattle.book.specs.{Rights.is_reader, Readers.Reader, Readers.Account, Readers.Group, Readers.is_same}
use Rattle.book.specs.History.{Entry, Reserved, Sealed, Deposited, Calibrated, Held, Granted, Revoked, Installed}
use Rattle.book.specs.History.{History, InstalledValue, reservations, installations}
use Rattle.book.proofs.Rights.{reader_after_grant, reader_after_revocation}

both : (v w : Bool) → (v && w) ≡ true → (v ≡ true) × (w ≡ true)
both true w e = (refl, e)
both false w e = cc

reader_is : (r reader : Reader) → is_same r reader ≡ true → r ≡ reader
reader_is (Account name) (Account other) e = ap Account ((bytes_eq-Decides name other).0 e)
reader_is (Group name) (Group other) e = ap Group ((bytes_eq-Decides name other).0 e)
reader_is (Account name) (Group other) e = absurd cc
reader_is (Group name) (Account other) e = absurd cc

-- who reads stays who reads, where an entry says of a reader what was so before
unchanged : (v : Bool) (n number : ℕ) (r reader : Reader) (b : History) → is_reader n r b ≡ v
    → cond ((n == number) && is_same r reader) v (is_reader number reader b) ≡ is_reader number reader b
unchanged v n number r reader b reads = go ((n == number) && is_same r reader) refl where
  go : (w : Bool) → ((n == number) && is_same r reader) ≡ w
      → cond w v (is_reader number reader b) ≡ is_reader number reader b
  go true e =
      let parts = both (n == number) (is_same r reader) e in
      sym (subst (λ k. is_reader k reader b ≡ v) (eqb-true n number parts.0)
      (subst (λ x. is_reader n x b ≡ v) (reader_is r reader parts.1) reads))
  go false e = refl

pub grant_shows : (n : ℕ) (r : Reader) (b : History) → is_reader n r b ≡ true → ShowsSame (Granted n r ∷ b) b
grant_shows n r b reads = record {
  reserved = refl;
  tokens = λ serial. refl;
  calibrated = refl;
  held = refl;
  deposited = refl;
  readers = λ number reader.
      reader_after_grant number reader n r b ∙ unchanged true n number r reader b reads;
  installed = refl;
}

pub revocation_shows : (n : ℕ) (r : Reader) (b : History) → is_reader n r b ≡ false → ShowsSame (Revoked n r ∷ b) b
revocation_shows n r b reads = record {
  reserved = refl;
  tokens = λ serial. refl;
  calibrated = refl;
  held = refl;
  deposited = refl;
  readers = λ number reader.
      reader_after_revocation number reader n r b ∙ unchanged false n number r reader b reads;
  installed = refl;
}

-- one more entry on both

rows_long : (b : History) → length (installed_rows b) ≡ length (installations b)
rows_long [] = refl
rows_long (Installed i ∷ b) = ap suc (rows_long b)
rows_long (_ ∷ b) = rows_long b

row_same : (i : InstalledValue) (b d : History) → reservations b ≡ reservations d
    → installed_rows b ≡ installed_rows d → installed_rows (Installed i ∷ b) ≡ installed_rows (Installed i ∷ d)
row_same i b d reserved rows =
    let long : length (installations b) ≡ length (installations d) =
    sym (rows_long b) ∙ ap length rows ∙ rows_long d in
    rw (long, reserved, rows) refl

pub shows_more : (entry : Entry) (b d : History) → ShowsSame b d → ShowsSame (entry ∷ b) (entry ∷ d)
shows_more (Reserved r) b d s = record {
  reserved = ap (λ rs. r ∷ rs) s.reserved;
  tokens = s.tokens;
  calibrated = s.calibrated;
  held = s.held;
  deposited = s.deposited;
  readers = s.readers;
  installed = s.installed;
}
shows_more (Sealed n token) b d s = record {
  reserved = s.reserved;
  tokens = λ serial. ap (λ old. cond (n == serial) (Some token) old) (s.tokens serial);
  calibrated = s.calibrated;
  held = s.held;
  deposited = s.deposited;
  readers = s.readers;
  installed = s.installed;
}
shows_more (Deposited row token) b d s = record {
  reserved = s.reserved;
  tokens = λ serial. ap (λ old. cond (row.serial == serial) (Some token) old) (s.tokens serial);
  calibrated = s.calibrated;
  held = s.held;
  deposited = ap (λ ds. row ∷ ds) s.deposited;
  readers = s.readers;
  installed = s.installed;
}
shows_more (Calibrated c) b d s = record {
  reserved = s.reserved;
  tokens = s.tokens;
  calibrated = ap (λ cs. c ∷ cs) s.calibrated;
  held = s.held;
  deposited = s.deposited;
  readers = s.readers;
  installed = s.installed;
}
shows_more (Held h) b d s = record {
  reserved = s.reserved;
  tokens = s.tokens;
  calibrated = s.calibrated;
  held = ap (λ hs. h ∷ hs) s.held;
  deposited = s.deposited;
  readers = s.readers;
  installed = s.installed;
}
shows_more (Granted n r) b d s = record {
  reserved = s.reserved;
  tokens = s.tokens;
  calibrated = s.calibrated;
  held = s.held;
  deposited = s.deposited;
  readers = λ number reader.
      reader_after_grant number reader n r b
      ∙ ap (cond ((n == number) && is_same r reader) true) (s.readers number reader)
      ∙ sym (reader_after_grant number reader n r d);
  installed = s.installed;
}
shows_more (Revoked n r) b d s = record {
  reserved = s.reserved;
  tokens = s.tokens;
  calibrated = s.calibrated;
  held = s.held;
  deposited = s.deposited;
  readers = λ number reader.
      reader_after_revocation number reader n r b
      ∙ ap (cond ((n == number) && is_same r reader) false) (s.readers number reader)
      ∙ sym (reader_after_revocation number reader n r d);
  installed = s.installed;
}
shows_more (Installed i) b d s = record {
  reserved = s.reserved;
  tokens = s.tokens;
  calibrated = s.calibrated;
  held = s.held;
  deposited = s.deposited;
  readers = s.readers;
  installed = row_same i b d s.reserved s.installed;
}

pub sound_all : (entries : List Entry) (b : History) → IsSound b → FitInTurn entries b → IsSound (with_all entries b)
sound_all [] b sound fit = sound
sound_all (entry ∷ entries) b sound fit = sound_all entries (entry ∷ b) (fit.0, sound) fit.1
