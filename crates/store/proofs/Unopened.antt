-- Why an opening finds no database.
use Rattle.sqlite_trees.specs.declared.error.StoreError.{StoreError}
use Rattle.sqlite_trees.specs.declared.error.StoreError.TheVariants.{Broken, Corrupt, Full, Io, OutOfMemory, Unstorable}
use Rattle.sqlite.specs.{declared.error.Error.TheVariants.SqliteFailure, declared.file.Leftover.Leftover}
use Rattle.sqlite_disk.specs.declared.Disk.{Ghosts}
use Rattle.store.proofs.Words.{Error, FailsToOpenFiles, Files, HoldsDatabase, IfSome, Image, IsCleanLeft, IsNothing}
use Rattle.store.proofs.Words.{LeavesFiles, None, Option, Some, Trees, image_of, inl, inr, refl, store_error, subst}
use Rattle.store.proofs.Words.{sym, ◌∙◌, ◌≡◌, ◌⊎◌}
use Rattle.store.specs.Files.{FailsToOpen, OpensNothing}
use Rattle.sqlite.specs.declared.error.ErrorCode.TheVariants as code

no_fault : (cause : StoreError) → ¬ (SqliteFailure code.NotADatabase ≡ store_error cause)
no_fault OutOfMemory e = cc
no_fault Io e = cc
no_fault Corrupt e = cc
no_fault Full e = cc
no_fault Broken e = cc
no_fault Unstorable e = cc

module _ {D : Type 0} (g : Ghosts D) (held : Image) where
  none_held : (files : Files D) (left : Leftover D g) → FailsToOpenFiles files left (SqliteFailure code.NotADatabase)
      → ¬ (((db : Trees) × HoldsDatabase (image_of g files) db) ⊎ IsNothing (image_of g files))
  none_held files left (inl memory) = absurd (let apart = memory in cc)
  none_held files left (inr (inl refused)) = refused.1
  none_held files left (inr (inr (inl fault))) = absurd (no_fault _ fault.0)
  none_held files left (inr (inr (inr limit))) = absurd (let apart = limit.0 in cc)

  -- by what an opening that failed left of files that held this
  pub fails_to_open : (Log Db : D → Type 0)
      → ((files : Files D) → Log files.log → Db files.db → image_of g files ≡ held)
      → (e : Error) → (left : Option (Leftover D g))
      → (left ≡ None → (e ≡ SqliteFailure code.CannotOpen)
      ⊎ ((e ≡ SqliteFailure code.OutOfMemory) ⊎ (e ≡ SqliteFailure code.DatabaseBusy)))
      → IfSome left (λ it. (files : Files D) × Log files.log × Db files.db
      × (IsCleanLeft it → FailsToOpenFiles files it e × LeavesFiles files it))
      → FailsToOpen g held e
  fails_to_open Log Db same e None early cause = (None, early, tt)
  fails_to_open Log Db same e (Some it) early cause =
      (Some it, early, (cause.0, same cause.0 cause.1 cause.2, λ clean. (cause.3 clean).0))

  pub opens_nothing : (e : Error) → e ≡ SqliteFailure code.NotADatabase → FailsToOpen g held e → OpensNothing g held
  opens_nothing e is (None, early, cause) = elim (early refl) [
    | inl cannot ↦ absurd (let apart = sym is ∙ cannot in cc)
    | inr (inl memory) ↦ absurd (let apart = sym is ∙ memory in cc)
    | inr (inr busy) ↦ absurd (let apart = sym is ∙ busy in cc)
  ]
  opens_nothing e is (Some it, early, (files, same, fails)) = (
    it,
    λ clean.
        subst (λ i. ¬ (((db : Trees) × HoldsDatabase i db) ⊎ IsNothing i)) same
        (none_held files it (subst (FailsToOpenFiles files it) is (fails clean))),
  )
