-- What a write that failed leaves, and why it wrote less.
use Rattle.std.specs.{Prelude.◌⊎◌, Prelude.ℕ, Prelude.List, Prelude.Option, Prelude.take, Io.KnownBytes.Appends}
use Rattle.audit.specs.Failures.{HasFailed}

-- A beginning of the text was written, maybe none of it, maybe the whole; where the writer tells its octets.
abbrev pub Begins : Option (List ℕ) → Option (List ℕ) → List ℕ → Type 0
Begins old new text = (n : ℕ) × Appends old new (take n text)

-- The whole text was written, or a write or a flush failed, where the output tells that.
abbrev pub IsWhole : (old new : Option (List ℕ)) → (before after : Option ℕ) → List ℕ → Type 0
IsWhole old new before after text = Appends old new text ⊎ HasFailed before after
