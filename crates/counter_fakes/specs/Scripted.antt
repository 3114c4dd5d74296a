-- Connections that come one after the other.
use Rattle.std.specs.Prelude.{◌≡◌, List, [], ◌∷◌}
use Rattle.connections.specs.declared.acceptor.Accepted.{Accepted}
use Rattle.connections.specs.declared.acceptor.Accepted.TheVariants.{One, Nothing, Short, Failed}

-- the next one comes, or none does
abbrev pub Gives : {S : Type 0} → List S → Accepted S → List S → Type 0
Gives streams Nothing after = after ≡ streams
Gives streams Short after = ⊥
Gives streams Failed after = ⊥
Gives [] (One stream) after = ⊥
Gives (next ∷ rest) (One stream) after = (stream ≡ next) × (after ≡ rest)
