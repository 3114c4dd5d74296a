-- What accepts connections, as it tells of them.
use Rattle.std.specs.Prelude.{◌≡◌, List, [], ◌∷◌}
use Rattle.connections.specs.declared.acceptor.Accepted.{Accepted}
use Rattle.connections.specs.declared.acceptor.Accepted.TheVariants.{One, Nothing, Short, Failed}

-- the connections that came
abbrev pub came : {S : Type 0} → List (Accepted S) → List S
came [] = []
came (One stream ∷ rest) = stream ∷ came rest
came (Nothing ∷ rest) = came rest
came (Short ∷ rest) = came rest
came (Failed ∷ rest) = came rest

-- this was told, one after the other
abbrev pub AreTold : {A S : Type 0} → (A → Accepted S → A → Type 0) → A → List (Accepted S) → A → Type 0
AreTold tells old [] new = new ≡ old
AreTold {A} tells old (one ∷ rest) new = (next : A) × (tells old one next × AreTold tells next rest new)

-- none failed
abbrev pub IsFine : {S : Type 0} → Accepted S → Type 0
IsFine (One stream) = Unit {0}
IsFine Nothing = Unit {0}
IsFine Short = Unit {0}
IsFine Failed = ⊥

-- it was waited
abbrev pub IsWait : {S : Type 0} → Accepted S → Type 0
IsWait (One stream) = ⊥
IsWait Nothing = Unit {0}
IsWait Short = ⊥
IsWait Failed = ⊥

-- for one of them the system had nothing to spare
abbrev pub WasShort : {S : Type 0} → List (Accepted S) → Type 0
WasShort [] = ⊥
WasShort (One stream ∷ rest) = WasShort rest
WasShort (Nothing ∷ rest) = WasShort rest
WasShort (Short ∷ rest) = Unit {0}
WasShort (Failed ∷ rest) = WasShort rest
