-- The refusals, their numbers, and the count of those that the storage gave for another cause than memory.
use Rattle.std.specs.Prelude.{◌≡◌, ◌⊎◌, ℕ, Result, MatchResult}
use Rattle.std.specs.Hash.DefaultHasher.{wrapping_add}
use Rattle.book.specs.declared.fault.StoreFault.{StoreFault}
use Rattle.book.specs.declared.fault.StoreFault.TheVariants.{Memory, Database, NotOurs, Full, Backwards}

abbrev pub number_of : StoreFault → ℕ
number_of Memory = 1
number_of Database = 2
number_of NotOurs = 3
number_of Full = 4
number_of Backwards = 5

-- the count of faults after a refusal: one more after the storage's, modulo 2^64, else the same
abbrev pub count_after : StoreFault → ℕ → ℕ
count_after Memory n = n
count_after Database n = wrapping_add n 1
count_after NotOurs n = n
count_after Full n = n
count_after Backwards n = n

-- the storage's own refusals: it finds no memory, or refuses for another cause, which is counted
abbrev pub IsOfStorage : StoreFault → Type 0
IsOfStorage e = (e ≡ Memory) ⊎ (e ≡ Database)

-- one of these, or this one, which is of the call's own
abbrev pub IsOfStorageOr : StoreFault → StoreFault → Type 0
IsOfStorageOr other e = (e ≡ Memory) ⊎ ((e ≡ Database) ⊎ (e ≡ other))

-- a call counts its faults: after an answer the count is as before, after a refusal as that refusal has it
abbrev pub CountsFaults : {A : Type 0} → Result A StoreFault → ℕ → ℕ → Type 0
CountsFaults result before after = MatchResult result (λ _. after ≡ before) (λ e. after ≡ count_after e before)
