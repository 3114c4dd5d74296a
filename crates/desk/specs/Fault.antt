-- The numbers of the refusals, and how deposits are refused.
use Rattle.std.specs.Prelude.{ℕ, ◌≤◌}
use Rattle.tsp.specs.{Rejection.number_of as number_of_rule, declared.rule.Rule.Rule}
use Rattle.book.specs.Readers.{Reader, Account, Group}
use Rattle.desk.specs.declared.fault.Fault.{Fault}
use Rattle.desk.specs.declared.fault.Fault.TheVariants as fault

abbrev pub number_of : Fault → ℕ
number_of fault.NotHere = 1
number_of fault.NotOwner = 2
number_of fault.Conflict = 3
number_of fault.UnknownReader = 4
number_of fault.SelfGrant = 5
number_of fault.TooLarge = 6
number_of (fault.Rejected rule) = 7
number_of fault.Memory = 8
number_of fault.Store = 9
number_of fault.Signer = 10
number_of fault.UnknownGroup = 11

-- a rule from 3 to 11: the rules 1 and 2 hold of each deposit's request, and rule 12 isn't judged
abbrev pub IsLate : Rule → Type 0
IsLate rule = (3 ≤ number_of_rule rule) × (number_of_rule rule ≤ 11)

-- how a deposit is refused
abbrev pub IsOfDeposit : Fault → Type 0
IsOfDeposit fault.Conflict = Unit {0}
IsOfDeposit fault.TooLarge = Unit {0}
IsOfDeposit (fault.Rejected rule) = IsLate rule
IsOfDeposit fault.Memory = Unit {0}
IsOfDeposit fault.Store = Unit {0}
IsOfDeposit fault.Signer = Unit {0}
IsOfDeposit _ = ⊥

-- how a deposit that is asked for is refused
abbrev pub IsOfSight : Fault → Type 0
IsOfSight fault.NotHere = Unit {0}
IsOfSight fault.Memory = Unit {0}
IsOfSight fault.Store = Unit {0}
IsOfSight _ = ⊥

-- the right is an account's, or a group's
abbrev pub NamesAccount : Reader → Type 0
NamesAccount (Account name) = Unit {0}
NamesAccount (Group name) = ⊥

abbrev pub NamesGroup : Reader → Type 0
NamesGroup (Account name) = ⊥
NamesGroup (Group name) = Unit {0}

-- how the right of a reader to see one is refused, and taking it
abbrev pub IsOfRight : Reader → Fault → Type 0
IsOfRight reader fault.NotHere = Unit {0}
IsOfRight reader fault.NotOwner = Unit {0}
IsOfRight reader fault.UnknownReader = NamesAccount reader
IsOfRight reader fault.SelfGrant = NamesAccount reader
IsOfRight reader fault.UnknownGroup = NamesGroup reader
IsOfRight reader fault.Memory = Unit {0}
IsOfRight reader fault.Store = Unit {0}
IsOfRight reader _ = ⊥
