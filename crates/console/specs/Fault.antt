-- The numbers of the program's own refusals, and the line that it prints of a refusal.
use Rattle.std.specs.Prelude.{◌≡◌, ◌⊎◌, ℕ, List, [], ◌∷◌, ◌++◌, codes}
use Rattle.std.specs.Fmt.{decimal}
use Rattle.audit.specs.Fault as audit
use Rattle.cms.specs.Fault as cms
use Rattle.cms.specs.declared.fault.CmsFault.{CmsFault}
use Rattle.der.specs.Fault as der
use Rattle.desk.specs.Fault as desk
use Rattle.hex.specs.declared.error.FromHexError.TheVariants.{InvalidHexCharacter, OddLength, InvalidStringLength}
use Rattle.hex.specs.{declared.error.FromHexError.FromHexError, declared.error.FromHexError.TheVariants.OutOfMemory}
use Rattle.policy.specs.Fault as policy
use Rattle.policy.specs.declared.fault.PolicyFault.{PolicyFault}
use Rattle.book.specs.Fault as store
use Rattle.book.specs.declared.fault.StoreFault.{StoreFault}
use Rattle.tsp.specs.Fault as tsp
use Rattle.command_line.specs.declared.refusal.WordsRefusal.{WordsRefusal}
use Rattle.command_line.specs.declared.refusal.WordsRefusal.TheVariants as refusal
use Rattle.console.specs.declared.fault.Fault.TheVariants.{Der, Tsp, Cms, Policy, Store, Desk, Audit, Input}
use Rattle.console.specs.declared.fault.InputFault.TheVariants.{NotHexadecimal, File, Hold, Unknown, Failed, Address}
use Rattle.console.specs.declared.fault.InputFault.TheVariants.{Memory, Signer, NotAfter}
use Rattle.console.specs.{declared.fault.Fault.Fault, declared.fault.InputFault.InputFault}

abbrev pub number_of : InputFault → ℕ
number_of NotHexadecimal = 1
number_of File = 2
number_of Hold = 3
number_of Unknown = 4
number_of Failed = 5
number_of Address = 6
number_of Memory = 7
number_of Signer = 8
number_of NotAfter = 9

-- what a refusal to read digits is to the program
abbrev pub fault_of : FromHexError → InputFault
fault_of (InvalidHexCharacter c index) = NotHexadecimal
fault_of OddLength = NotHexadecimal
fault_of InvalidStringLength = NotHexadecimal
fault_of OutOfMemory = Memory

abbrev pub number_of_fault : Fault → ℕ
number_of_fault (Der fault) = der.number_of fault
number_of_fault (Tsp fault) = tsp.number_of fault
number_of_fault (Cms fault) = cms.number_of fault
number_of_fault (Policy fault) = policy.number_of fault
number_of_fault (Store fault) = store.number_of fault
number_of_fault (Desk fault) = desk.number_of fault
number_of_fault (Audit fault) = audit.number_of fault
number_of_fault (Input fault) = number_of fault

-- the part that refused
abbrev pub line_beginning : Fault → List ℕ
line_beginning (Der fault) = codes "counter: der "
line_beginning (Tsp fault) = codes "counter: tsp "
line_beginning (Cms fault) = codes "counter: cms "
line_beginning (Policy fault) = codes "counter: policy "
line_beginning (Store fault) = codes "counter: store "
line_beginning (Desk fault) = codes "counter: desk "
line_beginning (Audit fault) = codes "counter: audit "
line_beginning (Input fault) = codes "counter: input "

-- the line of a refusal: who refused, and the refusal's number in decimal
abbrev pub fault_line : Fault → List ℕ
fault_line fault = line_beginning fault ++ (decimal (number_of_fault fault) ++ 0x0a ∷ [])

-- the line that is told of words that aren't UTF-8
abbrev pub no_text : List ℕ
no_text = codes "error: the words are not UTF-8\n"

-- why there are no words to do, where neither help nor a mistake could tell it
abbrev pub IsExplained : WordsRefusal → InputFault → Type 0
IsExplained (refusal.Help text) fault = fault ≡ Failed
IsExplained (refusal.Mistake text) fault = ⊥
IsExplained refusal.Memory fault = fault ≡ Memory

-- the store refused
abbrev pub IsStoreFault : Fault → Type 0
IsStoreFault fault = (refusal : StoreFault) × (fault ≡ Store refusal)

-- a file that says who signs was refused
abbrev pub IsFileFault : Fault → Type 0
IsFileFault fault = (fault ≡ Input File) ⊎ ((fault ≡ Input Memory) ⊎ ((refusal : CmsFault) × (fault ≡ Cms refusal)))

-- a file that says by what requests are answered, or who signs, was refused
abbrev pub IsSettingFault : Fault → Type 0
IsSettingFault fault = IsFileFault fault ⊎ ((refusal : PolicyFault) × (fault ≡ Policy refusal))
