-- What is done at a desk with a signer, over the history of a book.
use Rattle.std.specs.Prelude.{◌≡◌, ◌⊎◌, Ok, Err}
use Rattle.book.specs.{declared.standing.Standing.Ghosts, History.History, Stands.Stands}
use Rattle.desk.specs.CallContract.{DeskValue, HasOpened, StandsInForce}
use Rattle.desk.specs.{declared.fault.Fault.Fault, Command.Setting}
use Rattle.operations.specs.declared.fault.OperationFault.{OperationFault}
use Rattle.operations.specs.declared.fault.OperationFault.TheVariants as operation

-- input, output, desk and signer before something is done, and after it
pub record Visit (I O B X : Type 0) : Type 0 where
  pub input : I
  pub input_after : I
  pub output : O
  pub output_after : O
  pub desk : DeskValue B
  pub desk_after : DeskValue B
  pub signer : X
  pub signer_after : X

abbrev pub visit_of : {I O B X : Type 0} → I → I → O → O → DeskValue B → DeskValue B → X → X → Visit I O B X
visit_of input input' output output' desk desk' signer signer' = record {
  input = input;
  input_after = input';
  output = output;
  output_after = output';
  desk = desk;
  desk_after = desk';
  signer = signer;
  signer_after = signer';
}

-- A desk was opened over a book by that setting, and what is in force there is the identity that was installed last.
pub record Opens {B : Type 0} (g : Ghosts B) (setting : Setting) (old : B) (desk : DeskValue B) : Type 0 where
  pub step : HasOpened g setting old (Ok desk)
  pub in_force : g.honest desk.store → (b : History) → Stands g b old
      → StandsInForce g desk.setting.in_force b desk.store

-- A desk was opened so, a signer was reached, this was done there with it, and the book and the signer that are left
-- are those that it left.
pub record IsVisited {B X : Type 0} (g : Ghosts B) (setting : Setting) (Reaches Leaves : X → Type 0) (old new : B)
    (Does : (desk desk' : DeskValue B) (signer signer' : X) → Type 0) : Type 0 where
  pub desk : DeskValue B
  pub opens : Opens g setting old desk
  pub signer : X
  pub reached : Reaches signer
  pub signer_after : X
  pub signer_left : Leaves signer_after
  pub desk_after : DeskValue B
  pub left : new ≡ desk_after.store
  pub done : Does desk desk_after signer signer_after

-- No desk was opened: it wasn't tried, or the opening was refused, and nothing was installed.
abbrev pub IsUnopened : {B : Type 0} → Ghosts B → Setting → B → B → OperationFault → Type 0
IsUnopened g setting old new fault =
    (new ≡ old) ⊎ ((refusal : Fault) × (fault ≡ operation.Desk refusal) × HasOpened g setting old (Err (refusal, new)))

-- Nothing was done: no signer was reached, by the refusal, and the book is as it was; or one was reached and left
-- without being asked, and no desk was opened.
abbrev pub IsUnvisited : {B X : Type 0} → Ghosts B → Setting → (Reaches Leaves : X → Type 0)
    → (Refuses : OperationFault → Type 0) → B → B → OperationFault → Type 0
IsUnvisited {X = X} g setting Reaches Leaves Refuses old new fault =
    (Refuses fault × (new ≡ old))
    ⊎ (((signer : X) × Reaches signer × Leaves signer) × IsUnopened g setting old new fault)
