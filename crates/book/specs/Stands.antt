-- Which histories a book stands for, and what its calls leave.
use Rattle.book.specs.{declared.standing.Standing.Ghosts, History.History, Sound.IsSound}

-- the history is sound, the book keeps it, and while it is open and returned what was written a stop leaves nothing
-- else
pub record Stands {X : Type 0} (g : Ghosts X) (b : History) (book : X) : Type 0 where
  pub sound : IsSound b
  pub kept : g.keeps book b
  pub settled : g.honest book → g.is_open book → (left : g.Left) → g.leaves book left → g.holds left b

-- a look-up: the book stands for what it stood for, and a stop leaves what it could leave before
pub record OnlyLooks {X : Type 0} (g : Ghosts X) (old new : X) : Type 0 where
  pub honest : g.honest new → g.honest old
  pub stands : (b : History) → Stands g b old → Stands g b new
  pub leaves : g.honest new → (left : g.Left) → g.leaves new left → g.leaves old left

abbrev pub LeavesAsBefore : {X : Type 0} → Ghosts X → X → X → Type 0
LeavesAsBefore g old new = (left : g.Left) → g.leaves new left → g.leaves old left
