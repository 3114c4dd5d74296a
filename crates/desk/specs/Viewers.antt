-- Who asks, as the policy file knows it.
use Rattle.std.specs.Prelude.{ℕ, List}
use Rattle.policy.specs.{LookUp.groups_of, Record.PolicyValue}
use Rattle.book.specs.{Readers.Viewer, Values.viewer_of}

-- The account of that name, active or not, with the groups of the file that it is a member of. A group that has left
-- the file has no members.
abbrev pub viewer_in : PolicyValue → List ℕ → Viewer
viewer_in file name = viewer_of name (groups_of file name)
