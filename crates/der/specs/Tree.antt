-- The value that a `Tree` is.
use Rattle.std.specs.Prelude.{◌≡◌, List, [], ◌∷◌, Result, Ok, Err}
use Rattle.der.specs.Node.{Node, primitive, constructed, Nodes, no_nodes, node}
use Rattle.der.specs.declared.fault.DerFault.{DerFault, TheVariants.Memory}
use Rattle.der.specs.declared.tree.Tree.{Tree, fold-Tree, TheOpen.Tree-F}

-- a list as values one after the other
abbrev pub nodes : List Node → Nodes
nodes [] = no_nodes
nodes (first ∷ others) = node first (nodes others)

-- one level, with each value inside already seen
abbrev pub view_step : Tree-F Node → Node
view_step (Tree-F.Primitive tag contents) = primitive tag.octet contents.items
view_step (Tree-F.Constructed tag components) = constructed tag.octet (nodes components.items)

abbrev pub view : Tree → Node
view = fold-Tree Node view_step

-- a reader of octets that are this value's encoding answers the value, unless memory ran out
abbrev pub IsRead : Result Tree DerFault → Node → Type 0
IsRead (Ok tree) n = view tree ≡ n
IsRead (Err fault) n = fault ≡ Memory
