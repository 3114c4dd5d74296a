-- Extensions where their encodings lie.
use Rattle.std.specs.Prelude.{◌≡◌, true, List, [], Some, unwrap_or}
use Rattle.der.specs.Node.{Nodes}
use Rattle.tsp.specs.{Parser.extensions_of, Request.ExtensionValue}

-- the extensions that values are, one after the other; a FALSE may be stated
unfoldable pub extensions_in : Nodes → List ExtensionValue
extensions_in ns = unwrap_or (extensions_of true ns) []

-- each value is an extension
abbrev pub AreExtensions : Nodes → Type 0
AreExtensions ns = extensions_of true ns ≡ Some (extensions_in ns)
