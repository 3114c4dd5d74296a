-- Which targets there are, and what the methods do there. What matches a route, `matchit` says.
use Rattle.std.specs.Prelude.{ℕ, ◌==◌, List, [], ◌∷◌, ◌++◌, codes, fold, slice_get, Option, Some, None, option_map}
use Rattle.std.specs.Prelude.{Result, Ok, Err, if◌then◌else◌, unwrap_or}
use Rattle.std.specs.{List.slice_split, Str.bytes_eq}
use Rattle.std.proofs.Common.{Bor}
use Rattle.matchit.specs.{Order.placed, Route.Scan, Route.parse_route, Router.RouteOf, Router.route_from, Rows.RowsOf}
use Rattle.matchit.specs.{Seek.first, declared.error.InsertError.InsertError}
use Rattle.book.specs.Readers.{Reader, Account, Group}
use Rattle.desk.specs.declared.rights.Change.TheVariants.{Give, Take}
use Rattle.service.specs.declared.routes.ReaderKind.{ReaderKind}
use Rattle.service.specs.{declared.routes.Methods.Methods, declared.routes.Action.Action}
use Rattle.service.specs.declared.routes.Action.TheVariants as action
use Rattle.service.specs.declared.routes.DepositAction.TheVariants as deposit
use Rattle.service.specs.declared.routes.ReaderKind.TheVariants as kind

-- no method does anything
abbrev pub nothing : Methods
nothing = record { get = None; post = None; put = None; delete = None }

-- what they do with the right of a reader of that kind
abbrev pub on_right : ReaderKind → Methods
on_right kind = record nothing {
  put = Some (action.Deposit (deposit.Right Give kind));
  delete = Some (action.Deposit (deposit.Right Take kind));
}

-- the reader of that kind and name
abbrev pub reader_of : ReaderKind → List ℕ → Reader
reader_of kind.Account name = Account name
reader_of kind.Group name = Group name

-- a target's text, in which a name in braces stands for a segment that isn't empty, and what the methods do there
abbrev pub Line : Type 0
Line = List ℕ × Methods

abbrev pub table : List Line
table =
    (codes "/tsp", record nothing { post = Some action.Stamp })
    ∷ (codes "/calibrations", record nothing { post = Some action.Calibrate })
    ∷ (codes "/holds", record nothing { post = Some action.Hold })
    ∷ (codes "/status", record nothing { get = Some action.Status })
    ∷ (codes "/account", record nothing { get = Some action.Account })
    ∷ (codes "/deposits", record nothing { get = Some action.List; post = Some action.Keep })
    ∷ (codes "/deposits/{number}", record nothing { get = Some (action.Deposit deposit.Show) })
    ∷ (codes "/deposits/{number}/token", record nothing { get = Some (action.Deposit deposit.Token) })
    ∷ (codes "/deposits/{number}/readers", record nothing { get = Some (action.Deposit deposit.Readers) })
    ∷ (codes "/deposits/{number}/readers/{name}", on_right kind.Account)
    ∷ (codes "/deposits/{number}/groups/{name}", on_right kind.Group)
    ∷ (codes "/audit/{from}/{to}", record nothing { get = Some action.Extract })
    ∷ []

-- what a line of the program's table stands for
abbrev pub line_view : Bor (List ℕ) × Methods → Line
line_view line = (line.0.now, line.1)

abbrev pub Routes : Type 0
Routes = RowsOf (RouteOf Methods)

abbrev pub joined : Result Scan InsertError → Methods → Routes → Routes
joined (Ok route) m routes = placed (route.pattern, route_from route m) routes
joined (Err fault) m routes = routes

-- the routes with one more, whose text is that of `matchit`
abbrev pub with_route : Routes → Line → Routes
with_route routes line = joined (parse_route line.0) line.1 routes

-- the routes of lines, one after the other
abbrev pub routes_of : List Line → Routes
routes_of lines = fold with_route [] lines

unfoldable pub routes : Routes
routes = routes_of table

-- what the methods do at a target, as it was sent
abbrev pub methods_at : List ℕ → Option Methods
methods_at target = option_map (λ route. route.value) (first routes target)

-- The segments of a target, between its slashes; what stands before the first is the one numbered 0.
abbrev pub segments : List ℕ → List (List ℕ)
segments target = slice_split (λ octet. octet == 0x2F) target

-- One of them, or nothing where there is none. In the table above `number` and `from` have the place 2, `to` has 3, and
-- `name` 4.
abbrev pub segment : ℕ → List ℕ → List ℕ
segment place target = unwrap_or (slice_get (segments target) place) []

-- what the method of a name does; names of methods are as they are, letter by letter (RFC 9110 9.1)
abbrev pub action_of : Methods → List ℕ → Option Action
action_of m method =
    if bytes_eq method (codes "GET") then m.get
    else if bytes_eq method (codes "POST") then m.post
    else if bytes_eq method (codes "PUT") then m.put
    else if bytes_eq method (codes "DELETE") then m.delete
    else None

-- names parted by commas, and one more if that method does something
abbrev pub and_name : List ℕ → List ℕ → Option Action → List ℕ
and_name names name None = names
and_name [] name (Some a) = name
and_name (n ∷ names) name (Some a) = (n ∷ names) ++ codes ", " ++ name

-- the names of the methods that do something, as `Allow` tells them (RFC 9110 10.2.1)
abbrev pub names_of : Methods → List ℕ
names_of m =
    and_name (and_name (and_name (and_name [] (codes "GET") m.get) (codes "POST") m.post) (codes "PUT") m.put)
    (codes "DELETE") m.delete
