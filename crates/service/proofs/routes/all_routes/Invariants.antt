-- The routes of the lines before this one are added.
use Rattle.std.proofs.Common.{◌≡◌, map, take}
use Rattle.service.specs.Routes.{line_view, routes_of}
use Rattle.service.proofs.routes.all_routes.Given as goal

abbrev pub invariant-loop-line : goal.invariant-loop-line
invariant-loop-line l = l.router ≡ routes_of (map line_view (take l.line-index l.line-items))
