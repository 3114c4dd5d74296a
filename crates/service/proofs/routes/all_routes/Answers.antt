use Rattle.std.proofs.Common.{◌≡◌, ◌∙◌, ◌+◌, ◌<◌, ℕ, List, [], ◌∷◌, Bor, get_or, length, map, take, sym, ap, arith}
use Rattle.std.proofs.{lemmas.List.map-append, lemmas.List.take_all, lemmas.List.take_more, lemmas.List.Sums.fold_push}
use Rattle.service.specs.Routes.{Routes, line_view, routes, routes_of, with_route}
use Rattle.service.specs.declared.routes.Methods.{Methods}
use Rattle.service.proofs.routes.all_routes.Goals as goal

-- one line more
added : (lines : List (Bor (List ℕ) × Methods)) (i : ℕ) (d : Bor (List ℕ) × Methods) (old new : Routes)
    → i < length lines → old ≡ routes_of (map line_view (take i lines))
    → new ≡ with_route old (line_view (get_or lines i d)) → new ≡ routes_of (map line_view (take (i + 1) lines))
added lines i d old new inside is adds =
    adds
    ∙ ap (λ routes. with_route routes (line_view (get_or lines i d))) is
    ∙ sym (
    ap (λ l. routes_of (map line_view l)) (take_more lines i d inside)
    ∙ ap routes_of (map-append line_view (take i lines) (get_or lines i d ∷ []))
    ∙ fold_push with_route [] (map line_view (take i lines)) (line_view (get_or lines i d))
    )

pub returns : goal.returns
unfolding routes
returns c =
    let items = c.lines-line-items.result.now in
    c.loop-line.invariant
    ∙ ap (λ l. routes_of (map line_view l))
    (take_all c.loop-line.line-index items (omega (arith, c.loop-line-test.false)))
    ∙ ap routes_of c.lines-line-items.ensures
