-- What a query over one table answers.
use Rattle.sqlite_sql.specs.Program.{given_at, overlay}
use Rattle.tables.proofs.Words.{Answers, Bool, Int, IsAnswer, IsPermutation, IsPermutation-map, IsSorted, Key, List}
use Rattle.tables.proofs.Words.{None, Null, Output, Program, Query, Row, Schema, Term, Trees, [], ap, cond, end}
use Rattle.tables.proofs.Words.{eval_all, false, filter, flat_map, holds, inner, list_all, lit, map, map-map, nat_le}
use Rattle.tables.proofs.Words.{negsuc, output, output_cmp, page, pos, refl, slice_get, subst, sym, true, ℕ, ◌-◌, ◌^◌}
use Rattle.tables.proofs.{Words.◌∙◌, Words.◌∷◌, Words.◌≡◌, ListLemmas.flat_map_tested}

nothing_given : (t : ℕ) → given_at [] t ≡ None
nothing_given t = elim (nat_le (2 ^ 31) t) as (λ b. cond b (slice_get {X = List Row} [] (t - 2 ^ 31)) None ≡ None)
    [ true ↦ refl | false ↦ refl ]

overlay_none : (db : Trees) (t : ℕ) → overlay db [] t ≡ db t
overlay_none db t = rw (nothing_given t)

-- a query that reads one table
abbrev pub query_of : ℕ → List Term → List Term → List (Term × Key) → Term → Query
query_of tree tests project order limit = record {
  from = inner tree end;
  filter = tests;
  group = None;
  project = project;
  distinct = false;
  collations = [];
  order = order;
  limit = limit;
  offset = lit (Int (pos 0));
}

abbrev pub program_of : ℕ → List Term → List Term → List (Term × Key) → Term → Program
program_of tree tests project order limit = record { lets = []; body = query_of tree tests project order limit }

abbrev pub no_limit : Term
no_limit = lit (Int (negsuc 0))

abbrev pub passes : List Term → Row → Row → Bool
passes tests params row = list_all (holds (params ∷ row ∷ [])) tests

abbrev pub shows : List Term → Row → Row → Row
shows project params row = eval_all project (params ∷ row ∷ [])

module _ (schema : Schema) (db : Trees) (params : Row) (tree : ℕ) (tests project : List Term)
    (order : List (Term × Key)) (limit : Term) where
  abbrev query : Query
  query = query_of tree tests project order limit

  pub record IsOrdered (rows : List Row) : Type 0 where
    pub ordered : List Output
    pub same : IsPermutation (map (λ r. output query (params ∷ r ∷ [])) (filter (passes tests params) (db tree)))
        ordered
    pub sorted : IsSorted (output_cmp query) ordered
    pub shown : rows ≡ page query params (map (λ o. o.1) ordered)

  pub ordered_by : (rows : List Row)
      → Answers (record { schema = schema; trees = db }) (program_of tree tests project order limit) params rows
      → IsOrdered rows
  ordered_by rows h =
      let a : IsAnswer query (overlay db []) params rows = h.answer Null in
      let staged = a.grouped ∙ ap (λ all. flat_map (λ r. cond (passes tests params r) ((params ∷ r ∷ []) ∷ []) []) all)
      (overlay_none db tree)
      ∙ flat_map_tested (passes tests params) (λ r. params ∷ r ∷ []) (db tree) in
      let kept : a.kept ≡ map (λ r. output query (params ∷ r ∷ [])) (filter (passes tests params) (db tree)) =
      a.distinct ∙ ap (map (output query)) staged
      ∙ map-map (output query) (λ r. params ∷ r ∷ []) (filter (passes tests params) (db tree)) in
      record {
        ordered = a.ordered;
        same = subst (λ k. IsPermutation k a.ordered) kept a.same;
        sorted = a.sorted;
        shown = a.shown;
      }

module _ (schema : Schema) (db : Trees) (params : Row) (tree : ℕ) (tests project : List Term) where
  -- each row that passes is shown
  pub answered : (rows : List Row)
      → Answers (record { schema = schema; trees = db }) (program_of tree tests project [] no_limit) params rows
      → IsPermutation (map (shows project params) (filter (passes tests params) (db tree))) rows
  answered rows h =
      let o = ordered_by schema db params tree tests project [] no_limit rows h in
      let images = IsPermutation-map (λ p. p.1) _ _ o.same in
      subst (IsPermutation (map (shows project params) (filter (passes tests params) (db tree)))) (sym o.shown)
      (subst (λ l. IsPermutation l (map (λ p. p.1) o.ordered))
      (map-map (λ p. p.1) (λ r. output (query_of tree tests project [] no_limit) (params ∷ r ∷ []))
      (filter (passes tests params) (db tree))) images)
