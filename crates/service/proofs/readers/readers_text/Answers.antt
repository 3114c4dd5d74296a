use Rattle.std.proofs.Common.{◌≡◌, ◌∙◌, ◌++◌, cond, is_ok, Some, Result, Ok, Err, ap, map, string_bytes, sym}
use Rattle.std.proofs.lemmas.Simd.{map-map}
use Rattle.std.specs.{List.flat_map, Result.result_ok}
use Rattle.policy.specs.{Record.AccountValue, Record.GroupValue, View.account_view, View.group_view}
use Rattle.book.specs.Readers.{Account, Group}
use Rattle.service.specs.Readers.{reader_line}
use Rattle.service.proofs.readers.readers_text.Goals as goal

-- what is so where a call succeeds, whose success is taken
of_taken : {A E X : Type 0} (r : Result A E) (x : A) (y done undone : X) → Some x ≡ result_ok r
    → y ≡ cond (is_ok r) done undone → y ≡ done
of_taken (Ok a) x y done undone taken is = is
of_taken (Err f) x y done undone taken is = cc

pub returns-clause-value : goal.returns-clause-value
returns-clause-value g c honest b stands own =
    let line = reader_line c.args.owner.now c.args.number b in
    let accounts = c.in_ok-lines.ensures.value (c.in_ok-groups.ensures.looks.honest honest) b stands own in
    let groups = c.in_ok-groups.ensures.value honest b (c.in_ok-lines.ensures.looks.stands b stands) own in
    let taken = of_taken c.extend_from_slice.result c.in_ok-ok.field-0 _ _ _ c.in_ok-ok.ensures.value
    c.extend_from_slice.ensures.items in
    taken
    ∙ ap (λ l. l ++ c.deref-3.result.now)
    (accounts ∙ ap (λ xs. flat_map line (map (λ a. Account (string_bytes a.name)) xs)) c.deref.ensures.value
    ∙ ap (flat_map line) (sym (map-map (λ (a : AccountValue). Account a.name) account_view c.args.file.now.accounts.items)))
    ∙ ap (λ l. flat_map line (map (λ (a : AccountValue). Account a.name) (map account_view c.args.file.now.accounts.items)) ++ l)
    (c.deref-3.ensures.value
    ∙ groups ∙ ap (λ xs. flat_map line (map (λ g. Group (string_bytes g.name)) xs)) c.deref-2.ensures.value
    ∙ ap (flat_map line) (sym (map-map (λ (g : GroupValue). Group g.name) group_view c.args.file.now.groups.items)))
