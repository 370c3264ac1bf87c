use Rattle.std.proofs.Common.{◌≡◌, ◌++◌, ◌∷◌, [], List, map, refl, sym, ap, ◌∙◌, append_assoc}
use Rattle.std.proofs.lemmas.Iterator.Adapters.{YieldsList-from_vec}
use Rattle.std.proofs.lemmas.Iterator.Consumers.{YieldsList-end}
use Rattle.std.proofs.lemmas.List.{map-append}
use Rattle.write_groups.specs.Given.{column_of}
use Rattle.write_groups.specs.declared.column.ChunkColumn.{ChunkColumn}
use Rattle.write_pages.specs.declared.pages.PageIter.{PageIter}
use Rattle.write_groups.proofs.group.push_all.Goals as goal

map_same : (xs : List PageIter) → map (λ x. x) xs ≡ xs
map_same [] = refl
map_same (x ∷ xs) = ap (λ (ys : List PageIter). x ∷ ys) (map_same xs)

pub loop-page-preserved : goal.loop-page-preserved
loop-page-preserved c =
    c.in_ok-push.ensures.items
    ∙ (ap (λ (x : ChunkColumn). c.loop-page.columns.items ++ (x ∷ [])) c.new.ensures
    ∙ (ap (λ (xs : List ChunkColumn). xs ++ (column_of c.in-Some.page ∷ [])) c.loop-page.invariant
    ∙ (append_assoc c.args.columns.now.items (map column_of c.loop-page.yielded) (column_of c.in-Some.page ∷ [])
    ∙ ap (λ (xs : List ChunkColumn). c.args.columns.now.items ++ xs) (sym (map-append column_of c.loop-page.yielded (c.in-Some.page ∷ []))))))

pub returns-clause-ok : goal.returns-clause-ok
returns-clause-ok c =
    let gives = c.into_iter-page-iterator.ensures.into_iter_gives in
    let seen = YieldsList-end (YieldsList-from_vec {s = c.into_iter-page-iterator.result} _ gives.0 (gives.1 ∙ c.args.pages.ok.0)) c.loop-page.yielded c.loop-page.page-iterator c.loop-page.yielded_by c.next.result c.next.new.self c.in-None.is c.next.ensures.steps in
    c.loop-page.invariant ∙ ap (λ (ps : List PageIter). c.args.columns.now.items ++ map column_of ps) (sym (map_same c.loop-page.yielded) ∙ seen.0)
