use Rattle.std.proofs.Common.{List, [], ◌∷◌, All, sym, subst, true}
use Rattle.std.proofs.lemmas.List.Elements.{All-append}
use Rattle.write_pages.specs.declared.known_pages.KnownPage.{KnownPage}
use Rattle.write_pages.specs.KnownColumns.{IsKnownPage}
use Rattle.write_pages.proofs.JoinedRows.{all_one}
use Rattle.write_pages.proofs.known_pages.with_page.Goals as goal

pub returns-clause-ok : goal.returns-clause-ok
returns-clause-ok c = λ a parts p all known.
    let new : KnownPage = record { first = c.args.first; count = c.args.count; known = c.kept.result } in
    subst (λ (ks : List KnownPage). All (IsKnownPage true a parts p) ks) (sym c.in_ok-push.ensures.items)
    (All-append (IsKnownPage true a parts p) c.args.pages.items (new ∷ []) all (all_one (IsKnownPage true a parts p) new (c.kept.ensures true a parts p c.args.first c.args.count known)))
