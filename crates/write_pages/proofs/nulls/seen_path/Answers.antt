use Rattle.std.proofs.Common.{◌≡◌, ◌∙◌, ℕ, List, false, ap, arith, map, refl, sym, subst, inr}
use Rattle.shredding.specs.Parts.{IsPath, Part}
use Rattle.columns_array.specs.Boxed.{boxed}
use Rattle.columns_slots.specs.Slots.{tree_len}
use Rattle.levels.specs.Nested.{parts_of}
use Rattle.levels.specs.Ranges.{leaf_count_or}
use Rattle.write_places.specs.Places.{path_places}
use Rattle.write_pages.specs.Nulls.{IsSeenPath, LooksAt, hidden}
use Rattle.write_pages.proofs.HiddenPaths.{goes_along, goes_astray, hidden_leaf, hidden_path, seen}
use Rattle.write_pages.proofs.nulls.seen_path.Goals as goal

pub reaches_place-requires-clause-well : goal.reaches_place-requires-clause-well
reaches_place-requires-clause-well c =
    subst IsPath (sym (ap parts_of c.deref.ensures.value ∙ c.in_ok-path.ensures.ok)) (hidden_path (parts_of c.args.nested.now) c.requires.well)

pub reaches_place-requires-clause-leaf : goal.reaches_place-requires-clause-leaf
reaches_place-requires-clause-leaf c =
    let path : parts_of c.deref.result.now ≡ map hidden (parts_of c.args.nested.now) = ap parts_of c.deref.ensures.value ∙ c.in_ok-path.ensures.ok in
    omega (arith, ap (leaf_count_or 0) path, hidden_leaf (parts_of c.args.nested.now) 0, c.requires.leaf, c.len.ensures)

pub returns-then-reaches_place-clause-err : goal.returns-then-reaches_place-clause-err
returns-then-reaches_place-clause-err c =
    let a = boxed c.args.array.now in
    let parts = parts_of c.args.nested.now in
    let path : parts_of c.deref.result.now ≡ map hidden parts = ap parts_of c.deref.ensures.value ∙ c.in_ok-path.ensures.ok in
    let looked : LooksAt (tree_len a) (path_places (map hidden parts)) false c.reaches_place.result =
    subst (λ (n : ℕ). LooksAt n (path_places (map hidden parts)) false c.reaches_place.result) c.len.ensures (subst (λ (ps : List Part). LooksAt c.len.result (path_places ps) false c.reaches_place.result) path c.reaches_place.ensures) in
    inr (refl, goes_astray a parts c.know.ensures c.requires.null c.requires.well c.requires.leaf c.reaches_place.result looked c.if-reaches_place.true)

pub returns-clause-ok : goal.returns-clause-ok
returns-clause-ok c =
    let a = boxed c.args.array.now in
    let parts = parts_of c.args.nested.now in
    let path : parts_of c.deref.result.now ≡ map hidden parts = ap parts_of c.deref.ensures.value ∙ c.in_ok-path.ensures.ok in
    let looked : LooksAt (tree_len a) (path_places (map hidden parts)) false c.reaches_place.result =
    subst (λ (n : ℕ). LooksAt n (path_places (map hidden parts)) false c.reaches_place.result) c.len.ensures (subst (λ (ps : List Part). LooksAt c.len.result (path_places ps) false c.reaches_place.result) path c.reaches_place.ensures) in
    subst (IsSeenPath a parts) (sym c.in_ok-path.ensures.ok) (seen a parts c.know.ensures c.requires.null c.requires.well c.requires.leaf c.reaches_place.result looked c.if-reaches_place.false)

pub returns-clause-reached : goal.returns-clause-reached
returns-clause-reached c =
    let a = boxed c.args.array.now in
    let parts = parts_of c.args.nested.now in
    let path : parts_of c.deref.result.now ≡ map hidden parts = ap parts_of c.deref.ensures.value ∙ c.in_ok-path.ensures.ok in
    let looked : LooksAt (tree_len a) (path_places (map hidden parts)) false c.reaches_place.result =
    subst (λ (n : ℕ). LooksAt n (path_places (map hidden parts)) false c.reaches_place.result) c.len.ensures (subst (λ (ps : List Part). LooksAt c.len.result (path_places ps) false c.reaches_place.result) path c.reaches_place.ensures) in
    goes_along a parts c.know.ensures c.requires.null c.requires.well c.requires.leaf c.reaches_place.result looked c.if-reaches_place.false
