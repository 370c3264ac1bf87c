use Rattle.std.proofs.Common.{◌≡◌, ◌∙◌, inl, inr, ap, length, sym, subst, All, take, drop}
use Rattle.std.proofs.lemmas.List.{length-map}
use Rattle.std.proofs.lemmas.List.Elements.{All-drop, All-take}
use Rattle.std.proofs.lemmas.Result.{err_from_is_err_and}
use Rattle.shredding.specs.Along.{IsAlong}
use Rattle.shredding.specs.Parts.{path_way, path_slots}
use Rattle.shredding.specs.Shape.{Way}
use Rattle.columns_array.specs.Boxed.{boxed}
use Rattle.levels.specs.Nested.{part_of, parts_of}
use Rattle.nested_paths.specs.Seen.{leaf_slot}
use Rattle.write_pages.specs.Holds.{rows_of}
use Rattle.write_pages.proofs.HiddenPaths.{others_told}
use Rattle.write_pages.proofs.cut_column.seen_column.Goals as goal

pub returns-then-not-is_null-clause-told : goal.returns-then-not-is_null-clause-told
returns-then-not-is_null-clause-told c =
    others_told (boxed c.in_ok-rows.rows.array) (parts_of c.in_ok-rows.rows.nested.items) c.know.ensures (sym c.is_null.ensures ∙ c.if-not-is_null.true)

pub returns-clause-ok : goal.returns-clause-ok
returns-clause-ok c =
    let h = c.in_ok-rows.ensures.ok in
    let s = c.in_ok-nested.ensures.ok in
    let own = boxed c.in_ok-rows.rows.array in
    let path = ap parts_of c.deref.ensures.value in
    let old = c.in_ok-rows.rows.nested.items in
    let new = c.in_ok-nested.nested.items in
    record {
      well = s.well;
      few = sym (length-map new part_of) ∙ (s.few ∙ (ap length path ∙ (length-map old part_of ∙ h.few)));
      leaf = s.leaf;
      type = h.type;
      way = s.way ∙ (ap path_way path ∙ h.way);
      rows = s.rows ∙ (ap (path_slots (leaf_slot own)) path ∙ h.rows);
    }

pub returns-in_err-nested-clause-err : goal.returns-in_err-nested-clause-err
returns-in_err-nested-clause-err c =
    let h = c.in_ok-rows.ensures.ok in
    let own = boxed c.in_ok-rows.rows.array in
    let parts = parts_of c.args.nested.now in
    let all = rows_of parts (boxed c.args.array.now) in
    let path = ap parts_of c.deref.ensures.value in
    let rows : path_slots (leaf_slot own) (parts_of c.deref.result.now) ≡ take c.args.count (drop c.args.first all) = ap (path_slots (leaf_slot own)) path ∙ h.rows in
    let way : path_way (parts_of c.deref.result.now) ≡ path_way parts = ap path_way path ∙ h.way in
    let some : All (IsAlong (path_way parts)) (take c.args.count (drop c.args.first all)) = All-take (IsAlong (path_way parts)) c.args.count (drop c.args.first all) (All-drop (IsAlong (path_way parts)) c.args.first all c.requires.reached) in
    let r = err_from_is_err_and c.from_residual-in_err-nested.result c.from_residual-in_err-nested.ensures.1 in
    rw (r.1, r.2)
    (elim c.in_err-nested.ensures.err [
      | inl m ↦ m
      | inr n ↦ absurd (n.1 (subst (All (IsAlong (path_way (parts_of c.deref.result.now)))) (sym rows) (subst (λ (w : Way). All (IsAlong w) (take c.args.count (drop c.args.first all))) (sym way) some)))
    ])
