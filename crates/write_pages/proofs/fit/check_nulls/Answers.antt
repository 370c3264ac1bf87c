use Rattle.std.proofs.Common.{◌≡◌, ◌∙◌, inl, inr, ap, All, sym, subst}
use Rattle.shredding.specs.Along.{IsAlong}
use Rattle.shredding.specs.Parts.{path_way, path_slots}
use Rattle.shredding.specs.Shape.{Way}
use Rattle.columns_array.specs.Boxed.{boxed}
use Rattle.levels.specs.Nested.{parts_of}
use Rattle.nested_paths.specs.Seen.{leaf_slot}
use Rattle.write_pages.specs.Holds.{rows_of}
use Rattle.write_pages.proofs.Moved.{all_rows}
use Rattle.write_pages.proofs.fit.check_nulls.Goals as goal

pub returns-in-Ok-clause-ok : goal.returns-in-Ok-clause-ok
returns-in-Ok-clause-ok c =
    let h = c.in_ok-whole.ensures.ok in
    let a = boxed c.args.array.now in
    let parts = parts_of c.args.nested.now in
    let own = boxed c.in_ok-whole.whole.array in
    let rows : path_slots (leaf_slot own) (parts_of c.deref.result.now) ≡ rows_of parts a =
    ap (path_slots (leaf_slot own)) (ap parts_of c.deref.ensures.value) ∙ (h.rows ∙ all_rows parts a c.slot_count.result c.slot_count.ensures) in
    let way : path_way (parts_of c.deref.result.now) ≡ path_way parts = ap path_way (ap parts_of c.deref.ensures.value) ∙ h.way in
    subst (λ (w : Way). All (IsAlong w) (rows_of parts a)) way (subst (All (IsAlong (path_way (parts_of c.deref.result.now)))) rows c.in-Ok.ensures.reached)

pub returns-clause-err : goal.returns-clause-err
returns-clause-err c =
    let h = c.in_ok-whole.ensures.ok in
    let a = boxed c.args.array.now in
    let parts = parts_of c.args.nested.now in
    let own = boxed c.in_ok-whole.whole.array in
    let rows : path_slots (leaf_slot own) (parts_of c.deref.result.now) ≡ rows_of parts a =
    ap (path_slots (leaf_slot own)) (ap parts_of c.deref.ensures.value) ∙ (h.rows ∙ all_rows parts a c.slot_count.result c.slot_count.ensures) in
    let way : path_way (parts_of c.deref.result.now) ≡ path_way parts = ap path_way (ap parts_of c.deref.ensures.value) ∙ h.way in
    elim c.in-Err.ensures.err [
      | inl m ↦ inl m
      | inr n ↦ inr (n.0, λ all. n.1 (subst (All (IsAlong (path_way (parts_of c.deref.result.now)))) (sym rows) (subst (λ (w : Way). All (IsAlong w) (rows_of parts a)) (sym way) all)))
    ]
