use Rattle.std.proofs.Common.{◌≡◌, ◌∙◌, ℕ, ap}
use Rattle.columns_array.specs.Boxed.{boxed}
use Rattle.columns_slots.specs.Slots.{cut, tree_len}
use Rattle.columns_slots.specs.Tree.{ArrayTree}
use Rattle.levels.specs.Nested.{parts_of}
use Rattle.nested_paths.specs.Seen.{leaf_slot}
use Rattle.nested_slice.specs.CutPath.{cut_parts, leaf_rows}
use Rattle.shredding.specs.Parts.{path_slots}
use Rattle.write_pages.proofs.Moved.{all_rows}
use Rattle.write_pages.proofs.keyed_column.whole_column.Goals as goal

pub returns-clause-ok : goal.returns-clause-ok
returns-clause-ok c =
    let a = boxed c.args.array.now in
    let parts = parts_of c.args.nested.now in
    let h = c.in_ok-whole.ensures.ok in
    let own : c.in_ok-clone-in-Some.field-0 ≡ boxed c.in_ok-whole.whole.array = c.in_ok-clone-in-Some.ensures.ok ∙ c.in-Some.ensures in
    record {
      well = h.well;
      few = h.few;
      leaf = ap tree_len own ∙ h.leaf;
      tree = own ∙ (c.in_ok-whole.ensures.tree ∙ ap (λ (n : ℕ). cut a (leaf_rows parts 0 n).0 (leaf_rows parts 0 n).1) c.slot_count.ensures);
      path = c.in_ok-whole.ensures.path ∙ ap (λ (n : ℕ). cut_parts parts 0 n) c.slot_count.ensures;
      way = h.way;
      rows = ap (λ (x : ArrayTree). path_slots (leaf_slot x) (parts_of c.in_ok-whole.whole.nested.items)) own ∙ (h.rows ∙ all_rows parts a c.slot_count.result c.slot_count.ensures);
    }
