-- Entries side by side that are null, or that are not, as they are spelled.
use Rattle.std.proofs.Common.{◌≡◌, ℕ, ◌-◌, ◌*◌, ◌<◌, ◌≤◌, ◌++◌, Bool, true, false, List, map, replicate, ap, sym, subst, ◌∙◌}
use Rattle.std.specs.Prelude.{not}
use Rattle.shredding.specs.Parts.{keeps}
use Rattle.shredding.specs.Slot.{Value}
use Rattle.columns_core.specs.Shapes.{base}
use Rattle.columns_slots.specs.Slots.{mask_of, type_of}
use Rattle.columns_slots.specs.Tree.{ArrayTree}
use Rattle.pq_tree.specs.Physical.{Physical}
use Rattle.pq_files.specs.Layout.{filler, plain_length, plain_size}
use Rattle.pq_files.specs.Plain.{InARow}
use Rattle.write_places.specs.Places.{range}
use Rattle.write_values.specs.declared.leaf.Leaf.{Leaf}
use Rattle.write_values.specs.Leaf.{leaf_physical, leaf_tree}
use Rattle.write_values.specs.Rows.{AppendsRow}
use Rattle.write_values.specs.Stored.{stored_at}
use Rattle.dictionary_pages.specs.Entries.{stored_entry_at}
use Rattle.dictionary_pages.specs.Leaves.{IsEntryLeaf}
use Rattle.dictionary_pages.proofs.EntryTypes.{entry_in_a_row}
use Rattle.dictionary_pages.proofs.Fillers.{fillers_length, fillers_row, null_stretch, there_stretch}
use Rattle.dictionary_pages.proofs.LeafFacts.{leaf_row, leaf_size}

module _ (e : ArrayTree) (p : Physical) (leaf : Leaf) (h : IsEntryLeaf e p leaf) (from end : ℕ) (low : from ≤ end) (null : Bool) (alike : (i : ℕ) → from ≤ i → i < end → keeps (mask_of e) i ≡ not null) where
  abbrev vs : List Value
  vs = map (stored_entry_at e p) (range from (end - from))

  fillers : null ≡ true → vs ≡ replicate (end - from) (filler p)
  fillers is = null_stretch e p h.valued from end low (λ i l k. alike i l k ∙ ap not is)

  values : null ≡ false → vs ≡ map (stored_at e p) (range from (end - from))
  values is = there_stretch e p h.valued from end low (λ i l k. alike i l k ∙ ap not is)

  pub null_size : null ≡ true → plain_length p vs ≡ (end - from) * plain_size p (filler p)
  null_size is = ap (plain_length p) (fillers is) ∙ fillers_length p (end - from) (entry_in_a_row (base (type_of e)) p h.entries)

  pub null_row : (before after : List ℕ) → null ≡ true → after ≡ before ++ replicate ((end - from) * plain_size p (filler p)) 0 → AppendsRow p before after vs
  null_row before after is parts = record {
    text = replicate ((end - from) * plain_size p (filler p)) 0;
    parts = parts;
    row = subst (λ (us : List Value). InARow p (replicate ((end - from) * plain_size p (filler p)) 0) us) (sym (fillers is)) (fillers_row (base (type_of e)) p (end - from) h.entries);
  }

  pub there_size : null ≡ false → plain_length (leaf_physical leaf) (map (stored_at (leaf_tree leaf) (leaf_physical leaf)) (range from (end - from))) ≡ plain_length p vs
  there_size is = leaf_size e p leaf h (range from (end - from)) ∙ ap (plain_length p) (sym (values is))

  pub there_row : (before after : List ℕ) → null ≡ false → AppendsRow (leaf_physical leaf) before after (map (stored_at (leaf_tree leaf) (leaf_physical leaf)) (range from (end - from))) → AppendsRow p before after vs
  there_row before after is r = subst (λ (us : List Value). AppendsRow p before after us) (sym (values is)) (leaf_row e p leaf h before after (range from (end - from)) r)
