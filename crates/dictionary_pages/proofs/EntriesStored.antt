-- A dictionary page made of its entries.
use Rattle.std.proofs.Common.{◌≡◌, ◌≢◌, ℕ, zero, suc, ◌+◌, ◌≤◌, ◌<◌, Bool, true, false, true≢false, cond, Some, List, [], ◌++◌, length, map, refl, ap, sym, subst, ◌∙◌, arith}
use Rattle.std.specs.List.{AllZip}
use Rattle.shredding.specs.Parts.{keeps, slots_from}
use Rattle.shredding.specs.Shape.{LeafType}
use Rattle.shredding.specs.Slot.{Value, null, value}
use Rattle.columns_core.specs.Shapes.{base, leaf_type}
use Rattle.columns_core.specs.Tree.{TypeTree}
use Rattle.columns_entries.specs.Entries.{entry_value, entries_of}
use Rattle.columns_slots.specs.Slots.{IsSound, leaf_at, slot_at, type_of}
use Rattle.columns_slots.specs.Tree.{Mask, ArrayTree, null_array, leaf_array, list_array, fixed_list_array, struct_array, dictionary_array}
use Rattle.pq_tree.specs.Physical.{Physical, boolean}
use Rattle.pq_files.specs.Layout.{AreStoredEntries, IsStoredEntry, plain_length}
use Rattle.pq_files.specs.Plain.{InARow}
use Rattle.pq_pages.specs.Denotes.{IsDictFor}
use Rattle.pq_pages.specs.declared.page.DictPage.{DictPage}
use Rattle.write_values.specs.Lengths.{plain_sum}
use Rattle.write_values.specs.Rows.{AppendsRow}
use Rattle.write_values.proofs.InRows.{plain_of, row_size}
use Rattle.dictionary_pages.specs.Entries.{is_entry, stored_entries, stored_entry}
use Rattle.dictionary_pages.proofs.Named.{entries_valued, value_stored}

module _ (u : TypeTree) (vs : List Value) (n : Mask) (p : Physical) (sound : IsSound (leaf_array u vs n)) (are : is_entry (base u) p ≡ true) where
  abbrev t : LeafType
  t = leaf_type u

  abbrev c : ArrayTree
  c = leaf_array u vs n

  one : (i : ℕ) → i < length vs → IsStoredEntry t p (entry_value (slot_at c i)) (stored_entry t p (entry_value (slot_at c i)))
  one i h = by (keeps n i)
    where
      by : (b : Bool) → IsStoredEntry t p (entry_value (cond b (value (leaf_at vs i)) null)) (stored_entry t p (entry_value (cond b (value (leaf_at vs i)) null)))
      by true = value_stored u vs n p sound are i h
      by false = refl

  each : (from k : ℕ) → from + k ≤ length vs → AllZip (IsStoredEntry t p) (map entry_value (slots_from (slot_at c) from k)) (map (stored_entry t p) (map entry_value (slots_from (slot_at c) from k)))
  unfolding slots_from
  each from zero h = tt
  each from (suc k) h = (one from (omega (arith, h)), each (from + 1) k (omega (arith, h)))

-- each entry is stored by the page table
pub entries_stored : (c : ArrayTree) (p : Physical) → IsSound c → is_entry (base (type_of c)) p ≡ true → AreStoredEntries (leaf_type (type_of c)) p (Some (entries_of c)) (Some (stored_entries c p))
entries_stored (leaf_array u vs n) p s e = each u vs n p s e 0 (length vs) (omega arith)
entries_stored (null_array u k) p s e = absurd (true≢false (sym (entries_valued (null_array u k) p s e)))
entries_stored (list_array u os c m) p s e = absurd (true≢false (sym (entries_valued (list_array u os c m) p s e)))
entries_stored (fixed_list_array u w k c m) p s e = absurd (true≢false (sym (entries_valued (fixed_list_array u w k c m) p s e)))
entries_stored (struct_array u cs m) p s e = absurd (true≢false (sym (entries_valued (struct_array u cs m) p s e)))
entries_stored (dictionary_array u ks c m) p s e = absurd (true≢false (sym (entries_valued (dictionary_array u ks c m) p s e)))

-- the page of what is appended to nothing
pub dictionary_made : (p : Physical) (before : List ℕ) (entries : List Value) (page : DictPage) → p ≢ boolean → before ≡ [] → AppendsRow p before page.buffer.items entries → page.num_values ≡ length entries → page.is_sorted ≡ false → IsDictFor p entries page
dictionary_made p before entries page n none r count unsorted =
    let text : page.buffer.items ≡ r.text = r.parts ∙ ap (λ (xs : List ℕ). xs ++ r.text) none in
    let size : length page.buffer.items ≡ plain_length p entries = ap length text ∙ (row_size p r.text entries r.row ∙ sym (plain_sum p entries n)) in
    record { plain = plain_of p page.buffer.items entries n (subst (λ (xs : List ℕ). InARow p xs entries) (sym text) r.row); count = count; unsorted = unsorted; within = omega (arith, size) }
