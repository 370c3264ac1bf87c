-- A leaf array that is the entries of a dictionary.
use Rattle.std.proofs.Common.{◌≡◌, ◌≢◌, ℕ, true, List, map, ap, sym, subst, ◌∙◌}
use Rattle.columns_core.specs.Shapes.{base}
use Rattle.columns_slots.specs.Slots.{tree_len, type_of}
use Rattle.columns_slots.specs.Tree.{ArrayTree}
use Rattle.nested_paths.specs.ValueMasks.{is_valued}
use Rattle.pq_tree.specs.Physical.{Physical, boolean}
use Rattle.pq_files.specs.Layout.{plain_length}
use Rattle.write_values.specs.declared.leaf.Leaf.{Leaf}
use Rattle.write_values.specs.Leaf.{leaf_physical, leaf_tree}
use Rattle.write_values.specs.Rows.{AppendsRow}
use Rattle.write_values.specs.Served.{is_served}
use Rattle.write_values.specs.Stored.{stored_at}
use Rattle.dictionary_pages.specs.Leaves.{IsEntryLeaf}
use Rattle.dictionary_pages.proofs.EntryTypes.{entry_in_a_row}

module _ (a : ArrayTree) (p : Physical) (leaf : Leaf) (h : IsEntryLeaf a p leaf) where
  pub leaf_served : is_served (base (type_of (leaf_tree leaf))) (leaf_physical leaf) ≡ true
  leaf_served = subst (λ (q : Physical). is_served (base (type_of (leaf_tree leaf))) q ≡ true) (sym h.is.physical) (subst (λ (b : ArrayTree). is_served (base (type_of b)) p ≡ true) (sym h.is.tree) h.is.served)

  pub leaf_in_a_row : leaf_physical leaf ≢ boolean
  leaf_in_a_row = λ e. entry_in_a_row (base (type_of a)) p h.entries (sym h.is.physical ∙ e)

  pub leaf_valued : is_valued (leaf_tree leaf) ≡ true
  leaf_valued = ap is_valued h.is.tree ∙ h.valued

  pub leaf_count : tree_len (leaf_tree leaf) ≡ tree_len a
  leaf_count = ap tree_len h.is.tree

  pub leaf_size : (xs : List ℕ) → plain_length (leaf_physical leaf) (map (stored_at (leaf_tree leaf) (leaf_physical leaf)) xs) ≡ plain_length p (map (stored_at a p) xs)
  leaf_size xs = ap (λ (q : Physical). plain_length q (map (stored_at (leaf_tree leaf) q) xs)) h.is.physical ∙ ap (λ (b : ArrayTree). plain_length p (map (stored_at b p) xs)) h.is.tree

  pub leaf_row : (before after : List ℕ) (xs : List ℕ) → AppendsRow (leaf_physical leaf) before after (map (stored_at (leaf_tree leaf) (leaf_physical leaf)) xs) → AppendsRow p before after (map (stored_at a p) xs)
  leaf_row before after xs r =
      subst (λ (b : ArrayTree). AppendsRow p before after (map (stored_at b p) xs)) h.is.tree (subst (λ (q : Physical). AppendsRow q before after (map (stored_at (leaf_tree leaf) q) xs)) h.is.physical r)
