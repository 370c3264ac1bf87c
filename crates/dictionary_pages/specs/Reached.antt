-- What the keys of a dictionary name, where a path reaches them.
use Rattle.std.specs.Prelude.{◌≡◌, ℕ, List, [], map}
use Rattle.std.proofs.Common.{inl}
use Rattle.columns_slots.specs.Slots.{entry_at, keys_in, tree_len}
use Rattle.columns_slots.specs.Tree.{ArrayTree}
use Rattle.pq_tree.specs.Physical.{Physical}
use Rattle.write_values.specs.Rows.{Adds, adds-none}
use Rattle.write_values.specs.Stored.{stored_at}
use Rattle.dictionary_pages.specs.declared.reached.Reached.{Reached}
use Rattle.dictionary_pages.specs.Indices.{IsLargest}
use Rattle.dictionary_pages.specs.Taken.{all-none}

-- The keys at these places name so many values of so many bytes, and the largest place of an entry, each counted from nothing on.
pub record Reaches (p : Physical) (a : ArrayTree) (places : List ℕ) (old new : Reached) : Type 0 where
  pub values : Adds p (tree_len a) (stored_at a p) places old.values new.values
  pub largest : old.largest ≡ 0 → IsLargest (map (entry_at (keys_in a)) places) new.largest

pub reaches-none : (p : Physical) (a : ArrayTree) (r : Reached) → Reaches p a [] r r
reaches-none p a r = record {
  values = adds-none p (tree_len a) (stored_at a p) r.values;
  largest = λ e. record { most = all-none _; among = inl e };
}
