-- What the cut of a path and of its leaf array is.
use Rattle.std.proofs.Common.{◌≡◌, ℕ, ◌+◌, ◌≤◌, List, take, drop, refl, ap, sym, subst, ◌∙◌}
use Rattle.shredding.specs.Parts.{Part, IsPath, slot_count, path_slots, path_way}
use Rattle.columns_slots.specs.Tree.{ArrayTree}
use Rattle.columns_slots.specs.Slots.{slot_at, tree_len, cut, IsSound}
use Rattle.columns_slots.proofs.Rows.{is_cut}
use Rattle.levels.specs.InBounds.{IsInBounds, bounded_slots}
use Rattle.levels.specs.Ranges.{leaf_count_or}
use Rattle.nested_slice.specs.CutPath.{cut_parts, leaf_rows, AreRising}
use Rattle.nested_slice.specs.Laws.{IsReadAsCut}
use Rattle.nested_slice.proofs.Rows.{cuts_are_rows, array_cut}

pub leaf_rows_within : (old : List Part) (a : ArrayTree) (o n first count : ℕ) → IsInBounds old → AreRising old → o + n ≤ slot_count old → tree_len a ≡ leaf_count_or 0 old → (first, count) ≡ leaf_rows old o n
    → first + count ≤ tree_len a
leaf_rows_within old a o n first count b r h l e =
    let law = cuts_are_rows old o n b r h in
    let f : first ≡ (leaf_rows old o n).0 = ap (λ (p : ℕ × ℕ). p.0) e in
    let c : count ≡ (leaf_rows old o n).1 = ap (λ (p : ℕ × ℕ). p.1) e in
    rw (f, c, l) law.within

pub record IsSliced (old new : List Part) (a b : ArrayTree) (o n : ℕ) : Type 0 where
  pub path : IsPath new
  pub length : slot_count new ≡ n
  pub leaf : tree_len b ≡ leaf_count_or 0 new
  pub slots : path_slots (slot_at b) new ≡ take n (drop o (bounded_slots (slot_at a) old))
  pub read : IsReadAsCut old new o n
  pub way : path_way new ≡ path_way old
  pub array : b ≡ cut a (leaf_rows old o n).0 (leaf_rows old o n).1

cut_sliced : (old : List Part) (a : ArrayTree) (o n : ℕ) → IsInBounds old → AreRising old → o + n ≤ slot_count old → tree_len a ≡ leaf_count_or 0 old → IsSound a
    → IsSliced old (cut_parts old o n) a (cut a (leaf_rows old o n).0 (leaf_rows old o n).1) o n
cut_sliced old a o n b r h l s =
    let law = cuts_are_rows old o n b r h in
    let first = (leaf_rows old o n).0 in
    let count = (leaf_rows old o n).1 in
    let within : first + count ≤ tree_len a = rw l law.within in
    let whole = is_cut a first count s within in
    record {
      path = law.path;
      length = law.rows;
      leaf = whole.len ∙ sym law.leaf;
      slots = law.slots (slot_at a) (slot_at (cut a first count)) (array_cut a first count s within);
      read = law.slots;
      way = law.way;
      array = refl;
    }

pub sliced : (old new : List Part) (a b : ArrayTree) (o n first count : ℕ) → IsInBounds old → AreRising old → o + n ≤ slot_count old → tree_len a ≡ leaf_count_or 0 old → IsSound a
    → new ≡ cut_parts old o n → (first, count) ≡ leaf_rows old o n → b ≡ cut a first count → IsSliced old new a b o n
sliced old new a b o n first count i r h l s e p q =
    let f : first ≡ (leaf_rows old o n).0 = ap (λ (k : ℕ × ℕ). k.0) p in
    let c : count ≡ (leaf_rows old o n).1 = ap (λ (k : ℕ × ℕ). k.1) p in
    let d : cut a first count ≡ cut a (leaf_rows old o n).0 (leaf_rows old o n).1 = rw (f, c) refl in
    subst (λ m. IsSliced old m a b o n) (sym e) (subst (λ t. IsSliced old (cut_parts old o n) a t o n) (sym (q ∙ d)) (cut_sliced old a o n i r h l s))
