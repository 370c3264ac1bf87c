-- A footer tells of the trees of schemas as they are.
use Rattle.std.proofs.Common.{◌≡◌, ℕ, zero, suc, ◌^◌, ◌<◌, ◌≤◌, Bool, true, false, true≢false, cond, leb, nat_eq, not, ◌&&◌, ◌||◌, None, refl, arith}
use Rattle.std.proofs.lemmas.Bool.{or_parts, and_parts, not-false, leb-true, leb-false}
use Rattle.columns_core.specs.Tree.{TypeTree, t_timestamp, t_time32, t_time64, t_interval, t_fixed_size_binary, t_list, t_fixed_size_list, t_large_list, t_struct, t_map, t_dictionary, t_decimal, t_extension, FieldTree, field, FieldTrees, no_fields, more_fields}
use Rattle.columns_core.specs.declared.types.TimeUnit.TheVariants.{Second, Millisecond, Microsecond, Nanosecond}
use Rattle.footer_write.specs.Fits.{TreeFits, TreesFit, PhysicalFits}
use Rattle.footer_write.specs.Reads.{TreeIsTold, AreTold, HasLength}
use Rattle.pq_tree.specs.Physical.{Physical, int32, int64, fixed}
use Rattle.pq_tree.specs.Types.{Info}
use Rattle.schema_to_tree.specs.Conditions.{AreWritten, is_bad_decimal, is_decimal, is_unwritten, some_type, some_field, some_fields}
use Rattle.schema_to_tree.specs.Length.{decimal_length}
use Rattle.schema_to_tree.specs.Table.{type_tree, tree_of, trees_of, decimal_physical, named, repetition_of}
use Rattle.schema_file.proofs.Lengths.{length_some, length_short}

-- what is shown of each tree
abbrev IsFine : Info → TypeTree → Type 0
IsFine i t = TreeIsTold (type_tree i t) × TreeFits (type_tree i t)

within : (p s : ℕ) → not (is_decimal p s) ≡ false → (p ≤ 38) × (s ≤ p)
within p s e =
    let a = and_parts (leb 1 p && leb p 38) (leb s p) (not-false (is_decimal p s) e) in
    let b = and_parts (leb 1 p) (leb p 38) a.0 in
    (leb-true p 38 b.1, leb-true s p a.1)

-- the physical type of a decimal
one_of : (P : Physical → Type 0) (b c : Bool) (n : ℕ) → P int32 → P int64 → P (fixed n) → P (cond b int32 (cond c int64 (fixed n)))
one_of P true c n x y z = x
one_of P false true n x y z = y
one_of P false false n x y z = z

has_length : (p : ℕ) → HasLength (decimal_physical p)
has_length p = one_of HasLength (leb p 9) (leb p 18) (decimal_length p) tt tt (length_some p)

fits_field : (p : ℕ) → PhysicalFits (decimal_physical p)
fits_field p = one_of PhysicalFits (leb p 9) (leb p 18) (decimal_length p) tt tt (omega (arith, length_short p))

fixed_length : (n : ℕ) → (nat_eq n 0 || leb (2 ^ 31) n) ≡ false → (1 ≤ n) × (n < 2 ^ 31)
fixed_length zero e = absurd (true≢false e)
fixed_length (suc n) e = (omega arith, leb-false (2 ^ 31) (suc n) (or_parts (nat_eq (suc n) 0) (leb (2 ^ 31) (suc n)) e).1)

mutual
  told_type : (i : Info) (t : TypeTree) → i.id ≡ None → some_type is_bad_decimal t ≡ false → some_type is_unwritten t ≡ false → IsFine i t
  told_type i (t_list f) e d u = let h = told_field f d u in ((e, tt, ((refl, tt, (h.0, tt)), tt)), (tt, ((tt, (h.1, tt)), tt)))
  told_type i (t_large_list f) e d u = let h = told_field f d u in ((e, tt, ((refl, tt, (h.0, tt)), tt)), (tt, ((tt, (h.1, tt)), tt)))
  told_type i (t_fixed_size_list f n) e d u = let h = told_field f d u in ((e, tt, ((refl, tt, (h.0, tt)), tt)), (tt, ((tt, (h.1, tt)), tt)))
  told_type i (t_map f sorted) e d u = let h = told_field f d u in ((e, tt, ((refl, tt, (h.0, tt)), tt)), (tt, ((tt, (h.1, tt)), tt)))
  told_type i (t_struct no_fields) e d u = ((e, tt, tt), (tt, tt))
  told_type i (t_struct (more_fields f fs)) e d u = let h = told_fields (more_fields f fs) d u in ((e, tt, h.0), (tt, h.1))
  told_type i (t_dictionary key t sorted) e d u = told_type i t e d u
  told_type i (t_extension name t m) e d u = told_type i t e d u
  told_type i (t_decimal p s) e d u = let w = within p s d in ((e, has_length p), ((omega (arith, w.0), omega (arith, w.0, w.1)), (omega (arith, w.0), omega (arith, w.0, w.1)), fits_field p))
  told_type i (t_fixed_size_binary n) e d u = let w = fixed_length n u in ((e, w.0), (tt, tt, w.1))
  told_type i (t_interval u) e d w = ((e, omega arith), (tt, tt, omega arith))
  told_type i (t_timestamp Second z) e d u = ((e, tt), (tt, tt, tt))
  told_type i (t_timestamp Millisecond z) e d u = ((e, tt), (tt, tt, tt))
  told_type i (t_timestamp Microsecond z) e d u = ((e, tt), (tt, tt, tt))
  told_type i (t_timestamp Nanosecond z) e d u = ((e, tt), (tt, tt, tt))
  told_type i (t_time32 Second) e d u = ((e, tt), (tt, tt, tt))
  told_type i (t_time32 Millisecond) e d u = ((e, tt), (tt, tt, tt))
  told_type i (t_time32 Microsecond) e d u = ((e, tt), (tt, tt, tt))
  told_type i (t_time32 Nanosecond) e d u = ((e, tt), (tt, tt, tt))
  told_type i (t_time64 Second) e d u = ((e, tt), (tt, tt, tt))
  told_type i (t_time64 Millisecond) e d u = ((e, tt), (tt, tt, tt))
  told_type i (t_time64 Microsecond) e d u = ((e, tt), (tt, tt, tt))
  told_type i (t_time64 Nanosecond) e d u = ((e, tt), (tt, tt, tt))
  told_type i t e d u = ((e, tt), (tt, tt, tt))

  told_field : (f : FieldTree) → some_field is_bad_decimal f ≡ false → some_field is_unwritten f ≡ false → TreeIsTold (tree_of f) × TreeFits (tree_of f)
  told_field (field name t nullable m) d u = told_type (named name (repetition_of nullable)) t refl d u

  told_fields : (fs : FieldTrees) → some_fields is_bad_decimal fs ≡ false → some_fields is_unwritten fs ≡ false → AreTold (trees_of fs) × TreesFit (trees_of fs)
  told_fields no_fields d u = (tt, tt)
  told_fields (more_fields f fs) d u =
      let a = or_parts (some_field is_bad_decimal f) (some_fields is_bad_decimal fs) d in
      let b = or_parts (some_field is_unwritten f) (some_fields is_unwritten fs) u in
      let h = told_field f a.0 b.0 in
      let g = told_fields fs a.1 b.1 in
      ((h.0, g.0), (h.1, g.1))

pub all_told : (fs : FieldTrees) → AreWritten fs → AreTold (trees_of fs) × TreesFit (trees_of fs)
all_told fs h = told_fields fs h.decimals h.types
