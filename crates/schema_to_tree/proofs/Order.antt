-- Which refusal goes first.
use Rattle.std.proofs.Common.{◌≡◌, ℕ, ◌<◌, ◌≤◌, Bool, true, false, ◌&&◌, leb, Option, Some, inl, inr, Result, Ok, Err, IfErr, refl, ◌∙◌}
use Rattle.std.proofs.Math.Bool.{and-false}
use Rattle.std.proofs.lemmas.Bool.{lt-leb, le-leb}
use Rattle.columns_core.specs.Measures.{field_nesting, fields_nesting}
use Rattle.columns_core.specs.Tree.{FieldTree, FieldTrees}
use Rattle.pq_tree.specs.Tree.{nesting, schema_nesting}
use Rattle.columns_base.specs.declared.error.Error.{Error}
use Rattle.columns_base.specs.declared.error.Error.TheVariants.{NotYetImplemented, InvalidArgumentError}
use Rattle.columns_base.specs.declared.error.N.TheVariants.{N7}
use Rattle.columns_base.specs.declared.error.A.TheVariants.{A6}
use Rattle.schema_to_tree.specs.Conditions.{is_bad_time64, some_field, some_fields, most}
use Rattle.schema_to_tree.specs.Faults.{field_fault, fields_fault, Gives}
use Rattle.schema_to_tree.specs.Order.{in_order, field_refusal, schema_refusal, IsFirst}
use Rattle.schema_to_tree.specs.Table.{tree_of, schema_of}

deep_tree : (n m : ℕ) (t : Bool) (o : Option Error) → most < m → in_order (leb n most && leb m most) t o ≡ Some (NotYetImplemented N7)
deep_tree n m t o h = rw (lt-leb m most h, and-false (leb n most)) refl

timed : (n m : ℕ) (t : Bool) (o : Option Error) → n ≤ most → m ≤ most → t ≡ true → in_order (leb n most && leb m most) t o ≡ Some (InvalidArgumentError A6)
timed n m t o h k is = rw (le-leb n most h, le-leb m most k, is) refl

at_last : (n m : ℕ) (t : Bool) (o : Option Error) → n ≤ most → m ≤ most → t ≡ false → in_order (leb n most && leb m most) t o ≡ o
at_last n m t o h k is = rw (le-leb n most h, le-leb m most k, is) refl

first : (o p : Option Error) (e : Error) → p ≡ o → IsFirst o e → IsFirst p e
first o p e is (inl memory) = inl memory
first o p e is (inr found) = inr (is ∙ found)

-- ---- of a field

pub field_deep : (f : FieldTree) → most < nesting (tree_of f) → IsFirst (field_refusal f) (NotYetImplemented N7)
field_deep f h = inr (deep_tree (field_nesting f) (nesting (tree_of f)) _ _ h)

pub field_timed : (f : FieldTree) → field_nesting f ≤ most → nesting (tree_of f) ≤ most → some_field is_bad_time64 f ≡ true → IsFirst (field_refusal f) (InvalidArgumentError A6)
field_timed f h k is = inr (timed (field_nesting f) (nesting (tree_of f)) _ _ h k is)

pub field_given : {A B : Type 0} (g : A → B) (b : B) (f : FieldTree) (r : Result A Error) → Gives g b (field_fault f) r → field_nesting f ≤ most → nesting (tree_of f) ≤ most
    → some_field is_bad_time64 f ≡ false → IfErr r (IsFirst (field_refusal f))
field_given g b f (Ok a) given h k is = tt
field_given g b f (Err e) given h k is = first (field_fault f) (field_refusal f) e (at_last (field_nesting f) (nesting (tree_of f)) _ _ h k is) given

-- ---- of a schema

pub schema_deep : (fs : FieldTrees) → most < schema_nesting (schema_of fs) → IsFirst (schema_refusal fs) (NotYetImplemented N7)
schema_deep fs h = inr (deep_tree (fields_nesting fs) (schema_nesting (schema_of fs)) _ _ h)

pub schema_timed : (fs : FieldTrees) → fields_nesting fs ≤ most → schema_nesting (schema_of fs) ≤ most → some_fields is_bad_time64 fs ≡ true
    → IsFirst (schema_refusal fs) (InvalidArgumentError A6)
schema_timed fs h k is = inr (timed (fields_nesting fs) (schema_nesting (schema_of fs)) _ _ h k is)

pub schema_given : (fs : FieldTrees) (e : Error) → IsFirst (fields_fault fs) e → fields_nesting fs ≤ most → schema_nesting (schema_of fs) ≤ most → some_fields is_bad_time64 fs ≡ false
    → IsFirst (schema_refusal fs) e
schema_given fs e given h k is = first (fields_fault fs) (schema_refusal fs) e (at_last (fields_nesting fs) (schema_nesting (schema_of fs)) _ _ h k is) given
