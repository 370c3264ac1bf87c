use Rattle.std.proofs.Common.{◌∙◌, Some, ap, inl, inr, subst, sym}
use Rattle.shredding.specs.Parts.{path_way}
use Rattle.columns_array.specs.Boxed.{boxed}
use Rattle.levels.specs.Nested.{parts_of}
use Rattle.levels.specs.Ranges.{leaf_count_or}
use Rattle.nested_paths.specs.ValueMasks.{IsValueMask}
use Rattle.nested_paths.proofs.Lasts.{merged_same, merged_new}
use Rattle.nested_paths.proofs.Merged.{masked_way, masked_leaf_count, merged_in_bounds}
use Rattle.nested_paths.proofs.merge.merge_nulls.Goals as goal

pub returns-then-not-is_leaf_optional-clause-ok : goal.returns-then-not-is_leaf_optional-clause-ok
returns-then-not-is_leaf_optional-clause-ok c =
    merged_same (boxed c.args.array.now) (parts_of c.args.nested.now) c.requires.in_bounds (inl (sym c.is_leaf_optional.ensures ∙ c.if-not-is_leaf_optional.true))

pub returns-in-Some-clause-ok : goal.returns-in-Some-clause-ok
returns-in-Some-clause-ok c =
    merged_new (boxed c.args.array.now) (parts_of c.args.nested.now) (parts_of c.set_leaf_mask.new.nested) c.in-Some.values c.requires.in_bounds c.requires.fits (sym c.is_leaf_optional.ensures ∙ c.if-not-is_leaf_optional.false)
    (subst (IsValueMask (boxed c.args.array.now)) c.in-Some.is c.in_ok-values.ensures.ok) c.set_leaf_mask.ensures.parts

pub returns-in-Some-clause-in_bounds : goal.returns-in-Some-clause-in_bounds
returns-in-Some-clause-in_bounds c =
    merged_in_bounds (boxed c.args.array.now) (parts_of c.args.nested.now) (parts_of c.set_leaf_mask.new.nested) (returns-in-Some-clause-ok c) c.requires.in_bounds

pub returns-in-Some-clause-leaf : goal.returns-in-Some-clause-leaf
returns-in-Some-clause-leaf c =
    ap (leaf_count_or 0) c.set_leaf_mask.ensures.parts ∙ masked_leaf_count (Some c.in-Some.values) (parts_of c.args.nested.now) 0 ∙ c.requires.fits.count

pub returns-in-Some-clause-way : goal.returns-in-Some-clause-way
returns-in-Some-clause-way c = ap path_way c.set_leaf_mask.ensures.parts ∙ masked_way (Some c.in-Some.values) (parts_of c.args.nested.now)

pub returns-in_default-clause-ok : goal.returns-in_default-clause-ok
returns-in_default-clause-ok c =
    merged_same (boxed c.args.array.now) (parts_of c.args.nested.now) c.requires.in_bounds (inr (c.requires.fits, subst (IsValueMask (boxed c.args.array.now)) c.in_default.is c.in_ok-values.ensures.ok))
