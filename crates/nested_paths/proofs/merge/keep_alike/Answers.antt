use Rattle.columns_array.specs.Boxed.{boxed}
use Rattle.columns_array.proofs.Nulls.{sound_mask}
use Rattle.nested_paths.proofs.Values.{none_some, some_none, some_some}
use Rattle.nested_paths.proofs.merge.keep_alike.Goals as goal

pub returns-in-Some-validity : goal.returns-in-Some-validity
returns-in-Some-validity c =
    none_some _ _ _ _ c.in-Some-validity.other.now c.in_default.is c.in-Some-validity.ensures (sound_mask (boxed c.args.array.now) c.know.ensures) c.unset_bits.ensures

pub returns-in-None-validity : goal.returns-in-None-validity
returns-in-None-validity c =
    some_none _ _ _ _ c.in-Some.mask c.in-Some.is c.in-None-validity.ensures c.requires c.unset_bits-in-None-validity.ensures

pub returns-in-Some-validity-2 : goal.returns-in-Some-validity-2
returns-in-Some-validity-2 c =
    some_some _ _ _ c.in-Some.mask c.in-Some-validity-2.other.now c.same_masks.result c.in-Some.is c.in-Some-validity-2.ensures c.requires (sound_mask (boxed c.args.array.now) c.know.ensures) c.same_masks.ensures
