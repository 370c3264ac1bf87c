-- What a walk appends, want of memory aside.
use Rattle.std.specs.Prelude.{◌≡◌, ◌⊎◌, Bool, true, false, Option, Some, None, List, ◌++◌, map, Result, Ok, Err, Vec}
use Rattle.std.specs.Global.{Global}
use denote.Ref.{Bor}
use Rattle.shredding.specs.Parts.{Part}
use Rattle.columns_base.specs.declared.error.Error.{Error}
use Rattle.columns_base.specs.declared.error.Error.TheVariants.{Memory, NotYetImplemented}
use Rattle.columns_base.specs.declared.error.N.TheVariants.{N5}
use Rattle.columns_slots.specs.Tree.{ArrayTree}
use Rattle.columns_array.specs.Boxed.{boxed}
use Rattle.columns_array.specs.declared.arrays.ArrayBox.{ArrayBox}
use Rattle.levels.specs.Nested.{parts_of}
use Rattle.levels.specs.declared.nested.Nested.{Nested}
use Rattle.nested_paths.specs.Paths.{below}

-- the arrays that references show
abbrev pub shown : List (Bor ArrayBox) → List ArrayTree
shown arrays = map (λ a. boxed a.now) arrays

-- the parts of each path
abbrev pub all_parts : List (Vec Nested Global) → List (List Part)
all_parts found = map (λ path. parts_of path.items) found

-- the leaves come behind those that were there, or there is a list of a fixed size
abbrev pub TakesLeaves : List ArrayTree → List ArrayTree → List ArrayTree → Bool → Result (Unit {0}) Error → Type 0
TakesLeaves old new leaves has_fixed (Ok u) = (new ≡ old ++ leaves) × (has_fixed ≡ false)
TakesLeaves old new leaves has_fixed (Err e) = (e ≡ Memory) ⊎ ((e ≡ NotYetImplemented N5) × (has_fixed ≡ true))

-- the paths come behind those that were there, each beneath the parts of the parents; or something does not go together
abbrev pub TakesPaths : List Part → List (List Part) → List (List Part) → List (List Part) → Option Error → Result (Unit {0}) Error → Type 0
TakesPaths parents old new paths fault (Ok u) = (new ≡ old ++ below parents paths) × (fault ≡ None)
TakesPaths parents old new paths fault (Err e) = (e ≡ Memory) ⊎ (fault ≡ Some e)
