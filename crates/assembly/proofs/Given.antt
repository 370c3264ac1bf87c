-- An iterator that gives, opened and shut, and what a call gives where it gives something.
use Rattle.std.specs.Prelude.{◌++◌, ◌∷◌, [], List, length, flat_map, Some, Result, Ok, Err, IfOk, IfErr}
use Rattle.columns_array.specs.Boxed.{boxed}
use Rattle.columns_array.specs.declared.arrays.ArrayBox.{ArrayBox}
use Rattle.columns_base.specs.declared.error.Error.{Error}
use Rattle.columns_slots.specs.Slots.{slots}
use Rattle.columns_slots.specs.Tree.{ArrayTree}
use Rattle.pq_headline.specs.FieldReasons.{Refuses}
use Rattle.pq_headline.specs.Openings.{Opening, IsItem}
use Rattle.assembly.specs.Giving.{FieldReading, HasGiven, IsGiving, Gives}

pub given : (o : Opening) (arrays : List ArrayTree) (it : FieldReading) → IsGiving o arrays it → HasGiven o arrays it
unfolding IsGiving
given o arrays it h = h

pub giving : (o : Opening) (arrays : List ArrayTree) (it : FieldReading) → HasGiven o arrays it → IsGiving o arrays it
unfolding IsGiving
giving o arrays it h = h

pub gives :
    (o : Opening) (arrays : List ArrayTree) (result : Result ArrayBox Error) (now : FieldReading)
    → IfOk result (λ a. IsItem o (length (flat_map slots arrays)) (boxed a) × IsGiving o (arrays ++ boxed a ∷ []) now) → IfErr result (Refuses o) → Gives o arrays (Some result) now
gives o arrays (Ok a) now h k = h
gives o arrays (Err e) now h k = k
