use Rattle.std.proofs.Common.{refl, lit≤}
use Rattle.schema_to_tree.specs.Length.{first_length, decimal_length}
use Rattle.schema_map.specs.Examples.{AreWorked}
use Rattle.schema_map.proofs.laws.as_worked.Goals as goal

examples : AreWorked
unfolding decimal_length first_length
examples =
    record {
      nested = record { rows = refl; fits = refl };
      map = record { rows = refl; fits = refl };
      dictionary = record { rows = refl; fits = refl };
      decimal = record { rows = refl; fits = refl };
      floats = record { written = record { structs = refl; decimals = refl; times = refl; types = refl; type_nesting = lit≤ tt; tree_nesting = lit≤ tt }; misses = refl };
      nested_decimal = record { written = record { structs = refl; decimals = refl; times = refl; types = refl; type_nesting = lit≤ tt; tree_nesting = lit≤ tt }; misses = refl };
      fixed_size_list = record { written = record { structs = refl; decimals = refl; times = refl; types = refl; type_nesting = lit≤ tt; tree_nesting = lit≤ tt }; misses = refl };
    }

pub returns : goal.returns
returns c = examples
