use Rattle.std.proofs.Common.{refl, true≢false, sym, lit≤}
use Rattle.schema_to_tree.specs.Length.{first_length, decimal_length}
use Rattle.schema_to_tree.specs.Examples.{TreesAreWorked, LeavesAreStored, FieldsAreRefused, LeavesAreListed}
use Rattle.schema_to_tree.proofs.Lengths.{decimal_length-least}
use Rattle.schema_to_tree.proofs.laws.as_worked.Goals as goal

trees : TreesAreWorked
unfolding decimal_length first_length
trees = record { struct_of_list = refl; map_of_decimals = refl; dictionary = refl; extension = refl; root = refl }

leaves : LeavesAreStored
unfolding decimal_length first_length
leaves =
    record {
      zoned = refl;
      empty_zone = refl;
      seconds = refl;
      nothing = refl;
      unsigned = refl;
      small_decimals = refl;
      decimals = refl;
      lengths = (decimal_length-least 18 (lit≤ tt), decimal_length-least 19 (lit≤ tt), decimal_length-least 22 (lit≤ tt), decimal_length-least 38 (lit≤ tt));
    }

refusals : FieldsAreRefused
refusals =
    record {
      empty_struct = refl;
      precision = (refl, refl);
      scale = refl;
      time64 = refl;
      time32 = refl;
      union = refl;
      no_bytes = refl;
      many_bytes = refl;
      most_bytes = λ h. true≢false (sym h);
      accepted = (
        record { structs = refl; decimals = refl; times = refl; types = refl; type_nesting = lit≤ tt; tree_nesting = lit≤ tt },
        record { structs = refl; decimals = refl; times = refl; types = refl; type_nesting = lit≤ tt; tree_nesting = lit≤ tt },
      );
    }

lists : LeavesAreListed
lists =
    record {
      in_order = refl;
      as_it_stands = refl;
      looked_through = refl;
      odd_map = refl;
      even_map = refl;
      hidden_union = refl;
      plain = refl;
      deltas = (refl, refl, refl);
      strings = (refl, refl);
      dictionaries = (refl, refl, refl);
    }

pub returns : goal.returns
returns c = record { trees = trees; leaves = leaves; refusals = refusals; lists = lists }
