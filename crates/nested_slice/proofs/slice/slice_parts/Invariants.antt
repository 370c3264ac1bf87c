use Rattle.std.proofs.Common.{◌≡◌, map}
use Rattle.levels.specs.Nested.{parts_of, is_large}
use Rattle.nested_slice.proofs.Steps.{IsLeft}
use Rattle.nested_slice.proofs.slice.slice_parts.Given as goal

abbrev pub invariant-loop-part : goal.invariant-loop-part
invariant-loop-part l = record {
  left : IsLeft (parts_of l.nested) (parts_of l.initial.nested) l.part-index l.rows.first l.rows.count l.initial.rows.first l.initial.rows.count;
  kinds : map is_large l.nested ≡ map is_large l.initial.nested;
}
