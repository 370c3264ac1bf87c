use Rattle.std.proofs.Common.{◌≡◌, ℤ, List, ap, map, subst, sym}
use Rattle.columns_core.specs.Natives.{value_i32}
use Rattle.columns_core.specs.Shapes.{base}
use Rattle.columns_core.specs.Tree.{TypeTree}
use Rattle.columns_slots.specs.Tree.{Mask, leaf_array}
use Rattle.leaf_pages.specs.Columns.{leaf_column}
use Rattle.leaf_pages.specs.Encoded.{Encodes}
use Rattle.write_pages_tests.proofs.Spelled.{bytes, encodes}
use Rattle.pq_tree.specs.Views.{physical_view}
use Rattle.pq_tree.specs.declared.types.Encoding.TheVariants.{Plain}
use Rattle.write_pages_tests.proofs.spelled_tests.spelled_page.Goals as goal

pub array_to_page-requires-clause-encodes : goal.array_to_page-requires-clause-encodes
array_to_page-requires-clause-encodes c =
    let type_ = c.in_ok-type_.type_ in
    let version = c.options.result.version in
    subst (λ (a : TypeTree × (List ℤ × Mask)). Encodes (λ is_optional text. text ≡ bytes) version Plain (leaf_column type_ (leaf_array a.0 (map (value_i32 (base a.0)) a.1.0) a.1.1))) (sym c.in_ok-array.ensures)
    (encodes type_ version (ap physical_view c.in_ok-type_.ensures))
