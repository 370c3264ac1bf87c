-- A code for a field: its parts, the type among them.
use Rattle.std.specs.Prelude.{◌≡◌, ℕ, List, Bool, refl}
use Rattle.std.specs.Coded.{Coded, code_by, coded_ℕ, coded_bool, coded_list, coded×}
use Rattle.columns_core.specs.Meta.{Meta}
use Rattle.columns_core.specs.Tree.{TypeTree, FieldTree, field}
use Rattle.columns_core.specs.TypeCode.{type_code}

abbrev pub Parts : Type 0
Parts = List ℕ × (TypeTree × (Bool × Meta))

abbrev pub parts_of : FieldTree → Parts
parts_of (field name t n metadata) = (name, (t, (n, metadata)))

pub parts_are : (f : FieldTree) → field (parts_of f).0 (parts_of f).1.0 (parts_of f).1.1.0 (parts_of f).1.1.1 ≡ f
parts_are (field name t n metadata) = refl

abbrev pub field_code : Coded FieldTree
field_code =
    code_by Parts (coded× (coded_list coded_ℕ) (coded× type_code (coded× coded_bool (coded_list (coded× (coded_list coded_ℕ) (coded_list coded_ℕ)))))) parts_of (λ p. field p.0 p.1.0 p.1.1.0 p.1.1.1) parts_are
