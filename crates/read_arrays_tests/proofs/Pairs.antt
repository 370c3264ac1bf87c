-- A struct field of two numbers nests twice, and no struct in it is empty.
use Rattle.std.proofs.Common.{◌≡◌, ◌≤◌, [], ◌∷◌, Vec, Global, string_bytes, rules, ap, sym, subst, ◌∙◌, lit≤}
use Rattle.shredding.specs.Shape.{HasNoEmptyStruct}
use Rattle.columns_core.specs.Measures.{field_nesting}
use Rattle.columns_core.specs.Shapes.{shape_of}
use Rattle.columns_core.specs.Tree.{TypeTree, t_int32, t_struct, FieldTree, field, more_fields, no_fields}
use Rattle.columns_core.specs.View.{type_view, field_view, fields_view, type_step, field_step}
use Rattle.columns_core.specs.declared.types.DataType.{DataType, Int32, Struct, the_lemmas}
use Rattle.columns_core.specs.declared.types.Field.{Field, fold_out-Field}

seen : (f : Field) (t : DataType) → f.data_type ≡ t → field_view f ≡ field (string_bytes f.name) (type_view t) f.is_nullable f.metadata
seen f t e = fold_out-Field TypeTree FieldTree type_step field_step f ∙ ap (λ u. field (string_bytes f.name) (type_view u) f.is_nullable f.metadata) e

int-view : type_view Int32 ≡ t_int32
int-view = search (rules, the_lemmas)

struct-view : (v : Vec Field Global) → type_view (Struct v) ≡ t_struct (fields_view v.items)
struct-view v = search (rules, the_lemmas)

number : (f : Field) → f.data_type ≡ Int32 → field_view f ≡ field (string_bytes f.name) t_int32 f.is_nullable f.metadata
number f e = seen f Int32 e ∙ ap (λ t. field (string_bytes f.name) t f.is_nullable f.metadata) int-view

pub record IsPair (f : Field) : Type 0 where
  pub nests : field_nesting (field_view f) ≤ 128
  pub full : HasNoEmptyStruct (shape_of (field_view f))

pub pair : (f a b : Field) (v : Vec Field Global) → f.data_type ≡ Struct v → v.items ≡ a ∷ b ∷ [] → a.data_type ≡ Int32 → b.data_type ≡ Int32 → IsPair f
pair f a b v e is left right =
    let view : field_view f ≡ field (string_bytes f.name) (t_struct (more_fields (field (string_bytes a.name) t_int32 a.is_nullable a.metadata) (more_fields (field (string_bytes b.name) t_int32 b.is_nullable b.metadata) no_fields))) f.is_nullable f.metadata =
    seen f (Struct v) e ∙ ap (λ t. field (string_bytes f.name) t f.is_nullable f.metadata) (struct-view v ∙ ap (λ fs. t_struct (fields_view fs)) is)
    ∙ ap (λ (x : FieldTree). field (string_bytes f.name) (t_struct (more_fields x (more_fields (field_view b) no_fields))) f.is_nullable f.metadata) (number a left)
    ∙ ap (λ (x : FieldTree). field (string_bytes f.name) (t_struct (more_fields (field (string_bytes a.name) t_int32 a.is_nullable a.metadata) (more_fields x no_fields))) f.is_nullable f.metadata) (number b right) in
    let N : FieldTree → Type 0 = λ t. field_nesting t ≤ 128 in
    let S : FieldTree → Type 0 = λ t. HasNoEmptyStruct (shape_of t) in
    record { nests = subst N (sym view) (lit≤ tt); full = subst S (sym view) (tt, (tt, tt)) }
