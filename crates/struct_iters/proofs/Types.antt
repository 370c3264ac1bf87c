-- A type beneath other extensions has the same columns.
use Rattle.std.proofs.Common.{◌≡◌, Bool, true, List, map, refl, sym, ap, subst, ◌∙◌, true≢false}
use Rattle.std.specs.Prelude.{All}
use Rattle.columns_core.specs.Shapes.{base, type_shape}
use Rattle.columns_core.specs.Tree.{TypeTree, t_struct, t_extension}
use Rattle.pq_headline.specs.Columns.{ArrowColumn, type_columns}
use Rattle.read_nested.specs.Above.{Above, raised}
use Rattle.read_nested.specs.Joined.{HasFlatEntries}
use Rattle.read_pieces.specs.Pieces.{type_leaves}
use Rattle.shredding.specs.Shape.{Shape, HasNoEmptyStruct}
use Rattle.struct_iters.specs.Children.{is_struct_type}
use Rattle.struct_iters.specs.Items.{ItemsReading, AreColumns, IsGivingItems}
use Rattle.struct_iters.specs.Progress.{Progress}

columns-base : (n : Bool) (t : TypeTree) → type_columns n t ≡ type_columns n (base t)
columns-base n (t_extension name inner md) = columns-base n inner
columns-base n t = refl

leaves-base : (own t : TypeTree) → type_leaves own t ≡ type_leaves own (base t)
leaves-base own (t_extension name inner md) = leaves-base own inner
leaves-base own t = refl

shape-base : (n : Bool) (t : TypeTree) → type_shape n t ≡ type_shape n (base t)
shape-base n (t_extension name inner md) = shape-base n inner
shape-base n t = refl

leaves-struct : (own other t : TypeTree) → is_struct_type t ≡ true → type_leaves own t ≡ type_leaves other t
leaves-struct own other (t_struct fs) h = refl
leaves-struct own other t h = absurd (true≢false (sym h))

retyped : (above : List Above) (n : Bool) (t u : TypeTree) (xs : List Progress) → base u ≡ base t → is_struct_type (base t) ≡ true → AreColumns above n t xs → AreColumns above n u xs
retyped above n t u xs e s h =
    let cs : type_columns n t ≡ type_columns n u = columns-base n t ∙ ap (type_columns n) (sym e) ∙ sym (columns-base n u) in
    let ls : type_leaves t t ≡ type_leaves u u = leaves-base t t ∙ leaves-struct t u (base t) s ∙ ap (type_leaves u) (sym e) ∙ sym (leaves-base u u) in
    let sh : type_shape n t ≡ type_shape n u = shape-base n t ∙ ap (type_shape n) (sym e) ∙ sym (shape-base n u) in
    let F : Shape → Type 0 = λ shape. HasNoEmptyStruct shape in
    let A : List ArrowColumn → Type 0 = λ ds. All (λ c. HasFlatEntries c.data_type) ds in
    record { columns = h.columns ∙ ap (map (raised above)) cs; types = h.types ∙ ls; full = subst F sh h.full; flat = subst A cs h.flat }

pub gives-retyped : (above : List Above) (n : Bool) (t u : TypeTree) (xs : List Progress) (old now : ItemsReading) → base u ≡ base old.type → is_struct_type (base old.type) ≡ true → now.type ≡ u → now.readers ≡ old.readers → IsGivingItems above n t xs old → IsGivingItems above n u xs now
gives-retyped above n t u xs old now e s typed readers h =
    let B : TypeTree → Type 0 = λ v. base u ≡ base v in
    let S : TypeTree → Type 0 = λ v. is_struct_type (base v) ≡ true in
    record { are = retyped above n t u xs (subst B h.typed e) (subst S h.typed s) h.are; typed = typed; readers = rw readers h.readers }
