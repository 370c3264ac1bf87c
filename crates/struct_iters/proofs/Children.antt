-- The children of a struct side by side.
use Rattle.std.proofs.Common.{◌≡◌, ◌<◌, ℕ, suc, Bool, List, [], ◌∷◌, ◌++◌, length, map, flat_map, Option, Vec, Global, refl, sym, ap, subst, ◌∙◌, rules, arith}
use Rattle.std.specs.List.{AllByRecursion as Each}
use Rattle.std.proofs.lemmas.List.{length-map, map-append}
use Rattle.std.proofs.lemmas.List.Elements.{recursion_from_All, All-from_recursion}
use Rattle.columns_core.specs.Shapes.{shapes_of}
use Rattle.columns_core.specs.Tree.{t_struct, field, FieldTrees, no_fields, more_fields}
use Rattle.columns_core.specs.View.{type_view, fields_view}
use Rattle.columns_core.specs.declared.types.DataType.{Struct, the_lemmas}
use Rattle.columns_core.specs.declared.types.Field.{Field}
use Rattle.pq_headline.specs.Columns.{ArrowColumn, type_columns, columns_from, beneath_struct}
use Rattle.read_columns.specs.Columns.{ColumnReading}
use Rattle.read_nested.specs.Above.{Above, raised}
use Rattle.read_nested.specs.Joined.{HasFlatEntries}
use Rattle.read_nested.proofs.Stood.{raised-struct}
use Rattle.read_pieces.specs.Pieces.{type_leaves, all_leaf_types}
use Rattle.shredding.specs.Shape.{HaveNoEmptyStruct}
use Rattle.shredding.proofs.Levels.{Each-append}
use Rattle.struct_iters.specs.Children.{AreChildren}
use Rattle.struct_iters.specs.Items.{ItemsReading, AreColumns, IsGivingItems}
use Rattle.struct_iters.specs.Progress.{Progress, AreAt}

abbrev pub IsFlatColumn : ArrowColumn → Type 0
IsFlatColumn c = HasFlatEntries c.data_type

-- the columns of the fields from one on
pub record AreFrom (above : List Above) (n : Bool) (place : ℕ) (fs : FieldTrees) (xs : List Progress) (rs : List (Option ColumnReading)) : Type 0 where
  pub columns : map (λ x. x.opening.column) xs ≡ map (raised above) (columns_from n place fs)
  pub types : map (λ x. x.type) xs ≡ all_leaf_types fs
  pub full : HaveNoEmptyStruct (shapes_of fs)
  pub flat : Each IsFlatColumn (columns_from n place fs)
  pub at : AreAt xs rs

flat-structs : (n : Bool) (place : ℕ) (cs : List ArrowColumn) → Each IsFlatColumn cs → Each IsFlatColumn (map (beneath_struct n place) cs)
flat-structs n place [] h = tt
flat-structs n place (c ∷ cs) h = (h.0, flat-structs n place cs h.1)

at-append : (xs ys : List Progress) (rs qs : List (Option ColumnReading)) → AreAt xs rs → AreAt ys qs → AreAt (xs ++ ys) (rs ++ qs)
at-append [] ys [] qs h k = k
at-append [] ys (r ∷ rs) qs h k = absurd h
at-append (x ∷ xs) ys [] qs h k = absurd h
at-append (x ∷ xs) ys (r ∷ rs) qs h k = (h.0, at-append xs ys rs qs h.1 k)

pub from-children : (above : List Above) (n : Bool) (place : ℕ) (fs : FieldTrees) (its : List ItemsReading) (xs : List Progress) → AreChildren above n place fs its xs → AreFrom above n place fs xs (flat_map (λ it. it.readers) its)
from-children above n place no_fields [] xs h = subst (λ ys. AreFrom above n place no_fields ys []) (sym h) (record { columns = refl; types = refl; full = tt; flat = tt; at = tt })
from-children above n place no_fields (it ∷ its) xs h = absurd h
from-children above n place (more_fields (field name t b md) fs) [] xs h = absurd h
from-children above n place (more_fields (field name t b md) fs) (it ∷ its) xs h =
    let first = h.0 in
    let rest = h.1 in
    let one = h.3 in
    let more = from-children above n (suc place) fs its rest h.4 in
    let cs : List ArrowColumn = type_columns b t in
    let ds : List ArrowColumn = columns_from n (suc place) fs in
    let mine : map (λ x. x.opening.column) first ≡ map (raised above) (map (beneath_struct n place) cs) = one.are.columns ∙ sym (raised-struct above n place cs) in
    let P : List Progress → Type 0 = λ ys. AreFrom above n place (more_fields (field name t b md) fs) ys (it.readers ++ flat_map (λ j. j.readers) its) in
    let all : P (first ++ rest) = record {
      columns = map-append (λ x. x.opening.column) first rest ∙ ap (λ us. us ++ map (λ x. x.opening.column) rest) mine ∙ ap (λ us. map (raised above) (map (beneath_struct n place) cs) ++ us) more.columns ∙ sym (map-append (raised above) (map (beneath_struct n place) cs) ds);
      types = map-append (λ x. x.type) first rest ∙ ap (λ us. us ++ map (λ x. x.type) rest) one.are.types ∙ ap (λ us. type_leaves t t ++ us) more.types;
      full = (one.are.full, more.full);
      flat = Each-append IsFlatColumn (map (beneath_struct n place) cs) ds (flat-structs n place cs (recursion_from_All IsFlatColumn cs one.are.flat)) more.flat;
      at = at-append first rest it.readers (flat_map (λ j. j.readers) its) one.readers more.at;
    } in
    subst P (sym h.2) all

-- the columns of the struct, which has fields
struct-columns : (above : List Above) (n : Bool) (fs : FieldTrees) (its : List ItemsReading) (xs : List Progress) → 0 < length its → AreChildren above n 0 fs its xs → AreColumns above n (t_struct fs) xs
struct-columns above n no_fields [] xs some h = absurd (omega (arith, some))
struct-columns above n no_fields (it ∷ its) xs some h = absurd h
struct-columns above n (more_fields f fs) its xs some h =
    let all = from-children above n 0 (more_fields f fs) its xs h in
    record { columns = all.columns; types = all.types; full = all.full; flat = All-from_recursion IsFlatColumn (columns_from n 0 (more_fields f fs)) all.flat }

pub struct-gives : (above : List Above) (n : Bool) (fs : FieldTrees) (its : List ItemsReading) (xs : List Progress) (now : ItemsReading) → 0 < length its → AreChildren above n 0 fs its xs → now.type ≡ t_struct fs → now.readers ≡ flat_map (λ it. it.readers) its → IsGivingItems above n (t_struct fs) xs now
struct-gives above n fs its xs now some h typed readers =
    let all = from-children above n 0 fs its xs h in
    record { are = struct-columns above n fs its xs some h; typed = typed; readers = subst (AreAt xs) (sym readers) all.at }

-- ---- the iterators of the children
flat_map-map : {A B C : Type 0} (f : B → List C) (g : A → B) (xs : List A) → flat_map f (map g xs) ≡ flat_map (λ x. f (g x)) xs
flat_map-map f g [] = refl
flat_map-map f g (x ∷ xs) = ap (λ us. f (g x) ++ us) (flat_map-map f g xs)

pub struct-of : {A : Type 0} (shown : A → ItemsReading) (above : List Above) (n : Bool) (fs : FieldTrees) (its : List A) (xs : List Progress) (now : ItemsReading) → 0 < length its → AreChildren above n 0 fs (map shown its) xs → now.type ≡ t_struct fs → now.readers ≡ flat_map (λ it. (shown it).readers) its → IsGivingItems above n (t_struct fs) xs now
struct-of shown above n fs its xs now some h typed readers =
    let l = length-map its shown in
    struct-gives above n fs (map shown its) xs now (omega (arith, l, some)) h typed (readers ∙ sym (flat_map-map (λ (j : ItemsReading). j.readers) shown its))

pub struct-view : (v : Vec Field Global) → type_view (Struct v) ≡ t_struct (fields_view v.items)
struct-view v = search (rules, the_lemmas)
