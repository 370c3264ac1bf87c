-- The array of a type beneath other parts.
use Rattle.std.proofs.Common.{◌≡◌, Bool, List, [], ◌∷◌, ◌++◌, map, refl, ap, sym, ◌∙◌, subst, append-nil}
use Rattle.std.specs.Prelude.{Result, Ok, Err, IfOk, IfErr}
use Rattle.std.specs.List.{AllByRecursion as Each}
use Rattle.std.proofs.lemmas.List.Elements.{recursion_from_All}
use Rattle.columns_base.specs.declared.error.Error.{Error}
use Rattle.columns_array.specs.Boxed.{boxed}
use Rattle.columns_core.specs.Tree.{TypeTree}
use Rattle.columns_slots.specs.Slots.{slot_at as array_slot, tree_len}
use Rattle.shredding.specs.Shred.{Triple}
use Rattle.pq_headline.specs.Columns.{ArrowColumn, type_columns}
use Rattle.read_items.specs.Items.{ItemsAreCounted}
use Rattle.read_pieces.specs.Pieces.{type_leaves}
use Rattle.read_pieces.specs.declared.piece.ColumnPiece.{ColumnPiece}
use Rattle.read_nested.specs.Above.{Above, raised}
use Rattle.read_nested.specs.Beneath.{columns_beneath, AllStood, ArePiecesBeneath, IsBeneath, CannotJoinColumns}
use Rattle.read_nested.specs.Builds.{Builds, Fails}
use Rattle.read_nested.specs.Joined.{HasFlatEntries, HasFixedList}
use Rattle.read_nested.proofs.Array.{no-pieces}
use Rattle.read_nested.proofs.Built.{Entries, AreFlatPieces, flat-pieces, built}
use Rattle.read_nested.proofs.Failed.{failed}
use Rattle.read_nested.proofs.Stood.{raised-type}

-- the entries of columns are those of the columns beneath parts
flat-raised : (above : List Above) (cs : List ArrowColumn) → Each (λ c. HasFlatEntries c.data_type) cs → Each (λ c. HasFlatEntries c.data_type) (map (raised above) cs)
flat-raised above [] h = tt
flat-raised above (c ∷ cs) h = (subst HasFlatEntries (sym (raised-type above c)) h.0, flat-raised above cs h.1)

-- what each column of the type has
module _ (above : List Above) (n : Bool) (t : TypeTree) (tables : List (List Triple)) (es : List Entries) (pieces : List ColumnPiece) (are : ArePiecesBeneath above n t tables es pieces) where
  flat-are : AreFlatPieces (map (raised above) (type_columns n t) ++ []) (type_leaves t t ++ []) tables es pieces
  flat-are =
      let cs : List ArrowColumn = map (raised above) (type_columns n t) in
      let P : List ArrowColumn → Type 0 = λ ds. AreFlatPieces ds (type_leaves t t ++ []) tables es pieces in
      let Q : List TypeTree → Type 0 = λ ts. AreFlatPieces cs ts tables es pieces in
      let each = flat-raised above (type_columns n t) (recursion_from_All (λ c. HasFlatEntries c.data_type) (type_columns n t) are.flat) in
      subst P (sym (append-nil cs)) (subst Q (sym (append-nil (type_leaves t t))) (flat-pieces cs (type_leaves t t) tables es pieces each are.pieces))

  pub put : (left : List ColumnPiece) (r : Result ColumnPiece Error) → IfOk r (λ p. Builds t t pieces left (boxed p.values) p.nested) → IfOk r (IsBeneath above n t tables es)
  put left (Err e) h = tt
  put left (Ok p) h =
      let made = built t t n above [] [] tables es pieces left (boxed p.values) p.nested refl are.full h flat-are in
      let sp = made.split in
      let none = no-pieces sp.rest sp.rest_entries left sp.behind in
      let tables-are : tables ≡ sp.first = sp.tables_are ∙ ap (λ xs. sp.first ++ xs) none.0 ∙ append-nil sp.first in
      let entries-are : es ≡ sp.first_entries = sp.entries_are ∙ ap (λ xs. sp.first_entries ++ xs) none.1 ∙ append-nil sp.first_entries in
      let S : List (List Triple) → Type 0 = λ xs. AllStood above (type_columns n t) xs p.nested (array_slot (boxed p.values)) (tree_len (boxed p.values)) in
      record { typed = made.typed; aligned = made.aligned; stood = subst S (sym tables-are) sp.stood; entries = made.entries ∙ sym entries-are }

  pub not-put : ItemsAreCounted → (r : Result ColumnPiece Error) → IfErr r (Fails t t pieces) → IfErr r (CannotJoinColumns (HasFixedList t) (columns_beneath above n t) tables)
  not-put counted (Ok p) h = tt
  not-put counted (Err e) h =
      let cs : List ArrowColumn = map (raised above) (type_columns n t) in
      let C : List ArrowColumn → Type 0 = λ ds. CannotJoinColumns (HasFixedList t) ds tables e in
      subst C (append-nil cs) (failed counted t t n above [] [] tables es pieces e refl are.full h flat-are)
