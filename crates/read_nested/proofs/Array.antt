-- The array that is put together of all pieces of a field is the field's.
use Rattle.std.proofs.Common.{◌≡◌, ℕ, true, List, [], ◌∷◌, ◌++◌, map, All, refl, arith, ap, sym, ◌∙◌, subst, append-nil}
use Rattle.std.specs.List.{AllByRecursion as Each, AllZip}
use Rattle.std.proofs.lemmas.List.Elements.{recursion_from_All, All-from_recursion}
use Rattle.shredding.specs.Along.{IsAlong, along, thin}
use Rattle.shredding.specs.Local.{IsWithin}
use Rattle.shredding.specs.Parts.{slots_from}
use Rattle.shredding.specs.Shape.{Way, IsOf, HasNoEmptyStruct}
use Rattle.shredding.specs.Shred.{Triple, column}
use Rattle.shredding.specs.Slot.{Slot}
use Rattle.shredding.proofs.Along.{seen_along}
use Rattle.columns_core.specs.Shapes.{type_shape, shape_of}
use Rattle.columns_core.specs.Tree.{TypeTree, FieldTree, field}
use Rattle.columns_slots.specs.Loose.{loose}
use Rattle.columns_slots.specs.Slots.{slot_at as array_slot, tree_len, slots, type_of}
use Rattle.columns_slots.specs.Tree.{ArrayTree}
use Rattle.read_laws.specs.Column.{slot_of}
use Rattle.read_laws.specs.State.{Kept, kept_leaf, kept_list, kept_struct, kept_way, kept_slot, kept_slots, count}
use Rattle.read_pieces.specs.Pieces.{leaf_types, ArePiecesOf}
use Rattle.read_pieces.specs.declared.piece.ColumnPiece.{ColumnPiece}
use Rattle.pq_headline.specs.Columns.{ArrowColumn, field_columns, type_columns}
use Rattle.read_nested.specs.Above.{raised}
use Rattle.read_nested.specs.Builds.{BuildsField}
use Rattle.read_nested.specs.Joined.{IsArrayOf, HasFlatEntries, HaveFlatEntries}
use Rattle.read_nested.proofs.Built.{Entries, AreFlatPieces, flat-pieces, built}
use Rattle.read_nested.proofs.Goes.{kept-along}
use Rattle.read_nested.proofs.Keeps.{slots-along}
use Rattle.read_nested.proofs.Slots.{IsReached, is-of, loose-same, each-both}
use Rattle.read_nested.proofs.Stood.{Aligned, IsStood, AllStood}

pub no-front : (front : List Kept) → Aligned front [] → front ≡ []
no-front [] h = refl
no-front (kept_leaf n c ∷ front) h = absurd h
no-front (kept_list m c ∷ front) h = absurd h
no-front (kept_struct m c ∷ front) h = absurd h

pub raised-none : (cs : List ArrowColumn) → map (raised []) cs ≡ cs
raised-none [] = refl
raised-none (c ∷ cs) = ap (λ ds. c ∷ ds) (raised-none cs)

pub no-pieces : (rest : List (List Triple)) (es : List Entries) (left : List ColumnPiece) → AreFlatPieces [] [] rest es left → (rest ≡ []) × (es ≡ [])
no-pieces [] [] left h = (refl, refl)
no-pieces [] (e ∷ es) left h = absurd h
no-pieces (ts ∷ rest) es left h = absurd h

-- ---- one column
module _ (c : ArrowColumn) (ts : List Triple) (a : ArrayTree) (s : IsStood [] c ts [] (array_slot a) (tree_len a)) where
  seen-slots : kept_slots (slot_of s.leaf) s.state ≡ map (along c.way) (slots a)
  unfolding kept_slots
  seen-slots =
      let K : List Kept → List Slot = λ ks. slots_from (kept_slot (slot_of s.leaf) ks) 0 (count ks) in
      let N : ℕ → List Slot = λ n. slots_from (kept_slot (slot_of s.leaf) s.back) 0 n in
      ap K s.parts ∙ ap N s.stands.count ∙ slots-along (kept_slot (slot_of s.leaf) s.back) (array_slot a) c.way 0 (tree_len a) (λ i h g. s.stands.seen i (omega arith))

  stood-column : column c.way (slots a) ≡ ts
  stood-column = sym (seen_along c.way (slots a)) ∙ ap (column (thin c.way)) (sym seen-slots) ∙ ap (λ w. column w (kept_slots (slot_of s.leaf) s.state)) (sym s.is.way) ∙ s.is.column

  stood-reached : Each (λ x. IsReached x c) (slots a)
  stood-reached =
      let within : Each (IsWithin c.way) (column (kept_way s.state) (kept_slots (slot_of s.leaf) s.state)) = let W : List Triple → Type 0 = λ us. Each (IsWithin c.way) us in subst W (sym s.is.column) (recursion_from_All (IsWithin c.way) ts s.is.within) in
      let goes = kept-along c.way (slot_of s.leaf) s.state s.is.fits s.flat s.is.way within in
      let W : Way → Type 0 = λ w. Each (IsAlong w) (kept_slots (slot_of s.leaf) s.state) in
      let S : List Slot → Type 0 = λ xs. Each (IsAlong (thin c.way)) xs in
      reached (slots a) (subst S seen-slots (subst W s.is.way goes))
    where
      reached : (xs : List Slot) → Each (IsAlong (thin c.way)) (map (along c.way) xs) → Each (λ x. IsReached x c) xs
      reached [] h = tt
      reached (x ∷ xs) h = (record { goes = h.0; plain = s.plain }, reached xs h.1)

-- ---- all columns
all-columns : (cs : List ArrowColumn) (tables : List (List Triple)) (a : ArrayTree) → AllStood [] cs tables [] (array_slot a) (tree_len a) → AllZip (λ c ts. column c.way (slots a) ≡ ts) cs tables
all-columns [] [] a s = tt
all-columns [] (ts ∷ tables) a s = absurd s
all-columns (c ∷ cs) [] a s = absurd s
all-columns (c ∷ cs) (ts ∷ tables) a s = (stood-column c ts a s.0, all-columns cs tables a s.1)

each-none : (xs : List Slot) → Each (λ x. Each (IsReached x) []) xs
each-none [] = tt
each-none (x ∷ xs) = (tt, each-none xs)

all-reached : (cs : List ArrowColumn) (tables : List (List Triple)) (a : ArrayTree) → AllStood [] cs tables [] (array_slot a) (tree_len a) → Each (λ x. Each (IsReached x) cs) (slots a)
all-reached [] [] a s = each-none (slots a)
all-reached [] (ts ∷ tables) a s = absurd s
all-reached (c ∷ cs) [] a s = absurd s
all-reached (c ∷ cs) (ts ∷ tables) a s = each-both (λ x. IsReached x c) (λ x. Each (IsReached x) cs) (λ x. IsReached x c × Each (IsReached x) cs) (λ x g h. (g, h)) (slots a) (stood-reached c ts a s.0) (all-reached cs tables a s.1)

pub array-of : (f : FieldTree) (tables : List (List Triple)) (es : List Entries) (pieces left : List ColumnPiece) (a : ArrayTree) (front : List Kept) →
    HasNoEmptyStruct (shape_of f) → HaveFlatEntries f → BuildsField f pieces left a front → ArePiecesOf (field_columns f) (leaf_types f) tables es pieces → All (IsOf (loose (type_shape true (type_of a)))) (slots a) → IsArrayOf f tables es a
array-of (field n t b md) tables es pieces left a front full flat bs are kinds =
    let cs : List ArrowColumn = type_columns b t in
    let f = field n t b md in
    let P : List ArrowColumn → Type 0 = λ ds. AreFlatPieces ds (leaf_types f ++ []) tables es pieces in
    let Q : List TypeTree → Type 0 = λ ts. AreFlatPieces cs ts tables es pieces in
    let are' : P (map (raised []) cs ++ []) = subst P (sym (append-nil (map (raised []) cs) ∙ raised-none cs)) (subst Q (sym (append-nil (leaf_types f))) (flat-pieces cs (leaf_types f) tables es pieces (recursion_from_All (λ c. HasFlatEntries c.data_type) cs flat) are)) in
    let made = built t t b [] [] [] tables es pieces left a front refl full bs are' in
    let sp = made.split in
    let none = no-pieces sp.rest sp.rest_entries left sp.behind in
    let tables-are : tables ≡ sp.first = sp.tables_are ∙ ap (λ xs. sp.first ++ xs) none.0 ∙ append-nil sp.first in
    let entries-are : es ≡ sp.first_entries = sp.entries_are ∙ ap (λ xs. sp.first_entries ++ xs) none.1 ∙ append-nil sp.first_entries in
    let F : List Kept → Type 0 = λ ks. AllStood [] cs sp.first ks (array_slot a) (tree_len a) in
    let stood : AllStood [] cs sp.first [] (array_slot a) (tree_len a) = subst F (no-front front made.aligned) sp.stood in
    let Z : List (List Triple) → Type 0 = λ xs. AllZip (λ c ts. column c.way (slots a) ≡ ts) cs xs in
    let K : TypeTree → Type 0 = λ u. All (IsOf (loose (type_shape true u))) (slots a) in
    let loose-kinds : All (IsOf (loose (type_shape true t))) (slots a) = subst K made.typed kinds in
    let L : _ → Type 0 = λ shape. Each (IsOf shape) (slots a) in
    let kinds' : Each (IsOf (loose (type_shape b t))) (slots a) = subst L (loose-same true b t) (recursion_from_All (IsOf (loose (type_shape true t))) (slots a) loose-kinds) in
    record {
      typed = made.typed;
      slots_are = All-from_recursion (IsOf (type_shape b t)) (slots a) (each-both (IsOf (loose (type_shape b t))) (λ x. Each (IsReached x) cs) (IsOf (type_shape b t)) (is-of b t full) (slots a) kinds' (all-reached cs sp.first a stood));
      columns = subst Z (sym tables-are) (all-columns cs sp.first a stood);
      entries = made.entries ∙ sym entries-are;
    }
