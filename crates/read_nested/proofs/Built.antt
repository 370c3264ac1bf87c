-- What is put together of pieces stands for the pieces' columns.
use Rattle.std.proofs.Common.{◌≡◌, ℕ, zero, suc, ◌+◌, ◌<◌, Bool, true, false, is_some, Option, Some, None, MatchOption, List, [], ◌∷◌, ◌++◌, map, length, get_or, refl, arith, ap, sym, ◌∙◌, subst, cond, append_assoc, zero-add}
use Rattle.std.specs.List.{AllByRecursion as Each}
use Rattle.std.proofs.lemmas.List.{map-append}
use Rattle.shredding.specs.Along.{along, thin}
use Rattle.shredding.specs.Shape.{at_leaf, struct, HasNoEmptyStruct, HaveNoEmptyStruct}
use Rattle.shredding.specs.Shred.{Triple}
use Rattle.shredding.specs.Slot.{Value, Slot, Slots, null, value, fields, slot_at}
use Rattle.shredding.specs.Parts.{keeps, slots_from, MaskFits}
use Rattle.columns_core.specs.Shapes.{base, type_shape, shapes_of}
use Rattle.columns_core.specs.Meta.{Meta}
use Rattle.columns_core.specs.Tree.{TypeTree, t_list, t_fixed_size_list, t_large_list, t_struct, t_map, t_dictionary, t_extension, field, FieldTrees, no_fields, more_fields}
use Rattle.columns_slots.specs.Slots.{masked, entry_at, slot_at as array_slot, slots_at, tree_len, first_len, count_arrays, slots, type_of, IsSound, AreTyped}
use Rattle.columns_slots.specs.Tree.{ArrayTree, null_array, leaf_array, list_array, fixed_list_array, struct_array, dictionary_array, ArrayTrees, no_arrays, more_arrays}
use Rattle.columns_slots.specs.Types.{list_item, fixed_item, part_types, entry_type}
use Rattle.columns_array.specs.Boxed.{boxed}
use Rattle.columns_array.specs.Fits.{FitParts}
use Rattle.read_laws.specs.Column.{slot_of}
use Rattle.read_laws.specs.State.{Kept, kept_leaf, kept_list, kept_struct, leaf_count, StateFits}
use Rattle.read_pieces.specs.Pieces.{type_leaves, leaf_types, all_leaf_types, IsPieceOf, ArePiecesOf}
use Rattle.read_pieces.specs.declared.piece.ColumnPiece.{ColumnPiece}
use Rattle.pq_headline.specs.Arrays.{entries_in, all_entries}
use Rattle.pq_headline.specs.Columns.{ArrowColumn, beneath_list, beneath_struct, has_no_parts, small_limit, large_limit, leaf_column, type_columns, field_columns, columns_from}
use Rattle.read_nested.specs.Above.{Above, above_list, above_struct, raised}
use Rattle.read_nested.specs.Builds.{Builds, BuildsAll, BuildsLeaf}
use Rattle.read_nested.specs.Joined.{HasFlatEntries}
use Rattle.read_nested.specs.Keeps.{IsFlat, list_of_part}
use Rattle.read_nested.specs.Made.{innermost, IsPopped, IsListOf, IsStructOf, kind_of, MakesKind}
use Rattle.read_nested.proofs.Keeps.{leaves-kept}
use Rattle.read_nested.proofs.Stood.{raised-list, raised-struct, raised-way, raised-type, Aligned, list-end, struct-end, innermost-end, leaf-end, last-same, leaf_count-end, IsStood, AllStood, list-all, struct-all, stood-append, stood-back, IsListEnd, IsStructEnd}

-- the entries of a column's dictionary, if it has one
abbrev pub Entries : Type 0
Entries = Option (List (Option Value))

-- the piece of a column whose dictionary's entries, if it has one, have nothing inside them
pub record IsFlatPiece (c : ArrowColumn) (t : TypeTree) (ts : List Triple) (e : Entries) (p : ColumnPiece) : Type 0 where
  pub piece : IsPieceOf c t ts e p
  pub flat : HasFlatEntries c.data_type

-- one for each column
abbrev pub AreFlatPieces : List ArrowColumn → List TypeTree → List (List Triple) → List Entries → List ColumnPiece → Type 0
AreFlatPieces [] [] [] [] [] = Unit {0}
AreFlatPieces (c ∷ cs) (t ∷ types) (ts ∷ tables) (e ∷ es) (p ∷ ps) = IsFlatPiece c t ts e p × AreFlatPieces cs types tables es ps
AreFlatPieces _ _ _ _ _ = ⊥

pub flat-pieces : (cs : List ArrowColumn) (types : List TypeTree) (tables : List (List Triple)) (es : List Entries) (ps : List ColumnPiece) → Each (λ c. HasFlatEntries c.data_type) cs → ArePiecesOf cs types tables es ps → AreFlatPieces cs types tables es ps
flat-pieces [] [] [] [] [] f h = tt
flat-pieces [] [] [] [] (p ∷ ps) f h = absurd h
flat-pieces [] [] [] (e ∷ es) ps f h = absurd h
flat-pieces [] [] (ts ∷ tables) es ps f h = absurd h
flat-pieces [] (t ∷ types) tables es ps f h = absurd h
flat-pieces (c ∷ cs) [] tables es ps f h = absurd h
flat-pieces (c ∷ cs) (t ∷ types) [] es ps f h = absurd h
flat-pieces (c ∷ cs) (t ∷ types) (ts ∷ tables) [] ps f h = absurd h
flat-pieces (c ∷ cs) (t ∷ types) (ts ∷ tables) (e ∷ es) [] f h = absurd h
flat-pieces (c ∷ cs) (t ∷ types) (ts ∷ tables) (e ∷ es) (p ∷ ps) f h = (record { piece = h.0; flat = f.0 }, flat-pieces cs types tables es ps f.1 h.1)

-- ---- a leaf's array
masked-flat : (b : Bool) (v : Value) → IsFlat (cond b (value v) null)
masked-flat true v = tt
masked-flat false v = tt

no-parts : (cs : ArrayTrees) → AreTyped no_fields cs → 0 < count_arrays cs → ⊥
no-parts no_arrays h some = omega (arith, some)
no-parts (more_arrays c cs) h some = h

-- a type that has nothing inside it but a dictionary's entries, and these have nothing
pub record IsLeafType (t : TypeTree) : Type 0 where
  pub list : list_item t ≡ None
  pub fixed : fixed_item t ≡ None
  pub parts : part_types t ≡ no_fields
  pub entries : HasFlatEntries t

-- arrays of such a type have flat slots
entries-leaf : (t u : TypeTree) → HasFlatEntries t → entry_type t ≡ Some u → has_no_parts (base u) ≡ true
entries-leaf (t_dictionary k v s) u h e = let q : v ≡ u = cc in rw q at h
entries-leaf t u h e = absurd (cc)

leaf-type : (t : TypeTree) → has_no_parts t ≡ true → IsLeafType t
leaf-type (t_list f) h = absurd (cc)
leaf-type (t_large_list f) h = absurd (cc)
leaf-type (t_fixed_size_list f n) h = absurd (cc)
leaf-type (t_map f k) h = absurd (cc)
leaf-type (t_struct fs) h = absurd (cc)
leaf-type (t_dictionary k v s) h = absurd (cc)
leaf-type t h = record { list = refl; fixed = refl; parts = refl; entries = tt }

flat-masked : (b : Bool) (s : Slot) → IsFlat s → IsFlat (cond b s null)
flat-masked true s h = h
flat-masked false s h = tt

leaf-array : (a : ArrayTree) (t : TypeTree) → IsSound a → base (type_of a) ≡ t → IsLeafType t → (i : ℕ) → IsFlat (array_slot a i)
leaf-array (null_array u n) t s b k i = tt
leaf-array (leaf_array u vs m) t s b k i = masked-flat (keeps m i) _
leaf-array (list_array u os c m) t s b k i = let h = s.3 in let l = k.list in absurd (cc (h, b, l))
leaf-array (fixed_list_array u w n c m) t s b k i = let h = s.3 in let f = k.fixed in absurd (cc (h, b, f))
leaf-array (struct_array u cs m) t s b k i =
    let P : FieldTrees → Type 0 = λ fs. AreTyped fs cs in
    let h : AreTyped no_fields cs = subst P (ap part_types b ∙ k.parts) s.2 in
    absurd (no-parts cs h s.3)
leaf-array (dictionary_array u ks c m) t s b k i =
    let e : entry_type t ≡ Some (type_of c) = ap entry_type (sym b) ∙ s.2 in
    flat-masked (keeps m i) _ (leaf-array c (base (type_of c)) s.1 refl (leaf-type (base (type_of c)) (entries-leaf t (type_of c) k.entries e)) (entry_at ks i))

nth : (f : ℕ → Slot) (place n i : ℕ) (d : Slot) → i < n → get_or (slots_from f place n) i d ≡ f (place + i)
unfolding slots_from
nth f place zero i d h = absurd (omega (arith, h))
nth f place (suc n) zero d h = let e : place ≡ place + 0 = omega arith in ap f e
nth f place (suc n) (suc i) d h = let e : place + 1 + i ≡ place + suc i = omega arith in nth f (place + 1) n i d (omega arith) ∙ ap f e

counted : (f : ℕ → Slot) (place n : ℕ) → length (slots_from f place n) ≡ n
unfolding slots_from
counted f place zero = refl
counted f place (suc n) = let e = counted f (place + 1) n in omega (arith, e)

slot-of : (a : ArrayTree) (i : ℕ) → i < tree_len a → slot_of (slots a) i ≡ array_slot a i
slot-of a i h = rw zero-add at (nth (array_slot a) 0 (tree_len a) i null h)

-- ---- the columns of the first pieces, which stand for these slots
pub record IsSplit (above : List Above) (cs others : List ArrowColumn) (types : List TypeTree) (tables : List (List Triple)) (es : List Entries) (left : List ColumnPiece) (front : List Kept) (at : ℕ → Slot) (n : ℕ) : Type 0 where
  pub first : List (List Triple)
  pub rest : List (List Triple)
  pub tables_are : tables ≡ first ++ rest
  pub first_entries : List Entries
  pub rest_entries : List Entries
  pub entries_are : es ≡ first_entries ++ rest_entries
  pub stood : AllStood above cs first front at n
  pub behind : AreFlatPieces others types rest rest_entries left

-- an array of the type that stands for its columns
pub record IsBuilt (above : List Above) (own : TypeTree) (cs others : List ArrowColumn) (types : List TypeTree) (tables : List (List Triple)) (es : List Entries) (left : List ColumnPiece) (front : List Kept) (a : ArrayTree) : Type 0 where
  pub split : IsSplit above cs others types tables es left front (array_slot a) (tree_len a)
  pub aligned : Aligned front above
  pub typed : type_of a ≡ own
  pub entries : entries_in a ≡ split.first_entries

popped-leaf : (old front : List Kept) → (old ≡ [] → ⊥) → IsPopped old front → (k : Kept) × (old ≡ front ++ k ∷ [])
popped-leaf old front some h = go (innermost old) h
  where
    go : (o : Option Kept) → MatchOption o ((old ≡ []) × (front ≡ [])) (λ part. old ≡ front ++ part ∷ []) → (k : Kept) × (old ≡ front ++ k ∷ [])
    go None h = absurd (some h.0)
    go (Some k) h = (k, h)

not-empty : (ks : List Kept) → StateFits ks → ks ≡ [] → ⊥
not-empty [] f e = f
not-empty (k ∷ ks) f e = absurd (cc)

leaf-stood : (above : List Above) (b : Bool) (t own : TypeTree) (ts : List Triple) (es : Entries) (p : ColumnPiece) (front : List Kept) →
    IsFlatPiece (raised above (record { way = at_leaf b; limits = []; data_type = t })) own ts es p → IsPopped p.nested front → IsSound (boxed p.values) → base own ≡ t → list_item t ≡ None → fixed_item t ≡ None → part_types t ≡ no_fields →
    (IsStood above (record { way = at_leaf b; limits = []; data_type = t }) ts front (array_slot (boxed p.values)) (tree_len (boxed p.values))) × Aligned front above
leaf-stood above b t own ts es p front piece popped sound e l f q =
    let col : ArrowColumn = record { way = at_leaf b; limits = []; data_type = t } in
    let a : ArrayTree = boxed p.values in
    let is = piece.piece.is in
    let fits = is.fits in
    let end = leaf-end p.nested above b fits (is.way ∙ ap thin (raised-way above col)) in
    let k = popped-leaf p.nested front (not-empty p.nested fits) popped in
    let both : front ++ k.0 ∷ [] ≡ end.front ++ kept_leaf b end.size ∷ [] = sym k.1 ∙ end.parts in
    let same = last-same front end.front k.0 (kept_leaf b end.size) both in
    let flat-entries : HasFlatEntries t = subst HasFlatEntries (raised-type above col) piece.flat in
    let F : List Kept → Type 0 = λ ks. StateFits ks in
    let size : leaf_count p.nested ≡ end.size = ap leaf_count end.parts ∙ leaf_count-end end.front b end.size (subst F end.parts fits) in
    let len : end.size ≡ tree_len a = sym size ∙ sym is.decoded ∙ counted (array_slot a) 0 (tree_len a) in
    let at-leaf : (i : ℕ) → i < tree_len a → IsFlat (slot_of (slots a) i) = λ i h. rw (slot-of a i h) (leaf-array a t sound (ap base piece.piece.typed ∙ e) (record { list = l; fixed = f; parts = q; entries = flat-entries }) i) in
    let made = leaves-kept (slot_of (slots a)) b end.size (λ i h. at-leaf i (omega (arith, len))) in
    let A : List Kept → Type 0 = λ ks. Aligned ks above in (
      record {
        leaf = slots a;
        state = p.nested;
        is = is;
        back = kept_leaf b end.size ∷ [];
        some = omega arith;
        parts = rw same.0 end.parts;
        stands = record { way = refl; count = len; seen = λ i h. made.seen i (omega (arith, len)) ∙ ap (along (at_leaf b)) (slot-of a i h) };
        flat = λ i h. at-leaf i (omega (arith, len, size));
        plain = flat-entries;
      },
      subst A (sym same.0) end.aligned,
    )

leaf-built : (above : List Above) (b : Bool) (t own : TypeTree) (others : List ArrowColumn) (types : List TypeTree) (tables : List (List Triple)) (es : List Entries) (pieces left : List ColumnPiece) (a : ArrayTree) (front : List Kept) →
    base own ≡ t → list_item t ≡ None → fixed_item t ≡ None → part_types t ≡ no_fields → BuildsLeaf pieces left a front → AreFlatPieces (raised above (record { way = at_leaf b; limits = []; data_type = t }) ∷ others) (own ∷ types) tables es pieces →
    IsBuilt above own (leaf_column b t) others types tables es left front a
leaf-built above b t own others types [] es pieces left a front e l f q h are = absurd are
leaf-built above b t own others types (ts ∷ tables) [] pieces left a front e l f q h are = absurd are
leaf-built above b t own others types (ts ∷ tables) (en ∷ es) pieces left a front e l f q h are =
    let p = h.0 in
    let P : List ColumnPiece → Type 0 = λ ps. AreFlatPieces (raised above (record { way = at_leaf b; limits = []; data_type = t }) ∷ others) (own ∷ types) (ts ∷ tables) (en ∷ es) ps in
    let are' : P (p ∷ left) = subst P h.1 are in
    let S : ArrayTree → Type 0 = λ c. IsSound c in
    let stood = leaf-stood above b t own ts en p front are'.0 h.2 (subst S h.3 h.4) e l f q in
    let B : ArrayTree → Type 0 = λ c. IsBuilt above own (leaf_column b t) others types (ts ∷ tables) (en ∷ es) left front c in
    let built : B (boxed p.values) = record {
      split = record { first = ts ∷ []; rest = tables; tables_are = refl; first_entries = en ∷ []; rest_entries = es; entries_are = refl; stood = (stood.0, tt); behind = are'.1 };
      aligned = stood.1;
      typed = are'.0.piece.typed;
      entries = are'.0.piece.entries;
    } in
    subst B (sym h.3) built

some-map : (cs : List ArrowColumn) (f : ArrowColumn → ArrowColumn) → (cs ≡ [] → ⊥) → map f cs ≡ [] → ⊥
some-map [] f some e = some refl
some-map (c ∷ cs) f some e = absurd (cc)

some-front : (cs ds : List ArrowColumn) → (cs ≡ [] → ⊥) → cs ++ ds ≡ [] → ⊥
some-front [] ds some e = some refl
some-front (c ∷ cs) ds some e = absurd (cc)

-- ---- lists
pub popped-list : (own : TypeTree) (old front : List Kept) (items a : ArrayTree) (above : List Above) (n : Bool) → IsListEnd old above n → IsPopped old front → IsListOf own (innermost old) items a →
    (m : Option (List Bool)) × (starts : List ℕ) × (old ≡ front ++ kept_list m starts ∷ []) × (is_some m ≡ n) × Aligned front above × (a ≡ list_of_part own m starts items)
popped-list own old front items a above n end popped made =
    let o : innermost old ≡ Some (kept_list end.mask end.starts) = ap innermost end.parts ∙ innermost-end end.front (kept_list end.mask end.starts) in
    let P : Option Kept → Type 0 = λ v. MatchOption v ((old ≡ []) × (front ≡ [])) (λ part. old ≡ front ++ part ∷ []) in
    let M : Option Kept → Type 0 = λ v. IsListOf own v items a in
    let old-is : old ≡ front ++ kept_list end.mask end.starts ∷ [] = subst P o popped in
    let same = last-same front end.front (kept_list end.mask end.starts) (kept_list end.mask end.starts) (sym old-is ∙ end.parts) in
    let A : List Kept → Type 0 = λ ks. Aligned ks above in
    (end.mask, end.starts, old-is, end.nullable, subst A (sym same.0) end.aligned, subst M o made)

list-built : (above : List Above) (b : Bool) (l : ℕ) (own item : TypeTree) (cs others : List ArrowColumn) (types : List TypeTree) (tables : List (List Triple)) (es : List Entries) (left : List ColumnPiece) (old front : List Kept) (items a : ArrayTree) →
    IsBuilt (above ++ above_list b l ∷ []) item cs others types tables es left old items → IsPopped old front → IsListOf own (innermost old) items a →
    IsBuilt above own (map (beneath_list b l) cs) others types tables es left front a
list-built above b l own item cs others types tables es left old front items a built popped made =
    let p = popped-list own old front items a above b (list-end old above b l built.aligned) popped made in
    let sp = built.split in
    let S : List Kept → Type 0 = λ ks. AllStood (above ++ above_list b l ∷ []) cs sp.first ks (array_slot items) (tree_len items) in
    let stood = list-all above b l cs sp.first front own p.0 p.1 items p.3 (subst S p.2 sp.stood) in
    let B : ArrayTree → Type 0 = λ c. IsBuilt above own (map (beneath_list b l) cs) others types tables es left front c in
    let whole : B (list_of_part own p.0 p.1 items) = record {
      split = record { first = sp.first; rest = sp.rest; tables_are = sp.tables_are; first_entries = sp.first_entries; rest_entries = sp.rest_entries; entries_are = sp.entries_are; stood = stood; behind = sp.behind };
      aligned = p.4;
      typed = refl;
      entries = built.entries;
    } in
    subst B (sym p.5) whole

-- ---- structs
pub record AreBuilt (above : List Above) (fs : FieldTrees) (cs others : List ArrowColumn) (types : List TypeTree) (tables : List (List Triple)) (es : List Entries) (left : List ColumnPiece) (front : List Kept) (m : Option (List Bool)) (c : ℕ) (children : ArrayTrees) (whole : ℕ → Slots) : Type 0 where
  pub split : IsSplit above cs others types tables es left front (λ k. masked m k (fields (whole k))) c
  pub fit : FitParts c fs children
  pub entries : all_entries children ≡ split.first_entries

-- the array is as long as the struct's part says
pub child-len : (above : List Above) (cs : List ArrowColumn) (tables : List (List Triple)) (front : List Kept) (m : Option (List Bool)) (c : ℕ) (at : ℕ → Slot) (n : ℕ) → (cs ≡ [] → ⊥) → AllStood above cs tables (front ++ kept_struct m c ∷ []) at n → n ≡ c
child-len above [] tables front m c at n some s = absurd (some refl)
child-len above (d ∷ cs) [] front m c at n some s = absurd s
child-len above (d ∷ cs) (ts ∷ tables) front m c at n some s =
    let f = stood-back above d ts front (kept_struct m c) at n s.0 in sym s.0.stands.count ∙ f.1

-- a field without empty structs has a column
mutual
  pub some-columns : (b : Bool) (t : TypeTree) → HasNoEmptyStruct (type_shape b t) → type_columns b t ≡ [] → ⊥
  some-columns b (t_list (field n t c md)) h e = some-map (field_columns (field n t c md)) _ (some-columns c t h) e
  some-columns b (t_large_list (field n t c md)) h e = some-map (field_columns (field n t c md)) _ (some-columns c t h) e
  some-columns b (t_fixed_size_list (field n t c md) k) h e = some-map (field_columns (field n t c md)) _ (some-columns c t h) e
  some-columns b (t_map (field n t c md) s) h e = some-map (field_columns (field n t c md)) _ (some-columns c t h) e
  some-columns b (t_struct no_fields) h e = h
  some-columns b (t_struct (more_fields (field n t c md) fs)) h e = some-front (map (beneath_struct b zero) (field_columns (field n t c md))) _ (some-map (field_columns (field n t c md)) _ (some-columns c t h.0)) e
  some-columns b (t_extension n t md) h e = some-columns b t h e
  some-columns b t h e = absurd (cc)

-- ---- the pieces of a struct's child are those of its columns
pub first-columns : (above : List Above) (b : Bool) (place : ℕ) (cs ds others : List ArrowColumn) → map (raised above) (map (beneath_struct b place) cs ++ ds) ++ others ≡ map (raised (above ++ above_struct b place ∷ [])) cs ++ (map (raised above) ds ++ others)
first-columns above b place cs ds others =
    let A : List Above = above ++ above_struct b place ∷ [] in
    ap (λ xs. xs ++ others) (map-append (raised above) (map (beneath_struct b place) cs) ds ∙ ap (λ xs. xs ++ map (raised above) ds) (raised-struct above b place cs)) ∙ append_assoc (map (raised A) cs) (map (raised above) ds) others

pub first-pieces : (above : List Above) (b : Bool) (place : ℕ) (cs ds others : List ArrowColumn) (us vs types : List TypeTree) (tables : List (List Triple)) (es : List Entries) (pieces : List ColumnPiece) →
    AreFlatPieces (map (raised above) (map (beneath_struct b place) cs ++ ds) ++ others) ((us ++ vs) ++ types) tables es pieces →
    AreFlatPieces (map (raised (above ++ above_struct b place ∷ [])) cs ++ (map (raised above) ds ++ others)) (us ++ (vs ++ types)) tables es pieces
first-pieces above b place cs ds others us vs types tables es pieces are =
    let A : List Above = above ++ above_struct b place ∷ [] in
    let e = first-columns above b place cs ds others in
    let P : List ArrowColumn → Type 0 = λ xs. AreFlatPieces xs ((us ++ vs) ++ types) tables es pieces in
    let Q : List TypeTree → Type 0 = λ xs. AreFlatPieces (map (raised A) cs ++ (map (raised above) ds ++ others)) xs tables es pieces in
    subst Q (append_assoc us vs types) (subst P e are)

child-built : (above : List Above) (b : Bool) (place : ℕ) (n : List ℕ) (t : TypeTree) (c : Bool) (md : Meta) (fs : FieldTrees) (cs ds others : List ArrowColumn) (types later : List TypeTree) (tables : List (List Triple)) (es : List Entries) (behind left : List ColumnPiece) (child : ArrayTree) (children : ArrayTrees) (old front : List Kept) (m : Option (List Bool)) (size : ℕ) (whole : ℕ → Slots) →
    old ≡ front ++ kept_struct m size ∷ [] → is_some m ≡ b → (cs ≡ [] → ⊥) → (first : IsBuilt (above ++ above_struct b place ∷ []) t cs (map (raised above) ds ++ others) later tables es behind old child) → AreBuilt above fs ds others types first.split.rest first.split.rest_entries left front m size children whole →
    ((k : ℕ) → slot_at (whole k) place ≡ array_slot child k) → AreBuilt above (more_fields (field n t c md) fs) (map (beneath_struct b place) cs ++ ds) others types tables es left front m size (more_arrays child children) whole
child-built above b place n t c md fs cs ds others types later tables es behind left child children old front m size whole parts nullable some first rest here =
    let A : List Above = above ++ above_struct b place ∷ [] in
    let f = first.split in
    let r = rest.split in
    let S : List Kept → Type 0 = λ ks. AllStood A cs f.first ks (array_slot child) (tree_len child) in
    let stood0 : S (front ++ kept_struct m size ∷ []) = subst S parts f.stood in
    let len : tree_len child ≡ size = child-len A cs f.first front m size (array_slot child) (tree_len child) some stood0 in
    let N : ℕ → Type 0 = λ k. AllStood A cs f.first (front ++ kept_struct m size ∷ []) (array_slot child) k in
    let stood = struct-all above b place cs f.first front m size (array_slot child) whole nullable here (subst N len stood0) in
    let tables_are : tables ≡ (f.first ++ r.first) ++ r.rest = f.tables_are ∙ ap (λ xs. f.first ++ xs) r.tables_are ∙ sym (append_assoc f.first r.first r.rest) in
    let entries_are : es ≡ (f.first_entries ++ r.first_entries) ++ r.rest_entries = f.entries_are ∙ ap (λ xs. f.first_entries ++ xs) r.entries_are ∙ sym (append_assoc f.first_entries r.first_entries r.rest_entries) in
    let both : entries_in child ++ all_entries children ≡ f.first_entries ++ r.first_entries = rw (first.entries, rest.entries) refl in
    record {
      split = record { first = f.first ++ r.first; rest = r.rest; tables_are = tables_are; first_entries = f.first_entries ++ r.first_entries; rest_entries = r.rest_entries; entries_are = entries_are; stood = stood-append above (map (beneath_struct b place) cs) ds f.first r.first front (λ k. masked m k (fields (whole k))) size stood r.stood; behind = r.behind };
      fit = (sym first.typed, len, rest.fit);
      entries = both;
    }

pub fit-len : (b : Bool) (size : ℕ) (fs : FieldTrees) (children : ArrayTrees) → HasNoEmptyStruct (struct b (shapes_of fs)) → FitParts size fs children → first_len children ≡ size
fit-len b size no_fields children s h = absurd s
fit-len b size (more_fields (field n t c md) fs) no_arrays s h = absurd h
fit-len b size (more_fields (field n t c md) fs) (more_arrays child children) s h = h.1

pub all-full : (b : Bool) (fs : FieldTrees) → HasNoEmptyStruct (struct b (shapes_of fs)) → HaveNoEmptyStruct (shapes_of fs)
all-full b no_fields h = tt
all-full b (more_fields f fs) h = h

popped-struct : (own : TypeTree) (old front : List Kept) (children : ArrayTrees) (a : ArrayTree) (above : List Above) (n : Bool) (end : IsStructEnd old above n) → IsPopped old front → IsStructOf own (innermost old) children a → (front ≡ end.front) × (a ≡ struct_array own children end.mask)
popped-struct own old front children a above n end popped made =
    let o : innermost old ≡ Some (kept_struct end.mask end.size) = ap innermost end.parts ∙ innermost-end end.front (kept_struct end.mask end.size) in
    let P : Option Kept → Type 0 = λ v. MatchOption v ((old ≡ []) × (front ≡ [])) (λ part. old ≡ front ++ part ∷ []) in
    let M : Option Kept → Type 0 = λ v. IsStructOf own v children a in
    let old-is : old ≡ front ++ kept_struct end.mask end.size ∷ [] = subst P o popped in
    let same = last-same front end.front (kept_struct end.mask end.size) (kept_struct end.mask end.size) (sym old-is ∙ end.parts) in
    (same.0, subst M o made)

struct-built : (above : List Above) (b : Bool) (own : TypeTree) (fs : FieldTrees) (cs others : List ArrowColumn) (types : List TypeTree) (tables : List (List Triple)) (es : List Entries) (left : List ColumnPiece) (old front : List Kept) (children : ArrayTrees) (a : ArrayTree) → HasNoEmptyStruct (struct b (shapes_of fs)) → (end : IsStructEnd old above b) →
    AreBuilt above fs cs others types tables es left end.front end.mask end.size children (λ k. slots_at children k) → IsPopped old front → IsStructOf own (innermost old) children a → IsBuilt above own cs others types tables es left front a
struct-built above b own fs cs others types tables es left old front children a full end rest popped made =
    let p = popped-struct own old front children a above b end popped made in
    let r = rest.split in
    let array : ArrayTree = struct_array own children end.mask in
    let N : ℕ → Type 0 = λ k. AllStood above cs r.first end.front (array_slot array) k in
    let stood : N (tree_len array) = subst N (sym (fit-len b end.size fs children full rest.fit)) r.stood in
    let B : ArrayTree → Type 0 = λ c. IsBuilt above own cs others types tables es left end.front c in
    let F : List Kept → Type 0 = λ ks. IsBuilt above own cs others types tables es left ks a in
    let whole : B array = record {
      split = record { first = r.first; rest = r.rest; tables_are = r.tables_are; first_entries = r.first_entries; rest_entries = r.rest_entries; entries_are = r.entries_are; stood = stood; behind = r.behind };
      aligned = end.aligned;
      typed = refl;
      entries = rest.entries;
    } in
    subst F (sym p.0) (subst B (sym p.1) whole)

-- the struct's part has a mask of its size
pub record IsStructFits (old : List Kept) (above : List Above) (b : Bool) : Type 0 where
  pub end : IsStructEnd old above b
  pub fits : MaskFits end.mask end.size

struct-fits : (above : List Above) (b : Bool) (cs : List ArrowColumn) (tables : List (List Triple)) (old : List Kept) (end : IsStructEnd old above b) (at : ℕ → Slot) (n : ℕ) → (cs ≡ [] → ⊥) → AllStood (above ++ above_struct b zero ∷ []) cs tables old at n → IsStructFits old above b
struct-fits above b [] tables old end at n some s = absurd (some refl)
struct-fits above b (c ∷ cs) [] old end at n some s = absurd s
struct-fits above b (c ∷ cs) (ts ∷ tables) old end at n some s =
    let S : List Kept → Type 0 = λ ks. IsStood (above ++ above_struct b zero ∷ []) c ts ks at n in
    record { end = end; fits = (stood-back (above ++ above_struct b zero ∷ []) c ts end.front (kept_struct end.mask end.size) at n (subst S end.parts s.0)).0 }

-- ---- all
mutual
  pub built : (own t : TypeTree) (b : Bool) (above : List Above) (others : List ArrowColumn) (types : List TypeTree) (tables : List (List Triple)) (es : List Entries) (pieces left : List ColumnPiece) (a : ArrayTree) (front : List Kept) →
      base own ≡ base t → HasNoEmptyStruct (type_shape b t) → Builds own t pieces left a front → AreFlatPieces (map (raised above) (type_columns b t) ++ others) (type_leaves own t ++ types) tables es pieces →
      IsBuilt above own (type_columns b t) others types tables es left front a
  built own (t_list (field n t c md)) b above others types tables es pieces left a front e h bs are =
      let P : List ArrowColumn → Type 0 = λ cs. AreFlatPieces (cs ++ others) (leaf_types (field n t c md) ++ types) tables es pieces in
      let inner = built t t c (above ++ above_list b small_limit ∷ []) others types tables es pieces left bs.0 bs.1 refl h bs.2 (subst P (raised-list above b small_limit (field_columns (field n t c md))) are) in
      let M : TypeTree → Type 0 = λ u. MakesKind (kind_of u) own (innermost bs.1) bs.0 a in
      list-built above b small_limit own t (field_columns (field n t c md)) others types tables es left bs.1 front bs.0 a inner bs.3 (subst M e bs.4)
  built own (t_large_list (field n t c md)) b above others types tables es pieces left a front e h bs are =
      let P : List ArrowColumn → Type 0 = λ cs. AreFlatPieces (cs ++ others) (leaf_types (field n t c md) ++ types) tables es pieces in
      let inner = built t t c (above ++ above_list b large_limit ∷ []) others types tables es pieces left bs.0 bs.1 refl h bs.2 (subst P (raised-list above b large_limit (field_columns (field n t c md))) are) in
      let M : TypeTree → Type 0 = λ u. MakesKind (kind_of u) own (innermost bs.1) bs.0 a in
      list-built above b large_limit own t (field_columns (field n t c md)) others types tables es left bs.1 front bs.0 a inner bs.3 (subst M e bs.4)
  built own (t_map (field n t c md) s) b above others types tables es pieces left a front e h bs are =
      let P : List ArrowColumn → Type 0 = λ cs. AreFlatPieces (cs ++ others) (leaf_types (field n t c md) ++ types) tables es pieces in
      let inner = built t t c (above ++ above_list b small_limit ∷ []) others types tables es pieces left bs.0 bs.1 refl h bs.2 (subst P (raised-list above b small_limit (field_columns (field n t c md))) are) in
      list-built above b small_limit own t (field_columns (field n t c md)) others types tables es left bs.1 front bs.0 a inner bs.3 bs.4
  built own (t_fixed_size_list item k) b above others types tables es pieces left a front e h bs are = absurd bs
  built own (t_struct fs) b above others types tables es pieces left a front e h bs are =
      let end = (children-end fs b above others types tables es pieces left bs.0 bs.1 h bs.2 are).end in
      let rest = all-built fs b zero above others types tables es pieces left bs.0 bs.1 end.front end.mask end.size (λ k. slots_at bs.0 k) end.parts end.nullable (all-full b fs h) bs.2 are (λ k i. rw zero-add refl) in
      struct-built above b own fs (columns_from b zero fs) others types tables es left bs.1 front bs.0 a h end rest bs.3 bs.4
  built own (t_extension n t md) b above others types tables es pieces left a front e h bs are = built own t b above others types tables es pieces left a front e h bs are
  built own t b above others types tables es pieces left a front e h bs are = leaf-built above b t own others types tables es pieces left a front e refl refl refl bs are

  -- what is left of the states of a struct's children ends in the struct's part
  pub children-end : (fs : FieldTrees) (b : Bool) (above : List Above) (others : List ArrowColumn) (types : List TypeTree) (tables : List (List Triple)) (es : List Entries) (pieces left : List ColumnPiece) (children : ArrayTrees) (old : List Kept) →
      HasNoEmptyStruct (struct b (shapes_of fs)) → BuildsAll fs pieces left children old → AreFlatPieces (map (raised above) (columns_from b zero fs) ++ others) (all_leaf_types fs ++ types) tables es pieces → IsStructFits old above b
  children-end no_fields b above others types tables es pieces left children old h bs are = absurd h
  children-end (more_fields (field n t c md) fs) b above others types tables es pieces left children old h bs are =
      let f = field n t c md in
      let cs0 : List ArrowColumn = type_columns c t in
      let ds : List ArrowColumn = columns_from b 1 fs in
      let first = built t t c (above ++ above_struct b zero ∷ []) (map (raised above) ds ++ others) (all_leaf_types fs ++ types) tables es pieces bs.0 bs.1 old refl h.0 bs.3 (first-pieces above b zero (field_columns f) ds others (leaf_types f) (all_leaf_types fs) types tables es pieces are) in
      struct-fits above b cs0 first.split.first old (struct-end old above b zero first.aligned) (array_slot bs.1) (tree_len bs.1) (some-columns c t h.0) first.split.stood

  pub all-built : (fs : FieldTrees) (b : Bool) (place : ℕ) (above : List Above) (others : List ArrowColumn) (types : List TypeTree) (tables : List (List Triple)) (es : List Entries) (pieces left : List ColumnPiece) (children : ArrayTrees) (old front : List Kept) (m : Option (List Bool)) (size : ℕ) (whole : ℕ → Slots) →
      old ≡ front ++ kept_struct m size ∷ [] → is_some m ≡ b → HaveNoEmptyStruct (shapes_of fs) → BuildsAll fs pieces left children old → AreFlatPieces (map (raised above) (columns_from b place fs) ++ others) (all_leaf_types fs ++ types) tables es pieces →
      ((k i : ℕ) → slot_at (whole k) (place + i) ≡ slot_at (slots_at children k) i) →
      AreBuilt above fs (columns_from b place fs) others types tables es left front m size children whole
  all-built no_fields b place above others types tables es pieces left children old front m size whole parts nullable h bs are same =
      let P : List ColumnPiece → Type 0 = λ ps. AreFlatPieces others types tables es ps in
      let B : ArrayTrees → Type 0 = λ cs. AreBuilt above no_fields [] others types tables es left front m size cs whole in
      let none : B no_arrays = record { split = record { first = []; rest = tables; tables_are = refl; first_entries = []; rest_entries = es; entries_are = refl; stood = tt; behind = subst P bs.0 are }; fit = tt; entries = refl } in
      subst B (sym bs.1) none
  all-built (more_fields (field n t c md) fs) b place above others types tables es pieces left children old front m size whole parts nullable h bs are same =
      let f = field n t c md in
      let A : List Above = above ++ above_struct b place ∷ [] in
      let cs : List ArrowColumn = field_columns f in
      let ds : List ArrowColumn = columns_from b (suc place) fs in
      let first = built t t c A (map (raised above) ds ++ others) (all_leaf_types fs ++ types) tables es pieces bs.0 bs.1 old refl h.0 bs.3 (first-pieces above b place cs ds others (leaf_types f) (all_leaf_types fs) types tables es pieces are) in
      let C : ArrayTrees → Type 0 = λ rs. (k i : ℕ) → slot_at (whole k) (place + i) ≡ slot_at (slots_at rs k) i in
      let same' : C (more_arrays bs.1 bs.2) = subst C bs.5 same in
      let later : (k i : ℕ) → slot_at (whole k) (suc place + i) ≡ slot_at (slots_at bs.2 k) i = λ k i. let q : suc place + i ≡ place + suc i = omega arith in ap (slot_at (whole k)) q ∙ same' k (suc i) in
      let rest = all-built fs b (suc place) above others types first.split.rest first.split.rest_entries bs.0 left bs.2 old front m size whole parts nullable h.1 bs.4 first.split.behind later in
      let here : (k : ℕ) → slot_at (whole k) place ≡ array_slot bs.1 k = λ k. let q : place ≡ place + 0 = omega arith in ap (slot_at (whole k)) q ∙ same' k 0 in
      let B : ArrayTrees → Type 0 = λ rs. AreBuilt above (more_fields f fs) (columns_from b place (more_fields f fs)) others types tables es left front m size rs whole in
      subst B (sym bs.5) (child-built above b place n t c md fs cs ds others types (all_leaf_types fs ++ types) tables es bs.0 left bs.1 bs.2 old front m size whole parts nullable (some-columns c t h.0) first rest here)
