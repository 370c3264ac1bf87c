-- Which arrays of rows pass the offsets.
use Rattle.std.proofs.Common.{◌≡◌, ◌≢◌, ◌⊎◌, ◌+◌, ◌*◌, ◌<◌, ◌≤◌, ℕ, zero, suc, Bool, true, false, true≢false, List, [], ◌∷◌, ◌++◌, length, length-drop, map, flat_map, take, drop, Option, Some, None, refl, sym, ap, subst, ◌∙◌, inl, inr, arith}
use Rattle.std.proofs.lemmas.List.{map-id, take-map}
use Rattle.columns_core.specs.Shapes.{leaf_type}
use Rattle.columns_core.specs.Tree.{FieldTrees, TypeTree, more_fields, no_fields, t_binary, t_large_binary, t_large_utf8, t_utf8}
use Rattle.shredding.proofs.Schema.{own_columns}
use Rattle.shredding.specs.Cut.{cut, pieces}
use Rattle.shredding.specs.Shape.{LeafType, Way, in_struct}
use Rattle.shredding.specs.Shred.{Triple, column}
use Rattle.shredding.specs.Slot.{Slot, Slots, Value, bytes, fields, slot_at}
use Rattle.pq_tree.specs.Physical.{Physical, byte_array}
use Rattle.pq_tree.specs.Tree.{Leaf}
use Rattle.pq_files.specs.Chunk.{triples_of}
use Rattle.pq_files.specs.Page.{values_in}
use Rattle.pq_files.specs.Reasons.{AnyOf}
use Rattle.pq_files.specs.RowReasons.{without_value}
use Rattle.pq_files.specs.Stored.{AreStored, IsStored, IsStoredOption}
use Rattle.schema_fit.specs.PageTable.{allows, row_of}
use Rattle.schema_fit.specs.declared.page_table.Asked.{Asked}
use Rattle.schema_fit.specs.declared.page_table.Row.{Row}
use Rattle.schema_fit.specs.declared.page_table.Stored.{Stored}
use Rattle.schema_fit.specs.declared.page_table.Stored.TheVariants as S
use Rattle.pq_headline.specs.Columns.{ArrowColumn, beneath_struct, columns_from, ends_nullable, field_columns}
use Rattle.pq_headline.specs.FieldReasons.{IsPieceOf, PassesLists, PassesTexts, rows_behind}
use Rattle.pq_headline.specs.Openings.{IsAlike, leaf_levels}
use Rattle.pq_headline.specs.Rows.{field_slots}
use Rattle.unique_rows.proofs.Fields.{ColumnPasses, SomePasses}
use Rattle.unique_rows.proofs.Parts.{IsFrontOf, column_read, levels_of_page}
use Rattle.unique_rows.proofs.Slices.{lists_beneath, slice_lists, slice_texts, whole_lists, whole_texts}
use Rattle.unique_rows.proofs.Texts.{texts_of_page}
use Rattle.unique_rows.specs.Valid.{PassOffsets}

-- ---- the columns of texts are stored as they are

abbrev IsTextType : TypeTree → Type 0
IsTextType t_utf8 = Unit {0}
IsTextType t_binary = Unit {0}
IsTextType t_large_utf8 = Unit {0}
IsTextType t_large_binary = Unit {0}
IsTextType t = ⊥

is_text : (t : TypeTree) (vs : List Value) → PassesTexts t vs → IsTextType t
is_text t_utf8 vs h = tt
is_text t_binary vs h = tt
is_text t_large_utf8 vs h = tt
is_text t_large_binary vs h = tt
is_text t vs h = h

same_value : (t : TypeTree) (v s : Value) → IsTextType t → IsStored (leaf_type t) byte_array v s → v ≡ s
same_value t_utf8 (bytes x) s is h = sym h.1
same_value t_binary (bytes x) s is h = sym h
same_value t_large_utf8 (bytes x) s is h = sym h.1
same_value t_large_binary (bytes x) s is h = sym h
same_value t_utf8 v s is h = absurd h
same_value t_binary v s is h = absurd h
same_value t_large_utf8 v s is h = absurd h
same_value t_large_binary v s is h = absurd h
same_value t v s is h = absurd is

same_option : (t : TypeTree) (v s : Option Value) → IsTextType t → IsStoredOption (leaf_type t) byte_array v s → v ≡ s
same_option t None None is h = refl
same_option t (Some v) (Some s) is h = ap Some (same_value t v s is h)
same_option t None (Some s) is h = absurd h
same_option t (Some v) None is h = absurd h

same_texts : (t : TypeTree) (xs ys : List Triple) → IsTextType t → AreStored (leaf_type t) byte_array xs ys → xs ≡ ys
same_texts t [] [] is h = refl
same_texts t [] (y ∷ ys) is h = absurd h
same_texts t (x ∷ xs) [] is h = absurd h
same_texts t (x ∷ xs) (y ∷ ys) is h =
    let v = same_option t x.value y.value is h.0.value in
    let one : x ≡ y = λ i. record { repetition = sym h.0.repetition i; definition = sym h.0.definition i; value = v i } in
    ap (λ z. z ∷ xs) one ∙ ap (λ zs. y ∷ zs) (same_texts t xs ys is h.1)

same_levels : (t : LeafType) (p : Physical) (xs ys : List Triple) → AreStored t p xs ys → map without_value xs ≡ map without_value ys
same_levels t p [] [] h = refl
same_levels t p [] (y ∷ ys) h = absurd h
same_levels t p (x ∷ xs) [] h = absurd h
same_levels t p (x ∷ xs) (y ∷ ys) h =
    let one : without_value x ≡ without_value y = λ i. record { repetition = sym h.0.repetition i; definition = sym h.0.definition i; value = None } in
    ap (λ z. z ∷ map without_value xs) one ∙ ap (λ zs. without_value y ∷ zs) (same_levels t p xs ys h.1)

-- the page table has texts and byte strings as byte arrays
bytes_only : (p : Physical) → allows S.ByteArray p ≡ true → p ≡ byte_array
bytes_only byte_array h = refl
bytes_only p h = absurd (true≢false (sym h))

stored_or : Stored → Option Row → Stored
stored_or d None = d
stored_or d (Some row) = row.stored

text_row : (t : TypeTree) (b : Bool) (row : Row) → IsTextType t → row_of (record { data_type = t; is_nullable = b }) ≡ Some row → S.ByteArray ≡ row.stored
unfolding stored_or
text_row t_utf8 true row is h = ap (stored_or S.ByteArray) h
text_row t_utf8 false row is h = ap (stored_or S.ByteArray) h
text_row t_binary true row is h = ap (stored_or S.ByteArray) h
text_row t_binary false row is h = ap (stored_or S.ByteArray) h
text_row t_large_utf8 true row is h = ap (stored_or S.ByteArray) h
text_row t_large_utf8 false row is h = ap (stored_or S.ByteArray) h
text_row t_large_binary true row is h = ap (stored_or S.ByteArray) h
text_row t_large_binary false row is h = ap (stored_or S.ByteArray) h
text_row t b row is h = absurd is

text_physical : (asked : Asked) (c : ArrowColumn) (l : Leaf) → IsTextType c.data_type → IsAlike asked c l → l.physical ≡ byte_array
text_physical asked c l is a = bytes_only l.physical (ap (λ (s : Stored). allows s l.physical) (text_row c.data_type (ends_nullable c.way) a.row is a.has_row) ∙ a.stored)

-- ---- the pieces of rows

drop_more : {A : Type 0} (a b : ℕ) (xs : List A) → drop (a + b) xs ≡ drop b (drop a xs)
drop_more zero b xs = let e : 0 + b ≡ b = omega arith in ap (λ k. drop k xs) e
drop_more (suc a) b [] = let e : suc a + b ≡ suc (a + b) = omega arith in ap (λ k. drop k []) e ∙ sym (nothing b)
  where
    nothing : {A : Type 0} (k : ℕ) → drop {A = A} k [] ≡ []
    nothing zero = refl
    nothing (suc k) = refl
drop_more (suc a) b (x ∷ xs) = let e : suc a + b ≡ suc (a + b) = omega arith in ap (λ k. drop k (x ∷ xs)) e ∙ drop_more a b xs

none_there : (m k : ℕ) → take m (drop {A = Slots} k []) ≡ []
none_there zero zero = refl
none_there zero (suc k) = refl
none_there (suc m) zero = refl
none_there (suc m) (suc k) = refl

in_pieces : (P : List Slots → Type 0) (fuel m k : ℕ) (rows : List Slots) → (P [] → ⊥) → 0 < m → length rows ≤ fuel → P (take m (drop (k * m) rows)) → AnyOf P (pieces fuel m rows)
in_pieces P fuel m k [] none some le h = absurd (none (subst P (none_there m (k * m)) h))
in_pieces P zero m k (r ∷ rows) none some le h = absurd (omega (arith, le))
in_pieces P (suc fuel) m zero (r ∷ rows) none some le h = let e : zero * m ≡ 0 = omega arith in inl (subst (λ (j : ℕ). P (take m (drop j (r ∷ rows)))) e h)
in_pieces P (suc fuel) m (suc k) (r ∷ rows) none some le h =
    let e : suc k * m ≡ m + k * m = omega arith in
    inr (in_pieces P fuel m k (drop m (r ∷ rows)) none some (omega (arith, le, some, length-drop m (r ∷ rows)))
    (subst (λ (xs : List Slots). P (take m xs)) (ap (λ (j : ℕ). drop j (r ∷ rows)) e ∙ drop_more m (k * m) (r ∷ rows)) h))

in_whole : (P : List Slots → Type 0) (rows : List Slots) → (P [] → ⊥) → P rows → AnyOf P (cut rows None)
in_whole P [] none h = none h
in_whole P (r ∷ rows) none h = inl h

drop_map : {A B : Type 0} (f : A → B) (k : ℕ) (xs : List A) → drop k (map f xs) ≡ map f (drop k xs)
drop_map f zero xs = refl
drop_map f (suc k) [] = refl
drop_map f (suc k) (x ∷ xs) = drop_map f k xs

slice_slots : (i m before : ℕ) (rows : List Slots) → take m (drop before (field_slots i rows)) ≡ field_slots i (take m (drop before rows))
slice_slots i m before rows = ap (take m) (drop_map (λ row. slot_at row i) before rows) ∙ take-map (λ row. slot_at row i) m (drop before rows)

-- what passes in a piece of what is read passes in an array
abbrev InArray : Way → ℕ → (List Triple → Type 0) → List Slots → Type 0
InArray w i Q rows = Q (column w (field_slots i rows))

array_of :
    (w : Way) (i : ℕ) (Q : List Triple → Type 0) (rows : List Slots) (n : Option ℕ) (ts piece : List Triple) → (Q [] → ⊥) → n ≢ Some 0 → IsPieceOf n ts piece → Q piece
    → (Q ts → Q (column w (field_slots i rows))) → ((before m : ℕ) → Q (rows_behind before m ts) → Q (column w (take m (drop before (field_slots i rows))))) → AnyOf (InArray w i Q) (cut rows n)
array_of w i Q rows None ts piece none some is h whole slice = in_whole (InArray w i Q) rows none (whole (subst Q is h))
array_of w i Q rows (Some zero) ts piece none some is h whole slice = absurd (some refl)
array_of w i Q rows (Some (suc m)) ts piece none some is h whole slice =
    in_pieces (InArray w i Q) (length rows) (suc m) is.0 rows none (omega arith) (omega arith)
    (subst (λ (xs : List Slot). Q (column w xs)) (slice_slots i (suc m) (is.0 * suc m) rows) (slice (is.0 * suc m) (suc m) (subst Q is.1 h)))

no_lists : (w : Way) (r : ℕ) (limits : List ℕ) → PassesLists w r limits [] → ⊥
no_lists w r [] h = h
no_lists w r (limit ∷ limits) (inl h) = omega (arith, h)
no_lists w r (limit ∷ limits) (inr h) = no_lists w (suc r) limits h

no_texts : (t : TypeTree) → PassesTexts t [] → ⊥
no_texts t_utf8 h = omega (arith, h)
no_texts t_binary h = omega (arith, h)
no_texts t_large_utf8 h = omega (arith, h)
no_texts t_large_binary h = omega (arith, h)
no_texts t h = h

-- ---- a column

-- it passes in one of these rows
abbrev ColumnIn : List Slots → ArrowColumn → Type 0
ColumnIn rows c = PassesLists c.way 1 c.limits (column c.way (map fields rows)) ⊎ PassesTexts c.data_type (values_in (column c.way (map fields rows)))

any_weaker : {A : Type 0} (P Q : A → Type 0) → ((x : A) → P x → Q x) → (xs : List A) → AnyOf P xs → AnyOf Q xs
any_weaker P Q f [] h = h
any_weaker P Q f (x ∷ xs) (inl h) = inl (f x h)
any_weaker P Q f (x ∷ xs) (inr h) = inr (any_weaker P Q f xs h)

column_in : (n : Option ℕ) (i : ℕ) (rows : List Slots) (c : ArrowColumn) → n ≢ Some 0 → ColumnPasses n (field_slots i rows) c → AnyOf (λ r. ColumnIn r (beneath_struct false i c)) (cut rows n)
column_in n i rows c some x = by x.passes.passes
  where
    levels : (x.passes.entries ≡ None) × IsFrontOf without_value x.passes.triples (triples_of x.read.chunk)
    levels = column_read without_value c x.leaf (leaf_levels x.leaf) x.outcomes x.read.chunk.pages x.passes.entries x.passes.triples (levels_of_page (leaf_type c.data_type) x.leaf) x.read.given x.passes.reads

    in_lists : PassesLists c.way 1 c.limits x.passes.piece → AnyOf (InArray c.way i (PassesLists c.way 1 c.limits)) (cut rows n)
    in_lists h =
        let e = same_levels (leaf_type c.data_type) x.leaf.physical (column c.way (field_slots i rows)) (triples_of x.read.chunk) x.read.shred ∙ levels.1.parts in
        array_of c.way i (PassesLists c.way 1 c.limits) rows n x.passes.triples x.passes.piece (no_lists c.way 1 c.limits) some x.passes.is_piece h
        (whole_lists c.way (field_slots i rows) 1 c.limits x.passes.triples levels.1.rest e)
        (λ before m. slice_lists c.way (field_slots i rows) before m 1 c.limits x.passes.triples levels.1.rest e)

    in_texts : PassesTexts c.data_type (values_in x.passes.piece) → AnyOf (InArray c.way i (λ ts. PassesTexts c.data_type (values_in ts))) (cut rows n)
    in_texts h =
        let is = is_text c.data_type (values_in x.passes.piece) h in
        let physical = text_physical x.asked c x.leaf is x.alike in
        let read = column_read (λ t. t) c x.leaf (leaf_levels x.leaf) x.outcomes x.read.chunk.pages x.passes.entries x.passes.triples (texts_of_page (leaf_type c.data_type) x.leaf physical) x.read.given x.passes.reads in
        let stored = same_texts c.data_type (column c.way (field_slots i rows)) (triples_of x.read.chunk) is (subst (λ (p : Physical). AreStored (leaf_type c.data_type) p (column c.way (field_slots i rows)) (triples_of x.read.chunk)) physical x.read.shred) in
        let e : column c.way (field_slots i rows) ≡ x.passes.triples ++ read.1.rest = stored ∙ sym (map-id (triples_of x.read.chunk)) ∙ read.1.parts ∙ ap (λ ts. ts ++ map (λ t. t) read.1.rest) (map-id x.passes.triples) ∙ ap (λ ts. x.passes.triples ++ ts) (map-id read.1.rest) in
        array_of c.way i (λ ts. PassesTexts c.data_type (values_in ts)) rows n x.passes.triples x.passes.piece (no_texts c.data_type) some x.passes.is_piece h
        (whole_texts c.way (field_slots i rows) c.data_type x.passes.triples read.1.rest e)
        (λ before m. slice_texts c.way (field_slots i rows) before m c.data_type x.passes.triples read.1.rest e)

    by : PassesLists c.way 1 c.limits x.passes.piece ⊎ PassesTexts c.data_type (values_in x.passes.piece) → AnyOf (λ r. ColumnIn r (beneath_struct false i c)) (cut rows n)
    by (inl h) = any_weaker (InArray c.way i (PassesLists c.way 1 c.limits)) (λ r. ColumnIn r (beneath_struct false i c))
        (λ r y. inl (subst (λ (ts : List Triple). PassesLists (in_struct false i c.way) 1 c.limits ts) (sym (own_columns i c.way r)) (lists_beneath c.way i 0 c.limits (column c.way (field_slots i r)) y))) (cut rows n) (in_lists h)
    by (inr h) = any_weaker (InArray c.way i (λ ts. PassesTexts c.data_type (values_in ts))) (λ r. ColumnIn r (beneath_struct false i c))
        (λ r y. inr (subst (λ (ts : List Triple). PassesTexts c.data_type (values_in ts)) (sym (own_columns i c.way r)) y)) (cut rows n) (in_texts h)

-- ---- all columns

swapped : {A B : Type 0} (P : A → Type 0) (R : B → A → Type 0) (bs : List B) → ((a : A) → P a → AnyOf (λ b. R b a) bs) → (xs : List A) → AnyOf P xs → AnyOf (λ b. AnyOf (R b) xs) bs
swapped P R bs each [] h = absurd h
swapped P R bs each (a ∷ xs) (inl h) = any_weaker (λ b. R b a) (λ b. AnyOf (R b) (a ∷ xs)) (λ b y. inl y) bs (each a h)
swapped P R bs each (a ∷ xs) (inr h) = any_weaker (λ b. AnyOf (R b) xs) (λ b. AnyOf (R b) (a ∷ xs)) (λ b y. inr y) bs (swapped P R bs each xs h)

any_map : {A B : Type 0} (P : B → Type 0) (f : A → B) (xs : List A) → AnyOf (λ a. P (f a)) xs → AnyOf P (map f xs)
any_map P f [] h = h
any_map P f (x ∷ xs) (inl h) = inl h
any_map P f (x ∷ xs) (inr h) = inr (any_map P f xs h)

any_left : {A : Type 0} (P : A → Type 0) (xs ys : List A) → AnyOf P xs → AnyOf P (xs ++ ys)
any_left P [] ys h = absurd h
any_left P (x ∷ xs) ys (inl h) = inl h
any_left P (x ∷ xs) ys (inr h) = inr (any_left P xs ys h)

any_right : {A : Type 0} (P : A → Type 0) (xs ys : List A) → AnyOf P ys → AnyOf P (xs ++ ys)
any_right P [] ys h = h
any_right P (x ∷ xs) ys h = inr (any_right P xs ys h)

fields_pass : (n : Option ℕ) (i : ℕ) (rows : List Slots) (fs : FieldTrees) → n ≢ Some 0 → SomePasses n rows i fs → AnyOf (λ r. AnyOf (ColumnIn r) (columns_from false i fs)) (cut rows n)
fields_pass n i rows no_fields some h = absurd h
fields_pass n i rows (more_fields f fs) some (inl h) =
    any_weaker (λ r. AnyOf (λ c. ColumnIn r (beneath_struct false i c)) (field_columns f)) (λ r. AnyOf (ColumnIn r) (columns_from false i (more_fields f fs)))
    (λ r y. any_left (ColumnIn r) (map (beneath_struct false i) (field_columns f)) (columns_from false (suc i) fs) (any_map (ColumnIn r) (beneath_struct false i) (field_columns f) y))
    (cut rows n) (swapped (ColumnPasses n (field_slots i rows)) (λ r c. ColumnIn r (beneath_struct false i c)) (cut rows n) (λ c y. column_in n i rows c some y) (field_columns f) h)
fields_pass n i rows (more_fields f fs) some (inr h) =
    any_weaker (λ r. AnyOf (ColumnIn r) (columns_from false (suc i) fs)) (λ r. AnyOf (ColumnIn r) (columns_from false i (more_fields f fs)))
    (λ r y. any_right (ColumnIn r) (map (beneath_struct false i) (field_columns f)) (columns_from false (suc i) fs) y) (cut rows n) (fields_pass n (suc i) rows fs some h)

pub pass_offsets : (n : Option ℕ) (fs : FieldTrees) (rowss : List (List Slots)) → n ≢ Some 0 → AnyOf (λ rows. SomePasses n rows 0 fs) rowss → AnyOf (PassOffsets fs) (flat_map (λ rows. cut rows n) rowss)
pass_offsets n fs [] some h = absurd h
pass_offsets n fs (rows ∷ rowss) some (inl h) = any_left (PassOffsets fs) (cut rows n) (flat_map (λ r. cut r n) rowss) (fields_pass n 0 rows fs some h)
pass_offsets n fs (rows ∷ rowss) some (inr h) = any_right (PassOffsets fs) (cut rows n) (flat_map (λ r. cut r n) rowss) (pass_offsets n fs rowss some h)
