-- Why a field of a group is refused, in a file that was written for its rows.
use Rattle.std.proofs.Common.{◌≡◌, ◌⊎◌, ℕ, suc, false, true≢false, List, [], ◌∷◌, ◌++◌, All, map, length, Option, Some, refl, sym, ap, subst, ◌∙◌, inl, inr, arith}
use Rattle.std.proofs.lemmas.List.{length-map}
use Rattle.std.proofs.lemmas.List.Elements.{All-from_recursion}
use Rattle.std.specs.List.{AllByRecursion, AllZip}
use Rattle.shredding.specs.Shape.{AreOf}
use Rattle.shredding.specs.Slot.{Slot, Slots, Value, no_slots, slot, slot_at}
use Rattle.columns_base.specs.declared.error.Error.{Error}
use Rattle.columns_base.specs.declared.error.Error.TheVariants.{Memory, Overflow}
use Rattle.columns_base.specs.declared.error.V.TheVariants.{V1}
use Rattle.columns_core.specs.Shapes.{IsSlotOf, shapes_of}
use Rattle.columns_core.specs.Tree.{FieldTree, FieldTrees, TypeTree, more_fields, no_fields, t_dictionary}
use Rattle.pq_metadata.specs.Footer.{ChunkMeta}
use Rattle.pq_tree.specs.Tree.{Leaf}
use Rattle.pq_files.specs.Reasons.{AnyOf}
use Rattle.pq_pages.specs.Outcomes.{Outcome}
use Rattle.pq_headline.specs.Columns.{ArrowColumn, beneath_struct, columns_from, field_columns, is_dictionary}
use Rattle.pq_headline.specs.FieldReasons.{EntriesPass, PassesOffsets, Refuses as RefusesField, SomeV1}
use Rattle.pq_headline.specs.Lists.{AllZip3}
use Rattle.pq_headline.specs.Opened.{AreOpened, OpensField, Reads}
use Rattle.pq_headline.specs.Openings.{AreAlike, IsAlike, Opening}
use Rattle.schema_fit.specs.declared.page_table.Asked.{Asked}
use Rattle.schema_map.specs.Rows.{asked_by}
use Rattle.pq_headline.specs.Rows.{field_slots}
use Rattle.unique_rows.proofs.Reading.{AreReadOf, IsReadOf, are_read, hold_columns, none_fails, none_misplaced, none_n4, none_n8, none_v2}
use Rattle.unique_rows.proofs.Sound.{AreSound, IsSound}

-- ---- the slots of the fields from one on

abbrev AreFrom : ℕ → FieldTrees → Slots → Type 0
AreFrom i no_fields row = Unit {0}
AreFrom i (more_fields f fs) row = IsSlotOf f (slot_at row i) × AreFrom (suc i) fs row

behind_one : (i : ℕ) (fs : FieldTrees) (s : Slot) (row : Slots) → AreFrom i fs row → AreFrom (suc i) fs (slot s row)
behind_one i no_fields s row h = tt
behind_one i (more_fields f fs) s row h = (h.0, behind_one (suc i) fs s row h.1)

are_from : (fs : FieldTrees) (row : Slots) → AreOf (shapes_of fs) row → AreFrom 0 fs row
are_from no_fields row h = tt
are_from (more_fields f fs) no_slots h = absurd h
are_from (more_fields f fs) (slot s row) h = (h.0, behind_one 0 fs s row (are_from fs row h.1))

pub all_from : (fs : FieldTrees) (rows : List Slots) → AllByRecursion (AreOf (shapes_of fs)) rows → AllByRecursion (AreFrom 0 fs) rows
all_from fs [] h = tt
all_from fs (r ∷ rows) h = (are_from fs r h.0, all_from fs rows h.1)

own_slots : (i : ℕ) (f : FieldTree) (fs : FieldTrees) (rows : List Slots) → AllByRecursion (AreFrom i (more_fields f fs)) rows → AllByRecursion (IsSlotOf f) (field_slots i rows)
own_slots i f fs [] h = tt
own_slots i f fs (r ∷ rows) h = (h.0.0, own_slots i f fs rows h.1)

other_slots : (i : ℕ) (f : FieldTree) (fs : FieldTrees) (rows : List Slots) → AllByRecursion (AreFrom i (more_fields f fs)) rows → AllByRecursion (AreFrom (suc i) fs) rows
other_slots i f fs [] h = tt
other_slots i f fs (r ∷ rows) h = (h.0.1, other_slots i f fs rows h.1)

-- ---- one field

-- a column whose offsets are passed, and how it is read
pub record ColumnPasses (n : Option ℕ) (rows : List Slot) (c : ArrowColumn) : Type 0 where
  pub leaf : Leaf
  pub outcomes : List Outcome
  pub read : IsReadOf rows c leaf outcomes
  pub asked : Asked
  pub alike : IsAlike asked c leaf
  pub passes : PassesOffsets n c leaf outcomes

short : (t : TypeTree) (entries : List Value) → is_dictionary t ≡ false → EntriesPass t (Some entries) → ⊥
short (t_dictionary k v s) entries d h = absurd (true≢false d)
short t entries d h = h

column_passes : (n : Option ℕ) (asked : Asked) (rows : List Slot) (cs : List ArrowColumn) (ls : List Leaf) (outcomes : List (List Outcome)) → AllZip (IsAlike asked) cs ls → AreReadOf rows cs ls outcomes → SomeV1 n cs ls outcomes → AnyOf (ColumnPasses n rows) cs
column_passes n asked rows [] ls outcomes a r h = h
column_passes n asked rows (c ∷ cs) [] outcomes a r h = absurd h
column_passes n asked rows (c ∷ cs) (l ∷ ls) [] a r h = absurd h
column_passes n asked rows (c ∷ cs) (l ∷ ls) (o ∷ os) a r (inl (inl h)) = inl (record { leaf = l; outcomes = o; read = r.0; asked = asked; alike = a.0; passes = h })
column_passes n asked rows (c ∷ cs) (l ∷ ls) (o ∷ os) a r (inl (inr h)) = absurd (short c.data_type h.entries r.0.direct h.long)
column_passes n asked rows (c ∷ cs) (l ∷ ls) (o ∷ os) a r (inr h) = inr (column_passes n asked rows cs ls os a.1 r.1 h)

abbrev pub ForSize : Error → Type 0 → Type 0
ForSize e A = (e ≡ Memory) ⊎ ((e ≡ Overflow V1) × A)

opening_refused : (o : Opening) (rows : List Slot) (e : Error) → AreAlike o.field o.leaves → AreReadOf rows (field_columns o.field) o.leaves o.outcomes → All (IsSlotOf o.field) rows → length rows ≡ o.rows → RefusesField o e → ForSize e (AnyOf (ColumnPasses o.chunk_size rows) (field_columns o.field))
opening_refused o rows e a r are n (inl m) = inl m
opening_refused o rows e a r are n (inr (inl x)) = absurd (none_fails rows (field_columns o.field) o.leaves o.outcomes e r x.1)
opening_refused o rows e a r are n (inr (inr (inl x))) = absurd (none_misplaced rows (field_columns o.field) o.leaves o.outcomes r x.1)
opening_refused o rows e a r are n (inr (inr (inr (inl x)))) = absurd (none_n4 rows (field_columns o.field) o.leaves o.outcomes r x.1)
opening_refused o rows e a r are n (inr (inr (inr (inr (inl x))))) = absurd (none_n8 rows (field_columns o.field) o.leaves o.outcomes r x.1)
opening_refused o rows e a r are n (inr (inr (inr (inr (inr (inl (inl x))))))) = inr (x.0, column_passes o.chunk_size (asked_by o.field) rows (field_columns o.field) o.leaves o.outcomes a.are r x.1)
opening_refused o rows e a r are n (inr (inr (inr (inr (inr (inl (inr x))))))) = absurd (none_v2 rows (field_columns o.field) o.leaves o.outcomes r x.1)
opening_refused o rows e a r are n (inr (inr (inr (inr (inr (inr x)))))) =
    let held = hold_columns rows (field_columns o.field) o.leaves o.outcomes r in
    absurd (x.1 (rows, held.0, are, n, held.1))

field_refused : (bytes : List ℕ) (place k i : ℕ) (n : Option ℕ) (rows : List Slots) (f : FieldTree) (ls : List Leaf) (ms : List ChunkMeta) (o : Opening) (e : Error)
    → k ≡ length rows → AllByRecursion (IsSlotOf f) (field_slots i rows) → AreSound bytes place rows (map (beneath_struct false i) (field_columns f)) ls ms → OpensField bytes place k n f ls ms o → RefusesField o e
    → ForSize e (AnyOf (ColumnPasses n (field_slots i rows)) (field_columns f))
field_refused bytes place k i n rows f ls ms o e many are s op h =
    let own : AreReadOf (field_slots i rows) (field_columns f) ls o.outcomes = are_read bytes place i rows (field_columns f) ls ms o.outcomes s op.read in
    let read : AreReadOf (field_slots i rows) (field_columns o.field) o.leaves o.outcomes =
    subst (λ (g : FieldTree). AreReadOf (field_slots i rows) (field_columns g) o.leaves o.outcomes) (sym op.field)
    (subst (λ (ks : List Leaf). AreReadOf (field_slots i rows) (field_columns f) ks o.outcomes) (sym op.leaves_are) own) in
    let slots : All (IsSlotOf o.field) (field_slots i rows) = subst (λ (g : FieldTree). All (IsSlotOf g) (field_slots i rows)) (sym op.field) (All-from_recursion (IsSlotOf f) (field_slots i rows) are) in
    let alike : AreAlike o.field o.leaves = subst (λ (g : FieldTree). AreAlike g o.leaves) (sym op.field) (subst (AreAlike f) (sym op.leaves_are) op.alike) in
    let count : length (field_slots i rows) ≡ o.rows = length-map rows (λ row. slot_at row i) ∙ sym many ∙ sym op.rows_are in
    subst (λ (g : FieldTree). ForSize e (AnyOf (ColumnPasses n (field_slots i rows)) (field_columns g))) op.field
    (subst (λ (q : Option ℕ). ForSize e (AnyOf (ColumnPasses q (field_slots i rows)) (field_columns o.field))) op.chunk_size_is (opening_refused o (field_slots i rows) e alike read slots count h))

-- ---- all fields of a group

-- lists side by side, taken apart
record Apart {A B C : Type 0} (R : A → B → C → Type 0) (xs xs' : List A) (ys ys' : List B) (zs zs' : List C) : Type 0 where
  pub first : AllZip3 R xs ys zs
  pub others : AllZip3 R xs' ys' zs'

apart : {A B C : Type 0} (R : A → B → C → Type 0) (xs xs' : List A) (ys ys' : List B) (zs zs' : List C) → length xs ≡ length ys → length zs ≡ length ys → AllZip3 R (xs ++ xs') (ys ++ ys') (zs ++ zs') → Apart R xs xs' ys ys' zs zs'
apart R [] xs' [] ys' [] zs' e q h = record { first = tt; others = h }
apart R [] xs' [] ys' (z ∷ zs) zs' e q h = absurd (omega (arith, q))
apart R [] xs' (y ∷ ys) ys' zs zs' e q h = absurd (omega (arith, e))
apart R (x ∷ xs) xs' [] ys' zs zs' e q h = absurd (omega (arith, e))
apart R (x ∷ xs) xs' (y ∷ ys) ys' [] zs' e q h = absurd (omega (arith, q))
apart R (x ∷ xs) xs' (y ∷ ys) ys' (z ∷ zs) zs' e q h =
    let more = apart R xs xs' ys ys' zs zs' (omega (arith, e)) (omega (arith, q)) h.1 in
    record { first = (h.0, more.first); others = more.others }

pub zipped : {A B : Type 0} (R : A → B → Type 0) (xs : List A) (ys : List B) → AllZip R xs ys → length xs ≡ length ys
zipped R [] [] h = refl
zipped R [] (y ∷ ys) h = absurd h
zipped R (x ∷ xs) [] h = absurd h
zipped R (x ∷ xs) (y ∷ ys) h = ap (λ n. suc n) (zipped R xs ys h.1)

zipped3 : {A B C : Type 0} (R : A → B → C → Type 0) (xs : List A) (ys : List B) (zs : List C) → AllZip3 R xs ys zs → length xs ≡ length ys
zipped3 R [] [] zs h = refl
zipped3 R [] (y ∷ ys) zs h = absurd h
zipped3 R (x ∷ xs) [] zs h = absurd h
zipped3 R (x ∷ xs) (y ∷ ys) [] h = absurd h
zipped3 R (x ∷ xs) (y ∷ ys) (z ∷ zs) h = ap (λ n. suc n) (zipped3 R xs ys zs h.1)

-- some column of some field from one on
abbrev pub SomePasses : Option ℕ → List Slots → ℕ → FieldTrees → Type 0
SomePasses n rows i no_fields = ⊥
SomePasses n rows i (more_fields f fs) = AnyOf (ColumnPasses n (field_slots i rows)) (field_columns f) ⊎ SomePasses n rows (suc i) fs

left : {C : Type 0} (D : Type 0) (e : Error) → ForSize e C → ForSize e (C ⊎ D)
left D e (inl m) = inl m
left D e (inr x) = inr (x.0, inl x.1)

right : (C : Type 0) {D : Type 0} (e : Error) → ForSize e D → ForSize e (C ⊎ D)
right C e (inl m) = inl m
right C e (inr x) = inr (x.0, inr x.1)

either : {A B C D : Type 0} (e : Error) → (A → ForSize e C) → (B → ForSize e D) → A ⊎ B → ForSize e (C ⊎ D)
either e f g (inl a) = left _ e (f a)
either e f g (inr b) = right _ e (g b)

pub fields_refused : (bytes : List ℕ) (place k i : ℕ) (n : Option ℕ) (rows : List Slots) (fs : FieldTrees) (ls : List Leaf) (ms : List ChunkMeta) (os : List Opening) (e : Error)
    → k ≡ length rows → AllByRecursion (AreFrom i fs) rows → AreSound bytes place rows (columns_from false i fs) ls ms → AreOpened bytes place k n fs ls ms os → AnyOf (λ o. RefusesField o e) os → ForSize e (SomePasses n rows i fs)
fields_refused bytes place k i n rows no_fields ls ms [] e many are s op h = absurd h
fields_refused bytes place k i n rows no_fields ls ms (o ∷ os) e many are s op h = absurd op
fields_refused bytes place k i n rows (more_fields f fs) ls ms [] e many are s op h = absurd h
fields_refused bytes place k i n rows (more_fields f fs) ls ms (o ∷ os) e many are s op h =
    let own = map (beneath_struct false i) (field_columns f) in
    let opens : OpensField bytes place k n f op.0 op.2 o = op.6 in
    let columns : length own ≡ length op.0 = length-map (field_columns f) (beneath_struct false i) ∙ zipped _ (field_columns f) op.0 opens.alike.are in
    let metas : length op.2 ≡ length op.0 = zipped3 (Reads bytes place) op.2 op.0 o.outcomes opens.read in
    let sound : AreSound bytes place rows (own ++ columns_from false (suc i) fs) (op.0 ++ op.1) (op.2 ++ op.3) =
    subst (λ (q : List ChunkMeta). AreSound bytes place rows (own ++ columns_from false (suc i) fs) (op.0 ++ op.1) q) op.5
    (subst (λ (q : List Leaf). AreSound bytes place rows (own ++ columns_from false (suc i) fs) q ms) op.4 s) in
    let parts = apart (IsSound bytes place rows) own (columns_from false (suc i) fs) op.0 op.1 op.2 op.3 columns metas sound in
    either e (λ x. field_refused bytes place k i n rows f op.0 op.2 o e many (own_slots i f fs rows are) parts.first opens x)
    (λ x. fields_refused bytes place k (suc i) n rows fs op.1 op.3 os e many (other_slots i f fs rows are) parts.others op.7 x) h
