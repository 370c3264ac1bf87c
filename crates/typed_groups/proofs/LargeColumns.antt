-- A page of a column that is refused for its room is too large.
use Rattle.std.proofs.Common.{◌≡◌, ◌⊎◌, inl, inr, ℕ, zero, suc, ◌<◌, false, List, [], ◌∷◌, length, map, take, drop, None, Some, refl, sym, ap, subst, ◌∙◌}
use Rattle.std.specs.List.{AllZip, AllByRecursion as Each}
use Rattle.std.proofs.lemmas.List.{take-map, drop-map, length-map}
use Rattle.shredding.proofs.Along.{seen_along}
use Rattle.shredding.proofs.Schema.{own_columns}
use Rattle.shredding.specs.Along.{along, thin}
use Rattle.shredding.specs.Cut.{cut, pieces}
use Rattle.shredding.specs.Parts.{Part, path_way}
use Rattle.shredding.specs.Shape.{LeafType, Way, in_struct}
use Rattle.shredding.specs.Shred.{Triple, column}
use Rattle.shredding.specs.Slot.{Slot, Slots, fields, slot_at}
use Rattle.columns_base.specs.declared.error.Error.{Error}
use Rattle.columns_base.specs.declared.error.Error.TheVariants.{Memory, Overflow}
use Rattle.columns_base.specs.declared.error.V.TheVariants.{V3}
use Rattle.columns_core.specs.Shapes.{leaf_type}
use Rattle.columns_slots.specs.Slots.{type_of}
use Rattle.columns_slots.specs.Tree.{ArrayTree}
use Rattle.nested_paths.specs.Leaves.{node_of}
use Rattle.nested_paths.specs.Seen.{AreSeen, IsSeen}
use Rattle.pq_files.specs.Layout.{plain_length, rows_per_page}
use Rattle.pq_files.specs.Page.{values_in}
use Rattle.pq_files.specs.Reasons.{AnyOf}
use Rattle.pq_files.specs.Room.{max_size, room}
use Rattle.pq_files.specs.Stored.{AreStored}
use Rattle.pq_headline.specs.Columns.{ArrowColumn}
use Rattle.pq_headline.specs.Output.{HasLargePage, SomeIsLarge, Style}
use Rattle.pq_headline.specs.Rows.{field_slots}
use Rattle.pq_tree.specs.Physical.{Physical}
use Rattle.pq_tree.specs.Tree.{Leaf}
use Rattle.pq_tree.specs.Views.{physical_view}
use Rattle.pq_tree.specs.declared.types.Encoding.{Encoding}
use Rattle.write_file.specs.Pages.{SomeRefuses}
use Rattle.write_groups.specs.Given.{RefusesColumn, to_come}
use Rattle.write_groups.specs.Laid.{AreOwnColumns, style_of}
use Rattle.write_groups.specs.declared.column.ChunkColumn.{ChunkColumn}
use Rattle.write_pages.specs.Columns.{AreColumns, IsColumn}
use Rattle.write_pages.specs.Entries.{Entries, IsDictionaryPastRoom, leaf_entries}
use Rattle.write_pages.specs.Holds.{AreByRule, ArePieces, ToGive, rows_of}
use Rattle.write_pages.specs.Refused.{IsPastRoom}
use Rattle.write_pages.specs.Rule.{page_limit}
use Rattle.write_pages.specs.declared.options.WriteOptions.{WriteOptions}

-- ---- pieces of what is made row by row

pieces_map : {A B : Type 0} (f : A → B) (k n : ℕ) (xs : List A) → pieces k n (map f xs) ≡ map (map f) (pieces k n xs)
pieces_map f zero n xs = refl
pieces_map f (suc k) n [] = refl
pieces_map f (suc k) n (x ∷ xs) =
    (λ i. take-map f n (x ∷ xs) i ∷ pieces k n (drop-map f n (x ∷ xs) i)) ∙ ap (λ ps. map f (take n (x ∷ xs)) ∷ ps) (pieces_map f k n (drop n (x ∷ xs)))

cut_map : {A B : Type 0} (f : A → B) (n : ℕ) (xs : List A) → cut (map f xs) (Some n) ≡ map (map f) (cut xs (Some n))
cut_map f n xs = ap (λ k. pieces k n (map f xs)) (length-map xs f) ∙ pieces_map f (length xs) n xs

pub map_twice : {A B C : Type 0} (f : B → C) (g : A → B) (xs : List A) → map f (map g xs) ≡ map (λ x. f (g x)) xs
map_twice f g [] = refl
map_twice f g (x ∷ xs) = ap (λ ys. f (g x) ∷ ys) (map_twice f g xs)

any_maps : {A B C : Type 0} (P : List B → Type 0) (Q : List C → Type 0) (f : A → B) (h : A → C) (ps : List (List A)) → ((q : List A) → P (map f q) → Q (map h q)) → AnyOf P (map (map f) ps) → AnyOf Q (map (map h) ps)
any_maps P Q f h [] to z = z
any_maps P Q f h (p ∷ ps) to (inl z) = inl (to p z)
any_maps P Q f h (p ∷ ps) to (inr z) = inr (any_maps P Q f h ps to z)

zip_length : {A B : Type 0} (P : A → B → Type 0) (xs : List A) (zs : List B) → AllZip P xs zs → length xs ≡ length zs
zip_length P [] [] h = refl
zip_length P [] (z ∷ zs) h = absurd h
zip_length P (x ∷ xs) [] h = absurd h
zip_length P (x ∷ xs) (z ∷ zs) h = ap suc (zip_length P xs zs h.1)

-- ---- a column

-- what is seen of a field's slots along a way has the column that the schema's rows have
pub seen_rows : (w : Way) (i : ℕ) (rows : List Slots) → column (thin w) (map (λ row. along w (slot_at row i)) rows) ≡ column (in_struct false i w) (map fields rows)
seen_rows w i rows = ap (column (thin w)) (sym (map_twice (along w) (λ row. slot_at row i) rows)) ∙ (seen_along w (field_slots i rows) ∙ sym (own_columns i w rows))

-- a page of these pairs is too large
abbrev IsLarge : LeafType → Physical → List Triple → Type 0
IsLarge t p ts = (triples : List Triple) × AreStored t p ts triples × (max_size < room (length triples) (plain_length p (values_in triples)))

past_large : (t : LeafType) (p : Physical) (ts : List Triple) → IsPastRoom t p ts → IsLarge t p ts
past_large t p ts h = (h.0, h.1, subst (λ (n : ℕ). max_size < room n (plain_length p (values_in h.0))) (zip_length _ ts h.0 h.1) h.2)

large_column :
    (o : WriteOptions) (parts : List Part) (a : ArrayTree) (e : Encoding) (g : ToGive) (l : Leaf) (c : ArrowColumn) (i : ℕ) (w : Way) (rows : List Slots)
    → IsColumn o (node_of l) parts a e g → IsSeen (field_slots i rows) w parts a → c.way ≡ in_struct false i w → leaf_type (type_of a) ≡ leaf_type c.data_type
    → leaf_entries a ≡ None → AnyOf (λ piece. IsPastRoom g.type g.physical (column g.way piece)) g.pieces
    → HasLargePage (style_of o) (record { arrow = c; physical = l.physical; entries = None }) (map fields rows)
large_column o parts a e g l c i w rows h s way kind none any =
    let t = h.type_ in
    let p = h.pages in
    let k : AreByRule o.data_pagesize_limit (leaf_type (type_of a)) (physical_view t.physical_type) (column (path_way parts) (rows_of parts a)) (rows_of parts a) g.pieces =
    subst (λ (es : Entries). ArePieces es o.data_pagesize_limit (leaf_type (type_of a)) (physical_view t.physical_type) (column (path_way parts) (rows_of parts a)) (rows_of parts a) g.pieces) none p.pieces in
    let f : Slots → Slot = λ row. along w (slot_at row i) in
    let here : rows_of parts a ≡ map f rows = s.slots ∙ map_twice (along w) (λ row. slot_at row i) rows in
    let size = plain_length (physical_view t.physical_type) (values_in k.stored) in
    let limit = page_limit o.data_pagesize_limit in
    let physical : l.physical ≡ physical_view t.physical_type = ap (λ n. n.1) (sym h.is) in
    let given_physical : g.physical ≡ l.physical = p.physical ∙ sym physical in
    let type_is : g.type ≡ leaf_type c.data_type = p.type ∙ kind in
    let thin_way : g.way ≡ thin w = p.way ∙ s.way in
    let column_is : (q : List Slots) → column g.way (map f q) ≡ column c.way (map fields q) = λ q. ap (λ (x : Way). column x (map f q)) thin_way ∙ (seen_rows w i q ∙ ap (λ (x : Way). column x (map fields q)) (sym way)) in
    let all : column (path_way parts) (rows_of parts a) ≡ column c.way (map fields rows) = ap (λ (x : Way). column x (rows_of parts a)) (sym p.way) ∙ (ap (column g.way) here ∙ column_is rows) in
    let count : length (rows_of parts a) ≡ length (map fields rows) = ap length here ∙ (length-map rows f ∙ sym (length-map rows fields)) in
    let n = rows_per_page limit size (length (rows_of parts a)) in
    let given : g.pieces ≡ map (map f) (cut rows (Some n)) = k.by_rule ∙ (ap (λ (xs : List Slot). cut xs (Some n)) here ∙ cut_map f n rows) in
    let asked : cut (map fields rows) (Some (rows_per_page limit (plain_length l.physical (values_in k.stored)) (length (map fields rows)))) ≡ map (map fields) (cut rows (Some n)) =
    (λ j. cut (map fields rows) (Some (rows_per_page limit (plain_length (physical j) (values_in k.stored)) (sym count j)))) ∙ cut_map fields n rows in
    let one : (q : List Slots) → IsPastRoom g.type g.physical (column g.way (map f q)) → IsLarge (leaf_type c.data_type) l.physical (column c.way (map fields q)) = λ q z.
    subst (λ (y : LeafType). IsLarge y l.physical (column c.way (map fields q))) type_is
    (subst (λ (y : Physical). IsLarge g.type y (column c.way (map fields q))) given_physical
    (subst (λ (ts : List Triple). IsLarge g.type g.physical ts) (column_is q) (past_large g.type g.physical (column g.way (map f q)) z))) in (
      k.stored,
      subst (λ (y : LeafType). AreStored y l.physical (column c.way (map fields rows)) k.stored) kind
          (subst (λ (y : Physical). AreStored (leaf_type (type_of a)) y (column c.way (map fields rows)) k.stored) (sym physical)
          (subst (λ (ts : List Triple). AreStored (leaf_type (type_of a)) (physical_view t.physical_type) ts k.stored) all k.are_stored)),
      subst (λ (ps : List (List Slot)). AnyOf (λ page. IsLarge (leaf_type c.data_type) l.physical (column c.way page)) ps) (sym asked)
          (any_maps (λ piece. IsPastRoom g.type g.physical (column g.way piece)) (λ page. IsLarge (leaf_type c.data_type) l.physical (column c.way page)) f fields (cut rows (Some n)) one
          (subst (λ (ps : List (List Slot)). AnyOf (λ piece. IsPastRoom g.type g.physical (column g.way piece)) ps) given any)),
    )

-- ---- the columns of a field

-- memory, or a page too large
abbrev pub IsOfLarge : Style → List Slots → List ArrowColumn → List Leaf → Error → Type 0
IsOfLarge s rows cs ls e = (e ≡ Memory) ⊎ ((e ≡ Overflow V3) × SomeIsLarge s rows cs ls (map (λ c. None) cs))

of_first : (s : Style) (rows : List Slots) (c : ArrowColumn) (cs : List ArrowColumn) (l : Leaf) (ls : List Leaf) (e : Error) → (e ≡ Memory) ⊎ ((e ≡ Overflow V3) × HasLargePage s (record { arrow = c; physical = l.physical; entries = None }) (map fields rows)) → IsOfLarge s rows (c ∷ cs) (l ∷ ls) e
of_first s rows c cs l ls e (inl h) = inl h
of_first s rows c cs l ls e (inr h) = inr (h.0, inl h.1)

of_later : (s : Style) (rows : List Slots) (c : ArrowColumn) (cs : List ArrowColumn) (l : Leaf) (ls : List Leaf) (e : Error) → IsOfLarge s rows cs ls e → IsOfLarge s rows (c ∷ cs) (l ∷ ls) e
of_later s rows c cs l ls e (inl h) = inl h
of_later s rows c cs l ls e (inr h) = inr (h.0, inr (inr h.1))

refused_column :
    (o : WriteOptions) (parts : List Part) (a : ArrayTree) (x : Encoding) (s : ChunkColumn) (l : Leaf) (c : ArrowColumn) (i : ℕ) (w : Way) (rows : List Slots) (e : Error)
    → IsColumn o (node_of l) parts a x (to_come s) → IsSeen (field_slots i rows) w parts a → c.way ≡ in_struct false i w → leaf_type (type_of a) ≡ leaf_type c.data_type
    → leaf_entries a ≡ None → RefusesColumn s e → (e ≡ Memory) ⊎ ((e ≡ Overflow V3) × HasLargePage (style_of o) (record { arrow = c; physical = l.physical; entries = None }) (map fields rows))
refused_column o parts a x s l c i w rows e h seen way kind none (inl m) = inl m
refused_column o parts a x s l c i w rows e h seen way kind none (inr (v, inl d)) = absurd (subst (λ (es : Entries). IsDictionaryPastRoom (to_come s).type (to_come s).physical es) (h.pages.entries ∙ none) d)
refused_column o parts a x s l c i w rows e h seen way kind none (inr (v, inr r)) = inr (v, large_column o parts a x (to_come s) l c i w rows h seen way kind none r)

-- no array is a dictionary
abbrev pub HaveNoEntries : List ArrayTree → Type 0
HaveNoEntries arrays = Each (λ a. leaf_entries a ≡ None) arrays

pub each_large :
    (o : WriteOptions) (i : ℕ) (rows : List Slots) (ls : List Leaf) (ws : List Way) (ps : List (List Part)) (arrays : List ArrayTree) (es : List Encoding) (ss : List ChunkColumn) (cs : List ArrowColumn) (e : Error)
    → AreColumns o (map node_of ls) ps arrays es (map to_come ss) → AreSeen (field_slots i rows) ws ps arrays → AreOwnColumns i ws arrays cs → HaveNoEntries arrays → SomeRefuses RefusesColumn ss e → IsOfLarge (style_of o) rows cs ls e
each_large o i rows [] ws [] [] [] [] cs e h s own none r = absurd r
each_large o i rows (l ∷ ls) (w ∷ ws) (p ∷ ps) (a ∷ arrays) (x ∷ es) (z ∷ ss) (c ∷ cs) e h s own none (inl r) = of_first (style_of o) rows c cs l ls e (refused_column o p a x z l c i w rows e h.0 s.0 own.0 own.1 none.0 r)
each_large o i rows (l ∷ ls) (w ∷ ws) (p ∷ ps) (a ∷ arrays) (x ∷ es) (z ∷ ss) (c ∷ cs) e h s own none (inr r) = of_later (style_of o) rows c cs l ls e (each_large o i rows ls ws ps arrays es ss cs e h.1 s.1 own.2 none.1 r)
each_large o i rows (l ∷ ls) [] (p ∷ ps) (a ∷ arrays) (x ∷ es) (z ∷ ss) cs e h s own none r = absurd s
each_large o i rows (l ∷ ls) (w ∷ ws) (p ∷ ps) (a ∷ arrays) (x ∷ es) (z ∷ ss) [] e h s own none r = absurd own
each_large o i rows ls ws ps arrays es ss cs e h s own none r = absurd h
