-- A column in pages is laid out by the row rule.
use Rattle.std.proofs.Common.{◌≡◌, ℕ, zero, suc, List, [], ◌∷◌, length, map, take, drop, Option, None, Some, Bool, false, refl, sym, ap, subst, ◌∙◌}
use Rattle.std.specs.List.{AllZip}
use Rattle.std.proofs.lemmas.List.{take-map, drop-map, length-map}
use Rattle.shredding.proofs.Along.{seen_along}
use Rattle.shredding.proofs.Schema.{own_columns}
use Rattle.shredding.specs.Along.{along, thin}
use Rattle.shredding.specs.Cut.{cut, pieces, whole}
use Rattle.shredding.specs.Parts.{path_way}
use Rattle.shredding.specs.Shape.{LeafType, Way, in_struct}
use Rattle.shredding.specs.Shred.{Triple, column}
use Rattle.shredding.specs.Slot.{Slot, Slots, fields, slot_at, Value}
use Rattle.columns_core.specs.Shapes.{leaf_type}
use Rattle.columns_slots.specs.Slots.{type_of}
use Rattle.pq_files.specs.Layout.{OutPage, AreStoredEntries, bounded, plain_length, rows_per_page}
use Rattle.pq_files.specs.Page.{values_in}
use Rattle.pq_files.specs.Statistics.{Statistics, HasStatistics}
use Rattle.pq_files.specs.Stored.{AreStored}
use Rattle.pq_headline.specs.Output.{IsPageOfRows, page_rows}
use Rattle.pq_headline.specs.Rows.{field_slots}
use Rattle.pq_tree.specs.Physical.{Physical}
use Rattle.pq_tree.specs.Views.{physical_view}
use Rattle.write_pages.specs.Entries.{Entries, leaf_entries, stored_list}
use Rattle.write_pages.specs.Holds.{ArePieces, rows_of}
use Rattle.write_pages.specs.Rule.{page_limit}
use Rattle.write_pages.specs.declared.options.WriteOptions.{WriteOptions}
use Rattle.write_groups.specs.Given.{IsPageOf}
use Rattle.write_groups.proofs.Used.{used_is}
use Rattle.write_groups.specs.Laid.{ColumnsAreLaid, style_of}

-- ---- pieces of what is made row by row

pieces_map : {A B : Type 0} (f : A → B) (k n : ℕ) (xs : List A) → pieces k n (map f xs) ≡ map (map f) (pieces k n xs)
pieces_map f zero n xs = refl
pieces_map f (suc k) n [] = refl
pieces_map f (suc k) n (x ∷ xs) =
    (λ i. take-map f n (x ∷ xs) i ∷ pieces k n (drop-map f n (x ∷ xs) i)) ∙ ap (λ ps. map f (take n (x ∷ xs)) ∷ ps) (pieces_map f k n (drop n (x ∷ xs)))

cut_map : {A B : Type 0} (f : A → B) (n : ℕ) (xs : List A) → cut (map f xs) (Some n) ≡ map (map f) (cut xs (Some n))
cut_map f n xs = ap (λ k. pieces k n (map f xs)) (length-map xs f) ∙ pieces_map f (length xs) n xs

whole_map : {A B : Type 0} (f : A → B) (xs : List A) → whole (map f xs) ≡ map (map f) (whole xs)
whole_map f [] = refl
whole_map f (x ∷ xs) = refl

-- in pieces of so many rows, or as a whole
parts_map : {A B : Type 0} (f : A → B) (n : Option ℕ) (xs : List A) → cut (map f xs) n ≡ map (map f) (cut xs n)
parts_map f None xs = whole_map f xs
parts_map f (Some n) xs = cut_map f n xs

-- how many rows of so many, whose values have so many plain bytes, stand in a page
abbrev page_cut : ℕ → Entries → ℕ → ℕ → Option ℕ
page_cut limit None size count = Some (rows_per_page limit size count)
page_cut limit (Some es) size count = None

page_is : (limit : ℕ) (es : Entries) (size : ℕ) (rows : List Slot) → page_rows limit rows es size ≡ cut rows (page_cut limit es size (length rows))
page_is limit None size rows = refl
page_is limit (Some es) size rows = refl

map_twice : {A B C : Type 0} (f : B → C) (g : A → B) (xs : List A) → map f (map g xs) ≡ map (λ x. f (g x)) xs
map_twice f g [] = refl
map_twice f g (x ∷ xs) = ap (λ ys. f (g x) ∷ ys) (map_twice f g xs)

zip_maps : {A B C : Type 0} (P : List B → OutPage → Type 0) (Q : List C → OutPage → Type 0) (f : A → B) (h : A → C) (ps : List (List A)) (os : List OutPage) → ((q : List A) (o : OutPage) → P (map f q) o → Q (map h q) o) → AllZip P (map (map f) ps) os → AllZip Q (map (map h) ps) os
zip_maps P Q f h [] [] to z = tt
zip_maps P Q f h [] (o ∷ os) to z = absurd z
zip_maps P Q f h (p ∷ ps) [] to z = absurd z
zip_maps P Q f h (p ∷ ps) (o ∷ os) to z = (to p o z.0, zip_maps P Q f h ps os to z.1)

-- statistics of the same column
statistics_moved : (b b' : Bool) (t t' : LeafType) (p p' : Physical) (es es' : Entries) (st : Option Statistics) (xs ys : List Triple) → b ≡ b' → t ≡ t' → p ≡ p' → es ≡ es' → xs ≡ ys → HasStatistics b t p st xs (bounded es xs) → HasStatistics b' t' p' st ys (bounded es' ys)
statistics_moved b b' t t' p p' es es' st xs ys i j k m l h =
    subst (λ (x : Bool). HasStatistics x t' p' st ys (bounded es' ys)) i
    (subst (λ (x : LeafType). HasStatistics b x p' st ys (bounded es' ys)) j
    (subst (λ (x : Physical). HasStatistics b t x st ys (bounded es' ys)) k
    (subst (λ (x : Entries). HasStatistics b t p st ys (bounded x ys)) m (subst (λ (x : List Triple). HasStatistics b t p st x (bounded es x)) l h))))

-- what is stored, and the pieces as a column with these entries has them
by_pieces : (limit : Option ℕ) (es : Entries) (t : LeafType) (p : Physical) (ts : List Triple) (rows : List Slot) (pieces : List (List Slot)) → ArePieces es limit t p ts rows pieces
    → (stored : List Triple) × AreStored t p ts stored × (pieces ≡ page_rows (page_limit limit) rows es (plain_length p (values_in stored)))
by_pieces limit None t p ts rows pieces h = (h.stored, h.are_stored, h.by_rule)
by_pieces limit (Some es) t p ts rows pieces h = (h.stored, h.are_stored, h.one)

-- ---- a column of a schema

-- what is seen of a field's slots along a way has the column that the schema's rows have
seen_rows : (w : Way) (i : ℕ) (rows : List Slots) → column (thin w) (map (λ row. along w (slot_at row i)) rows) ≡ column (in_struct false i w) (map fields rows)
seen_rows w i rows = ap (column (thin w)) (sym (map_twice (along w) (λ row. slot_at row i) rows)) ∙ (seen_along w (field_slots i rows) ∙ sym (own_columns i w rows))

-- The chunk that a column is, is laid out as the rows of the schema are to be.
pub laid : ColumnsAreLaid
laid o node parts a e g version l chunk c i w rows h s k way kind =
    let t = h.type_ in
    let p = h.pages in
    let es = leaf_entries a in
    let own = leaf_type (type_of a) in
    let f : Slots → Slot = λ row. along w (slot_at row i) in
    let here : rows_of parts a ≡ map f rows = s.slots ∙ map_twice (along w) (λ row. slot_at row i) rows in
    let limit = page_limit o.data_pagesize_limit in
    let by = by_pieces o.data_pagesize_limit es own (physical_view t.physical_type) (column (path_way parts) (rows_of parts a)) (rows_of parts a) g.pieces p.pieces in
    let stored : List Triple = by.0 in
    let size = plain_length (physical_view t.physical_type) (values_in stored) in
    let physical : l.physical ≡ physical_view t.physical_type = k.leaf.physical ∙ p.physical in
    let type_is : g.type ≡ leaf_type c.data_type = p.type ∙ kind in
    let thin_way : g.way ≡ thin w = p.way ∙ s.way in
    let column_is : (q : List Slots) → column g.way (map f q) ≡ column c.way (map fields q) = λ q. ap (λ (x : Way). column x (map f q)) thin_way ∙ (seen_rows w i q ∙ ap (λ (x : Way). column x (map fields q)) (sym way)) in
    let all : column (path_way parts) (rows_of parts a) ≡ column c.way (map fields rows) = ap (λ (x : Way). column x (rows_of parts a)) (sym p.way) ∙ (ap (column g.way) here ∙ column_is rows) in
    let count : length (rows_of parts a) ≡ length (map fields rows) = ap length here ∙ (length-map rows f ∙ sym (length-map rows fields)) in
    let n : Option ℕ = page_cut limit es size (length (rows_of parts a)) in
    let given : g.pieces ≡ map (map f) (cut rows n) = by.2 ∙ (page_is limit es size (rows_of parts a) ∙ (ap (λ (xs : List Slot). cut xs n) here ∙ parts_map f n rows)) in
    let asked : page_rows limit (map fields rows) es (plain_length l.physical (values_in stored)) ≡ map (map fields) (cut rows n) =
    page_is limit es (plain_length l.physical (values_in stored)) (map fields rows) ∙ ((λ j. cut (map fields rows) (page_cut limit es (plain_length (physical j) (values_in stored)) (sym count j))) ∙ parts_map fields n rows) in
    let wanted : g.options.write_statistics ≡ o.write_statistics = ap (λ (x : WriteOptions). x.write_statistics) p.options in
    let one : (q : List Slots) (y : OutPage) → IsPageOf g.options.write_statistics g.encoding g.type g.physical g.way g.entries (map f q) y → IsPageOfRows (style_of o) g.encoding (record { arrow = c; physical = l.physical; entries = es }) (map fields q) y = λ q y z. record {
      triples = subst (λ (v : LeafType). AreStored v l.physical (column c.way (map fields q)) y.triples) type_is
          (subst (λ (v : Physical). AreStored g.type v (column c.way (map fields q)) y.triples) (sym k.leaf.physical)
          (subst (λ (ts : List Triple). AreStored g.type g.physical ts y.triples) (column_is q) z.triples));
      encoding = z.encoding;
      statistics =
          statistics_moved g.options.write_statistics o.write_statistics g.type (leaf_type c.data_type) g.physical l.physical g.entries es y.statistics (column g.way (map f q)) (column c.way (map fields q)) wanted type_is (sym k.leaf.physical) p.entries (column_is q) z.statistics;
    } in (
      used_is c es e g.encoding parts own i w p.encoding kind way s.way s.in_bounds,
      record {
        stored = stored;
        are_stored = subst (λ (y : LeafType). AreStored y l.physical (column c.way (map fields rows)) stored) kind
            (subst (λ (y : Physical). AreStored own y (column c.way (map fields rows)) stored) (sym physical)
            (subst (λ (ts : List Triple). AreStored own (physical_view t.physical_type) ts stored) all by.1));
        entries =
            let same : chunk.entries ≡ stored_list own (physical_view t.physical_type) es = k.entries ∙ (λ j. stored_list (p.type j) (p.physical j) (p.entries j)) in
            subst (λ (vs : Option (List Value)). AreStoredEntries (leaf_type c.data_type) l.physical es vs) (sym same)
            (subst (λ (y : LeafType). AreStoredEntries y l.physical es (stored_list own (physical_view t.physical_type) es)) kind
            (subst (λ (y : Physical). AreStoredEntries own y es (stored_list own (physical_view t.physical_type) es)) (sym physical) p.stored_entries));
        pages = subst (λ (ps : List (List Slot)). AllZip (IsPageOfRows (style_of o) g.encoding (record { arrow = c; physical = l.physical; entries = es })) ps chunk.pages) (sym asked)
            (zip_maps (IsPageOf g.options.write_statistics g.encoding g.type g.physical g.way g.entries) (IsPageOfRows (style_of o) g.encoding (record { arrow = c; physical = l.physical; entries = es })) f fields (cut rows n) chunk.pages one
            (subst (λ (ps : List (List Slot)). AllZip (IsPageOf g.options.write_statistics g.encoding g.type g.physical g.way g.entries) ps chunk.pages) given k.pages));
        statistics =
            statistics_moved g.options.write_statistics o.write_statistics g.type (leaf_type c.data_type) g.physical l.physical g.entries es chunk.statistics (column g.way g.rows) (column c.way (map fields rows)) wanted type_is (sym k.leaf.physical) p.entries
            (ap (column g.way) (p.rows ∙ here) ∙ column_is rows) k.statistics;
      },
    )
