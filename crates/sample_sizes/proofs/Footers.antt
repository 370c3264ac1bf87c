-- How long the footers of files of the sample are.
use Rattle.std.proofs.Common.{◌≡◌, ℕ, suc, ◌+◌, ◌*◌, ◌^◌, ◌≤◌, ◌<◌, pos, Bool, true, false, List, [], ◌∷◌, All, length, map, Option, Some, None, sum_by, refl, sym, subst, ap, arith, rules}
use Rattle.std.specs.Prelude.{is_some, option_map}
use Rattle.std.specs.List.{AllByRecursion, AllZip}
use Rattle.std.proofs.lemmas.List.{length-map}
use Rattle.std.proofs.lemmas.List.Sums.{sum_by-cons}
use Rattle.shredding.specs.Slot.{Slot, Slots, fields}
use Rattle.pq_files.proofs.FooterLength.{footer_short}
use Rattle.pq_files.proofs.FooterRooms.{rooms_are_planned}
use Rattle.pq_files.specs.FooterRecord.{ColumnChunk, RowGroup}
use Rattle.pq_files.specs.Layout.{OutChunk, OutGroup}
use Rattle.pq_files.specs.Packed.{AreChunks, AreGroups, IsWrittenFile}
use Rattle.pq_files.specs.Page.{Encoding, plain, dictionary, delta, delta_length}
use Rattle.pq_files.specs.Room.{footer_room, name_room}
use Rattle.pq_files.specs.Written.{Place, at_some, chunk_record, chunk_value, elements_of, encoding_in, encodings_of, footer_record, footer_value, group_record, group_value, statistics_value}
use Rattle.pq_headline.specs.Columns.{ArrowColumn, schema_columns}
use Rattle.pq_headline.specs.Output.{Style}
use Rattle.pq_thrift.specs.Grammar.{count}
use Rattle.pq_thrift.specs.Value.{Value, binary, int16, int32, int64, Fields, no_fields, values_of}
use Rattle.pq_tree.specs.Tree.{Leaf, columns_of}
use Rattle.pq_tree.specs.declared.version.Version.{Version}
use Rattle.sample_rows.specs.Fields.{sample_fields, sample_tree}
use Rattle.sample_sizes.proofs.Fine.{IsFine}
use Rattle.sample_sizes.proofs.Fitting.{EachListFits, FieldListsFit, ListsFit, spelled_fits}
use Rattle.sample_sizes.proofs.Headers.{statistics_lists}
use Rattle.sample_sizes.proofs.Neat.{AreNeat}
use Rattle.sample_sizes.proofs.Rooms.{footer_few, neat_group}
use Rattle.sample_sizes.specs.Laid.{IsLaidOut}
use Rattle.sample_sizes.specs.Rows.{IsRow}
use Rattle.schema_codec.specs.Spelling.{plain_bytes}
use Rattle.schema_key.specs.Key.{schema_entry}
use Rattle.schema_to_tree.specs.Table.{schema_of}

-- ---- lists of values
count_of : {A : Type 0} (f : A → Value) (xs : List A) → count (values_of (map f xs)) ≡ length xs
count_of f [] = refl
count_of f (x ∷ xs) = ap suc (count_of f xs)

each_of : {A : Type 0} (f : A → Value) → ((x : A) → ListsFit (f x)) → (xs : List A) → EachListFits (values_of (map f xs))
each_of f h [] = tt
each_of f h (x ∷ xs) = (h x, each_of f h xs)

some_lists : {A : Type 0} (id : ℕ) (f : A → Value) (o : Option A) (fs : Fields) → ((x : A) → ListsFit (f x)) → FieldListsFit fs → FieldListsFit (at_some id (option_map f o) fs)
some_lists id f None fs h k = k
some_lists id f (Some x) fs h k = (h x, k)

-- ---- a column
few_names : (names : List (List ℕ)) → length names ≤ sum_by name_room names
few_names [] = omega arith
few_names (n ∷ ns) = omega (arith, sum_by-cons name_room n ns, few_names ns)

few_encodings : (e : Encoding) (b : Bool) → length (encodings_of e b) ≤ 20
few_encodings plain b = omega arith
few_encodings dictionary true = omega arith
few_encodings dictionary false = omega arith
few_encodings delta true = omega arith
few_encodings delta false = omega arith
few_encodings delta_length true = omega arith
few_encodings delta_length false = omega arith

chunk_lists : (c : ArrowColumn) (l : Leaf) (o : OutChunk) (w : Place) → IsFine c l → ListsFit (chunk_value (chunk_record l o w))
chunk_lists c l o w f =
    let m = (chunk_record l o w).meta_data in
    let own : List ℕ = encodings_of (encoding_in o.pages) (is_some o.entries) in
    let encodings : count (values_of (map int32 m.encodings)) < 2 ^ 64 = omega (arith, count_of int32 m.encodings, length-map own (λ n. pos n), few_encodings (encoding_in o.pages) (is_some o.entries)) in
    let path : count (values_of (map binary m.path_in_schema)) < 2 ^ 64 = omega (arith, count_of binary m.path_in_schema, few_names m.path_in_schema, f.names) in
    let rest : FieldListsFit (at_some 11 (option_map int64 m.dictionary_page_offset) (at_some 12 (option_map statistics_value m.statistics) no_fields)) =
    some_lists 11 int64 m.dictionary_page_offset _ (λ z. tt) (statistics_lists 12 o.statistics) in
    (tt, ((tt, ((encodings, each_of int32 (λ z. tt) m.encodings), ((path, each_of binary (λ s. tt) m.path_in_schema), (tt, (tt, (tt, (tt, (tt, rest)))))))), tt))

record ChunksFit (n : ℕ) (metas : List ColumnChunk) : Type 0 where
  few : length metas ≡ n
  fit : EachListFits (values_of (map chunk_value metas))

chunks_lists : (version : Version) (ss : List Slot) (cs : List ArrowColumn) (ls : List Leaf) (outs : List OutChunk) (start : ℕ) (text : List ℕ) (metas : List ColumnChunk)
    → AreNeat ss cs ls outs → AreChunks version ls outs start text metas → ChunksFit (length cs) metas
chunks_lists version ss [] [] [] start text metas n h = subst (ChunksFit 0) (sym h.1) (record { few = refl; fit = tt })
chunks_lists version ss [] [] (o ∷ os) start text metas n h = absurd n
chunks_lists version ss [] (l ∷ ls) os start text metas n h = absurd n
chunks_lists version ss (c ∷ cs) [] os start text metas n h = absurd n
chunks_lists version ss (c ∷ cs) (l ∷ ls) [] start text metas n h = absurd n
chunks_lists version ss (c ∷ cs) (l ∷ ls) (o ∷ os) start text [] n h = absurd h
chunks_lists version ss (c ∷ cs) (l ∷ ls) (o ∷ os) start text (meta ∷ metas) n h =
    let rest = chunks_lists version ss cs ls os (start + length h.0) h.1 metas n.2 h.6 in
    record { few = ap suc rest.few; fit = (subst (λ x. ListsFit (chunk_value x)) (sym h.5) (chunk_lists c l o h.2 n.0), rest.fit) }

-- ---- groups
group_lists : (i : ℕ) (columns : List ColumnChunk) (rows start size : ℕ) → ChunksFit 3 columns → ListsFit (group_value (group_record i columns rows start size))
group_lists i columns rows start size h =
    let few : count (values_of (map chunk_value columns)) < 2 ^ 64 = omega (arith, count_of chunk_value columns, h.few) in
    ((few, h.fit), (tt, (tt, (tt, (tt, some_lists 7 int16 (group_record i columns rows start size).ordinal no_fields (λ z. tt) tt)))))

record GroupsFit (n : ℕ) (groups : List RowGroup) : Type 0 where
  few : length groups ≡ n
  fit : EachListFits (values_of (map group_value groups))

groups_lists : (version : Version) (s : Style) (rowss : List (List Slots)) (outs : List OutGroup) (i start : ℕ) (text : List ℕ) (metas : List RowGroup) → AllByRecursion (All IsRow) rowss → AllZip (IsLaidOut s) rowss outs
    → AreGroups version (columns_of (schema_of sample_fields)) outs i start text metas → GroupsFit (length rowss) metas
groups_lists version s [] [] i start text metas a h k = subst (GroupsFit 0) (sym k.1) (record { few = refl; fit = tt })
groups_lists version s [] (o ∷ os) i start text metas a h k = absurd h
groups_lists version s (r ∷ rs) [] i start text metas a h k = absurd h
groups_lists version s (r ∷ rs) (o ∷ os) i start text [] a h k = absurd k
groups_lists version s (r ∷ rs) (o ∷ os) i start text (meta ∷ metas) a h k =
    let rest = groups_lists version s rs os (suc i) (start + length k.0) k.1 metas a.1 h.1 k.6 in
    let own = chunks_lists version (map fields r) (schema_columns sample_fields) (columns_of (schema_of sample_fields)) o.chunks start k.0 k.2 (neat_group s r o a.0 h.0) k.4 in
    record { few = ap suc rest.few; fit = (subst (λ x. ListsFit (group_value x)) (sym k.5) (group_lists i k.2 o.rows start (length k.0) own), rest.fit) }

-- ---- the footer
elements_fit : EachListFits (elements_of (schema_of sample_fields))
elements_fit = search (rules, arith)

footer_lists : (version : Version) (outs : List OutGroup) (groups : List RowGroup) (n : ℕ) → n ≤ 1000 → GroupsFit n groups
    → ListsFit (footer_value (footer_record version (schema_of sample_fields) (schema_entry (plain_bytes sample_tree) ∷ []) outs groups))
footer_lists version outs groups n h g =
    let few : count (values_of (map group_value groups)) < 2 ^ 64 = omega (arith, count_of group_value groups, g.few, h) in
    (tt, ((omega arith, elements_fit), (tt, ((few, g.fit), ((omega arith, ((tt, (tt, tt)), tt)), (tt, ((omega arith, ((tt, tt), ((tt, tt), ((tt, tt), tt)))), tt)))))))

pub footer_text : (version : Version) (s : Style) (rowss : List (List Slots)) (outs : List OutGroup) (bytes : List ℕ) → AllByRecursion (All IsRow) rowss → length rowss ≤ 1000 → AllZip (IsLaidOut s) rowss outs
    → (w : IsWrittenFile bytes (schema_of sample_fields) (schema_entry (plain_bytes sample_tree) ∷ []) version outs) → length w.footer ≤ 8000 + 1276 * length rowss
footer_text version s rowss outs bytes a few h w =
    let keys = schema_entry (plain_bytes sample_tree) ∷ [] in
    let m = footer_record version (schema_of sample_fields) keys outs w.row_groups in
    let planned = rooms_are_planned (schema_of sample_fields) keys version outs w.pages w.row_groups w.are in
    let room : footer_room m ≤ 8000 + 1276 * length rowss = omega (arith, planned.0, footer_few s rowss outs a h) in
    let fits = spelled_fits (footer_value m) w.footer (footer_lists version outs w.row_groups (length rowss) few (groups_lists version s rowss outs 0 4 w.pages w.row_groups a h w.are)) w.is_footer.spells in
    omega (arith, ap length w.is_footer.exact, footer_short m planned.1 (omega (arith, room, few)) fits, room)
