-- A group of arrays is laid out by the row rule.
use Rattle.std.proofs.Common.{◌≡◌, ℕ, zero, suc, ◌+◌, Bool, false, List, [], ◌∷◌, ◌++◌, length, map, None, refl, sym, ap, subst, ◌∙◌, arith}
use Rattle.std.proofs.lemmas.List.{map-append}
use Rattle.shredding.specs.Shape.{Way, in_struct, ways}
use Rattle.shredding.specs.Slot.{Slots}
use Rattle.columns_array.specs.Chunks.{HaveLen}
use Rattle.columns_core.specs.Tree.{TypeTree, field, FieldTrees, no_fields, more_fields}
use Rattle.columns_slots.specs.Slots.{slots, tree_len, first_len, AreTyped, type_of}
use Rattle.columns_slots.specs.Tree.{ArrayTree, null_array, leaf_array, list_array, fixed_list_array, struct_array, dictionary_array, ArrayTrees, no_arrays, more_arrays}
use Rattle.nested_paths.specs.Leaves.{array_leaves, leaves_in, node_of}
use Rattle.nested_paths.specs.Paths.{misfit}
use Rattle.nested_paths.specs.Seen.{read_all, read_by, shape_by}
use Rattle.pq_files.specs.Layout.{OutChunk}
use Rattle.pq_files.specs.Page.{Encoding}
use Rattle.pq_headline.proofs.RowsOf.{field_of, length_rows}
use Rattle.pq_headline.specs.Arrays.{all_entries, array_at, entries_in, rows_of}
use Rattle.pq_headline.specs.Columns.{ArrowColumn, beneath_struct, type_columns, columns_from}
use Rattle.pq_headline.specs.Output.{AreLaid, Style}
use Rattle.pq_headline.specs.Rows.{field_slots}
use Rattle.pq_tree.specs.Tree.{Leaf, Trees, no_trees, tree, leaves, leaves_of}
use Rattle.pq_tree.specs.declared.types.Encoding.{Encoding as Asked}
use Rattle.pq_tree.specs.declared.version.Version.{Version}
use Rattle.schema_to_tree.specs.Table.{trees_of}
use Rattle.typed_arrays.specs.Typed.{AreAlong, TypedColumnsAreOwn, node}
use Rattle.write_file.specs.Pages.{AllGive}
use Rattle.write_pages.specs.Columns.{AreColumns}
use Rattle.write_pages.specs.Entries.{Entries, leaf_entries}
use Rattle.write_pages.specs.declared.options.WriteOptions.{WriteOptions}
use Rattle.write_groups.proofs.FieldLaid.{field_laid}
use Rattle.write_groups.proofs.Groups.{even_len, read_first, read_len}
use Rattle.write_groups.specs.Columns.{AreFieldColumns, AreGroupColumns}
use Rattle.write_groups.specs.Given.{BeginsColumn, to_come}
use Rattle.write_groups.specs.Laid.{AreOwnColumns, AreUsed, GroupsAreLaid, all_names, encodings_of, style_of}
use Rattle.write_groups.specs.declared.column.ChunkColumn.{ChunkColumn}

-- ---- parts of a group

record Halves (version : Version) (ls ks : List Leaf) (chunks : List OutChunk) (ss ts : List ChunkColumn) : Type 0 where
  pub first : List OutChunk
  pub others : List OutChunk
  pub parts : chunks ≡ first ++ others
  pub mine : AllGive BeginsColumn version ls first ss
  pub theirs : AllGive BeginsColumn version ks others ts

halves : (version : Version) (ls ks : List Leaf) (chunks : List OutChunk) (ss ts : List ChunkColumn) → length ls ≡ length ss → AllGive BeginsColumn version (ls ++ ks) chunks (ss ++ ts) → Halves version ls ks chunks ss ts
halves version [] ks chunks [] ts e h = record { first = []; others = chunks; parts = refl; mine = tt; theirs = h }
halves version [] ks chunks (s ∷ ss) ts e h = absurd (omega (arith, e))
halves version (l ∷ ls) ks chunks [] ts e h = absurd (omega (arith, e))
halves version (l ∷ ls) ks [] (s ∷ ss) ts e h = absurd h
halves version (l ∷ ls) ks (c ∷ chunks) (s ∷ ss) ts e h =
    let r = halves version ls ks chunks ss ts (omega (arith, e)) h.2 in
    record { first = c ∷ r.first; others = r.others; parts = ap (λ (xs : List OutChunk). c ∷ xs) r.parts; mine = (h.0, h.1, r.mine); theirs = r.theirs }

as_many : (o : WriteOptions) (ls : List Leaf) (ps : List _) (arrays : List ArrayTree) (es : List Asked) (ss : List ChunkColumn) → AreColumns o (map node_of ls) ps arrays es (map to_come ss) → length ls ≡ length ss
as_many o [] [] [] [] [] h = refl
as_many o (l ∷ ls) (p ∷ ps) (a ∷ arrays) (e ∷ es) (s ∷ ss) h = ap suc (as_many o ls ps arrays es ss h.1)
as_many o ls ps arrays es ss h = absurd h

-- the columns are laid out, in the encodings that are used
abbrev AreBoth : Style → List Slots → List ArrowColumn → List Leaf → List Entries → List Asked → List Encoding → List OutChunk → Type 0
AreBoth s rows cs ls ds es xs chunks = AreUsed cs ds es xs × AreLaid s rows cs ls xs ds chunks

both_used : (cs cs' : List ArrowColumn) (ds ds' : List Entries) (es es' : List Asked) (xs xs' : List Encoding) → AreUsed cs ds es xs → AreUsed cs' ds' es' xs' → AreUsed (cs ++ cs') (ds ++ ds') (es ++ es') (xs ++ xs')
both_used [] cs' [] ds' [] es' [] xs' h g = g
both_used (c ∷ cs) cs' (d ∷ ds) ds' (e ∷ es) es' (x ∷ xs) xs' h g = (h.0, both_used cs cs' ds ds' es es' xs xs' h.1 g)
both_used cs cs' ds ds' es es' xs xs' h g = absurd h

both_laid : (s : Style) (rows : List Slots) (cs cs' : List ArrowColumn) (ls ls' : List Leaf) (es es' : List Encoding) (ds ds' : List Entries) (xs xs' : List OutChunk) → AreLaid s rows cs ls es ds xs → AreLaid s rows cs' ls' es' ds' xs' → AreLaid s rows (cs ++ cs') (ls ++ ls') (es ++ es') (ds ++ ds') (xs ++ xs')
both_laid s rows [] cs' [] ls' [] es' [] ds' [] xs' h g = g
both_laid s rows (c ∷ cs) cs' (l ∷ ls) ls' (e ∷ es) es' (d ∷ ds) ds' (x ∷ xs) xs' h g = (h.0, both_laid s rows cs cs' ls ls' es es' ds ds' xs xs' h.1 g)
both_laid s rows cs cs' ls ls' es es' ds ds' xs xs' h g = absurd h

arrays_many : (o : WriteOptions) (ls : List Leaf) (ps : List _) (arrays : List ArrayTree) (es : List Asked) (ss : List ChunkColumn) → AreColumns o (map node_of ls) ps arrays es (map to_come ss) → length arrays ≡ length ls
arrays_many o [] [] [] [] [] h = refl
arrays_many o (l ∷ ls) (p ∷ ps) (a ∷ arrays) (e ∷ es) (s ∷ ss) h = ap suc (arrays_many o ls ps arrays es ss h.1)
arrays_many o ls ps arrays es ss h = absurd h

along_many : (ws : List Way) (arrays : List ArrayTree) (cs : List ArrowColumn) → AreAlong ws arrays cs → length cs ≡ length arrays
along_many [] [] [] h = refl
along_many (w ∷ ws) (a ∷ arrays) (c ∷ cs) h = ap suc (along_many ws arrays cs h.2)
along_many [] [] (c ∷ cs) h = absurd h
along_many [] (a ∷ arrays) cs h = absurd h
along_many (w ∷ ws) [] cs h = absurd h
along_many (w ∷ ws) (a ∷ arrays) [] h = absurd h

-- ---- the entries of its leaves

mutual
  own_entries : (a : ArrayTree) → map leaf_entries (array_leaves a) ≡ entries_in a
  own_entries (null_array t n) = refl
  own_entries (leaf_array t vs m) = refl
  own_entries (list_array t os c m) = own_entries c
  own_entries (fixed_list_array t w n c m) = own_entries c
  own_entries (struct_array t cs m) = all_own cs
  own_entries (dictionary_array t ks c m) = refl

  all_own : (cs : ArrayTrees) → map leaf_entries (leaves_in cs) ≡ all_entries cs
  all_own no_arrays = refl
  all_own (more_arrays c cs) = map-append leaf_entries (array_leaves c) (leaves_in cs) ∙ (λ i. own_entries c i ++ all_own cs i)

-- ---- field after field

own_beneath : (place : ℕ) (ws : List Way) (arrays : List ArrayTree) (cs : List ArrowColumn) → AreAlong ws arrays cs → AreOwnColumns place ws arrays (map (beneath_struct false place) cs)
own_beneath place [] [] [] h = tt
own_beneath place (w ∷ ws) (a ∷ arrays) (c ∷ cs) h = (ap (in_struct false place) h.0, h.1, own_beneath place ws arrays cs h.2)
own_beneath place [] [] (c ∷ cs) h = absurd h
own_beneath place [] (a ∷ arrays) cs h = absurd h
own_beneath place (w ∷ ws) [] cs h = absurd h
own_beneath place (w ∷ ws) (a ∷ arrays) [] h = absurd h

pub along_own : TypedColumnsAreOwn → (o : WriteOptions) (name : List ℕ) (b : Bool) (t : TypeTree) (c : ArrayTree) (es : List Asked) (mine : List ChunkColumn) → t ≡ type_of c → AreFieldColumns o c (node name b t) es mine → AreAlong (ways (shape_by c (node name b t))) (array_leaves c) (type_columns b t)
along_own own o name b t c es mine typed f =
    subst (λ (x : TypeTree). AreAlong (ways (shape_by c (node name b x))) (array_leaves c) (type_columns b x)) (sym typed) (own c name b f.sound (subst (λ (x : TypeTree). misfit c (node name b x) ≡ None) typed f.fits))

-- as many columns as leaves
pub columns_many : TypedColumnsAreOwn → (o : WriteOptions) (name : List ℕ) (b : Bool) (t : TypeTree) (c : ArrayTree) (es : List Asked) (mine : List ChunkColumn) → t ≡ type_of c → AreFieldColumns o c (node name b t) es mine → length (type_columns b t) ≡ length (leaves (node name b t))
columns_many own o name b t c es mine typed f =
    along_many _ (array_leaves c) (type_columns b t) (along_own own o name b t c es mine typed f) ∙ arrays_many o (leaves (node name b t)) _ (array_leaves c) es mine f.are

-- an array has as many positions as its tree reads of it
len_at : (j : ℕ) (cs : ArrayTrees) (ts : Trees) → tree_len (array_at j (read_all cs ts)) ≡ tree_len (array_at j cs)
len_at j no_arrays ts = refl
len_at zero (more_arrays c cs) no_trees = refl
len_at zero (more_arrays c cs) (tree t ts) = read_len c t
len_at (suc j) (more_arrays c cs) no_trees = refl
len_at (suc j) (more_arrays c cs) (tree t ts) = len_at j cs ts

all_laid : TypedColumnsAreOwn → (o : WriteOptions) (version : Version) (rows : List Slots) (fs : FieldTrees) (cs : ArrayTrees) (ess : List (List Asked)) (columns : List ChunkColumn) (chunks : List OutChunk) (place : ℕ)
    → AreGroupColumns o cs (trees_of fs) ess columns → AllGive BeginsColumn version (leaves_of (trees_of fs)) chunks columns → AreTyped fs cs → HaveLen (length rows) cs
    → ((j : ℕ) → tree_len (array_at j cs) ≡ length rows → field_slots (place + j) rows ≡ slots (array_at j (read_all cs (trees_of fs))))
    → AreBoth (style_of o) rows (columns_from false place fs) (leaves_of (trees_of fs)) (all_entries cs) (all_names ess) (encodings_of columns) chunks
all_laid own o version rows no_fields no_arrays [] [] [] place h give typed even own_slots = (tt, tt)
all_laid own o version rows (more_fields (field name t b md) fs) (more_arrays c cs) (es ∷ ess) columns chunks place h give typed even own_slots =
    let f = h.3 in
    let ls = leaves (node name b t) in
    let ks = leaves_of (trees_of fs) in
    let own_columns = map (beneath_struct false place) (type_columns b t) in
    let others = columns_from false (suc place) fs in
    let here : place + 0 ≡ place = omega arith in
    let two = halves version ls ks chunks h.0 h.1 (as_many o ls _ _ es h.0 f.are) (subst (λ (ss : List ChunkColumn). AllGive BeginsColumn version (ls ++ ks) chunks ss) h.2 give) in
    let readable : slots (read_by c (node name b t)) ≡ field_slots place rows = sym (ap (λ (n : ℕ). field_slots n rows) (sym here) ∙ own_slots 0 even.0) in
    let mine = field_laid o c (node name b t) es h.0 version two.first own_columns place rows f two.mine readable (own_beneath place _ (array_leaves c) (type_columns b t) (along_own own o name b t c es h.0 typed.0 f)) in
    let theirs = all_laid own o version rows fs cs ess h.1 two.others (suc place) h.4 two.theirs typed.1 even.1 (λ j q. ap (λ (n : ℕ). field_slots n rows) (next place j) ∙ own_slots (suc j) q) in
    let ds = map leaf_entries (array_leaves c) in
    let whole : AreBoth (style_of o) rows (own_columns ++ others) (ls ++ ks) (ds ++ all_entries cs) (es ++ all_names ess) (encodings_of h.0 ++ encodings_of h.1) (two.first ++ two.others) = (
      both_used own_columns others ds (all_entries cs) es (all_names ess) (encodings_of h.0) (encodings_of h.1) mine.0 theirs.0,
      both_laid (style_of o) rows own_columns others ls ks (encodings_of h.0) (encodings_of h.1) ds (all_entries cs) two.first two.others mine.1 theirs.1,
    ) in
    subst (λ (q : List Entries). AreBoth (style_of o) rows (own_columns ++ others) (ls ++ ks) (q ++ all_entries cs) (es ++ all_names ess) (encodings_of columns) chunks) (own_entries c)
    (subst (λ (q : List Encoding). AreBoth (style_of o) rows (own_columns ++ others) (ls ++ ks) (ds ++ all_entries cs) (es ++ all_names ess) q chunks) (sym (ap encodings_of h.2 ∙ map-append (λ (s : ChunkColumn). (to_come s).encoding) h.0 h.1))
    (subst (λ (q : List OutChunk). AreBoth (style_of o) rows (own_columns ++ others) (ls ++ ks) (ds ++ all_entries cs) (es ++ all_names ess) (encodings_of h.0 ++ encodings_of h.1) q) (sym two.parts) whole))
  where
    next : (place j : ℕ) → suc place + j ≡ place + suc j
    next place j = omega arith
all_laid own o version rows no_fields no_arrays [] (x ∷ columns) chunks place h give typed even own_slots = absurd cc
all_laid own o version rows no_fields no_arrays [] [] (x ∷ chunks) place h give typed even own_slots = absurd give
all_laid own o version rows no_fields no_arrays (es ∷ ess) columns chunks place h give typed even own_slots = absurd h
all_laid own o version rows no_fields (more_arrays c cs) ess columns chunks place h give typed even own_slots = absurd typed
all_laid own o version rows (more_fields (field x t y z) fs) no_arrays ess columns chunks place h give typed even own_slots = absurd typed
all_laid own o version rows (more_fields (field x t y z) fs) (more_arrays c cs) [] columns chunks place h give typed even own_slots = absurd h

pub group_laid : TypedColumnsAreOwn → GroupsAreLaid
group_laid own fs g out typed even trees h is =
    let rs = read_all g.chunk (trees_of fs) in
    let rows = rows_of rs in
    let n : first_len g.chunk ≡ length rows = sym (length_rows rs ∙ read_first g.chunk (trees_of fs)) in
    let both = all_laid own g.options g.options.version rows fs g.chunk (map (λ es. es.items) g.encodings.items) g.columns.items out.chunks 0
    (subst (λ (ts : Trees). AreGroupColumns g.options g.chunk ts (map (λ es. es.items) g.encodings.items) g.columns.items) trees h) is.columns typed (subst (λ (k : ℕ). HaveLen k g.chunk) n (even_len g.chunk even))
    (λ j q. ap (λ (k : ℕ). field_slots k rows) (omega arith) ∙ field_of j rs (len_at j g.chunk (trees_of fs) ∙ (q ∙ length_rows rs))) in
    record { used = both.0; laid = record { rows_are = is.rows ∙ n; columns = both.1 } }
