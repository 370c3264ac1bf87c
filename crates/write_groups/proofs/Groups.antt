-- The columns of a group as chunks of a file.
use Rattle.std.proofs.Common.{◌≡◌, ℕ, ◌<◌, List, [], ◌∷◌, ◌++◌, length, Option, None, Some, refl, sym, subst, ◌∙◌, arith}
use Rattle.std.specs.List.{AllByRecursion as Each}
use Rattle.std.proofs.lemmas.List.Elements.{recursion_from_All, All-from_recursion}
use Rattle.columns_array.specs.Chunks.{AreEven, HaveLen}
use Rattle.columns_slots.proofs.Rows.{slots_counted}
use Rattle.columns_slots.specs.Slots.{slots, tree_len, first_len}
use Rattle.columns_slots.specs.Tree.{ArrayTree, null_array, leaf_array, list_array, fixed_list_array, struct_array, dictionary_array, ArrayTrees, no_arrays, more_arrays}
use Rattle.nested_paths.specs.Laws.{PathsHaveLevels}
use Rattle.nested_paths.specs.Nodes.{given, field_nodes}
use Rattle.nested_paths.specs.Seen.{read_by, read_all}
use Rattle.pq_files.specs.Layout.{OutChunk, OutGroup}
use Rattle.pq_files.specs.Packed.{HasRows, triples_out}
use Rattle.pq_files.specs.Page.{rows_in}
use Rattle.pq_tree.specs.Tree.{Leaf, Tree, Trees, no_trees, tree, leaves, leaves_of}
use Rattle.pq_tree.specs.declared.types.Encoding.{Encoding}
use Rattle.pq_tree.specs.declared.version.Version.{Version}
use Rattle.write_file.specs.Pages.{AllGive}
use Rattle.write_pages.specs.declared.options.WriteOptions.{WriteOptions}
use Rattle.write_groups.proofs.Chunks.{AllChunked, all_chunked}
use Rattle.write_groups.specs.Columns.{AreGroupColumns, IsFresh}
use Rattle.write_groups.specs.Given.{BeginsColumn}
use Rattle.write_groups.specs.declared.column.ChunkColumn.{ChunkColumn}

-- ---- an array has as many slots however its masks are looked at

of_given : (cs : ArrayTrees) (o : Option Trees) → ((ns : Trees) → first_len (read_all cs ns) ≡ first_len cs) → first_len (given cs (read_all cs) o) ≡ first_len cs
of_given cs None h = refl
of_given cs (Some ns) h = h ns

mutual
  pub read_len : (a : ArrayTree) (node : Tree) → tree_len (read_by a node) ≡ tree_len a
  read_len (null_array t n) node = refl
  read_len (leaf_array t vs m) node = refl
  read_len (list_array t os c m) node = refl
  read_len (fixed_list_array t w n c m) node = refl
  read_len (struct_array t cs m) node = of_given cs (field_nodes node) (λ ns. read_first cs ns)
  read_len (dictionary_array t ks c m) node = refl

  pub read_first : (cs : ArrayTrees) (nodes : Trees) → first_len (read_all cs nodes) ≡ first_len cs
  read_first no_arrays nodes = refl
  read_first (more_arrays c cs) no_trees = refl
  read_first (more_arrays c cs) (tree node nodes) = read_len c node

pub read_slots : (a : ArrayTree) (node : Tree) → length (slots (read_by a node)) ≡ tree_len a
read_slots a node = slots_counted (read_by a node) ∙ read_len a node

pub even_len : (cs : ArrayTrees) → AreEven cs → HaveLen (first_len cs) cs
even_len no_arrays h = tt
even_len (more_arrays c cs) h = (refl, h)

-- ---- field after field

both_give : (version : Version) (ls ls' : List Leaf) (cs cs' : List OutChunk) (ss ss' : List ChunkColumn) → AllGive BeginsColumn version ls cs ss → AllGive BeginsColumn version ls' cs' ss' → AllGive BeginsColumn version (ls ++ ls') (cs ++ cs') (ss ++ ss')
both_give version [] ls' [] cs' [] ss' h g = g
both_give version (l ∷ ls) ls' (c ∷ cs) cs' (s ∷ ss) ss' h g = (h.0, h.1, both_give version ls ls' cs cs' ss ss' h.2 g)
both_give version [] ls' [] cs' (s ∷ ss) ss' h g = absurd h
both_give version [] ls' (c ∷ cs) cs' ss ss' h g = absurd h
both_give version (l ∷ ls) ls' [] cs' ss ss' h g = absurd h
both_give version (l ∷ ls) ls' (c ∷ cs) cs' [] ss' h g = absurd h

each_of_both : {A : Type 0} (P : A → Type 0) (xs ys : List A) → Each P xs → Each P ys → Each P (xs ++ ys)
each_of_both P [] ys h g = g
each_of_both P (x ∷ xs) ys h g = (h.0, each_of_both P xs ys h.1 g)

pub group_chunks : (o : WriteOptions) (cs : ArrayTrees) (ts : Trees) (ess : List (List Encoding)) (columns : List ChunkColumn) (n : ℕ) → PathsHaveLevels → AreGroupColumns o cs ts ess columns → HaveLen n cs → 0 < n → AllChunked o.version (leaves_of ts) columns n
group_chunks o no_arrays no_trees [] columns n law h even some =
    record { chunks = []; give = subst (λ (ss : List ChunkColumn). AllGive BeginsColumn o.version [] [] ss) (sym h) tt; counted = tt }
group_chunks o (more_arrays a cs) (tree t ts) (es ∷ ess) columns n law h even some =
    let f = h.3 in
    let long : length (slots (read_by a t)) ≡ n = read_slots a t ∙ even.0 in
    let mine = all_chunked o (leaves t) (slots (read_by a t)) _ _ _ es h.0 f.are (law a t f.fits) f.seen (recursion_from_All IsFresh h.0 f.fresh) (omega (arith, some, long)) in
    let rest = group_chunks o cs ts ess h.1 n law h.4 even.1 some in
    let count : OutChunk → Type 0 = λ c. rows_in (triples_out c) ≡ n in
    record {
      chunks = mine.chunks ++ rest.chunks;
      give = subst (λ (ss : List ChunkColumn). AllGive BeginsColumn o.version (leaves t ++ leaves_of ts) (mine.chunks ++ rest.chunks) ss) (sym h.2) (both_give o.version (leaves t) (leaves_of ts) mine.chunks rest.chunks h.0 h.1 mine.give rest.give);
      counted = each_of_both count mine.chunks rest.chunks (subst (λ (k : ℕ). Each (λ c. rows_in (triples_out c) ≡ k) mine.chunks) long mine.counted) rest.counted;
    }
group_chunks o no_arrays no_trees (es ∷ ess) columns n law h even some = absurd h
group_chunks o no_arrays (tree t ts) ess columns n law h even some = absurd h
group_chunks o (more_arrays a cs) no_trees ess columns n law h even some = absurd h
group_chunks o (more_arrays a cs) (tree t ts) [] columns n law h even some = absurd h

pub has_rows : (g : OutGroup) (n : ℕ) → g.rows ≡ n → Each (λ (c : OutChunk). rows_in (triples_out c) ≡ n) g.chunks → HasRows g
has_rows g n e h = All-from_recursion (λ (c : OutChunk). rows_in (triples_out c) ≡ g.rows) g.chunks (subst (λ (k : ℕ). Each (λ c. rows_in (triples_out c) ≡ k) g.chunks) (sym e) h)
