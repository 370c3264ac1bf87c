-- The columns of a field as chunks of a file.
use Rattle.std.proofs.Common.{◌≡◌, ℕ, ◌<◌, ◌≤◌, Bool, option_map, List, [], ◌∷◌, length, map, flat_map, Option, Some, None, refl, sym, ap, subst, ◌∙◌, arith}
use Rattle.std.specs.List.{AllByRecursion as Each}
use Rattle.std.specs.Prelude.{is_some, sum_by}
use Rattle.std.proofs.lemmas.List.{length-append, length-map}
use Rattle.std.proofs.lemmas.List.Sums.{sum_by-cons}
use Rattle.shredding.proofs.Counts.{counted as rows_are_counted}
use Rattle.shredding.specs.Along.{along}
use Rattle.shredding.specs.Parts.{Part}
use Rattle.shredding.specs.Shape.{LeafType, Way}
use Rattle.shredding.specs.Shred.{column, max_definition, max_repetition}
use Rattle.shredding.specs.Slot.{Slot}
use Rattle.columns_core.specs.Shapes.{leaf_type}
use Rattle.columns_slots.specs.Slots.{type_of}
use Rattle.columns_slots.specs.Tree.{ArrayTree}
use Rattle.nested_paths.specs.Leaves.{node_of}
use Rattle.nested_paths.specs.Levels.{path_levels, leaf_levels}
use Rattle.nested_paths.specs.Seen.{AreSeen, IsSeen}
use Rattle.pq_files.specs.Layout.{OutPage, OutChunk}
use Rattle.pq_files.specs.Packed.{triples_out}
use Rattle.pq_files.specs.Page.{rows_in}
use Rattle.pq_files.specs.Room.{max_count}
use Rattle.pq_files.specs.Stored.{AreStored, IsStoredTriple}
use Rattle.pq_files.specs.Written.{pairs_in, statistics_of}
use Rattle.pq_pages.specs.Denotes.{IsLeafAs}
use Rattle.pq_tree.specs.Footers.{ChunkStatistics}
use Rattle.pq_tree.specs.Physical.{Physical}
use Rattle.pq_tree.specs.Tree.{Leaf}
use Rattle.pq_tree.specs.Views.{physical_view}
use Rattle.pq_tree.specs.declared.types.Encoding.{Encoding}
use Rattle.pq_tree.specs.declared.version.Version.{Version}
use Rattle.write_pages.specs.Columns.{AreColumns, IsColumn, LeafNode}
use Rattle.write_pages.specs.Entries.{AreStatedWith, Entries, leaf_entries, owes_page, stored_list}
use Rattle.write_pages.specs.Holds.{ArePieces, ToGive, rows_of}
use Rattle.write_pages.specs.declared.options.WriteOptions.{WriteOptions}
use Rattle.write_groups.proofs.Kept.{Kept, kept}
use Rattle.write_groups.proofs.Lists.{zip_length}
use Rattle.write_groups.proofs.OnceStored.{Once, column_once}
use Rattle.write_groups.proofs.Pieces.{Paged, paged, stored_rows}
use Rattle.write_groups.specs.Columns.{IsFresh}
use Rattle.write_groups.specs.Given.{BeginsColumn, GivesChunk, IsPageOf, to_come}
use Rattle.write_groups.specs.declared.column.ChunkColumn.{ChunkColumn}
use Rattle.write_file.specs.Pages.{AllGive, entry_count}

-- ---- one column

-- the chunk that a column is, with so many rows
pub record Chunked (version : Version) (l : Leaf) (g : ToGive) (rows : ℕ) : Type 0 where
  pub chunk : OutChunk
  pub owes : g.owes_dictionary ≡ is_some g.entries
  pub gives : GivesChunk version l chunk g
  pub stated : pairs_in chunk ≤ max_count → entry_count chunk.entries ≤ max_count → g.statistics ≡ option_map statistics_of chunk.statistics
  pub counted : rows_in (triples_out chunk) ≡ rows
  pub some : 0 < length chunk.pages

pairs_long : (ps : List OutPage) → sum_by (λ o. length o.triples) ps ≡ length (flat_map (λ (o : OutPage). o.triples) ps)
pairs_long [] = refl
pairs_long (o ∷ ps) = sum_by-cons (λ (x : OutPage). length x.triples) o ps ∙ omega (arith, pairs_long ps, length-append o.triples (flat_map (λ (x : OutPage). x.triples) ps))

-- of some rows a dictionary page is to come exactly where there are entries
owes_some : (es : Entries) (rows : List Slot) → 0 < length rows → owes_page es rows ≡ is_some es
owes_some es [] h = absurd (omega (arith, h))
owes_some None (r ∷ rows) h = refl
owes_some (Some es) (r ∷ rows) h = refl

pieces_moved : (limit : Option ℕ) (es fs : Entries) (t u : LeafType) (p q : Physical) (w v : Way) (rows others : List Slot) (pieces : List (List Slot)) → es ≡ fs → t ≡ u → p ≡ q → w ≡ v → rows ≡ others
    → ArePieces es limit t p (column w rows) rows pieces → ArePieces fs limit u q (column v others) others pieces
pieces_moved limit es fs t u p q w v rows others pieces a b d e f h =
    subst (λ (x : Entries). ArePieces x limit u q (column v others) others pieces) a
    (subst (λ (x : LeafType). ArePieces es limit x q (column v others) others pieces) b
    (subst (λ (x : Physical). ArePieces es limit t x (column v others) others pieces) d
    (subst (λ (x : Way). ArePieces es limit t p (column x others) others pieces) e
    (subst (λ (x : List Slot). ArePieces es limit t p (column w x) x pieces) f h))))

stated_moved : (b c : Bool) (es fs : Entries) (t u : LeafType) (p q : Physical) (w v : Way) (rows others : List Slot) (stated : Option ChunkStatistics) → b ≡ c → es ≡ fs → t ≡ u → p ≡ q → w ≡ v → rows ≡ others
    → AreStatedWith b t p es (column w rows) stated → AreStatedWith c u q fs (column v others) stated
stated_moved b c es fs t u p q w v rows others stated i j k l m n h =
    subst (λ (x : Bool). AreStatedWith x u q fs (column v others) stated) i
    (subst (λ (x : Entries). AreStatedWith b u q x (column v others) stated) j
    (subst (λ (x : LeafType). AreStatedWith b x q es (column v others) stated) k
    (subst (λ (x : Physical). AreStatedWith b t x es (column v others) stated) l
    (subst (λ (x : Way). AreStatedWith b t p es (column x others) stated) m
    (subst (λ (x : List Slot). AreStatedWith b t p es (column w x) stated) n h)))))

-- the chunk of what is kept, in these pages
chunk_of : (version : Version) (l : Leaf) (g : ToGive) (n : ℕ) (k : Kept g) → Paged g g.pieces k.stored → length g.rows ≡ n → 0 < n → g.owes_dictionary ≡ is_some g.entries → g.options.version ≡ version → IsLeafAs l g.physical (max_repetition g.way) (max_definition g.way) → Once g.type g.physical
    → Chunked version l g n
chunk_of version l g n k made rows some owes version_is leaf once = record {
  chunk = record { entries = stored_list g.type g.physical g.entries; pages = made.pages; statistics = k.out };
  owes = owes;
  gives = record { version_is = version_is; leaf = leaf; once = once; entries = refl; statistics = k.has; pages = made.are };
  stated = λ few fewer. k.are (omega (arith, few, pairs_long made.pages, ap length made.whole, zip_length (IsStoredTriple g.type g.physical) (column g.way g.rows) k.stored k.are_stored)) fewer;
  counted = ap rows_in made.whole ∙ (stored_rows g.type g.physical (column g.way g.rows) k.stored k.are_stored ∙ (rows_are_counted g.way g.rows ∙ rows));
  some = let q = k.some (omega (arith, some, rows)) in omega (arith, zip_length (IsPageOf g.options.write_statistics g.encoding g.type g.physical g.way g.entries) g.pieces made.pages made.are, q);
}

pub chunked : (o : WriteOptions) (l : Leaf) (node : LeafNode) (w : Way) (slots : List Slot) (parts : List Part) (a : ArrayTree) (e : Encoding) (g : ToGive) → IsColumn o node parts a e g → node ≡ node_of l → path_levels parts ≡ leaf_levels l → IsSeen slots w parts a → 0 < length slots → Chunked o.version l g (length slots)
chunked o l node w slots parts a e g h n v s some =
    let t = h.type_ in
    let p = h.pages in
    let count : length (rows_of parts a) ≡ length slots = ap length s.slots ∙ length-map slots (along w) in
    let wanted : o.write_statistics ≡ g.options.write_statistics = sym (ap (λ (x : WriteOptions). x.write_statistics) p.options) in
    let pieces : ArePieces g.entries o.data_pagesize_limit g.type g.physical (column g.way g.rows) g.rows g.pieces = pieces_moved o.data_pagesize_limit _ _ _ _ _ _ _ _ _ _ g.pieces (sym p.entries) (sym p.type) (sym p.physical) (sym p.way) (sym p.rows) p.pieces in
    let told : AreStatedWith g.options.write_statistics g.type g.physical g.entries (column g.way g.rows) g.statistics =
    stated_moved _ _ _ _ _ _ _ _ _ _ _ _ g.statistics wanted (sym p.entries) (sym p.type) (sym p.physical) (sym p.way) (sym p.rows) p.statistics in
    let once : Once g.type g.physical =
    subst (λ (x : LeafType). Once x g.physical) (sym p.type) (subst (λ (q : Physical). Once (leaf_type (type_of a)) q) (sym p.physical) (column_once parts a (physical_view t.physical_type) h.written.values h.written.fits.physical)) in
    let leaf : IsLeafAs l g.physical (max_repetition g.way) (max_definition g.way) = record {
      physical = ap (λ (x : LeafNode). x.1) (sym n ∙ sym h.is) ∙ sym p.physical;
      repeats = sym (ap (λ (x : ℕ × ℕ). x.1) v) ∙ ap max_repetition (sym p.way);
      defines = sym (ap (λ (x : ℕ × ℕ). x.0) v) ∙ ap max_definition (sym p.way);
    } in
    let owes : g.owes_dictionary ≡ is_some g.entries = p.owes ∙ (owes_some (leaf_entries a) (rows_of parts a) (omega (arith, some, count)) ∙ ap is_some (sym p.entries)) in
    of_kept (kept g o.data_pagesize_limit g.entries refl pieces told) (ap length p.rows ∙ count) owes (ap (λ (x : WriteOptions). x.version) p.options) leaf once
  where
    of_kept : Kept g → length g.rows ≡ length slots → g.owes_dictionary ≡ is_some g.entries → g.options.version ≡ o.version → IsLeafAs l g.physical (max_repetition g.way) (max_definition g.way) → Once g.type g.physical → Chunked o.version l g (length slots)
    of_kept k rows owes version_is leaf once =
        chunk_of o.version l g (length slots) k (paged g g.pieces k.stored k.each k.told k.have_bytes (subst (λ (ss : List Slot). AreStored g.type g.physical (column g.way ss) k.stored) (sym k.whole) k.are_stored)) rows some owes version_is leaf once

-- ---- those of a field

abbrev head_or : {A : Type 0} → A → List A → A
head_or d [] = d
head_or d (x ∷ xs) = x

abbrev tail_of : {A : Type 0} → List A → List A
tail_of [] = []
tail_of (x ∷ xs) = xs

pub record AllChunked (version : Version) (ls : List Leaf) (ss : List ChunkColumn) (rows : ℕ) : Type 0 where
  pub chunks : List OutChunk
  pub give : AllGive BeginsColumn version ls chunks ss
  pub counted : Each (λ (c : OutChunk). rows_in (triples_out c) ≡ rows) chunks

pub all_chunked : (o : WriteOptions) (ls : List Leaf) (slots : List Slot) (ws : List Way) (paths : List (List Part)) (leaves : List ArrayTree) (es : List Encoding) (ss : List ChunkColumn) → AreColumns o (map node_of ls) paths leaves es (map to_come ss) → map path_levels paths ≡ map leaf_levels ls → AreSeen slots ws paths leaves → Each IsFresh ss → 0 < length slots → AllChunked o.version ls ss (length slots)
all_chunked o [] slots [] [] [] [] [] h v s f some = record { chunks = []; give = tt; counted = tt }
all_chunked o (l ∷ ls) slots (w ∷ ws) (parts ∷ paths) (a ∷ leaves) (e ∷ es) (c ∷ ss) h v s f some =
    let one = chunked o l (node_of l) w slots parts a e (to_come c) h.0 refl (ap (head_or (path_levels parts)) v) s.0 some in
    let rest = all_chunked o ls slots ws paths leaves es ss h.1 (ap tail_of v) s.1 f.1 some in
    record {
      chunks = one.chunk ∷ rest.chunks;
      give = ((f.0.has_failed, one.owes, one.gives, one.stated), one.some, rest.give);
      counted = (one.counted, rest.counted);
    }
all_chunked o [] slots (w ∷ ws) [] [] [] [] h v s f some = absurd s
all_chunked o (l ∷ ls) slots [] (parts ∷ paths) (a ∷ leaves) (e ∷ es) (c ∷ ss) h v s f some = absurd s
all_chunked o ls slots ws paths leaves es ss h v s f some = absurd h
