-- A file that is written so is carried.
use Rattle.std.proofs.Common.{◌≡◌, ℕ, suc, ◌+◌, ◌<◌, ◌≤◌, pos, List, [], ◌∷◌, ◌++◌, length, take, drop, map, Option, Some, None, refl, sym, ap, subst, ◌∙◌, inl, arith, append_assoc, le-leb, lt-ltb}
use Rattle.std.specs.Prelude.{option_map}
use Rattle.std.specs.List.{AllZip}
use Rattle.std.proofs.lemmas.List.{length-append, take_at, drop_at}
use Rattle.std.proofs.lemmas.List.Elements.{All-from_recursion}
use Rattle.pq_numbers.specs.Texts.{IsAt}
use Rattle.shredding.specs.Slot.{Value}
use Rattle.pq_tree.specs.declared.version.Version.{Version}
use Rattle.pq_metadata.specs.Footer.{Key}
use Rattle.pq_metadata.specs.Frame.{magic}
use Rattle.pq_tree.specs.Tree.{Leaf, Schema, columns_of}
use Rattle.pq_files.specs.Carried.{start_of, IsChunkOf, AreChunks as AreRead, IsGroup, GroupPages, column_in, group_in}
use Rattle.pq_files.specs.Chunk.{Chunk, triples_of}
use Rattle.pq_files.specs.Layout.{OutChunk, OutGroup}
use Rattle.pq_files.specs.Packed.{HasDictionary, IsWrittenChunk, AreChunks, triples_out, AreGroups, IsWrittenFile, Packed, column_out, group_out}
use Rattle.pq_files.specs.Page.{rows_in}
use Rattle.pq_files.specs.FooterRecord.{ColumnChunk, RowGroup, FileMetaData, chunk_meta, group_meta}
use Rattle.pq_files.specs.Written.{Place, pairs_in, chunk_record, group_record, footer_value, footer_record}
use Rattle.pq_files.proofs.FooterNests.{footer_nests}
use Rattle.pq_files.proofs.FooterSays.{footer_says}
use Rattle.pq_files.proofs.Unique.{Every, every}
use Rattle.pq_files.proofs.WrittenPages.{whole, ReadChunk, read_chunk, dictionary_some}

-- ---- places

-- a text behind others
record Stands (bytes : List ℕ) (start : ℕ) (text : List ℕ) : Type 0 where
  pub before : List ℕ
  pub after : List ℕ
  pub parts : bytes ≡ before ++ (text ++ after)
  pub starts : length before ≡ start

is_at : (bytes : List ℕ) (start : ℕ) (text : List ℕ) → Stands bytes start text → IsAt bytes start (length text) text
is_at bytes start text s =
    record {
      within = omega (arith, s.starts, ap length s.parts, length-append s.before (text ++ s.after), length-append text s.after);
      is = sym (ap (λ (z : List ℕ). take (length text) (drop start z)) s.parts ∙ ap (take (length text)) (drop_at s.before (text ++ s.after) start s.starts) ∙ take_at text s.after (length text) refl);
    }

first_stands : (bytes : List ℕ) (start : ℕ) (text first others : List ℕ) → text ≡ first ++ others → Stands bytes start text → Stands bytes start first
first_stands bytes start text first others e s =
    record { before = s.before; after = others ++ s.after; parts = s.parts ∙ ap (λ (z : List ℕ). s.before ++ (z ++ s.after)) e ∙ ap (λ (z : List ℕ). s.before ++ z) (append_assoc first others s.after); starts = s.starts }

others_stand : (bytes : List ℕ) (start : ℕ) (text first others : List ℕ) → text ≡ first ++ others → Stands bytes start text → Stands bytes (start + length first) others
others_stand bytes start text first others e s =
    record {
      before = s.before ++ first;
      after = s.after;
      parts = s.parts ∙ ap (λ (z : List ℕ). s.before ++ (z ++ s.after)) e ∙ ap (λ (z : List ℕ). s.before ++ z) (append_assoc first others s.after) ∙ sym (append_assoc s.before first (others ++ s.after));
      starts = length-append s.before first ∙ ap (λ (n : ℕ). n + length first) s.starts;
    }

-- ---- a chunk

-- it starts at its dictionary page, where it has one
starts_there : (l : Leaf) (entries : Option (List Value)) (text : List ℕ) (w : Place) → HasDictionary l entries text → w.dictionary ≡ length text → 4 ≤ w.start → start_of (pos (w.start + w.dictionary)) (option_map (λ es. pos w.start) entries) ≡ pos w.start
starts_there l None text w d e h = let none : w.start + w.dictionary ≡ w.start = omega (arith, e, ap length d) in ap pos none
starts_there l (Some entries) text w d e h =
    let some : w.start < w.start + w.dictionary = omega (arith, e, dictionary_some l entries text d) in
    rw (le-leb 4 w.start h, lt-ltb w.start (w.start + w.dictionary) some) refl

chunk_is : (bytes : List ℕ) (place : ℕ) (version : Version) (l : Leaf) (c : OutChunk) (w : Place) (text : List ℕ) → Stands bytes w.start text → 4 ≤ w.start → w.start + length text ≤ place → (k : IsWrittenChunk version l c w text) → IsChunkOf bytes place (chunk_meta (chunk_record l c w)) l (read_chunk version l c w text k).chunk
chunk_is bytes place version l c w text s h fits k =
    record {
      here = inl refl;
      physical = refl;
      codec = refl;
      num_values = pairs_in c;
      has_num_values = refl;
      start = w.start;
      starts = starts_there l c.entries k.dictionary w k.has_dictionary k.behind h;
      behind_magic = h;
      size = length text;
      has_size = ap pos k.size;
      before_footer = fits;
      text = text;
      is_there = is_at bytes w.start text s;
      is = (read_chunk version l c w text k).is;
    }

record ReadChunks (bytes : List ℕ) (place : ℕ) (ls : List Leaf) (cs : List OutChunk) (columns : List ColumnChunk) : Type 0 where
  pub chunks : List Chunk
  pub are : AreRead bytes place (map chunk_meta columns) ls chunks
  pub same : map column_in chunks ≡ map column_out cs
  pub counted : (rows : ℕ) → Every (λ c. rows_in (triples_out c) ≡ rows) cs → Every (λ c. rows_in (triples_of c) ≡ rows) chunks

read_chunks : (bytes : List ℕ) (place : ℕ) (version : Version) (ls : List Leaf) (cs : List OutChunk) (start : ℕ) (text : List ℕ) (columns : List ColumnChunk) → Stands bytes start text → 4 ≤ start → start + length text ≤ place → AreChunks version ls cs start text columns → ReadChunks bytes place ls cs columns
read_chunks bytes place version [] [] start text columns s h fits a = subst (λ (xs : List ColumnChunk). ReadChunks bytes place [] [] xs) (sym a.1) (record { chunks = []; are = tt; same = refl; counted = λ rows e. tt })
read_chunks bytes place version [] (c ∷ cs) start text columns s h fits a = absurd a
read_chunks bytes place version (l ∷ ls) [] start text columns s h fits a = absurd a
read_chunks bytes place version (l ∷ ls) (c ∷ cs) start text [] s h fits a = absurd a
read_chunks bytes place version (l ∷ ls) (c ∷ cs) start text (column ∷ columns) s h fits a =
    let first = a.0 in
    let others = a.1 in
    let w = a.2 in
    let k : IsWrittenChunk version l c w first = a.4 in
    let size : length text ≡ length first + length others = ap length a.7 ∙ length-append first others in
    let there : Stands bytes w.start first = subst (λ (n : ℕ). Stands bytes n first) (sym a.3) (first_stands bytes start text first others a.7 s) in
    let more = read_chunks bytes place version ls cs (start + length first) others columns (others_stand bytes start text first others a.7 s) (omega (arith, h)) (omega (arith, fits, size)) a.6 in
    let one : ReadChunk l c first = read_chunk version l c w first k in
    let same : column_in one.chunk ≡ column_out c = λ i. record { entries = one.entries i; triples = one.triples i } in
    let is : IsChunkOf bytes place (chunk_meta (chunk_record l c w)) l one.chunk = chunk_is bytes place version l c w first there (omega (arith, h, a.3)) (omega (arith, fits, size, a.3)) k in
    record {
      chunks = one.chunk ∷ more.chunks;
      are = (subst (λ (x : ColumnChunk). IsChunkOf bytes place (chunk_meta x) l one.chunk) (sym a.5) is, more.are);
      same = ap (λ x. x ∷ map column_in more.chunks) same ∙ ap (λ xs. column_out c ∷ xs) more.same;
      counted = λ rows e. (ap rows_in one.triples ∙ e.0, more.counted rows e.1);
    }

-- ---- groups

record ReadGroups (bytes : List ℕ) (place : ℕ) (ls : List Leaf) (gs : List OutGroup) (row_groups : List RowGroup) : Type 0 where
  pub groups : List GroupPages
  pub are : AllZip (λ m g. IsGroup bytes place ls m g.rows g.chunks) (map group_meta row_groups) groups
  pub same : map group_out gs ≡ map group_in groups

read_groups : (bytes : List ℕ) (place : ℕ) (version : Version) (ls : List Leaf) (gs : List OutGroup) (i start : ℕ) (text : List ℕ) (row_groups : List RowGroup) → Stands bytes start text → 4 ≤ start → start + length text ≤ place → AreGroups version ls gs i start text row_groups → ReadGroups bytes place ls gs row_groups
read_groups bytes place version ls [] i start text row_groups s h fits a = subst (λ (xs : List RowGroup). ReadGroups bytes place ls [] xs) (sym a.1) (record { groups = []; are = tt; same = refl })
read_groups bytes place version ls (g ∷ gs) i start text [] s h fits a = absurd a
read_groups bytes place version ls (g ∷ gs) i start text (r ∷ row_groups) s h fits a =
    let first = a.0 in
    let others = a.1 in
    let size : length text ≡ length first + length others = ap length a.7 ∙ length-append first others in
    let one = read_chunks bytes place version ls g.chunks start first a.2 (first_stands bytes start text first others a.7 s) h (omega (arith, fits, size)) a.4 in
    let more = read_groups bytes place version ls gs (suc i) (start + length first) others row_groups (others_stand bytes start text first others a.7 s) (omega (arith, h)) (omega (arith, fits, size)) a.6 in
    let stated : RowGroup = group_record i a.2 g.rows start (length first) in
    let is : IsGroup bytes place ls (group_meta stated) g.rows one.chunks = record { has_rows = refl; are = one.are; counted = All-from_recursion _ one.chunks (one.counted g.rows (every (λ c. rows_in (triples_out c) ≡ g.rows) g.chunks a.3)) } in
    let group : group_out g ≡ group_in (record { rows = g.rows; chunks = one.chunks }) = λ j. record { rows = g.rows; columns = sym one.same j } in
    record {
      groups = record { rows = g.rows; chunks = one.chunks } ∷ more.groups;
      are = (subst (λ (x : RowGroup). IsGroup bytes place ls (group_meta x) g.rows one.chunks) (sym a.5) is, more.are);
      same = ap (λ x. x ∷ map group_out gs) group ∙ ap (λ xs. group_in (record { rows = g.rows; chunks = one.chunks }) ∷ xs) more.same;
    }

-- ---- the file

pub is_packed : (bytes : List ℕ) (tree : Schema) (keys : List Key) (version : Version) (groups : List OutGroup) → IsWrittenFile bytes tree keys version groups → Packed bytes tree keys version groups
is_packed bytes tree keys version groups w =
    let there : Stands bytes 4 w.pages = record { before = magic; after = w.footer ++ (w.size ++ magic); parts = w.parts; starts = refl } in
    let read = read_groups bytes (4 + length w.pages) version (columns_of tree) groups 0 4 w.pages w.row_groups there (omega arith) (omega arith) w.are in
    let stated : FileMetaData = footer_record version tree keys groups w.row_groups in
    record {
      written = w;
      carried = (
        read.groups,
        record {
          place = 4 + length w.pages;
          footer = w.footer;
          framed = record { pages = w.pages; size = w.size; parts = w.parts; four = w.four; is_size = w.is_size; is_place = refl };
          metas = map group_meta w.row_groups;
          said = whole _ w.footer _ (footer_value stated, w.is_footer.spells, footer_nests stated, footer_says stated tree w.are_keys w.is_tree);
          are = read.are;
        },
        read.same,
      );
    }
