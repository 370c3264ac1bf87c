-- What stands in a file as it was written, chunk by chunk, with the encoding of its pages.
use Rattle.std.proofs.Common.{◌≡◌, ◌+◌, ◌≤◌, ℕ, suc, pos, List, [], ◌∷◌, ◌++◌, length, length-append, append_assoc, take, drop, map, Option, Some, None, refl, sym, ap, subst, ◌∙◌, inl, arith}
use Rattle.std.specs.Prelude.{option_map, sum_by}
use Rattle.std.proofs.lemmas.List.{take_at, drop_at}
use Rattle.std.proofs.lemmas.List.Sums.{sum_by-cons}
use Rattle.std.proofs.lemmas.List.Elements.{recursion_from_All}
use Rattle.std.specs.List.{AllByRecursion, AllZip}
use Rattle.shredding.specs.Slot.{Value}
use Rattle.pq_metadata.specs.Footer.{ChunkMeta, GroupMeta, Key}
use Rattle.pq_metadata.specs.Frame.{magic}
use Rattle.pq_metadata.specs.Header.{Header}
use Rattle.pq_numbers.specs.Texts.{IsAt}
use Rattle.pq_tree.specs.Tree.{Leaf, Schema, columns_of}
use Rattle.pq_tree.specs.declared.version.Version.{Version}
use Rattle.pq_tree.specs.declared.version.Version.TheVariants.{V1, V2}
use Rattle.pq_files.specs.Carried.{IsChunkOf, start_of}
use Rattle.pq_files.specs.Chunk.{Chunk, IsChunk, IsData, IsPageIn, IsPageText, Page, Pages, RawPage, StartsWith, count_in, here, page, triples_of}
use Rattle.pq_files.specs.FooterRecord.{ColumnChunk, FileMetaData, RowGroup, chunk_meta, group_meta}
use Rattle.pq_files.specs.Layout.{OutChunk, OutGroup, OutPage}
use Rattle.pq_files.specs.Packed.{AreChunks, AreGroups, ArePages, HasDictionary, HasRows, IsWrittenChunk, IsWrittenFile, IsWrittenPage, header_of, header_value, triples_out}
use Rattle.pq_files.specs.Page.{Encoding, HasEncoding}
use Rattle.pq_files.specs.Written.{Place, chunk_record, encoding_in, footer_record, footer_value, group_record, pairs_in}
use Rattle.pq_files.proofs.ChunkOnce.{pages_same}
use Rattle.pq_files.proofs.FooterNests.{footer_nests}
use Rattle.pq_files.proofs.FooterSays.{footer_says}
use Rattle.pq_files.proofs.WrittenPages.{ReadChunk, read_chunk, whole}
use Rattle.pq_files.proofs.WrittenValues.{header_is, header_nests}
use Rattle.pq_headline.specs.Lists.{AllZip3}
use Rattle.pq_headline.specs.Rewrites.{HasFooterAt}
use Rattle.unique_rows.proofs.Given.{no_front}

-- ---- the encoding of pages

abbrev pub AreEncoded : Encoding → List Page → Type 0
AreEncoded e pages = AllByRecursion (λ p. HasEncoding p.header e) pages

record Encoded (n : ℕ) (text : List ℕ) (e : Encoding) : Type 0 where
  pub raws : List RawPage
  pub are : Pages n text raws 0 []
  pub encoded : AllByRecursion (λ p. HasEncoding p.header e) raws

is_data : (version : Version) (p : OutPage) (definition repetition : ℕ) → IsData (header_of version p definition repetition)
is_data V1 p definition repetition = tt
is_data V2 p definition repetition = tt

counted_in : (version : Version) (p : OutPage) (definition repetition : ℕ) → count_in (header_of version p definition repetition) ≡ length p.triples
counted_in V1 p definition repetition = refl
counted_in V2 p definition repetition = refl

encoded : (version : Version) (l : Leaf) (e : Encoding) (ps : List OutPage) (text : List ℕ) → AllByRecursion (λ p. p.encoding ≡ e) ps → ArePages version l None ps text → Encoded (sum_by (λ p. length p.triples) ps) text e
encoded version l e [] text s a = record { raws = []; are = subst (λ (t : List ℕ). Pages 0 t [] 0 []) (sym a) (here 0 []); encoded = tt }
encoded version l e (p ∷ ps) text s a =
    let first = a.0 in
    let w : IsWrittenPage version l None p first = a.2 in
    let others = encoded version l e ps a.1 s.1 a.3 in
    let h : Header = header_of version p w.definition w.repetition in
    let raw : RawPage = record { header = h; body = w.body } in
    let is_text : IsPageText first raw = record { head = w.head; «value» = header_value version p w.definition w.repetition (length w.body); spells = w.header.spells; nests = header_nests version p w.definition w.repetition (length w.body); is_header = header_is version p w.definition w.repetition (length w.body); parts = w.parts } in
    let n : count_in h ≡ length p.triples = counted_in version p w.definition w.repetition in
    let total : count_in h + sum_by (λ q. length q.triples) ps ≡ sum_by (λ q. length q.triples) (p ∷ ps) = ap (λ (k : ℕ). k + sum_by (λ q. length q.triples) ps) n ∙ sym (sum_by-cons (λ q. length q.triples) p ps) in
    let one : Pages (count_in h + sum_by (λ q. length q.triples) ps) (first ++ a.1) (raw ∷ others.raws) 0 [] =
    page (sum_by (λ q. length q.triples) ps) 0 first a.1 [] raw others.raws is_text (is_data version p w.definition w.repetition) (omega (arith, n, w.some)) others.are in
    record {
      raws = raw ∷ others.raws;
      are = subst (λ (t : List ℕ). Pages (sum_by (λ q. length q.triples) (p ∷ ps)) t (raw ∷ others.raws) 0 []) (sym a.4) (subst (λ (k : ℕ). Pages k (first ++ a.1) (raw ∷ others.raws) 0 []) total one);
      encoded = (subst (HasEncoding h) (w.encoding ∙ s.0) w.page.has_encoding, others.encoded);
    }

pages_encoded : (l : Leaf) (entries : Option (List Value)) (e : Encoding) (raws : List RawPage) (pages : List Page) → AllZip (IsPageIn l entries) raws pages → AllByRecursion (λ p. HasEncoding p.header e) raws → AreEncoded e pages
pages_encoded l entries e [] [] h k = tt
pages_encoded l entries e [] (p ∷ ps) h k = absurd h
pages_encoded l entries e (r ∷ rs) [] h k = absurd h
pages_encoded l entries e (r ∷ rs) (p ∷ ps) h k = (subst (λ (x : Header). HasEncoding x e) (sym h.0.header) k.0, pages_encoded l entries e rs ps h.1 k.1)

chunk_encoded : (version : Version) (l : Leaf) (c : OutChunk) (w : Place) (text : List ℕ) → c.entries ≡ None → IsWrittenChunk version l c w text → (chunk : Chunk) → chunk.entries ≡ None → IsChunk l (pairs_in c) text chunk → AreEncoded (encoding_in c.pages) chunk.pages
chunk_encoded version l c w text e k chunk none is =
    let empty : k.dictionary ≡ [] = subst (λ (d : Option (List Value)). HasDictionary l d k.dictionary) e k.has_dictionary in
    let pages : text ≡ k.pages = k.parts ∙ ap (λ (s : List ℕ). s ++ k.pages) empty in
    let own = encoded version l (encoding_in c.pages) c.pages k.pages (recursion_from_All (λ p. p.encoding ≡ encoding_in c.pages) c.pages k.encoding) (subst (λ (d : Option (List Value)). ArePages version l d c.pages k.pages) e k.are) in
    let front : is.dictionary ≡ None = no_front l is.dictionary chunk.entries none is.holds.entries in
    let starts : StartsWith (pairs_in c) text None is.has.behind = subst (λ (d : Option RawPage). StartsWith (pairs_in c) text d is.has.behind) front is.has.starts in
    let same : own.raws ≡ is.pages = pages_same (pairs_in c) (pairs_in c) k.pages is.has.behind own.raws is.pages 0 0 [] is.has.surplus refl refl refl (sym pages ∙ starts) own.are is.has.are in
    pages_encoded l chunk.entries (encoding_in c.pages) is.pages chunk.pages is.holds.are (subst (λ (rs : List RawPage). AllByRecursion (λ p. HasEncoding p.header (encoding_in c.pages)) rs) same own.encoded)

-- ---- places

-- a text behind others
record Stands (bytes : List ℕ) (start : ℕ) (text : List ℕ) : Type 0 where
  pub before : List ℕ
  pub after : List ℕ
  pub parts : bytes ≡ before ++ (text ++ after)
  pub starts : length before ≡ start

is_at : (bytes : List ℕ) (start : ℕ) (text : List ℕ) → Stands bytes start text → IsAt bytes start (length text) text
is_at bytes start text s =
    record {
      within = omega (arith, s.starts, ap length s.parts, length-append s.before (text ++ s.after), length-append text s.after);
      is = sym (ap (λ (z : List ℕ). take (length text) (drop start z)) s.parts ∙ ap (take (length text)) (drop_at s.before (text ++ s.after) start s.starts) ∙ take_at text s.after (length text) refl);
    }

first_stands : (bytes : List ℕ) (start : ℕ) (text first others : List ℕ) → text ≡ first ++ others → Stands bytes start text → Stands bytes start first
first_stands bytes start text first others e s =
    record { before = s.before; after = others ++ s.after; parts = s.parts ∙ ap (λ (z : List ℕ). s.before ++ (z ++ s.after)) e ∙ ap (λ (z : List ℕ). s.before ++ z) (append_assoc first others s.after); starts = s.starts }

others_stand : (bytes : List ℕ) (start : ℕ) (text first others : List ℕ) → text ≡ first ++ others → Stands bytes start text → Stands bytes (start + length first) others
others_stand bytes start text first others e s =
    record {
      before = s.before ++ first;
      after = s.after;
      parts = s.parts ∙ ap (λ (z : List ℕ). s.before ++ (z ++ s.after)) e ∙ ap (λ (z : List ℕ). s.before ++ z) (append_assoc first others s.after) ∙ sym (append_assoc s.before first (others ++ s.after));
      starts = length-append s.before first ∙ ap (λ (n : ℕ). n + length first) s.starts;
    }

-- ---- chunks

-- The chunk that the footer tells of holds the pages of one that was laid out without a dictionary, in its encoding.
pub record IsFound (bytes : List ℕ) (place : ℕ) (m : ChunkMeta) (l : Leaf) (c : OutChunk) : Type 0 where
  pub chunk : Chunk
  pub is : IsChunkOf bytes place m l chunk
  pub entries : chunk.entries ≡ None
  pub triples : triples_of chunk ≡ triples_out c
  pub encoded : AreEncoded (encoding_in c.pages) chunk.pages

abbrev pub HaveNoEntries : List OutChunk → Type 0
HaveNoEntries cs = AllByRecursion (λ c. c.entries ≡ None) cs

starts_there : (entries : Option (List Value)) (w : Place) → entries ≡ None → w.dictionary ≡ 0 → start_of (pos (w.start + w.dictionary)) (option_map (λ es. pos w.start) entries) ≡ pos w.start
starts_there None w e none = let same : w.start + w.dictionary ≡ w.start = omega (arith, none) in ap pos same
starts_there (Some vs) w e none = absurd (cc e)

no_dictionary : (l : Leaf) (entries : Option (List Value)) (text : List ℕ) → entries ≡ None → HasDictionary l entries text → length text ≡ 0
no_dictionary l None text e h = ap length h
no_dictionary l (Some vs) text e h = absurd (cc e)

chunk_found : (bytes : List ℕ) (place : ℕ) (version : Version) (l : Leaf) (c : OutChunk) (w : Place) (text : List ℕ) → Stands bytes w.start text → 4 ≤ w.start → w.start + length text ≤ place → c.entries ≡ None → (k : IsWrittenChunk version l c w text) → IsFound bytes place (chunk_meta (chunk_record l c w)) l c
chunk_found bytes place version l c w text s h fits e k =
    let one : ReadChunk l c text = read_chunk version l c w text k in
    record {
      chunk = one.chunk;
      is =
          record {
            here = inl refl;
            physical = refl;
            codec = refl;
            num_values = pairs_in c;
            has_num_values = refl;
            start = w.start;
            starts = starts_there c.entries w e (k.behind ∙ no_dictionary l c.entries k.dictionary e k.has_dictionary);
            behind_magic = h;
            size = length text;
            has_size = ap pos k.size;
            before_footer = fits;
            text = text;
            is_there = is_at bytes w.start text s;
            is = one.is;
          };
      entries = one.entries ∙ e;
      triples = one.triples;
      encoded = chunk_encoded version l c w text e k one.chunk (one.entries ∙ e) one.is;
    }

abbrev pub AreFound : List ℕ → ℕ → List ChunkMeta → List Leaf → List OutChunk → Type 0
AreFound bytes place ms ls cs = AllZip3 (IsFound bytes place) ms ls cs

chunks_found : (bytes : List ℕ) (place : ℕ) (version : Version) (ls : List Leaf) (cs : List OutChunk) (start : ℕ) (text : List ℕ) (columns : List ColumnChunk) → Stands bytes start text → 4 ≤ start → start + length text ≤ place → HaveNoEntries cs → AreChunks version ls cs start text columns → AreFound bytes place (map chunk_meta columns) ls cs
chunks_found bytes place version [] [] start text columns s h fits n a = subst (λ (xs : List ColumnChunk). AreFound bytes place (map chunk_meta xs) [] []) (sym a.1) tt
chunks_found bytes place version [] (c ∷ cs) start text columns s h fits n a = absurd a
chunks_found bytes place version (l ∷ ls) [] start text columns s h fits n a = absurd a
chunks_found bytes place version (l ∷ ls) (c ∷ cs) start text [] s h fits n a = absurd a
chunks_found bytes place version (l ∷ ls) (c ∷ cs) start text (column ∷ columns) s h fits n a =
    let first = a.0 in
    let others = a.1 in
    let w = a.2 in
    let k : IsWrittenChunk version l c w first = a.4 in
    let size : length text ≡ length first + length others = ap length a.7 ∙ length-append first others in
    let there : Stands bytes w.start first = subst (λ (i : ℕ). Stands bytes i first) (sym a.3) (first_stands bytes start text first others a.7 s) in
    let one : IsFound bytes place (chunk_meta (chunk_record l c w)) l c = chunk_found bytes place version l c w first there (omega (arith, h, a.3)) (omega (arith, fits, size, a.3)) n.0 k in
    let more = chunks_found bytes place version ls cs (start + length first) others columns (others_stand bytes start text first others a.7 s) (omega (arith, h)) (omega (arith, fits, size)) n.1 a.6 in
    (subst (λ (x : ColumnChunk). IsFound bytes place (chunk_meta x) l c) (sym a.5) one, more)

-- ---- groups

pub record IsGroupFound (bytes : List ℕ) (place : ℕ) (ls : List Leaf) (m : GroupMeta) (g : OutGroup) : Type 0 where
  pub rows : m.num_rows ≡ pos g.rows
  pub chunks : AreFound bytes place m.chunks ls g.chunks
  pub counted : HasRows g

abbrev pub AreGroupsFound : List ℕ → ℕ → List Leaf → List GroupMeta → List OutGroup → Type 0
AreGroupsFound bytes place ls ms gs = AllZip (IsGroupFound bytes place ls) ms gs

groups_found : (bytes : List ℕ) (place : ℕ) (version : Version) (ls : List Leaf) (gs : List OutGroup) (i start : ℕ) (text : List ℕ) (row_groups : List RowGroup) → Stands bytes start text → 4 ≤ start → start + length text ≤ place → AllByRecursion (λ g. HaveNoEntries g.chunks) gs → AreGroups version ls gs i start text row_groups → AreGroupsFound bytes place ls (map group_meta row_groups) gs
groups_found bytes place version ls [] i start text row_groups s h fits n a = subst (λ (xs : List RowGroup). AreGroupsFound bytes place ls (map group_meta xs) []) (sym a.1) tt
groups_found bytes place version ls (g ∷ gs) i start text [] s h fits n a = absurd a
groups_found bytes place version ls (g ∷ gs) i start text (r ∷ row_groups) s h fits n a =
    let first = a.0 in
    let others = a.1 in
    let size : length text ≡ length first + length others = ap length a.7 ∙ length-append first others in
    let stated : RowGroup = group_record i a.2 g.rows start (length first) in
    let one : IsGroupFound bytes place ls (group_meta stated) g = record {
      rows = refl;
      chunks = chunks_found bytes place version ls g.chunks start first a.2 (first_stands bytes start text first others a.7 s) h (omega (arith, fits, size)) n.0 a.4;
      counted = a.3;
    } in
    let more = groups_found bytes place version ls gs (suc i) (start + length first) others row_groups (others_stand bytes start text first others a.7 s) (omega (arith, h)) (omega (arith, fits, size)) n.1 a.6 in
    (subst (λ (x : RowGroup). IsGroupFound bytes place ls (group_meta x) g) (sym a.5) one, more)

-- ---- the file

-- The footer of a file that was written, and what it tells of.
pub record FileIsFound (bytes : List ℕ) (tree : Schema) (keys : List Key) (outs : List OutGroup) : Type 0 where
  pub place : ℕ
  pub metas : List GroupMeta
  pub has_footer : HasFooterAt bytes place (record { schema = tree; groups = metas; keys = keys })
  pub groups : AreGroupsFound bytes place (columns_of tree) metas outs

pub file_found : (bytes : List ℕ) (tree : Schema) (keys : List Key) (version : Version) (outs : List OutGroup) → AllByRecursion (λ g. HaveNoEntries g.chunks) outs → IsWrittenFile bytes tree keys version outs → FileIsFound bytes tree keys outs
file_found bytes tree keys version outs n w =
    let there : Stands bytes 4 w.pages = record { before = magic; after = w.footer ++ (w.size ++ magic); parts = w.parts; starts = refl } in
    let stated : FileMetaData = footer_record version tree keys outs w.row_groups in
    record {
      place = 4 + length w.pages;
      metas = map group_meta w.row_groups;
      has_footer =
          record {
            footer = w.footer;
            framed = record { pages = w.pages; size = w.size; parts = w.parts; four = w.four; is_size = w.is_size; is_place = refl };
            said = whole _ w.footer _ (footer_value stated, w.is_footer.spells, footer_nests stated, footer_says stated tree w.are_keys w.is_tree);
          };
      groups = groups_found bytes (4 + length w.pages) version (columns_of tree) outs 0 4 w.pages w.row_groups there (omega arith) (omega arith) n w.are;
    }
