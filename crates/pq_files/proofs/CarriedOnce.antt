-- A carried file has one reading.
use Rattle.std.proofs.Common.{◌≡◌, ℕ, ◌+◌, List, [], ◌∷◌, ◌++◌, length, map, take, drop, refl, sym, ap, subst, ◌∙◌, arith}
use Rattle.std.proofs.lemmas.List.{append_assoc, length-append}
use Rattle.std.specs.List.{AllZip}
use Rattle.pq_thrift.specs.Value.{Value as Thrift}
use Rattle.pq_thrift.proofs.OneReading.{same_reading}
use Rattle.pq_metadata.specs.Metadata.{IsFooterText}
use Rattle.pq_files.specs.Carried.{IsChunkOf, AreChunks, IsGroup, GroupPages, HoldsPages, Group, group_in, Carried}
use Rattle.pq_files.specs.Chunk.{Chunk, IsChunk}
use Rattle.pq_metadata.specs.Frame.{magic, IsFramed}
use Rattle.pq_metadata.specs.Footer.{ChunkMeta, GroupMeta, Key, Footer, SpellsFooter}
use Rattle.pq_numbers.specs.Texts.{Begins, number_of}
use Rattle.pq_tree.specs.Tree.{Leaf, Schema, columns_of}
use Rattle.pq_files.specs.Once.{FilesAreUnique}
use Rattle.pq_files.proofs.ChunkOnce.{chunk_same}
use Rattle.pq_metadata.proofs.FooterOnce.{footer_same}
use Rattle.pq_metadata.proofs.Injective.{pos_same}
use Rattle.pq_files.proofs.Unique.{append_same}

-- ---- the frame

pub record SameFrame (p q : ℕ) (f g : List ℕ) : Type 0 where
  pub places : p ≡ q
  pub footers : f ≡ g

total : (pages footer size : List ℕ) → length size ≡ 4 → length (pages ++ footer) + 8 ≡ length (pages ++ (footer ++ (size ++ magic)))
total pages footer size four = omega (arith, four, length-append pages footer, length-append pages (footer ++ (size ++ magic)), length-append footer (size ++ magic), length-append size magic)

pub frame_same : (bytes : List ℕ) (p q : ℕ) (f g : List ℕ) → IsFramed bytes p f → IsFramed bytes q g → SameFrame p q f g
frame_same bytes p q f g a b =
    let inner = append_same magic magic (a.pages ++ (f ++ (a.size ++ magic))) (b.pages ++ (g ++ (b.size ++ magic))) refl (sym a.parts ∙ b.parts) in
    let whole : (a.pages ++ f) ++ (a.size ++ magic) ≡ (b.pages ++ g) ++ (b.size ++ magic) = append_assoc a.pages f (a.size ++ magic) ∙ inner.1 ∙ sym (append_assoc b.pages g (b.size ++ magic)) in
    let fronts : length (a.pages ++ f) ≡ length (b.pages ++ g) = omega (arith, total a.pages f a.size a.four, total b.pages g b.size b.four, ap length inner.1) in
    let cut = append_same (a.pages ++ f) (b.pages ++ g) (a.size ++ magic) (b.size ++ magic) fronts whole in
    let sizes = append_same a.size b.size magic magic (a.four ∙ sym b.four) cut.1 in
    let footers : length f ≡ length g = sym a.is_size ∙ ap number_of sizes.0 ∙ b.is_size in
    let pages : length a.pages ≡ length b.pages = omega (arith, fronts, footers, length-append a.pages f, length-append b.pages g) in
    let parts = append_same a.pages b.pages f g pages cut.0 in
    record { places = omega (arith, a.is_place, b.is_place, pages); footers = parts.1 }

pub record_same : (footer footer' : List ℕ) (f g : Footer) → footer ≡ footer' → Begins IsFooterText footer f → Begins IsFooterText footer' g → f ≡ g
record_same footer footer' f g e a b =
    let x = a.spells in
    let y = b.spells in
    let read = same_reading a.text b.text a.rest b.rest x.0 y.0 x.1 y.1 (sym a.parts ∙ e ∙ b.parts) in
    footer_same y.0 f g (subst (λ (v : Thrift). SpellsFooter v f) read.1 x.3) y.3

-- ---- chunks and groups

chunk_of_same : (bytes : List ℕ) (p q : ℕ) (m : ChunkMeta) (l : Leaf) (c d : Chunk) → IsChunkOf bytes p m l c → IsChunkOf bytes q m l d → c ≡ d
chunk_of_same bytes p q m l c d a b =
    let n = pos_same a.num_values b.num_values (sym a.has_num_values ∙ b.has_num_values) in
    let start = pos_same a.start b.start (sym a.starts ∙ b.starts) in
    let size = pos_same a.size b.size (sym a.has_size ∙ b.has_size) in
    let text : a.text ≡ b.text = a.is_there.is ∙ ap (λ (k : ℕ). take a.size (drop k bytes)) start ∙ ap (λ (k : ℕ). take k (drop b.start bytes)) size ∙ sym b.is_there.is in
    chunk_same l b.num_values b.text c d (subst (λ (k : ℕ). IsChunk l k b.text c) n (subst (λ (s : List ℕ). IsChunk l a.num_values s c) text a.is)) b.is

chunks_same : (bytes : List ℕ) (p q : ℕ) (ms : List ChunkMeta) (ls : List Leaf) (cs ds : List Chunk) → AreChunks bytes p ms ls cs → AreChunks bytes q ms ls ds → cs ≡ ds
chunks_same bytes p q [] [] [] [] a b = refl
chunks_same bytes p q [] [] [] (d ∷ ds) a b = absurd b
chunks_same bytes p q [] [] (c ∷ cs) ds a b = absurd a
chunks_same bytes p q [] (l ∷ ls) cs ds a b = absurd a
chunks_same bytes p q (m ∷ ms) [] cs ds a b = absurd a
chunks_same bytes p q (m ∷ ms) (l ∷ ls) [] ds a b = absurd a
chunks_same bytes p q (m ∷ ms) (l ∷ ls) (c ∷ cs) [] a b = absurd b
chunks_same bytes p q (m ∷ ms) (l ∷ ls) (c ∷ cs) (d ∷ ds) a b =
    ap (λ x. x ∷ cs) (chunk_of_same bytes p q m l c d a.0 b.0) ∙ ap (λ xs. d ∷ xs) (chunks_same bytes p q ms ls cs ds a.1 b.1)

group_same : (bytes : List ℕ) (p q : ℕ) (ls : List Leaf) (m : GroupMeta) (g h : GroupPages) → IsGroup bytes p ls m g.rows g.chunks → IsGroup bytes q ls m h.rows h.chunks → g ≡ h
group_same bytes p q ls m g h a b =
    let r = pos_same g.rows h.rows (sym a.has_rows ∙ b.has_rows) in
    let c = chunks_same bytes p q m.chunks ls g.chunks h.chunks a.are b.are in
    λ i. record { rows = r i; chunks = c i }

groups_same : (bytes : List ℕ) (p q : ℕ) (ls : List Leaf) (ms : List GroupMeta) (gs hs : List GroupPages) → AllZip (λ m g. IsGroup bytes p ls m g.rows g.chunks) ms gs → AllZip (λ m g. IsGroup bytes q ls m g.rows g.chunks) ms hs → gs ≡ hs
groups_same bytes p q ls [] [] [] a b = refl
groups_same bytes p q ls [] [] (h ∷ hs) a b = absurd b
groups_same bytes p q ls [] (g ∷ gs) hs a b = absurd a
groups_same bytes p q ls (m ∷ ms) [] hs a b = absurd a
groups_same bytes p q ls (m ∷ ms) (g ∷ gs) [] a b = absurd b
groups_same bytes p q ls (m ∷ ms) (g ∷ gs) (h ∷ hs) a b =
    ap (λ x. x ∷ gs) (group_same bytes p q ls m g h a.0 b.0) ∙ ap (λ xs. h ∷ xs) (groups_same bytes p q ls ms gs hs a.1 b.1)

-- ---- the file

pub holds_same : (bytes : List ℕ) (s t : Schema) (ks js : List Key) (gs hs : List GroupPages) → HoldsPages bytes s ks gs → HoldsPages bytes t js hs → (s ≡ t) × (ks ≡ js) × (gs ≡ hs)
holds_same bytes s t ks js gs hs a b =
    let frame = frame_same bytes a.place b.place a.footer b.footer a.framed b.framed in
    let f = record_same a.footer b.footer (record { schema = s; groups = a.metas; keys = ks }) (record { schema = t; groups = b.metas; keys = js }) frame.footers a.said b.said in
    let st : s ≡ t = ap (λ x. x.schema) f in
    let ms : a.metas ≡ b.metas = ap (λ x. x.groups) f in
    let are : AllZip (λ m g. IsGroup bytes a.place (columns_of t) m g.rows g.chunks) b.metas gs =
    subst (λ (x : List GroupMeta). AllZip (λ m g. IsGroup bytes a.place (columns_of t) m g.rows g.chunks) x gs) ms
    (subst (λ (x : Schema). AllZip (λ m g. IsGroup bytes a.place (columns_of x) m g.rows g.chunks) a.metas gs) st a.are) in
    (st, ap (λ x. x.keys) f, groups_same bytes a.place b.place (columns_of t) b.metas gs hs are b.are)

pub carried_same : (bytes : List ℕ) (s t : Schema) (ks js : List Key) (gs hs : List Group) → Carried bytes s ks gs → Carried bytes t js hs → (s ≡ t) × (ks ≡ js) × (gs ≡ hs)
carried_same bytes s t ks js gs hs a b =
    let h = holds_same bytes s t ks js a.0 b.0 a.1 b.1 in
    (h.0, h.1, a.2 ∙ ap (λ paged. map group_in paged) h.2 ∙ sym b.2)

pub are_unique : FilesAreUnique
are_unique = record { held = holds_same; carried = carried_same }
