-- No array of a field passes the offsets or the keys of its type, where its chunks are small.
use Rattle.std.proofs.Common.{◌≡◌, ◌⊎◌, ℕ, ◌+◌, ◌≤◌, List, [], ◌∷◌, ◌++◌, length, map, take, drop, flat_map, Option, Some, None, sum_by, inl, inr, sym, subst, ap, ◌∙◌, arith}
use Rattle.std.specs.List.{AllByRecursion, AllZip}
use Rattle.std.proofs.lemmas.List.{length-append, length-take}
use Rattle.columns_base.specs.declared.error.Error.{Error}
use Rattle.columns_base.specs.declared.error.Error.TheVariants.{Overflow}
use Rattle.columns_base.specs.declared.error.V.TheVariants.{V1, V2}
use Rattle.columns_core.specs.Tree.{FieldTrees, no_fields, more_fields}
use Rattle.pq_files.specs.Carried.{AreChunks, Column, IsChunkOf, column_in}
use Rattle.pq_files.specs.Chunk.{Chunk, IsChunk, IsPageIn, Page, Pages, RawPage, count_in, here, page}
use Rattle.pq_files.specs.Page.{IsCounted}
use Rattle.pq_headline.specs.Columns.{ArrowColumn, field_columns}
use Rattle.pq_headline.specs.FieldReasons.{EntriesPass, HasTooMany, PassesKeys, PassesOffsets, PassesTexts, ReadsColumn, ReadsFront, ReadsPages, Refuses, SomeV1, SomeV2, text_size}
use Rattle.pq_headline.specs.Lists.{AllZip3}
use Rattle.pq_headline.specs.Opened.{AreOpened, Reads}
use Rattle.pq_headline.specs.Openings.{Opening, leaf_levels}
use Rattle.pq_files.specs.Reasons.{AnyOf}
use Rattle.pq_metadata.proofs.Injective.{pos_same}
use Rattle.pq_metadata.specs.Footer.{ChunkMeta}
use Rattle.pq_metadata.specs.Header.{Header, data_page, data_page_2, dictionary_page}
use Rattle.pq_pages.specs.Outcomes.{Outcome, fails, gives_dictionary, gives_page}
use Rattle.pq_tree.specs.Tree.{Leaf}
use Rattle.sample_sizes.proofs.Next.{are_given, paged}
use Rattle.sample_sizes.proofs.Offsets.{few_items}
use Rattle.sample_sizes.proofs.Readings.{IsBounded, no_front, pages_bounded, piece_bounded}
use Rattle.shredding.specs.Shred.{Triple}
use Rattle.shredding.specs.Slot.{Value}

-- ---- columns that so few triples do not pass
pub record IsSafe (c : ArrowColumn) : Type 0 where
  pub limits : AllByRecursion (λ n. 3000000 ≤ n) c.limits
  pub texts : (vs : List Value) → PassesTexts c.data_type vs → 2147483647 ≤ sum_by text_size vs
  pub entries : (es : Option (List Value)) → ¬ EntriesPass c.data_type es
  pub keys : (n : ℕ) → ¬ PassesKeys c.data_type n

abbrev pub AreSafe : FieldTrees → Type 0
AreSafe no_fields = Unit {0}
AreSafe (more_fields f fs) = AllByRecursion IsSafe (field_columns f) × AreSafe fs

-- ---- sources of which no more can be read
abbrev pub IsSmall : Leaf → List Outcome → Type 0
IsSmall l os = (c : ArrowColumn) (entries : Option (List Value)) (ts : List Triple) → ReadsColumn c l os entries ts → IsBounded 3000000 268435456 ts

within : (n : Option ℕ) (c : ArrowColumn) (l : Leaf) (os : List Outcome) → IsSafe c → IsSmall l os → PassesOffsets n c l os → ⊥
within n c l os s k p =
    let b = piece_bounded 3000000 268435456 n p.triples p.piece p.is_piece (k c p.entries p.triples p.reads) in
    elim p.passes [
      | inl lists ↦ few_items c.way 1 c.limits p.piece s.limits b.short lists
      | inr texts ↦ absurd (omega (arith, s.texts _ texts, b.texts))
    ]

no_v1 : (n : Option ℕ) (cs : List ArrowColumn) (ls : List Leaf) (oss : List (List Outcome)) → AllByRecursion IsSafe cs → AllZip IsSmall ls oss → SomeV1 n cs ls oss → ⊥
no_v1 n [] ls oss s k h = absurd h
no_v1 n (c ∷ cs) [] oss s k h = absurd h
no_v1 n (c ∷ cs) (l ∷ ls) [] s k h = absurd h
no_v1 n (c ∷ cs) (l ∷ ls) (os ∷ oss) s k (inl (inl h)) = within n c l os s.0 k.0 h
no_v1 n (c ∷ cs) (l ∷ ls) (os ∷ oss) s k (inl (inr h)) = s.0.entries (Some h.entries) h.long
no_v1 n (c ∷ cs) (l ∷ ls) (os ∷ oss) s k (inr h) = no_v1 n cs ls oss s.1 k.1 h

no_v2 : (cs : List ArrowColumn) (oss : List (List Outcome)) → AllByRecursion IsSafe cs → SomeV2 cs oss → ⊥
no_v2 [] oss s h = absurd h
no_v2 (c ∷ cs) [] s h = absurd h
no_v2 (c ∷ cs) ((gives_dictionary n body ∷ os) ∷ oss) s (inl h) = s.0.keys n h
no_v2 (c ∷ cs) ((gives_dictionary n body ∷ os) ∷ oss) s (inr h) = no_v2 cs oss s.1 h
no_v2 (c ∷ cs) ((gives_page p levels ∷ os) ∷ oss) s h = no_v2 cs oss s.1 h
no_v2 (c ∷ cs) ((fails e ∷ os) ∷ oss) s h = no_v2 cs oss s.1 h
no_v2 (c ∷ cs) ([] ∷ oss) s h = no_v2 cs oss s.1 h

-- ---- a field, opened

-- of no opening of such columns and sources
abbrev pub IsNone : (Opening → Type 0) → Type 0
IsNone R = (o : Opening) → AllByRecursion IsSafe (field_columns o.field) → AllZip IsSmall o.leaves o.outcomes → R o → ⊥

opening_holds : (o : Opening) (e : Error) → AllByRecursion IsSafe (field_columns o.field) → AllZip IsSmall o.leaves o.outcomes → HasTooMany e o → ⊥
opening_holds o e s k (inl h) = no_v1 o.chunk_size (field_columns o.field) o.leaves o.outcomes s k h.1
opening_holds o e s k (inr h) = no_v2 (field_columns o.field) o.outcomes s h.1

pub no_v1_refusal : IsNone (λ o. Refuses o (Overflow V1))
no_v1_refusal o s k (inl h) = absurd (cc h)
no_v1_refusal o s k (inr (inl (inl h, q))) = absurd (cc h)
no_v1_refusal o s k (inr (inl (inr h, q))) = absurd (cc h)
no_v1_refusal o s k (inr (inr (inl h))) = absurd (cc h.0)
no_v1_refusal o s k (inr (inr (inr (inl h)))) = absurd (cc h.0)
no_v1_refusal o s k (inr (inr (inr (inr (inl h))))) = absurd (cc h.0)
no_v1_refusal o s k (inr (inr (inr (inr (inr (inl h)))))) = opening_holds o (Overflow V1) s k h
no_v1_refusal o s k (inr (inr (inr (inr (inr (inr (h, q))))))) = absurd (elim h [ inl e ↦ cc e | inr (inl e) ↦ cc e | inr (inr (inl e)) ↦ cc e | inr (inr (inr (inl e))) ↦ cc e | inr (inr (inr (inr (inl e)))) ↦ cc e | inr (inr (inr (inr (inr e)))) ↦ cc e ])

pub no_v2_refusal : IsNone (λ o. Refuses o (Overflow V2))
no_v2_refusal o s k (inl h) = absurd (cc h)
no_v2_refusal o s k (inr (inl (inl h, q))) = absurd (cc h)
no_v2_refusal o s k (inr (inl (inr h, q))) = absurd (cc h)
no_v2_refusal o s k (inr (inr (inl h))) = absurd (cc h.0)
no_v2_refusal o s k (inr (inr (inr (inl h)))) = absurd (cc h.0)
no_v2_refusal o s k (inr (inr (inr (inr (inl h))))) = absurd (cc h.0)
no_v2_refusal o s k (inr (inr (inr (inr (inr (inl h)))))) = opening_holds o (Overflow V2) s k h
no_v2_refusal o s k (inr (inr (inr (inr (inr (inr (h, q))))))) = absurd (elim h [ inl e ↦ cc e | inr (inl e) ↦ cc e | inr (inr (inl e)) ↦ cc e | inr (inr (inr (inl e))) ↦ cc e | inr (inr (inr (inr (inl e)))) ↦ cc e | inr (inr (inr (inr (inr e)))) ↦ cc e ])

-- ---- all fields of a group
abbrev pub IsSmallChunk : List ℕ → ℕ → ChunkMeta → Leaf → Type 0
IsSmallChunk bytes place m l = (os : List Outcome) → Reads bytes place m l os → IsSmall l os

small_sources : (bytes : List ℕ) (place : ℕ) (ms : List ChunkMeta) (ls : List Leaf) (oss : List (List Outcome)) → AllZip (IsSmallChunk bytes place) ms ls → AllZip3 (Reads bytes place) ms ls oss → AllZip IsSmall ls oss
small_sources bytes place [] [] [] k h = tt
small_sources bytes place [] [] (o ∷ os) k h = absurd h
small_sources bytes place [] (l ∷ ls) os k h = absurd k
small_sources bytes place (m ∷ ms) [] os k h = absurd k
small_sources bytes place (m ∷ ms) (l ∷ ls) [] k h = absurd h
small_sources bytes place (m ∷ ms) (l ∷ ls) (o ∷ os) k h = (k.0 o h.0, small_sources bytes place ms ls os k.1 h.1)

split_small : (bytes : List ℕ) (place : ℕ) (ms others : List ChunkMeta) (ls more : List Leaf) (oss : List (List Outcome)) → AllZip3 (Reads bytes place) ms ls oss → AllZip (IsSmallChunk bytes place) (ms ++ others) (ls ++ more)
    → AllZip (IsSmallChunk bytes place) ms ls × AllZip (IsSmallChunk bytes place) others more
split_small bytes place [] others [] more [] h k = (tt, k)
split_small bytes place [] others [] more (o ∷ os) h k = absurd h
split_small bytes place [] others (l ∷ ls) more os h k = absurd h
split_small bytes place (m ∷ ms) others [] more os h k = absurd h
split_small bytes place (m ∷ ms) others (l ∷ ls) more [] h k = absurd h
split_small bytes place (m ∷ ms) others (l ∷ ls) more (o ∷ os) h k = let s = split_small bytes place ms others ls more os h.1 k.1 in ((k.0, s.0), s.1)

pub none_refused : (R : Opening → Type 0) (bytes : List ℕ) (place rows : ℕ) (n : Option ℕ) (fs : FieldTrees) (ls : List Leaf) (ms : List ChunkMeta) (os : List Opening)
    → IsNone R → AreSafe fs → AllZip (IsSmallChunk bytes place) ms ls → AreOpened bytes place rows n fs ls ms os → AnyOf R os → ⊥
none_refused R bytes place rows n no_fields ls ms [] f s k h a = absurd a
none_refused R bytes place rows n no_fields ls ms (o ∷ os) f s k h a = absurd h
none_refused R bytes place rows n (more_fields g gs) ls ms [] f s k h a = absurd h
none_refused R bytes place rows n (more_fields g gs) ls ms (o ∷ os) f s k h a =
    let both : AllZip (IsSmallChunk bytes place) (h.2 ++ h.3) (h.0 ++ h.1) = subst (λ x. AllZip (IsSmallChunk bytes place) x (h.0 ++ h.1)) h.5 (subst (AllZip (IsSmallChunk bytes place) ms) h.4 k) in
    let parts = split_small bytes place h.2 h.3 h.0 h.1 o.outcomes h.6.read both in
    of (small_sources bytes place h.2 h.0 o.outcomes parts.0 h.6.read) (λ q. none_refused R bytes place rows n gs h.1 h.3 os f s.1 parts.1 h.7 q) a
  where
    of : AllZip IsSmall h.0 o.outcomes → (AnyOf R os → ⊥) → R o ⊎ AnyOf R os → ⊥
    of small rest (inl r) = f o (subst (λ x. AllByRecursion IsSafe (field_columns x)) (sym h.6.field) s.0) (subst (λ x. AllZip IsSmall x o.outcomes) (sym h.6.leaves_are) small) r
    of small rest (inr r) = rest r

-- ---- a chunk of the file
abbrev pub IsFew : Column → Type 0
IsFew c = (c.entries ≡ None) × (length c.triples ≤ 3000000)

counted_as : (h : Header) (ts : List Triple) → IsCounted h ts → count_in h ≡ length ts
counted_as (data_page h) ts c = c
counted_as (data_page_2 h) ts c = c.0
counted_as (dictionary_page h) ts c = absurd c

all_counted : (l : Leaf) (n m : ℕ) (text surplus : List ℕ) (raws : List RawPage) (ps : List Page) → Pages n text raws m surplus → AllZip (IsPageIn l None) raws ps → n ≡ length (flat_map (λ p. p.triples) ps) + m
all_counted l _ _ _ _ _ [] (here m rest) h = omega arith
all_counted l _ _ _ _ _ (q ∷ qs) (here m rest) h = absurd h
all_counted l _ _ _ _ _ [] (page n m text later rest p more is is_data some others) h = absurd h
all_counted l _ _ _ _ _ (q ∷ qs) (page n m text later rest p more is is_data some others) h =
    omega (arith, counted_as p.header q.triples h.0.is.counted, all_counted l n m later rest more qs others h.1, length-append q.triples (flat_map (λ x. x.triples) qs))

pub small_chunk : (bytes : List ℕ) (place footer : ℕ) (m : ChunkMeta) (l : Leaf) (c : Chunk) → length bytes ≤ 268435456 → IsFew (column_in c) → IsChunkOf bytes footer m l c → IsSmallChunk bytes place m l
small_chunk bytes place footer m l c few k at os r column entries ts reads =
    let p = r.placed in
    let n : at.num_values ≡ p.num_values = pos_same at.num_values p.num_values (sym at.has_num_values ∙ p.has_num_values) in
    let start : at.start ≡ p.start = pos_same at.start p.start (sym at.starts ∙ p.starts) in
    let size : at.size ≡ p.size = pos_same at.size p.size (sym at.has_size ∙ p.has_size) in
    let text : at.text ≡ r.text = at.is_there.is ∙ ap (λ (s : ℕ). take at.size (drop s bytes)) start ∙ ap (λ (s : ℕ). take s (drop p.start bytes)) size ∙ sym r.is_there.is in
    let own : IsChunk l p.num_values r.text c = subst (λ s. IsChunk l p.num_values s c) text (subst (λ s. IsChunk l s at.text c) n at.is) in
    let h = paged l p.num_values r.text c k.0 own in
    let fits : length r.text ≤ p.size = omega (arith, ap length r.is_there.is, length-take p.size (drop p.start bytes)) in
    let g = are_given l (leaf_levels l) p.num_values p.size r.text c os h fits r.reads in
    let front = no_front column l (leaf_levels l) g.pages entries reads.behind (subst (λ xs. ReadsFront column l xs entries reads.behind) g.are reads.front) in
    let pages : ReadsPages column l None (map (λ q. gives_page q (leaf_levels l)) g.pages) ts = subst (λ xs. ReadsPages column l None xs ts) front.1 (subst (λ es. ReadsPages column l es reads.behind ts) front.0 reads.pages) in
    let b = pages_bounded column l (leaf_levels l) p.num_values 0 r.text g.surplus g.pages ts g.stand pages in
    record {
      short = omega (arith, b.short, all_counted l p.num_values 0 r.text h.surplus h.pages c.pages h.are h.hold, k.1);
      texts = omega (arith, b.texts, fits, r.is_there.within, few);
    }

pub small_chunks : (bytes : List ℕ) (place footer : ℕ) (ms : List ChunkMeta) (ls : List Leaf) (cs : List Chunk) → length bytes ≤ 268435456 → AllByRecursion IsFew (map column_in cs) → AreChunks bytes footer ms ls cs → AllZip (IsSmallChunk bytes place) ms ls
small_chunks bytes place footer [] [] [] few k h = tt
small_chunks bytes place footer [] [] (c ∷ cs) few k h = absurd h
small_chunks bytes place footer [] (l ∷ ls) cs few k h = absurd h
small_chunks bytes place footer (m ∷ ms) [] cs few k h = absurd h
small_chunks bytes place footer (m ∷ ms) (l ∷ ls) [] few k h = absurd h
small_chunks bytes place footer (m ∷ ms) (l ∷ ls) (c ∷ cs) few k h = (small_chunk bytes place footer m l c few k.0 h.0, small_chunks bytes place footer ms ls cs few k.1 h.1)
