-- How many bytes the pages of groups of the sample have.
use Rattle.std.proofs.Common.{◌≡◌, ℕ, suc, ◌+◌, ◌*◌, ◌≤◌, List, [], ◌∷◌, ◌++◌, All, length, map, None, sum_by, refl, sym, subst, ap, ◌∙◌, arith}
use Rattle.std.specs.List.{AllByRecursion, AllZip}
use Rattle.std.proofs.lemmas.Grind.{flat_map-append}
use Rattle.std.proofs.lemmas.List.{append-nil, length-append, length-map}
use Rattle.std.proofs.lemmas.List.Concat.{length-flat_map}
use Rattle.std.proofs.lemmas.List.Elements.{recursion_from_All}
use Rattle.std.proofs.lemmas.List.Sums.{sum_by-append, sum_by-cons}
use Rattle.shredding.specs.Slot.{Slot, Slots, fields}
use Rattle.columns_core.specs.Shapes.{leaf_type}
use Rattle.pq_files.specs.FooterRecord.{ColumnChunk, RowGroup}
use Rattle.pq_files.specs.Layout.{OutChunk, OutGroup, OutPage, plain_size}
use Rattle.pq_files.specs.Packed.{AreChunks, AreGroups, ArePages, HasDictionary, IsWrittenChunk, triples_out}
use Rattle.pq_files.specs.Page.{values_in}
use Rattle.pq_files.specs.Written.{Place, pairs_in}
use Rattle.pq_headline.specs.Columns.{ArrowColumn, schema_columns}
use Rattle.pq_headline.specs.Output.{Style}
use Rattle.pq_tree.specs.Tree.{Leaf, columns_of}
use Rattle.pq_tree.specs.declared.version.Version.{Version}
use Rattle.sample_rows.specs.Fields.{sample_fields}
use Rattle.sample_sizes.proofs.Fine.{IsFine, as_slots, column_small}
use Rattle.sample_sizes.proofs.Headers.{IsShort}
use Rattle.sample_sizes.proofs.Neat.{AreNeat, IsNeat}
use Rattle.sample_sizes.proofs.Pages.{few_pages, pages_short, triples_in, values-append}
use Rattle.sample_sizes.proofs.Rooms.{neat_group}
use Rattle.sample_sizes.proofs.Slim.{IsSlot}
use Rattle.sample_sizes.specs.Laid.{IsLaidOut}
use Rattle.sample_sizes.specs.Rows.{IsRow}
use Rattle.schema_to_tree.specs.Table.{schema_of}

-- ---- some first pages of a column
front_short : (ps qs : List OutPage) → AllByRecursion (λ p. IsShort p.statistics) (ps ++ qs) → AllByRecursion (λ p. IsShort p.statistics) ps
front_short [] qs h = tt
front_short (p ∷ ps) qs h = (h.0, front_short ps qs h.1)

-- with a pair in each page
pub record FewBytes (pages rows : ℕ) (text : List ℕ) : Type 0 where
  pub by_pages : length text ≤ 600 * pages + 69 * rows
  pub few : pages ≤ 3 * rows

pub pages_text : (version : Version) (c : ArrowColumn) (l : Leaf) (ss : List Slot) (out : OutChunk) (first rest : List OutPage) (text : List ℕ) → IsFine c l → AllByRecursion IsSlot ss → IsNeat c l ss out
    → out.pages ≡ first ++ rest → ArePages version l out.entries first text → FewBytes (length first) (length ss) text
pages_text version c l ss out first rest text f a n e h =
    let size = plain_size l.physical in
    let are : ArePages version l None first text = subst (λ o. ArePages version l o first text) n.entries h in
    let short : AllByRecursion (λ p. IsShort p.statistics) first = front_short first rest (subst (AllByRecursion (λ p. IsShort p.statistics)) e n.pages) in
    let k = column_small c l ss (triples_out out) f a n.stored in
    let all : triples_out out ≡ triples_in first ++ triples_in rest = ap triples_in e ∙ flat_map-append (λ (p : OutPage). p.triples) first rest in
    let pairs : length (triples_in first) ≤ 3 * length ss = omega (arith, ap length all, length-append (triples_in first) (triples_in rest), k.short) in
    let values : sum_by size (values_in (triples_in first)) ≤ 24 * length ss =
    omega (arith, k.light, ap (λ ts. sum_by size (values_in ts)) all, ap (sum_by size) (values-append (triples_in first) (triples_in rest)), sum_by-append size (values_in (triples_in first)) (values_in (triples_in rest))) in
    record {
      by_pages = omega (arith, pages_short (leaf_type c.data_type) version l first text f.light f.low short are, pairs, values);
      few = omega (arith, few_pages version l first text are, pairs);
    }

pub few_pairs : (c : ArrowColumn) (l : Leaf) (ss : List Slot) (out : OutChunk) → IsFine c l → AllByRecursion IsSlot ss → IsNeat c l ss out → pairs_in out ≤ 3 * length ss
few_pairs c l ss out f a n = omega (arith, length-flat_map (λ (p : OutPage). p.triples) out.pages, (column_small c l ss (triples_out out) f a n.stored).short)

-- ---- a chunk
pub chunk_text : (version : Version) (c : ArrowColumn) (l : Leaf) (ss : List Slot) (out : OutChunk) (w : Place) (text : List ℕ) → IsFine c l → AllByRecursion IsSlot ss → IsNeat c l ss out → IsWrittenChunk version l out w text
    → FewBytes (length out.pages) (length ss) text
chunk_text version c l ss out w text f a n h =
    let none : h.dictionary ≡ [] = subst (λ o. HasDictionary l o h.dictionary) n.entries h.has_dictionary in
    let all : out.pages ≡ out.pages ++ [] = sym (append-nil out.pages) in
    let k = pages_text version c l ss out out.pages [] h.pages f a n all h.are in
    record { by_pages = omega (arith, ap length h.parts, length-append h.dictionary h.pages, ap length none, k.by_pages); few = k.few }

-- ---- the chunks of a group
pub chunks_text : (m : OutChunk → ℕ) (P : OutChunk → Type 0) (version : Version) (ss : List Slot) (cs : List ArrowColumn) (ls : List Leaf) (outs : List OutChunk) (start : ℕ) (text : List ℕ) (metas : List ColumnChunk)
    → ((c : ArrowColumn) (l : Leaf) (out : OutChunk) (w : Place) (own : List ℕ) → IsFine c l → IsNeat c l ss out → P out → IsWrittenChunk version l out w own → length own ≤ m out)
    → AreNeat ss cs ls outs → AllByRecursion P outs → AreChunks version ls outs start text metas → length text ≤ sum_by m outs
chunks_text m P version ss [] [] [] start text metas f n p h = omega (arith, ap length h.0)
chunks_text m P version ss [] [] (o ∷ os) start text metas f n p h = absurd n
chunks_text m P version ss [] (l ∷ ls) os start text metas f n p h = absurd n
chunks_text m P version ss (c ∷ cs) [] os start text metas f n p h = absurd n
chunks_text m P version ss (c ∷ cs) (l ∷ ls) [] start text metas f n p h = absurd n
chunks_text m P version ss (c ∷ cs) (l ∷ ls) (o ∷ os) start text [] f n p h = absurd h
chunks_text m P version ss (c ∷ cs) (l ∷ ls) (o ∷ os) start text (meta ∷ metas) f n p h =
    omega (arith, ap length h.7, length-append h.0 h.1, sum_by-cons m o os, f c l o h.2 h.0 n.0 n.1 p.0 h.4, chunks_text m P version ss cs ls os (start + length h.0) h.1 metas f n.2 p.1 h.6)

-- of three columns
pub three_sum : (ss : List Slot) (outs : List OutChunk) (k : ℕ) → AreNeat ss (schema_columns sample_fields) (columns_of (schema_of sample_fields)) outs → sum_by (λ o. k) outs ≡ 3 * k
three_sum ss [] k n = absurd n
three_sum ss (a ∷ []) k n = absurd n.2
three_sum ss (a ∷ b ∷ []) k n = absurd n.2.2
three_sum ss (a ∷ b ∷ c ∷ []) k n = omega arith
three_sum ss (a ∷ b ∷ c ∷ d ∷ ds) k n = absurd n.2.2.2

-- each at most so many bytes
pub group_few : (P : OutChunk → Type 0) (most : ℕ) (version : Version) (s : Style) (rows : List Slots) (out : OutGroup) (start : ℕ) (text : List ℕ) (metas : List ColumnChunk)
    → ((pages : ℕ) (own : List ℕ) (o : OutChunk) → length o.pages ≡ pages → P o → FewBytes pages (length rows) own → length own ≤ most)
    → All IsRow rows → IsLaidOut s rows out → AllByRecursion P out.chunks → AreChunks version (columns_of (schema_of sample_fields)) out.chunks start text metas → length text ≤ 3 * most
group_few P most version s rows out start text metas f a h p k =
    let ss = map fields rows in
    let slots : AllByRecursion IsSlot ss = as_slots rows (recursion_from_All IsRow rows a) in
    let same : length ss ≡ length rows = length-map rows fields in
    let n = neat_group s rows out a h in
    let all = chunks_text (λ o. most) P version ss (schema_columns sample_fields) (columns_of (schema_of sample_fields)) out.chunks start text metas (λ c l o w own fine neat q is.
    f (length o.pages) own o refl q (subst (λ m. FewBytes (length o.pages) m own) same (chunk_text version c l ss o w own fine slots neat is))) n p k in
    omega (arith, all, three_sum ss out.chunks most n)

abbrev pub IsAny : OutChunk → Type 0
IsAny o = Unit {0}

any_each : (outs : List OutChunk) → AllByRecursion IsAny outs
any_each [] = tt
any_each (o ∷ os) = (tt, any_each os)

pub groups_text : (version : Version) (s : Style) (rowss : List (List Slots)) (outs : List OutGroup) (i start : ℕ) (text : List ℕ) (metas : List RowGroup) → AllByRecursion (All IsRow) rowss → AllZip (IsLaidOut s) rowss outs
    → AreGroups version (columns_of (schema_of sample_fields)) outs i start text metas → length text ≤ 5607 * sum_by length rowss
groups_text version s [] [] i start text metas a h k = omega (arith, ap length k.0)
groups_text version s [] (o ∷ os) i start text metas a h k = absurd h
groups_text version s (r ∷ rs) [] i start text metas a h k = absurd h
groups_text version s (r ∷ rs) (o ∷ os) i start text [] a h k = absurd k
groups_text version s (r ∷ rs) (o ∷ os) i start text (meta ∷ metas) a h k =
    let own = group_few IsAny (1869 * length r) version s r o start k.0 k.2 (λ pages text o e q t. omega (arith, t.by_pages, t.few)) a.0 h.0 (any_each o.chunks) k.4 in
    omega (arith, ap length k.7, length-append k.0 k.1, sum_by-cons (length {A = Slots}) r rs, own, groups_text version s rs os (suc i) (start + length k.0) k.1 metas a.1 h.1 k.6)
