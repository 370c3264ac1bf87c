-- The pairs that a footer of the sample claims.
use Rattle.std.proofs.Common.{◌≡◌, ℕ, suc, ◌+◌, ◌*◌, ◌≤◌, List, [], ◌∷◌, All, length, map, sum_by, refl, sym, subst, ap, arith}
use Rattle.std.specs.List.{AllByRecursion, AllZip}
use Rattle.std.proofs.lemmas.List.{length-map}
use Rattle.std.proofs.lemmas.List.Elements.{recursion_from_All}
use Rattle.std.proofs.lemmas.List.Sums.{sum_by-cons}
use Rattle.shredding.specs.Slot.{Slot, Slots, fields}
use Rattle.pq_files.proofs.CarriedOnce.{frame_same, record_same}
use Rattle.pq_files.proofs.FooterNests.{footer_nests}
use Rattle.pq_files.proofs.FooterSays.{footer_says}
use Rattle.pq_files.proofs.WrittenPages.{whole}
use Rattle.pq_files.specs.FooterRecord.{ColumnChunk, RowGroup, chunk_meta, group_meta}
use Rattle.pq_files.specs.Layout.{OutChunk, OutGroup}
use Rattle.pq_files.specs.Packed.{AreChunks, AreGroups, IsWrittenFile}
use Rattle.pq_files.specs.Written.{footer_record, footer_value}
use Rattle.pq_headline.specs.Columns.{ArrowColumn, schema_columns}
use Rattle.pq_headline.specs.Output.{Style}
use Rattle.pq_headline.specs.Rewrites.{HasFooterAt}
use Rattle.pq_headline.specs.Stages.{claimed, pairs_claimed}
use Rattle.pq_metadata.specs.Footer.{ChunkMeta, Footer, GroupMeta, Key}
use Rattle.pq_metadata.specs.Frame.{IsFramed}
use Rattle.pq_metadata.specs.Metadata.{IsFooterText}
use Rattle.pq_numbers.specs.Texts.{Begins}
use Rattle.pq_tree.specs.Tree.{Leaf, Schema, columns_of}
use Rattle.pq_tree.specs.declared.version.Version.{Version}
use Rattle.sample_rows.specs.Fields.{sample_fields}
use Rattle.sample_sizes.proofs.Held.{all_laid_out}
use Rattle.sample_sizes.proofs.Fine.{as_slots}
use Rattle.sample_sizes.proofs.Neat.{AreNeat}
use Rattle.sample_sizes.proofs.Rooms.{neat_group}
use Rattle.sample_sizes.proofs.Slim.{IsSlot}
use Rattle.sample_sizes.proofs.Texts.{few_pairs, three_sum}
use Rattle.sample_sizes.specs.Laid.{IsLaidOut}
use Rattle.sample_sizes.specs.Laws.{FewPairsAreClaimed}
use Rattle.sample_sizes.specs.Rows.{IsRow}
use Rattle.schema_to_tree.specs.Table.{schema_of}

-- a written file has one footer
pub footer_is : (bytes : List ℕ) (tree : Schema) (keys : List Key) (version : Version) (outs : List OutGroup) (place : ℕ) (f : Footer) (w : IsWrittenFile bytes tree keys version outs) → HasFooterAt bytes place f
    → f ≡ record { schema = tree; groups = map group_meta w.row_groups; keys = keys }
footer_is bytes tree keys version outs place f w at =
    let stated = footer_record version tree keys outs w.row_groups in
    let framed : IsFramed bytes (4 + length w.pages) w.footer = record { pages = w.pages; size = w.size; parts = w.parts; four = w.four; is_size = w.is_size; is_place = refl } in
    let own : Footer = record { schema = tree; groups = map group_meta w.row_groups; keys = keys } in
    let said : Begins IsFooterText w.footer own = whole _ w.footer _ (footer_value stated, w.is_footer.spells, footer_nests stated, footer_says stated tree w.are_keys w.is_tree) in
    record_same at.footer w.footer f own (frame_same bytes place (4 + length w.pages) at.footer w.footer at.framed framed).footers at.said said

chunks_claim : (version : Version) (ss : List Slot) (cs : List ArrowColumn) (ls : List Leaf) (outs : List OutChunk) (start : ℕ) (text : List ℕ) (metas : List ColumnChunk) → AllByRecursion IsSlot ss
    → AreNeat ss cs ls outs → AreChunks version ls outs start text metas → sum_by (λ m. claimed m.num_values) (map chunk_meta metas) ≤ sum_by (λ o. 3 * length ss) outs
chunks_claim version ss [] [] [] start text metas a n h = omega (arith, ap (λ ms. sum_by (λ (m : ChunkMeta). claimed m.num_values) (map chunk_meta ms)) h.1)
chunks_claim version ss [] [] (o ∷ os) start text metas a n h = absurd n
chunks_claim version ss [] (l ∷ ls) os start text metas a n h = absurd n
chunks_claim version ss (c ∷ cs) [] os start text metas a n h = absurd n
chunks_claim version ss (c ∷ cs) (l ∷ ls) [] start text metas a n h = absurd n
chunks_claim version ss (c ∷ cs) (l ∷ ls) (o ∷ os) start text [] a n h = absurd h
chunks_claim version ss (c ∷ cs) (l ∷ ls) (o ∷ os) start text (meta ∷ metas) a n h =
    let own : claimed (chunk_meta meta).num_values ≤ 3 * length ss = subst (λ x. claimed (chunk_meta x).num_values ≤ 3 * length ss) (sym h.5) (few_pairs c l ss o n.0 a n.1) in
    omega (arith, own, sum_by-cons (λ (m : ChunkMeta). claimed m.num_values) (chunk_meta meta) (map chunk_meta metas), sum_by-cons (λ (x : OutChunk). 3 * length ss) o os, chunks_claim version ss cs ls os (start + length h.0) h.1 metas a n.2 h.6)

abbrev group_claim : GroupMeta → ℕ
group_claim g = sum_by (λ m. claimed m.num_values) g.chunks

groups_claim : (version : Version) (s : Style) (rowss : List (List Slots)) (outs : List OutGroup) (i start : ℕ) (text : List ℕ) (metas : List RowGroup) → AllByRecursion (All IsRow) rowss → AllZip (IsLaidOut s) rowss outs
    → AreGroups version (columns_of (schema_of sample_fields)) outs i start text metas → sum_by group_claim (map group_meta metas) ≤ 9 * sum_by length rowss
groups_claim version s [] [] i start text metas a h k = omega (arith, ap (λ ms. sum_by group_claim (map group_meta ms)) k.1)
groups_claim version s [] (o ∷ os) i start text metas a h k = absurd h
groups_claim version s (r ∷ rs) [] i start text metas a h k = absurd h
groups_claim version s (r ∷ rs) (o ∷ os) i start text [] a h k = absurd k
groups_claim version s (r ∷ rs) (o ∷ os) i start text (meta ∷ metas) a h k =
    let ss = map fields r in
    let n = neat_group s r o a.0 h.0 in
    let slots : AllByRecursion IsSlot ss = as_slots r (recursion_from_All IsRow r a.0) in
    let all = chunks_claim version ss (schema_columns sample_fields) (columns_of (schema_of sample_fields)) o.chunks start k.0 k.2 slots n k.4 in
    let own : group_claim (group_meta meta) ≤ 9 * length r = subst (λ x. group_claim (group_meta x) ≤ 9 * length r) (sym k.5) (omega (arith, all, three_sum ss o.chunks (3 * length ss) n, length-map r fields)) in
    omega (arith, own, sum_by-cons group_claim (group_meta meta) (map group_meta metas), sum_by-cons (length {A = Slots}) r rs, groups_claim version s rs os (suc i) (start + length k.0) k.1 metas a.1 h.1 k.6)

pub few_pairs_are_claimed : FewPairsAreClaimed
few_pairs_are_claimed s version rowss bytes place f a file at =
    let w = file.packed.written in
    omega (arith, ap pairs_claimed (footer_is bytes _ _ version file.outs place f w at), groups_claim version s rowss file.outs 0 4 w.pages w.row_groups (recursion_from_All (All IsRow) rowss a.are) (all_laid_out s rowss file.outs file.are) w.are)
