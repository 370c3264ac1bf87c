-- The columns of a group as they stand in a file that was written for its rows.
use Rattle.std.proofs.Common.{◌≡◌, ℕ, Bool, true, false, ◌&&◌, List, [], ◌∷◌, map, length, Option, Some, None, refl, sym, ap, subst, ◌∙◌}
use Rattle.std.specs.List.{AllByRecursion, AllZip}
use Rattle.shredding.specs.Shape.{LeafType}
use Rattle.shredding.specs.Shred.{Triple, column}
use Rattle.shredding.specs.Slot.{Slot, Slots, Value, fields}
use Rattle.columns_core.specs.Shapes.{leaf_type}
use Rattle.pq_metadata.specs.Footer.{ChunkMeta}
use Rattle.pq_tree.specs.Physical.{Physical}
use Rattle.pq_tree.specs.Tree.{Leaf}
use Rattle.pq_files.specs.Carried.{IsChunkOf, column_in}
use Rattle.pq_files.specs.Chunk.{Chunk, triples_of}
use Rattle.pq_files.specs.Layout.{AreStoredEntries, OutChunk, OutPage}
use Rattle.pq_files.specs.Packed.{triples_out}
use Rattle.pq_files.specs.Page.{Encoding, plain, rows_in}
use Rattle.pq_files.specs.Stored.{AreStored}
use Rattle.pq_files.specs.Written.{encoding_in}
use Rattle.pq_headline.proofs.Plain.{NoKeys}
use Rattle.pq_headline.specs.Columns.{ArrowColumn, is_dictionary, is_flat}
use Rattle.pq_headline.specs.Lists.{AllZip3}
use Rattle.pq_headline.specs.Output.{AreLaid, IsLaid, IsPageOfRows, Style, Written, all_chosen, chosen}
use Rattle.pq_headline.specs.Rows.{IsColumnOf}
use Rattle.unique_rows.proofs.Found.{AreEncoded, AreFound, HaveNoEntries, IsFound}
use Rattle.unique_rows.proofs.Laid.{AllNone, laid_triples}

-- The chunk of a column holds the column of the rows, without a dictionary, and in plain pages where the column is not flat.
pub record IsSound (bytes : List ℕ) (place : ℕ) (rows : List Slots) (c : ArrowColumn) (l : Leaf) (m : ChunkMeta) : Type 0 where
  pub chunk : Chunk
  pub is : IsChunkOf bytes place m l chunk
  pub entries : chunk.entries ≡ None
  pub shred : IsColumnOf (map fields rows) c l (column_in chunk)
  pub counted : rows_in (triples_of chunk) ≡ length rows
  pub encoded : is_flat c ≡ false → AreEncoded plain chunk.pages
  pub direct : is_dictionary c.data_type ≡ false

-- ---- a column

no_stored : (t : LeafType) (p : Physical) (d : Option (List (Option Value))) (s : Option (List Value)) → d ≡ None → AreStoredEntries t p d s → s ≡ None
no_stored t p None None e h = refl
no_stored t p None (Some vs) e h = absurd h
no_stored t p (Some es) s e h = absurd (cc e)

pub no_entries_out : (s : Style) (rows : List Slots) (cs : List ArrowColumn) (ls : List Leaf) (es : List Encoding) (ds : List (Option (List (Option Value)))) (outs : List OutChunk) → AllNone ds → AreLaid s rows cs ls es ds outs → HaveNoEntries outs
no_entries_out s rows [] [] [] [] [] n h = tt
no_entries_out s rows (c ∷ cs) (l ∷ ls) (e ∷ es) (d ∷ ds) (out ∷ outs) n h =
    (no_stored (leaf_type c.data_type) l.physical d out.entries n.0 h.0.entries, no_entries_out s rows cs ls es ds outs n.1 h.1)
no_entries_out s rows _ _ _ _ _ n h = absurd h

both_false : (a b : Bool) → b ≡ false → (a && b) ≡ false
both_false true b e = e
both_false false b e = refl

chosen_plain : (deltas : Bool) (c : ArrowColumn) (l : Leaf) → is_dictionary c.data_type ≡ false → is_flat c ≡ false → chosen deltas c l ≡ plain
chosen_plain deltas c l direct nested = rw (direct, both_false deltas (is_flat c) nested) refl

first_encoding : (s : Style) (e : Encoding) (c : Written) (ps : List (List Slot)) (pages : List OutPage) → e ≡ plain → AllZip (IsPageOfRows s e c) ps pages → encoding_in pages ≡ plain
first_encoding s e c ps [] q h = refl
first_encoding s e c [] (p ∷ pages) q h = absurd h
first_encoding s e c (r ∷ ps) (p ∷ pages) q h = h.0.encoding ∙ q

sound : (s : Style) (deltas : Bool) (bytes : List ℕ) (place : ℕ) (rows : List Slots) (c : ArrowColumn) (l : Leaf) (m : ChunkMeta) (d : Option (List (Option Value))) (out : OutChunk)
    → d ≡ None → is_dictionary c.data_type ≡ false → IsLaid s (chosen deltas c l) (record { arrow = c; physical = l.physical; entries = d }) (map fields rows) out → IsFound bytes place m l out → rows_in (triples_out out) ≡ length rows → IsSound bytes place rows c l m
sound s deltas bytes place rows c l m d out n direct h f count = record {
  chunk = f.chunk;
  is = f.is;
  entries = f.entries;
  shred = subst (λ (ts : List Triple). AreStored (leaf_type c.data_type) l.physical (column c.way (map fields rows)) ts) (sym f.triples) (laid_triples s (chosen deltas c l) c l.physical d (map fields rows) out n h);
  counted = ap rows_in f.triples ∙ count;
  encoded = λ nested. subst (λ (e : Encoding). AreEncoded e f.chunk.pages) (first_encoding s (chosen deltas c l) _ _ out.pages (chosen_plain deltas c l direct nested) h.pages) f.encoded;
  direct = direct;
}

-- ---- the columns of a group

abbrev pub AreSound : List ℕ → ℕ → List Slots → List ArrowColumn → List Leaf → List ChunkMeta → Type 0
AreSound bytes place rows cs ls ms = AllZip3 (IsSound bytes place rows) cs ls ms

pub are_sound : (s : Style) (deltas : Bool) (bytes : List ℕ) (place : ℕ) (rows : List Slots) (cs : List ArrowColumn) (ls : List Leaf) (ms : List ChunkMeta) (ds : List (Option (List (Option Value)))) (outs : List OutChunk)
    → AllNone ds → NoKeys cs → AreLaid s rows cs ls (all_chosen deltas cs ls) ds outs → AreFound bytes place ms ls outs → AllByRecursion (λ c. rows_in (triples_out c) ≡ length rows) outs → AreSound bytes place rows cs ls ms
are_sound s deltas bytes place rows [] [] [] [] [] n k h f count = tt
are_sound s deltas bytes place rows [] [] (m ∷ ms) ds outs n k h f count = absurd f
are_sound s deltas bytes place rows [] [] [] (d ∷ ds) outs n k h f count = absurd h
are_sound s deltas bytes place rows [] [] [] [] (out ∷ outs) n k h f count = absurd h
are_sound s deltas bytes place rows [] (l ∷ ls) ms ds outs n k h f count = absurd h
are_sound s deltas bytes place rows (c ∷ cs) [] ms ds outs n k h f count = absurd h
are_sound s deltas bytes place rows (c ∷ cs) (l ∷ ls) ms [] outs n k h f count = absurd h
are_sound s deltas bytes place rows (c ∷ cs) (l ∷ ls) ms (d ∷ ds) [] n k h f count = absurd h
are_sound s deltas bytes place rows (c ∷ cs) (l ∷ ls) [] (d ∷ ds) (out ∷ outs) n k h f count = absurd f
are_sound s deltas bytes place rows (c ∷ cs) (l ∷ ls) (m ∷ ms) (d ∷ ds) (out ∷ outs) n k h f count =
    (sound s deltas bytes place rows c l m d out n.0 k.0 h.0 f.0 count.0, are_sound s deltas bytes place rows cs ls ms ds outs n.1 k.1 h.1 f.1 count.1)
