-- The columns of a group, from those of its fields.
use Rattle.std.proofs.Common.{◌≡◌, ℕ, false, List, [], ◌∷◌, ◌++◌, length, map, All, Option, sym, subst, ◌∙◌}
use Rattle.std.proofs.lemmas.List.Elements.{All-nil, All-cons}
use Rattle.shredding.proofs.Schema.{own_columns}
use Rattle.shredding.specs.Slot.{Slot, Slots, fields, Value}
use Rattle.columns_core.specs.Shapes.{leaf_type}
use Rattle.pq_metadata.specs.Footer.{ChunkMeta}
use Rattle.pq_tree.specs.Tree.{Leaf}
use Rattle.pq_files.specs.Carried.{Column, column_in, AreChunks, IsChunkOf}
use Rattle.pq_files.specs.Chunk.{Chunk, triples_of}
use Rattle.pq_files.specs.Page.{rows_in}
use Rattle.pq_files.specs.Stored.{AreStored}
use Rattle.pq_headline.specs.Columns.{ArrowColumn, beneath_struct}
use Rattle.pq_headline.specs.Lists.{AllZip3}
use Rattle.pq_headline.specs.Opened.{Reads}
use Rattle.pq_headline.specs.Openings.{HoldsColumn, HoldColumns, leaf_levels}
use Rattle.pq_pages.proofs.HeldChunks.{chunk_held}
use Rattle.pq_pages.specs.Outcomes.{Outcome}
use Rattle.pq_headline.specs.Rows.{IsColumnOf, AreAllEntries, field_slots}

-- ---- lists side by side

pub zip_append : {A B C : Type 0} (R : A → B → C → Type 0) (xs xs' : List A) (ys ys' : List B) (zs zs' : List C) → AllZip3 R xs ys zs → AllZip3 R xs' ys' zs' → AllZip3 R (xs ++ xs') (ys ++ ys') (zs ++ zs')
zip_append R [] xs' [] ys' [] zs' p q = q
zip_append R [] xs' [] ys' (z ∷ zs) zs' p q = absurd p
zip_append R [] xs' (y ∷ ys) ys' zs zs' p q = absurd p
zip_append R (x ∷ xs) xs' [] ys' zs zs' p q = absurd p
zip_append R (x ∷ xs) xs' (y ∷ ys) ys' [] zs' p q = absurd p
zip_append R (x ∷ xs) xs' (y ∷ ys) ys' (z ∷ zs) zs' p q = (p.0, zip_append R xs xs' ys ys' zs zs' p.1 q)

-- ---- columns beneath the struct of the schema

shreds : (i : ℕ) (rows : List Slots) (c : ArrowColumn) (l : Leaf) (got : Column) → IsColumnOf (field_slots i rows) c l got → IsColumnOf (map fields rows) (beneath_struct false i c) l got
shreds i rows c l got h = subst (λ ts. AreStored (leaf_type c.data_type) l.physical ts got.triples) (sym (own_columns i c.way rows)) h

pub shred_beneath : (i : ℕ) (rows : List Slots) (cs : List ArrowColumn) (ls : List Leaf) (os : List (List Outcome)) (gots : List Chunk) → HoldColumns (field_slots i rows) cs ls os gots → AllZip3 (IsColumnOf (map fields rows)) (map (beneath_struct false i) cs) ls (map column_in gots)
shred_beneath i rows [] [] [] [] h = tt
shred_beneath i rows [] [] [] (g ∷ gs) h = absurd h
shred_beneath i rows [] [] (o ∷ os) gs h = absurd h
shred_beneath i rows [] (l ∷ ls) os gs h = absurd h
shred_beneath i rows (c ∷ cs) [] os gs h = absurd h
shred_beneath i rows (c ∷ cs) (l ∷ ls) [] gs h = absurd h
shred_beneath i rows (c ∷ cs) (l ∷ ls) (o ∷ os) [] h = absurd h
shred_beneath i rows (c ∷ cs) (l ∷ ls) (o ∷ os) (g ∷ gs) h = (shreds i rows c l (column_in g) h.0.shred, shred_beneath i rows cs ls os gs h.1)

-- ---- chunks

chunk_is : (rows : List Slot) (bytes : List ℕ) (place : ℕ) (m : ChunkMeta) (c : ArrowColumn) (l : Leaf) (outcomes : List Outcome) (got : Chunk) → Reads bytes place m l outcomes → HoldsColumn rows c l outcomes got → IsChunkOf bytes place m l got
chunk_is rows bytes place m c l outcomes got r h =
    record {
      here = r.placed.here;
      physical = r.placed.physical;
      codec = r.placed.codec;
      num_values = r.placed.num_values;
      has_num_values = r.placed.has_num_values;
      start = r.placed.start;
      starts = r.placed.starts;
      behind_magic = r.placed.behind_magic;
      size = r.placed.size;
      has_size = r.placed.has_size;
      before_footer = r.placed.before_footer;
      text = r.text;
      is_there = r.is_there;
      is = chunk_held (leaf_levels l) r.placed.num_values r.text outcomes l got (r.reads.pages h.given) h.holds;
    }

pub chunks_are : (rows : List Slot) (bytes : List ℕ) (place : ℕ) (ms : List ChunkMeta) (cs : List ArrowColumn) (ls : List Leaf) (os : List (List Outcome)) (gots : List Chunk) → AllZip3 (Reads bytes place) ms ls os → HoldColumns rows cs ls os gots → AreChunks bytes place ms ls gots
chunks_are rows bytes place [] [] [] [] [] r h = tt
chunks_are rows bytes place [] cs [] (o ∷ os) gs r h = absurd r
chunks_are rows bytes place [] cs (l ∷ ls) os gs r h = absurd r
chunks_are rows bytes place (m ∷ ms) cs [] os gs r h = absurd r
chunks_are rows bytes place (m ∷ ms) cs (l ∷ ls) [] gs r h = absurd r
chunks_are rows bytes place [] [] [] [] (g ∷ gs) r h = absurd h
chunks_are rows bytes place [] (c ∷ cs) [] [] gs r h = absurd h
chunks_are rows bytes place (m ∷ ms) [] (l ∷ ls) (o ∷ os) gs r h = absurd h
chunks_are rows bytes place (m ∷ ms) (c ∷ cs) (l ∷ ls) (o ∷ os) [] r h = absurd h
chunks_are rows bytes place (m ∷ ms) (c ∷ cs) (l ∷ ls) (o ∷ os) (g ∷ gs) r h = (chunk_is rows bytes place m c l o g r.0 h.0, chunks_are rows bytes place ms cs ls os gs r.1 h.1)

pub chunks_append : (bytes : List ℕ) (place : ℕ) (ms ms' : List ChunkMeta) (ls ls' : List Leaf) (gs gs' : List Chunk) → AreChunks bytes place ms ls gs → AreChunks bytes place ms' ls' gs' → AreChunks bytes place (ms ++ ms') (ls ++ ls') (gs ++ gs')
chunks_append bytes place [] ms' [] ls' [] gs' p q = q
chunks_append bytes place [] ms' [] ls' (g ∷ gs) gs' p q = absurd p
chunks_append bytes place [] ms' (l ∷ ls) ls' gs gs' p q = absurd p
chunks_append bytes place (m ∷ ms) ms' [] ls' gs gs' p q = absurd p
chunks_append bytes place (m ∷ ms) ms' (l ∷ ls) ls' [] gs' p q = absurd p
chunks_append bytes place (m ∷ ms) ms' (l ∷ ls) ls' (g ∷ gs) gs' p q = (p.0, chunks_append bytes place ms ms' ls ls' gs gs' p.1 q)

abbrev pub AreCounted : ℕ → List Chunk → Type 0
AreCounted n gots = All (λ got. rows_in (triples_of got) ≡ n) gots

pub counted : (rows : List Slot) (n : ℕ) → length rows ≡ n → (cs : List ArrowColumn) (ls : List Leaf) (os : List (List Outcome)) (gots : List Chunk) → HoldColumns rows cs ls os gots → AreCounted n gots
counted rows n e [] [] [] [] h = All-nil (λ got. rows_in (triples_of got) ≡ n)
counted rows n e [] [] [] (g ∷ gs) h = absurd h
counted rows n e [] [] (o ∷ os) gs h = absurd h
counted rows n e [] (l ∷ ls) os gs h = absurd h
counted rows n e (c ∷ cs) [] os gs h = absurd h
counted rows n e (c ∷ cs) (l ∷ ls) [] gs h = absurd h
counted rows n e (c ∷ cs) (l ∷ ls) (o ∷ os) [] h = absurd h
counted rows n e (c ∷ cs) (l ∷ ls) (o ∷ os) (g ∷ gs) h = All-cons (λ got. rows_in (triples_of got) ≡ n) g gs (h.0.counted ∙ e) (counted rows n e cs ls os gs h.1)

-- ---- entries

pub entries_append : (cs cs' : List ArrowColumn) (ls ls' : List Leaf) (gs gs' : List Column) (ds ds' : List (Option (List (Option Value)))) → AreAllEntries cs ls gs ds → AreAllEntries cs' ls' gs' ds' → AreAllEntries (cs ++ cs') (ls ++ ls') (gs ++ gs') (ds ++ ds')
entries_append [] cs' [] ls' [] gs' [] ds' p q = q
entries_append [] cs' [] ls' [] gs' (d ∷ ds) ds' p q = absurd p
entries_append [] cs' [] ls' (g ∷ gs) gs' ds ds' p q = absurd p
entries_append [] cs' (l ∷ ls) ls' gs gs' ds ds' p q = absurd p
entries_append (c ∷ cs) cs' [] ls' gs gs' ds ds' p q = absurd p
entries_append (c ∷ cs) cs' (l ∷ ls) ls' [] gs' ds ds' p q = absurd p
entries_append (c ∷ cs) cs' (l ∷ ls) ls' (g ∷ gs) gs' [] ds' p q = absurd p
entries_append (c ∷ cs) cs' (l ∷ ls) ls' (g ∷ gs) gs' (d ∷ ds) ds' p q = (p.0, entries_append cs cs' ls ls' gs gs' ds ds' p.1 q)

pub entries_beneath : (i : ℕ) (cs : List ArrowColumn) (ls : List Leaf) (gs : List Column) (ds : List (Option (List (Option Value)))) → AreAllEntries cs ls gs ds → AreAllEntries (map (beneath_struct false i) cs) ls gs ds
entries_beneath i [] [] [] [] p = tt
entries_beneath i [] [] [] (d ∷ ds) p = absurd p
entries_beneath i [] [] (g ∷ gs) ds p = absurd p
entries_beneath i [] (l ∷ ls) gs ds p = absurd p
entries_beneath i (c ∷ cs) [] gs ds p = absurd p
entries_beneath i (c ∷ cs) (l ∷ ls) [] ds p = absurd p
entries_beneath i (c ∷ cs) (l ∷ ls) (g ∷ gs) [] p = absurd p
entries_beneath i (c ∷ cs) (l ∷ ls) (g ∷ gs) (d ∷ ds) p = (p.0, entries_beneath i cs ls gs ds p.1)
