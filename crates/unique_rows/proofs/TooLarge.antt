-- Why an output is too large, by the rows of its pieces alone.
use Rattle.std.proofs.Common.{◌≡◌, ◌<◌, List, [], ◌∷◌, ◌++◌, map, Option, None, refl, ap, subst, ◌∙◌, inl, inr}
use Rattle.std.proofs.lemmas.List.{map-append}
use Rattle.std.specs.List.{AllZip}
use Rattle.shredding.specs.Slot.{Slots, Value}
use Rattle.columns_core.specs.Tree.{FieldTrees}
use Rattle.columns_core.specs.View.{SchemaTree}
use Rattle.pq_metadata.specs.Footer.{Footer, Key}
use Rattle.pq_tree.specs.Tree.{Leaf, Schema, columns_of}
use Rattle.pq_files.specs.Carried.{Column, column_in}
use Rattle.pq_files.specs.Layout.{OutGroup}
use Rattle.pq_files.specs.Reasons.{AnyOf}
use Rattle.pq_files.specs.Room.{footer_room, max_size, planned_footer}
use Rattle.schema_key.specs.Key.{schema_entry}
use Rattle.schema_to_tree.specs.Table.{schema_of}
use Rattle.pq_headline.proofs.Plain.{NoKeys}
use Rattle.pq_headline.specs.Columns.{ArrowColumn, is_dictionary, schema_columns}
use Rattle.pq_headline.specs.Output.{IsLaidGroup, PieceIsTooLarge, all_chosen}
use Rattle.pq_headline.specs.Rewrites.{Asked, Codec, IsPieceOut, Piece, keys_out}
use Rattle.pq_headline.specs.Rows.{AreAllEntries}
use Rattle.pq_headline.specs.Stages.{CountsPass, V3At}
use Rattle.unique_rows.proofs.Outs.{no_entry}
use Rattle.unique_rows.proofs.Rewritten.{keys_left, own_key}
use Rattle.unique_rows.specs.Valid.{AreTooLarge, IsGroupFor, RowsPassCounts, none_each}

abbrev Entries : Type 0
Entries = List (Option (List (Option Value)))

-- ---- no column has entries

entries_are : (cs : List ArrowColumn) (ls : List Leaf) (gots : List Column) (ds : Entries) → NoKeys cs → AreAllEntries cs ls gots ds → ds ≡ map (λ c. None) cs
entries_are [] [] [] [] k h = refl
entries_are [] [] [] (d ∷ ds) k h = absurd h
entries_are [] [] (g ∷ gs) ds k h = absurd h
entries_are [] (l ∷ ls) gs ds k h = absurd h
entries_are (c ∷ cs) [] gs ds k h = absurd h
entries_are (c ∷ cs) (l ∷ ls) [] ds k h = absurd h
entries_are (c ∷ cs) (l ∷ ls) (g ∷ gs) [] k h = absurd h
entries_are (c ∷ cs) (l ∷ ls) (g ∷ gs) (d ∷ ds) k h =
    ap (λ x. x ∷ ds) (no_entry (is_dictionary c.data_type) c l g d k.0 h.0) ∙ ap (λ xs. None ∷ xs) (entries_are cs ls gs ds k.1 h.1)

-- ---- pieces by their rows

abbrev pub rows_in_pieces : List Piece → List (List Slots)
rows_in_pieces ps = map (λ p. p.rows) ps

pub any_rows : (P : Piece → Type 0) (Q : List Slots → Type 0) → ((p : Piece) → P p → Q p.rows) → (ps : List Piece) → AnyOf P ps → AnyOf Q (rows_in_pieces ps)
any_rows P Q each [] h = h
any_rows P Q each (p ∷ ps) (inl h) = inl (each p h)
any_rows P Q each (p ∷ ps) (inr h) = inr (any_rows P Q each ps h)

group_for : (asked : Asked) (fs : FieldTrees) (tree : Schema) (p : Piece) (out : OutGroup) → NoKeys (schema_columns fs) → IsPieceOut asked fs tree p out → IsGroupFor asked fs p.rows out
group_for asked fs tree p out k h =
    subst (λ (ds : Entries). IsLaidGroup asked.style p.rows (schema_columns fs) (columns_of (schema_of fs)) (all_chosen asked.delta (schema_columns fs) (columns_of (schema_of fs))) ds out)
    (entries_are (schema_columns fs) (columns_of tree) (map column_in p.source.chunks) h.entries k h.of_source) h.laid

groups_for : (asked : Asked) (fs : FieldTrees) (tree : Schema) (ps : List Piece) (outs : List OutGroup) → NoKeys (schema_columns fs) → AllZip (IsPieceOut asked fs tree) ps outs → AllZip (IsGroupFor asked fs) (rows_in_pieces ps) outs
groups_for asked fs tree [] [] k h = tt
groups_for asked fs tree [] (out ∷ outs) k h = absurd h
groups_for asked fs tree (p ∷ ps) [] k h = absurd h
groups_for asked fs tree (p ∷ ps) (out ∷ outs) k h = (group_for asked fs tree p out k h.0, groups_for asked fs tree ps outs k h.1)

counts_pass : (asked : Asked) (fs : FieldTrees) (tree : Schema) (ps : List Piece) → NoKeys (schema_columns fs) → CountsPass asked fs tree ps → RowsPassCounts asked fs (rows_in_pieces ps)
counts_pass asked fs tree ps k h = record {
  first = rows_in_pieces h.first;
  rows = h.piece.rows;
  others = rows_in_pieces h.others;
  parts = ap rows_in_pieces h.parts ∙ map-append (λ p. p.rows) h.first (h.piece ∷ h.others);
  outs = h.outs;
  are_out = groups_for asked fs tree h.first h.outs k h.are_out;
  out = h.out;
  is_out = group_for asked fs tree h.piece h.out k h.is_out;
  passes = h.passes;
}

-- ---- all of it

keys_are : (codec : Codec) (s : SchemaTree) (keys : List Key) → keys ≡ schema_entry (codec.bytes_of s) ∷ [] → keys_out codec s keys ≡ schema_entry (codec.bytes_of s) ∷ []
keys_are codec s keys e = ap (λ ks. ks ++ schema_entry (codec.bytes_of s) ∷ []) (keys_left (schema_entry (codec.bytes_of s)) keys e own_key)

pub too_large : (codec : Codec) (asked : Asked) (f : Footer) (s : SchemaTree) (ps : List Piece) → NoKeys (schema_columns s.fields) → f.keys ≡ schema_entry (codec.bytes_of s) ∷ [] → V3At codec asked f s ps → AreTooLarge codec asked s (rows_in_pieces ps)
too_large codec asked f s ps k e (inl h) =
    inl (any_rows _ (λ rows. PieceIsTooLarge asked.style s.fields rows (none_each s.fields))
    (λ p x. subst (λ (ds : Entries). PieceIsTooLarge asked.style s.fields p.rows ds) (entries_are (schema_columns s.fields) (columns_of f.schema) (map column_in p.source.chunks) x.0 k x.1) x.2) ps h)
too_large codec asked f s ps k e (inr (inl h)) = inr (inl h)
too_large codec asked f s ps k e (inr (inr (inl h))) =
    inr (inr (inl (h.0, groups_for asked s.fields f.schema ps h.0 k h.1, subst (λ (ks : List Key). max_size < footer_room (planned_footer (schema_of s.fields) ks h.0)) (keys_are codec s f.keys e) h.2)))
too_large codec asked f s ps k e (inr (inr (inr h))) = inr (inr (inr (counts_pass asked s.fields f.schema ps k h)))
