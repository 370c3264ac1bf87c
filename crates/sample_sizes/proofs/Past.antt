-- No size of the format is passed where rows of the sample are written anew.
use Rattle.std.proofs.Common.{◌≡◌, ◌≤◌, ◌<◌, Bool, true, false, true≢false, List, [], ◌∷◌, ◌++◌, All, length, map, Option, Some, None, sum_by, inl, inr, refl, subst, ap, ◌∙◌, arith}
use Rattle.std.specs.List.{AllByRecursion, AllZip}
use Rattle.std.proofs.lemmas.List.{map-append}
use Rattle.std.proofs.lemmas.List.Elements.{All-from_recursion, recursion_from_All}
use Rattle.std.proofs.lemmas.List.Sums.{sum_by-cons}
use Rattle.shredding.specs.Slot.{Slots, Value}
use Rattle.pq_files.specs.Carried.{Column, column_in}
use Rattle.pq_files.specs.Layout.{OutGroup}
use Rattle.pq_files.specs.Reasons.{AnyOf}
use Rattle.pq_files.specs.Room.{footer_room, max_size, planned_footer}
use Rattle.pq_headline.specs.Columns.{ArrowColumn, is_dictionary, schema_columns}
use Rattle.pq_headline.specs.Output.{PieceIsTooLarge}
use Rattle.pq_headline.specs.Rewrites.{Asked, Codec, IsPieceOut, Piece, keys_out}
use Rattle.pq_headline.specs.Rows.{AreAllEntries, HasEntriesOf}
use Rattle.pq_headline.specs.Stages.{A7At, CountsPass, V3At}
use Rattle.pq_metadata.specs.Footer.{Footer, Key}
use Rattle.pq_tree.specs.Tree.{Leaf, Schema, columns_of}
use Rattle.sample_rows.specs.Fields.{sample_fields, sample_tree}
use Rattle.sample_sizes.proofs.Counts.{counts_hold}
use Rattle.sample_sizes.proofs.Large.{no_decimal_is_wide, no_page_is_large}
use Rattle.sample_sizes.proofs.Rooms.{footers_have_room, schema_is_small}
use Rattle.sample_sizes.specs.Laid.{IsLaidOut}
use Rattle.sample_sizes.specs.Laws.{NoPieceIsPast}
use Rattle.sample_sizes.specs.Rows.{AreGroupsOfRows, AreRows, IsRow}
use Rattle.schema_codec.specs.Spelling.{plain_bytes}
use Rattle.schema_key.specs.Key.{schema_entry}
use Rattle.schema_to_tree.specs.Table.{schema_of}

-- ---- without dictionaries there are no entries
no_entry : (b : Bool) (c : ArrowColumn) (l : Leaf) (got : Column) (d : Option (List (Option Value))) → b ≡ false → HasEntriesOf b c.data_type l.physical got.entries d → d ≡ None
no_entry true c l got d e h = absurd (true≢false e)
no_entry false c l got None e h = refl
no_entry false c l got (Some d) e h = absurd h

no_entries : (cs : List ArrowColumn) (ls : List Leaf) (gots : List Column) (ds : List (Option (List (Option Value)))) → AllByRecursion (λ c. is_dictionary c.data_type ≡ false) cs → AreAllEntries cs ls gots ds → AllByRecursion (λ d. d ≡ None) ds
no_entries [] [] [] [] n h = tt
no_entries [] [] [] (d ∷ ds) n h = absurd h
no_entries [] [] (g ∷ gs) ds n h = absurd h
no_entries [] (l ∷ ls) gs ds n h = absurd h
no_entries (c ∷ cs) [] gs ds n h = absurd h
no_entries (c ∷ cs) (l ∷ ls) [] ds n h = absurd h
no_entries (c ∷ cs) (l ∷ ls) (g ∷ gs) [] n h = absurd h
no_entries (c ∷ cs) (l ∷ ls) (g ∷ gs) (d ∷ ds) n h = (no_entry (is_dictionary c.data_type) c l g d n.0 h.0, no_entries cs ls gs ds n.1 h.1)

none_all : (ls : List Leaf) (gots : List Column) (ds : List (Option (List (Option Value)))) → AreAllEntries (schema_columns sample_fields) ls gots ds → All (λ d. d ≡ None) ds
none_all ls gots ds h = All-from_recursion (λ d. d ≡ None) ds (no_entries (schema_columns sample_fields) ls gots ds (refl, (refl, (refl, tt))) h)

-- ---- pieces, laid out
piece_laid : (asked : Asked) (tree : Schema) (p : Piece) (out : OutGroup) → IsPieceOut asked sample_fields tree p out → IsLaidOut asked.style p.rows out
piece_laid asked tree p out h = record { encodings = _; entries = h.entries; none = none_all (columns_of tree) (map column_in p.source.chunks) h.entries h.of_source; laid = h.laid }

pieces_laid : (asked : Asked) (tree : Schema) (ps : List Piece) (outs : List OutGroup) → AllZip (IsPieceOut asked sample_fields tree) ps outs → AllZip (IsLaidOut asked.style) (map (λ p. p.rows) ps) outs
pieces_laid asked tree [] [] h = tt
pieces_laid asked tree [] (o ∷ os) h = absurd h
pieces_laid asked tree (p ∷ ps) [] h = absurd h
pieces_laid asked tree (p ∷ ps) (o ∷ os) h = (piece_laid asked tree p o h.0, pieces_laid asked tree ps os h.1)

-- ---- each piece by itself
rows_each : (rowss : List (List Slots)) → AllByRecursion (All IsRow) rowss → sum_by length rowss ≤ 1000000 → AllByRecursion AreRows rowss
rows_each [] a h = tt
rows_each (r ∷ rs) a h = let s = sum_by-cons (length {A = Slots}) r rs in (record { are = a.0; few = omega (arith, s, h) }, rows_each rs a.1 (omega (arith, s, h)))

abbrev IsLargePiece : Asked → Schema → Piece → Type 0
IsLargePiece asked tree p = (ds : List (Option (List (Option Value)))) × AreAllEntries (schema_columns sample_fields) (columns_of tree) (map column_in p.source.chunks) ds × PieceIsTooLarge asked.style sample_fields p.rows ds

no_large_piece : (asked : Asked) (tree : Schema) (ps : List Piece) → AllByRecursion AreRows (map (λ p. p.rows) ps) → AnyOf (IsLargePiece asked tree) ps → ⊥
no_large_piece asked tree [] a h = absurd h
no_large_piece asked tree (p ∷ ps) a (inl h) = no_page_is_large asked.style p.rows h.0 a.0 (none_all (columns_of tree) (map column_in p.source.chunks) h.0 h.1) h.2
no_large_piece asked tree (p ∷ ps) a (inr h) = no_large_piece asked tree ps a.1 h

pub no_wide_piece : (f : Footer) (ps : List Piece) → A7At f sample_tree ps → ⊥
no_wide_piece f [] h = absurd h
no_wide_piece f (p ∷ ps) (inl h) = no_decimal_is_wide p.rows h
no_wide_piece f (p ∷ ps) (inr h) = no_wide_piece f ps h

-- ---- all of them
no_count : (asked : Asked) (tree : Schema) (ps : List Piece) → AreGroupsOfRows (map (λ p. p.rows) ps) → CountsPass asked sample_fields tree ps → ⊥
no_count asked tree ps a h =
    let rows : Piece → List Slots = λ p. p.rows in
    let parts : map (λ p. p.rows) ps ≡ map (λ p. p.rows) h.first ++ h.piece.rows ∷ map (λ p. p.rows) h.others = ap (map (λ p. p.rows)) h.parts ∙ map-append rows h.first (h.piece ∷ h.others) in
    counts_hold asked.style asked.version (map (λ p. p.rows) h.first) h.piece.rows (map (λ p. p.rows) h.others) h.outs h.out (subst AreGroupsOfRows parts a) (pieces_laid asked tree h.first h.outs h.are_out) (piece_laid asked tree h.piece h.out h.is_out) h.passes

keys_are : (codec : Codec) (keys : List Key) → codec.bytes_of sample_tree ≡ plain_bytes sample_tree → keys ≡ schema_entry (plain_bytes sample_tree) ∷ [] → keys_out codec sample_tree keys ≡ schema_entry (plain_bytes sample_tree) ∷ []
keys_are codec keys b k = ap (keys_out codec sample_tree) k ∙ ap (λ bs. schema_entry bs ∷ []) b

pub no_piece_is_past : NoPieceIsPast
no_piece_is_past codec asked f pieces b k a v = of v
  where
    of : V3At codec asked f sample_tree pieces → ⊥
    of (inl h) = no_large_piece asked f.schema pieces (rows_each (map (λ p. p.rows) pieces) (recursion_from_All (All IsRow) (map (λ p. p.rows) pieces) a.are) a.few) h
    of (inr (inl h)) = absurd (omega (arith, h, ap length b, schema_is_small))
    of (inr (inr (inl h))) =
        let few = footers_have_room asked.style (map (λ p. p.rows) pieces) h.0 a (pieces_laid asked f.schema pieces h.0 h.1) in
        let large : max_size < footer_room (planned_footer (schema_of sample_fields) (schema_entry (plain_bytes sample_tree) ∷ []) h.0) = subst (λ ks. max_size < footer_room (planned_footer (schema_of sample_fields) ks h.0)) (keys_are codec f.keys b k) h.2 in
        absurd (omega (arith, few, large))
    of (inr (inr (inr h))) = no_count asked f.schema pieces a h
