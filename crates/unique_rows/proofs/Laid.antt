-- The pages of a column that is laid out hold the column of its rows.
use Rattle.std.proofs.Common.{◌≡◌, ℕ, ◌<◌, List, [], ◌∷◌, ◌++◌, map, flat_map, length, Option, Some, None, refl, ap, sym, subst, ◌∙◌, arith}
use Rattle.std.proofs.lemmas.Grind.{flat_map-append}
use Rattle.std.specs.List.{AllZip}
use Rattle.shredding.proofs.Pieces.{pieces_are_rows}
use Rattle.shredding.specs.Shape.{LeafType}
use Rattle.shredding.specs.Shred.{Triple, column}
use Rattle.shredding.specs.Slot.{Slot, Slots, Value, fields}
use Rattle.columns_core.specs.Shapes.{leaf_type}
use Rattle.pq_files.proofs.StoredOnce.{are_unique}
use Rattle.pq_files.specs.Layout.{OutChunk, OutPage, plain_length, rows_per_page}
use Rattle.pq_files.specs.Packed.{column_out, triples_out}
use Rattle.pq_files.specs.Page.{Encoding, values_in}
use Rattle.pq_files.specs.Stored.{AreStored}
use Rattle.pq_tree.specs.Physical.{Physical}
use Rattle.pq_tree.specs.Tree.{Leaf}
use Rattle.pq_headline.specs.Columns.{ArrowColumn}
use Rattle.pq_headline.specs.Lists.{AllZip3}
use Rattle.pq_headline.specs.Output.{AreLaid, IsLaid, IsPageOfRows, Style, Written}
use Rattle.pq_headline.specs.Rows.{IsColumnOf}

stored-both : (t : LeafType) (p : Physical) (xs ys zs ws : List Triple) → AreStored t p xs zs → AreStored t p ys ws → AreStored t p (xs ++ ys) (zs ++ ws)
stored-both t p [] ys [] ws a b = b
stored-both t p [] ys (z ∷ zs) ws a b = absurd a
stored-both t p (x ∷ xs) ys [] ws a b = absurd a
stored-both t p (x ∷ xs) ys (z ∷ zs) ws a b = (a.0, stored-both t p xs ys zs ws a.1 b)

paged : (s : Style) (e : Encoding) (c : Written) (ps : List (List Slot)) (pages : List OutPage) → AllZip (IsPageOfRows s e c) ps pages
    → AreStored (leaf_type c.arrow.data_type) c.physical (column c.arrow.way (flat_map (λ piece. piece) ps)) (flat_map (λ p. p.triples) pages)
paged s e c [] [] h = tt
paged s e c [] (q ∷ qs) h = absurd h
paged s e c (p ∷ ps) [] h = absurd h
paged s e c (p ∷ ps) (q ∷ qs) h =
    subst (λ ts. AreStored (leaf_type c.arrow.data_type) c.physical ts (q.triples ++ flat_map (λ x. x.triples) qs)) (sym (flat_map-append _ p (flat_map (λ piece. piece) ps)))
    (stored-both (leaf_type c.arrow.data_type) c.physical (column c.arrow.way p) (column c.arrow.way (flat_map (λ piece. piece) ps)) q.triples (flat_map (λ x. x.triples) qs) h.0.triples (paged s e c ps qs h.1))

some_rows : (limit size n : ℕ) → 0 < rows_per_page limit size n
some_rows limit size n = omega arith

-- ---- a column
pub laid_triples : (s : Style) (e : Encoding) (a : ArrowColumn) (p : Physical) (d : Option (List (Option Value))) (rows : List Slot) (out : OutChunk)
    → d ≡ None → IsLaid s e (record { arrow = a; physical = p; entries = d }) rows out → AreStored (leaf_type a.data_type) p (column a.way rows) (triples_out out)
laid_triples s e a p (Some es) rows out n h = absurd (some_is_none n)
  where
    some_is_none : Some es ≡ None → ⊥
    some_is_none q = cc q
laid_triples s e a p None rows out n h =
    let k = rows_per_page s.page_limit (plain_length p (values_in h.stored)) (length rows) in
    subst (λ r. AreStored (leaf_type a.data_type) p (column a.way r) (triples_out out)) (pieces_are_rows rows k (some_rows s.page_limit (plain_length p (values_in h.stored)) (length rows))) (paged s e (record { arrow = a; physical = p; entries = None }) _ out.pages h.pages)

-- ---- the columns of a group
abbrev pub AllNone : List (Option (List (Option Value))) → Type 0
AllNone [] = Unit {0}
AllNone (d ∷ ds) = (d ≡ None) × AllNone ds

pub same_columns : (s : Style) (rows others : List Slots) (cs : List ArrowColumn) (ls : List Leaf) (es : List Encoding) (ds : List (Option (List (Option Value)))) (outs : List OutChunk)
    → AllNone ds → AreLaid s rows cs ls es ds outs → AllZip3 (IsColumnOf (map fields others)) cs ls (map column_out outs)
    → map (λ c. column c.way (map fields others)) cs ≡ map (λ c. column c.way (map fields rows)) cs
same_columns s rows others [] ls es ds outs n h k = refl
same_columns s rows others (c ∷ cs) [] es ds outs n h k = absurd h
same_columns s rows others (c ∷ cs) (l ∷ ls) [] ds outs n h k = absurd h
same_columns s rows others (c ∷ cs) (l ∷ ls) (e ∷ es) [] outs n h k = absurd h
same_columns s rows others (c ∷ cs) (l ∷ ls) (e ∷ es) (d ∷ ds) [] n h k = absurd h
same_columns s rows others (c ∷ cs) (l ∷ ls) (e ∷ es) (d ∷ ds) (out ∷ outs) n h k =
    let here : column c.way (map fields others) ≡ column c.way (map fields rows) =
    are_unique.triples (leaf_type c.data_type) l.physical (column c.way (map fields others)) (column c.way (map fields rows)) (triples_out out) k.0 (laid_triples s e c l.physical d (map fields rows) out n.0 h.0) in
    ap (λ x. x ∷ map (λ c. column c.way (map fields others)) cs) here ∙ ap (λ xs. column c.way (map fields rows) ∷ xs) (same_columns s rows others cs ls es ds outs n.1 h.1 k.1)
