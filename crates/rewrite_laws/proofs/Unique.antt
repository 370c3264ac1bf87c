-- The groups of a file hold at most one list of rows each.
use Rattle.std.proofs.Common.{◌≡◌, ℕ, List, [], ◌∷◌, map, refl, ap, subst, ◌∙◌}
use Rattle.std.specs.List.{AllZip}
use Rattle.shredding.specs.Shape.{Way}
use Rattle.shredding.specs.Shred.{column}
use Rattle.shredding.specs.Slot.{Slot, Slots, fields}
use Rattle.shredding.proofs.Schema.{schema_unique}
use Rattle.columns_core.specs.Shapes.{shapes_of, leaf_type}
use Rattle.columns_core.specs.Tree.{FieldTrees}
use Rattle.pq_metadata.specs.Footer.{Footer, GroupMeta}
use Rattle.pq_tree.specs.Tree.{Leaf, columns_of}
use Rattle.pq_files.specs.Carried.{Column, GroupPages, HoldsPages, IsGroup, column_in}
use Rattle.pq_files.proofs.CarriedOnce.{frame_same, record_same}
use Rattle.pq_files.proofs.CarriedOnce as files
use Rattle.pq_files.proofs.StoredOnce as stored
use Rattle.pq_headline.specs.Columns.{ArrowColumn, schema_columns}
use Rattle.pq_headline.specs.Lists.{AllZip3}
use Rattle.pq_headline.specs.Rewrites.{HasFooterAt}
use Rattle.pq_headline.specs.Rows.{AreRowsOf, HoldsRows, IsColumnOf}
use Rattle.pq_headline.proofs.Ways.{schema_ways, ways_in}
use Rattle.rewrite_laws.specs.Laws.{FileHolds, FileRowsAreUnique, HaveColumns}

-- ---- columns determine rows

columns_same : (rows others : List Slot) (cs : List ArrowColumn) (ls : List Leaf) (gots : List Column) → AllZip3 (IsColumnOf rows) cs ls gots → AllZip3 (IsColumnOf others) cs ls gots
    → map (λ w. column w rows) (ways_in cs) ≡ map (λ w. column w others) (ways_in cs)
columns_same rows others [] ls gots a b = refl
columns_same rows others (c ∷ cs) (l ∷ ls) (got ∷ gots) a b =
    let e = stored.are_unique.triples (leaf_type c.data_type) l.physical (column c.way rows) (column c.way others) got.triples a.0 b.0 in
    ap (λ x. x ∷ map (λ w. column w rows) (ways_in cs)) e ∙ ap (λ xs. column c.way others ∷ xs) (columns_same rows others cs ls gots a.1 b.1)
columns_same rows others (c ∷ cs) [] gots a b = absurd a
columns_same rows others (c ∷ cs) (l ∷ ls) [] a b = absurd a

rows_same : (fs : FieldTrees) (ls : List Leaf) (gots : List Column) (rows others : List Slots) → HaveColumns fs → AreRowsOf fs ls gots rows → AreRowsOf fs ls gots others → rows ≡ others
rows_same fs ls gots rows others h a b =
    let e = columns_same (map fields rows) (map fields others) (schema_columns fs) ls gots a.shred b.shred in
    schema_unique (shapes_of fs) rows others h.structs a.are b.are
    (subst (λ (ws : List Way). map (λ w. column w (map fields rows)) ws ≡ map (λ w. column w (map fields others)) ws) (schema_ways fs h.served) e)

-- ---- group by group

all_rows_same : (fs : FieldTrees) (bytes : List ℕ) (place : ℕ) (ls : List Leaf) (ms : List GroupMeta) (gs : List GroupPages) (rows others : List (List Slots)) → HaveColumns fs
    → AllZip3 (HoldsRows fs bytes place ls) ms gs rows → AllZip3 (HoldsRows fs bytes place ls) ms gs others → rows ≡ others
all_rows_same fs bytes place ls [] [] [] [] h a b = refl
all_rows_same fs bytes place ls [] [] [] (o ∷ os) h a b = absurd b
all_rows_same fs bytes place ls [] [] (r ∷ rs) os h a b = absurd a
all_rows_same fs bytes place ls [] (g ∷ gs) rs os h a b = absurd a
all_rows_same fs bytes place ls (m ∷ ms) [] rs os h a b = absurd a
all_rows_same fs bytes place ls (m ∷ ms) (g ∷ gs) [] os h a b = absurd a
all_rows_same fs bytes place ls (m ∷ ms) (g ∷ gs) (r ∷ rs) [] h a b = absurd b
all_rows_same fs bytes place ls (m ∷ ms) (g ∷ gs) (r ∷ rs) (o ∷ os) h a b =
    ap (λ x. x ∷ rs) (rows_same fs ls (map column_in g.chunks) r o h a.0.rows_are b.0.rows_are) ∙ ap (λ xs. o ∷ xs) (all_rows_same fs bytes place ls ms gs rs os h a.1 b.1)

groups_of : (fs : FieldTrees) (bytes : List ℕ) (place : ℕ) (ls : List Leaf) (ms : List GroupMeta) (gs : List GroupPages) (rows : List (List Slots)) → AllZip3 (HoldsRows fs bytes place ls) ms gs rows
    → AllZip (λ m g. IsGroup bytes place ls m g.rows g.chunks) ms gs
groups_of fs bytes place ls [] [] [] h = tt
groups_of fs bytes place ls (m ∷ ms) (g ∷ gs) (r ∷ rs) h = (h.0.is, groups_of fs bytes place ls ms gs rs h.1)
groups_of fs bytes place ls [] [] (r ∷ rs) h = absurd h
groups_of fs bytes place ls [] (g ∷ gs) rs h = absurd h
groups_of fs bytes place ls (m ∷ ms) [] rs h = absurd h
groups_of fs bytes place ls (m ∷ ms) (g ∷ gs) [] h = absurd h

pages_of : (fs : FieldTrees) (bytes : List ℕ) (f : Footer) (rows : List (List Slots)) (h : FileHolds fs bytes f rows) → HoldsPages bytes f.schema f.keys h.groups
pages_of fs bytes f rows h =
    record {
      place = h.place;
      footer = h.has_footer.footer;
      framed = h.has_footer.framed;
      metas = f.groups;
      said = h.has_footer.said;
      are = groups_of fs bytes h.place (columns_of f.schema) f.groups h.groups rows h.hold;
    }

-- of one footer
pub one_file : (fs : FieldTrees) (bytes : List ℕ) (f : Footer) (rows others : List (List Slots)) → HaveColumns fs → FileHolds fs bytes f rows → FileHolds fs bytes f others → rows ≡ others
one_file fs bytes f rows others h a b =
    let frame = frame_same bytes a.place b.place a.has_footer.footer b.has_footer.footer a.has_footer.framed b.has_footer.framed in
    let held = files.are_unique.held bytes f.schema f.schema f.keys f.keys a.groups b.groups (pages_of fs bytes f rows a) (pages_of fs bytes f others b) in
    all_rows_same fs bytes b.place (columns_of f.schema) f.groups b.groups rows others h
    (subst (λ (gs : List GroupPages). AllZip3 (HoldsRows fs bytes b.place (columns_of f.schema)) f.groups gs rows) held.2
    (subst (λ (p : ℕ). AllZip3 (HoldsRows fs bytes p (columns_of f.schema)) f.groups a.groups rows) frame.places a.hold))
    b.hold

pub same_footer : (bytes : List ℕ) (p q : ℕ) (f g : Footer) → HasFooterAt bytes p f → HasFooterAt bytes q g → f ≡ g
same_footer bytes p q f g a b = record_same a.footer b.footer f g (frame_same bytes p q a.footer b.footer a.framed b.framed).footers a.said b.said

pub unique : FileRowsAreUnique
unique fs bytes f g rows others h a b =
    let e = same_footer bytes a.place b.place f g a.has_footer b.has_footer in
    (e, one_file fs bytes g rows others h (subst (λ (x : Footer). FileHolds fs bytes x rows) e a) b)
