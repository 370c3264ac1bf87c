-- A written file holds the rows that it was written for.
use Rattle.std.proofs.Common.{◌≡◌, ℕ, List, [], ◌∷◌, All, map, Option, None, refl, ap, sym, subst, ◌∙◌, false}
use Rattle.std.proofs.lemmas.List.Elements.{recursion_from_All}
use Rattle.std.proofs.lemmas.Simd.{map-map}
use Rattle.std.specs.List.{AllByRecursion, AllZip}
use Rattle.shredding.proofs.Schema.{schema_unique}
use Rattle.shredding.specs.Shape.{struct, ways}
use Rattle.shredding.specs.Shred.{column}
use Rattle.shredding.specs.Slot.{Slots, Value, fields}
use Rattle.columns_core.specs.Shapes.{shapes_of}
use Rattle.columns_core.specs.Tree.{FieldTrees}
use Rattle.pq_files.proofs.CarriedOnce.{holds_same}
use Rattle.pq_files.specs.Carried.{GroupPages, HoldsPages, IsGroup, column_in, group_in}
use Rattle.pq_files.specs.Layout.{OutGroup}
use Rattle.pq_files.specs.Packed.{Packed, column_out, group_out}
use Rattle.pq_metadata.specs.Footer.{Footer, GroupMeta, Key}
use Rattle.pq_tree.specs.Tree.{Leaf, Schema, columns_of}
use Rattle.pq_tree.specs.declared.version.Version.{Version}
use Rattle.schema_to_tree.specs.Table.{schema_of}
use Rattle.pq_headline.specs.Columns.{schema_columns}
use Rattle.pq_headline.specs.Lists.{AllZip3}
use Rattle.pq_headline.specs.Output.{Style, all_chosen}
use Rattle.pq_headline.specs.Rewrites.{HasFooterAt}
use Rattle.pq_headline.specs.Rows.{HoldsRows, IsColumnOf}
use Rattle.unique_rows.proofs.Laid.{AllNone, same_columns}
use Rattle.unique_rows.specs.Held.{AreRowsIn, HasWays, HoldAll, RowsAreUnique}

pub all_none : (ds : List (Option (List (Option Value)))) → All (λ d. d ≡ None) ds → AllNone ds
all_none ds h = none ds (recursion_from_All (λ d. d ≡ None) ds h)
  where
    none : (ds : List (Option (List (Option Value)))) → AllByRecursion (λ d. d ≡ None) ds → AllNone ds
    none [] h = tt
    none (d ∷ ds) h = (h.0, none ds h.1)

-- ---- one group
by_ways : (fs : FieldTrees) (rows : List Slots) → HasWays fs → map (λ c. column c.way (map fields rows)) (schema_columns fs) ≡ map (λ w. column w (map fields rows)) (ways (struct false (shapes_of fs)))
by_ways fs rows w = sym (map-map (λ v. column v (map fields rows)) (λ c. c.way) (schema_columns fs)) ∙ ap (map (λ v. column v (map fields rows))) w.ways_are

pub group_rows : (s : Style) (fs : FieldTrees) (rows others : List Slots) (out : OutGroup) (bytes : List ℕ) (place : ℕ) (m : GroupMeta) (g : GroupPages)
    → HasWays fs → AreRowsIn s fs rows out → group_out out ≡ group_in g → HoldsRows fs bytes place (columns_of (schema_of fs)) m g others → others ≡ rows
group_rows s fs rows others out bytes place m g w r e h =
    let columns : map column_out out.chunks ≡ map column_in g.chunks = ap (λ x. x.columns) e in
    let shred : AllZip3 (IsColumnOf (map fields others)) (schema_columns fs) (columns_of (schema_of fs)) (map column_out out.chunks) =
    subst (λ x. AllZip3 (IsColumnOf (map fields others)) (schema_columns fs) (columns_of (schema_of fs)) x) (sym columns) h.rows_are.shred in
    let same = same_columns s rows others (schema_columns fs) (columns_of (schema_of fs)) (all_chosen r.deltas (schema_columns fs) (columns_of (schema_of fs))) r.entries out.chunks (all_none r.entries r.none) r.laid.columns shred in
    schema_unique (shapes_of fs) others rows w.structs h.rows_are.are r.are (sym (by_ways fs others w) ∙ same ∙ by_ways fs rows w)

-- ---- all groups
abbrev first_of : {A : Type 0} → A → List A → A
first_of d [] = d
first_of d (x ∷ xs) = x

abbrev rest_of : {A : Type 0} → List A → List A
rest_of [] = []
rest_of (x ∷ xs) = xs

all_rows : (s : Style) (fs : FieldTrees) (bytes : List ℕ) (place : ℕ) (rowss : List (List Slots)) (outs : List OutGroup) (ms : List GroupMeta) (groups : List GroupPages) (rows : List (List Slots))
    → HasWays fs → AllZip (AreRowsIn s fs) rowss outs → map group_out outs ≡ map group_in groups → AllZip3 (HoldsRows fs bytes place (columns_of (schema_of fs))) ms groups rows → rows ≡ rowss
all_rows s fs bytes place [] [] [] [] [] w h e k = refl
all_rows s fs bytes place [] [] [] [] (r ∷ rs) w h e k = absurd k
all_rows s fs bytes place [] [] [] (g ∷ gs) rs w h e k = absurd k
all_rows s fs bytes place [] [] (m ∷ ms) [] rs w h e k = absurd k
all_rows s fs bytes place [] [] (m ∷ ms) (g ∷ gs) rs w h e k = absurd (cc e)
all_rows s fs bytes place [] (o ∷ os) ms gs rs w h e k = absurd h
all_rows s fs bytes place (q ∷ qs) [] ms gs rs w h e k = absurd h
all_rows s fs bytes place (q ∷ qs) (o ∷ os) [] [] [] w h e k = absurd (cc e)
all_rows s fs bytes place (q ∷ qs) (o ∷ os) [] [] (r ∷ rs) w h e k = absurd k
all_rows s fs bytes place (q ∷ qs) (o ∷ os) [] (g ∷ gs) rs w h e k = absurd k
all_rows s fs bytes place (q ∷ qs) (o ∷ os) (m ∷ ms) [] rs w h e k = absurd k
all_rows s fs bytes place (q ∷ qs) (o ∷ os) (m ∷ ms) (g ∷ gs) [] w h e k = absurd k
all_rows s fs bytes place (q ∷ qs) (o ∷ os) (m ∷ ms) (g ∷ gs) (r ∷ rs) w h e k =
    let first : group_out o ≡ group_in g = ap (first_of (group_out o)) e in
    let others : map group_out os ≡ map group_in gs = ap rest_of e in
    ap (λ x. x ∷ rs) (group_rows s fs q r o bytes place m g w h.0 first k.0) ∙ ap (λ xs. q ∷ xs) (all_rows s fs bytes place qs os ms gs rs w h.1 others k.1)

-- ---- the file
groups_are : (fs : FieldTrees) (bytes : List ℕ) (place : ℕ) (ls : List Leaf) (ms : List GroupMeta) (groups : List GroupPages) (rows : List (List Slots))
    → AllZip3 (HoldsRows fs bytes place ls) ms groups rows → AllZip (λ m g. IsGroup bytes place ls m g.rows g.chunks) ms groups
groups_are fs bytes place ls [] [] [] h = tt
groups_are fs bytes place ls [] [] (r ∷ rs) h = absurd h
groups_are fs bytes place ls [] (g ∷ gs) rs h = absurd h
groups_are fs bytes place ls (m ∷ ms) [] rs h = absurd h
groups_are fs bytes place ls (m ∷ ms) (g ∷ gs) [] h = absurd h
groups_are fs bytes place ls (m ∷ ms) (g ∷ gs) (r ∷ rs) h = (h.0.is, groups_are fs bytes place ls ms gs rs h.1)

holds_pages : (fs : FieldTrees) (bytes : List ℕ) (place : ℕ) (f : Footer) (groups : List GroupPages) (rows : List (List Slots)) → HasFooterAt bytes place f → HoldAll fs bytes place f groups rows → HoldsPages bytes f.schema f.keys groups
holds_pages fs bytes place f groups rows at h = record {
  place = place;
  footer = at.footer;
  framed = at.framed;
  metas = f.groups;
  said = at.said;
  are = groups_are fs bytes place (columns_of f.schema) f.groups groups rows h;
}

-- the tree and the keys of its footer, whatever schema its groups are read by
pub footer_is :
    (fs : FieldTrees) (bytes : List ℕ) (tree : Schema) (keys : List Key) (version : Version) (outs : List OutGroup) (place : ℕ) (f : Footer) (groups : List GroupPages) (rows : List (List Slots))
    → Packed bytes tree keys version outs → HasFooterAt bytes place f → HoldAll fs bytes place f groups rows → (f.schema ≡ tree) × (f.keys ≡ keys)
footer_is fs bytes tree keys version outs place f groups rows p at h =
    let held = p.carried in
    let same = holds_same bytes f.schema tree f.keys keys groups held.0 (holds_pages fs bytes place f groups rows at h) held.1 in (same.0, same.1)

pub rows_are_unique : RowsAreUnique
rows_are_unique s fs bytes keys version outs rowss place f groups rows w p are at h =
    let held = p.carried in
    let same = holds_same bytes f.schema (schema_of fs) f.keys keys groups held.0 (holds_pages fs bytes place f groups rows at h) held.1 in
    let e : map group_out outs ≡ map group_in groups = held.2 ∙ ap (map group_in) (sym same.2) in
    let k : AllZip3 (HoldsRows fs bytes place (columns_of (schema_of fs))) f.groups groups rows =
    subst (λ t. AllZip3 (HoldsRows fs bytes place (columns_of t)) f.groups groups rows) same.0 h in
    record { schema = same.0; keys_are = same.1; rows_are = all_rows s fs bytes place rowss outs f.groups groups rows w are e k }
