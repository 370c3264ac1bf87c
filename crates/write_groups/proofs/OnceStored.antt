-- Of a column that is written there is one stored column.
use Rattle.std.proofs.Common.{◌≡◌, ◌∙◌, inl, inr, Bool, true, true≢false, Option, Some, None, List, refl, sym, subst}
use Rattle.shredding.specs.Parts.{Part}
use Rattle.shredding.specs.Shape.{LeafType}
use Rattle.shredding.specs.Shred.{Triple}
use Rattle.columns_core.specs.Shapes.{base, leaf_type}
use Rattle.columns_core.specs.Tree.{TypeTree, t_dictionary}
use Rattle.columns_slots.specs.Slots.{type_of}
use Rattle.columns_slots.specs.Tree.{ArrayTree}
use Rattle.dictionary_pages.proofs.EntryTypes.{entry_served}
use Rattle.dictionary_pages.specs.Entries.{row_allows}
use Rattle.pq_files.specs.Stored.{AreStored}
use Rattle.pq_tree.specs.Physical.{Physical}
use Rattle.schema_fit.specs.PageTable.{allows, entry_row}
use Rattle.schema_fit.specs.declared.page_table.Row.{Row}
use Rattle.write_pages.proofs.PageTable.{fits_served}
use Rattle.write_pages.proofs.StoredOnce.{stored_once}
use Rattle.write_pages.specs.Fits.{is_column_written, is_flat_path, is_keyed_in, is_row_in, is_written_in, row_at}
use Rattle.write_pages.specs.Holds.{HaveBytes}
use Rattle.write_values.proofs.ServedTypes.{either, leaf_base}
use Rattle.write_values.specs.Served.{is_served}

abbrev pub Once : LeafType → Physical → Type 0
Once t p = (xs ys zs : List Triple) → HaveBytes t ys → HaveBytes t zs → AreStored t p xs ys → AreStored t p xs zs → ys ≡ zs

-- where there is a row, the physical type is one of it
row_fits : (flat : Bool) (o : Option Row) (p : Physical) → is_row_in flat o ≡ true → ((r : Row) → o ≡ Some r → allows r.stored p ≡ true) → row_allows o p ≡ true
row_fits flat None p h f = absurd (true≢false (sym h))
row_fits flat (Some r) p h f = f r refl

-- the type of the entries of a dictionary that is written
record EntriesOf (flat : Bool) (u : TypeTree) : Type 0 where
  of : TypeTree
  kind : leaf_type u ≡ leaf_type of
  row : row_at u ≡ entry_row (base of)
  is_in : is_row_in flat (entry_row (base of)) ≡ true

keyed_parts : (flat : Bool) (u : TypeTree) → is_keyed_in flat u ≡ true → EntriesOf flat u
keyed_parts flat (t_dictionary k v s) h = record { of = v; kind = refl; row = refl; is_in = h }
keyed_parts flat u h = absurd (true≢false (sym h))

keys_once : (flat : Bool) (t : TypeTree) (p : Physical) → EntriesOf flat (base t) → ((r : Row) → row_at (base t) ≡ Some r → allows r.stored p ≡ true) → Once (leaf_type t) p
keys_once flat t p d f =
    let served : is_served (base d.of) p ≡ true = entry_served (base d.of) p (row_fits flat (entry_row (base d.of)) p d.is_in (λ r e. f r (d.row ∙ e))) in
    subst (λ (k : LeafType). Once k p) (sym d.kind ∙ leaf_base t) (λ xs ys zs. stored_once d.of p xs ys zs served)

pub column_once : (parts : List Part) (a : ArrayTree) (p : Physical) → is_column_written parts a ≡ true → ((r : Row) → row_at (base (type_of a)) ≡ Some r → allows r.stored p ≡ true) → Once (leaf_type (type_of a)) p
column_once parts a p w f =
    let flat = is_flat_path parts in
    let u = base (type_of a) in
    elim (either (is_written_in flat u) (is_keyed_in flat u) w) [
      | inl v ↦ λ xs ys zs. stored_once (type_of a) p xs ys zs (fits_served flat u p v f)
      | inr k ↦ keys_once flat (type_of a) p (keyed_parts flat u k) f
    ]
