-- The pages of a column of values are those of a column without a dictionary.
use Rattle.std.proofs.Common.{◌≡◌, Bool, false, ℕ, Option, Some, None, List, ap, sym, subst}
use Rattle.shredding.specs.Parts.{Part}
use Rattle.shredding.specs.Shape.{LeafType}
use Rattle.shredding.specs.Shred.{Triple}
use Rattle.shredding.specs.Slot.{Slot}
use Rattle.pq_tree.specs.declared.types.Encoding.{Encoding as RustEncoding}
use Rattle.pq_tree.specs.Footers.{ChunkStatistics}
use Rattle.pq_tree.specs.Physical.{Physical}
use Rattle.pq_files.specs.Layout.{AreStoredEntries, plain_length}
use Rattle.pq_files.specs.Page.{Encoding, values_in}
use Rattle.pq_files.specs.Stored.{AreStored}
use Rattle.page_statistics.specs.Stated.{AreStated}
use Rattle.write_pages.specs.Entries.{AreStatedWith, Entries, owes_page, stored_list}
use Rattle.write_pages.specs.Holds.{ArePieces, HaveBytes, column_encoding, written_encoding}
use Rattle.write_pages.specs.Rule.{pieces_by_rule}

module _ (es : Entries) (none : es ≡ None) where
  pub value_encoding : (l : LeafType) (parts : List Part) (e : RustEncoding) (x : Encoding) → written_encoding l parts e ≡ Some x → column_encoding es l parts e ≡ Some x
  value_encoding l parts e x h = subst (λ (y : Entries). column_encoding y l parts e ≡ Some x) (sym none) h

  pub value_entries : (l : LeafType) (p : Physical) → AreStoredEntries l p es (stored_list l p es)
  value_entries l p = subst (λ (y : Entries). AreStoredEntries l p y (stored_list l p y)) (sym none) tt

  pub value_owes : (rows : List Slot) → false ≡ owes_page es rows
  value_owes rows = ap (λ (y : Entries). owes_page y rows) (sym none)

  pub value_stated : (wanted : Bool) (l : LeafType) (p : Physical) (ts : List Triple) (stated : Option ChunkStatistics) → AreStated wanted l p ts stated → AreStatedWith wanted l p es ts stated
  value_stated wanted l p ts stated h = subst (λ (y : Entries). AreStatedWith wanted l p y ts stated) (sym none) h

  pub value_pieces : (limit : Option ℕ) (l : LeafType) (p : Physical) (ts stored : List Triple) (rows : List Slot) (pieces : List (List Slot)) → AreStored l p ts stored → HaveBytes l stored → pieces ≡ pieces_by_rule limit (plain_length p (values_in stored)) rows → ArePieces es limit l p ts rows pieces
  value_pieces limit l p ts stored rows pieces are bytes by = subst (λ (y : Entries). ArePieces y limit l p ts rows pieces) (sym none) (record { stored = stored; are_stored = are; have_bytes = bytes; by_rule = by })
