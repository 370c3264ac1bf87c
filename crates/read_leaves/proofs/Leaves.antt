-- A leaf's column as the reader of its kind.
use Rattle.std.proofs.Common.{◌≡◌, Option, Some, None, List, true, false, refl, sym, ◌∙◌, true≢false}
use Rattle.std.specs.Prelude.{Result, Ok, Err, ◌&&◌, nat_le}
use Rattle.std.proofs.lemmas.Bool.{and_parts}
use Rattle.columns_base.specs.declared.error.Error.{Error}
use Rattle.columns_core.specs.Shapes.{base}
use Rattle.columns_core.specs.Tree.{TypeTree, t_dictionary}
use Rattle.pq_headline.specs.Columns.{is_dictionary}
use Rattle.pq_tree.specs.Physical.{Physical}
use Rattle.read_column.specs.Reading.{Reading, IsReading}
use Rattle.read_leaves.specs.Leaf.{IsLeafOpening, IsReadingLeaf}
use Rattle.read_pieces.specs.Columns.{ColumnOpening, GivesPiece, IsReadable}
use Rattle.read_pieces.specs.Leaves.{ReadsLeaf}
use Rattle.read_pieces.specs.Pieces.{IsPieceOf}
use Rattle.read_pieces.specs.declared.piece.ColumnPiece.{ColumnPiece}
use Rattle.read_types.proofs.KindsRead.{leaves-read}
use Rattle.read_types.specs.Reads.{physical_of, types_of, stored_of, limit_of}
use Rattle.read_types.specs.declared.kind.LeafKind.{LeafKind}
use Rattle.read_types.specs.declared.kind.LeafKind.TheVariants as K
use Rattle.shredding.specs.Shred.{Triple}

-- no kind is of dictionaries
direct : (t : TypeTree) (k : LeafKind) → types_of k t ≡ true → is_dictionary t ≡ false
direct (t_dictionary key t s) K.Boolean e = absurd (true≢false (sym e))
direct (t_dictionary key t s) K.Null e = absurd (true≢false (sym e))
direct (t_dictionary key t s) K.Int8 e = absurd (true≢false (sym e))
direct (t_dictionary key t s) K.Int16 e = absurd (true≢false (sym e))
direct (t_dictionary key t s) K.Int32 e = absurd (true≢false (sym e))
direct (t_dictionary key t s) K.UInt8 e = absurd (true≢false (sym e))
direct (t_dictionary key t s) K.UInt16 e = absurd (true≢false (sym e))
direct (t_dictionary key t s) K.UInt32 e = absurd (true≢false (sym e))
direct (t_dictionary key t s) K.Int64 e = absurd (true≢false (sym e))
direct (t_dictionary key t s) K.Decimal e = absurd (true≢false (sym e))
direct (t_dictionary key t s) K.WideDecimal e = absurd (true≢false (sym e))
direct (t_dictionary key t s) K.WideUInt32 e = absurd (true≢false (sym e))
direct (t_dictionary key t s) K.UInt64 e = absurd (true≢false (sym e))
direct (t_dictionary key t s) K.Utf8 e = absurd (true≢false (sym e))
direct (t_dictionary key t s) K.LargeUtf8 e = absurd (true≢false (sym e))
direct (t_dictionary key t s) K.Binary e = absurd (true≢false (sym e))
direct (t_dictionary key t s) K.LargeBinary e = absurd (true≢false (sym e))
direct (t_dictionary key t s) (K.FixedDecimal n) e = absurd (true≢false (sym (and_parts (nat_le 1 n && nat_le n 16) false e).1))
direct (t_dictionary key t s) K.Months e = absurd (true≢false (sym e))
direct (t_dictionary key t s) K.Days e = absurd (true≢false (sym e))
direct (t_dictionary key t s) (K.FixedSizeBinary n) e = absurd (true≢false (sym e))
direct t k e = refl

pub opens : (o : ColumnOpening) (t : TypeTree) (p : Physical) (k : LeafKind) → IsLeafOpening o t p → physical_of k ≡ p → types_of k (base t) ≡ true → IsReadable o (stored_of k) (limit_of k)
opens o t p k opened stored made =
    let typed : types_of k o.column.data_type ≡ true = rw opened.typed made in
    let same : o.leaf.physical ≡ physical_of k = opened.physical ∙ sym stored in
    let values : ReadsLeaf o.column o.leaf.physical (stored_of k) (limit_of k) = rw same (leaves-read k o.column typed) in
    opened.readable (stored_of k) (limit_of k) values (direct o.column.data_type k typed)

pub leaf-gives : (o : ColumnOpening) (t : TypeTree) (pieces : List (List Triple)) (k k' : LeafKind) (reader : Reading) (result : Option (Result ColumnPiece Error)) → k' ≡ k → types_of k (base t) ≡ true → GivesPiece (IsReading (stored_of k) (limit_of k)) (λ p ts. IsPieceOf o.column t ts None p) o pieces result reader → GivesPiece (λ o ps r. IsReadingLeaf o t ps r) (λ p ts. IsPieceOf o.column t ts None p) o pieces result (record { data_type = t; kind = k'; reader = reader })
leaf-gives o t pieces k k' reader None same made g = g
leaf-gives o t pieces k k' reader (Some (Err e)) same made g = g
leaf-gives o t pieces k k' reader (Some (Ok p)) same made g = rw same (g.0, g.1, g.2, record { typed = refl; made = made; reads = g.3 })
