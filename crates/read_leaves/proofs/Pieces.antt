-- What a column's reader gives, with arrays.
use Rattle.std.proofs.Common.{◌≡◌, inl, Option, Some, None, List, sym, subst}
use Rattle.std.specs.Prelude.{Result, Ok, Err}
use Rattle.columns_array.specs.Boxed.{boxed}
use Rattle.columns_base.specs.declared.error.Error.{Error}
use Rattle.columns_core.specs.Tree.{TypeTree}
use Rattle.columns_slots.specs.Slots.{slots as array_slots}
use Rattle.read_laws.specs.State.{Kept}
use Rattle.read_pieces.specs.Columns.{ColumnOpening, GivesPiece, RefusesPiece}
use Rattle.read_pieces.specs.Pieces.{IsPiece, IsPieceOf}
use Rattle.read_pieces.specs.declared.piece.ColumnPiece.{ColumnPiece}
use Rattle.read_leaves.specs.Made.{MakesPiece}
use Rattle.shredding.specs.Shape.{Way}
use Rattle.shredding.specs.Shred.{Triple}
use Rattle.shredding.specs.Slot.{Slot}

same-piece : (w : Way) (ts : List Triple) (ks ks' : List Kept) (ss ss' : List Slot) → ks' ≡ ks → ss' ≡ ss → IsPiece w ts ks ss → IsPiece w ts ks' ss'
same-piece w ts ks ks' ss ss' k s p = rw (k, s) p

pub gives : {R V : Type 0} (Reading : ColumnOpening → List (List Triple) → R → Type 0) (slots : V → List Slot) (t : TypeTree) (o : ColumnOpening) (pieces : List (List Triple)) (item : Option (Result (List Kept × V) Error)) (result : Option (Result ColumnPiece Error)) (r : R) → MakesPiece slots t item result → GivesPiece Reading (λ (v : List Kept × V) ts. IsPiece o.column.way ts v.0 (slots v.1)) o pieces item r → GivesPiece Reading (λ p ts. IsPieceOf o.column t ts None p) o pieces result r
gives Reading slots t o pieces None None r m g = g
gives Reading slots t o pieces (Some (Ok v)) (Some (Ok p)) r m g =
    (g.0, g.1, record { is = same-piece o.column.way g.0 v.0 p.nested (slots v.1) (array_slots (boxed p.values)) m.0 m.1.same g.2; typed = m.1.typed; entries = m.1.entries }, g.3)
gives Reading slots t o pieces (Some (Ok v)) (Some (Err e)) r m g = inl m
gives Reading slots t o pieces (Some (Err f)) (Some (Err e)) r m g = subst (λ (x : Error). RefusesPiece o x) (sym m) g
gives Reading slots t o pieces None (Some (Ok p)) r m g = absurd m
gives Reading slots t o pieces None (Some (Err e)) r m g = absurd m
gives Reading slots t o pieces (Some (Ok v)) None r m g = absurd m
gives Reading slots t o pieces (Some (Err f)) None r m g = absurd m
gives Reading slots t o pieces (Some (Err f)) (Some (Ok p)) r m g = absurd m
