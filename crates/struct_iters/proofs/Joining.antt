-- A piece of each column, joined.
use Rattle.std.proofs.Common.{◌≡◌, inl, inr, ◌<◌, Bool, List, [], ◌∷◌, map, length, Option, Some, None, Result, Ok, Err, refl, ap, subst, ◌∙◌, arith}
use Rattle.std.specs.Prelude.{IfOk, IfErr}
use Rattle.columns_base.specs.declared.error.Error.{Error}
use Rattle.columns_base.specs.declared.error.Error.TheVariants.{OutOfSpec}
use Rattle.columns_base.specs.declared.error.S.TheVariants.{S10}
use Rattle.columns_core.specs.Tree.{TypeTree}
use Rattle.pq_headline.specs.Columns.{ArrowColumn}
use Rattle.read_columns.specs.Columns.{ColumnReading}
use Rattle.read_nested.specs.Above.{Above}
use Rattle.read_nested.specs.Beneath.{columns_beneath, ArePiecesBeneath, IsBeneath, CannotJoinColumns}
use Rattle.read_nested.specs.Joined.{HasFixedList}
use Rattle.read_pieces.specs.Pieces.{type_leaves, ArePiecesOf}
use Rattle.read_pieces.specs.declared.piece.ColumnPiece.{ColumnPiece}
use Rattle.shredding.specs.Shred.{Triple}
use Rattle.shredding.specs.Slot.{Value}
use Rattle.struct_iters.specs.Items.{ItemsReading, AreColumns, CannotGive, GivesPiece, IsGivingItems}
use Rattle.struct_iters.specs.Progress.{Progress, AreAt, AreEntries, AreNext, AreTaken, AreWhole, all_further}
use Rattle.struct_iters.proofs.Taken.{Took, all-ended, some-next, some-whole, too-few}

-- each gave a piece
pub record AreAll (xs : List Progress) (rs : List (Option ColumnReading)) (ps : List ColumnPiece) : Type 0 where
  pub table : List (List Triple)
  pub next : AreNext xs table
  pub entries : List (Option (List (Option Value)))
  pub are : AreEntries xs entries
  pub pieces : ArePiecesOf (map (λ x. x.opening.column) xs) (map (λ x. x.type) xs) table entries ps
  pub at : AreAt (all_further xs table) rs

pub all-gave : (took : Took) (xs : List Progress) (rs : List (Option ColumnReading)) (ps : List ColumnPiece) → AreTaken took xs rs ps → length took ≡ length rs → length ps ≡ length rs → AreAll xs rs ps
all-gave [] [] [] [] h e l = record { table = []; next = tt; entries = []; are = tt; pieces = tt; at = tt }
all-gave [] [] [] (p ∷ ps) h e l = absurd (omega arith)
all-gave [] [] (r ∷ rs) ps h e l = absurd h.1
all-gave [] (x ∷ xs) [] ps h e l = absurd h.1
all-gave [] (x ∷ xs) (r ∷ rs) ps h e l = absurd (omega arith)
all-gave (None ∷ took) [] rs ps h e l = absurd h
all-gave (None ∷ took) (x ∷ xs) [] ps h e l = absurd h
all-gave (None ∷ took) (x ∷ xs) (r ∷ rs) ps h e l = absurd (too-few took xs rs ps h.2 (omega arith))
all-gave (Some ts ∷ took) [] rs ps h e l = absurd h
all-gave (Some ts ∷ took) (x ∷ xs) [] ps h e l = absurd h
all-gave (Some ts ∷ took) (x ∷ xs) (r ∷ rs) [] h e l = absurd h
all-gave (Some ts ∷ took) (x ∷ xs) (r ∷ rs) (p ∷ ps) h e l =
    let rest = all-gave took xs rs ps h.3 (omega arith) (omega arith) in
    record {
      table = ts ∷ rest.table;
      next = (h.0, rest.next);
      entries = h.1.entries ∷ rest.entries;
      are = (h.1.are, rest.are);
      pieces = (h.1.piece, rest.pieces);
      at = (h.2, rest.at);
    }

-- the columns that are read stay the same
further-columns : (xs : List Progress) (table : List (List Triple)) → AreNext xs table → map (λ x. x.opening.column) (all_further xs table) ≡ map (λ x. x.opening.column) xs
further-columns [] [] h = refl
further-columns [] (ts ∷ table) h = absurd h
further-columns (x ∷ xs) [] h = absurd h
further-columns (x ∷ xs) (ts ∷ table) h = ap (λ (cs : List ArrowColumn). x.opening.column ∷ cs) (further-columns xs table h.1)

further-types : (xs : List Progress) (table : List (List Triple)) → AreNext xs table → map (λ x. x.type) (all_further xs table) ≡ map (λ x. x.type) xs
further-types [] [] h = refl
further-types [] (ts ∷ table) h = absurd h
further-types (x ∷ xs) [] h = absurd h
further-types (x ∷ xs) (ts ∷ table) h = ap (λ (us : List TypeTree). x.type ∷ us) (further-types xs table h.1)

still-columns : (above : List Above) (n : Bool) (t : TypeTree) (xs : List Progress) (table : List (List Triple)) → AreNext xs table → AreColumns above n t xs → AreColumns above n t (all_further xs table)
still-columns above n t xs table next h = record { columns = further-columns xs table next ∙ h.columns; types = further-types xs table next ∙ h.types; full = h.full; flat = h.flat }

-- none gave a piece
pub ends : (above : List Above) (n : Bool) (t : TypeTree) (xs : List Progress) (old now : ItemsReading) (took : Took) (ps : List ColumnPiece) →
    IsGivingItems above n t xs old → now.type ≡ old.type → AreTaken took xs now.readers ps → length took ≡ length now.readers → length ps ≡ 0 → AreWhole xs × IsGivingItems above n t xs now
ends above n t xs old now took ps h same taken all none =
    let e = all-ended took xs now.readers ps taken all none in
    (e.0, record { are = h.are; typed = same ∙ h.typed; readers = e.2 })

-- some gave one, and others none
pub apart : (above : List Above) (n : Bool) (t : TypeTree) (xs : List Progress) (rs : List (Option ColumnReading)) (took : Took) (ps : List ColumnPiece) →
    AreTaken took xs rs ps → length took ≡ length rs → 0 < length ps → length ps < length rs → CannotGive above n t xs (OutOfSpec S10)
apart above n t xs rs took ps taken all some fewer = inr (inr (inl (refl, (some-whole took xs rs ps taken all fewer, some-next took xs rs ps taken some))))

-- what comes of joining them
module _ (above : List Above) (n : Bool) (xs : List Progress) (ps : List ColumnPiece) where
  -- what the call that joins pieces says of a type
  abbrev pub Joins : TypeTree → Result ColumnPiece Error → Type 0
  Joins t result =
      (tables : List (List Triple)) (es : List (Option (List (Option Value)))) → ArePiecesBeneath above n t tables es ps →
      IfOk result (IsBeneath above n t tables es) × IfErr result (CannotJoinColumns (HasFixedList t) (columns_beneath above n t) tables)

  pub joined : (t : TypeTree) (old now : ItemsReading) (result : Result ColumnPiece Error) →
      IsGivingItems above n t xs old → now.type ≡ old.type → AreAll xs now.readers ps → Joins old.type result → GivesPiece above n t xs (Some result) now
  joined t old now result h same all joins =
      let P : List ArrowColumn → Type 0 = λ cs. ArePiecesOf cs (type_leaves t t) all.table all.entries ps in
      let Q : List TypeTree → Type 0 = λ us. ArePiecesOf (map (λ x. x.opening.column) xs) us all.table all.entries ps in
      let are : ArePiecesBeneath above n t all.table all.entries ps = record { full = h.are.full; flat = h.are.flat; pieces = subst P h.are.columns (subst Q h.are.types all.pieces) } in
      let J : TypeTree → Type 0 = λ u. Joins u result in
      go result (subst J h.typed joins all.table all.entries are)
    where
      go : (r : Result ColumnPiece Error) → IfOk r (IsBeneath above n t all.table all.entries) × IfErr r (CannotJoinColumns (HasFixedList t) (columns_beneath above n t) all.table) → GivesPiece above n t xs (Some r) now
      go (Ok p) b = record {
        table = all.table;
        next = all.next;
        entries = all.entries;
        are = all.are;
        beneath = b.0;
        giving = record { are = still-columns above n t xs all.table all.next h.are; typed = same ∙ h.typed; readers = all.at };
      }
      go (Err e) b = inr (inr (inr (all.table, all.next, b.1)))
