-- What a reader has given depends on the pages that it took alone: it would have given the same before any others behind the first error of its source.
use Rattle.std.specs.Prelude.{◌≡◌, ◌⊎◌, List, [], ◌∷◌, ◌++◌, All, Option, Some, None, Result, Ok, Err}
use Rattle.columns_base.specs.declared.error.Error.{Error}
use Rattle.pq_files.specs.Reasons.{AnyOf}
use Rattle.pq_pages.specs.Outcomes.{Outcome, gives_page, gives_dictionary, fails, IsGiven}
use Rattle.read_column.specs.Reading.{Reading}
use Rattle.read_pieces.specs.Columns.{ColumnOpening, IsNextPiece, IsWhole, RefusesPiece, rows_of_all}
use Rattle.shredding.specs.Shred.{Triple}

-- the outcomes with others in the place of the first error and of what follows it
abbrev pub foreseen : List Outcome → List Outcome → List Outcome
foreseen [] others = []
foreseen (gives_page p levels ∷ os) others = gives_page p levels ∷ foreseen os others
foreseen (gives_dictionary n body ∷ os) others = gives_dictionary n body ∷ foreseen os others
foreseen (fails e ∷ os) others = others

-- pages were taken of the first
abbrev pub FollowsGiven : List Outcome → List Outcome → Type 0
FollowsGiven before after = (front : List Outcome) × All IsGiven front × (before ≡ front ++ after)

-- a reader over such a source
abbrev pub foreseeing : List Outcome → Reading → Reading
foreseeing others r = record { outcomes = foreseen r.outcomes others; means = r.means; queue = r.queue; began = r.began }

abbrev pub SourceFails : Error → List Outcome → Type 0
SourceFails e outcomes = AnyOf (λ x. x ≡ fails e) outcomes

-- What a call gives, as `GivesPiece` says; or the source has failed so.
abbrev pub GivesForeseen : {R V : Type 0} → (ColumnOpening → List (List Triple) → R → Type 0) → (V → List Triple → Type 0) → ColumnOpening → List (List Triple) → List Outcome → Option (Result V Error) → R → Type 0
GivesForeseen Reading Holds o pieces left None now = IsWhole o pieces
GivesForeseen Reading Holds o pieces left (Some (Ok v)) now = (ts : List Triple) × IsNextPiece o (rows_of_all pieces) ts × Holds v ts × Reading o (pieces ++ ts ∷ []) now
GivesForeseen Reading Holds o pieces left (Some (Err e)) now = SourceFails e left ⊎ RefusesPiece o e
