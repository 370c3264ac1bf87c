-- Pieces that wait, and what is taken from a page (Dremel paper, section 4.3).
use Rattle.std.specs.Prelude.{◌≡◌, ◌≢◌, ◌⊎◌, ℕ, ◌+◌, ◌-◌, ◌<◌, ◌≤◌, Option, Some, Ok, Err, List, [], ◌∷◌, ◌++◌, map, flat_map, All}
use Rattle.std.specs.List.{AllZip}
use Rattle.columns_base.specs.declared.error.Error.{Error}
use Rattle.columns_base.specs.declared.error.Error.TheVariants.{OutOfSpec}
use Rattle.columns_base.specs.declared.error.S.TheVariants.{S4, S9}
use Rattle.shredding.specs.Along.{thin}
use Rattle.shredding.specs.Laws.{BeginsRow}
use Rattle.shredding.specs.Local.{IsWithin}
use Rattle.shredding.specs.Shape.{Way}
use Rattle.shredding.specs.Shred.{Triple}
use Rattle.shredding.specs.Slot.{Slot}
use Rattle.pq_files.specs.Page.{rows_in}
use Rattle.pq_headline.specs.Openings.{piece_size}
use Rattle.read_laws.specs.State.{Kept, count}
use Rattle.read_pieces.specs.Pieces.{IsPiece}
use Rattle.read_state.specs.Initial.{IsWay}
use Rattle.read_walk.specs.Pairs.{Pair, Item, fault}
use Rattle.read_walk.specs.Values.{Stored, bytes_in, bytes_of}
use Rattle.read_walk.specs.Walk.{Refuses, pair_of, values_of}
use Rattle.read_column.specs.Queues.{Waiting}

-- ---- pieces that wait

abbrev pub joined : List (List Triple) → List Triple
joined pieces = flat_map (λ ts. ts) pieces

-- Pieces of whole rows, each with as many as go into a piece where so many are left; the last number is what is left behind them.
abbrev pub AreSized : Option ℕ → ℕ → List (List Triple) → ℕ → Type 0
AreSized n left [] rest = left ≡ rest
AreSized n left (ts ∷ pieces) rest = (rows_in ts ≡ piece_size n left) × (0 < rows_in ts) × BeginsRow ts × AreSized n (left - rows_in ts) pieces rest

-- the state and the leaf slots of a piece
abbrev pub IsPieceAt : Way → List Triple → List Kept × List Slot → Type 0
IsPieceAt w ts p = IsPiece w ts p.0 p.1

-- Where so many rows were left: these are the pieces that wait, and the triples of the last one, which is being read.
pub record IsQueued (w : Way) (before : ℕ) (whole : List (List Triple)) (last : List Triple) (q : Waiting) : Type 0 where
  pub parts : IsWay q.parts (thin w)
  pub some : q.chunk_size ≢ Some 0
  pub rest : ℕ
  pub sized : AreSized q.chunk_size before whole rest
  pub are : AllZip (IsPieceAt w) whole q.whole
  pub is : IsPiece w last q.state q.leaf
  pub bytes : bytes_in q.leaf ≡ bytes_of (values_of last)
  pub rows : q.rows ≡ piece_size q.chunk_size rest
  pub left : q.left + q.rows ≡ rest
  pub most : rows_in last ≤ q.rows
  pub begins : BeginsRow last

-- the last piece wants rows, or none are left
abbrev pub IsOpen : Waiting → Type 0
IsOpen q = (q.rows ≡ 0) ⊎ (count q.state < q.rows)

-- ---- what is taken from a page

-- nothing is left, or a row begins
abbrev pub BeginsPair : List Item → Type 0
BeginsPair [] = Unit {0}
BeginsPair (Ok p ∷ is) = p.0 ≡ 0
BeginsPair (Err e ∷ is) = Unit {0}

-- Triples of the page, which stand behind those before, distributed to the pieces: their pairs are the page's, and their values the next that
-- were stored. Pieces have so many rows.
pub record TakesPairs (n : Option ℕ) (w : Way) (before : ℕ) (old : List Triple) (q : Waiting) (page page' : List Item) (left left' : List Stored) : Type 0 where
  pub whole : List (List Triple)
  pub last : List Triple
  pub queued : IsQueued w before whole last q
  pub chunk : q.chunk_size ≡ n
  pub taken : List Triple
  pub all : joined whole ++ last ≡ old ++ taken
  pub pairs : page ≡ map Ok (map pair_of taken) ++ page'
  pub values : left ≡ map Some (values_of taken) ++ left'
  pub within : All (IsWithin w) taken
  pub begins : BeginsPair page'

-- the whole page
abbrev pub TakesPage : Option ℕ → Way → ℕ → List Triple → Waiting → List Item → List Stored → Type 0
TakesPage n w before old q page left = (left' : List Stored) × TakesPairs n w before old q page [] left left' × IsOpen q

-- an error behind some of the page: the next rows cannot be taken, or no row is left and yet a pair or a fault
pub record StopsPage (limit : ℕ) (n : Option ℕ) (w : Way) (before : ℕ) (old : List Triple) (page : List Item) (left : List Stored) (e : Error) : Type 0 where
  pub queue : Waiting
  pub page' : List Item
  pub left' : List Stored
  pub takes : TakesPairs n w before old queue page page' left left'
  pub why :
      ((0 < queue.rows) × Refuses limit (queue.rows - count queue.state) page' left' queue.state queue.leaf e)
      ⊎ ((queue.rows ≡ 0) × (((e ≡ OutOfSpec S9) × ((p : Pair) × (is : List Item) × (page' ≡ Ok p ∷ is))) ⊎ ((e ≡ OutOfSpec S4) × ((is : List Item) × (page' ≡ fault ∷ is)))))
