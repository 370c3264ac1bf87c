-- Readers side by side, one after the other.
use Rattle.std.proofs.Common.{◌≡◌, inl, inr, ◌+◌, ◌-◌, ◌<◌, ℕ, zero, suc, List, [], ◌∷◌, ◌++◌, length, take, drop, get_or, slice_set, slice_index_or, Option, Some, None, Result, Ok, Err, sym, ap, subst, ◌∙◌, arith}
use Rattle.std.proofs.lemmas.List.{map-append, append-nil, take_all}
use Rattle.std.proofs.Math.ListN.{drop_of_length-le}
use Rattle.std.specs.Prelude.{MatchResult, IfErr}
use Rattle.columns_base.specs.declared.error.Error.{Error}
use Rattle.columns_base.specs.declared.error.Error.TheVariants.{Memory, OutOfSpec}
use Rattle.columns_base.specs.declared.error.S.TheVariants.{S9}
use Rattle.columns_core.specs.Tree.{TypeTree}
use Rattle.pq_files.specs.Reasons.{AnyOf}
use Rattle.shredding.specs.Shred.{Triple}
use Rattle.pq_headline.specs.Openings.{piece_size}
use Rattle.read_columns.specs.Columns.{ColumnReading, IsColumnPiece, IsReadingColumn}
use Rattle.read_pieces.specs.Columns.{ColumnOpening, GivesPiece, IsNextPiece, IsWhole, RefusesPiece, rows_of_all}
use Rattle.read_pieces.specs.declared.piece.ColumnPiece.{ColumnPiece}
use Rattle.assembly.specs.Lanes.{Lane, Tables, pieces_at, AreReading, AreStepped, AreEnded, AreWhole, AreNext, ArePieces, AreBehind, TakesPieces, AnyRefused}

pub whole_back : {A : Type 0} (n : ℕ) (now old : List A) → length now ≡ length old → n ≡ length old → take n (now ++ drop (length now) old) ≡ now
whole_back n now old e k =
    ap (λ q. take n (now ++ q)) (drop_of_length-le old (omega arith)) ∙ ap (take n) (append-nil now) ∙ take_all n now (omega arith)

-- ---- one step

-- what a call that gave a piece says of its reader
abbrev pub Gave : ColumnReading → ColumnPiece → ColumnReading → Type 0
Gave old p now =
    (o : ColumnOpening) (t : TypeTree) (pieces : List (List Triple)) → IsReadingColumn o t pieces old
    → (ts : List Triple) × IsNextPiece o (rows_of_all pieces) ts × IsColumnPiece o t ts p × IsReadingColumn o t (pieces ++ ts ∷ []) now

step :
    (i before rows : ℕ) (xs : List Lane) (rs : List ColumnReading) (ps : List ColumnPiece) (table : List (List Triple)) (tables : Tables) (k : ℕ) (old now : ColumnReading) (p : ColumnPiece)
    → AreStepped i before xs rs ps table tables → k ≡ length ps → k < length rs → old ≡ get_or rs k old → AreBehind i before rows xs tables → Gave old p now
    → (ts : List Triple) × AreStepped i before xs (slice_set rs k now) (ps ++ p ∷ []) (table ++ ts ∷ []) tables
step i before rows [] [] [] [] tables k old now p h e lt is b g = absurd (omega arith)
step i before rows [] (r ∷ rs) [] [] tables k old now p h e lt is b g = absurd h
step i before rows (x ∷ xs) [] [] [] tables k old now p h e lt is b g = absurd h
step i before rows (x ∷ xs) (r ∷ rs) [] [] tables zero old now p h e lt is b g =
    let here = g x.opening x.type (pieces_at i tables) (subst (λ q. IsReadingColumn x.opening x.type (pieces_at i tables) q) (sym is) h.0) in
    (here.0, (subst (λ q. IsNextPiece x.opening q here.0) b.0 here.1, here.2, here.3, h.1))
step i before rows (x ∷ xs) (r ∷ rs) [] [] tables (suc k) old now p h e lt is b g = absurd (omega arith)
step i before rows [] rs [] (t ∷ table) tables k old now p h e lt is b g = absurd h
step i before rows (x ∷ xs) [] [] (t ∷ table) tables k old now p h e lt is b g = absurd h
step i before rows (x ∷ xs) (r ∷ rs) [] (t ∷ table) tables k old now p h e lt is b g = absurd h
step i before rows [] rs (q ∷ ps) table tables k old now p h e lt is b g = absurd h
step i before rows (x ∷ xs) [] (q ∷ ps) table tables k old now p h e lt is b g = absurd h
step i before rows (x ∷ xs) (r ∷ rs) (q ∷ ps) [] tables k old now p h e lt is b g = absurd h
step i before rows (x ∷ xs) (r ∷ rs) (q ∷ ps) (t ∷ table) tables zero old now p h e lt is b g = absurd (omega arith)
step i before rows (x ∷ xs) (r ∷ rs) (q ∷ ps) (t ∷ table) tables (suc k) old now p h e lt is b g =
    let rest = step (suc i) before rows xs rs ps table tables k old now p h.3 (omega arith) (omega arith) is b.2 g in
    (rest.0, (h.0, h.1, h.2, rest.1))

-- where each has stepped
finished :
    (i before : ℕ) (xs : List Lane) (rs : List ColumnReading) (ps : List ColumnPiece) (table : List (List Triple)) (tables : Tables) (full : List (List Triple))
    → AreStepped i before xs rs ps table tables → length ps ≡ length rs → ((j : ℕ) → slice_index_or full (i + j) [] ≡ slice_index_or table j [])
    → AreNext before xs table × ArePieces xs table ps × AreReading i xs rs (tables ++ full ∷ [])
finished i before [] [] [] [] tables full h e s = (tt, tt, tt)
finished i before [] (r ∷ rs) [] [] tables full h e s = absurd h
finished i before (x ∷ xs) [] [] [] tables full h e s = absurd h
finished i before (x ∷ xs) (r ∷ rs) [] [] tables full h e s = absurd (omega arith)
finished i before [] rs [] (t ∷ table) tables full h e s = absurd h
finished i before (x ∷ xs) [] [] (t ∷ table) tables full h e s = absurd h
finished i before (x ∷ xs) (r ∷ rs) [] (t ∷ table) tables full h e s = absurd h
finished i before [] rs (q ∷ ps) table tables full h e s = absurd h
finished i before (x ∷ xs) [] (q ∷ ps) table tables full h e s = absurd h
finished i before (x ∷ xs) (r ∷ rs) (q ∷ ps) [] tables full h e s = absurd h
finished i before (x ∷ xs) (r ∷ rs) (q ∷ ps) (t ∷ table) tables full h e s =
    let rest = finished (suc i) before xs rs ps table tables full h.3 (omega arith) (λ j. ap (λ m. slice_index_or full m []) (omega arith) ∙ s (suc j)) in
    let here : slice_index_or full i [] ≡ t = ap (λ m. slice_index_or full m []) (omega arith) ∙ s 0 in
    let list : pieces_at i (tables ++ full ∷ []) ≡ pieces_at i tables ++ t ∷ [] = map-append (λ u. slice_index_or u i []) tables (full ∷ []) ∙ ap (λ u. pieces_at i tables ++ u ∷ []) here in
    ((h.0, rest.0), (h.1, rest.1), (subst (λ u. IsReadingColumn x.opening x.type u r) (sym list) h.2, rest.2))

pub taken :
    (before : ℕ) (xs : List Lane) (rs : List ColumnReading) (ps : List ColumnPiece) (table : List (List Triple)) (tables : Tables)
    → AreStepped 0 before xs rs ps table tables → length ps ≡ length rs → TakesPieces before xs tables ps rs
taken before xs rs ps table tables h e =
    let f = finished 0 before xs rs ps table tables table h e (λ j. ap (λ m. slice_index_or table m []) (omega arith)) in
    record { table = table; next = f.0; are = f.1; reading = f.2 }

pub stepped :
    (before rows : ℕ) (xs : List Lane) (rs : List ColumnReading) (ps : List ColumnPiece) (table : List (List Triple)) (tables : Tables) (k : ℕ) (old now : ColumnReading) (p : ColumnPiece)
    → AreStepped 0 before xs rs ps table tables → k ≡ length ps → k < length rs → old ≡ get_or rs k old → AreBehind 0 before rows xs tables → Gave old p now
    → (ts : List Triple) × AreStepped 0 before xs (slice_set rs k now) (ps ++ p ∷ []) (table ++ ts ∷ []) tables
stepped before rows xs rs ps table tables k old now p h e lt is b g = step 0 before rows xs rs ps table tables k old now p h e lt is b g

-- ---- what holds of the reader that is next

-- some lane reads it
at :
    (i before rows : ℕ) (xs : List Lane) (rs : List ColumnReading) (ps : List ColumnPiece) (table : List (List Triple)) (tables : Tables) (k : ℕ) (old : ColumnReading) (P : Lane → Type 0)
    → AreStepped i before xs rs ps table tables → k ≡ length ps → k < length rs → old ≡ get_or rs k old → AreBehind i before rows xs tables
    → ((x : Lane) (pieces : List (List Triple)) → IsReadingColumn x.opening x.type pieces old → rows_of_all pieces ≡ before → x.opening.rows ≡ rows → P x)
    → AnyOf P xs
at i before rows [] [] [] [] tables k old P h e lt is b g = absurd (omega arith)
at i before rows [] (r ∷ rs) [] [] tables k old P h e lt is b g = absurd h
at i before rows (x ∷ xs) [] [] [] tables k old P h e lt is b g = absurd h
at i before rows (x ∷ xs) (r ∷ rs) [] [] tables zero old P h e lt is b g =
    inl (g x (pieces_at i tables) (subst (λ q. IsReadingColumn x.opening x.type (pieces_at i tables) q) (sym is) h.0) b.0 b.1)
at i before rows (x ∷ xs) (r ∷ rs) [] [] tables (suc k) old P h e lt is b g = absurd (omega arith)
at i before rows [] rs [] (t ∷ table) tables k old P h e lt is b g = absurd h
at i before rows (x ∷ xs) [] [] (t ∷ table) tables k old P h e lt is b g = absurd h
at i before rows (x ∷ xs) (r ∷ rs) [] (t ∷ table) tables k old P h e lt is b g = absurd h
at i before rows [] rs (q ∷ ps) table tables k old P h e lt is b g = absurd h
at i before rows (x ∷ xs) [] (q ∷ ps) table tables k old P h e lt is b g = absurd h
at i before rows (x ∷ xs) (r ∷ rs) (q ∷ ps) [] tables k old P h e lt is b g = absurd h
at i before rows (x ∷ xs) (r ∷ rs) (q ∷ ps) (t ∷ table) tables zero old P h e lt is b g = absurd (omega arith)
at i before rows (x ∷ xs) (r ∷ rs) (q ∷ ps) (t ∷ table) tables (suc k) old P h e lt is b g =
    inr (at (suc i) before rows xs rs ps table tables k old P h.3 (omega arith) (omega arith) is b.2 g)

none-of : (xs : List Lane) → AnyOf (λ x. ⊥) xs → ⊥
none-of [] h = h
none-of (x ∷ xs) (inl h) = h
none-of (x ∷ xs) (inr h) = none-of xs h

pub refused :
    (before rows : ℕ) (xs : List Lane) (rs : List ColumnReading) (ps : List ColumnPiece) (table : List (List Triple)) (tables : Tables) (k : ℕ) (old : ColumnReading) (e : Error)
    → AreStepped 0 before xs rs ps table tables → k ≡ length ps → k < length rs → old ≡ get_or rs k old → AreBehind 0 before rows xs tables
    → ((o : ColumnOpening) (t : TypeTree) (pieces : List (List Triple)) → IsReadingColumn o t pieces old → RefusesPiece o e)
    → AnyRefused xs e
refused before rows xs rs ps table tables k old e h l lt is b g =
    inr (at 0 before rows xs rs ps table tables k old (λ x. RefusesPiece x.opening e) h l lt is b (λ x pieces q m n. g x.opening x.type pieces q))

-- no column ends while rows are left
pub still_open :
    (before rows : ℕ) (xs : List Lane) (rs : List ColumnReading) (ps : List ColumnPiece) (table : List (List Triple)) (tables : Tables) (k : ℕ) (old : ColumnReading)
    → AreStepped 0 before xs rs ps table tables → k ≡ length ps → k < length rs → old ≡ get_or rs k old → AreBehind 0 before rows xs tables → before < rows
    → ((o : ColumnOpening) (t : TypeTree) (pieces : List (List Triple)) → IsReadingColumn o t pieces old → IsWhole o pieces) → ⊥
still_open before rows xs rs ps table tables k old h l lt is b less g =
    none-of xs (at 0 before rows xs rs ps table tables k old (λ x. ⊥) h l lt is b (λ x pieces q m n. omega (arith, (g x.opening x.type pieces q).counted, m, n, less)))

-- ---- the ends

end_step :
    (i k : ℕ) (xs : List Lane) (rs : List ColumnReading) (tables : Tables) (old now : ColumnReading)
    → AreEnded i k xs rs tables → k < length rs → old ≡ get_or rs k old → ((o : ColumnOpening) (t : TypeTree) (pieces : List (List Triple)) → IsReadingColumn o t pieces old → IsWhole o pieces)
    → AreEnded i (suc k) xs (slice_set rs k now) tables
end_step i zero [] [] tables old now h lt is g = absurd (omega arith)
end_step i zero [] (r ∷ rs) tables old now h lt is g = absurd h
end_step i zero (x ∷ xs) [] tables old now h lt is g = absurd (omega arith)
end_step i zero (x ∷ xs) (r ∷ rs) tables old now h lt is g =
    (g x.opening x.type (pieces_at i tables) (subst (λ q. IsReadingColumn x.opening x.type (pieces_at i tables) q) (sym is) h.0), h.1)
end_step i (suc k) [] rs tables old now h lt is g = absurd h
end_step i (suc k) (x ∷ xs) [] tables old now h lt is g = absurd (omega arith)
end_step i (suc k) (x ∷ xs) (r ∷ rs) tables old now h lt is g = (h.0, end_step (suc i) k xs rs tables old now h.1 (omega arith) is g)

pub ended_on :
    (k : ℕ) (xs : List Lane) (rs : List ColumnReading) (tables : Tables) (old now : ColumnReading)
    → AreEnded 0 k xs rs tables → k < length rs → old ≡ get_or rs k old → ((o : ColumnOpening) (t : TypeTree) (pieces : List (List Triple)) → IsReadingColumn o t pieces old → IsWhole o pieces)
    → AreEnded 0 (k + 1) xs (slice_set rs k now) tables
ended_on k xs rs tables old now h lt is g = let e : suc k ≡ k + 1 = omega arith in subst (λ q. AreEnded 0 q xs (slice_set rs k now) tables) e (end_step 0 k xs rs tables old now h lt is g)

all_ended : (i k : ℕ) (xs : List Lane) (rs : List ColumnReading) (tables : Tables) → AreEnded i k xs rs tables → k ≡ length rs → AreWhole i xs tables
all_ended i zero [] [] tables h e = tt
all_ended i zero [] (r ∷ rs) tables h e = absurd h
all_ended i zero (x ∷ xs) [] tables h e = absurd h
all_ended i zero (x ∷ xs) (r ∷ rs) tables h e = absurd (omega arith)
all_ended i (suc k) [] rs tables h e = absurd h
all_ended i (suc k) (x ∷ xs) [] tables h e = absurd h
all_ended i (suc k) (x ∷ xs) (r ∷ rs) tables h e = (h.0, all_ended (suc i) k xs rs tables h.1 (omega arith))

pub all_whole : (k : ℕ) (xs : List Lane) (rs : List ColumnReading) (tables : Tables) → AreEnded 0 k xs rs tables → k ≡ length rs → AreWhole 0 xs tables
all_whole k xs rs tables h e = all_ended 0 k xs rs tables h e

end_at :
    (i k before rows : ℕ) (xs : List Lane) (rs : List ColumnReading) (tables : Tables) (old : ColumnReading) (P : Lane → Type 0)
    → AreEnded i k xs rs tables → k < length rs → old ≡ get_or rs k old → AreBehind i before rows xs tables
    → ((x : Lane) (pieces : List (List Triple)) → IsReadingColumn x.opening x.type pieces old → rows_of_all pieces ≡ before → x.opening.rows ≡ rows → P x)
    → AnyOf P xs
end_at i zero before rows [] [] tables old P h lt is b g = absurd (omega arith)
end_at i zero before rows [] (r ∷ rs) tables old P h lt is b g = absurd h
end_at i zero before rows (x ∷ xs) [] tables old P h lt is b g = absurd (omega arith)
end_at i zero before rows (x ∷ xs) (r ∷ rs) tables old P h lt is b g =
    inl (g x (pieces_at i tables) (subst (λ q. IsReadingColumn x.opening x.type (pieces_at i tables) q) (sym is) h.0) b.0 b.1)
end_at i (suc k) before rows [] rs tables old P h lt is b g = absurd h
end_at i (suc k) before rows (x ∷ xs) [] tables old P h lt is b g = absurd (omega arith)
end_at i (suc k) before rows (x ∷ xs) (r ∷ rs) tables old P h lt is b g = inr (end_at (suc i) k before rows xs rs tables old P h.1 (omega arith) is b.2 g)

piece_none : (n : Option ℕ) (left : ℕ) → left ≡ 0 → piece_size n left ≡ 0
piece_none None left e = e
piece_none (Some n) left e = omega (arith, e)

no_next : (o : ColumnOpening) (before : ℕ) (ts : List Triple) → o.rows ≡ before → IsNextPiece o before ts → ⊥
no_next o before ts e h =
    let none = piece_none o.chunk_size (o.rows - before) (omega (arith, e)) in omega (arith, h.count, h.some, none)

-- what comes behind the last row is an error
pub late :
    (k rows : ℕ) (xs : List Lane) (rs : List ColumnReading) (tables : Tables) (old now : ColumnReading) (item : Result ColumnPiece Error) (e : Error)
    → AreEnded 0 k xs rs tables → k < length rs → old ≡ get_or rs k old → AreBehind 0 rows rows xs tables
    → ((o : ColumnOpening) (t : TypeTree) (pieces : List (List Triple)) → IsReadingColumn o t pieces old → GivesPiece (λ x ps r. IsReadingColumn x t ps r) (λ p ts. IsColumnPiece o t ts p) o pieces (Some item) now)
    → MatchResult item (λ _. e ≡ OutOfSpec S9) (λ x. e ≡ x)
    → AnyRefused xs e
late k rows xs rs tables old now (Ok p) e h lt is b g m =
    absurd (none-of xs (end_at 0 k rows rows xs rs tables old (λ x. ⊥) h lt is b (λ x pieces q u v. no_next x.opening (rows_of_all pieces) (g x.opening x.type pieces q).0 (omega (arith, u, v)) (g x.opening x.type pieces q).1)))
late k rows xs rs tables old now (Err x) e h lt is b g m =
    inr (subst (λ q. AnyOf (λ y. RefusesPiece y.opening q) xs) (sym m) (end_at 0 k rows rows xs rs tables old (λ y. RefusesPiece y.opening x) h lt is b (λ y pieces q u v. g y.opening y.type pieces q)))

-- for want of memory alone
pub memory_refused : {A : Type 0} (r : Result A Error) (xs : List Lane) → IfErr r (λ e. e ≡ Memory) → IfErr r (AnyRefused xs)
memory_refused (Ok a) xs h = tt
memory_refused (Err e) xs h = inl h
