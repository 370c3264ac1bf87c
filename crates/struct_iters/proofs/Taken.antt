-- Columns that are asked for a piece, one after another.
use Rattle.std.proofs.Common.{◌≡◌, inl, inr, ◌+◌, ◌<◌, ◌≤◌, ℕ, zero, suc, List, [], ◌∷◌, ◌++◌, length, take, get_or, slice_set, Option, Some, None, Ok, refl, sym, ap, subst, ◌∙◌, length-append, arith}
use Rattle.columns_base.specs.declared.error.Error.{Error}
use Rattle.pq_files.specs.Reasons.{AnyOf}
use Rattle.read_columns.specs.Columns.{ColumnReading}
use Rattle.read_pieces.specs.Columns.{IsNextPiece, IsWhole, RefusesPiece, rows_of_all}
use Rattle.read_pieces.specs.declared.piece.ColumnPiece.{ColumnPiece}
use Rattle.shredding.specs.Shred.{Triple}
use Rattle.struct_iters.specs.Progress.{Progress, AreAt, AreGone, AreTaken, AreWhole, GivesNext, IsAt}

-- what the triples of each are, or none
abbrev pub Took : Type 0
Took = List (Option (List Triple))

-- ---- one more was asked

pub gave :
    (took : Took) (xs : List Progress) (rs : List (Option ColumnReading)) (ps : List ColumnPiece) (k : ℕ) (old now : Option ColumnReading) (p : ColumnPiece)
    → AreTaken took xs rs ps → k ≡ length took → k < length rs → old ≡ get_or rs k old → ((x : Progress) → IsAt x old → GivesNext x (Some (Ok p)) now)
    → (ts : List Triple) × AreTaken (took ++ Some ts ∷ []) xs (slice_set rs k now) (ps ++ p ∷ [])
gave [] [] [] ps k old now p h e lt is g = absurd (omega arith)
gave [] [] (r ∷ rs) ps k old now p h e lt is g = absurd h.1
gave [] (x ∷ xs) [] ps k old now p h e lt is g = absurd h.1
gave [] (x ∷ xs) (r ∷ rs) ps zero old now p h e lt is g =
    let here = g x (subst (IsAt x) (sym is) h.1.0) in
    (here.0, subst (λ qs. AreTaken (Some here.0 ∷ []) (x ∷ xs) (now ∷ rs) (qs ++ p ∷ [])) (sym h.0) (here.1, here.2, here.3, (refl, h.1.1)))
gave [] (x ∷ xs) (r ∷ rs) ps (suc k) old now p h e lt is g = absurd (omega arith)
gave (None ∷ took) [] rs ps k old now p h e lt is g = absurd h
gave (None ∷ took) (x ∷ xs) [] ps k old now p h e lt is g = absurd h
gave (None ∷ took) (x ∷ xs) (r ∷ rs) ps zero old now p h e lt is g = absurd (omega arith)
gave (None ∷ took) (x ∷ xs) (r ∷ rs) ps (suc k) old now p h e lt is g =
    let rest = gave took xs rs ps k old now p h.2 (omega arith) (omega arith) is g in
    (rest.0, (h.0, h.1, rest.1))
gave (Some ts ∷ took) [] rs ps k old now p h e lt is g = absurd h
gave (Some ts ∷ took) (x ∷ xs) [] ps k old now p h e lt is g = absurd h
gave (Some ts ∷ took) (x ∷ xs) (r ∷ rs) [] k old now p h e lt is g = absurd h
gave (Some ts ∷ took) (x ∷ xs) (r ∷ rs) (q ∷ ps) zero old now p h e lt is g = absurd (omega arith)
gave (Some ts ∷ took) (x ∷ xs) (r ∷ rs) (q ∷ ps) (suc k) old now p h e lt is g =
    let rest = gave took xs rs ps k old now p h.3 (omega arith) (omega arith) is g in
    (rest.0, (h.0, h.1, h.2, rest.1))

pub ended :
    (took : Took) (xs : List Progress) (rs : List (Option ColumnReading)) (ps : List ColumnPiece) (k : ℕ) (old now : Option ColumnReading)
    → AreTaken took xs rs ps → k ≡ length took → k < length rs → old ≡ get_or rs k old → ((x : Progress) → IsAt x old → GivesNext x None now)
    → AreTaken (took ++ None ∷ []) xs (slice_set rs k now) ps
ended [] [] [] ps k old now h e lt is g = absurd (omega arith)
ended [] [] (r ∷ rs) ps k old now h e lt is g = absurd h.1
ended [] (x ∷ xs) [] ps k old now h e lt is g = absurd h.1
ended [] (x ∷ xs) (r ∷ rs) ps zero old now h e lt is g =
    let here = g x (subst (IsAt x) (sym is) h.1.0) in
    (here.0, here.1, (h.0, h.1.1))
ended [] (x ∷ xs) (r ∷ rs) ps (suc k) old now h e lt is g = absurd (omega arith)
ended (None ∷ took) [] rs ps k old now h e lt is g = absurd h
ended (None ∷ took) (x ∷ xs) [] ps k old now h e lt is g = absurd h
ended (None ∷ took) (x ∷ xs) (r ∷ rs) ps zero old now h e lt is g = absurd (omega arith)
ended (None ∷ took) (x ∷ xs) (r ∷ rs) ps (suc k) old now h e lt is g = (h.0, h.1, ended took xs rs ps k old now h.2 (omega arith) (omega arith) is g)
ended (Some ts ∷ took) [] rs ps k old now h e lt is g = absurd h
ended (Some ts ∷ took) (x ∷ xs) [] ps k old now h e lt is g = absurd h
ended (Some ts ∷ took) (x ∷ xs) (r ∷ rs) [] k old now h e lt is g = absurd h
ended (Some ts ∷ took) (x ∷ xs) (r ∷ rs) (q ∷ ps) zero old now h e lt is g = absurd (omega arith)
ended (Some ts ∷ took) (x ∷ xs) (r ∷ rs) (q ∷ ps) (suc k) old now h e lt is g = (h.0, h.1, h.2, ended took xs rs ps k old now h.3 (omega arith) (omega arith) is g)

pub refused :
    (took : Took) (xs : List Progress) (rs : List (Option ColumnReading)) (ps : List ColumnPiece) (k : ℕ) (old : Option ColumnReading) (e : Error)
    → AreTaken took xs rs ps → k ≡ length took → k < length rs → old ≡ get_or rs k old → ((x : Progress) → IsAt x old → RefusesPiece x.opening e)
    → AnyOf (λ x. RefusesPiece x.opening e) xs
refused [] [] [] ps k old e h l lt is g = absurd (omega arith)
refused [] [] (r ∷ rs) ps k old e h l lt is g = absurd h.1
refused [] (x ∷ xs) [] ps k old e h l lt is g = absurd h.1
refused [] (x ∷ xs) (r ∷ rs) ps zero old e h l lt is g = inl (g x (subst (IsAt x) (sym is) h.1.0))
refused [] (x ∷ xs) (r ∷ rs) ps (suc k) old e h l lt is g = absurd (omega arith)
refused (None ∷ took) [] rs ps k old e h l lt is g = absurd h
refused (None ∷ took) (x ∷ xs) [] ps k old e h l lt is g = absurd h
refused (None ∷ took) (x ∷ xs) (r ∷ rs) ps zero old e h l lt is g = absurd (omega arith)
refused (None ∷ took) (x ∷ xs) (r ∷ rs) ps (suc k) old e h l lt is g = inr (refused took xs rs ps k old e h.2 (omega arith) (omega arith) is g)
refused (Some ts ∷ took) [] rs ps k old e h l lt is g = absurd h
refused (Some ts ∷ took) (x ∷ xs) [] ps k old e h l lt is g = absurd h
refused (Some ts ∷ took) (x ∷ xs) (r ∷ rs) [] k old e h l lt is g = absurd h
refused (Some ts ∷ took) (x ∷ xs) (r ∷ rs) (q ∷ ps) zero old e h l lt is g = absurd (omega arith)
refused (Some ts ∷ took) (x ∷ xs) (r ∷ rs) (q ∷ ps) (suc k) old e h l lt is g = inr (refused took xs rs ps k old e h.3 (omega arith) (omega arith) is g)

pub longer : (took : Took) (o : Option (List Triple)) (k : ℕ) → length took ≡ k → length (took ++ o ∷ []) ≡ k + 1
longer took o k e = length-append took (o ∷ []) ∙ ap (λ n. n + 1) e

-- ---- columns that have ended

pub gone-at : (rs : List (Option ColumnReading)) (k : ℕ) (old : Option ColumnReading) → AreGone rs → k < length rs → old ≡ get_or rs k old → old ≡ None
gone-at [] k old h lt is = absurd (omega arith)
gone-at (r ∷ rs) zero old h lt is = cc (is, h.0)
gone-at (r ∷ rs) (suc k) old h lt is = gone-at rs k old h.1 (omega arith) is

pub gone-set : (rs : List (Option ColumnReading)) (k : ℕ) (now : Option ColumnReading) → AreGone rs → now ≡ None → AreGone (slice_set rs k now)
gone-set [] k now h e = h
gone-set (r ∷ rs) zero now h e = (e, h.1)
gone-set (r ∷ rs) (suc k) now h e = (h.0, gone-set rs k now h.1 e)

gone-next : (rs : List (Option ColumnReading)) (k : ℕ) (now : Option ColumnReading) → k < length rs → AreGone (take k rs) → now ≡ None → AreGone (take (suc k) (slice_set rs k now))
gone-next [] k now lt h e = absurd (omega arith)
gone-next (r ∷ rs) zero now lt h e = (e, tt)
gone-next (r ∷ rs) (suc k) now lt h e = (h.0, gone-next rs k now (omega arith) h.1 e)

-- one more of the first ones
pub gone-more : (rs : List (Option ColumnReading)) (k : ℕ) (now : Option ColumnReading) → k < length rs → AreGone (take k rs) → now ≡ None → AreGone (take (k + 1) (slice_set rs k now))
gone-more rs k now lt h e = let q : suc k ≡ k + 1 = omega arith in subst (λ n. AreGone (take n (slice_set rs k now))) q (gone-next rs k now lt h e)

pub some-more : (ps : List ColumnPiece) (p : ColumnPiece) → ps ++ p ∷ [] ≡ [] → ⊥
some-more [] p e = absurd (cc)
some-more (q ∷ ps) p e = absurd (cc)

-- ---- all were asked

few : (took : Took) (xs : List Progress) (rs : List (Option ColumnReading)) (ps : List ColumnPiece) → AreTaken took xs rs ps → length ps < length took + 1
few [] xs rs ps h = subst (λ (qs : List ColumnPiece). length qs < 1) (sym h.0) (omega arith)
few (None ∷ took) [] rs ps h = absurd h
few (None ∷ took) (x ∷ xs) [] ps h = absurd h
few (None ∷ took) (x ∷ xs) (r ∷ rs) ps h = let f = few took xs rs ps h.2 in omega (arith, f)
few (Some ts ∷ took) [] rs ps h = absurd h
few (Some ts ∷ took) (x ∷ xs) [] ps h = absurd h
few (Some ts ∷ took) (x ∷ xs) (r ∷ rs) [] h = omega arith
few (Some ts ∷ took) (x ∷ xs) (r ∷ rs) (q ∷ ps) h = let f = few took xs rs ps h.3 in omega (arith, f)

-- none gave a piece
pub all-ended : (took : Took) (xs : List Progress) (rs : List (Option ColumnReading)) (ps : List ColumnPiece) → AreTaken took xs rs ps → length took ≡ length rs → length ps ≡ 0 → AreWhole xs × AreGone rs × AreAt xs rs
all-ended [] [] [] ps h e z = (tt, tt, tt)
all-ended [] [] (r ∷ rs) ps h e z = absurd h.1
all-ended [] (x ∷ xs) [] ps h e z = absurd h.1
all-ended [] (x ∷ xs) (r ∷ rs) ps h e z = absurd (omega arith)
all-ended (None ∷ took) [] rs ps h e z = absurd h
all-ended (None ∷ took) (x ∷ xs) [] ps h e z = absurd h
all-ended (None ∷ took) (x ∷ xs) (r ∷ rs) ps h e z =
    let rest = all-ended took xs rs ps h.2 (omega arith) z in
    ((h.0, rest.0), (h.1, rest.1), (subst (IsAt x) (sym h.1) h.0, rest.2))
all-ended (Some ts ∷ took) [] rs ps h e z = absurd h
all-ended (Some ts ∷ took) (x ∷ xs) [] ps h e z = absurd h
all-ended (Some ts ∷ took) (x ∷ xs) (r ∷ rs) [] h e z = absurd h
all-ended (Some ts ∷ took) (x ∷ xs) (r ∷ rs) (q ∷ ps) h e z = absurd (omega arith)

-- fewer gave a piece than there are
pub some-whole : (took : Took) (xs : List Progress) (rs : List (Option ColumnReading)) (ps : List ColumnPiece) → AreTaken took xs rs ps → length took ≡ length rs → length ps < length rs → AnyOf (λ x. IsWhole x.opening x.given) xs
some-whole [] xs [] ps h e lt = absurd (omega arith)
some-whole [] xs (r ∷ rs) ps h e lt = absurd (omega arith)
some-whole (None ∷ took) [] rs ps h e lt = absurd h
some-whole (None ∷ took) (x ∷ xs) [] ps h e lt = absurd h
some-whole (None ∷ took) (x ∷ xs) (r ∷ rs) ps h e lt = inl h.0
some-whole (Some ts ∷ took) [] rs ps h e lt = absurd h
some-whole (Some ts ∷ took) (x ∷ xs) [] ps h e lt = absurd h
some-whole (Some ts ∷ took) (x ∷ xs) (r ∷ rs) [] h e lt = absurd h
some-whole (Some ts ∷ took) (x ∷ xs) (r ∷ rs) (q ∷ ps) h e lt = inr (some-whole took xs rs ps h.3 (omega arith) (omega arith))

-- one gave a piece
pub some-next : (took : Took) (xs : List Progress) (rs : List (Option ColumnReading)) (ps : List ColumnPiece) → AreTaken took xs rs ps → 0 < length ps → AnyOf (λ x. (ts : List Triple) × IsNextPiece x.opening (rows_of_all x.given) ts) xs
some-next [] xs rs ps h lt = let z : 0 < 0 = subst (λ (qs : List ColumnPiece). 0 < length qs) h.0 lt in absurd (omega (arith, z))
some-next (None ∷ took) [] rs ps h lt = absurd h
some-next (None ∷ took) (x ∷ xs) [] ps h lt = absurd h
some-next (None ∷ took) (x ∷ xs) (r ∷ rs) ps h lt = inr (some-next took xs rs ps h.2 lt)
some-next (Some ts ∷ took) [] rs ps h lt = absurd h
some-next (Some ts ∷ took) (x ∷ xs) [] ps h lt = absurd h
some-next (Some ts ∷ took) (x ∷ xs) (r ∷ rs) [] h lt = absurd h
some-next (Some ts ∷ took) (x ∷ xs) (r ∷ rs) (q ∷ ps) h lt = inl (ts, h.0)

pub too-few : (took : Took) (xs : List Progress) (rs : List (Option ColumnReading)) (ps : List ColumnPiece) → AreTaken took xs rs ps → length took < length ps → ⊥
too-few took xs rs ps h lt = let f = few took xs rs ps h in omega (arith, f, lt)

pub no-more : (took : Took) (xs : List Progress) (rs : List (Option ColumnReading)) (ps : List ColumnPiece) → AreTaken took xs rs ps → length took ≡ length rs → length ps ≤ length rs
no-more took xs rs ps h e = let f = few took xs rs ps h in omega (arith, f, e)
