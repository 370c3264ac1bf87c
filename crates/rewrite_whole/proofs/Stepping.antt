-- Iterators side by side, one after the other.
use Rattle.std.proofs.Common.{◌≡◌, inl, inr, ◌+◌, ◌-◌, ◌<◌, ℕ, zero, suc, List, [], ◌∷◌, ◌++◌, length, map, flat_map, take, drop, get_or, slice_set, Option, Some, None, Result, Ok, Err, refl, sym, ap, subst, ◌∙◌, arith}
use Rattle.std.proofs.lemmas.List.{map-append, append-nil, take_all, length-map}
use Rattle.std.proofs.Math.ListN.{drop_of_length-le}
use Rattle.columns_array.specs.Boxed.{boxed, all_boxed}
use Rattle.columns_array.specs.Chunks.{unlisted}
use Rattle.columns_array.specs.declared.arrays.ArrayBox.{ArrayBox}
use Rattle.columns_base.specs.declared.error.Error.{Error}
use Rattle.columns_base.specs.declared.error.Error.TheVariants.{OutOfSpec}
use Rattle.columns_base.specs.declared.error.S.TheVariants.{S9}
use Rattle.std.specs.Prelude.{MatchResult}
use Rattle.columns_slots.specs.Slots.{slots}
use Rattle.columns_slots.specs.Tree.{ArrayTree, ArrayTrees, more_arrays}
use Rattle.pq_files.specs.Reasons.{AnyOf}
use Rattle.assembly.specs.Giving.{FieldReading, IsGiving, Gives}
use Rattle.pq_headline.specs.Opened.{AreItems, AreAssembled, AreChunksFrom, rows_in_chunks}
use Rattle.pq_headline.specs.Openings.{Opening, IsItem, Assembled, piece_size}
use Rattle.pq_headline.specs.Arrays.{array_at}
use Rattle.pq_headline.specs.FieldReasons.{Refuses}
use Rattle.pq_headline.proofs.Groups.{AreSame as Same}
use Rattle.pq_headline.proofs.Written.{arrays_count, chunks_on}
use Rattle.rewrite_whole.specs.Groups.{AreGiving, AreStepped, AreEnded, AreSame, IsUnderWay, RefusesAny, TakesPiece}

-- ---- lists

pub whole_back : {A : Type 0} (n : ℕ) (now old : List A) → length now ≡ length old → n ≡ length old → take n (now ++ drop (length now) old) ≡ now
whole_back n now old e k =
    ap (λ q. take n (now ++ q)) (drop_of_length-le old (omega arith)) ∙ ap (take n) (append-nil now) ∙ take_all n now (omega arith)

pub boxes_are : (items : List ArrayBox) → all_boxed items ≡ unlisted (map boxed items)
boxes_are [] = refl
boxes_are (b ∷ bs) = ap (more_arrays (boxed b)) (boxes_are bs)

pub same_is : (rows : ℕ) (n : Option ℕ) (os : List Opening) → AreSame rows n os → Same rows n os
same_is rows n [] h = tt
same_is rows n (o ∷ os) h = (h.0, h.1, same_is rows n os h.2)

-- ---- one step

abbrev HasCounts : ℕ → ℕ → ℕ → List ArrayTrees → Type 0
HasCounts i before k chunks = (j : ℕ) → j < k → length (flat_map slots (map (array_at (i + j)) chunks)) ≡ before

-- what a call that gave an array says of its iterator
abbrev Gave : FieldReading → ArrayTree → FieldReading → Type 0
Gave old a now = (o : Opening) (arrays : List ArrayTree) → IsGiving o arrays old → IsItem o (length (flat_map slots arrays)) a × IsGiving o (arrays ++ a ∷ []) now

count_here : (i before k : ℕ) (chunks : List ArrayTrees) → HasCounts i before (suc k) chunks → length (flat_map slots (map (array_at i) chunks)) ≡ before
count_here i before k chunks h = ap (λ q. length (flat_map slots (map (array_at q) chunks))) (omega arith) ∙ h 0 (omega arith)

counts_on : (i before k : ℕ) (chunks : List ArrayTrees) → HasCounts i before (suc k) chunks → HasCounts (suc i) before k chunks
counts_on i before k chunks h j lt = ap (λ q. length (flat_map slots (map (array_at q) chunks))) (omega arith) ∙ h (suc j) (omega arith)

step :
    (i before : ℕ) (os : List Opening) (its : List FieldReading) (xs : List ArrayTree) (chunks : List ArrayTrees) (k : ℕ) (old now : FieldReading) (a : ArrayTree)
    → AreStepped i before os its xs chunks → k ≡ length xs → k < length its → old ≡ get_or its k old → HasCounts i before (length os) chunks → Gave old a now
    → AreStepped i before os (slice_set its k now) (xs ++ a ∷ []) chunks
step i before [] [] [] chunks k old now a h e lt is c g = absurd (omega arith)
step i before [] (it ∷ its) [] chunks k old now a h e lt is c g = absurd h
step i before (o ∷ os) [] [] chunks k old now a h e lt is c g = absurd h
step i before (o ∷ os) (it ∷ its) [] chunks zero old now a h e lt is c g =
    let here = g o (map (array_at i) chunks) (subst (λ x. IsGiving o (map (array_at i) chunks) x) (sym is) h.0) in
    (subst (λ q. IsItem o q a) (count_here i before (length os) chunks c) here.0, here.1, h.1)
step i before (o ∷ os) (it ∷ its) [] chunks (suc k) old now a h e lt is c g = absurd (omega arith)
step i before [] its (b ∷ xs) chunks k old now a h e lt is c g = absurd h
step i before (o ∷ os) [] (b ∷ xs) chunks k old now a h e lt is c g = absurd h
step i before (o ∷ os) (it ∷ its) (b ∷ xs) chunks zero old now a h e lt is c g = absurd (omega arith)
step i before (o ∷ os) (it ∷ its) (b ∷ xs) chunks (suc k) old now a h e lt is c g =
    (h.0, h.1, step (suc i) before os its xs chunks k old now a h.2 (omega arith) (omega arith) is (counts_on i before (length os) chunks c) g)

-- where each has stepped
finished :
    (i before : ℕ) (os : List Opening) (its : List FieldReading) (xs : List ArrayTree) (chunks : List ArrayTrees) (all : ArrayTrees)
    → AreStepped i before os its xs chunks → length xs ≡ length its → ((j : ℕ) → array_at (i + j) all ≡ array_at j (unlisted xs))
    → AreItems before os (unlisted xs) × AreGiving i os its (chunks ++ all ∷ [])
finished i before [] [] [] chunks all h e s = (tt, tt)
finished i before [] (it ∷ its) [] chunks all h e s = absurd h
finished i before (o ∷ os) [] [] chunks all h e s = absurd h
finished i before (o ∷ os) (it ∷ its) [] chunks all h e s = absurd (omega arith)
finished i before [] its (a ∷ xs) chunks all h e s = absurd h
finished i before (o ∷ os) [] (a ∷ xs) chunks all h e s = absurd h
finished i before (o ∷ os) (it ∷ its) (a ∷ xs) chunks all h e s =
    let rest = finished (suc i) before os its xs chunks all h.2 (omega arith) (λ j. ap (λ q. array_at q all) (omega arith) ∙ s (suc j)) in
    let here : array_at i all ≡ a = ap (λ q. array_at q all) (omega arith) ∙ s 0 in
    let list : map (array_at i) (chunks ++ all ∷ []) ≡ map (array_at i) chunks ++ a ∷ [] = map-append (array_at i) chunks (all ∷ []) ∙ ap (λ q. map (array_at i) chunks ++ q ∷ []) here in
    ((h.0, rest.0), (subst (λ q. IsGiving o q it) (sym list) h.1, rest.1))

all_counts : (rows : ℕ) (n : Option ℕ) (os : List Opening) (chunks : List ArrayTrees) → AreSame rows n os → AreChunksFrom 0 os chunks → HasCounts 0 (rows_in_chunks chunks) (length os) chunks
all_counts rows n os chunks s c j lt = ap (λ q. length (flat_map slots (map (array_at q) chunks))) (omega arith) ∙ arrays_count rows n os chunks j (same_is rows n os s) c lt

-- ---- what the loop of a piece needs

pub stepped :
    (rows : ℕ) (n : Option ℕ) (os : List Opening) (first its : List FieldReading) (xs : List ArrayTree) (chunks : List ArrayTrees) (k : ℕ) (old now : FieldReading) (a : ArrayTree)
    → IsUnderWay rows n os first chunks → AreStepped 0 (rows_in_chunks chunks) os its xs chunks → k ≡ length xs → k < length its → old ≡ get_or its k old → Gave old a now
    → AreStepped 0 (rows_in_chunks chunks) os (slice_set its k now) (xs ++ a ∷ []) chunks
stepped rows n os first its xs chunks k old now a u h e lt is g = step 0 (rows_in_chunks chunks) os its xs chunks k old now a h e lt is (all_counts rows n os chunks u.same u.are) g

pub taken :
    (rows : ℕ) (n : Option ℕ) (os : List Opening) (first its : List FieldReading) (items : List ArrayBox) (chunks : List ArrayTrees)
    → IsUnderWay rows n os first chunks → AreStepped 0 (rows_in_chunks chunks) os its (map boxed items) chunks → length items ≡ length its
    → TakesPiece rows n os its chunks (all_boxed items)
taken rows n os first its items chunks u h e =
    let cs : ArrayTrees = unlisted (map boxed items) in
    let f = finished 0 (rows_in_chunks chunks) os its (map boxed items) chunks cs h (length-map items boxed ∙ e) (λ j. ap (λ q. array_at q cs) (omega arith)) in
    let plus : rows_in_chunks chunks ≡ 0 + rows_in_chunks chunks = omega arith in
    subst (λ q. TakesPiece rows n os its chunks q) (sym (boxes_are items)) (f.0, record { same = u.same; some = u.some; are = chunks_on 0 os chunks cs u.are (subst (λ q. AreItems q os cs) plus f.0); giving = f.1 })

-- ---- an error

any_at :
    (i before : ℕ) (e : Error) (os : List Opening) (its : List FieldReading) (xs : List ArrayTree) (chunks : List ArrayTrees) (k : ℕ) (old : FieldReading)
    → AreStepped i before os its xs chunks → k ≡ length xs → k < length its → old ≡ get_or its k old → ((o : Opening) (arrays : List ArrayTree) → IsGiving o arrays old → Refuses o e)
    → AnyOf (λ o. Refuses o e) os
any_at i before e [] [] [] chunks k old h l lt is g = absurd (omega arith)
any_at i before e [] (it ∷ its) [] chunks k old h l lt is g = absurd h
any_at i before e (o ∷ os) [] [] chunks k old h l lt is g = absurd h
any_at i before e (o ∷ os) (it ∷ its) [] chunks zero old h l lt is g = inl (g o (map (array_at i) chunks) (subst (λ x. IsGiving o (map (array_at i) chunks) x) (sym is) h.0))
any_at i before e (o ∷ os) (it ∷ its) [] chunks (suc k) old h l lt is g = absurd (omega arith)
any_at i before e [] its (b ∷ xs) chunks k old h l lt is g = absurd h
any_at i before e (o ∷ os) [] (b ∷ xs) chunks k old h l lt is g = absurd h
any_at i before e (o ∷ os) (it ∷ its) (b ∷ xs) chunks zero old h l lt is g = absurd (omega arith)
any_at i before e (o ∷ os) (it ∷ its) (b ∷ xs) chunks (suc k) old h l lt is g = inr (any_at (suc i) before e os its xs chunks k old h.2 (omega arith) (omega arith) is g)

pub refused :
    (rows : ℕ) (n : Option ℕ) (os : List Opening) (its : List FieldReading) (xs : List ArrayTree) (chunks : List ArrayTrees) (k : ℕ) (old : FieldReading) (e : Error)
    → AreStepped 0 (rows_in_chunks chunks) os its xs chunks → k ≡ length xs → k < length its → old ≡ get_or its k old → ((o : Opening) (arrays : List ArrayTree) → IsGiving o arrays old → Refuses o e)
    → RefusesAny os e
refused rows n os its xs chunks k old e h l lt is g = inr (any_at 0 (rows_in_chunks chunks) e os its xs chunks k old h l lt is g)

-- ---- no field ends while rows are left

open_at :
    (i before rows : ℕ) (n : Option ℕ) (os : List Opening) (its : List FieldReading) (xs : List ArrayTree) (chunks : List ArrayTrees) (k : ℕ) (old : FieldReading)
    → AreSame rows n os → AreStepped i before os its xs chunks → k ≡ length xs → k < length its → old ≡ get_or its k old → HasCounts i before (length os) chunks → before < rows
    → ((o : Opening) (arrays : List ArrayTree) → IsGiving o arrays old → Assembled o arrays) → ⊥
open_at i before rows n [] [] [] chunks k old s h l lt is c less g = absurd (omega arith)
open_at i before rows n [] (it ∷ its) [] chunks k old s h l lt is c less g = absurd h
open_at i before rows n (o ∷ os) [] [] chunks k old s h l lt is c less g = absurd h
open_at i before rows n (o ∷ os) (it ∷ its) [] chunks zero old s h l lt is c less g =
    let done = g o (map (array_at i) chunks) (subst (λ x. IsGiving o (map (array_at i) chunks) x) (sym is) h.0) in
    absurd (omega (arith, done.count, count_here i before (length os) chunks c, s.0))
open_at i before rows n (o ∷ os) (it ∷ its) [] chunks (suc k) old s h l lt is c less g = absurd (omega arith)
open_at i before rows n [] its (b ∷ xs) chunks k old s h l lt is c less g = absurd h
open_at i before rows n (o ∷ os) [] (b ∷ xs) chunks k old s h l lt is c less g = absurd h
open_at i before rows n (o ∷ os) (it ∷ its) (b ∷ xs) chunks zero old s h l lt is c less g = absurd (omega arith)
open_at i before rows n (o ∷ os) (it ∷ its) (b ∷ xs) chunks (suc k) old s h l lt is c less g =
    open_at (suc i) before rows n os its xs chunks k old s.2 h.2 (omega arith) (omega arith) is (counts_on i before (length os) chunks c) less g

pub still_open :
    (rows : ℕ) (n : Option ℕ) (os : List Opening) (first its : List FieldReading) (xs : List ArrayTree) (chunks : List ArrayTrees) (k : ℕ) (old : FieldReading)
    → IsUnderWay rows n os first chunks → AreStepped 0 (rows_in_chunks chunks) os its xs chunks → k ≡ length xs → k < length its → old ≡ get_or its k old → rows_in_chunks chunks < rows
    → ((o : Opening) (arrays : List ArrayTree) → IsGiving o arrays old → Assembled o arrays) → ⊥
still_open rows n os first its xs chunks k old u h l lt is less g = open_at 0 (rows_in_chunks chunks) rows n os its xs chunks k old u.same h l lt is (all_counts rows n os chunks u.same u.are) less g

-- ---- the ends

end_step :
    (i k : ℕ) (os : List Opening) (its : List FieldReading) (chunks : List ArrayTrees) (old now : FieldReading)
    → AreEnded i k os its chunks → k < length its → old ≡ get_or its k old → ((o : Opening) (arrays : List ArrayTree) → IsGiving o arrays old → Assembled o arrays)
    → AreEnded i (suc k) os (slice_set its k now) chunks
end_step i zero [] [] chunks old now h lt is g = absurd (omega arith)
end_step i zero [] (it ∷ its) chunks old now h lt is g = absurd h
end_step i zero (o ∷ os) [] chunks old now h lt is g = absurd h
end_step i zero (o ∷ os) (it ∷ its) chunks old now h lt is g = (g o (map (array_at i) chunks) (subst (λ x. IsGiving o (map (array_at i) chunks) x) (sym is) h.0), h.1)
end_step i (suc k) [] its chunks old now h lt is g = absurd h
end_step i (suc k) (o ∷ os) [] chunks old now h lt is g = absurd h
end_step i (suc k) (o ∷ os) (it ∷ its) chunks old now h lt is g = (h.0, end_step (suc i) k os its chunks old now h.1 (omega arith) is g)

pub ended_on :
    (k : ℕ) (os : List Opening) (its : List FieldReading) (chunks : List ArrayTrees) (old now : FieldReading)
    → AreEnded 0 k os its chunks → k < length its → old ≡ get_or its k old → ((o : Opening) (arrays : List ArrayTree) → IsGiving o arrays old → Assembled o arrays)
    → AreEnded 0 (k + 1) os (slice_set its k now) chunks
ended_on k os its chunks old now h lt is g = let e : suc k ≡ k + 1 = omega arith in subst (λ q. AreEnded 0 q os (slice_set its k now) chunks) e (end_step 0 k os its chunks old now h lt is g)

all_ended : (i k : ℕ) (os : List Opening) (its : List FieldReading) (chunks : List ArrayTrees) → AreEnded i k os its chunks → k ≡ length its → AreAssembled i os chunks
all_ended i zero [] [] chunks h e = tt
all_ended i zero [] (it ∷ its) chunks h e = absurd h
all_ended i zero (o ∷ os) [] chunks h e = absurd h
all_ended i zero (o ∷ os) (it ∷ its) chunks h e = absurd (omega arith)
all_ended i (suc k) [] its chunks h e = absurd h
all_ended i (suc k) (o ∷ os) [] chunks h e = absurd h
all_ended i (suc k) (o ∷ os) (it ∷ its) chunks h e = (h.0, all_ended (suc i) k os its chunks h.1 (omega arith))

pub assembled : (k : ℕ) (os : List Opening) (its : List FieldReading) (chunks : List ArrayTrees) → AreEnded 0 k os its chunks → k ≡ length its → AreAssembled 0 os chunks
assembled k os its chunks h e = all_ended 0 k os its chunks h e

any_end :
    (i k : ℕ) (e : Error) (os : List Opening) (its : List FieldReading) (chunks : List ArrayTrees) (old : FieldReading)
    → AreEnded i k os its chunks → k < length its → old ≡ get_or its k old → ((o : Opening) (arrays : List ArrayTree) → IsGiving o arrays old → Refuses o e)
    → AnyOf (λ o. Refuses o e) os
any_end i zero e [] [] chunks old h lt is g = absurd (omega arith)
any_end i zero e [] (it ∷ its) chunks old h lt is g = absurd h
any_end i zero e (o ∷ os) [] chunks old h lt is g = absurd h
any_end i zero e (o ∷ os) (it ∷ its) chunks old h lt is g = inl (g o (map (array_at i) chunks) (subst (λ x. IsGiving o (map (array_at i) chunks) x) (sym is) h.0))
any_end i (suc k) e [] its chunks old h lt is g = absurd h
any_end i (suc k) e (o ∷ os) [] chunks old h lt is g = absurd h
any_end i (suc k) e (o ∷ os) (it ∷ its) chunks old h lt is g = inr (any_end (suc i) k e os its chunks old h.1 (omega arith) is g)

pub end_refused :
    (k : ℕ) (e : Error) (os : List Opening) (its : List FieldReading) (chunks : List ArrayTrees) (old : FieldReading)
    → AreEnded 0 k os its chunks → k < length its → old ≡ get_or its k old → ((o : Opening) (arrays : List ArrayTree) → IsGiving o arrays old → Refuses o e)
    → RefusesAny os e
end_refused k e os its chunks old h lt is g = inr (any_end 0 k e os its chunks old h lt is g)

piece_of_none : (n : Option ℕ) (left : ℕ) → left ≡ 0 → piece_size n left ≡ 0
piece_of_none None left e = e
piece_of_none (Some n) left e = omega arith

over_at :
    (i k rows : ℕ) (n : Option ℕ) (os : List Opening) (its : List FieldReading) (chunks : List ArrayTrees) (old : FieldReading) (a : ArrayTree)
    → AreSame rows n os → AreEnded i k os its chunks → k < length its → old ≡ get_or its k old → HasCounts i rows (length os) chunks
    → ((o : Opening) (arrays : List ArrayTree) → IsGiving o arrays old → IsItem o (length (flat_map slots arrays)) a) → ⊥
over_at i zero rows n [] [] chunks old a s h lt is c g = absurd (omega arith)
over_at i zero rows n [] (it ∷ its) chunks old a s h lt is c g = absurd h
over_at i zero rows n (o ∷ os) [] chunks old a s h lt is c g = absurd h
over_at i zero rows n (o ∷ os) (it ∷ its) chunks old a s h lt is c g =
    let item = g o (map (array_at i) chunks) (subst (λ x. IsGiving o (map (array_at i) chunks) x) (sym is) h.0) in
    let all : length (flat_map slots (map (array_at i) chunks)) ≡ rows = count_here i rows (length os) chunks c in
    let none : o.rows - length (flat_map slots (map (array_at i) chunks)) ≡ 0 = omega (arith, s.0) in
    absurd (omega (arith, item.count, item.some, piece_of_none o.chunk_size (o.rows - length (flat_map slots (map (array_at i) chunks))) none))
over_at i (suc k) rows n [] its chunks old a s h lt is c g = absurd h
over_at i (suc k) rows n (o ∷ os) [] chunks old a s h lt is c g = absurd h
over_at i (suc k) rows n (o ∷ os) (it ∷ its) chunks old a s h lt is c g = over_at (suc i) k rows n os its chunks old a s.2 h.1 (omega arith) is (counts_on i rows (length os) chunks c) g

pub no_more :
    (k rows : ℕ) (n : Option ℕ) (os : List Opening) (first its : List FieldReading) (chunks : List ArrayTrees) (old : FieldReading) (a : ArrayTree)
    → IsUnderWay rows n os first chunks → rows_in_chunks chunks ≡ rows → AreEnded 0 k os its chunks → k < length its → old ≡ get_or its k old
    → ((o : Opening) (arrays : List ArrayTree) → IsGiving o arrays old → IsItem o (length (flat_map slots arrays)) a) → ⊥
no_more k rows n os first its chunks old a u e h lt is g =
    over_at 0 k rows n os its chunks old a u.same h lt is (subst (λ q. HasCounts 0 q (length os) chunks) e (all_counts rows n os chunks u.same u.are)) g

-- what is given behind the last row is an error
pub late :
    (k rows : ℕ) (n : Option ℕ) (os : List Opening) (first its : List FieldReading) (chunks : List ArrayTrees) (old now : FieldReading) (item : Result ArrayBox Error) (e : Error)
    → IsUnderWay rows n os first chunks → rows_in_chunks chunks ≡ rows → AreEnded 0 k os its chunks → k < length its → old ≡ get_or its k old
    → ((o : Opening) (arrays : List ArrayTree) → IsGiving o arrays old → Gives o arrays (Some item) now) → MatchResult item (λ _. e ≡ OutOfSpec S9) (λ x. e ≡ x)
    → RefusesAny os e
late k rows n os first its chunks old now (Ok a) e u same h lt is g m = absurd (no_more k rows n os first its chunks old (boxed a) u same h lt is (λ o arrays q. (g o arrays q).0))
late k rows n os first its chunks old now (Err x) e u same h lt is g m = subst (RefusesAny os) (sym m) (end_refused k x os its chunks old h lt is g)
