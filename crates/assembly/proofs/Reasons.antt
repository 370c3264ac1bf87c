-- Why no array of the field comes, from why no piece of a column or no array of the pieces comes.
use Rattle.std.proofs.Common.{◌≡◌, ◌⊎◌, inl, inr, ◌+◌, ◌-◌, ◌<◌, ℕ, zero, suc, Option, List, [], ◌∷◌, length, take, drop, refl, sym, ap, subst, ◌∙◌, cond, ◌&&◌, nat_le}
use Rattle.std.proofs.lemmas.List.Sums.{sum_by-cons}
use Rattle.std.specs.Prelude.{All}
use Rattle.std.specs.List.{AllZip, AllByRecursion as Each}
use Rattle.std.proofs.lemmas.List.Elements.{recursion_from_All, All-from_recursion}
use Rattle.columns_base.specs.declared.error.Error.{Error}
use Rattle.columns_base.specs.declared.error.Error.TheVariants.{Memory, OutOfSpec, NotYetImplemented, Overflow}
use Rattle.columns_base.specs.declared.error.S.TheVariants.{S3, S10}
use Rattle.columns_base.specs.declared.error.N.TheVariants.{N4, N8}
use Rattle.columns_base.specs.declared.error.V.TheVariants.{V1, V2}
use Rattle.columns_core.specs.Shapes.{shape_of, leaf_type, IsSlotOf}
use Rattle.pq_files.specs.Stored.{AreStored}
use Rattle.pq_tree.specs.Physical.{Physical}
use Rattle.shredding.specs.Local.{inside}
use Rattle.columns_core.specs.Tree.{TypeTree}
use Rattle.pq_files.specs.Chunk.{Chunk}
use Rattle.pq_files.specs.Reasons.{AnyOf}
use Rattle.pq_headline.specs.Columns.{ArrowColumn, field_columns}
use Rattle.pq_headline.specs.FieldReasons.{IsOfRows, SomeFails, HasMisplaced, SomeN4, SomeN8, SomeV1, SomeV2, Refuses, PassesLists, items_in}
use Rattle.pq_headline.specs.Openings.{Opening, HoldColumns, HasRows, piece_size}
use Rattle.pq_pages.specs.Outcomes.{Outcome, gives_page, gives_dictionary, fails}
use Rattle.pq_tree.specs.Tree.{Leaf}
use Rattle.read_nested.specs.Joined.{CannotJoin, DisagreesWith, Disagree, SomePass}
use Rattle.read_pieces.specs.Columns.{RefusesPiece, IsNextPiece}
use Rattle.read_pieces.specs.Pieces.{leaf_types}
use Rattle.shredding.proofs.Exist.{rows_exist}
use Rattle.shredding.proofs.Seen.{slots_go_along}
use Rattle.shredding.proofs.Ranges.{ways_listed}
use Rattle.shredding.specs.Along.{IsAlong}
use Rattle.shredding.specs.Shape.{LeafType, Shape, Way, IsOf, HasNoEmptyStruct, ways}
use Rattle.shredding.specs.Share.{ColumnsAgree, IsWayOf}
use Rattle.shredding.specs.Shred.{Triple, column}
use Rattle.shredding.specs.Slot.{Slot}
use Rattle.assembly.specs.Giving.{IsOpened}
use Rattle.assembly.specs.Lanes.{lanes, lanes_of, AnyRefused, AreNext}
use Rattle.assembly.proofs.Items.{AreComplete, opened_complete}
use Rattle.assembly.proofs.Trees.{direct_field, no_fixed_list}
use Rattle.pq_headline.proofs.Ways.{ways_in, ways_are}

-- ---- the rows along each way

of_map : (P : Way → Type 0) (cs : List ArrowColumn) → Each P (ways_in cs) → Each (λ c. P c.way) cs
of_map P [] h = tt
of_map P (c ∷ cs) h = (h.0, of_map P cs h.1)

-- what holds of each way of the field holds of each column
at_columns : (o : Opening) → IsOpened o → (P : Way → Type 0) → ((w : Way) → IsWayOf (shape_of o.field) w → P w) → Each (λ c. P c.way) (field_columns o.field)
at_columns o h P g =
    of_map P (field_columns o.field) (subst (Each P) (sym (ways_are o.field (direct_field o.field h.read.nodes))) (recursion_from_All P (ways (shape_of o.field)) ((ways_listed (shape_of o.field) P).1 g)))

abbrev AreAlong : List Slot → Way → Type 0
AreAlong rows w = All (IsAlong w) rows

along_each : (f : Shape) (rows : List Slot) → Each (IsOf f) rows → (w : Way) → IsWayOf f w → Each (IsAlong w) rows
along_each f [] h w is = tt
along_each f (s ∷ rows) h w is = ((ways_listed f (λ v. IsAlong v s)).0 (slots_go_along f s h.0) w is, along_each f rows h.1 w is)

pub columns_along : (o : Opening) → IsOpened o → (rows : List Slot) → All (IsSlotOf o.field) rows → Each (λ c. AreAlong rows c.way) (field_columns o.field)
columns_along o h rows are =
    at_columns o h (AreAlong rows) (λ w is. All-from_recursion (IsAlong w) rows (along_each (shape_of o.field) rows (recursion_from_All (IsSlotOf o.field) rows are) w is))

pub columns_listed : (o : Opening) → IsOpened o → Each (λ c. IsWayOf (shape_of o.field) c.way) (field_columns o.field)
columns_listed o h = at_columns o h (IsWayOf (shape_of o.field)) (λ w is. is)

-- ---- a piece is refused

-- no rows of so many are held by all columns
abbrev NoneHold : ℕ → List ArrowColumn → List Leaf → List (List Outcome) → Type 0
NoneHold n cs ls others = (rows : List Slot) (chunks : List Chunk) → length rows ≡ n → Each (λ c. AreAlong rows c.way) cs → HoldColumns rows cs ls others chunks → ⊥

abbrev Found : Option ℕ → ℕ → Error → List ArrowColumn → List Leaf → List (List Outcome) → Type 0
Found k n e cs ls others =
    (e ≡ Memory)
    ⊎ (((e ≡ OutOfSpec S3) ⊎ (e ≡ NotYetImplemented N4)) × SomeFails e others)
    ⊎ ((e ≡ OutOfSpec S3) × AnyOf HasMisplaced others)
    ⊎ ((e ≡ NotYetImplemented N4) × SomeN4 cs ls others)
    ⊎ ((e ≡ NotYetImplemented N8) × SomeN8 ls others)
    ⊎ (((e ≡ Overflow V1) × SomeV1 k cs ls others) ⊎ ((e ≡ Overflow V2) × SomeV2 cs others))
    ⊎ (IsOfRows e × NoneHold n cs ls others)

-- more entries than keys, of the first column or of one behind it
first_keys : (c : ArrowColumn) (os : List Outcome) (cs : List ArrowColumn) (others : List (List Outcome)) → SomeV2 (c ∷ []) (os ∷ []) → SomeV2 (c ∷ cs) (os ∷ others)
first_keys c [] cs others h = absurd h
first_keys c (gives_page p levels ∷ os) cs others h = absurd h
first_keys c (gives_dictionary n body ∷ os) cs others (inl h) = inl h
first_keys c (gives_dictionary n body ∷ os) cs others (inr h) = absurd h
first_keys c (fails e ∷ os) cs others h = absurd h

other_keys : (c : ArrowColumn) (os : List Outcome) (cs : List ArrowColumn) (others : List (List Outcome)) → SomeV2 cs others → SomeV2 (c ∷ cs) (os ∷ others)
other_keys c [] cs others h = h
other_keys c (gives_page p levels ∷ os) cs others h = h
other_keys c (gives_dictionary n body ∷ os) cs others h = inr h
other_keys c (fails e ∷ os) cs others h = h

here :
    (k : Option ℕ) (n : ℕ) (e : Error) (c : ArrowColumn) (l : Leaf) (os : List Outcome) (cs : List ArrowColumn) (ls : List Leaf) (others : List (List Outcome))
    → RefusesPiece (record { column = c; leaf = l; outcomes = os; rows = n; chunk_size = k }) e → Found k n e (c ∷ cs) (l ∷ ls) (os ∷ others)
here k n e c l os cs ls others (inl m) = inl m
here k n e c l os cs ls others (inr (inl h)) = inr (inl (h.0, inl h.1))
here k n e c l os cs ls others (inr (inr (inl h))) = inr (inr (inl (h.0, inl h.1)))
here k n e c l os cs ls others (inr (inr (inr (inl h)))) = inr (inr (inr (inl (h.0, inl h.1))))
here k n e c l os cs ls others (inr (inr (inr (inr (inl h))))) = inr (inr (inr (inr (inl (h.0, inl h.1)))))
here k n e c l os cs ls others (inr (inr (inr (inr (inr (inl (inl h))))))) = inr (inr (inr (inr (inr (inl (inl (h.0, inl h.1)))))))
here k n e c l os cs ls others (inr (inr (inr (inr (inr (inl (inr h))))))) = inr (inr (inr (inr (inr (inl (inr (h.0, first_keys c os cs others h.1)))))))
here k n e c l os cs ls others (inr (inr (inr (inr (inr (inr h)))))) = inr (inr (inr (inr (inr (inr (h.0, none))))))
  where
    none : NoneHold n (c ∷ cs) (l ∷ ls) (os ∷ others)
    none rows [] count along hold = absurd hold
    none rows (q ∷ chunks) count along hold = h.1 rows (record { along = along.0; count = count; chunk = q; holds = hold.0 })

there :
    (k : Option ℕ) (n : ℕ) (e : Error) (c : ArrowColumn) (l : Leaf) (os : List Outcome) (cs : List ArrowColumn) (ls : List Leaf) (others : List (List Outcome))
    → Found k n e cs ls others → Found k n e (c ∷ cs) (l ∷ ls) (os ∷ others)
there k n e c l os cs ls others (inl m) = inl m
there k n e c l os cs ls others (inr (inl h)) = inr (inl (h.0, inr h.1))
there k n e c l os cs ls others (inr (inr (inl h))) = inr (inr (inl (h.0, inr h.1)))
there k n e c l os cs ls others (inr (inr (inr (inl h)))) = inr (inr (inr (inl (h.0, inr h.1))))
there k n e c l os cs ls others (inr (inr (inr (inr (inl h))))) = inr (inr (inr (inr (inl (h.0, inr h.1)))))
there k n e c l os cs ls others (inr (inr (inr (inr (inr (inl (inl h))))))) = inr (inr (inr (inr (inr (inl (inl (h.0, inr h.1)))))))
there k n e c l os cs ls others (inr (inr (inr (inr (inr (inl (inr h))))))) = inr (inr (inr (inr (inr (inl (inr (h.0, other_keys c os cs others h.1)))))))
there k n e c l os cs ls others (inr (inr (inr (inr (inr (inr h)))))) = inr (inr (inr (inr (inr (inr (h.0, none))))))
  where
    none : NoneHold n (c ∷ cs) (l ∷ ls) (os ∷ others)
    none rows [] count along hold = absurd hold
    none rows (q ∷ chunks) count along hold = h.1 rows chunks count along.1 hold.1

found :
    (k : Option ℕ) (n : ℕ) (e : Error) (cs : List ArrowColumn) (types : List TypeTree) (ls : List Leaf) (others : List (List Outcome))
    → AnyOf (λ x. RefusesPiece x.opening e) (lanes n k cs types ls others) → Found k n e cs ls others
found k n e [] types ls others h = absurd h
found k n e (c ∷ cs) [] ls others h = absurd h
found k n e (c ∷ cs) (t ∷ types) [] others h = absurd h
found k n e (c ∷ cs) (t ∷ types) (l ∷ ls) [] h = absurd h
found k n e (c ∷ cs) (t ∷ types) (l ∷ ls) (os ∷ others) (inl h) = here k n e c l os cs ls others h
found k n e (c ∷ cs) (t ∷ types) (l ∷ ls) (os ∷ others) (inr h) = there k n e c l os cs ls others (found k n e cs types ls others h)

refuses : (o : Opening) → IsOpened o → (e : Error) → Found o.chunk_size o.rows e (field_columns o.field) o.leaves o.outcomes → Refuses o e
refuses o h e (inl m) = inl m
refuses o h e (inr (inl f)) = inr (inl f)
refuses o h e (inr (inr (inl f))) = inr (inr (inl f))
refuses o h e (inr (inr (inr (inl f)))) = inr (inr (inr (inl f)))
refuses o h e (inr (inr (inr (inr (inl f))))) = inr (inr (inr (inr (inl f))))
refuses o h e (inr (inr (inr (inr (inr (inl f)))))) = inr (inr (inr (inr (inr (inl f)))))
refuses o h e (inr (inr (inr (inr (inr (inr f)))))) =
    inr (inr (inr (inr (inr (inr (f.0, λ (r : HasRows o). f.1 r.0 r.1 r.3 (columns_along o h r.0 r.2) r.4))))))

pub refused : (o : Opening) → IsOpened o → (e : Error) → AnyRefused (lanes_of o) e → Refuses o e
refused o h e (inl m) = inl m
refused o h e (inr f) = refuses o h e (found o.chunk_size o.rows e (field_columns o.field) (leaf_types o.field) o.leaves o.outcomes f)

-- ---- the pieces are not joined

-- the pieces are the columns of the same rows
abbrev AreOfRows : List Slot → List ArrowColumn → List (List Triple) → Type 0
AreOfRows rows cs table = AllZip (λ c ts. ts ≡ column c.way rows) cs table

first_is :
    (before n : ℕ) (k : Option ℕ) (rows : List Slot) (c : ArrowColumn) (l : Leaf) (os : List Outcome) (q : Chunk) (ts : List Triple)
    → IsNextPiece (record { column = c; leaf = l; outcomes = os; rows = n; chunk_size = k }) before ts → length rows ≡ n → AreAlong rows c.way → HoldColumns rows (c ∷ []) (l ∷ []) (os ∷ []) (q ∷ [])
    → ts ≡ column c.way (take (piece_size k (n - before)) (drop before rows))
first_is before n k rows c l os q ts next count along hold =
    next.only rows (record { along = along; count = count; chunk = q; holds = hold.0 }) ∙ ap (λ m. column c.way (take m (drop before rows))) next.count

of_rows :
    (before n : ℕ) (k : Option ℕ) (rows : List Slot) (cs : List ArrowColumn) (types : List TypeTree) (ls : List Leaf) (others : List (List Outcome)) (chunks : List Chunk) (table : List (List Triple))
    → AreComplete cs types ls others → AreNext before (lanes n k cs types ls others) table → length rows ≡ n → Each (λ c. AreAlong rows c.way) cs → HoldColumns rows cs ls others chunks
    → AreOfRows (take (piece_size k (n - before)) (drop before rows)) cs table
of_rows before n k rows [] [] [] [] chunks [] z next count along hold = tt
of_rows before n k rows [] [] [] [] chunks (ts ∷ table) z next count along hold = absurd next
of_rows before n k rows [] [] [] (os ∷ others) chunks table z next count along hold = absurd z
of_rows before n k rows [] [] (l ∷ ls) others chunks table z next count along hold = absurd z
of_rows before n k rows [] (t ∷ types) ls others chunks table z next count along hold = absurd z
of_rows before n k rows (c ∷ cs) [] ls others chunks table z next count along hold = absurd z
of_rows before n k rows (c ∷ cs) (t ∷ types) [] others chunks table z next count along hold = absurd z
of_rows before n k rows (c ∷ cs) (t ∷ types) (l ∷ ls) [] chunks table z next count along hold = absurd z
of_rows before n k rows (c ∷ cs) (t ∷ types) (l ∷ ls) (os ∷ others) [] table z next count along hold = absurd hold
of_rows before n k rows (c ∷ cs) (t ∷ types) (l ∷ ls) (os ∷ others) (q ∷ chunks) [] z next count along hold = absurd next
of_rows before n k rows (c ∷ cs) (t ∷ types) (l ∷ ls) (os ∷ others) (q ∷ chunks) (ts ∷ table) z next count along hold =
    (first_is before n k rows c l os q ts next.0 count along.0 (hold.0, tt), of_rows before n k rows cs types ls others chunks table z next.1 count along.1 hold.1)

each_take : {A : Type 0} (P : A → Type 0) (n : ℕ) (xs : List A) → Each P xs → Each P (take n xs)
each_take P zero xs h = tt
each_take P (suc n) [] h = tt
each_take P (suc n) (x ∷ xs) h = (h.0, each_take P n xs h.1)

each_drop : {A : Type 0} (P : A → Type 0) (n : ℕ) (xs : List A) → Each P xs → Each P (drop n xs)
each_drop P zero xs h = h
each_drop P (suc n) [] h = tt
each_drop P (suc n) (x ∷ xs) h = each_drop P n xs h.1

agree : (f : Shape) (rows : List Slot) → HasNoEmptyStruct f → All (IsOf f) rows → (w v : Way) → IsWayOf f w → IsWayOf f v → ColumnsAgree w v (column w rows) (column v rows)
agree f rows h are w v is iv = ((rows_exist f (λ x. column x rows) h).1 (rows, are, refl)).agree w v is iv

agree_with :
    (f : Shape) (rows : List Slot) → HasNoEmptyStruct f → All (IsOf f) rows → (c : ArrowColumn) (ts : List Triple) → ts ≡ column c.way rows → IsWayOf f c.way
    → (cs : List ArrowColumn) (table : List (List Triple)) → AreOfRows rows cs table → Each (λ d. IsWayOf f d.way) cs → DisagreesWith c ts cs table → ⊥
agree_with f rows h are c ts e is [] table z all d = d
agree_with f rows h are c ts e is (k ∷ cs) [] z all d = z
agree_with f rows h are c ts e is (k ∷ cs) (us ∷ table) z all (inl d) =
    d (subst (λ q. ColumnsAgree c.way k.way q us) (sym e) (subst (λ q. ColumnsAgree c.way k.way (column c.way rows) q) (sym z.0) (agree f rows h are c.way k.way is all.0)))
agree_with f rows h are c ts e is (k ∷ cs) (us ∷ table) z all (inr d) = agree_with f rows h are c ts e is cs table z.1 all.1 d

all_agree :
    (f : Shape) (rows : List Slot) → HasNoEmptyStruct f → All (IsOf f) rows → (cs : List ArrowColumn) (table : List (List Triple)) → AreOfRows rows cs table → Each (λ d. IsWayOf f d.way) cs → Disagree cs table → ⊥
all_agree f rows h are [] table z all d = d
all_agree f rows h are (c ∷ cs) [] z all d = z
all_agree f rows h are (c ∷ cs) (ts ∷ table) z all (inl d) = agree_with f rows h are c ts z.0 all.0 cs table z.1 all.1 d
all_agree f rows h are (c ∷ cs) (ts ∷ table) z all (inr d) = all_agree f rows h are cs table z.1 all.1 d

abbrev begins_item : Way → ℕ → Triple → ℕ
begins_item w r t = cond (nat_le t.repetition r && nat_le (inside w r) t.definition) 1 0

-- lists are counted by levels alone
stored_items : (t : LeafType) (p : Physical) (xs ys : List Triple) → AreStored t p xs ys → (w : Way) (r : ℕ) → items_in w r ys ≡ items_in w r xs
stored_items t p [] [] h w r = refl
stored_items t p [] (y ∷ ys) h w r = absurd h
stored_items t p (x ∷ xs) [] h w r = absurd h
stored_items t p (x ∷ xs) (y ∷ ys) h w r =
    sum_by-cons (begins_item w r) y ys
    ∙ ap (λ k. cond (nat_le k r && nat_le (inside w r) y.definition) 1 0 + items_in w r ys) h.0.repetition
    ∙ ap (λ k. cond (nat_le x.repetition r && nat_le (inside w r) k) 1 0 + items_in w r ys) h.0.definition
    ∙ ap (λ k. begins_item w r x + k) (stored_items t p xs ys h.1 w r)
    ∙ sym (sum_by-cons (begins_item w r) x xs)

stored_passes : (t : LeafType) (p : Physical) (xs ys : List Triple) → AreStored t p xs ys → (w : Way) (r : ℕ) (limits : List ℕ) → PassesLists w r limits xs → PassesLists w r limits ys
stored_passes t p xs ys h w r [] q = q
stored_passes t p xs ys h w r (limit ∷ limits) (inl q) = inl (subst (λ k. limit < k) (sym (stored_items t p xs ys h w r)) q)
stored_passes t p xs ys h w r (limit ∷ limits) (inr q) = inr (stored_passes t p xs ys h w (suc r) limits q)

passes :
    (before n : ℕ) (k : Option ℕ) (cs : List ArrowColumn) (types : List TypeTree) (ls : List Leaf) (others : List (List Outcome)) (table : List (List Triple))
    → AreComplete cs types ls others → AreNext before (lanes n k cs types ls others) table → SomePass cs table → SomeV1 k cs ls others
passes before n k [] types ls others table z next p = absurd p
passes before n k (c ∷ cs) [] ls others table z next p = absurd z
passes before n k (c ∷ cs) (t ∷ types) [] others table z next p = absurd z
passes before n k (c ∷ cs) (t ∷ types) (l ∷ ls) [] table z next p = absurd z
passes before n k (c ∷ cs) (t ∷ types) (l ∷ ls) (os ∷ others) [] z next p = absurd p
passes before n k (c ∷ cs) (t ∷ types) (l ∷ ls) (os ∷ others) (ts ∷ table) z next (inl p) =
    inl (inl (record { entries = next.0.entries; triples = next.0.triples; reads = next.0.reads; piece = next.0.stored; is_piece = next.0.part; passes = inl (stored_passes (leaf_type c.data_type) l.physical ts next.0.stored next.0.are c.way 1 c.limits p) }))
passes before n k (c ∷ cs) (t ∷ types) (l ∷ ls) (os ∷ others) (ts ∷ table) z next (inr p) = inr (passes before n k cs types ls others table z next.1 p)

pub not_joined : (o : Opening) (before : ℕ) (table : List (List Triple)) → IsOpened o → AreNext before (lanes_of o) table → (e : Error) → CannotJoin o.field table e → Refuses o e
not_joined o before table h next e (inl m) = inl m
not_joined o before table h next e (inr (inl d)) = inr (inr (inr (inr (inr (inr (of_s10 e d.0, none))))))
  where
    none : HasRows o → ⊥
    none r =
        let part = take (piece_size o.chunk_size (o.rows - before)) (drop before r.0) in
        let are = of_rows before o.rows o.chunk_size r.0 (field_columns o.field) (leaf_types o.field) o.leaves o.outcomes r.1 table (opened_complete o h) next r.3 (columns_along o h r.0 r.2) r.4 in
        all_agree (shape_of o.field) part h.alike.structs (All-from_recursion (IsSlotOf o.field) part (each_take (IsSlotOf o.field) (piece_size o.chunk_size (o.rows - before)) (drop before r.0) (each_drop (IsSlotOf o.field) before r.0 (recursion_from_All (IsSlotOf o.field) r.0 r.2)))) (field_columns o.field) table are (columns_listed o h) d.1

    of_s10 : (e : Error) → e ≡ OutOfSpec S10 → IsOfRows e
    of_s10 e q = inr (inr (inr (inr (inr q))))
not_joined o before table h next e (inr (inr (inl p))) =
    inr (inr (inr (inr (inr (inl (inl (p.0, passes before o.rows o.chunk_size (field_columns o.field) (leaf_types o.field) o.leaves o.outcomes table (opened_complete o h) next p.1)))))))
not_joined o before table h next e (inr (inr (inr n))) = absurd (no_fixed_list o.field h.read.nodes n.1)
