-- The children of a struct, one after another.
use Rattle.std.proofs.Common.{◌≡◌, ◌⊎◌, ℕ, ◌+◌, ◌-◌, ◌<◌, ◌≤◌, Option, Some, None, option_map, MatchOption, List, [], ◌∷◌, ◌++◌, length, take, drop, get_or, refl, arith, ap, sym, ◌∙◌, subst, inl, inr, add-one, drop-cons, length-drop, Bool, true, Result, IfErr, Box, Global, rules}
use Rattle.std.proofs.lemmas.Result.{IfErr-weaker}
use Rattle.std.proofs.lemmas.List.{take_all, drop_all}
use Rattle.columns_core.specs.View.{type_view, field_view, fields_view}
use Rattle.columns_core.specs.declared.types.DataType.{Map, the_lemmas}
use Rattle.columns_core.specs.declared.types.Field.{Field}
use Rattle.columns_base.specs.declared.error.Error.{Error}
use Rattle.columns_base.specs.declared.error.Error.TheVariants.{Memory, OutOfSpec}
use Rattle.columns_base.specs.declared.error.S.TheVariants.{S10}
use Rattle.columns_core.specs.Tree.{TypeTree, t_map, FieldTree, FieldTrees, no_fields, more_fields}
use Rattle.columns_slots.specs.Tree.{ArrayTree, ArrayTrees, no_arrays, more_arrays}
use Rattle.columns_array.specs.Boxed.{boxed, all_boxed}
use Rattle.columns_array.specs.declared.arrays.ArrayBox.{ArrayBox}
use Rattle.read_laws.specs.State.{Kept}
use Rattle.read_state.specs.Kinds.{kept_box}
use Rattle.read_state.specs.declared.boxes.NestedBox.{NestedBox}
use Rattle.read_pieces.specs.declared.piece.ColumnPiece.{ColumnPiece}
use Rattle.read_nested.specs.Builds.{joined, Fails, BuildsField, BuildsAll, FailsAll, FailsOthers}
use Rattle.read_nested.specs.Made.{innermost, IsPopped}
use Rattle.read_nested.proofs.Stood.{innermost-end}

pub boxed_more : (bs : List ArrayBox) (b : ArrayBox) → all_boxed (bs ++ b ∷ []) ≡ joined (all_boxed bs) (more_arrays (boxed b) no_arrays)
boxed_more [] b = refl
boxed_more (c ∷ bs) b = ap (more_arrays (boxed c)) (boxed_more bs b)

-- ---- the part that is taken
pub popped : (o : Option NestedBox) (old new : List Kept) → MatchOption o ((old ≡ []) × (new ≡ [])) (λ part. old ≡ new ++ kept_box part ∷ []) → (option_map kept_box o ≡ innermost old) × IsPopped old new
popped None old new h =
    let e : innermost old ≡ None = ap innermost h.0 in
    let P : Option Kept → Type 0 = λ v. MatchOption v ((old ≡ []) × (new ≡ [])) (λ part. old ≡ new ++ part ∷ []) in
    (sym e, subst P (sym e) h)
popped (Some b) old new h =
    let e : innermost old ≡ Some (kept_box b) = ap innermost h ∙ innermost-end new (kept_box b) in
    let P : Option Kept → Type 0 = λ v. MatchOption v ((old ≡ []) × (new ≡ [])) (λ part. old ≡ new ++ part ∷ []) in
    (sym e, subst P (sym e) h)

-- ---- children one by one
joined-none : (cs : ArrayTrees) → joined cs no_arrays ≡ cs
joined-none no_arrays = refl
joined-none (more_arrays c cs) = ap (more_arrays c) (joined-none cs)

joined-joined : (xs bs cs : ArrayTrees) → joined (joined xs bs) cs ≡ joined xs (joined bs cs)
joined-joined no_arrays bs cs = refl
joined-joined (more_arrays a xs) bs cs = ap (more_arrays a) (joined-joined xs bs cs)

-- some of the fields are done, the arrays behind the first ones are theirs, and what comes of the rest comes of all
pub record IsDone (front : List Kept) (all rest : FieldTrees) (start now : List ColumnPiece) (first made : ArrayTrees) : Type 0 where
  pub done : ArrayTrees
  pub arrays_are : made ≡ joined first done
  pub built : (left : List ColumnPiece) (more : ArrayTrees) → BuildsAll rest now left more front → BuildsAll all start left (joined done more) front
  pub fails : (e : Error) → FailsOthers front rest now e → FailsOthers front all start e

pub none-done : (front : List Kept) (all : FieldTrees) (start : List ColumnPiece) (first : ArrayTrees) → IsDone front all all start start first first
none-done front all start first = record { done = no_arrays; arrays_are = sym (joined-none first); built = λ left more h. h; fails = λ e h. h }

pub one-done : (front other : List Kept) (all rest : FieldTrees) (f : FieldTree) (start now behind : List ColumnPiece) (first made made' : ArrayTrees) (a : ArrayTree) → IsDone front all (more_fields f rest) start now first made → BuildsField f now behind a other → other ≡ front → made' ≡ joined made (more_arrays a no_arrays) → IsDone front all rest start behind first made'
one-done front other all rest f start now behind first made made' a d b e q =
    let B : List Kept → Type 0 = λ ks. BuildsField f now behind a ks in
    let b' : B front = subst B e b in
    record {
      done = joined d.done (more_arrays a no_arrays);
      arrays_are = q ∙ ap (λ cs. joined cs (more_arrays a no_arrays)) d.arrays_are ∙ joined-joined first d.done (more_arrays a no_arrays);
      built = λ left more h.
          let P : ArrayTrees → Type 0 = λ cs. BuildsAll all start left cs front in
          subst P (sym (joined-joined d.done (more_arrays a no_arrays) more)) (d.built left (more_arrays a more) (behind, a, more, b', h, refl));
      fails = λ e h. d.fails e (inr (inr (behind, a, front, b', inr (refl, h))));
    }

pub all-done : (front : List Kept) (f : FieldTree) (all : FieldTrees) (pieces start now : List ColumnPiece) (a : ArrayTree) (made : ArrayTrees) → BuildsField f pieces start a front → IsDone front all no_fields start now (more_arrays a no_arrays) made → BuildsAll (more_fields f all) pieces now made front
all-done front f all pieces start now a made b d =
    let P : ArrayTrees → Type 0 = λ cs. BuildsAll all start now cs front in
    (start, a, d.done, b, subst P (joined-none d.done) (d.built now no_arrays (refl, refl)), d.arrays_are)

pub one-fails : (front : List Kept) (f g : FieldTree) (all rest : FieldTrees) (pieces start now : List ColumnPiece) (a : ArrayTree) (first made : ArrayTrees) (e : Error) → BuildsField f pieces start a front → IsDone front all (more_fields g rest) start now first made → FailsOthers front (more_fields g rest) now e → FailsAll (more_fields f all) pieces e
one-fails front f g all rest pieces start now a first made e b d h = inr (inr (start, a, front, b, d.fails e h))

-- ---- the same over fields in memory
rest-at : (fs : List Field) (i : ℕ) (y : Field) → i < length fs → y ≡ get_or fs i y → fields_view (drop i fs) ≡ more_fields (field_view y) (fields_view (drop (i + 1) fs))
rest-at fs i y h e =
    let cut : drop i fs ≡ get_or fs i y ∷ drop (i + 1) fs = rw (add-one) (drop-cons fs i y h) in
    let cut' : drop i fs ≡ y ∷ drop (i + 1) fs = cut ∙ ap (λ z. z ∷ drop (i + 1) fs) (sym e) in
    ap fields_view cut'

split-fields : (fs : List Field) (x : Field) → 1 ≤ length fs → x ≡ get_or fs 0 x → fields_view fs ≡ more_fields (field_view x) (fields_view (take (length fs - 1) (drop 1 fs)))
split-fields fs x h e =
    let all : fields_view (drop 0 fs) ≡ more_fields (field_view x) (fields_view (drop (0 + 1) fs)) = rest-at fs 0 x (omega (arith, h)) e in
    let len : length (drop 1 fs) ≤ length fs - 1 = omega (arith, length-drop 1 fs) in
    let rest : take (length fs - 1) (drop 1 fs) ≡ drop 1 fs = take_all (length fs - 1) (drop 1 fs) len in
    all ∙ ap (λ gs. more_fields (field_view x) (fields_view gs)) (sym rest)

pub next-done : (front other : List Kept) (fs : List Field) (i : ℕ) (y : Field) (all : FieldTrees) (start now behind : List ColumnPiece) (first made made' : ArrayTrees) (a : ArrayTree) → i < length fs → y ≡ get_or fs i y → IsDone front all (fields_view (drop i fs)) start now first made → BuildsField (field_view y) now behind a other → other ≡ front → made' ≡ joined made (more_arrays a no_arrays) → IsDone front all (fields_view (drop (i + 1) fs)) start behind first made'
next-done front other fs i y all start now behind first made made' a h e d b same q =
    let D : FieldTrees → Type 0 = λ rest. IsDone front all rest start now first made in
    one-done front other all (fields_view (drop (i + 1) fs)) (field_view y) start now behind first made made' a (subst D (rest-at fs i y h e) d) b same q

pub end-done : (fs : List Field) (x : Field) (i : ℕ) (pieces start now : List ColumnPiece) (a : ArrayTree) (pn front last : List Kept) (first made : ArrayTrees) → 1 ≤ length fs → x ≡ get_or fs 0 x → length (take (length fs - 1) (drop 1 fs)) ≤ i → BuildsField (field_view x) pieces start a pn → (first ≡ more_arrays a no_arrays) × (front ≡ pn) → IsDone front (fields_view (take (length fs - 1) (drop 1 fs))) (fields_view (drop i (take (length fs - 1) (drop 1 fs)))) start now first made → last ≡ front → BuildsAll (fields_view fs) pieces now made last
end-done fs x i pieces start now a pn front last first made h e past b made-first d same =
    let others : List Field = take (length fs - 1) (drop 1 fs) in
    let none : fields_view (drop i others) ≡ no_fields = ap fields_view (drop_all i others past) in
    let D : FieldTrees → Type 0 = λ rest. IsDone front (fields_view others) rest start now first made in
    let E : ArrayTrees → Type 0 = λ cs. IsDone front (fields_view others) no_fields start now cs made in
    let B : List Kept → Type 0 = λ ks. BuildsField (field_view x) pieces start a ks in
    let whole = all-done front (field_view x) (fields_view others) pieces start now a made (subst B (sym made-first.1) b) (subst E made-first.0 (subst D none d)) in
    let F : FieldTrees → Type 0 = λ gs. BuildsAll gs pieces now made front in
    let L : List Kept → Type 0 = λ ks. BuildsAll (fields_view fs) pieces now made ks in
    subst L (sym same) (subst F (sym (split-fields fs x h e)) whole)

pub fail-done : (fs : List Field) (x y : Field) (i : ℕ) (pieces start now : List ColumnPiece) (a : ArrayTree) (pn front : List Kept) (first made : ArrayTrees) (e : Error) → 1 ≤ length fs → x ≡ get_or fs 0 x → i < length (take (length fs - 1) (drop 1 fs)) → y ≡ get_or (take (length fs - 1) (drop 1 fs)) i y → BuildsField (field_view x) pieces start a pn → (first ≡ more_arrays a no_arrays) × (front ≡ pn) → IsDone front (fields_view (take (length fs - 1) (drop 1 fs))) (fields_view (drop i (take (length fs - 1) (drop 1 fs)))) start now first made →
    FailsOthers front (more_fields (field_view y) (fields_view (drop (i + 1) (take (length fs - 1) (drop 1 fs))))) now e → FailsAll (fields_view fs) pieces e
fail-done fs x y i pieces start now a pn front first made e h is l at b made-first d fails =
    let others : List Field = take (length fs - 1) (drop 1 fs) in
    let D : FieldTrees → Type 0 = λ rest. IsDone front (fields_view others) rest start now first made in
    let B : List Kept → Type 0 = λ ks. BuildsField (field_view x) pieces start a ks in
    let F : FieldTrees → Type 0 = λ gs. FailsAll gs pieces e in
    subst F (sym (split-fields fs x h is)) (one-fails front (field_view x) (field_view y) (fields_view others) (fields_view (drop (i + 1) others)) pieces start now a first made e (subst B (sym made-first.1) b) (subst D (rest-at others i y l at) d) fails)

-- one more child was refused
pub add-fails : (front : List Kept) (f : FieldTree) (rest : FieldTrees) (now behind : List ColumnPiece) (a : ArrayTree) (other old : List Kept) (e : Error) → BuildsField f now behind a other → old ≡ front → (e ≡ Memory) ⊎ ((e ≡ OutOfSpec S10) × ¬ (other ≡ old)) → FailsOthers front (more_fields f rest) now e
add-fails front f rest now behind a other old e b same h = elim h [
  | inl m ↦ inl m
  | inr s ↦ inr (inr (behind, a, other, b, inl (s.0, λ q. s.1 (q ∙ sym same))))
]

-- whether a map's keys are sorted makes no difference
pub map-fails : {X : Type 0} (own u : TypeTree) (f g : FieldTree) (sorted : Bool) (pieces : List ColumnPiece) (r : Result X Error) → u ≡ t_map g sorted → f ≡ g → IfErr r (Fails own (t_map f true) pieces) → IfErr r (Fails own u pieces)
map-fails own u f g sorted pieces r e q h =
    IfErr-weaker r (Fails own (t_map f true) pieces) (Fails own u pieces)
    (λ x k.
    let P : FieldTree → Type 0 = λ a. Fails own (t_map a sorted) pieces x in
    let Q : TypeTree → Type 0 = λ a. Fails own a pieces x in
    subst Q (sym e) (subst P q k))
    h

pub map-view : (entry : Box Field Global) (sorted : Bool) → type_view (Map entry sorted) ≡ t_map (field_view entry.value) sorted
map-view entry sorted = search (rules, the_lemmas)
