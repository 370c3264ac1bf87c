-- Reading trees one after the other, as a loop does.
use Rattle.std.proofs.Common.{◌≡◌, ℕ, zero, suc, ◌-◌, ◌+◌, ◌≤◌, ◌<◌, List, [], ◌∷◌, ◌++◌, length, get_or, take, drop, map, refl, sym, ap, ◌∙◌, inl, inr, arith}
use Rattle.std.specs.Prelude.{◌⊎◌, None, option_map, Result, Ok, Err}
use Rattle.std.proofs.lemmas.List.{take_all}
use Rattle.columns_base.specs.declared.error.Error.{Error}
use Rattle.columns_base.specs.declared.error.Error.TheVariants.{Memory}
use Rattle.pq_tree.specs.declared.types.ParquetType.{ParquetType}
use Rattle.pq_tree.specs.declared.types.SchemaElement.{SchemaElement}
use Rattle.pq_tree.specs.Views.{element_view, physical_view}
use Rattle.pq_tree.specs.Tree.{Element, Tree, Trees, no_trees, tree}
use Rattle.pq_tree.specs.TreeReading.{Parse, and_then, trees_with, tree_at, trees_at, node_with, group_with}
use Rattle.pq_tree.specs.TreeViews.{tree_view, trees_view}

-- what is read, with f of its trees
abbrev pub under : (Trees → Trees) → Result (Trees × List Element) Error → Result (Trees × List Element) Error
under f read = and_then read (λ x. Ok (f x.0, x.1))

abbrev pub before : List ParquetType → Trees → Trees
before [] more = more
before (t ∷ ts) more = tree (tree_view t) (before ts more)

alone : (ts : List ParquetType) → before ts no_trees ≡ trees_view ts
alone [] = refl
alone (t ∷ ts) = ap (tree (tree_view t)) (alone ts)

one_more : (ts : List ParquetType) (t : ParquetType) (more : Trees) → before (ts ++ t ∷ []) more ≡ before ts (tree (tree_view t) more)
one_more [] t more = refl
one_more (s ∷ ts) t more = ap (tree (tree_view s)) (one_more ts t more)

regroup : (front : List ParquetType) (t : ParquetType) (read : Result (Trees × List Element) Error)
    → under (before front) (and_then read (λ x. Ok (tree (tree_view t) x.0, x.1))) ≡ under (before (front ++ t ∷ [])) read
regroup front t (Ok x) = ap (λ (ts : Trees). Ok (ts, x.1)) (sym (one_more front t x.0))
regroup front t (Err e) = refl

pub begin : (read : Result (Trees × List Element) Error) → under (before []) read ≡ read
begin (Ok x) = refl
begin (Err e) = refl

pub go_on : (one : Parse Tree) (front : List ParquetType) (count i : ℕ) (es : List Element) (t : ParquetType) (after : List Element) (total : Result (Trees × List Element) Error) → i < count → one es ≡ Ok (tree_view t, after)
    → under (before front) (trees_with one (count - i) es) ≡ total → under (before (front ++ t ∷ [])) (trees_with one (count - (i + 1)) after) ≡ total
unfolding trees_with
go_on one front count i es t after total lt h so_far =
    let k : count - i ≡ suc (count - (i + 1)) = omega arith in
    let step : under (before front) (trees_with one (count - i) es) ≡ under (before (front ++ t ∷ [])) (trees_with one (count - (i + 1)) after) = rw (k, h) (regroup front t (trees_with one (count - (i + 1)) after)) in
    sym step ∙ so_far

pub fail : (e : Error) (one : Parse Tree) (front : List ParquetType) (count i : ℕ) (es : List Element) (total : Result (Trees × List Element) Error) → i < count → (e ≡ Memory) ⊎ (one es ≡ Err e)
    → under (before front) (trees_with one (count - i) es) ≡ total → (e ≡ Memory) ⊎ (total ≡ Err e)
unfolding trees_with
fail e one front count i es total lt (inl m) so_far = inl m
fail e one front count i es total lt (inr h) so_far =
    let k : count - i ≡ suc (count - (i + 1)) = omega arith in
    let step : under (before front) (trees_with one (count - i) es) ≡ Err e = rw (k, h) refl in
    inr (sym so_far ∙ step)

pub end : (one : Parse Tree) (front : List ParquetType) (count i : ℕ) (es : List Element) (total : Result (Trees × List Element) Error) → count ≤ i
    → under (before front) (trees_with one (count - i) es) ≡ total → total ≡ Ok (trees_view front, es)
unfolding trees_with
end one front count i es total le so_far =
    let k : count - i ≡ 0 = omega arith in
    let step : under (before front) (trees_with one (count - i) es) ≡ Ok (trees_view front, es) = rw k (ap (λ (ts : Trees). Ok (ts, es)) (alone front)) in
    sym so_far ∙ step

-- ---- one group

-- reading at an element without a type
pub group_step : (d : ℕ) (es : List SchemaElement) (e : SchemaElement) → 0 < d → 1 ≤ length es → e ≡ get_or es 0 e → e.physical_type ≡ None
    → tree_at d (map element_view es) ≡ group_with (trees_at (d - 1)) (element_view e) (map element_view (take (length es - 1) (drop 1 es)))
unfolding tree_at
group_step zero es e lt le is none = absurd (omega (arith, lt))
group_step (suc d) [] e lt le is none = absurd (omega (arith, le))
group_step (suc d) (x ∷ xs) e lt le is none =
    let depth : suc d - 1 ≡ d = omega arith in
    let all : take (length (x ∷ xs) - 1) xs ≡ xs = take_all (length (x ∷ xs) - 1) xs (omega arith) in
    let typed : option_map physical_view x.physical_type ≡ None = ap (λ (y : SchemaElement). option_map physical_view y.physical_type) (sym is) ∙ ap (option_map physical_view) none in
    let here : node_with (trees_at d) (option_map physical_view x.physical_type) (element_view x) (map element_view xs) ≡ group_with (trees_at d) (element_view x) (map element_view xs) = ap (λ o. node_with (trees_at d) o (element_view x) (map element_view xs)) typed in
    here
    ∙ ap (λ (y : SchemaElement). group_with (trees_at d) (element_view y) (map element_view xs)) (sym is)
    ∙ ap (λ (ys : List SchemaElement). group_with (trees_at d) (element_view e) (map element_view ys)) (sym all)
    ∙ ap (λ (k : ℕ). group_with (trees_at k) (element_view e) (map element_view (take (length (x ∷ xs) - 1) xs))) (sym depth)
