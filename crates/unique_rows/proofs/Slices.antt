-- The rows of one array, told from the front of a column.
use Rattle.std.proofs.Common.{◌≡◌, ◌+◌, ◌<◌, ℕ, zero, suc, Bool, true, false, ◌&&◌, cond, nat_le, List, [], ◌∷◌, ◌++◌, length, map, take, drop, take-append-drop, append-nil, refl, sym, ap, subst, ◌∙◌, inl, inr, arith}
use Rattle.std.specs.Prelude.{sum_by}
use Rattle.std.proofs.lemmas.Grind.{flat_map-append}
use Rattle.std.proofs.lemmas.List.{drop_at, length-map, map-append}
use Rattle.std.proofs.lemmas.List.Elements.{filter_map-append}
use Rattle.std.proofs.lemmas.List.Sums.{sum_by-append, sum_by-cons}
use Rattle.shredding.proofs.FirstRows.{first_rows_are_columns}
use Rattle.shredding.specs.Laws.{first_rows, starts_row}
use Rattle.shredding.specs.Local.{inside}
use Rattle.shredding.specs.Shape.{Way, in_struct}
use Rattle.shredding.specs.Shred.{Triple, column}
use Rattle.shredding.specs.Slot.{Slot}
use Rattle.columns_core.specs.Tree.{TypeTree, t_binary, t_large_binary, t_large_utf8, t_utf8}
use Rattle.pq_files.specs.Page.{values_in}
use Rattle.pq_files.specs.RowReasons.{without_value}
use Rattle.pq_headline.specs.FieldReasons.{PassesLists, PassesTexts, items_in, rows_behind, text_size}

-- ---- the first rows of a front are the front of the first rows

record Longer (xs ys : List Triple) : Type 0 where
  pub more : List Triple
  pub parts : ys ≡ xs ++ more

put : (t : Triple) (xs ys : List Triple) → Longer xs ys → Longer (t ∷ xs) (t ∷ ys)
put t xs ys l = record { more = l.more; parts = ap (λ zs. t ∷ zs) l.parts }

first_longer : (k : ℕ) (a b : List Triple) → Longer (first_rows k a) (first_rows k (a ++ b))
first_longer k [] b = record { more = first_rows k b; parts = refl }
first_longer zero (t ∷ a) b = by (starts_row t) (first_longer zero a b)
  where
    by : (s : Bool) → Longer (first_rows zero a) (first_rows zero (a ++ b)) → Longer (cond s [] (t ∷ first_rows zero a)) (cond s [] (t ∷ first_rows zero (a ++ b)))
    by true l = record { more = []; parts = refl }
    by false l = put t (first_rows zero a) (first_rows zero (a ++ b)) l
first_longer (suc k) (t ∷ a) b = put t _ _ (by (starts_row t) (first_longer k a b) (first_longer (suc k) a b))
  where
    by : (s : Bool) → Longer (first_rows k a) (first_rows k (a ++ b)) → Longer (first_rows (suc k) a) (first_rows (suc k) (a ++ b)) → Longer (first_rows (cond s k (suc k)) a) (first_rows (cond s k (suc k)) (a ++ b))
    by true l m = l
    by false l m = m

-- what lies behind the first rows
abbrev rest_of : ℕ → List Triple → List Triple
rest_of k ts = drop (length (first_rows k ts)) ts

rest_longer : (k : ℕ) (a b : List Triple) → Longer (rest_of k a) (rest_of k (a ++ b))
rest_longer k [] b = record { more = rest_of k b; parts = refl }
rest_longer zero (t ∷ a) b = by (starts_row t) (rest_longer zero a b)
  where
    by : (s : Bool) → Longer (rest_of zero a) (rest_of zero (a ++ b)) → Longer (drop (length (cond s [] (t ∷ first_rows zero a))) (t ∷ a)) (drop (length (cond s [] (t ∷ first_rows zero (a ++ b)))) (t ∷ (a ++ b)))
    by true l = record { more = b; parts = refl }
    by false l = l
rest_longer (suc k) (t ∷ a) b = by (starts_row t) (rest_longer k a b) (rest_longer (suc k) a b)
  where
    by : (s : Bool) → Longer (rest_of k a) (rest_of k (a ++ b)) → Longer (rest_of (suc k) a) (rest_of (suc k) (a ++ b)) → Longer (rest_of (cond s k (suc k)) a) (rest_of (cond s k (suc k)) (a ++ b))
    by true l m = l
    by false l m = m

behind_longer : (before n : ℕ) (a b : List Triple) → Longer (rows_behind before n a) (rows_behind before n (a ++ b))
behind_longer before n a b =
    let rest = rest_longer before a b in
    let first = first_longer n (rest_of before a) rest.more in
    record { more = first.more; parts = ap (first_rows n) rest.parts ∙ first.parts }

-- ---- of a whole column they are the column of these rows

first_are : (w : Way) (rows : List Slot) (k : ℕ) → first_rows k (column w rows) ≡ column w (take k rows)
first_are w rows k = first_rows_are_columns w rows (column w rows) [] k (sym (append-nil (column w rows))) (inr refl)

behind_are : (w : Way) (rows : List Slot) (before n : ℕ) → rows_behind before n (column w rows) ≡ column w (take n (drop before rows))
behind_are w rows before n =
    let split : column w rows ≡ column w (take before rows) ++ column w (drop before rows) = ap (column w) (sym (take-append-drop before rows)) ∙ flat_map-append _ (take before rows) (drop before rows) in
    let size : length (column w (take before rows)) ≡ length (first_rows before (column w rows)) = ap length (sym (first_are w rows before)) in
    let rest : rest_of before (column w rows) ≡ column w (drop before rows) =
    ap (drop (length (first_rows before (column w rows)))) split ∙ drop_at (column w (take before rows)) (column w (drop before rows)) (length (first_rows before (column w rows))) size in
    ap (first_rows n) rest ∙ first_are w (drop before rows) n

-- ---- without values

without_first : (k : ℕ) (ts : List Triple) → first_rows k (map without_value ts) ≡ map without_value (first_rows k ts)
without_first k [] = refl
without_first zero (t ∷ ts) = by (starts_row t) (without_first zero ts)
  where
    by : (s : Bool) → first_rows zero (map without_value ts) ≡ map without_value (first_rows zero ts) → cond s [] (without_value t ∷ first_rows zero (map without_value ts)) ≡ map without_value (cond s [] (t ∷ first_rows zero ts))
    by true e = refl
    by false e = ap (λ xs. without_value t ∷ xs) e
without_first (suc k) (t ∷ ts) = ap (λ xs. without_value t ∷ xs) (by (starts_row t) (without_first k ts) (without_first (suc k) ts))
  where
    by : (s : Bool) → first_rows k (map without_value ts) ≡ map without_value (first_rows k ts) → first_rows (suc k) (map without_value ts) ≡ map without_value (first_rows (suc k) ts) → first_rows (cond s k (suc k)) (map without_value ts) ≡ map without_value (first_rows (cond s k (suc k)) ts)
    by true e f = e
    by false e f = f

drop_without : (n : ℕ) (ts : List Triple) → drop n (map without_value ts) ≡ map without_value (drop n ts)
drop_without zero ts = refl
drop_without (suc n) [] = refl
drop_without (suc n) (t ∷ ts) = drop_without n ts

without_behind : (before n : ℕ) (ts : List Triple) → rows_behind before n (map without_value ts) ≡ map without_value (rows_behind before n ts)
without_behind before n ts =
    let size : length (first_rows before (map without_value ts)) ≡ length (first_rows before ts) = ap length (without_first before ts) ∙ length-map (first_rows before ts) without_value in
    ap (λ (k : ℕ). first_rows n (drop k (map without_value ts))) size ∙ ap (first_rows n) (drop_without (length (first_rows before ts)) ts) ∙ without_first n (drop (length (first_rows before ts)) ts)

-- ---- what passes in a front passes in the whole

abbrev counts : Way → ℕ → Triple → Bool
counts w r t = nat_le t.repetition r && nat_le (inside w r) t.definition

items_without : (w : Way) (r : ℕ) (ts : List Triple) → items_in w r (map without_value ts) ≡ items_in w r ts
items_without w r [] = refl
items_without w r (t ∷ ts) =
    sum_by-cons (λ u. cond (counts w r u) 1 0) (without_value t) (map without_value ts) ∙ ap (λ (n : ℕ). cond (counts w r t) 1 0 + n) (items_without w r ts) ∙ sym (sum_by-cons (λ u. cond (counts w r u) 1 0) t ts)

lists_without : (w : Way) (r : ℕ) (limits : List ℕ) (xs ys : List Triple) → map without_value xs ≡ map without_value ys → PassesLists w r limits xs → PassesLists w r limits ys
lists_without w r [] xs ys e h = h
lists_without w r (limit ∷ limits) xs ys e (inl h) = inl (subst (λ (n : ℕ). limit < n) (sym (items_without w r xs) ∙ ap (items_in w r) e ∙ items_without w r ys) h)
lists_without w r (limit ∷ limits) xs ys e (inr h) = inr (lists_without w (suc r) limits xs ys e h)

lists_longer : (w : Way) (r : ℕ) (limits : List ℕ) (xs more : List Triple) → PassesLists w r limits xs → PassesLists w r limits (xs ++ more)
lists_longer w r [] xs more h = h
lists_longer w r (limit ∷ limits) xs more (inl h) = inl (omega (arith, h, sum_by-append (λ u. cond (counts w r u) 1 0) xs more))
lists_longer w r (limit ∷ limits) xs more (inr h) = inr (lists_longer w (suc r) limits xs more h)

more_bytes : (limit : ℕ) (xs more : List Triple) → limit < sum_by text_size (values_in xs) → limit < sum_by text_size (values_in (xs ++ more))
more_bytes limit xs more h =
    let e : sum_by text_size (values_in (xs ++ more)) ≡ sum_by text_size (values_in xs) + sum_by text_size (values_in more) = ap (sum_by text_size) (filter_map-append (λ (t : Triple). t.value) xs more) ∙ sum_by-append text_size (values_in xs) (values_in more) in
    omega (arith, h, e)

texts_longer : (t : TypeTree) (xs more : List Triple) → PassesTexts t (values_in xs) → PassesTexts t (values_in (xs ++ more))
texts_longer t_utf8 xs more h = more_bytes _ xs more h
texts_longer t_binary xs more h = more_bytes _ xs more h
texts_longer t_large_utf8 xs more h = more_bytes _ xs more h
texts_longer t_large_binary xs more h = more_bytes _ xs more h
texts_longer t xs more h = h

-- lists beneath the struct of the schema
pub lists_beneath : (w : Way) (i r : ℕ) (limits : List ℕ) (ts : List Triple) → PassesLists w (suc r) limits ts → PassesLists (in_struct false i w) (suc r) limits ts
lists_beneath w i r [] ts h = h
lists_beneath w i r (limit ∷ limits) ts (inl h) = inl h
lists_beneath w i r (limit ∷ limits) ts (inr h) = inr (lists_beneath w i (suc r) limits ts h)

-- ---- of the rows of one array

pub whole_lists : (w : Way) (rows : List Slot) (r : ℕ) (limits : List ℕ) (ts rest : List Triple) → map without_value (column w rows) ≡ map without_value ts ++ map without_value rest → PassesLists w r limits ts → PassesLists w r limits (column w rows)
whole_lists w rows r limits ts rest e h =
    lists_without w r limits (ts ++ rest) (column w rows) (map-append without_value ts rest ∙ sym e) (lists_longer w r limits ts rest h)

pub slice_lists : (w : Way) (rows : List Slot) (before n r : ℕ) (limits : List ℕ) (ts rest : List Triple) → map without_value (column w rows) ≡ map without_value ts ++ map without_value rest
    → PassesLists w r limits (rows_behind before n ts) → PassesLists w r limits (column w (take n (drop before rows)))
slice_lists w rows before n r limits ts rest e h =
    let longer = behind_longer before n ts rest in
    let same : map without_value (rows_behind before n (ts ++ rest)) ≡ map without_value (column w (take n (drop before rows))) =
    sym (without_behind before n (ts ++ rest)) ∙ ap (rows_behind before n) (map-append without_value ts rest ∙ sym e) ∙ without_behind before n (column w rows) ∙ ap (map without_value) (behind_are w rows before n) in
    lists_without w r limits (rows_behind before n (ts ++ rest)) (column w (take n (drop before rows))) same
    (subst (λ (xs : List Triple). PassesLists w r limits xs) (sym longer.parts) (lists_longer w r limits (rows_behind before n ts) longer.more h))

pub whole_texts : (w : Way) (rows : List Slot) (t : TypeTree) (ts rest : List Triple) → column w rows ≡ ts ++ rest → PassesTexts t (values_in ts) → PassesTexts t (values_in (column w rows))
whole_texts w rows t ts rest e h = subst (λ (xs : List Triple). PassesTexts t (values_in xs)) (sym e) (texts_longer t ts rest h)

pub slice_texts : (w : Way) (rows : List Slot) (before n : ℕ) (t : TypeTree) (ts rest : List Triple) → column w rows ≡ ts ++ rest → PassesTexts t (values_in (rows_behind before n ts)) → PassesTexts t (values_in (column w (take n (drop before rows))))
slice_texts w rows before n t ts rest e h =
    let longer = behind_longer before n ts rest in
    let same : rows_behind before n (ts ++ rest) ≡ column w (take n (drop before rows)) = ap (rows_behind before n) (sym e) ∙ behind_are w rows before n in
    subst (λ (xs : List Triple). PassesTexts t (values_in xs)) (sym longer.parts ∙ same) (texts_longer t (rows_behind before n ts) longer.more h)
