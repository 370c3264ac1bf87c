-- Fields and trees, one by one.
use Rattle.std.proofs.Common.{◌≡◌, ◌≢◌, ◌⊎◌, inl, inr, ◌+◌, ◌<◌, ◌≤◌, ℕ, zero, suc, List, [], ◌∷◌, length, drop, get_or, not, nat_eq, Bool, true, false, is_some, Option, Some, None, refl, sym, ap, subst, ◌∙◌, arith}
use Rattle.std.specs.List.{AllZip}
use Rattle.std.specs.Prelude.{MatchOption}
use Rattle.std.proofs.Math.ListN.{drop_of_length-le}
use Rattle.columns_core.specs.Measures.{field_leaves, fields_nesting}
use Rattle.columns_core.specs.Tree.{FieldTree, FieldTrees, more_fields}
use Rattle.columns_core.specs.View.{field_view, fields_view}
use Rattle.columns_core.specs.declared.types.Field.{Field}
use Rattle.pq_tree.specs.Tree.{Tree, nesting, nesting_of}
use Rattle.pq_tree.specs.TreeViews.{tree_view, trees_view}
use Rattle.pq_tree.specs.declared.types.ParquetType.{ParquetType}
use Rattle.pq_files.specs.Reasons.{AnyZip}
use Rattle.schema_fit.specs.Fits.{agrees_with}
use Rattle.pq_headline.specs.Stages.{fields_with_columns, trees_with_columns}
use Rattle.rewrite_whole.specs.Plans.{IsMisfit}

abbrev pub Agree : List FieldTree → List Tree → Type 0
Agree fs ts = AllZip (λ f t. agrees_with f t ≡ true) fs ts

abbrev pub Differ : List FieldTree → List Tree → Type 0
Differ fs ts = (length fs ≢ length ts) ⊎ AnyZip (λ f t. agrees_with f t ≡ false) fs ts

-- ---- how deep

pub nest_drop : (i : ℕ) (ts : List ParquetType) → nesting_of (trees_view (drop i ts)) ≤ nesting_of (trees_view ts)
nest_drop zero ts = omega arith
nest_drop (suc i) [] = omega arith
nest_drop (suc i) (t ∷ ts) = omega (arith, nest_drop i ts)

pub nest_at : (ts : List ParquetType) (i : ℕ) (t : ParquetType) → i < length ts → t ≡ get_or ts i t → nesting (tree_view t) ≤ nesting_of (trees_view ts)
nest_at [] i t lt e = absurd (omega arith)
nest_at (u ∷ ts) zero t lt e = subst (λ (k : ParquetType). nesting (tree_view k) ≤ nesting_of (trees_view (u ∷ ts))) (sym e) (omega arith)
nest_at (u ∷ ts) (suc i) t lt e = omega (arith, nest_at ts i t (omega arith) e)

-- ---- the fields that are left

pub drop_on : (xs : List Field) (i : ℕ) (x : Field) → i < length xs → x ≡ get_or xs i x → fields_view (drop i xs) ≡ more_fields (field_view x) (fields_view (drop (i + 1) xs))
drop_on [] i x lt e = absurd (omega arith)
drop_on (y ∷ xs) zero x lt e = ap (λ (z : Field). more_fields (field_view z) (fields_view xs)) (sym e)
drop_on (y ∷ xs) (suc i) x lt e = let k : suc i + 1 ≡ suc (i + 1) = omega arith in drop_on xs i x (omega arith) e ∙ ap (λ n. more_fields (field_view x) (fields_view (drop n (y ∷ xs)))) (sym k)

abbrev pub LeftFields : List Field → ℕ → List FieldTree
LeftFields xs i = fields_with_columns (fields_view (drop i xs))

abbrev pub LeftTrees : List ParquetType → ℕ → List Tree
LeftTrees ts at = trees_with_columns (trees_view (drop at ts))

pub skipped : (xs : List Field) (i : ℕ) (x : Field) → i < length xs → x ≡ get_or xs i x → not (nat_eq (field_leaves (field_view x)) 0) ≡ false → LeftFields xs i ≡ LeftFields xs (i + 1)
skipped xs i x lt e h = ap fields_with_columns (drop_on xs i x lt e) ∙ rw h refl

pub taken : (xs : List Field) (i : ℕ) (x : Field) → i < length xs → x ≡ get_or xs i x → not (nat_eq (field_leaves (field_view x)) 0) ≡ true → LeftFields xs i ≡ field_view x ∷ LeftFields xs (i + 1)
taken xs i x lt e h = ap fields_with_columns (drop_on xs i x lt e) ∙ rw h refl

-- ---- what is known of all by what is left

pub record Left (fs gs : List FieldTree) (ts us : List Tree) : Type 0 where
  pub agree : Agree gs us → Agree fs ts
  pub differ : Differ gs us → Differ fs ts

pub went_by : (fs gs hs : List FieldTree) (ts us : List Tree) → gs ≡ hs → Left fs gs ts us → Left fs hs ts us
went_by fs gs hs ts us e h = subst (λ k. Left fs k ts us) e h

pub went_on : (fs gs hs : List FieldTree) (ts us vs : List Tree) (f : FieldTree) (t : Tree) → gs ≡ f ∷ hs → us ≡ t ∷ vs → agrees_with f t ≡ true → Left fs gs ts us → Left fs hs ts vs
went_on fs gs hs ts us vs f t e k a h =
    let l : Left fs (f ∷ hs) ts (t ∷ vs) = subst (λ q. Left fs q ts (t ∷ vs)) e (subst (λ q. Left fs gs ts q) k h) in
    record { agree = λ z. l.agree (a, z); differ = λ z. l.differ (more z) }
  where
    more : Differ hs vs → Differ (f ∷ hs) (t ∷ vs)
    more (inl n) = inl (λ q. n (omega (arith, q)))
    more (inr z) = inr (inr z)

pub no_tree : (fs gs hs : List FieldTree) (ts us : List Tree) (f : FieldTree) → gs ≡ f ∷ hs → us ≡ [] → Left fs gs ts us → Differ fs ts
no_tree fs gs hs ts us f e k h = h.differ (inl (λ q. absurd (omega (arith, q, ap length e, ap length k))))

pub other_tree : (fs gs hs : List FieldTree) (ts us vs : List Tree) (f : FieldTree) (t : Tree) → gs ≡ f ∷ hs → us ≡ t ∷ vs → agrees_with f t ≡ false → Left fs gs ts us → Differ fs ts
other_tree fs gs hs ts us vs f t e k a h = h.differ (subst (λ q. Differ q us) (sym e) (subst (λ q. Differ (f ∷ hs) q) (sym k) (inr (inl a))))

pub tree_more : (fs gs : List FieldTree) (ts us vs : List Tree) (t : Tree) → gs ≡ [] → us ≡ t ∷ vs → Left fs gs ts us → Differ fs ts
tree_more fs gs ts us vs t e k h = h.differ (inl (λ q. absurd (omega (arith, q, ap length e, ap length k))))

pub all_agree : (fs gs : List FieldTree) (ts us : List Tree) → gs ≡ [] → us ≡ [] → Left fs gs ts us → Agree fs ts
all_agree fs gs ts us e k h = h.agree (subst (λ q. Agree q us) (sym e) (subst (λ q. Agree [] q) (sym k) tt))

pub none_left : (xs : List Field) (i : ℕ) → length xs ≤ i → LeftFields xs i ≡ []
none_left xs i le = ap (λ ys. fields_with_columns (fields_view ys)) (drop_of_length-le xs le)

pub shallow_on : (xs : List Field) (i : ℕ) (x : Field) → i < length xs → x ≡ get_or xs i x → fields_nesting (fields_view (drop i xs)) ≤ 128 → fields_nesting (fields_view (drop (i + 1) xs)) ≤ 128
shallow_on xs i x lt e h =
    let k : fields_nesting (more_fields (field_view x) (fields_view (drop (i + 1) xs))) ≤ 128 = subst (λ (fs : FieldTrees). fields_nesting fs ≤ 128) (drop_on xs i x lt e) h in
    omega (arith, k)

-- once all fields were gone through, a tree that is left tells
pub ended :
    (fs : FieldTrees) (ts : List ParquetType) (xs : List Field) (i at : ℕ) (next : Option ℕ) (some : Bool) → length xs ≤ i
    → Left (fields_with_columns fs) (LeftFields xs i) (trees_with_columns (trees_view ts)) (LeftTrees ts at) → some ≡ is_some next
    → MatchOption next (LeftTrees ts at ≡ []) (λ n. (n < length ts) × ((t : ParquetType) → t ≡ get_or ts n t → LeftTrees ts at ≡ tree_view t ∷ LeftTrees ts (n + 1)))
    → IsMisfit fs (trees_view ts) some
ended fs ts xs i at None some le l e h = subst (IsMisfit fs (trees_view ts)) (sym e) (all_agree (fields_with_columns fs) (LeftFields xs i) (trees_with_columns (trees_view ts)) (LeftTrees ts at) (none_left xs i le) h l)
ended fs ts xs i at (Some n) some le l e h =
    let t = there ts n h.0 in
    subst (IsMisfit fs (trees_view ts)) (sym e) (tree_more (fields_with_columns fs) (LeftFields xs i) (trees_with_columns (trees_view ts)) (LeftTrees ts at) (LeftTrees ts (n + 1)) (tree_view t.0) (none_left xs i le) (h.1 t.0 t.1) l)
  where
    there : (ts : List ParquetType) (n : ℕ) → n < length ts → (t : ParquetType) × (t ≡ get_or ts n t)
    there [] n lt = absurd (omega (arith, lt))
    there (t ∷ ts) zero lt = (t, refl)
    there (t ∷ ts) (suc n) lt = there ts n (omega (arith, lt))
