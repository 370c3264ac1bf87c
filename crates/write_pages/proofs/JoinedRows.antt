-- What is known of the pages of a column is known of all of it.
use Rattle.std.proofs.Common.{◌≡◌, ◌∙◌, ◌+◌, ◌≤◌, ℕ, zero, suc, Bool, true, false, List, [], ◌∷◌, ◌++◌, take, drop, length, Option, Some, None, option_map, All, refl, sym, ap, subst, arith}
use Rattle.std.specs.Prelude.{Result, Ok, Err, IfOk, IfSome}
use Rattle.std.proofs.lemmas.List.{length-append}
use Rattle.std.proofs.lemmas.List.Concat.{flat_map-append}
use Rattle.shredding.specs.Parts.{Part, path_way, path_slots}
use Rattle.shredding.specs.Shape.{LeafType, Way}
use Rattle.shredding.specs.Shred.{Triple, column, shred}
use Rattle.shredding.specs.Slot.{Slot, value}
use Rattle.columns_base.specs.declared.error.Error.{Error}
use Rattle.columns_core.specs.Shapes.{base, leaf_type}
use Rattle.columns_core.specs.Tree.{TypeTree}
use Rattle.columns_slots.specs.Slots.{tree_len, type_of}
use Rattle.columns_slots.specs.Tree.{ArrayTree}
use Rattle.columns_slots.specs.Types.{is_null_type}
use Rattle.joined_statistics.specs.declared.order.TextOrder.{TextOrder}
use Rattle.joined_statistics.specs.Orders.{IsOrderOf}
use Rattle.joined_statistics.specs.Told.{AreTold}
use Rattle.joined_statistics.proofs.Stated.{not_nothing}
use Rattle.levels.specs.declared.nested.Nested.{Nested}
use Rattle.levels.specs.Nested.{parts_of}
use Rattle.nested_paths.specs.LeafNulls.{value_at}
use Rattle.page_statistics.specs.Stated.{AreStated}
use Rattle.pq_files.specs.Page.{values_in}
use Rattle.pq_files.specs.Room.{max_count}
use Rattle.pq_files.specs.Statistics.{Statistics, HasStatistics}
use Rattle.page_statistics.proofs.Exist.{statistics_exist}
use Rattle.page_statistics.specs.Spelled.{IsExact}
use Rattle.pq_tree.specs.Footers.{ChunkStatistics}
use Rattle.pq_tree.specs.Physical.{Physical}
use Rattle.pq_tree.specs.Views.{statistics_view}
use Rattle.write_places.specs.Places.{path_places}
use Rattle.write_values.specs.declared.known.Known.{Known}
use Rattle.write_values.specs.declared.measured.Measured.{Measured}
use Rattle.write_values.specs.Known.{AreKnown}
use Rattle.write_values.specs.Pages.{value_column}
use Rattle.write_values.specs.Rows.{Measures}
use Rattle.write_values.specs.Stored.{stored_at}
use Rattle.write_values.proofs.ServedDeltas.{null_nothing}
use Rattle.write_values.proofs.ServedTypes.{leaf_base}
use Rattle.write_pages.specs.Sized.{AreMeasured}

-- ---- results

pub both_ok : {A : Type 0} (r : Result A Error) (P Q R : A → Type 0) → ((x : A) → P x → Q x → R x) → IfOk r P → IfOk r Q → IfOk r R
both_ok (Ok x) P Q R f h k = f x h k
both_ok (Err e) P Q R f h k = h

pub each_some : {A : Type 0} (r : Option A) (P Q : A → Type 0) → ((x : A) → P x → Q x) → IfSome r P → IfSome r Q
each_some (Some x) P Q f h = f x h
each_some None P Q f h = h

pub all_one : {A : Type 0} (P : A → Type 0) (x : A) → P x → All P (x ∷ [])
all_one P x h zero d k = h
all_one P x h (suc i) d k = absurd (omega (arith, k))

pub all_none : {A : Type 0} (P : A → Type 0) (xs : List A) → xs ≡ [] → All P xs
all_none P [] e i d k = absurd (omega (arith, k))
all_none P (x ∷ xs) e i d k = absurd cc

-- ---- rows

take_sum : {A : Type 0} (m o n : ℕ) (xs : List A) → m ≡ o + n → take m xs ≡ take o xs ++ take n (drop o xs)
take_sum {A} m zero n xs e = let k : m ≡ n = omega (arith, e) in ap (λ (i : ℕ). take i xs) k
take_sum zero (suc o) n xs e = absurd (omega (arith, e))
take_sum (suc m) (suc o) zero [] e = refl
take_sum (suc m) (suc o) (suc n) [] e = refl
take_sum {A} (suc m) (suc o) n (x ∷ xs) e = ap (λ (ys : List A). x ∷ ys) (take_sum m o n xs (omega (arith, e)))

pub columns_joined : (w : Way) (rows : List Slot) (o n : ℕ) → column w (take (o + n) rows) ≡ column w (take o rows) ++ column w (take n (drop o rows))
columns_joined w rows o n = ap (column w) (take_sum (o + n) o n rows refl) ∙ flat_map-append (λ s. shred w s 0 0 0) (take o rows) (take n (drop o rows))

pub told_joined : (t : LeafType) (p : Physical) (w : Way) (rows : List Slot) (o n : ℕ) (first : ChunkStatistics) (second : Option ChunkStatistics) (joined : ChunkStatistics)
    → ((xs ys : List Triple) → length (xs ++ ys) ≤ max_count → AreTold t p xs first → AreStated true t p ys second → AreTold t p (xs ++ ys) joined)
    → (length (column w (take o rows)) ≤ max_count → AreTold t p (column w (take o rows)) first) → AreStated true t p (column w (take n (drop o rows))) second
    → length (column w (take (o + n) rows)) ≤ max_count → AreTold t p (column w (take (o + n) rows)) joined
told_joined t p w rows o n first second joined step h k few =
    let xs = column w (take o rows) in
    let ys = column w (take n (drop o rows)) in
    let e = columns_joined w rows o n in
    let all : length (xs ++ ys) ≤ max_count = subst (λ (ts : List Triple). length ts ≤ max_count) e few in
    subst (λ (ts : List Triple). AreTold t p ts joined) (sym e) (step xs ys all (h (omega (arith, all, length-append xs ys))) k)

-- a column whose bytes are known has statistics
pub has_some : (t : LeafType) (p : Physical) (w : Way) (rows : List Slot) (plain : ℕ) → AreMeasured t p w rows plain → (out : Option Statistics) × HasStatistics true t p out (column w rows) (values_in (column w rows)) × IsExact t p (values_in (column w rows)) out
has_some t p w rows plain m = statistics_exist true t p (column w rows) m.stored m.are_stored m.have_bytes

-- values that have an order are no nulls alone
pub ordered_values : (o : TextOrder) (t : TypeTree) → IsOrderOf o (leaf_type t) → is_null_type (base t) ≡ false
ordered_values o t h = by_type (is_null_type (base t)) refl
  where
    by_type : (b : Bool) → is_null_type (base t) ≡ b → is_null_type (base t) ≡ false
    by_type false e = e
    by_type true e = absurd (not_nothing o (leaf_type t) h (sym (leaf_base t) ∙ null_nothing (base t) e))

-- ---- the same of a path that is told otherwise

pub known_same : (wanted : Bool) (a a' : ArrayTree) (p p' : Physical) (nested nested' : List Nested) (k k' : Known) → a ≡ a' → p ≡ p' → parts_of nested ≡ parts_of nested' → k.measured ≡ k'.measured → option_map statistics_view k.statistics ≡ option_map statistics_view k'.statistics → AreKnown wanted a p nested k → AreKnown wanted a' p' nested' k'
known_same wanted a a' p p' nested nested' k k' d e f m s h =
    subst (λ (x : ArrayTree). AreKnown wanted x p' nested' k') d
    (subst (λ (q : Physical). AreKnown wanted a q nested' k') e
    (record {
      measures = subst (λ (ps : List Part). Measures p (tree_len a) (stored_at a p) (path_places ps) k'.measured) f (subst (λ (x : Measured). Measures p (tree_len a) (stored_at a p) (path_places (parts_of nested)) x) m h.measures);
      stated = subst (λ (ps : List Part). AreStated wanted (leaf_type (type_of a)) p (column (path_way ps) (path_slots (λ i. value (value_at a i)) ps)) (option_map statistics_view k'.statistics)) f (subst (λ (x : Option ChunkStatistics). AreStated wanted (leaf_type (type_of a)) p (value_column a nested) x) s h.stated);
    }))
