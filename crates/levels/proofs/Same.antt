-- `==` on parts of paths tells whether they are the same.
use Rattle.std.proofs.Common.{◌≡◌, ℕ, ℤ, Bool, false, true≢false, List, Option, Some, None, unwrap_or, refl, ap, sym}
use Rattle.std.specs.Bool.{Decides}
use Rattle.std.specs.Cmp.{booleans_Decides}
use Rattle.std.specs.Option.{option_eq}
use Rattle.std.proofs.lemmas.Bool.Decides.{Decides-like, Decides-and, Decides-eqb}
use Rattle.std.proofs.lemmas.Slice.Eq.{bytes_eq-Decides, slice_eq-Decides}
use Rattle.columns_core.specs.Bits.{bits_eq}
use Rattle.levels.specs.declared.nested.ListNested.{ListNested}
use Rattle.levels.specs.declared.nested.Nested.{Nested}
use Rattle.levels.specs.declared.nested.Nested.TheVariants.{Primitive, List as ListOf, LargeList, Struct}
use Rattle.levels.specs.contracts.nested.NestedPartialEq.TheImpl as nested_impl
use Rattle.levels.specs.Same.{lists_eq}

pub tells_mask : (a b : Option (List Bool)) → Decides (option_eq bits_eq a b) (a ≡ b)
tells_mask None None = (λ e. refl, λ e. refl)
tells_mask None (Some b) = (λ e. absurd (true≢false (sym e)), λ e. cc)
tells_mask (Some a) None = (λ e. absurd (true≢false (sym e)), λ e. cc)
tells_mask (Some a) (Some b) = Decides-like _ (λ e. ap Some e) (λ e. ap (λ o. unwrap_or o a) e) (slice_eq-Decides booleans_Decides a b _ refl)

pub tells_list : {O : Type 0} (a b : ListNested O) → Decides (lists_eq a b) (a ≡ b)
tells_list a b =
    Decides-like _
    (λ e. λ i. record { is_optional = e.0 i; offsets = e.1.0 i; validity = e.1.1 i })
    (λ e. (ap (λ l. l.is_optional) e, (ap (λ l. l.offsets) e, ap (λ l. l.validity) e)))
    (Decides-and _ _ (booleans_Decides a.is_optional b.is_optional) (Decides-and _ _ (bytes_eq-Decides a.offsets b.offsets) (tells_mask a.validity b.validity)))

abbrev mask_of : Nested → Option (List Bool)
mask_of (Primitive mask is_optional count) = mask
mask_of (Struct mask is_optional count) = mask
mask_of (ListOf list) = None
mask_of (LargeList list) = None

abbrev optional_of : Nested → Bool
optional_of (Primitive mask is_optional count) = is_optional
optional_of (Struct mask is_optional count) = is_optional
optional_of (ListOf list) = false
optional_of (LargeList list) = false

abbrev count_of : Nested → ℕ
count_of (Primitive mask is_optional count) = count
count_of (Struct mask is_optional count) = count
count_of (ListOf list) = 0
count_of (LargeList list) = 0

abbrev list_or : ListNested ℤ → Nested → ListNested ℤ
list_or l (ListOf list) = list
list_or l part = l

abbrev large_or : ListNested ℤ → Nested → ListNested ℤ
large_or l (LargeList list) = list
large_or l part = l

pub tells_nested : (a b : Nested) → Decides ((nested_impl.ghosts).eq a b) (a ≡ b)
tells_nested (Primitive m o c) (Primitive n p d) =
    Decides-like _ (λ e. λ i. Primitive (e.0 i) (e.1.0 i) (e.1.1 i)) (λ e. (ap mask_of e, (ap optional_of e, ap count_of e)))
    (Decides-and _ _ (tells_mask m n) (Decides-and _ _ (booleans_Decides o p) (Decides-eqb c d)))
tells_nested (Struct m o c) (Struct n p d) =
    Decides-like _ (λ e. λ i. Struct (e.0 i) (e.1.0 i) (e.1.1 i)) (λ e. (ap mask_of e, (ap optional_of e, ap count_of e)))
    (Decides-and _ _ (tells_mask m n) (Decides-and _ _ (booleans_Decides o p) (Decides-eqb c d)))
tells_nested (ListOf l) (ListOf k) = Decides-like _ (λ e. ap ListOf e) (λ e. ap (list_or l) e) (tells_list l k)
tells_nested (LargeList l) (LargeList k) = Decides-like _ (λ e. ap LargeList e) (λ e. ap (large_or l) e) (tells_list l k)
tells_nested a b = (λ e. absurd (true≢false (sym e)), λ e. cc)
