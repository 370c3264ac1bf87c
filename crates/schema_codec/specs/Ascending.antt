-- Keys that ascend, as a test of neighbours.
use Rattle.std.specs.Prelude.{◌≡◌, ℕ, List, [], ◌∷◌, ◌++◌, Bool, true, false, ◌&&◌, refl}
use Rattle.std.specs.List.{AllByRecursion}
use Rattle.std.specs.List.Sorted.{IsStrictlySortedBy}
use Rattle.std.specs.Map.{keys_of}
use Rattle.std.specs.Ordering.{is_lt, nat_cmp}
use Rattle.std.specs.Cmp.Lexicographic.{slice_cmp, nat_list_cmp_total}
use Rattle.std.specs.declared.cmp.Ordering.{Ordering}
use Rattle.std.specs.declared.cmp.Ordering.TheVariants.{Less, Equal, Greater}
use Rattle.std.proofs.Common.{ap, ◌∙◌}
use Rattle.columns_core.specs.Meta.{Meta, KeysAscend, with_text}

-- the first text comes before the second, as lists of bytes
abbrev pub is_before : List ℕ → List ℕ → Bool
is_before a b = is_lt (slice_cmp nat_cmp a b)

abbrev pub ascends_from : List ℕ → Meta → Bool
ascends_from key [] = true
ascends_from key (e ∷ es) = is_before key e.0 && ascends_from e.0 es

-- each key comes before the next
abbrev pub is_ascending : Meta → Bool
is_ascending [] = true
is_ascending (e ∷ es) = ascends_from e.0 es

-- ---- the test tells whether all keys ascend

less : (o : Ordering) → is_lt o ≡ true → o ≡ Less
less Less e = refl
less Equal e = absurd cc
less Greater e = absurd cc

both_true : (a b : Bool) → (a && b) ≡ true → (a ≡ true) × (b ≡ true)
both_true true b e = (refl, e)
both_true false b e = absurd cc

AllAfter : List ℕ → Meta → Type 0
AllAfter key m = AllByRecursion (λ k. slice_cmp nat_cmp key k ≡ Less) (keys_of m)

earlier : (j key : List ℕ) (m : Meta) → slice_cmp nat_cmp j key ≡ Less → AllAfter key m → AllAfter j m
unfolding AllAfter
earlier j key [] h all = tt
earlier j key (e ∷ es) h all = (nat_list_cmp_total.trans j key e.0 h all.0, earlier j key es h all.1)

pub sorted_from : (key : List ℕ) (m : Meta) → ascends_from key m ≡ true → AllByRecursion (λ k. slice_cmp nat_cmp key k ≡ Less) (keys_of m) × KeysAscend m
unfolding AllAfter IsStrictlySortedBy
sorted_from key [] e = (tt, tt)
sorted_from key (x ∷ xs) e =
    let b = both_true (is_before key x.0) (ascends_from x.0 xs) e in
    let here : slice_cmp nat_cmp key x.0 ≡ Less = less (slice_cmp nat_cmp key x.0) b.0 in
    let there = sorted_from x.0 xs b.1 in
    ((here, earlier key x.0 xs here there.0), there)

pub ascending_is : (m : Meta) → is_ascending m ≡ true → KeysAscend m
unfolding IsStrictlySortedBy
ascending_is [] e = tt
ascending_is (x ∷ xs) e = sorted_from x.0 xs e

pub ascends_on : (key : List ℕ) (m : Meta) → AllByRecursion (λ k. slice_cmp nat_cmp key k ≡ Less) (keys_of m) → KeysAscend m → ascends_from key m ≡ true
unfolding IsStrictlySortedBy
ascends_on key [] all h = refl
ascends_on key (x ∷ xs) all h = rw all.0 (ascends_on x.0 xs h.0 h.1)

pub is_ascending-from : (m : Meta) → KeysAscend m → is_ascending m ≡ true
unfolding IsStrictlySortedBy
is_ascending-from [] h = refl
is_ascending-from (x ∷ xs) h = ascends_on x.0 xs h.0 h.1

-- ---- a key after all others goes to the end

behind : (j key : List ℕ) → slice_cmp nat_cmp j key ≡ Less → slice_cmp nat_cmp key j ≡ Greater
behind j key h = nat_list_cmp_total.antisymm key j ∙ rw h refl

at_end : (j : List ℕ) (front : Meta) (key text : List ℕ) (rest : Meta) → AllByRecursion (λ k. slice_cmp nat_cmp j k ≡ Less) (keys_of (front ++ (key, text) ∷ rest)) → slice_cmp nat_cmp j key ≡ Less
at_end j [] key text rest all = all.0
at_end j (e ∷ front) key text rest all = at_end j front key text rest all.1

pub appended : (front : Meta) (key text : List ℕ) (rest : Meta) → KeysAscend (front ++ (key, text) ∷ rest) → with_text key text front ≡ front ++ (key, text) ∷ []
unfolding IsStrictlySortedBy
appended [] key text rest h = refl
appended (e ∷ front) key text rest h =
    let greater : slice_cmp nat_cmp key e.0 ≡ Greater = behind e.0 key (at_end e.0 front key text rest h.0) in
    rw greater (ap (λ (m : Meta). e ∷ m) (appended front key text rest h.1))
