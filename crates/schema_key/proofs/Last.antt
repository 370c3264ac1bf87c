-- Of several texts of a key the last counts.
use Rattle.std.proofs.Common.{◌≡◌, ℕ, Bool, true, false, cond, List, [], ◌∷◌, Option, Some, None, refl, sym, ap, ◌∙◌}
use Rattle.std.specs.Cmp.{alike_right}
use Rattle.std.specs.Cmp.Lexicographic.{slice_cmp, nat_list_cmp_total}
use Rattle.std.specs.Ordering.{nat_cmp, match_ordering, is_eq}
use Rattle.std.specs.declared.cmp.Ordering.{Ordering}
use Rattle.std.specs.declared.cmp.Ordering.TheVariants.{Less, Equal, Greater}
use Rattle.columns_core.specs.Meta.{Meta, text_at, with_text}
use Rattle.pq_tree.specs.Footers.{Key}
use Rattle.schema_key.specs.Inferred.{with_value, with_pairs}
use Rattle.schema_key.specs.Laws.{is_same, last_text, or_earlier, TheLastCounts}
use Rattle.schema_key.proofs.Again.{text_at-with_text}

-- another key keeps its text
others_keep : (q key text : List ℕ) (m : Meta) → is_same q key ≡ false → text_at q (with_text key text m) ≡ text_at q m
others_keep q key text [] other = rw other refl
others_keep q key text (e ∷ es) other = at (slice_cmp nat_cmp key e.0) refl (others_keep q key text es other)
  where
    at : (o : Ordering) → slice_cmp nat_cmp key e.0 ≡ o → text_at q (with_text key text es) ≡ text_at q es
        → text_at q (match_ordering o ((key, text) ∷ e ∷ es) ((e.0, text) ∷ es) (e ∷ with_text key text es)) ≡ text_at q (e ∷ es)
    at Less is there = rw other refl
    at Equal is there =
        let same : slice_cmp nat_cmp q key ≡ slice_cmp nat_cmp q e.0 = alike_right nat_list_cmp_total key e.0 q is in
        let not : is_eq (slice_cmp nat_cmp q e.0) ≡ false = ap is_eq (sym same) ∙ other in
        rw not refl
    at Greater is there = ap (λ (o : Option (List ℕ)). cond (is_eq (slice_cmp nat_cmp q e.0)) (Some e.1) o) there

-- the same key in another's words
same_place : (q key : List ℕ) (m : Meta) → is_same q key ≡ true → text_at q m ≡ text_at key m
same_place q key [] same = refl
same_place q key (e ∷ es) same =
    let equal : slice_cmp nat_cmp q key ≡ Equal = tied (slice_cmp nat_cmp q key) same in
    let here : slice_cmp nat_cmp q e.0 ≡ slice_cmp nat_cmp key e.0 = nat_list_cmp_total.congr q key e.0 equal in
    rw (here, same_place q key es same) refl
  where
    tied : (o : Ordering) → is_eq o ≡ true → o ≡ Equal
    tied Less h = absurd cc
    tied Equal h = refl
    tied Greater h = absurd cc

one_pair : (q key : List ℕ) (text : Option (List ℕ)) (m : Meta) → text_at q (with_value m key text) ≡ or_earlier (cond (is_same q key) text None) (text_at q m)
one_pair q key None m = same (is_same q key)
  where
    same : (b : Bool) → text_at q m ≡ or_earlier (cond b None None) (text_at q m)
    same true = refl
    same false = refl
one_pair q key (Some text) m = at (is_same q key) refl
  where
    at : (b : Bool) → is_same q key ≡ b → text_at q (with_text key text m) ≡ or_earlier (cond b (Some text) None) (text_at q m)
    at true is = same_place q key (with_text key text m) is ∙ text_at-with_text key text m
    at false is = others_keep q key text m is

or_twice : (a b c : Option (List ℕ)) → or_earlier a (or_earlier b c) ≡ or_earlier (or_earlier a b) c
or_twice None b c = refl
or_twice (Some x) b c = refl

from_here : (q : List ℕ) (m : Meta) (ks : List Key) → text_at q (with_pairs m ks) ≡ or_earlier (last_text q ks) (text_at q m)
from_here q m [] = refl
from_here q m (k ∷ ks) =
    from_here q (with_value m k.key k.«value») ks
    ∙ ap (or_earlier (last_text q ks)) (one_pair q k.key k.«value» m)
    ∙ or_twice (last_text q ks) (cond (is_same q k.key) k.«value» None) (text_at q m)

or_none : (a : Option (List ℕ)) → or_earlier a None ≡ a
or_none None = refl
or_none (Some x) = refl

pub the_last_counts : TheLastCounts
the_last_counts q ks = from_here q [] ks ∙ or_none (last_text q ks)
