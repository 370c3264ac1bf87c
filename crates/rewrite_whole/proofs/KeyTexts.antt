-- The last text under the schema's key.
use Rattle.std.proofs.Common.{◌≡◌, ◌≢◌, ◌+◌, ◌<◌, ℕ, zero, suc, List, [], ◌∷◌, map, drop, get_or, length, true, false, cond, is_some, Option, Some, None, refl, sym, ap, ◌∙◌, arith}
use Rattle.columns_core.specs.Meta.{text_at}
use Rattle.pq_tree.specs.Footers.{Key}
use Rattle.pq_tree.specs.Views.{key_view}
use Rattle.pq_tree.specs.declared.types.KeyValue.{KeyValue}
use Rattle.schema_key.specs.Inferred.{gathered}
use Rattle.schema_key.specs.Key.{schema_key}
use Rattle.schema_key.specs.Laws.{last_text, or_earlier, TheLastCounts}
use Rattle.rewrite_whole.specs.Keys.{text_in}
use Rattle.rewrite_whole.proofs.SameTexts.{ordered_same}

one_more : (k : Key) (ks : List Key) → last_text schema_key (k ∷ ks) ≡ or_earlier (last_text schema_key ks) (text_in k)
one_more k ks = ap (λ b. or_earlier (last_text schema_key ks) (cond b k.«value» None)) (ordered_same schema_key k.key)

or_none : (o : Option (List ℕ)) → or_earlier o None ≡ o
or_none None = refl
or_none (Some s) = refl

none_of : (o : Option (List ℕ)) → is_some o ≡ false → o ≡ None
none_of None h = refl
none_of (Some s) h = absurd (never h)
  where
    never : true ≡ false → ⊥
    never h = cc

some_of : (o p : Option (List ℕ)) → is_some p ≡ true → or_earlier o p ≢ None
some_of None None h = absurd (never h)
  where
    never : false ≡ true → ⊥
    never h = cc
some_of None (Some s) h = λ e. cc
some_of (Some t) p h = λ e. cc

drop_on : (xs : List KeyValue) (i : ℕ) (x : KeyValue) → i < length xs → x ≡ get_or xs i x → map key_view (drop i xs) ≡ key_view x ∷ map key_view (drop (i + 1) xs)
drop_on [] i x lt e = absurd (omega arith)
drop_on (y ∷ xs) zero x lt e = ap (λ (z : KeyValue). key_view z ∷ map key_view xs) (sym e)
drop_on (y ∷ xs) (suc i) x lt e = let k : suc i + 1 ≡ suc (i + 1) = omega arith in drop_on xs i x (omega arith) e ∙ ap (λ n. key_view x ∷ map key_view (drop n (y ∷ xs))) (sym k)

pub passed : (xs : List KeyValue) (i : ℕ) (x : KeyValue) → i < length xs → x ≡ get_or xs i x → is_some (text_in (key_view x)) ≡ false → last_text schema_key (map key_view (drop i xs)) ≡ last_text schema_key (map key_view xs) → last_text schema_key (map key_view (drop (i + 1) xs)) ≡ last_text schema_key (map key_view xs)
passed xs i x lt e h inv =
    sym (or_none (last_text schema_key (map key_view (drop (i + 1) xs))))
    ∙ ap (or_earlier (last_text schema_key (map key_view (drop (i + 1) xs)))) (sym (none_of (text_in (key_view x)) h))
    ∙ sym (one_more (key_view x) (map key_view (drop (i + 1) xs)))
    ∙ ap (last_text schema_key) (sym (drop_on xs i x lt e))
    ∙ inv

pub found : (xs : List KeyValue) (i : ℕ) (x : KeyValue) → TheLastCounts → i < length xs → x ≡ get_or xs i x → is_some (text_in (key_view x)) ≡ true → last_text schema_key (map key_view (drop i xs)) ≡ last_text schema_key (map key_view xs) → text_at schema_key (gathered (map key_view xs)) ≢ None
found xs i x law lt e h inv =
    let is : text_at schema_key (gathered (map key_view xs)) ≡ or_earlier (last_text schema_key (map key_view (drop (i + 1) xs))) (text_in (key_view x)) =
    law schema_key (map key_view xs) ∙ sym inv ∙ ap (last_text schema_key) (drop_on xs i x lt e) ∙ one_more (key_view x) (map key_view (drop (i + 1) xs)) in
    λ none. some_of (last_text schema_key (map key_view (drop (i + 1) xs))) (text_in (key_view x)) h (sym is ∙ none)
