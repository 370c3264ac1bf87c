-- Words in another order.
use Rattle.std.proofs.Common.{◌≡◌, ◌⊎◌, ℕ, ◌≤◌, List, [], ◌∷◌, ◌++◌, Option, Some, None, option_map, length, refl, ap, inl, inr, arith}
use Rattle.std.specs.Option.{option_and_then}
use Rattle.std.specs.List.{filter_map, cons_option}
use Rattle.rewrite_words.specs.declared.setting.Setting.{Setting}
use Rattle.rewrite_words.specs.Words.{setting_of, settings_of, version_in, page_limit_in, chunk_size_in, statistics_in, delta_in, key_rule_in, byte_limit_in, pair_limit_in, sole, options_with, options_of}

-- the same list, or both of two values or more
Alike : {A : Type 0} → List A → List A → Type 0
Alike {A} xs ys = (xs ≡ ys) ⊎ ((2 ≤ length xs) × (2 ≤ length ys))

two_or_more : {A : Type 0} (xs : List A) → 2 ≤ length xs → sole xs ≡ None
two_or_more [] h = absurd (omega arith)
two_or_more (x ∷ []) h = absurd (omega arith)
two_or_more (x ∷ y ∷ xs) h = refl

alike_sole : {A : Type 0} (xs ys : List A) → Alike xs ys → sole xs ≡ sole ys
unfolding Alike
alike_sole xs ys (inl e) = ap sole e
alike_sole xs ys (inr h) = rw (two_or_more xs h.0) (rw (two_or_more ys h.1) refl)

neighbours : {A : Type 0} (o p : Option A) (xs : List A) → Alike (cons_option o (cons_option p xs)) (cons_option p (cons_option o xs))
unfolding Alike
neighbours None p xs = inl refl
neighbours (Some x) None xs = inl refl
neighbours (Some x) (Some y) xs = inr (omega arith, omega arith)

behind : {A : Type 0} (o : Option A) (xs ys : List A) → Alike xs ys → Alike (cons_option o xs) (cons_option o ys)
unfolding Alike
behind None xs ys h = h
behind (Some x) xs ys (inl e) = inl (ap (λ zs. x ∷ zs) e)
behind (Some x) xs ys (inr h) = inr (omega (arith, h.0), omega (arith, h.1))

values : {A : Type 0} (f : Setting → Option A) (before : List Setting) (s t : Setting) (after : List Setting)
    → Alike (filter_map f (before ++ (s ∷ t ∷ after))) (filter_map f (before ++ (t ∷ s ∷ after)))
values f [] s t after = neighbours (f s) (f t) (filter_map f after)
values f (x ∷ before) s t after = behind (f x) _ _ (values f before s t after)

same : {A : Type 0} (f : Setting → Option A) (before : List Setting) (s t : Setting) (after : List Setting)
    → sole (filter_map f (before ++ (s ∷ t ∷ after))) ≡ sole (filter_map f (before ++ (t ∷ s ∷ after)))
same f before s t after = alike_sole _ _ (values f before s t after)

same_options : (before : List Setting) (s t : Setting) (after : List Setting) → options_with (before ++ (s ∷ t ∷ after)) ≡ options_with (before ++ (t ∷ s ∷ after))
same_options before s t after =
    rw (same version_in before s t after) (rw (same page_limit_in before s t after) (rw (same chunk_size_in before s t after)
    (rw (same statistics_in before s t after) (rw (same delta_in before s t after) (rw (same key_rule_in before s t after)
    (rw (same byte_limit_in before s t after) (rw (same pair_limit_in before s t after) refl)))))))

-- no settings, or settings of which two neighbours changed places
data Turned : Option (List Setting) → Option (List Setting) → Type 0 where
  neither : Turned None None
  both : (before : List Setting) (s t : Setting) (after : List Setting) → Turned (Some (before ++ (s ∷ t ∷ after))) (Some (before ++ (t ∷ s ∷ after)))

first_two : (o p : Option Setting) (q : Option (List Setting))
    → Turned (option_and_then (λ s. option_map (λ more. s ∷ more) (option_and_then (λ t. option_map (λ more. t ∷ more) q) p)) o)
    (option_and_then (λ s. option_map (λ more. s ∷ more) (option_and_then (λ t. option_map (λ more. t ∷ more) q) o)) p)
first_two None None q = neither
first_two None (Some t) q = neither
first_two (Some s) None q = neither
first_two (Some s) (Some t) None = neither
first_two (Some s) (Some t) (Some after) = both [] s t after

one_before : (s : Setting) {o p : Option (List Setting)} → Turned o p → Turned (option_map (λ more. s ∷ more) o) (option_map (λ more. s ∷ more) p)
one_before s neither = neither
one_before s (both before t u after) = both (s ∷ before) t u after

next : (o : Option Setting) (p q : Option (List Setting)) → Turned p q
    → Turned (option_and_then (λ s. option_map (λ more. s ∷ more) p) o) (option_and_then (λ s. option_map (λ more. s ∷ more) q) o)
next None p q h = neither
next (Some s) p q h = one_before s h

turned : (before : List (List ℕ)) (one other : List ℕ) (after : List (List ℕ))
    → Turned (settings_of (before ++ (one ∷ other ∷ after))) (settings_of (before ++ (other ∷ one ∷ after)))
turned [] one other after = first_two (setting_of one) (setting_of other) (settings_of after)
turned (word ∷ before) one other after = next (setting_of word) _ _ (turned before one other after)

answer : {o p : Option (List Setting)} → Turned o p → option_and_then options_with o ≡ option_and_then options_with p
answer neither = refl
answer (both before s t after) = same_options before s t after

pub in_any_order : (before : List (List ℕ)) (one other : List ℕ) (after : List (List ℕ)) → options_of (before ++ (one ∷ other ∷ after)) ≡ options_of (before ++ (other ∷ one ∷ after))
unfolding options_of
in_any_order before one other after = answer (turned before one other after)
