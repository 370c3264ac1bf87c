-- Lists of pairs of texts.
use Rattle.std.proofs.Common.{◌≡◌, ℕ, Bool, true, false, cond, Option, Some, None, Bor, option_copied, option_map, List, [], ◌∷◌, String, Global, string_bytes, ◌&&◌, refl, ap, rules, arith}
use Rattle.std.specs.Cmp.Lexicographic.{pointwise}
use Rattle.std.specs.List.{AllZip}
use Rattle.columns_core.specs.Meta.{texts, entry_eq, meta_eq, KeysAscend, text_at, with_text, without_key}
use Rattle.std.specs.BTreeMap.{insert_entry, is_at}
use Rattle.std.specs.Map.{keys_of, lookup, remove_entry}
use Rattle.std.specs.List.Sorted.{IsStrictlySortedBy}
use Rattle.std.specs.List.{AllByRecursion}
use Rattle.std.specs.Cmp.Lexicographic.{slice_cmp}
use Rattle.std.specs.Ordering.{nat_cmp, match_ordering, is_eq}
use Rattle.std.specs.String.{string_cmp}
use Rattle.std.specs.declared.cmp.Ordering.{Ordering}
use Rattle.std.specs.declared.cmp.Ordering.TheVariants.{Less, Equal, Greater}

abbrev pub Entry : Type 0
Entry = String Global × String Global

pub texts-clone : (es fs : List Entry) → AllZip (λ p q. (string_bytes q.0 ≡ string_bytes p.0) × (string_bytes q.1 ≡ string_bytes p.1)) es fs → texts fs ≡ texts es
texts-clone [] [] h = refl
texts-clone [] (f ∷ fs) h = grind (arith, rules)
texts-clone (e ∷ es) [] h = grind (arith, rules)
texts-clone (e ∷ es) (f ∷ fs) h = rw (h.0.0, h.0.1, texts-clone es fs h.1) refl

pub texts-eq : (es fs : List Entry) → pointwise (λ p q. entry_eq (string_bytes p.0, string_bytes p.1) (string_bytes q.0, string_bytes q.1)) es fs ≡ meta_eq (texts es) (texts fs)
texts-eq [] [] = refl
texts-eq [] (f ∷ fs) = refl
texts-eq (e ∷ es) [] = refl
texts-eq (e ∷ es) (f ∷ fs) = ap (λ r. entry_eq (string_bytes e.0, string_bytes e.1) (string_bytes f.0, string_bytes f.1) && r) (texts-eq es fs)

-- ---- entries by their keys
after_all : (c : List ℕ) (es : List Entry) → AllByRecursion (λ k. slice_cmp nat_cmp c (string_bytes k) ≡ Less) (keys_of es) → AllByRecursion (λ k. slice_cmp nat_cmp c k ≡ Less) (keys_of (texts es))
after_all c [] h = h
after_all c (e ∷ es) h = (h.0, after_all c es h.1)

pub texts-ascend : (es : List Entry) → IsStrictlySortedBy string_cmp (keys_of es) → KeysAscend (texts es)
unfolding IsStrictlySortedBy
texts-ascend [] h = h
texts-ascend (e ∷ es) h = (after_all (string_bytes e.0) es h.0, texts-ascend es h.1)

pub texts-get : (key : List ℕ) (es : List Entry) → option_map string_bytes (lookup (is_at (λ k. slice_cmp nat_cmp key (string_bytes k))) es) ≡ text_at key (texts es)
texts-get key [] = refl
texts-get key (e ∷ es) = got (is_eq (slice_cmp nat_cmp key (string_bytes e.0))) (texts-get key es)
  where
    got : (b : Bool) → option_map string_bytes (lookup (is_at (λ k. slice_cmp nat_cmp key (string_bytes k))) es) ≡ text_at key (texts es)
        → option_map string_bytes (cond b (Some e.1) (lookup (is_at (λ k. slice_cmp nat_cmp key (string_bytes k))) es)) ≡ cond b (Some (string_bytes e.1)) (text_at key (texts es))
    got true h = refl
    got false h = h

pub texts-remove : (key : List ℕ) (es : List Entry) → texts (remove_entry (is_at (λ k. slice_cmp nat_cmp key (string_bytes k))) es) ≡ without_key key (texts es)
texts-remove key [] = refl
texts-remove key (e ∷ es) = removed (is_eq (slice_cmp nat_cmp key (string_bytes e.0))) (texts-remove key es)
  where
    removed : (b : Bool) → texts (remove_entry (is_at (λ k. slice_cmp nat_cmp key (string_bytes k))) es) ≡ without_key key (texts es)
        → texts (cond b es (e ∷ remove_entry (is_at (λ k. slice_cmp nat_cmp key (string_bytes k))) es)) ≡ cond b (texts es) ((string_bytes e.0, string_bytes e.1) ∷ without_key key (texts es))
    removed true h = refl
    removed false h = ap (λ r. (string_bytes e.0, string_bytes e.1) ∷ r) h

pub texts-insert : (key text : String Global) (es : List Entry) → texts (insert_entry string_cmp es key text) ≡ with_text (string_bytes key) (string_bytes text) (texts es)
texts-insert key text [] = refl
texts-insert key text (e ∷ es) = put (slice_cmp nat_cmp (string_bytes key) (string_bytes e.0)) (texts-insert key text es)
  where
    put : (o : Ordering) → texts (insert_entry string_cmp es key text) ≡ with_text (string_bytes key) (string_bytes text) (texts es)
        → texts (match_ordering o ((key, text) ∷ e ∷ es) ((e.0, text) ∷ es) (e ∷ insert_entry string_cmp es key text))
        ≡ match_ordering o ((string_bytes key, string_bytes text) ∷ texts (e ∷ es)) ((string_bytes e.0, string_bytes text) ∷ texts es) ((string_bytes e.0, string_bytes e.1) ∷ with_text (string_bytes key) (string_bytes text) (texts es))
    put Less h = refl
    put Equal h = refl
    put Greater h = ap (λ r. (string_bytes e.0, string_bytes e.1) ∷ r) h

pub texts-shown : (shown : Option (Bor (String Global))) (found : Option (String Global)) → option_copied shown ≡ found → option_map (λ t. string_bytes t.now) shown ≡ option_map string_bytes found
texts-shown None found e = ap (option_map string_bytes) e
texts-shown (Some t) found e = ap (option_map string_bytes) e
