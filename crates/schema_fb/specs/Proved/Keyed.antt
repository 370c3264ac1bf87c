-- What an entry that is put into an ordered map changes.
use Rattle.std.proofs.Common.{◌≡◌, Bool, true, false, cond, List, [], ◌∷◌, Some, None, refl, sym, ap, ◌∙◌}
use Rattle.std.specs.BTreeMap.{insert_entry, is_at}
use Rattle.std.specs.Cmp.{IsTotalOrder}
use Rattle.std.specs.List.{AllByRecursion}
use Rattle.std.specs.List.Sorted.{IsStrictlySortedBy}
use Rattle.std.specs.Map.{keys_of, lookup, remove_entry}
use Rattle.std.specs.Ordering.{is_eq, ordering_reverse}
use Rattle.std.specs.declared.cmp.Ordering.{Ordering}
use Rattle.std.specs.declared.cmp.Ordering.TheVariants.{Less, Equal, Greater}

its_own : (o : Ordering) → o ≡ ordering_reverse o → o ≡ Equal
its_own Less e = absurd cc
its_own Equal e = refl
its_own Greater e = absurd cc

module _ {K : Type 0} (R : K → K → Ordering) (total : IsTotalOrder R) where
  pub same_key : (k : K) → R k k ≡ Equal
  same_key k = its_own (R k k) (total.antisymm k k)

  alike : (k l j : K) → R k l ≡ Equal → R j l ≡ R j k
  alike k l j h = total.antisymm j l ∙ ap ordering_reverse (sym (total.congr k l j h)) ∙ sym (total.antisymm j k)

  pub comes_after : (k j : K) → R k j ≡ Less → R j k ≡ Greater
  comes_after k j h = total.antisymm j k ∙ ap ordering_reverse h

  comes_before : (k l : K) → R k l ≡ Greater → R l k ≡ Less
  comes_before k l h = total.antisymm l k ∙ ap ordering_reverse h

  further : (j k : K) (ks : List K) → R j k ≡ Less → AllByRecursion (λ y. R k y ≡ Less) ks → AllByRecursion (λ y. R j y ≡ Less) ks
  further j k [] h all = tt
  further j k (y ∷ ks) h all = (total.trans j k y h all.0, further j k ks h all.1)

module _ {K X : Type 0} (R : K → K → Ordering) (total : IsTotalOrder R) where
  -- what stands under the key
  pub found : (k : K) (v : X) (es : List (K × X)) → lookup (is_at (R k)) (insert_entry R es k v) ≡ Some v
  found k v [] = rw (same_key R total k) refl
  found k v (e ∷ es) = at (R k e.0) refl (found k v es)
    where
      at : (o : Ordering) → R k e.0 ≡ o → lookup (is_at (R k)) (insert_entry R es k v) ≡ Some v → lookup (is_at (R k)) (insert_entry R (e ∷ es) k v) ≡ Some v
      at Less h ih = rw (h, same_key R total k) refl
      at Equal h ih = rw (h, h) refl
      at Greater h ih = rw (h, h) ih

  -- under another key nothing changes
  pub passed_by : (j k : K) (v : X) (es : List (K × X)) → is_eq (R j k) ≡ false → lookup (is_at (R j)) (insert_entry R es k v) ≡ lookup (is_at (R j)) es
  passed_by j k v [] other = rw other refl
  passed_by j k v (e ∷ es) other = at (R k e.0) refl (passed_by j k v es other)
    where
      at : (o : Ordering) → R k e.0 ≡ o → lookup (is_at (R j)) (insert_entry R es k v) ≡ lookup (is_at (R j)) es → lookup (is_at (R j)) (insert_entry R (e ∷ es) k v) ≡ lookup (is_at (R j)) (e ∷ es)
      at Less h ih = rw (h, other) refl
      at Equal h ih =
          let apart : is_eq (R j e.0) ≡ false = ap is_eq (alike R total k e.0 j h) ∙ other in
          rw (h, apart) refl
      at Greater h ih = rw h (ap (cond (is_eq (R j e.0)) (Some e.1)) ih)

  -- taken out again, it leaves what was there
  pub taken_out : (k : K) (v : X) (es : List (K × X)) → lookup (is_at (R k)) es ≡ None → remove_entry (is_at (R k)) (insert_entry R es k v) ≡ es
  taken_out k v [] none = rw (same_key R total k) refl
  taken_out k v (e ∷ es) none = at (R k e.0) refl (taken_out k v es)
    where
      at : (o : Ordering) → R k e.0 ≡ o → (lookup (is_at (R k)) es ≡ None → remove_entry (is_at (R k)) (insert_entry R es k v) ≡ es) → remove_entry (is_at (R k)) (insert_entry R (e ∷ es) k v) ≡ e ∷ es
      at Less h ih = rw (h, same_key R total k) refl
      at Equal h ih =
          let found : Some e.1 ≡ None = rw h at none in
          absurd cc
      at Greater h ih =
          let rest : lookup (is_at (R k)) es ≡ None = rw h at none in
          rw (h, h) (ap (λ (t : List (K × X)). e ∷ t) (ih rest))

  -- and so does one before which another was put
  pub taken_behind : (j k : K) (n d : X) (es : List (K × X)) → R k j ≡ Less → lookup (is_at (R j)) es ≡ None
      → remove_entry (is_at (R j)) (insert_entry R (insert_entry R es j n) k d) ≡ insert_entry R es k d
  taken_behind j k n d [] first none = rw (first, comes_after R total k j first, same_key R total j) refl
  taken_behind j k n d (e ∷ es) first none = at (R j e.0) refl (taken_behind j k n d es first)
    where
      Claim : List (K × X) → Type 0
      Claim fs = remove_entry (is_at (R j)) (insert_entry R (insert_entry R fs j n) k d) ≡ insert_entry R fs k d

      within : (o : Ordering) → R k e.0 ≡ o → R j e.0 ≡ Greater → lookup (is_at (R j)) es ≡ None → Claim es → Claim (e ∷ es)
      within Less h g rest ih = rw (g, h, comes_after R total k j first, g) (ap (λ (t : List (K × X)). (k, d) ∷ e ∷ t) (taken_out j n es rest))
      within Equal h g rest ih = rw (g, h, g) (ap (λ (t : List (K × X)). (e.0, d) ∷ t) (taken_out j n es rest))
      within Greater h g rest ih = rw (g, h, g) (ap (λ (t : List (K × X)). e ∷ t) ih)

      at : (o : Ordering) → R j e.0 ≡ o → (lookup (is_at (R j)) es ≡ None → Claim es) → Claim (e ∷ es)
      at Less h ih = rw (h, first, total.trans k j e.0 first h, comes_after R total k j first, same_key R total j) refl
      at Equal h ih =
          let found : Some e.1 ≡ None = rw h at none in
          absurd cc
      at Greater h ih =
          let rest : lookup (is_at (R j)) es ≡ None = rw h at none in
          within (R k e.0) refl h rest (ih rest)

  -- ---- keys that ascend

  still_after : (x k : K) (v : X) (es : List (K × X)) → R x k ≡ Less → AllByRecursion (λ y. R x y ≡ Less) (keys_of es) → AllByRecursion (λ y. R x y ≡ Less) (keys_of (insert_entry R es k v))
  still_after x k v [] h all = (h, tt)
  still_after x k v (e ∷ es) h all = at (R k e.0) refl (still_after x k v es h all.1)
    where
      at : (o : Ordering) → R k e.0 ≡ o → AllByRecursion (λ y. R x y ≡ Less) (keys_of (insert_entry R es k v)) → AllByRecursion (λ y. R x y ≡ Less) (keys_of (insert_entry R (e ∷ es) k v))
      at Less g ih = rw g (h, all)
      at Equal g ih = rw g all
      at Greater g ih = rw g (all.0, ih)

  pub still_ascends : (k : K) (v : X) (es : List (K × X)) → IsStrictlySortedBy R (keys_of es) → IsStrictlySortedBy R (keys_of (insert_entry R es k v))
  unfolding IsStrictlySortedBy
  still_ascends k v [] s = (tt, tt)
  still_ascends k v (e ∷ es) s = at (R k e.0) refl (still_ascends k v es s.1)
    where
      at : (o : Ordering) → R k e.0 ≡ o → IsStrictlySortedBy R (keys_of (insert_entry R es k v)) → IsStrictlySortedBy R (keys_of (insert_entry R (e ∷ es) k v))
      at Less g ih = rw g ((g, further R total k e.0 (keys_of es) g s.0), s)
      at Equal g ih = rw g s
      at Greater g ih = rw g (still_after e.0 k v es (comes_before R total k e.0 g) s.0, ih)

-- a key that is not there cannot be taken out
pub not_there : {K X : Type 0} (R : K → K → Ordering) (k : K) (es : List (K × X)) → lookup (is_at (R k)) es ≡ None → remove_entry (is_at (R k)) es ≡ es
not_there R k [] none = refl
not_there {K = K} {X = X} R k (e ∷ es) none = at (is_eq (R k e.0)) refl (not_there R k es)
  where
    at : (b : Bool) → is_eq (R k e.0) ≡ b → (lookup (is_at (R k)) es ≡ None → remove_entry (is_at (R k)) es ≡ es) → remove_entry (is_at (R k)) (e ∷ es) ≡ e ∷ es
    at true h ih =
        let found : Some e.1 ≡ None = rw h at none in
        absurd cc
    at false h ih =
        let rest : lookup (is_at (R k)) es ≡ None = rw h at none in
        rw h (ap (λ (t : List (K × X)). e ∷ t) (ih rest))

-- each key and each text
pub still_all : {K X : Type 0} (R : K → K → Ordering) (P : K → Type 0) (Q : X → Type 0) (k : K) (v : X) (es : List (K × X)) → P k → Q v → AllByRecursion (λ e. P e.0 × Q e.1) es → AllByRecursion (λ e. P e.0 × Q e.1) (insert_entry R es k v)
still_all R P Q k v [] p q all = ((p, q), tt)
still_all {K = K} {X = X} R P Q k v (e ∷ es) p q all = at (R k e.0) refl (still_all R P Q k v es p q all.1)
  where
    at : (o : Ordering) → R k e.0 ≡ o → AllByRecursion (λ e. P e.0 × Q e.1) (insert_entry R es k v) → AllByRecursion (λ e. P e.0 × Q e.1) (insert_entry R (e ∷ es) k v)
    at Less g ih = rw g ((p, q), all)
    at Equal g ih = rw g ((all.0.0, q), all.1)
    at Greater g ih = rw g (all.0, ih)
