-- One key more.
use Rattle.std.proofs.Common.{◌≡◌, ◌≢◌, ◌⊎◌, inl, inr, ℕ, ◌+◌, ◌-◌, ◌^◌, ◌<◌, ◌≤◌, min, max, List, [], ◌∷◌, ◌++◌, map, refl, sym, subst, arith}
use Rattle.std.specs.Prelude.{Contains}
use Rattle.std.proofs.lemmas.Bool.{cases_lt}
use Rattle.std.proofs.lemmas.List.{map-append}
use Rattle.std.proofs.lemmas.List.Elements.{All-push, All-weaker, Contains-append_left, Contains-push}
use Rattle.columns_slots.specs.Slots.{entry_at, keys_in, tree_len}
use Rattle.columns_slots.specs.Tree.{ArrayTree}
use Rattle.pq_tree.specs.Physical.{Physical, boolean}
use Rattle.pq_files.specs.Layout.{plain_length}
use Rattle.write_values.specs.Stored.{stored_at}
use Rattle.write_values.proofs.InRows.{adds_list}
use Rattle.dictionary_pages.specs.declared.reached.Reached.{Reached}
use Rattle.dictionary_pages.specs.Indices.{IsLargest}
use Rattle.dictionary_pages.specs.Reached.{Reaches}

largest_more : (ns : List ℕ) (n e m : ℕ) → m ≡ max n e → IsLargest ns n → IsLargest (ns ++ (e ∷ [])) m
largest_more ns n e m is l =
    record {
      most = All-push (λ k. k ≤ m) ns e (All-weaker (λ k. k ≤ n) (λ k. k ≤ m) (λ k h. omega (arith, h, is)) ns l.most) (omega (arith, is));
      among = by (cases_lt n e) l.among;
    }
  where
    by : (n < e) ⊎ (e ≤ n) → (n ≡ 0) ⊎ Contains ns n → (m ≡ 0) ⊎ Contains (ns ++ (e ∷ [])) m
    by (inl h) c = let k : e ≡ m = omega (arith, is, h) in inr (subst (Contains (ns ++ (e ∷ []))) k (Contains-push ns e))
    by (inr h) (inl z) = inl (omega (arith, is, h, z))
    by (inr h) (inr c) = let k : n ≡ m = omega (arith, is, h) in inr (subst (Contains (ns ++ (e ∷ []))) k (Contains-append_left ns (e ∷ []) n c))

pub reaches_more : (p : Physical) (a : ArrayTree) (places : List ℕ) (i e m : ℕ) (first old new : Reached) → p ≢ boolean → i < tree_len a → e ≡ entry_at (keys_in a) i → m ≡ plain_length p (map (stored_at a p) (i ∷ []))
    → new.values.values ≡ min (old.values.values + 1) (2 ^ 64 - 1) → new.values.plain ≡ min (old.values.plain + m) (2 ^ 128 - 1) → new.largest ≡ max old.largest e → Reaches p a places first old → Reaches p a (places ++ (i ∷ [])) first new
reaches_more p a places i e m first old new n low is size v s l h =
    let f = entry_at (keys_in a) in
    record {
      values = adds_list p (tree_len a) (stored_at a p) places first.values old.values new.values (i ∷ []) 1 m n (low, tt) refl h.values size v s;
      largest = λ z. subst (λ ns. IsLargest ns new.largest) (sym (map-append f places (i ∷ []))) (subst (λ k. IsLargest (map f places ++ (k ∷ [])) new.largest) is (largest_more (map f places) old.largest e new.largest l (h.largest z)));
    }

-- of the same array and physical type
pub reaches_same : (p q : Physical) (a b : ArrayTree) (places more : List ℕ) (first old new : Reached) → p ≡ q → a ≡ b → (Reaches p a places first old → Reaches p a more first new) → Reaches q b places first old → Reaches q b more first new
reaches_same p q a b places more first old new e d f h =
    subst (λ (x : ArrayTree). Reaches q x more first new) d
    (subst (λ (r : Physical). Reaches r a more first new) e (f (subst (λ (r : Physical). Reaches r a places first old) (sym e) (subst (λ (x : ArrayTree). Reaches q x places first old) (sym d) h))))
