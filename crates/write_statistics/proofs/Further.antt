-- The least and the greatest of a number more.
use Rattle.std.proofs.Common.{◌≡◌, ℤ, ◌≤ℤ◌, ◌<ℤ◌, ◌⊎◌, List, [], ◌∷◌, ◌++◌, Option, Some, None, zero, suc, inl, inr, arith}
use Rattle.std.specs.List.{All}
use Rattle.std.specs.Int.Signed.{≤ℤ_refl, <ℤ-≤ℤ_trans, <ℤ_irrefl, clash_ℤ}
use Rattle.std.specs.Cmp.{int_chain}
use Rattle.std.proofs.lemmas.Int.{by_lt_z}
use Rattle.std.proofs.lemmas.List.Elements.{All-append, Contains-append_left, Contains-push}
use Rattle.write_statistics.specs.Extremes.{IsLeast, IsGreatest, AreExtremes}

at_most : (a b : ℤ) → (a <ℤ b → ⊥) → b ≤ℤ a
at_most a b h = by_lt_z a b (λ l. absurd (h l)) (λ l. l)

below_too : (a b : ℤ) → a <ℤ b → a ≤ℤ b
below_too a b h = by_lt_z b a (λ l. absurd (<ℤ_irrefl (int_chain a b a h l))) (λ l. l)

above_all : (a b c : ℤ) → a ≤ℤ b → b <ℤ c → a ≤ℤ c
above_all a b c h k = by_lt_z c a (λ l. clash_ℤ (int_chain b c a k l) h) (λ l. l)

one : {A : Type 0} (P : A → Type 0) (x : A) → P x → All P (x ∷ [])
one P x h zero d k = h
one P x h (suc i) d k = absurd (omega (arith, k))

pub least_kept : {A : Type 0} (ordinal : A → ℤ) (low x : A) → (ordinal x <ℤ ordinal low → ⊥) → (xs : List A) → IsLeast ordinal xs low → IsLeast ordinal (xs ++ x ∷ []) low
least_kept ordinal low x h xs l = record {
  among = Contains-append_left xs (x ∷ []) low l.among;
  least = All-append (λ y. ordinal low ≤ℤ ordinal y) xs (x ∷ []) l.least (one (λ y. ordinal low ≤ℤ ordinal y) x (at_most (ordinal x) (ordinal low) h));
}

pub least_new : {A : Type 0} (ordinal : A → ℤ) (low x : A) → ordinal x <ℤ ordinal low → (xs : List A) → IsLeast ordinal xs low → IsLeast ordinal (xs ++ x ∷ []) x
least_new ordinal low x h xs l = record {
  among = Contains-push xs x;
  least = All-append (λ y. ordinal x ≤ℤ ordinal y) xs (x ∷ []) (λ k d s. below_too _ _ (<ℤ-≤ℤ_trans h (l.least k d s))) (one (λ y. ordinal x ≤ℤ ordinal y) x (≤ℤ_refl (ordinal x)));
}

pub greatest_kept : {A : Type 0} (ordinal : A → ℤ) (high x : A) → (ordinal high <ℤ ordinal x → ⊥) → (xs : List A) → IsGreatest ordinal xs high → IsGreatest ordinal (xs ++ x ∷ []) high
greatest_kept ordinal high x h xs g = record {
  among = Contains-append_left xs (x ∷ []) high g.among;
  greatest = All-append (λ y. ordinal y ≤ℤ ordinal high) xs (x ∷ []) g.greatest (one (λ y. ordinal y ≤ℤ ordinal high) x (at_most (ordinal high) (ordinal x) h));
}

pub greatest_new : {A : Type 0} (ordinal : A → ℤ) (high x : A) → ordinal high <ℤ ordinal x → (xs : List A) → IsGreatest ordinal xs high → IsGreatest ordinal (xs ++ x ∷ []) x
greatest_new ordinal high x h xs g = record {
  among = Contains-push xs x;
  greatest = All-append (λ y. ordinal y ≤ℤ ordinal x) xs (x ∷ []) (λ k d s. above_all _ _ _ (g.greatest k d s) h) (one (λ y. ordinal y ≤ℤ ordinal x) x (≤ℤ_refl (ordinal x)));
}

-- the first number is both
pub first_of_all : {A : Type 0} (ordinal : A → ℤ) (x : A) (low high : Option A) → (low ≡ None) ⊎ (high ≡ None) → (xs : List A) → AreExtremes ordinal xs low high → AreExtremes ordinal (xs ++ x ∷ []) (Some x) (Some x)
first_of_all ordinal x None None h [] e =
    (record { among = Contains-push [] x; least = one (λ y. ordinal x ≤ℤ ordinal y) x (≤ℤ_refl (ordinal x)) }, record { among = Contains-push [] x; greatest = one (λ y. ordinal y ≤ℤ ordinal x) x (≤ℤ_refl (ordinal x)) })
first_of_all ordinal x None None h (y ∷ ys) e = absurd e
first_of_all ordinal x None (Some b) h [] e = absurd e
first_of_all ordinal x None (Some b) h (y ∷ ys) e = absurd e
first_of_all ordinal x (Some a) None h [] e = absurd e
first_of_all ordinal x (Some a) None h (y ∷ ys) e = absurd e
first_of_all ordinal x (Some a) (Some b) (inl h) xs e = cc
first_of_all ordinal x (Some a) (Some b) (inr h) xs e = cc

-- a further one
pub one_further : {A : Type 0} (ordinal : A → ℤ) (low high low' high' x : A) → ((xs : List A) → IsLeast ordinal xs low → IsLeast ordinal (xs ++ x ∷ []) low') → ((xs : List A) → IsGreatest ordinal xs high → IsGreatest ordinal (xs ++ x ∷ []) high')
    → (xs : List A) → AreExtremes ordinal xs (Some low) (Some high) → AreExtremes ordinal (xs ++ x ∷ []) (Some low') (Some high')
one_further ordinal low high low' high' x l g [] e = absurd e
one_further ordinal low high low' high' x l g (y ∷ ys) e = (l (y ∷ ys) e.0, g (y ∷ ys) e.1)
