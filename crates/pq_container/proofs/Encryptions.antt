-- Lists of values of which none is encrypted so far.
use Rattle.std.proofs.Common.{◌≡◌, ℕ, zero, suc, ◌+◌, ◌<◌, List, [], ◌∷◌, length, get_or, take, sym, subst, inl, inr, arith, add-one}
use Rattle.std.specs.Prelude.{Bool, true, false, MatchBool, ◌==◌}
use Rattle.std.proofs.lemmas.Bool.Decides.{eqb_tells}
use Rattle.pq_thrift.specs.declared.value.Thrift.{Thrift}
use Rattle.pq_thrift.specs.Value.{Value, view, values_view}
use Rattle.pq_metadata.specs.Encrypted.{AnyValue}

-- one that is, is one of the list
pub any_at : (P : Value → Type 0) (xs : List Thrift) (i : ℕ) (x : Thrift) → i < length xs → x ≡ get_or xs i x → P (view x) → AnyValue P (values_view xs)
any_at P [] i x h e p = absurd (omega (arith, h))
any_at P (y ∷ xs) zero x h e p = inl (subst (λ (t : Thrift). P (view t)) e p)
any_at P (y ∷ xs) (suc i) x h e p = inr (any_at P xs i x (omega (arith, h)) e p)

none_more : (P : Value → Type 0) (xs : List Thrift) (i : ℕ) (x : Thrift) → i < length xs → x ≡ get_or xs i x → ¬ AnyValue P (values_view (take i xs)) → ¬ P (view x) → AnyValue P (values_view (take (suc i) xs)) → ⊥
none_more P [] i x h e n p a = absurd (omega (arith, h))
none_more P (y ∷ xs) zero x h e n p (inl q) = p (subst (λ (t : Thrift). P (view t)) (sym e) q)
none_more P (y ∷ xs) zero x h e n p (inr q) = q
none_more P (y ∷ xs) (suc i) x h e n p (inl q) = n (inl q)
none_more P (y ∷ xs) (suc i) x h e n p (inr q) = none_more P xs i x (omega (arith, h)) e (λ r. n (inr r)) p q

pub none_next : (P : Value → Type 0) (xs : List Thrift) (i : ℕ) (x : Thrift) → i < length xs → x ≡ get_or xs i x → ¬ AnyValue P (values_view (take i xs)) → ¬ P (view x) → ¬ AnyValue P (values_view (take (i + 1) xs))
none_next P xs i x h e n p = rw add-one (λ a. none_more P xs i x h e n p a)

-- ---- what a test tells

pub if_true : (b : Bool) (P Q : Type 0) → b ≡ true → MatchBool b P Q → P
if_true true P Q e m = m
if_true false P Q e m = cc e

pub if_false : (b : Bool) (P Q : Type 0) → b ≡ false → MatchBool b P Q → Q
if_false true P Q e m = cc e
if_false false P Q e m = m

pub equal_test : (a b : ℕ) (P : Type 0) → (a ≡ b → P) → (P → a ≡ b) → MatchBool (a == b) P (¬ P)
equal_test a b P f g =
    elim (eqb_tells a b) [
      | inl p ↦ subst (λ t. MatchBool t P (¬ P)) (sym p.0) (f p.1)
      | inr q ↦ subst (λ t. MatchBool t P (¬ P)) (sym q.0) (λ x. q.1 (g x))
    ]
