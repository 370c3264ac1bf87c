-- The extremes with one more place.
use Rattle.std.proofs.Common.{◌≡◌, ℕ, zero, suc, ℤ, ◌≤ℤ◌, inl, inr, Bool, true, false, List, [], ◌∷◌, ◌++◌, Some, None, refl, ◌∙◌, arith}
use Rattle.std.specs.List.{All}
use Rattle.std.specs.Int.Signed.{≤ℤ_refl, <ℤ-≤ℤ_trans, clash_ℤ}
use Rattle.std.proofs.lemmas.Int.{by_lt_z}
use Rattle.std.proofs.lemmas.List.Elements.{All-append, Contains-append_left, Contains-push}
use Rattle.shredding.specs.Slot.{Value, truth, number, bytes}
use Rattle.pq_files.specs.Statistics.{IsBefore, IsImplied, IsUpTo}
use Rattle.page_statistics.specs.Extremes.{IsLeastAt, IsGreatestAt, AreExtremes}

implied_trans : (a b c : Bool) → IsImplied a b → IsImplied b c → IsImplied a c
implied_trans false b c h k = tt
implied_trans true b c h k = k'
  where
    k' : c ≡ true
    k' = rw h at k

number_trans : (a b c : ℤ) → a ≤ℤ b → b ≤ℤ c → a ≤ℤ c
number_trans a b c h k = by_lt_z c a (λ l. clash_ℤ (<ℤ-≤ℤ_trans l h) k) (λ l. l)

before_trans : (s t u : List ℕ) → IsBefore s t → IsBefore t u → IsBefore s u
before_trans [] t u h k = tt
before_trans (a ∷ s) [] u h k = absurd h
before_trans (a ∷ s) (b ∷ t) [] h k = absurd k
before_trans (a ∷ s) (b ∷ t) (c ∷ u) (inl h) (inl k) = inl (omega (arith, h, k))
before_trans (a ∷ s) (b ∷ t) (c ∷ u) (inl h) (inr k) = inl (omega (arith, h, k.0))
before_trans (a ∷ s) (b ∷ t) (c ∷ u) (inr h) (inl k) = inl (omega (arith, h.0, k))
before_trans (a ∷ s) (b ∷ t) (c ∷ u) (inr h) (inr k) = inr (h.0 ∙ k.0, before_trans s t u h.1 k.1)

pub up_to_trans : (u v w : Value) → IsUpTo u v → IsUpTo v w → IsUpTo u w
up_to_trans (truth a) (truth b) (truth c) h k = implied_trans a b c h k
up_to_trans (number a) (number b) (number c) h k = number_trans a b c h k
up_to_trans (bytes a) (bytes b) (bytes c) h k = before_trans a b c h k
up_to_trans (truth a) (truth b) (number c) h k = absurd k
up_to_trans (truth a) (truth b) (bytes c) h k = absurd k
up_to_trans (truth a) (number b) w h k = absurd h
up_to_trans (truth a) (bytes b) w h k = absurd h
up_to_trans (number a) (truth b) w h k = absurd h
up_to_trans (number a) (number b) (truth c) h k = absurd k
up_to_trans (number a) (number b) (bytes c) h k = absurd k
up_to_trans (number a) (bytes b) w h k = absurd h
up_to_trans (bytes a) (truth b) w h k = absurd h
up_to_trans (bytes a) (number b) w h k = absurd h
up_to_trans (bytes a) (bytes b) (truth c) h k = absurd k
up_to_trans (bytes a) (bytes b) (number c) h k = absurd k

before_self : (s : List ℕ) → IsBefore s s
before_self [] = tt
before_self (a ∷ s) = inr (refl, before_self s)

pub up_to_self : (v : Value) → IsUpTo v v
up_to_self (truth true) = refl
up_to_self (truth false) = tt
up_to_self (number z) = ≤ℤ_refl z
up_to_self (bytes s) = before_self s

one : {A : Type 0} (P : A → Type 0) (x : A) → P x → All P (x ∷ [])
one P x h zero d k = h
one P x h (suc i) d k = absurd (omega (arith, k))

module _ (value : ℕ → Value) where
  pub least_kept : (low place : ℕ) → IsUpTo (value low) (value place) → (places : List ℕ) → IsLeastAt value places low → IsLeastAt value (places ++ place ∷ []) low
  least_kept low place h places l = record {
    among = Contains-append_left places (place ∷ []) low l.among;
    least = All-append (λ i. IsUpTo (value low) (value i)) places (place ∷ []) l.least (one (λ i. IsUpTo (value low) (value i)) place h);
  }

  pub least_new : (low place : ℕ) → IsUpTo (value place) (value low) → (places : List ℕ) → IsLeastAt value places low → IsLeastAt value (places ++ place ∷ []) place
  least_new low place h places l = record {
    among = Contains-push places place;
    least = All-append (λ i. IsUpTo (value place) (value i)) places (place ∷ []) (λ k d s. up_to_trans _ _ _ h (l.least k d s)) (one (λ i. IsUpTo (value place) (value i)) place (up_to_self (value place)));
  }

  pub greatest_kept : (high place : ℕ) → IsUpTo (value place) (value high) → (places : List ℕ) → IsGreatestAt value places high → IsGreatestAt value (places ++ place ∷ []) high
  greatest_kept high place h places g = record {
    among = Contains-append_left places (place ∷ []) high g.among;
    greatest = All-append (λ i. IsUpTo (value i) (value high)) places (place ∷ []) g.greatest (one (λ i. IsUpTo (value i) (value high)) place h);
  }

  pub greatest_new : (high place : ℕ) → IsUpTo (value high) (value place) → (places : List ℕ) → IsGreatestAt value places high → IsGreatestAt value (places ++ place ∷ []) place
  greatest_new high place h places g = record {
    among = Contains-push places place;
    greatest = All-append (λ i. IsUpTo (value i) (value place)) places (place ∷ []) (λ k d s. up_to_trans _ _ _ (g.greatest k d s) h) (one (λ i. IsUpTo (value i) (value place)) place (up_to_self (value place)));
  }

  -- the first place is both
  pub first_place : (place : ℕ) → (places : List ℕ) → AreExtremes value places None → AreExtremes value (places ++ place ∷ []) (Some (record { least = place; greatest = place }))
  first_place place [] e =
      (record { among = Contains-push [] place; least = one (λ i. IsUpTo (value place) (value i)) place (up_to_self (value place)) }, record { among = Contains-push [] place; greatest = one (λ i. IsUpTo (value i) (value place)) place (up_to_self (value place)) })
  first_place place (i ∷ is) e = absurd e

  -- a further one
  pub place_further : (low high low' high' place : ℕ) → ((places : List ℕ) → IsLeastAt value places low → IsLeastAt value (places ++ place ∷ []) low') → ((places : List ℕ) → IsGreatestAt value places high → IsGreatestAt value (places ++ place ∷ []) high')
      → (places : List ℕ) → AreExtremes value places (Some (record { least = low; greatest = high })) → AreExtremes value (places ++ place ∷ []) (Some (record { least = low'; greatest = high' }))
  place_further low high low' high' place l g [] e = absurd e
  place_further low high low' high' place l g (i ∷ is) e = (l (i ∷ is) e.0, g (i ∷ is) e.1)
