-- Pieces by their lengths.
use Rattle.std.proofs.Common.{◌≡◌, ◌-◌, ◌<◌, ◌≤◌, ℕ, zero, suc, min, List, [], ◌∷◌, ◌++◌, length, take, drop, flat_map, Option, Some, None, refl, sym, ap, subst, ◌∙◌, inl, inr, arith, length-append}
use Rattle.std.proofs.lemmas.Bool.{cases_lt}
use Rattle.std.proofs.lemmas.List.{append-nil, take_all}
use Rattle.std.proofs.Math.Seq.{take-append_seam, drop-append_seam}
use Rattle.std.proofs.Math.ListN.{drop_of_length-le}
use Rattle.shredding.specs.Cut.{cut, pieces, whole}
use Rattle.pq_headline.specs.Laws.{Steps}

abbrev pub joined : {A : Type 0} → List (List A) → List A
joined ps = flat_map (λ p. p) ps

nothing : {A : Type 0} (xs : List A) → length xs ≡ 0 → xs ≡ []
nothing [] e = refl
nothing (x ∷ xs) e = absurd (omega arith)

-- the number of all
pub counted_steps : {A : Type 0} (n : Option ℕ) (left : ℕ) (ps : List (List A)) → Steps n left ps → length (joined ps) ≡ left
counted_steps n left [] s = sym s
counted_steps None left (p ∷ ps) s = length-append p (joined ps) ∙ omega (arith, s.0, counted_steps None (left - length p) ps s.2)
counted_steps (Some n) left (p ∷ ps) s = length-append p (joined ps) ∙ omega (arith, s.0, counted_steps (Some n) (left - length p) ps s.2)

no_more : {A : Type 0} (n : Option ℕ) (ps : List (List A)) → Steps n 0 ps → ps ≡ []
no_more n [] s = refl
no_more None (p ∷ ps) s = absurd (omega (arith, s.0, s.1))
no_more (Some n) (p ∷ ps) s = absurd (omega (arith, s.0, s.1))

record IsFront {A : Type 0} (n : ℕ) (p rest : List A) : Type 0 where
  taken : take n (p ++ rest) ≡ p
  dropped : drop n (p ++ rest) ≡ rest

even : {A : Type 0} (n : ℕ) (p rest : List A) → length p ≡ n → IsFront n p rest
even n p rest e = record {
  taken = ap (λ k. take k (p ++ rest)) (sym e) ∙ take-append_seam p rest;
  dropped = ap (λ k. drop k (p ++ rest)) (sym e) ∙ drop-append_seam p rest;
}

last : {A : Type 0} (n : ℕ) (p rest : List A) → length p ≤ n → rest ≡ [] → IsFront n p rest
last n p rest h e =
    let whole_is : p ++ rest ≡ p = ap (λ r. p ++ r) e ∙ append-nil p in
    record {
      taken = ap (take n) whole_is ∙ take_all n p h;
      dropped = ap (drop n) whole_is ∙ drop_of_length-le p h ∙ sym e;
    }

front : {A : Type 0} (n left : ℕ) (p : List A) (ps : List (List A)) → length p ≡ min n left → Steps (Some n) (left - length p) ps → IsFront n p (joined ps)
front n left p ps e s =
    let c : length (joined ps) ≡ left - length p = counted_steps (Some n) (left - length p) ps s in
    elim (cases_lt left n) [
      | inl h ↦ last n p (joined ps) (omega arith) (nothing (joined ps) (omega arith))
      | inr h ↦ even n p (joined ps) (omega arith)
    ]

by_fuel : {A : Type 0} (fuel n left : ℕ) (ps : List (List A)) → length (joined ps) ≤ fuel → Steps (Some n) left ps → pieces fuel n (joined ps) ≡ ps
by_fuel zero n left [] h s = refl
by_fuel zero n left ([] ∷ ps) h s = absurd (omega (arith, s.1))
by_fuel zero n left ((x ∷ p) ∷ ps) h s = absurd (omega (arith, length-append (x ∷ p) (joined ps)))
by_fuel (suc fuel) n left [] h s = refl
by_fuel (suc fuel) n left ([] ∷ ps) h s = absurd (omega (arith, s.1))
by_fuel (suc fuel) n left ((x ∷ p) ∷ ps) h s =
    let f : IsFront n (x ∷ p) (joined ps) = front n left (x ∷ p) ps s.0 s.2 in
    let rest : pieces fuel n (joined ps) ≡ ps = by_fuel fuel n (left - length (x ∷ p)) ps (omega (arith, length-append (x ∷ p) (joined ps))) s.2 in
    ap (λ q. q ∷ pieces fuel n (drop n ((x ∷ p) ++ joined ps))) f.taken ∙ ap (λ r. (x ∷ p) ∷ pieces fuel n r) f.dropped ∙ ap (λ r. (x ∷ p) ∷ r) rest

as_whole : {A : Type 0} (p : List A) → 0 < length p → whole p ≡ p ∷ []
as_whole [] h = absurd (omega arith)
as_whole (x ∷ p) h = refl

zero_left : (left k : ℕ) → k ≡ left → left - k ≡ 0
zero_left left k e = omega arith

pub cut_is : {A : Type 0} (n : Option ℕ) (left : ℕ) (ps : List (List A)) → Steps n left ps → cut (joined ps) n ≡ ps
cut_is (Some n) left ps s = by_fuel (length (joined ps)) n left ps (omega arith) s
cut_is None left [] s = refl
cut_is None left (p ∷ ps) s =
    let none : ps ≡ [] = no_more None ps (subst (λ k. Steps None k ps) (zero_left left (length p) s.0) s.2) in
    ap (λ qs. whole (p ++ joined qs)) none ∙ ap whole (append-nil p) ∙ as_whole p s.1 ∙ ap (λ qs. p ∷ qs) (sym none)
