-- Bits and their numbers.
use Rattle.std.proofs.Common.{◌≡◌, inl, inr, ℕ, zero, suc, ◌<◌, ◌==◌, Bool, true, false, List, [], ◌∷◌, map, Ok, Err, refl, ap, ◌∙◌, arith}
use Rattle.std.proofs.lemmas.Bool.{cases_lt, lt-ltb, le-ltb}
use Rattle.columns_base.specs.declared.error.Error.{Error}
use Rattle.pq_runs.specs.Hybrid.{Item, given, hybrid}
use Rattle.pq_runs.specs.Listed.{bit}
use Rattle.pq_runs.specs.Spelled.{RunsAreRead}
use Rattle.pq_bitmaps.specs.Called.{Bit, given_bits, truths}
use Rattle.pq_bitmaps.specs.Law.{BitsAreSpelled}

there : (bs : List Bool) → truths (given (map bit bs)) ≡ given_bits bs
there [] = refl
there (true ∷ bs) = ap (λ (t : List Bit). Ok true ∷ t) (there bs)
there (false ∷ bs) = ap (λ (t : List Bit). Ok false ∷ t) (there bs)

number_of_bit : (v : ℕ) (b : Bool) → v < 2 → (v == 1) ≡ b → v ≡ bit b
number_of_bit zero true h e = absurd cc
number_of_bit zero false h e = refl
number_of_bit (suc zero) true h e = refl
number_of_bit (suc zero) false h e = absurd cc
number_of_bit (suc (suc v)) b h e = absurd (omega (arith, h))

back : (items : List Item) (bs : List Bool) → truths items ≡ given_bits bs → items ≡ given (map bit bs)
back [] [] e = refl
back [] (b ∷ bs) e = absurd cc
back (Err x ∷ items) [] e = absurd cc
back (Err x ∷ items) (b ∷ bs) e = absurd cc
back (Ok v ∷ items) bs e =
    elim (cases_lt v 2) [
      | inl low ↦ by v items bs low (λ cs f. back items cs f) (rw (lt-ltb v 2 low) at e)
      | inr high ↦ none v items bs (rw (le-ltb v 2 high) at e)
    ]
  where
    by : (v : ℕ) (items : List Item) (bs : List Bool) → v < 2 → ((cs : List Bool) → truths items ≡ given_bits cs → items ≡ given (map bit cs)) → Ok (v == 1) ∷ truths items ≡ given_bits bs → Ok v ∷ items ≡ given (map bit bs)
    by v items [] low next e = absurd cc
    by v items (b ∷ bs) low next e =
        let head : (v == 1) ≡ b = cc in
        let tail : truths items ≡ given_bits bs = cc in
        rw (number_of_bit v b low head) (ap (λ (t : List Item). Ok (bit b) ∷ t) (next bs tail))

    none : (v : ℕ) (items : List Item) (bs : List Bool) {x : Error} → Err x ∷ [] ≡ given_bits bs → Ok v ∷ items ≡ given (map bit bs)
    none v items [] e = absurd cc
    none v items (b ∷ bs) e = absurd cc

pub bits_spelled : RunsAreRead → BitsAreSpelled
bits_spelled read n bytes bs = (
  λ s. ap truths ((read 1 n bytes (map bit bs)).0 s) ∙ there bs,
  λ e. (read 1 n bytes (map bit bs)).1 (back (hybrid 1 n bytes) bs e),
)
