-- Places picked by a word, run by run.
use Rattle.std.proofs.Common.{◌≡◌, ℕ, cond, ◌-◌, ◌+◌, ◌/◌, ◌%◌, ◌^◌, ◌≤◌, ◌<◌, Bool, List, [], ◌∷◌, ◌++◌, ap, sym, subst, ◌∙◌, arith}
use Rattle.std.specs.Prelude.{◌==◌}
use Rattle.std.specs.Int.{bit_at, w64, trailing_zeros, trailing_ones}
use Rattle.std.proofs.lemmas.Nat.{shr-shr, shr_below}
use Rattle.write_places.specs.Places.{gather, picked, range}
use Rattle.write_places.specs.Reach.{IsRun}
use Rattle.write_places.proofs.Bits.{run_is}
use Rattle.write_places.proofs.Gather.{gather-alike, gather-nothing, gather-split}

-- whether a place is picked
abbrev pub chosen : ℕ → ℕ → ℕ → List ℕ
chosen word from i = cond (bit_at word (i - from) == 1) (i ∷ []) []

pub shifted : (v g i : ℕ) → bit_at (v / 2 ^ g) i ≡ bit_at v (g + i)
shifted v g i = ap (λ (j : ℕ). j % 2) (shr-shr v g i)

-- the places that are picked side by side first, and those behind them
pub record IsFirstRun (word from count gap run : ℕ) : Type 0 where
  pub some : 0 < gap + run
  pub within : gap + run ≤ count
  pub low : word / 2 ^ gap / 2 ^ run < 2 ^ (count - (gap + run))
  pub places : picked word from count ≡ range (from + gap) run ++ picked (word / 2 ^ gap / 2 ^ run) (from + (gap + run)) (count - (gap + run))

pub first_run : (word from count : ℕ) → 0 < word → word < 18446744073709551615 → count ≤ 64 → word < 2 ^ count → IsFirstRun word from count (trailing_zeros w64 word) (trailing_ones w64 (word / 2 ^ trailing_zeros w64 word))
first_run word from count some most few low =
    let gap : ℕ = trailing_zeros w64 word in
    let run : ℕ = trailing_ones w64 (word / 2 ^ gap) in
    let at : ℕ → Bool = λ i. bit_at word (i - from) == 1 in
    let r : IsRun at from (from + count) (from + gap) (from + gap + run) = run_is at from (from + count) count word few (omega arith) low (λ j h. let n : from + j - from ≡ j = omega arith in ap (λ (k : ℕ). bit_at word k == 1) (sym n)) some most in
    let within : gap + run ≤ count = omega (arith, r.within) in
    let all : from + count - from ≡ count = omega arith in
    let front : gather (chosen word from) from (from + gap - from) ≡ [] = gather-nothing (chosen word from) from (from + gap - from) (λ i l h. ap (λ (b : Bool). cond b (i ∷ []) []) (r.gap i l (omega (arith, h)))) in
    let n : from + gap + run - (from + gap) ≡ run = omega arith in
    let mid : gather (chosen word from) (from + gap) run ≡ range (from + gap) run = gather-alike (chosen word from) (λ i. i ∷ []) (from + gap) run (λ i l h. ap (λ (b : Bool). cond b (i ∷ []) []) (r.run i l h)) in
    let k : from + count - (from + gap + run) ≡ count - (gap + run) = omega (arith, within) in
    let cut : count ≡ count - (gap + run) + (gap + run) = omega (arith, within) in
    let p : from + gap + run ≡ from + (gap + run) = omega arith in
    let behind : gather (chosen word from) (from + (gap + run)) (count - (gap + run)) ≡ picked (word / 2 ^ gap / 2 ^ run) (from + (gap + run)) (count - (gap + run)) =
    gather-alike (chosen word from) (chosen (word / 2 ^ gap / 2 ^ run) (from + (gap + run))) (from + (gap + run)) (count - (gap + run)) (λ i l h.
    let d : i - from ≡ gap + (run + (i - (from + (gap + run)))) = omega (arith, l) in
    ap (λ (b : ℕ). cond (b == 1) (i ∷ []) []) (ap (bit_at word) d ∙ (sym (shifted word gap (run + (i - (from + (gap + run))))) ∙ sym (shifted (word / 2 ^ gap) run (i - (from + (gap + run))))))) in
    record {
      some = omega (arith, r.after);
      within = within;
      low = subst (λ (m : ℕ). m < 2 ^ (count - (gap + run))) (sym (shr-shr word gap run)) (shr_below word (count - (gap + run)) (gap + run) (subst (λ (j : ℕ). word < 2 ^ j) cut low));
      places = ap (λ (j : ℕ). gather (chosen word from) from j) (sym all)
          ∙ (gather-split (chosen word from) from (from + gap) (from + count) (omega arith) (omega (arith, within))
          ∙ (ap (λ (xs : List ℕ). xs ++ gather (chosen word from) (from + gap) (from + count - (from + gap))) front
          ∙ (gather-split (chosen word from) (from + gap) (from + gap + run) (from + count) (omega arith) (omega (arith, within))
          ∙ rw (n, k, p) (ap (λ (xs : List ℕ). xs ++ gather (chosen word from) (from + (gap + run)) (count - (gap + run))) mid ∙ ap (λ (xs : List ℕ). range (from + gap) run ++ xs) behind))));
    }
