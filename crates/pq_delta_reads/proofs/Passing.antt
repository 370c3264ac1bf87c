-- Numbers that are passed over.
use Rattle.std.proofs.Common.{◌≡◌, ℕ, zero, suc, ◌+◌, ◌^◌, ℤ, pos, ◌+ℤ◌, List, [], ◌∷◌, ◌++◌, length, replicate, Result, Ok, Err, refl, sym, ap, ◌∙◌, arith, append_assoc}
use Rattle.std.proofs.lemmas.List.{length-map, replicate-append-replicate}
use Rattle.std.specs.Int.{w64}
use Rattle.columns_base.specs.declared.error.Error.{Error}
use Rattle.pq_numbers.specs.Bits.{unpacked}
use Rattle.pq_numbers.specs.Texts.{number_of}
use Rattle.pq_numbers.proofs.Digits.{length-digits}
use Rattle.pq_runs.specs.Delta.{wrapped}
use Rattle.pq_runs.specs.DeltaReading.{Out, above, all}
use Rattle.pq_delta_reads.specs.Decoding.{Decoding}
use Rattle.pq_delta_reads.specs.Reading.{stepped, zeroed, zeros_then}
use Rattle.pq_delta_reads.proofs.Adding.{item_list}
use Rattle.pq_delta_reads.proofs.Copying.{Walking}

-- ---- the numbers of a miniblock

zeroed_any : (y z : ℤ) (items : List (Result ℤ Error)) → zeroed (stepped y items) ≡ zeroed (stepped z items)
zeroed_any y z [] = refl
zeroed_any y z (Ok d ∷ items) = ap (λ (t : List (Result ℤ Error)). Ok (pos 0) ∷ t) (zeroed_any (wrapped w64 (y +ℤ d)) (wrapped w64 (z +ℤ d)) items)
zeroed_any y z (Err e ∷ items) = refl

zeroed_all : (z : ℤ) (ds : List ℤ) (items : List (Result ℤ Error)) → zeroed (stepped z (all ds ++ items)) ≡ zeros_then (length ds) (zeroed (stepped z items))
zeroed_all z [] items = refl
zeroed_all z (d ∷ ds) items =
    let y : ℤ = wrapped w64 (z +ℤ d) in
    ap (λ (t : List (Result ℤ Error)). Ok (pos 0) ∷ t) (zeroed_all y ds items ∙ ap (zeros_then (length ds)) (zeroed_any y z items))

pub passed_items : (latest least : ℤ) (waiting : List ℕ) (width standing : ℕ) (packed : List ℕ) (behind : Out) → length waiting ≡ 0 → zeroed (item_list latest least waiting width standing packed behind) ≡ zeros_then standing (zeroed (item_list latest least waiting width 0 packed behind))
passed_items latest least [] width standing packed behind empty =
    let count : length (above least (unpacked width standing packed)) ≡ standing = length-map (unpacked width standing packed) (λ (m : ℕ). least +ℤ pos m) ∙ length-digits (2 ^ width) standing (number_of packed) in
    zeroed_all latest (above least (unpacked width standing packed)) behind.items ∙ ap (λ (k : ℕ). zeros_then k (zeroed (stepped latest behind.items))) count
passed_items latest least (n ∷ ns) width standing packed behind empty = absurd (omega (arith, empty))

-- ---- all that were passed over

pub record Passing (first d : Decoding) : Type 0 where
  pub count : ℕ
  pub come : zeroed first.items ≡ zeros_then count (zeroed d.items)
  pub total : d.total ≡ first.total

pub passing_begin : (d : Decoding) → Passing d d
passing_begin d = record { count = 0; come = refl; total = refl }

pub passing_more : (first d d' : Decoding) (n : ℕ) → zeroed d.items ≡ zeros_then n (zeroed d'.items) → d'.total ≡ d.total → Passing first d → Passing first d'
passing_more first d d' n e t p =
    let zs : ℕ → List (Result ℤ Error) = λ k. replicate k (Ok (pos 0)) in
    record {
      count = p.count + n;
      come = p.come ∙ ap (zeros_then p.count) e ∙ sym (append_assoc (zs p.count) (zs n) (zeroed d'.items)) ∙ ap (λ (x : List (Result ℤ Error)). x ++ zeroed d'.items) (replicate-append-replicate p.count n (Ok (pos 0)));
      total = t ∙ p.total;
    }

-- as many numbers stand there as were passed over
fronts : (k : ℕ) (items rest : List (Result ℤ Error)) → zeroed items ≡ zeros_then k rest → (zs : List ℤ) × (others : List (Result ℤ Error)) × (all zs ++ others ≡ items) × (zeroed others ≡ rest)
fronts zero items rest e = ([], items, refl, e)
fronts (suc k) [] rest e = absurd cc
fronts (suc k) (Err x ∷ items) rest e = absurd cc
fronts (suc k) (Ok z ∷ items) rest e =
    let tail : zeroed items ≡ zeros_then k rest = cc in
    let f = fronts k items rest tail in
    let come : all f.0 ++ f.1 ≡ items = f.2 in
    (z ∷ f.0, f.1, ap (λ (t : List (Result ℤ Error)). Ok z ∷ t) come, f.3)

none_left : (items : List (Result ℤ Error)) → zeroed items ≡ [] → items ≡ []
none_left [] e = refl
none_left (Ok z ∷ items) e = absurd cc
none_left (Err x ∷ items) e = absurd cc

one_left : (items : List (Result ℤ Error)) (e : Error) → zeroed items ≡ Err e ∷ [] → items ≡ Err e ∷ []
one_left [] e h = absurd cc
one_left (Ok z ∷ items) e h = absurd cc
one_left (Err x ∷ items) e h =
    let head : x ≡ e = cc in
    let tail : zeroed items ≡ [] = cc in
    ap (λ (y : Error). Err y ∷ items) head ∙ ap (λ (t : List (Result ℤ Error)). Err e ∷ t) (none_left items tail)

pub passed_all : (first d : Decoding) → d.items ≡ [] → Passing first d → Walking first d
passed_all first d none p =
    let f = fronts p.count first.items (zeroed d.items) p.come in
    let left : f.1 ≡ [] = none_left f.1 (f.3 ∙ ap zeroed none) in
    record { done = f.0; come = ap (λ (x : List (Result ℤ Error)). all f.0 ++ x) (none ∙ sym left) ∙ f.2; total = p.total }

pub passed_up_to : (first d : Decoding) (e : Error) → d.items ≡ Err e ∷ [] → Passing first d → Walking first d
passed_up_to first d e failed p =
    let f = fronts p.count first.items (zeroed d.items) p.come in
    let left : f.1 ≡ Err e ∷ [] = one_left f.1 e (f.3 ∙ ap zeroed failed) in
    record { done = f.0; come = ap (λ (x : List (Result ℤ Error)). all f.0 ++ x) (failed ∙ sym left) ∙ f.2; total = p.total }
