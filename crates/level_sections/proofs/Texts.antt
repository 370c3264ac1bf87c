-- Sections as they stand.
use Rattle.std.proofs.Common.{◌≡◌, ℕ, zero, suc, ◌+◌, ◌-◌, ◌*◌, ◌<◌, ◌≤◌, ◌^◌, List, [], ◌∷◌, ◌++◌, length, replicate, All, refl, arith, ap, sym, ◌∙◌, subst, append_assoc, append-nil, slice_set}
use Rattle.std.proofs.lemmas.List.{length-append}
use Rattle.std.proofs.lemmas.List.Elements.{All-head, All-tail}
use Rattle.std.proofs.Math.Nat.{mul-le-mul_right}
use Rattle.pq_tree.specs.declared.version.Version.{Version}
use Rattle.pq_tree.specs.declared.version.Version.TheVariants.{V1, V2}
use Rattle.pq_files.specs.Levels.{IsBehindLength}
use Rattle.pq_files.specs.Packed.{AreLevels}
use Rattle.pq_numbers.specs.Bits.{IsWidth}
use Rattle.pq_numbers.specs.Texts.{number_of}
use Rattle.pq_runs.specs.Writing.{AppendsRuns}
use Rattle.pq_runs.specs.WrittenRuns.{WrittenRuns, no_bits}
use Rattle.level_sections.specs.Sections.{Stands, AppendsOne}

-- ---- four bytes

put_all : (front back : List ℕ) (p q r s a b c d : ℕ) → slice_set (slice_set (slice_set (slice_set (front ++ (p ∷ q ∷ r ∷ s ∷ back)) (length front) a) (length front + 1) b) (length front + 2) c) (length front + 3) d ≡ front ++ (a ∷ b ∷ c ∷ d ∷ back)
put_all [] back p q r s a b c d = refl
put_all (x ∷ front) back p q r s a b c d =
    let one : suc (length front) + 1 ≡ suc (length front + 1) = omega arith in
    let two : suc (length front) + 2 ≡ suc (length front + 2) = omega arith in
    let three : suc (length front) + 3 ≡ suc (length front + 3) = omega arith in
    rw (one, two, three) (ap (λ (t : List ℕ). x ∷ t) (put_all front back p q r s a b c d))

pub put_four : (items front four back : List ℕ) (at a b c d : ℕ) → length front ≡ at → length four ≡ 4 → items ≡ front ++ (four ++ back) → slice_set (slice_set (slice_set (slice_set items at a) (at + 1) b) (at + 2) c) (at + 3) d ≡ front ++ ((a ∷ b ∷ c ∷ d ∷ []) ++ back)
put_four items front (p ∷ q ∷ r ∷ s ∷ []) back at a b c d e n is = rw (is, ← e) (put_all front back p q r s a b c d)
put_four items front (p ∷ q ∷ r ∷ s ∷ t ∷ four) back at a b c d e n is = absurd (omega (arith, n))
put_four items front (p ∷ q ∷ r ∷ []) back at a b c d e n is = absurd (omega (arith, n))
put_four items front (p ∷ q ∷ []) back at a b c d e n is = absurd (omega (arith, n))
put_four items front (p ∷ []) back at a b c d e n is = absurd (omega (arith, n))
put_four items front [] back at a b c d e n is = absurd (omega (arith, n))

-- ---- no section

zeros : (xs : List ℕ) → All (λ v. v ≤ 0) xs → xs ≡ replicate (length xs) 0
zeros [] h = refl
zeros (x ∷ xs) h =
    let e : x ≡ 0 = omega (arith, All-head (λ v. v ≤ 0) x xs h) in
    ap (λ (y : ℕ). y ∷ xs) e ∙ ap (λ (ys : List ℕ). 0 ∷ ys) (zeros xs (All-tail (λ v. v ≤ 0) x xs h))

stands_none : (version : Version) → Stands version 0 [] []
stands_none V1 = λ rest. (refl, refl)
stands_none V2 = refl

pub one_none : (version : Version) (max : ℕ) (before levels : List ℕ) → max ≡ 0 → All (λ v. v ≤ max) levels → AppendsOne version max before before levels 0
one_none version zero before levels e h = record {
  text = [];
  parts = sym (append-nil before);
  holds =
      record {
        section = [];
        stands = stands_none version;
        are =
            record {
              width = 0;
              is_width = record { holds = omega arith; least = λ v lt. omega arith };
              runs = subst (λ (ys : List ℕ). WrittenRuns 0 [] ys) (sym (zeros levels h)) (no_bits (length levels) refl);
              within = h;
              none = λ z. refl;
            };
        short = omega arith;
      };
  size_is = refl;
  tight = omega arith;
}
one_none version (suc max) before levels e h = absurd (omega (arith, e))

-- ---- a section alone

abbrev are_levels : (max width : ℕ) (text levels : List ℕ) → 0 < max → IsWidth max width → All (λ v. v ≤ max) levels → WrittenRuns width text levels → AreLevels max text levels
are_levels max width text levels some w h r = record { width = width; is_width = w; runs = r; within = h; none = λ z. absurd (omega (arith, some, z)) }

pub one_alone : (max width size : ℕ) (before after levels : List ℕ) → 0 < max → IsWidth max width → All (λ v. v ≤ max) levels → AppendsRuns width before after levels → size ≡ length after - length before → AppendsOne V2 max before after levels size
one_alone max width size before after levels some w h r e =
    let n : length after ≡ length before + length r.text = ap length r.parts ∙ length-append before r.text in
    record {
      text = r.text;
      parts = r.parts;
      holds = record { section = r.text; stands = refl; are = are_levels max width r.text levels some w h r.runs; short = r.short };
      size_is = omega (arith, e, n);
      tight = omega (arith, r.size);
    }

-- ---- a section behind its length

pub text_small : (width : ℕ) (before after levels : List ℕ) → width ≤ 8 → length levels < 2 ^ 30 → AppendsRuns width before after levels → length after < length before + 2 ^ 32
text_small width before after levels most few r =
    let n : length after ≡ length before + length r.text = ap length r.parts ∙ length-append before r.text in
    let weight : (63 * width + 1) * length levels ≤ 505 * length levels = times (63 * width + 1) (length levels) (omega (arith, most)) in
    omega (arith, n, weight, r.size, few)
  where
    times : (w n : ℕ) → w ≤ 505 → w * n ≤ 505 * n
    times w n h = grind (arith, mul-le-mul_right)

behind_some : (max : ℕ) (head section rest : List ℕ) → length head ≡ 4 → number_of head ≡ length section → 0 < max → IsBehindLength max ((head ++ section) ++ rest) section rest
behind_some zero head section rest four n h = absurd (omega (arith, h))
behind_some (suc max) head section rest four n h = (head, four, n, append_assoc head section rest)

pub one_behind : (max width size : ℕ) (before mid after new levels four head : List ℕ) → 0 < max → IsWidth max width → All (λ v. v ≤ max) levels → mid ≡ before ++ four → length four ≡ 4 → (r : AppendsRuns width mid after levels) → size ≡ length after - length before → length head ≡ 4 → number_of head ≡ size - 4 → new ≡ before ++ (head ++ r.text) → AppendsOne V1 max before new levels size
one_behind max width size before mid after new levels four head some w h m n4 r e h4 number is =
    let n : length after ≡ length before + 4 + length r.text = ap length r.parts ∙ length-append mid r.text ∙ ap (λ (k : ℕ). k + length r.text) (ap length m ∙ length-append before four ∙ ap (λ (k : ℕ). length before + k) n4) in
    let long : number_of head ≡ length r.text = number ∙ omega (arith, e, n) in
    record {
      text = head ++ r.text;
      parts = is;
      holds = record { section = r.text; stands = λ rest. behind_some max head r.text rest h4 long some; are = are_levels max width r.text levels some w h r.runs; short = r.short };
      size_is = omega (arith, e, n, length-append head r.text, h4);
      tight = omega (arith, r.size, length-append head r.text, h4);
    }

pub parted : (before mid after four text : List ℕ) → mid ≡ before ++ four → after ≡ mid ++ text → after ≡ before ++ (four ++ text)
parted before mid after four text m a = a ∙ ap (λ (t : List ℕ). t ++ text) m ∙ append_assoc before four text
