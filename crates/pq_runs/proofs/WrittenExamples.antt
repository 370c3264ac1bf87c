-- Runs as they are written, and spellings that are not.
use Rattle.std.proofs.Common.{◌≡◌, ◌⊎◌, ℕ, ◌+◌, ◌*◌, ◌^◌, ◌<◌, ◌≤◌, List, [], ◌∷◌, ◌++◌, length, replicate, get_or, Some, refl, sym, ap, ◌∙◌, arith, inl, inr}
use Rattle.std.proofs.lemmas.List.{length-append, length-replicate}
use Rattle.pq_numbers.specs.Bits.{unpacked}
use Rattle.pq_numbers.specs.Texts.{number_of}
use Rattle.pq_numbers.specs.Varint.{digits, varint, varint_at, varint_up_to}
use Rattle.pq_numbers.proofs.Digits.{length-digits}
use Rattle.pq_runs.specs.Examples.{packed, WrittenRunsAreWorked}
use Rattle.pq_runs.specs.WrittenRuns.{WrittenRuns, no_more, copies, last_groups}
use Rattle.pq_runs.proofs.WrittenFront.{written_front, Heads, Copied, Grouped, Ended}
use Rattle.pq_runs.proofs.WrittenLaws.{last_count}

some_same : (x y : ℕ × List ℕ) → Some x ≡ Some y → x ≡ y
some_same x y e = cc

same_head : (text tail : List ℕ) (n m : ℕ) (rest : List ℕ) → varint_at text ≡ Some (n, tail) → Heads text m rest → (n ≡ m) × (tail ≡ rest) × (text ≡ varint n ++ tail)
same_head text tail n m rest e h =
    let same : (n, tail) ≡ (m, rest) = some_same (n, tail) (m, rest) (sym e ∙ h.read) in
    let number : n ≡ m = ap (λ (p : ℕ × List ℕ). p.0) same in
    let behind : tail ≡ rest = ap (λ (p : ℕ × List ℕ). p.1) same in
    (number, behind, h.parts ∙ ap (λ (k : ℕ). varint k ++ rest) (sym number) ∙ ap (λ (t : List ℕ). varint n ++ t) (sym behind))

-- a text that neither copies nor groups begin
refused : (w n : ℕ) (text tail xs : List ℕ) → (text ≡ [] → ⊥) → varint_at text ≡ Some (n, tail)
    → ((m : ℕ) → n ≡ 2 * m → 0 < m → text ≡ varint n ++ tail → m ≤ length xs → ⊥)
    → ((g : ℕ) → n ≡ 2 * g + 1 → 0 < g → w * g ≤ length tail → 8 * g ≤ length xs + 7 → ⊥) → WrittenRuns w text xs → ⊥
refused w n text tail xs some e no_copies no_groups r = by (written_front w text xs r)
  where
    by : (text ≡ []) ⊎ (Copied w text xs ⊎ (Grouped w text xs ⊎ Ended w text xs)) → ⊥
    by (inl none) = some none
    by (inr (inl c)) =
        let h = same_head text tail n (2 * c.m) (c.value ++ c.rest) e c.heads in
        no_copies c.m h.0 c.some h.2 (omega (arith, ap length c.are, length-append (replicate c.m (number_of c.value)) c.vs, length-replicate c.m (number_of c.value)))
    by (inr (inr (inl g))) =
        let h = same_head text tail n (2 * g.g + 1) (g.body ++ g.rest) e g.heads in
        no_groups g.g h.0 g.some (omega (arith, ap length h.1, length-append g.body g.rest, g.size)) (omega (arith, ap length g.are, length-append (unpacked w (8 * g.g) g.body) g.vs, length-digits (2 ^ w) (8 * g.g) (number_of g.body)))
    by (inr (inr (inr g))) =
        let h = same_head text tail n (2 * g.g + 1) g.body e g.heads in
        no_groups g.g h.0 g.some (omega (arith, ap length h.1, g.size)) (omega (arith, last_count w g.g g.k g.body xs g.are, g.less))

-- the sixth number of a group is none of five
set_bit : (xs : List ℕ) (k : ℕ) → xs ≡ 0 ∷ 1 ∷ 0 ∷ 0 ∷ 0 ∷ [] → unpacked 1 8 (34 ∷ []) ≡ xs ++ replicate k 0 → ⊥
set_bit xs k is e =
    let n : 8 ≡ length xs + k = last_count 1 1 k (34 ∷ []) xs e in
    let three : k ≡ 3 = omega (arith, n, ap length is) in
    let all : unpacked 1 8 (34 ∷ []) ≡ 0 ∷ 1 ∷ 0 ∷ 0 ∷ 0 ∷ 0 ∷ 0 ∷ 0 ∷ [] = e ∙ ap (λ (t : List ℕ). t ++ replicate k 0) is ∙ ap (λ (j : ℕ). (0 ∷ 1 ∷ 0 ∷ 0 ∷ 0 ∷ []) ++ replicate j 0) three in
    let sixth : 1 ≡ 0 = ap (λ (t : List ℕ). get_or t 5 0) all in
    omega (arith, sixth)

abbrev set_text : List ℕ
set_text = 3 ∷ 34 ∷ []

surplus_set : WrittenRuns 1 set_text (0 ∷ 1 ∷ 0 ∷ 0 ∷ 0 ∷ []) → ⊥
unfolding varint_up_to
surplus_set r = by (written_front 1 set_text (0 ∷ 1 ∷ 0 ∷ 0 ∷ 0 ∷ []) r)
  where
    by : (set_text ≡ []) ⊎ (Copied 1 set_text (0 ∷ 1 ∷ 0 ∷ 0 ∷ 0 ∷ []) ⊎ (Grouped 1 set_text (0 ∷ 1 ∷ 0 ∷ 0 ∷ 0 ∷ []) ⊎ Ended 1 set_text (0 ∷ 1 ∷ 0 ∷ 0 ∷ 0 ∷ []))) → ⊥
    by (inl none) = cc
    by (inr (inl c)) = let h = same_head set_text (34 ∷ []) 3 (2 * c.m) (c.value ++ c.rest) refl c.heads in omega (arith, h.0)
    by (inr (inr (inl g))) =
        let h = same_head set_text (34 ∷ []) 3 (2 * g.g + 1) (g.body ++ g.rest) refl g.heads in
        omega (arith, h.0, ap length g.are, length-append (unpacked 1 (8 * g.g) g.body) g.vs, length-digits (2 ^ 1) (8 * g.g) (number_of g.body))
    by (inr (inr (inr g))) =
        let h = same_head set_text (34 ∷ []) 3 (2 * g.g + 1) g.body refl g.heads in
        let one : g.g ≡ 1 = omega (arith, h.0) in
        set_bit (0 ∷ 1 ∷ 0 ∷ 0 ∷ 0 ∷ []) g.k refl (ap (λ (t : List ℕ). unpacked 1 8 t) h.1 ∙ ap (λ (j : ℕ). unpacked 1 (8 * j) g.body) (sym one) ∙ g.are)

pub written_runs_are_worked : WrittenRunsAreWorked
unfolding digits varint_up_to
written_runs_are_worked = record {
  group = last_groups 1 0 packed (0 ∷ 1 ∷ 2 ∷ 3 ∷ 4 ∷ 5 ∷ 6 ∷ 7 ∷ []) (omega arith) (omega arith) (omega arith) (omega arith) refl refl;
  filled = last_groups 1 3 (2 ∷ []) (0 ∷ 1 ∷ 0 ∷ 0 ∷ 0 ∷ []) (omega arith) (omega arith) (omega arith) (omega arith) refl refl;
  copies_of_one = copies 4 1 (1 ∷ []) [] [] (omega arith) (omega arith) (omega arith) refl refl (omega arith) no_more;
  both =
      copies 2 5 (5 ∷ []) (3 ∷ packed) (0 ∷ 1 ∷ 2 ∷ 3 ∷ 4 ∷ 5 ∷ 6 ∷ 7 ∷ []) (omega arith) (omega arith) (omega arith) refl refl (omega arith)
      (last_groups 1 0 packed (0 ∷ 1 ∷ 2 ∷ 3 ∷ 4 ∷ 5 ∷ 6 ∷ 7 ∷ []) (omega arith) (omega arith) (omega arith) (omega arith) refl refl);
  no_bits = WrittenRuns.no_bits 3 refl;
  nothing = no_more;
  cut = λ xs. refused 3 3 (3 ∷ 136 ∷ []) (136 ∷ []) xs (λ z. cc) refl (λ m e some is few. omega (arith, e)) (λ g e some size few. omega (arith, e, size));
  no_copy = λ xs. refused 1 0 (0 ∷ 1 ∷ []) (1 ∷ []) xs (λ z. cc) refl (λ m e some is few. omega (arith, e, some)) (λ g e some size few. omega (arith, e));
  no_group = λ xs. refused 1 1 (1 ∷ []) [] xs (λ z. cc) refl (λ m e some is few. omega (arith, e)) (λ g e some size few. omega (arith, e, some));
  surplus = surplus_set;
  padded = λ xs. refused 1 8 (136 ∷ 0 ∷ 1 ∷ []) (1 ∷ []) xs (λ z. cc) refl (λ m e some is few. omega (arith, ap length is)) (λ g e some size few. omega (arith, e));
  needless_copy = refused 1 8 (8 ∷ 1 ∷ []) (1 ∷ []) (1 ∷ 1 ∷ 1 ∷ []) (λ z. cc) refl (λ m e some is few. omega (arith, e, few)) (λ g e some size few. omega (arith, e));
  needless_group = refused 1 5 (5 ∷ 2 ∷ 0 ∷ []) (2 ∷ 0 ∷ []) (0 ∷ 1 ∷ 0 ∷ 0 ∷ 0 ∷ []) (λ z. cc) refl (λ m e some is few. omega (arith, e)) (λ g e some size few. omega (arith, e, few));
}
