-- The first levels of a section.
use Rattle.std.proofs.Common.{◌≡◌, ◌⊎◌, ◌+◌, ◌-◌, ◌*◌, ◌^◌, ◌<◌, ◌≤◌, ℕ, zero, suc, List, [], ◌∷◌, ◌++◌, length, take, replicate, append_assoc, append-nil, refl, sym, ap, subst, ◌∙◌, inl, inr, arith}
use Rattle.std.proofs.lemmas.Bool.{cases_lt}
use Rattle.std.proofs.lemmas.List.{length-replicate, length-take-le, take-append-le, take-replicate, take_all}
use Rattle.std.proofs.lemmas.List.Elements.{All-take}
use Rattle.std.proofs.lemmas.Nat.{mul-le}
use Rattle.std.proofs.Math.Seq.{take-append-add}
use Rattle.pq_numbers.proofs.Digits.{length-digits}
use Rattle.pq_numbers.specs.Bits.{digits_of, unpacked}
use Rattle.pq_numbers.specs.Texts.{Begins, number_of}
use Rattle.pq_runs.proofs.WrittenLaws.{front_digits}
use Rattle.pq_runs.specs.Runs.{Runs, copies, groups, last_copies, last_groups, no_bits, no_more}
use Rattle.pq_files.proofs.Unique.{levels_same}
use Rattle.pq_files.specs.Levels.{HasLevels}

-- nothing is spelled at the front
none : (w : ℕ) (text xs : List ℕ) → xs ≡ [] → Begins (Runs w) text xs
none w text xs e = record { text = []; rest = text; parts = refl; spells = subst (Runs w []) (sym e) no_more }

-- behind whole runs
behind : (w : ℕ) (head value rest xs ys : List ℕ) → ((text : List ℕ) → Runs w text xs → Runs w (head ++ (value ++ text)) ys) → Begins (Runs w) rest xs → Begins (Runs w) (head ++ (value ++ rest)) ys
behind w head value rest xs ys more b = record {
  text = head ++ (value ++ b.text);
  rest = b.rest;
  parts = ap (λ (s : List ℕ). head ++ (value ++ s)) b.parts ∙ sym (append_assoc head (value ++ b.text) b.rest ∙ ap (λ (s : List ℕ). head ++ s) (append_assoc value b.text b.rest));
  spells = more b.text b.spells;
}

in_front : (w : ℕ) (head value rest xs ys : List ℕ) → xs ≡ ys → Runs w (head ++ value) xs → Begins (Runs w) (head ++ (value ++ rest)) ys
in_front w head value rest xs ys e r = record { text = head ++ value; rest = rest; parts = sym (append_assoc head value rest); spells = subst (Runs w (head ++ value)) e r }

alone : (w : ℕ) (text xs ys : List ℕ) → xs ≡ ys → Runs w text xs → Begins (Runs w) text ys
alone w text xs ys e r = record { text = text; rest = []; parts = sym (append-nil text); spells = subst (Runs w text) e r }

some_digits : (w n k : ℕ) (body : List ℕ) → k ≤ n → unpacked w k body ≡ take k (unpacked w n body)
some_digits w n k body h =
    let e : k + (n - k) ≡ n = omega (arith, h) in
    front_digits (2 ^ w) k (n - k) (number_of body) ∙ ap (λ (j : ℕ). take k (digits_of (2 ^ w) j (number_of body))) e

-- so many of the numbers before the others
within : (k : ℕ) (xs ys : List ℕ) (n : ℕ) → length xs ≡ n → k ≤ n → take k xs ≡ take k (xs ++ ys)
within k xs ys n e h = sym (take-append-le k xs ys (omega (arith, e, h)))

past : (k n : ℕ) (xs ys : List ℕ) → length xs ≡ n → n ≤ k → take k (xs ++ ys) ≡ xs ++ take (k - n) ys
past k n xs ys e h =
    let split : k ≡ length xs + (k - n) = omega (arith, e, h) in
    ap (λ (j : ℕ). take j (xs ++ ys)) split ∙ take-append-add xs ys (k - n)

front_run : (w k : ℕ) (text xs : List ℕ) → Runs w text xs → Begins (Runs w) text (take k xs)
front_run w zero text xs r = none w text [] refl
front_run w (suc k) _ _ no_more = none w [] [] refl
front_run w (suc k) _ _ (no_bits n z) = by (cases_lt (suc k) n)
  where
    by : (suc k < n) ⊎ (n ≤ suc k) → Begins (Runs w) [] (take (suc k) (replicate n 0))
    by (inl h) = alone w [] (replicate (suc k) 0) _ (sym (take-replicate (suc k) n 0 (omega (arith, h)))) (no_bits (suc k) z)
    by (inr h) = alone w [] (replicate n 0) _ (sym (take_all {A = ℕ} (suc k) (replicate n 0) (omega (arith, h, length-replicate {A = ℕ} n 0)))) (no_bits n z)
front_run w (suc k) _ _ (copies m head value rest v vs number size more) = by (cases_lt m (suc k)) (λ j. front_run w j rest (v ∷ vs) more)
  where
    by : (m < suc k) ⊎ (suc k ≤ m) → ((j : ℕ) → Begins (Runs w) rest (take j (v ∷ vs))) → Begins (Runs w) (head ++ (value ++ rest)) (take (suc k) ((replicate m (number_of value)) ++ v ∷ vs))
    by (inl h) others =
        let j : suc k - m ≡ suc (k - m) = omega (arith, h) in
        let e : take (suc k) ((replicate m (number_of value)) ++ v ∷ vs) ≡ (replicate m (number_of value)) ++ v ∷ take (k - m) vs = past (suc k) m (replicate m (number_of value)) (v ∷ vs) (length-replicate m (number_of value)) (omega (arith, h)) ∙ ap (λ (i : ℕ). (replicate m (number_of value)) ++ take i (v ∷ vs)) j in
        subst (Begins (Runs w) (head ++ (value ++ rest))) (sym e)
        (behind w head value rest (v ∷ take (k - m) vs) ((replicate m (number_of value)) ++ v ∷ take (k - m) vs) (λ text r. copies m head value text v (take (k - m) vs) number size r) (others (suc (k - m))))
    by (inr h) others =
        in_front w head value rest (replicate (suc k) (number_of value)) _ (sym (take-replicate (suc k) m (number_of value) h) ∙ within (suc k) (replicate m (number_of value)) (v ∷ vs) m (length-replicate m (number_of value)) h) (last_copies m (suc k) head value number size (omega arith) h)
front_run w (suc k) _ _ (last_copies m n head value number size some fits) = by (cases_lt (suc k) n)
  where
    by : (suc k < n) ⊎ (n ≤ suc k) → Begins (Runs w) (head ++ value) (take (suc k) (replicate n (number_of value)))
    by (inl h) = alone w (head ++ value) (replicate (suc k) (number_of value)) _ (sym (take-replicate (suc k) n (number_of value) (omega (arith, h)))) (last_copies m (suc k) head value number size (omega arith) (omega (arith, h, fits)))
    by (inr h) = alone w (head ++ value) (replicate n (number_of value)) _ (sym (take_all (suc k) (replicate n (number_of value)) (omega (arith, h, length-replicate n (number_of value))))) (last_copies m n head value number size some fits)
front_run w (suc k) _ _ (groups g head body rest v vs number size more) = by (cases_lt (8 * g) (suc k)) (λ j. front_run w j rest (v ∷ vs) more)
  where
    by : (8 * g < suc k) ⊎ (suc k ≤ 8 * g) → ((j : ℕ) → Begins (Runs w) rest (take j (v ∷ vs))) → Begins (Runs w) (head ++ (body ++ rest)) (take (suc k) ((unpacked w (8 * g) body) ++ v ∷ vs))
    by (inl h) others =
        let j : suc k - 8 * g ≡ suc (k - 8 * g) = omega (arith, h) in
        let e : take (suc k) ((unpacked w (8 * g) body) ++ v ∷ vs) ≡ (unpacked w (8 * g) body) ++ v ∷ take (k - 8 * g) vs = past (suc k) (8 * g) (unpacked w (8 * g) body) (v ∷ vs) (length-digits (2 ^ w) (8 * g) (number_of body)) (omega (arith, h)) ∙ ap (λ (i : ℕ). (unpacked w (8 * g) body) ++ take i (v ∷ vs)) j in
        subst (Begins (Runs w) (head ++ (body ++ rest))) (sym e)
        (behind w head body rest (v ∷ take (k - 8 * g) vs) ((unpacked w (8 * g) body) ++ v ∷ take (k - 8 * g) vs) (λ text r. groups g head body text v (take (k - 8 * g) vs) number size r) (others (suc (k - 8 * g))))
    by (inr h) others =
        let fits : w * suc k ≤ w * (8 * g) = mul-le w (suc k) w (8 * g) (omega arith) h in
        in_front w head body rest (unpacked w (suc k) body) _ (some_digits w (8 * g) (suc k) body h ∙ within (suc k) (unpacked w (8 * g) body) (v ∷ vs) (8 * g) (length-digits (2 ^ w) (8 * g) (number_of body)) h)
        (last_groups g (suc k) head body number (omega arith) h (omega (arith, fits, size)) (omega (arith, size)))
front_run w (suc k) _ _ (last_groups g n head body number some fits enough short) = by (cases_lt (suc k) n)
  where
    by : (suc k < n) ⊎ (n ≤ suc k) → Begins (Runs w) (head ++ body) (take (suc k) (unpacked w n body))
    by (inl h) =
        let less : w * suc k ≤ w * n = mul-le w (suc k) w n (omega arith) (omega (arith, h)) in
        alone w (head ++ body) (unpacked w (suc k) body) _ (some_digits w n (suc k) body (omega (arith, h))) (last_groups g (suc k) head body number (omega arith) (omega (arith, h, fits)) (omega (arith, less, enough)) short)
    by (inr h) = alone w (head ++ body) (unpacked w n body) _ (sym (take_all (suc k) (unpacked w n body) (omega (arith, h, length-digits (2 ^ w) n (number_of body))))) (last_groups g n head body number some fits enough short)

pub levels_front : (max k : ℕ) (section xs : List ℕ) → HasLevels max section xs → HasLevels max section (take k xs)
levels_front max k section xs h =
    let b = front_run h.width k h.runs.text xs h.runs.spells in
    record {
      width = h.width;
      is_width = h.is_width;
      runs = record { text = b.text; rest = b.rest ++ h.runs.rest; parts = h.runs.parts ∙ ap (λ (s : List ℕ). s ++ h.runs.rest) b.parts ∙ append_assoc b.text b.rest h.runs.rest; spells = b.spells };
      within = All-take (λ level. level ≤ max) k xs h.within;
    }

-- fewer levels of a section are the first of more
pub same_front : (max : ℕ) (section other xs ys : List ℕ) → section ≡ other → HasLevels max section xs → HasLevels max other ys → length xs ≤ length ys → xs ≡ take (length xs) ys
same_front max section other xs ys e a b h = levels_same max section other xs (take (length xs) ys) e a (levels_front max (length xs) other ys b) (sym (length-take-le (length xs) ys h))
