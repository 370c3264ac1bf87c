-- Decoded numbers as slots.
use Rattle.std.proofs.Common.{◌≡◌, ◌⊎◌, inl, inr, ℕ, zero, suc, ◌+◌, ◌-◌, ◌*◌, ◌/◌, ◌<◌, ◌≤◌, ℤ, Bool, true, false, Option, Some, None, option_map, List, [], ◌∷◌, ◌++◌, map, length, take, drop, replicate, refl, arith, ap, ap₂, sym, ◌∙◌, append_assoc, length-append}
use Rattle.std.proofs.Math.Nat.{add-mul-div_left, mul-div-le}
use Rattle.std.proofs.lemmas.Nat.{mul-le}
use Rattle.std.proofs.lemmas.List.{map-append, length-map, length-drop, drop-drop}
use Rattle.columns_base.specs.declared.error.Error.{Error}
use Rattle.columns_base.specs.declared.error.Error.TheVariants.{OutOfSpec, Memory}
use Rattle.columns_base.specs.declared.error.S.TheVariants.{S7}
use Rattle.shredding.specs.Slot.{number, Slot, null, value}
use Rattle.read_walk.specs.Values.{Stored, Decodes, CannotDecode}
use Rattle.read_leaf.specs.Numbers.{plain_numbers, all_numbers, loaded_value, stored_numbers, number_slots, TookNumbers, OneIsOutside}

pub slots-more : (zs ys : List ℤ) (bs cs : List Bool) → length zs ≡ length bs → number_slots (zs ++ ys) (bs ++ cs) ≡ number_slots zs bs ++ number_slots ys cs
slots-more [] ys [] cs e = refl
slots-more [] ys (b ∷ bs) cs e = absurd (omega (arith, e))
slots-more (z ∷ zs) ys [] cs e = absurd (omega (arith, e))
slots-more (z ∷ zs) ys (true ∷ bs) cs e = ap (λ (t : List Slot). value (number z) ∷ t) (slots-more zs ys bs cs (omega (arith, e)))
slots-more (z ∷ zs) ys (false ∷ bs) cs e = ap (λ (t : List Slot). null ∷ t) (slots-more zs ys bs cs (omega (arith, e)))

slots-there : (ys : List ℤ) → number_slots ys (replicate (length ys) true) ≡ map value (map number ys)
slots-there [] = refl
slots-there (y ∷ ys) = ap (λ (t : List Slot). value (number y) ∷ t) (slots-there ys)

slots-blank : (ys : List ℤ) → number_slots ys (replicate (length ys) false) ≡ replicate (length ys) null
slots-blank [] = refl
slots-blank (y ∷ ys) = ap (λ (t : List Slot). null ∷ t) (slots-blank ys)

-- whatever stands in the place of nulls
pub blanks : (n : ℕ) (zs zs' ys : List ℤ) (bs bs' : List Bool) → length zs ≡ length bs → length ys ≡ n → zs' ≡ zs ++ ys → bs' ≡ bs ++ replicate n false → number_slots zs' bs' ≡ number_slots zs bs ++ replicate n null
blanks n zs zs' ys bs bs' even many e f = rw (e, f) (slots-more zs ys bs (replicate n false) even ∙ ap (λ (t : List Slot). number_slots zs bs ++ t) (rw many at (slots-blank ys)))

values-of : (xs : List (Option ℤ)) → List Stored
values-of xs = map (option_map number) xs

loaded-values : (loaded : ℤ → Option ℤ) (zs : List ℤ) → map (loaded_value loaded) zs ≡ map (option_map number) (map loaded zs)
loaded-values loaded [] = refl
loaded-values loaded (z ∷ zs) = ap (λ (t : List Stored). loaded_value loaded z ∷ t) (loaded-values loaded zs)

some-numbers : (ys : List ℤ) → map (option_map number) (map Some ys) ≡ map Some (map number ys)
some-numbers [] = refl
some-numbers (y ∷ ys) = ap (λ (t : List Stored). Some (number y) ∷ t) (some-numbers ys)

module _ (loaded : ℤ → Option ℤ) (spelled : List ℕ → ℤ) (size : ℕ) where
  numbers-split : (n m : ℕ) (bytes : List ℕ) → plain_numbers spelled size (n + m) bytes ≡ plain_numbers spelled size n bytes ++ plain_numbers spelled size m (drop (size * n) bytes)
  numbers-split zero m bytes =
      let a : 0 + m ≡ m = omega arith in
      let b : size * 0 ≡ 0 = omega arith in
      rw (a, b) refl
  numbers-split (suc n) m bytes =
      let a : suc n + m ≡ suc (n + m) = omega arith in
      let b : size * n + size ≡ size * suc n = omega arith in
      let d : drop (size * n) (drop size bytes) ≡ drop (size * suc n) bytes = drop-drop (size * n) size bytes ∙ ap (λ k. drop k bytes) (swap b) in
      rw a (ap (λ (t : List ℤ). spelled (take size bytes) ∷ t) (numbers-split n m (drop size bytes) ∙ ap (λ (t : List ℕ). plain_numbers spelled size n (drop size bytes) ++ plain_numbers spelled size m t) d))
    where
      swap : size * n + size ≡ size * suc n → size + size * n ≡ size * suc n
      swap e = omega (arith, e)

  pub length-numbers : (n : ℕ) (bytes : List ℕ) → length (plain_numbers spelled size n bytes) ≡ n
  length-numbers zero bytes = refl
  length-numbers (suc n) bytes = ap suc (length-numbers n (drop size bytes))

  behind : (n : ℕ) (bytes : List ℕ) → 0 < size → n ≤ length bytes / size → length bytes / size ≡ n + length (drop (size * n) bytes) / size
  behind n bytes some h =
      let all = mul-div-le (length bytes) size in
      let some' = mul-le size n size (length bytes / size) (omega arith) h in
      let split : length bytes ≡ length bytes - size * n + size * n = omega (arith, all, some') in
      let rest : length (drop (size * n) bytes) ≡ length bytes - size * n = length-drop (size * n) bytes in
      rw rest (ap (λ (k : ℕ). k / size) split ∙ (add-mul-div_left (length bytes - size * n) n some ∙ sums ((length bytes - size * n) / size)))
    where
      sums : (k : ℕ) → k + n ≡ n + k
      sums k = omega arith

  -- the first n stored numbers, and those behind them
  all-split : (n : ℕ) (bytes rest : List ℕ) → 0 < size → n ≤ length bytes / size → rest ≡ drop (size * n) bytes → all_numbers spelled size bytes ≡ plain_numbers spelled size n bytes ++ all_numbers spelled size rest
  all-split n bytes rest some h e = rw e (ap (λ (k : ℕ). plain_numbers spelled size k bytes) (behind n bytes some h) ∙ numbers-split n (length (drop (size * n) bytes) / size) bytes)

  -- numbers behind others
  split-loaded : (n m : ℕ) (bytes : List ℕ) → map loaded (plain_numbers spelled size (n + m) bytes) ≡ map loaded (plain_numbers spelled size n bytes) ++ map loaded (plain_numbers spelled size m (drop (size * n) bytes))
  split-loaded n m bytes = ap (map loaded) (numbers-split n m bytes) ∙ map-append loaded (plain_numbers spelled size n bytes) (plain_numbers spelled size m (drop (size * n) bytes))

  pub numbers-then : (n m : ℕ) (bytes mid rest : List ℕ) (old now new : List ℤ) → TookNumbers loaded spelled size n bytes mid old now → TookNumbers loaded spelled size m mid rest now new → TookNumbers loaded spelled size (n + m) bytes rest old new
  numbers-then n m bytes mid rest old now new a b =
      let there : map loaded (plain_numbers spelled size m (drop (size * n) bytes)) ≡ map Some b.numbers = rw a.behind at b.are in
      let place : size * n + size * m ≡ size * (n + m) = omega arith in
      record {
        numbers = a.numbers ++ b.numbers;
        count = omega (arith, length-append a.numbers b.numbers, a.count, b.count);
        are = split-loaded n m bytes ∙ (ap₂ (λ (x y : List (Option ℤ)). x ++ y) a.are there ∙ sym (map-append Some a.numbers b.numbers));
        pushed = b.pushed ∙ (ap (λ (t : List ℤ). t ++ b.numbers) a.pushed ∙ append_assoc old a.numbers b.numbers);
        behind = b.behind ∙ (ap (drop (size * m)) a.behind ∙ (drop-drop (size * m) (size * n) bytes ∙ ap (λ (k : ℕ). drop k bytes) place));
      }

  pub numbers-after : (n m : ℕ) (bytes mid rest : List ℕ) (xs ys : List ℤ) → TookNumbers loaded spelled size n bytes mid [] xs → TookNumbers loaded spelled size m mid rest [] ys → TookNumbers loaded spelled size (n + m) bytes rest [] (xs ++ ys)
  numbers-after n m bytes mid rest xs ys a b = numbers-then n m bytes mid rest [] xs (xs ++ ys) a (record { numbers = b.numbers; count = b.count; are = b.are; pushed = ap (λ (t : List ℤ). xs ++ t) b.pushed; behind = b.behind })

  pub took-behind : (n : ℕ) (bytes rest : List ℕ) (old new ys : List ℤ) → new ≡ old ++ ys → TookNumbers loaded spelled size n bytes rest [] ys → TookNumbers loaded spelled size n bytes rest old new
  took-behind n bytes rest old new ys e t = record { numbers = t.numbers; count = t.count; are = t.are; pushed = e ∙ ap (λ (zs : List ℤ). old ++ zs) t.pushed; behind = t.behind }

  outside-more : (n k : ℕ) (bytes : List ℕ) → n ≤ k → OneIsOutside loaded spelled size n bytes → OneIsOutside loaded spelled size k bytes
  outside-more n k bytes h o =
      let others = map loaded (plain_numbers spelled size (k - n) (drop (size * n) bytes)) in
      let whole : k ≡ n + (k - n) = omega (arith, h) in
      record {
        numbers = o.numbers;
        others = o.others ++ others;
        are = ap (λ (j : ℕ). map loaded (plain_numbers spelled size j bytes)) whole ∙ (split-loaded n (k - n) bytes ∙ (ap (λ (t : List (Option ℤ)). t ++ others) o.are ∙ append_assoc (map Some o.numbers) (None ∷ o.others) others));
        within = omega (arith, o.within, h);
      }

  pub outside-then : (n m k : ℕ) (bytes mid : List ℕ) (old now : List ℤ) → n + m ≤ k → TookNumbers loaded spelled size n bytes mid old now → OneIsOutside loaded spelled size m mid → OneIsOutside loaded spelled size k bytes
  outside-then n m k bytes mid old now h a o =
      let there : map loaded (plain_numbers spelled size m (drop (size * n) bytes)) ≡ map Some o.numbers ++ (None ∷ o.others) = rw a.behind at o.are in
      outside-more (n + m) k bytes h (record {
        numbers = a.numbers ++ o.numbers;
        others = o.others;
        are = split-loaded n m bytes ∙ (ap₂ (λ (x y : List (Option ℤ)). x ++ y) a.are there ∙ (sym (append_assoc (map Some a.numbers) (map Some o.numbers) (None ∷ o.others)) ∙ ap (λ (t : List (Option ℤ)). t ++ (None ∷ o.others)) (sym (map-append Some a.numbers o.numbers))));
        within = omega (arith, length-append a.numbers o.numbers, a.count, o.within);
      })

  pub block-left : (n m k : ℕ) (bytes mid : List ℕ) → n + m ≤ k → size * k ≤ length bytes → mid ≡ drop (size * n) bytes → size * m ≤ length mid
  block-left n m k bytes mid h l e =
      let whole : k ≡ n + m + (k - (n + m)) = omega (arith, h) in
      let all : size * k ≡ size * n + size * m + size * (k - (n + m)) = ap (λ (j : ℕ). size * j) whole ∙ omega arith in
      rw e (omega (arith, length-drop (size * n) bytes, all, l))

  -- the stored values of numbers that were taken, and those behind them
  pub taken-front : (n : ℕ) (bytes rest : List ℕ) (zs zs' : List ℤ) → 0 < size → n ≤ length bytes / size → (t : TookNumbers loaded spelled size n bytes rest zs zs') → stored_numbers loaded spelled size bytes ≡ map Some (map number t.numbers) ++ stored_numbers loaded spelled size rest
  taken-front n bytes rest zs zs' some h t =
      let front : map (loaded_value loaded) (plain_numbers spelled size n bytes) ≡ map Some (map number t.numbers) = loaded-values loaded (plain_numbers spelled size n bytes) ∙ (ap (map (option_map number)) t.are ∙ some-numbers t.numbers) in
      ap (map (loaded_value loaded)) (all-split n bytes rest some h t.behind) ∙ (map-append (loaded_value loaded) (plain_numbers spelled size n bytes) (all_numbers spelled size rest) ∙ ap (λ (u : List Stored). u ++ map (loaded_value loaded) (all_numbers spelled size rest)) front)

  pub decoded : (n : ℕ) (bytes rest : List ℕ) (zs zs' : List ℤ) (bs bs' : List Bool) → 0 < size → n ≤ length bytes / size → length zs ≡ length bs → TookNumbers loaded spelled size n bytes rest zs zs' → bs' ≡ bs ++ replicate n true → Decodes n (stored_numbers loaded spelled size bytes) (stored_numbers loaded spelled size rest) (number_slots zs bs) (number_slots zs' bs')
  decoded n bytes rest zs zs' bs bs' some h even t b = record {
    values = map number t.numbers;
    size = length-map t.numbers number ∙ t.count;
    taken = taken-front n bytes rest zs zs' some h t;
    pushed = rw (t.pushed, b) (slots-more zs t.numbers bs (replicate n true) even ∙ ap (λ (u : List Slot). number_slots zs bs ++ u) (rw t.count at (slots-there t.numbers)));
  }

  pub too-few : (n : ℕ) (bytes : List ℕ) → length bytes / size < n → length (stored_numbers loaded spelled size bytes) < n
  too-few n bytes h = rw (length-map (all_numbers spelled size bytes) (loaded_value loaded), length-numbers (length bytes / size) bytes) h

  pub outside : (most n : ℕ) (bytes : List ℕ) (slots : List Slot) (e : Error) → 0 < size → n ≤ length bytes / size → (e ≡ Memory) ⊎ ((e ≡ OutOfSpec S7) × OneIsOutside loaded spelled size n bytes) → CannotDecode most n (stored_numbers loaded spelled size bytes) slots e
  outside most n bytes slots e some h why = elim why [
    | inl memory ↦ inl memory
    | inr one ↦
        let rest = drop (size * n) bytes in
        let front : map (loaded_value loaded) (plain_numbers spelled size n bytes) ≡ map Some (map number one.1.numbers) ++ (None ∷ map (option_map number) one.1.others) = loaded-values loaded (plain_numbers spelled size n bytes) ∙ (ap (map (option_map number)) one.1.are ∙ (map-append (option_map number) (map Some one.1.numbers) (None ∷ one.1.others) ∙ ap (λ (u : List Stored). u ++ (None ∷ map (option_map number) one.1.others)) (some-numbers one.1.numbers))) in
        let all : stored_numbers loaded spelled size bytes ≡ map (loaded_value loaded) (plain_numbers spelled size n bytes) ++ stored_numbers loaded spelled size rest = ap (map (loaded_value loaded)) (all-split n bytes rest some h refl) ∙ map-append (loaded_value loaded) (plain_numbers spelled size n bytes) (all_numbers spelled size rest) in
        inr (inr (inl (
          one.0,
          record {
            values = map number one.1.numbers;
            rest = map (option_map number) one.1.others ++ stored_numbers loaded spelled size rest;
            next = all ∙ (ap (λ (u : List Stored). u ++ stored_numbers loaded spelled size rest) front ∙ append_assoc (map Some (map number one.1.numbers)) (None ∷ map (option_map number) one.1.others) (stored_numbers loaded spelled size rest));
            within = omega (arith, length-map one.1.numbers number, one.1.within);
          },
        )))
  ]
