-- Values among nulls, whatever bytes they stand in.
use Rattle.std.proofs.Common.{◌≡◌, ℕ, zero, suc, ◌+◌, ◌-◌, ◌/◌, ◌%◌, ◌<◌, ◌≤◌, ◌==◌, Bool, true, false, Some, List, [], ◌∷◌, ◌++◌, map, length, replicate, refl, arith, ap, sym, subst, ◌∙◌, append_assoc, append-nil, length-append}
use Rattle.std.proofs.lemmas.List.{map-append}
use Rattle.columns_base.specs.declared.error.Error.{Error}
use Rattle.columns_core.specs.Bits.{word_bits}
use Rattle.shredding.specs.Slot.{Value, Slot, null, value}
use Rattle.read_walk.specs.Values.{Stored, DecodesMixed, ones, spread, CannotDecode, bytes_in, bytes_of}
use Rattle.read_walk.proofs.Decoding.{slots-append, slots-values, cannot-behind, cannot-more}
use Rattle.read_leaf.specs.Fixed.{value_slots, TookValues}
use Rattle.read_leaf.proofs.SetBits.{ones-append, spread-append}

pub both-slots : (vs ws : List Value) (bs cs : List Bool) → length vs ≡ length bs → value_slots (vs ++ ws) (bs ++ cs) ≡ value_slots vs bs ++ value_slots ws cs
both-slots [] ws [] cs e = refl
both-slots [] ws (b ∷ bs) cs e = absurd (omega (arith, e))
both-slots (v ∷ vs) ws [] cs e = absurd (omega (arith, e))
both-slots (v ∷ vs) ws (true ∷ bs) cs e = ap (λ (u : List Slot). value v ∷ u) (both-slots vs ws bs cs (omega (arith, e)))
both-slots (v ∷ vs) ws (false ∷ bs) cs e = ap (λ (u : List Slot). null ∷ u) (both-slots vs ws bs cs (omega (arith, e)))

-- as many blanks as nulls
blank-slots : (n : ℕ) (v : Value) → value_slots (replicate n v) (replicate n false) ≡ replicate n null
blank-slots zero v = refl
blank-slots (suc n) v = ap (λ (u : List Slot). null ∷ u) (blank-slots n v)

pub blanks-more : (n : ℕ) (v : Value) (vs vs' : List Value) (bs bs' : List Bool) → length vs ≡ length bs → vs' ≡ vs ++ replicate n v → bs' ≡ bs ++ replicate n false → value_slots vs' bs' ≡ value_slots vs bs ++ replicate n null
blanks-more n v vs vs' bs bs' even e f = rw (e, f) (both-slots vs (replicate n v) bs (replicate n false) even ∙ ap (λ (u : List Slot). value_slots vs bs ++ u) (blank-slots n v))

pub held-copies : {A : Type 0} (held : A → Value) (n : ℕ) (x : A) → map held (replicate n x) ≡ replicate n (held x)
held-copies held zero x = refl
held-copies held (suc n) x = ap (λ (t : List Value). held x ∷ t) (held-copies held n x)

module _ (left : List ℕ → List Stored) where
  pub values-none : (text : List ℕ) (old : List Value) → TookValues left [] text text old old
  values-none text old = record { values = []; count = refl; taken = refl; among = []; even = refl; stand = refl; pushed = sym (append-nil old) }

  pub value-there : (text rest : List ℕ) (v : Value) (old new : List Value) → left text ≡ Some v ∷ left rest → new ≡ old ++ v ∷ [] → TookValues left (true ∷ []) text rest old new
  value-there text rest v old new t p = record { values = v ∷ []; count = refl; taken = t; among = v ∷ []; even = refl; stand = refl; pushed = p }

  pub value-blank : (text : List ℕ) (v : Value) (old new : List Value) → new ≡ old ++ v ∷ [] → TookValues left (false ∷ []) text text old new
  value-blank text v old new p = record { values = []; count = refl; taken = refl; among = v ∷ []; even = refl; stand = refl; pushed = p }

  values-then : (bs cs : List Bool) (text text1 text2 : List ℕ) (old mid new : List Value) → TookValues left bs text text1 old mid → TookValues left cs text1 text2 mid new → TookValues left (bs ++ cs) text text2 old new
  values-then bs cs text text1 text2 old mid new a b = record {
    values = a.values ++ b.values;
    count = length-append a.values b.values ∙ omega (arith, ones-append bs cs, a.count, b.count);
    taken = a.taken ∙ (ap (λ (u : List Stored). map Some a.values ++ u) b.taken ∙ (sym (append_assoc (map Some a.values) (map Some b.values) (left text2)) ∙ ap (λ (u : List Stored). u ++ left text2) (sym (map-append Some a.values b.values))));
    among = a.among ++ b.among;
    even = omega (arith, length-append a.among b.among, length-append bs cs, a.even, b.even);
    stand =
        both-slots a.among b.among bs cs a.even
        ∙ (ap (λ (u : List Slot). u ++ value_slots b.among cs) a.stand
        ∙ (ap (λ (u : List Slot). spread bs a.values ++ u) b.stand
        ∙ sym (spread-append bs cs a.values b.values a.count)));
    pushed = b.pushed ∙ (ap (λ (t : List Value). t ++ b.among) a.pushed ∙ append_assoc old a.among b.among);
  }

  -- the values of the first bits; the word has the bits behind them
  pub record AreTaken (valid i word : ℕ) (text rest : List ℕ) (old new : List Value) : Type 0 where
    pub behind : (m : ℕ) → word_bits valid (i + m) ≡ word_bits valid i ++ word_bits word m
    pub took : TookValues left (word_bits valid i) text rest old new

  pub taken-none : (valid : ℕ) (text : List ℕ) (old : List Value) → AreTaken valid 0 valid text text old old
  taken-none valid text old = record { behind = λ m. let e : 0 + m ≡ m = omega arith in ap (word_bits valid) e; took = values-none text old }

  taken-behind : (valid i word : ℕ) → ((m : ℕ) → word_bits valid (i + m) ≡ word_bits valid i ++ word_bits word m) → (m : ℕ) → word_bits valid (i + 1 + m) ≡ word_bits valid (i + 1) ++ word_bits (word / 2) m
  taken-behind valid i word h m =
      let e : i + 1 + m ≡ i + suc m = omega arith in
      ap (word_bits valid) e ∙ (h (suc m) ∙ (sym (append_assoc (word_bits valid i) ((word % 2 == 1) ∷ []) (word_bits (word / 2) m)) ∙ ap (λ (t : List Bool). t ++ word_bits (word / 2) m) (sym (h 1))))

  pub taken-more : (valid i word : ℕ) (text text1 text2 : List ℕ) (old mid new : List Value) → AreTaken valid i word text text1 old mid → TookValues left ((word % 2 == 1) ∷ []) text1 text2 mid new → AreTaken valid (i + 1) (word / 2) text text2 old new
  taken-more valid i word text text1 text2 old mid new a t = record {
    behind = taken-behind valid i word a.behind;
    took = subst (λ (bs : List Bool). TookValues left bs text text2 old new) (sym (a.behind 1)) (values-then (word_bits valid i) ((word % 2 == 1) ∷ []) text text1 text2 old mid new a.took t);
  }

  pub taken-cannot : (limit valid i word n : ℕ) (text rest : List ℕ) (old new : List Value) (e : Error) → i < n → AreTaken valid i word text rest old new → ((slots : List Slot) → CannotDecode limit (ones ((word % 2 == 1) ∷ [])) (left rest) slots e) → (slots : List Slot) → CannotDecode limit (ones (word_bits valid n)) (left text) slots e
  taken-cannot limit valid i word n text rest old new e l a c slots =
      let t = a.took in
      let grown : bytes_in (slots ++ map value t.values) ≡ bytes_in slots + bytes_of t.values = slots-append slots (map value t.values) ∙ ap (λ (k : ℕ). bytes_in slots + k) (slots-values t.values) in
      let last : i + 1 + (n - (i + 1)) ≡ n = omega (arith, l) in
      let all = ap ones (ap (word_bits valid) (sym last) ∙ taken-behind valid i word a.behind (n - (i + 1))) ∙ (ones-append (word_bits valid (i + 1)) (word_bits (word / 2) (n - (i + 1))) ∙ ap (λ (k : ℕ). k + ones (word_bits (word / 2) (n - (i + 1)))) (ap ones (a.behind 1) ∙ ones-append (word_bits valid i) ((word % 2 == 1) ∷ []))) in
      let few : length t.values + ones ((word % 2 == 1) ∷ []) ≤ ones (word_bits valid n) = omega (arith, t.count, all) in
      cannot-more limit (length t.values + ones ((word % 2 == 1) ∷ [])) (ones (word_bits valid n)) (left text) slots e few
      (cannot-behind limit (ones ((word % 2 == 1) ∷ [])) t.values (left text) (left rest) slots (slots ++ map value t.values) e t.taken grown (c (slots ++ map value t.values)))

  -- what is decoded
  pub values-decoded : (bits : List Bool) (text rest : List ℕ) (vs vs' : List Value) (bs bs' : List Bool) → length vs ≡ length bs → TookValues left bits text rest vs vs' → bs' ≡ bs ++ bits → DecodesMixed bits (left text) (left rest) (value_slots vs bs) (value_slots vs' bs')
  values-decoded bits text rest vs vs' bs bs' even t b = record {
    values = t.values;
    size = t.count;
    taken = t.taken;
    pushed = rw (b, t.pushed) (both-slots vs t.among bs bits even ∙ ap (λ (u : List Slot). value_slots vs bs ++ u) t.stand);
  }

  pub still-even : (bits : List Bool) (text rest : List ℕ) (vs vs' : List Value) (bs bs' : List Bool) → length vs ≡ length bs → TookValues left bits text rest vs vs' → bs' ≡ bs ++ bits → length vs' ≡ length bs'
  still-even bits text rest vs vs' bs bs' even t b = rw (b, t.pushed) (length-append vs t.among ∙ omega (arith, even, t.even, length-append bs bits))
