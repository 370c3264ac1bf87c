-- Plain strings among nulls.
use Rattle.std.proofs.Common.{◌≡◌, ℕ, zero, suc, ◌-◌, ◌^◌, ◌≤◌, Bool, true, false, Some, List, [], ◌∷◌, ◌++◌, map, length, replicate, refl, arith, ap, sym, subst, ◌∙◌, append_assoc, append-nil, length-append}
use Rattle.std.proofs.lemmas.List.{map-append, length-map}
use Rattle.columns_base.specs.declared.error.Error.{Error}
use Rattle.columns_core.specs.Bits.{word_bits}
use Rattle.shredding.specs.Slot.{bytes, Slot, null, value}
use Rattle.read_walk.specs.Values.{Stored, Decodes, DecodesMixed, ones, spread, CannotDecode, bytes_in}
use Rattle.read_walk.proofs.Decoding.{slots-append}
use Rattle.read_leaf.specs.Strings.{string_at, stored_strings, string_slots, AreStrings, AreAllowed, TookStrings}
use Rattle.read_leaf.proofs.Pieces.{total-append}
use Rattle.read_leaf.proofs.SetBits.{spread-all, ones-append, spread-append}
use Rattle.read_leaf.proofs.EqualBits.{ones as word-ones}
use Rattle.read_leaf.proofs.Standing.{allowed}

both-slots : (ss ts : List (List ℕ)) (bs cs : List Bool) → length ss ≡ length bs → string_slots (ss ++ ts) (bs ++ cs) ≡ string_slots ss bs ++ string_slots ts cs
both-slots [] ts [] cs e = refl
both-slots [] ts (b ∷ bs) cs e = absurd (omega (arith, e))
both-slots (s ∷ ss) ts [] cs e = absurd (omega (arith, e))
both-slots (s ∷ ss) ts (true ∷ bs) cs e = ap (λ (u : List Slot). value (bytes s) ∷ u) (both-slots ss ts bs cs (omega (arith, e)))
both-slots (s ∷ ss) ts (false ∷ bs) cs e = ap (λ (u : List Slot). null ∷ u) (both-slots ss ts bs cs (omega (arith, e)))

pub both-allowed : (allows : List ℕ → Bool) (ss ts : List (List ℕ)) → AreAllowed allows ss → AreAllowed allows ts → AreAllowed allows (ss ++ ts)
both-allowed allows [] ts a b = b
both-allowed allows (s ∷ ss) ts a b = (a.0, both-allowed allows ss ts a.1 b)

pub both-strings : (ss ts : List (List ℕ)) (bs cs : List Bool) → AreStrings ss bs → AreStrings ts cs → AreStrings (ss ++ ts) (bs ++ cs)
both-strings ss ts bs cs a b = record {
  even = omega (arith, length-append ss ts, length-append bs cs, a.even, b.even);
  all = ap bytes_in (both-slots ss ts bs cs a.even) ∙ omega (arith, slots-append (string_slots ss bs) (string_slots ts cs), total-append ss ts, a.all, b.all);
}

module _ (allows : List ℕ → Bool) where
  pub strings-none : (text : List ℕ) (old : List (List ℕ)) → TookStrings allows [] text text old old
  strings-none text old = record { strings = []; count = refl; taken = refl; among = []; are = record { even = refl; all = refl }; allowed = tt; stand = refl; pushed = sym (append-nil old) }

  pub string-there : (text s rest : List ℕ) (old new : List (List ℕ)) → string_at text ≡ Some (s, rest) → allows s ≡ true → new ≡ old ++ s ∷ [] → TookStrings allows (true ∷ []) text rest old new
  string-there text s rest old new e a p = record { strings = s ∷ []; count = refl; taken = allowed allows text s rest e a; among = s ∷ []; are = record { even = refl; all = refl }; allowed = (a, tt); stand = refl; pushed = p }

  pub string-empty : (text : List ℕ) (old new : List (List ℕ)) → allows [] ≡ true → new ≡ old ++ [] ∷ [] → TookStrings allows (false ∷ []) text text old new
  string-empty text old new a p = record { strings = []; count = refl; taken = refl; among = [] ∷ []; are = record { even = refl; all = refl }; allowed = (a, tt); stand = refl; pushed = p }

  pub strings-then : (bs cs : List Bool) (text text1 text2 : List ℕ) (old mid new : List (List ℕ)) → TookStrings allows bs text text1 old mid → TookStrings allows cs text1 text2 mid new → TookStrings allows (bs ++ cs) text text2 old new
  strings-then bs cs text text1 text2 old mid new a b =
      let values : map Some (map bytes a.strings) ++ map Some (map bytes b.strings) ≡ map Some (map bytes (a.strings ++ b.strings)) = sym (map-append Some (map bytes a.strings) (map bytes b.strings)) ∙ ap (map Some) (sym (map-append bytes a.strings b.strings)) in
      record {
        strings = a.strings ++ b.strings;
        count = length-append a.strings b.strings ∙ omega (arith, ones-append bs cs, a.count, b.count);
        taken = a.taken ∙ (ap (λ (u : List Stored). map Some (map bytes a.strings) ++ u) b.taken ∙ (sym (append_assoc (map Some (map bytes a.strings)) (map Some (map bytes b.strings)) (stored_strings allows text2)) ∙ ap (λ (u : List Stored). u ++ stored_strings allows text2) values));
        among = a.among ++ b.among;
        are = both-strings a.among b.among bs cs a.are b.are;
        allowed = both-allowed allows a.among b.among a.allowed b.allowed;
        stand =
            both-slots a.among b.among bs cs a.are.even
            ∙ (ap (λ (u : List Slot). u ++ string_slots b.among cs) a.stand
            ∙ (ap (λ (u : List Slot). spread bs (map bytes a.strings) ++ u) b.stand
            ∙ (sym (spread-append bs cs (map bytes a.strings) (map bytes b.strings) (length-map a.strings bytes ∙ a.count)) ∙ ap (spread (bs ++ cs)) (sym (map-append bytes a.strings b.strings)))));
        pushed = b.pushed ∙ (ap (λ (t : List (List ℕ)). t ++ b.among) a.pushed ∙ append_assoc old a.among b.among);
      }

  -- ---- what is decoded

  pub strings-decoded : (bits : List Bool) (text rest : List ℕ) (ss ss' : List (List ℕ)) (bs bs' : List Bool) → length ss ≡ length bs → TookStrings allows bits text rest ss ss' → bs' ≡ bs ++ bits → DecodesMixed bits (stored_strings allows text) (stored_strings allows rest) (string_slots ss bs) (string_slots ss' bs')
  strings-decoded bits text rest ss ss' bs bs' even t b = record {
    values = map bytes t.strings;
    size = length-map t.strings bytes ∙ t.count;
    taken = t.taken;
    pushed = ap (λ (cs : List Bool). string_slots ss' cs) b ∙ (ap (λ (us : List (List ℕ)). string_slots us (bs ++ bits)) t.pushed ∙ (both-slots ss t.among bs bits even ∙ ap (λ (u : List Slot). string_slots ss bs ++ u) t.stand));
  }

-- ---- a word of set bits

ones-all : (n : ℕ) → ones (replicate n true) ≡ n
ones-all zero = refl
ones-all (suc n) = omega (arith, ones-all n)

pub word-valid : (n : ℕ) (left left' : List Stored) (slots slots' : List Slot) → n ≤ 64 → DecodesMixed (word_bits (2 ^ 64 - 1) n) left left' slots slots' → Decodes n left left' slots slots'
word-valid n left left' slots slots' h d =
    let bits : word_bits (2 ^ 64 - 1) n ≡ replicate n true = word-ones n 64 h in
    let size : length d.values ≡ n = d.size ∙ (ap ones bits ∙ ones-all n) in
    let same : spread (word_bits (2 ^ 64 - 1) n) d.values ≡ map value d.values = ap (λ (bs : List Bool). spread bs d.values) (bits ∙ ap (λ (k : ℕ). replicate k true) (sym size)) ∙ spread-all d.values in
    record { values = d.values; size = size; taken = d.taken; pushed = d.pushed ∙ ap (λ (t : List Slot). slots ++ t) same }

pub word-cannot : (limit n : ℕ) (left : List Stored) (slots : List Slot) (e : Error) → n ≤ 64 → CannotDecode limit (ones (word_bits (2 ^ 64 - 1) n)) left slots e → CannotDecode limit n left slots e
word-cannot limit n left slots e h c = subst (λ (k : ℕ). CannotDecode limit k left slots e) (ap ones (word-ones n 64 h) ∙ ones-all n) c
