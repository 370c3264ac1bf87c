-- Plain values of one size.
use Rattle.std.proofs.Common.{◌≡◌, inl, inr, ℕ, suc, ◌+◌, ◌-◌, ◌*◌, ◌/◌, ◌<◌, ◌≤◌, None, List, [], ◌∷◌, map, length, take, drop, refl, arith, ap, sym, ◌∙◌}
use Rattle.std.proofs.Math.Nat.{add-mul-div_left, div-eq_of_lt, div-zero}
use Rattle.std.proofs.lemmas.List.{length-drop}
use Rattle.columns_base.specs.declared.error.Error.TheVariants.{OutOfSpec}
use Rattle.columns_base.specs.declared.error.S.TheVariants.{S6, S7}
use Rattle.columns_slots.specs.Bytes.{chunks}
use Rattle.shredding.specs.Slot.{Slot}
use Rattle.read_walk.specs.Values.{Stored, CannotDecode}
use Rattle.read_leaf.specs.Fixed.{stored_fixed}

pub fixed-none : (loaded : List ℕ → Stored) (size : ℕ) (text : List ℕ) → length text < size → stored_fixed loaded size text ≡ []
fixed-none loaded size text h = ap (λ (n : ℕ). map loaded (chunks size n text)) (div-eq_of_lt h)

pub fixed-zero : (loaded : List ℕ → Stored) (size : ℕ) (text : List ℕ) → size ≡ 0 → stored_fixed loaded size text ≡ []
fixed-zero loaded size text e = ap (λ (k : ℕ). stored_fixed loaded k text) e ∙ ap (λ (n : ℕ). map loaded (chunks 0 n text)) (div-zero (length text))

pub fixed-first : (loaded : List ℕ → Stored) (size : ℕ) (text : List ℕ) → 0 < size → size ≤ length text → stored_fixed loaded size text ≡ loaded (take size text) ∷ stored_fixed loaded size (drop size text)
fixed-first loaded size text some h =
    let less : length (drop size text) ≡ length text - size = length-drop size text in
    let split : length text ≡ (length text - size) + size * 1 = omega (arith, h) in
    let count : length text / size ≡ suc (length (drop size text) / size) = ap (λ (n : ℕ). n / size) split ∙ (add-mul-div_left (length text - size) 1 some ∙ (plus-one ((length text - size) / size) ∙ ap (λ (n : ℕ). suc (n / size)) (sym less))) in
    ap (λ (n : ℕ). map loaded (chunks size n text)) count
  where
    plus-one : (n : ℕ) → n + 1 ≡ suc n
    plus-one n = omega arith

pub fixed-missing : (loaded : List ℕ → Stored) (size : ℕ) (text : List ℕ) (slots : List Slot) → length text < size → CannotDecode 0 1 (stored_fixed loaded size text) slots (OutOfSpec S6)
fixed-missing loaded size text slots h = inr (inl (refl, omega (arith, ap length (fixed-none loaded size text h))))

pub fixed-no-size : (loaded : List ℕ → Stored) (size : ℕ) (text : List ℕ) (slots : List Slot) → size ≡ 0 → CannotDecode 0 1 (stored_fixed loaded size text) slots (OutOfSpec S6)
fixed-no-size loaded size text slots e = inr (inl (refl, omega (arith, ap length (fixed-zero loaded size text e))))

pub fixed-outside : (loaded : List ℕ → Stored) (size : ℕ) (text : List ℕ) (slots : List Slot) → 0 < size → size ≤ length text → loaded (take size text) ≡ None → CannotDecode 0 1 (stored_fixed loaded size text) slots (OutOfSpec S7)
fixed-outside loaded size text slots some h e =
    inr (inr (inl (
      refl,
      record {
        values = [];
        rest = stored_fixed loaded size (drop size text);
        next = fixed-first loaded size text some h ∙ ap (λ (o : Stored). o ∷ stored_fixed loaded size (drop size text)) e;
        within = omega arith;
      },
    )))
