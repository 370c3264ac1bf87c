-- The pairs of a block that reach a part, and what a list keeps of them.
use Rattle.std.specs.Prelude.{◌≡◌, ℕ, ◌+◌, Bool, true, cond, ◌&&◌, nat_le, min, List, [], ◌∷◌, map}
use Rattle.columns_core.specs.Bits.{word_bits}
use Rattle.read_laws.specs.Step.{bit}
use Rattle.read_laws.specs.Block.{Mark, marks_part}

-- whether each pair is neither too deep nor too low for a part
abbrev pub reached : ℕ → ℕ → List ℕ → List ℕ → List Bool
reached depth def (r ∷ rs) (d ∷ ds) = (nat_le r depth && nat_le def d) ∷ reached depth def rs ds
reached depth def _ _ = []

-- the values beside the bits that are set
unfoldable pub chosen : List Bool → List Bool → List Bool
chosen (p ∷ ps) (v ∷ vs) = cond p (v ∷ chosen ps vs) (chosen ps vs)
chosen _ _ = []

-- the length of the part beneath at each bit that is set, where it grows beside the set bits of the other list
unfoldable pub places : ℕ → List Bool → List Bool → List ℕ
places place (p ∷ ps) (g ∷ gs) = cond p (place ∷ places (place + bit g) ps gs) (places (place + bit g) ps gs)
places place _ _ = []

-- a pair that pushes beneath a null, and still defines a part, repeats in no list beneath the part
abbrev pub AllNear : ℕ → ℕ → List Mark → Type 0
AllNear depth def [] = Unit {0}
AllNear depth def (m ∷ ms) = (m.hidden ≡ true → nat_le def m.definition ≡ true → nat_le m.repetition depth ≡ true) × AllNear depth def ms

-- marks of 64 pairs of these levels, of which those above 255 are told as 255, and a word with a bit for each that pushes to a part
pub record AreMarked (ms : List Mark) (reps defs : List ℕ) (word depth def : ℕ) : Type 0 where
  pub repetitions : map (λ m. min m.repetition 255) ms ≡ reps
  pub definitions : map (λ m. min m.definition 255) ms ≡ defs
  pub pushed : word_bits word 64 ≡ map (marks_part depth def) ms
  pub near : AllNear depth def ms
