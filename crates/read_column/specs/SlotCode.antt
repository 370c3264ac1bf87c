-- A code for a slot: its parts as tokens, the parts before the whole, read back by two stacks.
use Rattle.std.specs.Prelude.{◌≡◌, ℕ, zero, suc, List, [], ◌∷◌, false, refl}
use Rattle.std.specs.Coded.{Coded, code_by, coded_ℕ, coded_list, coded×}
use Rattle.std.proofs.Common.{ap, ◌∙◌}
use Rattle.shredding.specs.Slot.{Value, truth, Slot, null, value, items, fields, Slots, no_slots, slot}
use Rattle.columns_slots.specs.Tree.{value_code}

-- a number for the kind, and a value
abbrev Token : Type 0
Token = ℕ × Value

abbrev token_code : Coded Token
token_code = coded× coded_ℕ value_code

abbrev no_value : Value
no_value = truth false

abbrev mutual
  spell : Slot → List Token → List Token
  spell null k = (0, no_value) ∷ k
  spell (value v) k = (1, v) ∷ k
  spell (items ss) k = spell_all ss ((2, no_value) ∷ k)
  spell (fields ss) k = spell_all ss ((3, no_value) ∷ k)

  spell_all : Slots → List Token → List Token
  spell_all no_slots k = (4, no_value) ∷ k
  spell_all (slot s ss) k = spell_all ss (spell s ((5, no_value) ∷ k))

abbrev Stacks : Type 0
Stacks = List Slot × List Slots

abbrev top : List Slot → Slot
top [] = null
top (s ∷ ss) = s

abbrev tops : List Slots → Slots
tops [] = no_slots
tops (s ∷ ss) = s

abbrev below : {A : Type 0} → List A → List A
below [] = []
below (x ∷ xs) = xs

abbrev act : ℕ → Value → List Slot → List Slots → Stacks
act zero v s l = (null ∷ s, l)
act (suc zero) v s l = (value v ∷ s, l)
act (suc (suc zero)) v s l = (items (tops l) ∷ s, below l)
act (suc (suc (suc zero))) v s l = (fields (tops l) ∷ s, below l)
act (suc (suc (suc (suc zero)))) v s l = (s, no_slots ∷ l)
act (suc (suc (suc (suc (suc k))))) v s l = (below s, slot (top s) (tops l) ∷ below l)

abbrev run : List Token → List Slot → List Slots → Stacks
run [] s l = (s, l)
run (x ∷ xs) s l = run xs (act x.0 x.1 s l).0 (act x.0 x.1 s l).1

mutual
  pub runs : (a : Slot) (k : List Token) (s : List Slot) (l : List Slots) → run (spell a k) s l ≡ run k (a ∷ s) l
  runs null k s l = refl
  runs (value v) k s l = refl
  runs (items ss) k s l = runs_all ss _ s l
  runs (fields ss) k s l = runs_all ss _ s l

  pub runs_all : (a : Slots) (k : List Token) (s : List Slot) (l : List Slots) → run (spell_all a k) s l ≡ run k s (a ∷ l)
  runs_all no_slots k s l = refl
  runs_all (slot a ss) k s l = runs_all ss _ s l ∙ runs a _ s (ss ∷ l)

abbrev pub slot_code : Coded Slot
slot_code = code_by (List Token) (coded_list token_code) (λ a. spell a []) (λ ts. top (run ts [] []).0) (λ a. ap (λ r. top r.0) (runs a [] [] []))
