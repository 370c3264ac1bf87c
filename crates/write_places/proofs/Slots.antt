-- The places that a slot reaches, by whether it is there.
use Rattle.std.proofs.Common.{◌≡◌, ℕ, Bool, true, false, cond, List, [], ◌∷◌, refl, ap, ◌∙◌}
use Rattle.shredding.specs.Parts.{Part, leaf_part, list_part, struct_part, is_present}
use Rattle.write_places.specs.Places.{slot_places}
use Rattle.write_places.specs.There.{is_there, there_places}

twice : {A : Type 0} (b c : Bool) (xs : List A) → cond b (cond c xs []) [] ≡ cond (cond b c false) xs []
twice true c xs = refl
twice false c xs = refl

pub slot_is : (parts : List Part) (i : ℕ) → slot_places parts i ≡ cond (is_there parts i) (there_places parts i) []
unfolding slot_places
slot_is [] i = refl
slot_is (leaf_part b m c ∷ parts) i = refl
slot_is (list_part b m os ∷ parts) i = refl
slot_is (struct_part b m c ∷ parts) i =
    ap (λ xs. cond (is_present b m i) xs []) (slot_is parts i) ∙ twice (is_present b m i) (is_there parts i) (there_places parts i)

pub slot_there : (parts : List Part) (i : ℕ) → is_there parts i ≡ true → slot_places parts i ≡ there_places parts i
slot_there parts i h = slot_is parts i ∙ ap (λ b. cond b (there_places parts i) []) h

pub slot_absent : (parts : List Part) (i : ℕ) → is_there parts i ≡ false → slot_places parts i ≡ []
slot_absent parts i h = slot_is parts i ∙ ap (λ b. cond b (there_places parts i) []) h
