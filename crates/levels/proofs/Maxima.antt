-- The maxima of what is left of a path from a part on.
use Rattle.std.proofs.Common.{◌≡◌, ℕ, suc, ◌+◌, ◌<◌, Bool, true, false, cond, List, ◌∷◌, length, drop, get_or, refl, add-one, drop-cons, ◌∙◌, ap, arith}
use Rattle.shredding.specs.Shred.{up, max_repetition, max_definition}
use Rattle.shredding.specs.Parts.{path_way}
use Rattle.levels.specs.declared.nested.Nested.{Nested}
use Rattle.levels.specs.declared.nested.Nested.TheVariants.{Primitive, List as ListOf, LargeList, Struct}
use Rattle.levels.specs.Nested.{parts_of, is_leaf, is_list, is_nullable}
use Rattle.levels.specs.Levels.{bit}

abbrev pub repetition_from : List Nested → ℕ → ℕ
repetition_from parts i = max_repetition (path_way (parts_of (drop i parts)))

abbrev pub definition_from : List Nested → ℕ → ℕ
definition_from parts i = max_definition (path_way (parts_of (drop i parts)))

drop-at : (parts : List Nested) (i : ℕ) (x : Nested) → i < length parts → x ≡ get_or parts i x → drop i parts ≡ x ∷ drop (i + 1) parts
drop-at parts i x h e = rw (add-one, drop-cons parts i x h, ← e) refl

repetition-cons : (x : Nested) (parts : List Nested) → max_repetition (path_way (parts_of (x ∷ parts))) ≡ cond (is_leaf x) 0 (bit (is_list x) + max_repetition (path_way (parts_of parts)))
repetition-cons (Primitive mask is_optional count) parts = refl
repetition-cons (ListOf list) parts = omega arith
repetition-cons (LargeList list) parts = omega arith
repetition-cons (Struct mask is_optional count) parts = omega arith

pub repetition_step : (parts : List Nested) (i : ℕ) (x : Nested) → i < length parts → x ≡ get_or parts i x → repetition_from parts i ≡ cond (is_leaf x) 0 (bit (is_list x) + repetition_from parts (i + 1))
repetition_step parts i x h e = ap (λ ps. max_repetition (path_way (parts_of ps))) (drop-at parts i x h e) ∙ repetition-cons x (drop (i + 1) parts)

-- the levels that a part adds, and those of the parts beneath it
definition-cons : (x : Nested) (parts : List Nested) → max_definition (path_way (parts_of (x ∷ parts))) ≡ bit (is_nullable x) + cond (is_leaf x) 0 (bit (is_list x) + max_definition (path_way (parts_of parts)))
definition-cons (Primitive mask true count) parts = refl
definition-cons (Primitive mask false count) parts = refl
definition-cons (ListOf list) parts = by_test list.is_optional where
  by_test : (b : Bool) → up b (suc (max_definition (path_way (parts_of parts)))) ≡ bit b + (1 + max_definition (path_way (parts_of parts)))
  by_test true = omega arith
  by_test false = omega arith
definition-cons (LargeList list) parts = by_test list.is_optional where
  by_test : (b : Bool) → up b (suc (max_definition (path_way (parts_of parts)))) ≡ bit b + (1 + max_definition (path_way (parts_of parts)))
  by_test true = omega arith
  by_test false = omega arith
definition-cons (Struct mask true count) parts = omega arith
definition-cons (Struct mask false count) parts = omega arith

pub definition_step : (parts : List Nested) (i : ℕ) (x : Nested) → i < length parts → x ≡ get_or parts i x → definition_from parts i ≡ bit (is_nullable x) + cond (is_leaf x) 0 (bit (is_list x) + definition_from parts (i + 1))
definition_step parts i x h e = ap (λ ps. max_definition (path_way (parts_of ps))) (drop-at parts i x h e) ∙ definition-cons x (drop (i + 1) parts)
