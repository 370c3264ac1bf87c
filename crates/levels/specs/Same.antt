-- When lists of a path are the same.
use Rattle.std.specs.Prelude.{ℕ, Bool, List, nat_eq}
use Rattle.std.specs.Option.{option_eq}
use Rattle.std.specs.Ordering.{on, eq_of_both}
use Rattle.std.specs.Cmp.{IsEquivalence, bool_eq_equiv}
use Rattle.std.specs.Cmp.Lexicographic.{pointwise, options_equiv}
use Rattle.std.proofs.lemmas.Cmp.{lists_equiv, nat_eq_equiv, on_equiv, and_equiv}
use Rattle.columns_core.specs.Bits.{bits_eq, bits_eq-laws}
use Rattle.levels.specs.declared.nested.ListNested.{ListNested}
use mathlib.Core.Bool.{beq}

-- as many places, and the same
abbrev pub places_eq : List ℕ → List ℕ → Bool
places_eq = pointwise nat_eq

-- the same in all parts
abbrev pub lists_eq : {O : Type 0} → ListNested O → ListNested O → Bool
lists_eq = eq_of_both (on (λ x. x.is_optional) beq) (eq_of_both (on (λ x. x.offsets) places_eq) (on (λ x. x.validity) (option_eq bits_eq)))

pub lists_eq-laws : {O : Type 0} → IsEquivalence (lists_eq {O = O})
lists_eq-laws = and_equiv (on_equiv (λ x. x.is_optional) bool_eq_equiv) (and_equiv (on_equiv (λ x. x.offsets) (lists_equiv nat_eq_equiv)) (on_equiv (λ x. x.validity) (options_equiv bits_eq-laws)))
