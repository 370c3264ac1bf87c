-- Whether one of the places that are taken one after another is there.
use Rattle.std.proofs.Common.{◌≡◌, ℕ, suc, ◌<◌, Bool, true, false, List, [], ◌∷◌, ◌++◌, length, nat_lt, refl, sym, ap, ◌∙◌, arith}
use Rattle.std.specs.List.{AllByRecursion as Each}
use Rattle.std.specs.Prelude.{◌||◌}
use Rattle.std.proofs.lemmas.List.Elements.{All-from_recursion, recursion_from_All}
use Rattle.shredding.proofs.Levels.{Each-append}
use Rattle.write_pages.specs.Nulls.{LooksAt, is_some_place}

grouped : (a b c : Bool) → ((a || b) || c) ≡ (a || (b || c))
grouped true b c = refl
grouped false b c = refl

some_append : (xs ys : List ℕ) → is_some_place (xs ++ ys) ≡ (is_some_place xs || is_some_place ys)
some_append [] ys = refl
some_append (x ∷ xs) ys = refl

pub looks_more : (limit : ℕ) (places more : List ℕ) (first old new : Bool) → LooksAt limit places first old → new ≡ (old || is_some_place more) → Each (λ i. i < limit) more → LooksAt limit (places ++ more) first new
looks_more limit places more first old new h e each =
    record {
      is = e ∙ (ap (λ (b : Bool). b || is_some_place more) h.is ∙ (grouped first (is_some_place places) (is_some_place more) ∙ ap (λ (b : Bool). first || b) (sym (some_append places more))));
      within = All-from_recursion (λ i. i < limit) (places ++ more) (Each-append (λ i. i < limit) places more (recursion_from_All (λ i. i < limit) places h.within) each);
    }

-- there is one where they are not none
pub some_counted : (places : List ℕ) (n : ℕ) → n ≡ length places → nat_lt 0 n ≡ is_some_place places
some_counted [] n e = ap (nat_lt 0) e
some_counted (i ∷ is) n e = ap (nat_lt 0) e ∙ some (length is)
  where
    some : (k : ℕ) → nat_lt 0 (suc k) ≡ true
    some k = grind arith

pub some_there : (old : Bool) (places : List ℕ) → 0 < length places → true ≡ (old || is_some_place places)
some_there true places h = refl
some_there false [] h = absurd (omega (arith, h))
some_there false (i ∷ is) h = refl
