-- Values at picked places, one behind the other.
use Rattle.std.proofs.Common.{◌≡◌, ℕ, suc, ◌+◌, ◌-◌, ◌^◌, ◌<◌, ◌≤◌, List, [], ◌∷◌, ◌++◌, length, map, get_or, false, refl, ap, sym, subst, ◌∙◌, arith, append-nil, append_assoc}
use Rattle.std.proofs.lemmas.List.{get_or-map}
use Rattle.std.proofs.lemmas.Nat.{ones-le}
use Rattle.shredding.specs.Slot.{Value, truth}
use Rattle.pq_tree.specs.Physical.{Physical}
use Rattle.write_places.specs.Places.{picked}
use Rattle.write_places.proofs.Bits.{zero_bits}
use Rattle.write_places.proofs.Gather.{gather-nothing}
use Rattle.write_places.proofs.Picked.{IsNext, length_picked}
use Rattle.write_values.specs.Numbers.{at_place}
use Rattle.write_values.specs.Rows.{AppendsRow, row-none}
use Rattle.write_values.proofs.InRows.{row-more}

-- of all the values those that are not left are appended
pub record IsPartly (p : Physical) (before after : List ℕ) (all left : List Value) : Type 0 where
  pub done : List Value
  pub parts : done ++ left ≡ all
  pub row : AppendsRow p before after done

pub partly_none : (p : Physical) (out : List ℕ) (all : List Value) → IsPartly p out out all all
partly_none p out all = record { done = []; parts = refl; row = row-none p out }

pub partly_more : (p : Physical) (before mid after : List ℕ) (all : List Value) (f : ℕ → Value) (word left from count t : ℕ) (v : Value) → IsPartly p before mid all (map f (picked word from count)) → IsNext word left from count t → AppendsRow p mid after (v ∷ []) → v ≡ f (from + t) → IsPartly p before after all (map f (picked left from count))
partly_more p before mid after all f word left from count t v h n r e =
    let here : AppendsRow p mid after (f (from + t) ∷ []) = subst (λ (u : Value). AppendsRow p mid after (u ∷ [])) e r in
    record {
      done = h.done ++ (f (from + t) ∷ []);
      parts = append_assoc h.done (f (from + t) ∷ []) (map f (picked left from count)) ∙ (ap (λ (ns : List ℕ). h.done ++ map f ns) (sym n.places) ∙ h.parts);
      row = row-more p before mid after h.done (f (from + t) ∷ []) h.row here;
    }

pub picked_none : (word from count : ℕ) → word ≡ 0 → picked word from count ≡ []
picked_none word from count e = gather-nothing _ from count (λ i l h. rw (zero_bits word (i - from) e) refl)

pub partly_all : (p : Physical) (before after : List ℕ) (all : List Value) (f : ℕ → Value) (word from count : ℕ) → IsPartly p before after all (map f (picked word from count)) → word ≡ 0 → AppendsRow p before after all
partly_all p before after all f word from count h e =
    let done : h.done ≡ all = sym (append-nil h.done) ∙ (ap (λ (ns : List ℕ). h.done ++ map f ns) (sym (picked_none word from count e)) ∙ h.parts) in
    subst (λ (vs : List Value). AppendsRow p before after vs) done h.row

-- ---- room

pub few_picked : (word from count : ℕ) → word < 2 ^ count → length (picked word from count) ≤ count
few_picked word from count h = omega (arith, length_picked word from count h, ones-le count word h)

pub one_less : (word left from count t : ℕ) → IsNext word left from count t → length (picked word from count) ≡ suc (length (picked left from count))
one_less word left from count t n = ap length n.places

-- a number as the value at its place
pub number_here : {A : Type 0} (f : A → Value) (xs : List A) (i : ℕ) (x : A) → i < length xs → x ≡ get_or xs i x → f x ≡ at_place (map f xs) i
number_here f xs i x h e = ap f e ∙ sym (get_or-map f xs i x (truth false) h)
