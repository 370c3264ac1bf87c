-- One part of a state, then the others.
use Rattle.std.proofs.Common.{◌≡◌, ℕ, ◌+◌, Bool, true, false, not, ◌&&◌, nat_lt, List, [], ◌∷◌, length, refl, arith, sym, ◌∙◌}
use Rattle.std.proofs.Common.{inl, inr, ◌^◌, ◌<◌}
use Rattle.std.proofs.lemmas.Bool.{cases_lt}
use Rattle.read_laws.specs.State.{Kept, kept_leaf, kept_list, kept_struct, count}
use Rattle.read_laws.specs.Step.{step, pushes, bit, pushed, is_nullable, is_list, is_struct}
use Rattle.read_laws.proofs.Steps.{step-push, step-pass}
use Rattle.read_laws.proofs.Stretches.{step-none}
use Rattle.read_state.specs.declared.boxes.NestedBox.{NestedBox}
use Rattle.read_state.specs.Kinds.{kept_box, all_kept, HasLongItems}

pub none : (m rep level : ℕ) (hidden : Bool) (depth def : ℕ) (parts : List NestedBox) → length parts ≡ 0 → all_kept parts ≡ step m rep level hidden depth def (all_kept parts)
none m rep level hidden depth def [] e = sym (step-none m rep level hidden depth def)
none m rep level hidden depth def (part ∷ parts) e = absurd (omega (arith, e))

pub pass : (m rep level : ℕ) (hidden : Bool) (depth def : ℕ) (part : NestedBox) (rest all new : List NestedBox) (K D : ℕ) → all ≡ part ∷ rest → pushes rep level hidden depth def ≡ false → K ≡ depth + bit (is_list (kept_box part)) → D ≡ def + (bit (is_nullable (kept_box part)) + bit (is_list (kept_box part))) → all_kept new ≡ step m rep level false K D (all_kept rest) → kept_box part ∷ all_kept new ≡ step m rep level hidden depth def (all_kept all)
pass m rep level hidden depth def part rest all new K D e p k d h = rw (e, step-pass m rep level hidden depth def (kept_box part) (all_kept rest) p, h, k, d) refl

-- a part that is no list keeps no place
same-first : (k : Kept) (a b by : ℕ) (v : Bool) (m : ℕ) → (is_list k ≡ true → a ≡ b) → pushed k a by v m ≡ pushed k b by v m
same-first (kept_leaf n c) a b by v m e = refl
same-first (kept_list mask starts) a b by v m e = rw (e refl)
same-first (kept_struct mask c) a b by v m e = refl

pub push : (m rep level : ℕ) (hidden : Bool) (depth def : ℕ) (part part' : NestedBox) (rest all new : List NestedBox) (K D first : ℕ) (grows there hides' : Bool) → all ≡ part ∷ rest → pushes rep level hidden depth def ≡ true → K ≡ depth + bit (is_list (kept_box part)) → D ≡ def + (bit (is_nullable (kept_box part)) + bit (is_list (kept_box part))) → (is_list (kept_box part) ≡ true → first ≡ count (all_kept rest)) → grows ≡ pushes rep level false K D → there ≡ (is_nullable (kept_box part) && nat_lt def level) → hides' ≡ (is_struct (kept_box part) && not there) → kept_box part' ≡ pushed (kept_box part) first (bit grows) there m → all_kept new ≡ step m rep level hides' K D (all_kept rest) → kept_box part' ∷ all_kept new ≡ step m rep level hidden depth def (all_kept all)
push m rep level hidden depth def part part' rest all new K D first grows there hides' e p k d f g t i h r =
    let h' : kept_box part' ≡ pushed (kept_box part) (count (all_kept rest)) (bit grows) there m = h ∙ same-first (kept_box part) first (count (all_kept rest)) (bit grows) there m f in
    rw (e, step-push m rep level hidden depth def (kept_box part) (all_kept rest) p, h', r, g, i, t, k, d) refl

-- no part beneath a list is too long, from the next part on
pub short-rest : (part : NestedBox) (rest all : List NestedBox) → all ≡ part ∷ rest → (HasLongItems (all_kept all) → ⊥) → HasLongItems (all_kept rest) → ⊥
short-rest part rest all e not long = (rw e at not) (inr long)

pub short-here : (part : NestedBox) (rest all : List NestedBox) → all ≡ part ∷ rest → (HasLongItems (all_kept all) → ⊥) → is_list (kept_box part) ≡ true → count (all_kept rest) < 2 ^ 63
short-here part rest all e not l = elim (cases_lt (count (all_kept rest)) (2 ^ 63)) [
  | inl h ↦ h
  | inr h ↦ absurd ((rw e at not) (inl (l, h)))
]
