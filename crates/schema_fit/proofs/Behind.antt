-- Equal beginnings.
use Rattle.std.proofs.Common.{◌≡◌, Bool, true, false, ◌&&◌, Option, Some, None, refl, sym, ap, ◌∙◌, true≢false}
use Rattle.std.specs.Prelude.{if◌then◌else◌}
use Rattle.pq_tree.specs.Types.{Repetition, required, optional, repeated}
use Rattle.schema_fit.specs.Skeleton.{Bone, Bones, no_bones, bone, one, under_optional, under_repeated, and_then, under, same_bone, same_bones}
use Rattle.schema_fit.specs.Walk.{has_bones, behind, Eats}

module _ {A : Type 0} where
  pub under_required : (xs : Bones A) → under required xs ≡ xs
  under_required no_bones = refl
  under_required (bone x xs) = refl

  optional_is : (xs : Bones A) → has_bones xs ≡ true → under optional xs ≡ bone (under_optional xs) no_bones
  optional_is no_bones e = absurd (true≢false (sym e))
  optional_is (bone x xs) e = refl

  repeated_is : (xs : Bones A) → has_bones xs ≡ true → under repeated xs ≡ bone (under_repeated xs) no_bones
  repeated_is no_bones e = absurd (true≢false (sym e))
  repeated_is (bone x xs) e = refl

  nothing_is : (r : Repetition) (xs : Bones A) → has_bones xs ≡ false → under r xs ≡ no_bones
  nothing_is r no_bones e = refl
  nothing_is r (bone x xs) e = absurd (true≢false e)

module _ {A B : Type 0} (g : A → B → Bool) where
  -- one bone, compared with the next one
  pub eats_one : (x : Bone A) (y : Bone B) (found : Bool) (old new : Bones B) → old ≡ bone y new → found ≡ same_bone g x y → Eats g found (bone x no_bones) old new
  eats_one x y true old new e h = ap (behind g (bone x no_bones)) e ∙ ap (λ t. if t then Some new else None) (sym h)
  eats_one x y false old new e h = ap (behind g (bone x no_bones)) e ∙ ap (λ t. if t then Some new else None) (sym h)

  pub eats_end : (x : Bone A) (old : Bones B) → old ≡ no_bones → behind g (bone x no_bones) old ≡ None
  eats_end x old e = ap (behind g (bone x no_bones)) e

  pub eats_as : (xs ys : Bones A) (found : Bool) (old new : Bones B) → xs ≡ ys → Eats g found xs old new → Eats g found ys old new
  eats_as xs ys true old new e h = ap (λ zs. behind g zs old) (sym e) ∙ h
  eats_as xs ys false old new e h = ap (λ zs. behind g zs old) (sym e) ∙ h

  pub eats_required : (xs : Bones A) (found : Bool) (old new : Bones B) → Eats g found xs old new → Eats g found (under required xs) old new
  eats_required xs found old new h = eats_as xs (under required xs) found old new (sym (under_required xs)) h

  pub eats_optional : (xs : Bones A) (ys : Bones B) (found : Bool) (old new : Bones B) → has_bones xs ≡ true → old ≡ bone (under_optional ys) new → found ≡ same_bones g xs ys → Eats g found (under optional xs) old new
  eats_optional xs ys found old new some e h =
      eats_as (bone (under_optional xs) no_bones) (under optional xs) found old new (sym (optional_is xs some)) (eats_one (under_optional xs) (under_optional ys) found old new e h)

  pub eats_repeated : (xs : Bones A) (ys : Bones B) (found : Bool) (old new : Bones B) → has_bones xs ≡ true → old ≡ bone (under_repeated ys) new → found ≡ same_bones g xs ys → Eats g found (under repeated xs) old new
  eats_repeated xs ys found old new some e h =
      eats_as (bone (under_repeated xs) no_bones) (under repeated xs) found old new (sym (repeated_is xs some)) (eats_one (under_repeated xs) (under_repeated ys) found old new e h)

  pub no_optional : (xs : Bones A) (y : Bone B) (old new : Bones B) → has_bones xs ≡ true → old ≡ bone y new → false ≡ same_bone g (under_optional xs) y → behind g (under optional xs) old ≡ None
  no_optional xs y old new some e h =
      eats_as (bone (under_optional xs) no_bones) (under optional xs) false old new (sym (optional_is xs some)) (eats_one (under_optional xs) y false old new e h)

  pub no_repeated : (xs : Bones A) (y : Bone B) (old new : Bones B) → has_bones xs ≡ true → old ≡ bone y new → false ≡ same_bone g (under_repeated xs) y → behind g (under repeated xs) old ≡ None
  no_repeated xs y old new some e h =
      eats_as (bone (under_repeated xs) no_bones) (under repeated xs) false old new (sym (repeated_is xs some)) (eats_one (under_repeated xs) y false old new e h)

  pub end_optional : (xs : Bones A) (old : Bones B) → has_bones xs ≡ true → old ≡ no_bones → behind g (under optional xs) old ≡ None
  end_optional xs old some e = ap (λ zs. behind g zs old) (optional_is xs some) ∙ eats_end (under_optional xs) old e

  pub end_repeated : (xs : Bones A) (old : Bones B) → has_bones xs ≡ true → old ≡ no_bones → behind g (under repeated xs) old ≡ None
  end_repeated xs old some e = ap (λ zs. behind g zs old) (repeated_is xs some) ∙ eats_end (under_repeated xs) old e

  pub eats_nothing : (r : Repetition) (xs : Bones A) (old : Bones B) → has_bones xs ≡ false → behind g (under r xs) old ≡ Some old
  eats_nothing r xs old none = ap (λ zs. behind g zs old) (nothing_is r xs none)

  -- ---- one after another

  pub behind_some : (xs zs : Bones A) (old new : Bones B) → behind g xs old ≡ Some new → behind g (and_then xs zs) old ≡ behind g zs new
  behind_some xs zs old new e = by xs old e
    where
      right : Option (Bones B) → Bones B
      right None = no_bones
      right (Some ys) = ys

      none_some : {C : Type 0} (ys : Bones B) → None ≡ Some ys → C
      none_some ys e = absurd (true≢false (ap is_none e))
        where
          is_none : Option (Bones B) → Bool
          is_none None = true
          is_none (Some ys) = false

      step : (b : Bool) (xs : Bones A) (ys : Bones B) → (behind g xs ys ≡ Some new → behind g (and_then xs zs) ys ≡ behind g zs new) → (if b then behind g xs ys else None) ≡ Some new → (if b then behind g (and_then xs zs) ys else None) ≡ behind g zs new
      step true xs ys more e = more e
      step false xs ys more e = none_some new e

      by : (xs : Bones A) (old : Bones B) → behind g xs old ≡ Some new → behind g (and_then xs zs) old ≡ behind g zs new
      by no_bones old e = ap (λ o. behind g zs (right o)) e
      by (bone x xs) no_bones e = none_some new e
      by (bone x xs) (bone y ys) e = step (same_bone g x y) xs ys (by xs ys) e

  pub behind_none : (xs zs : Bones A) (old : Bones B) → behind g xs old ≡ None → behind g (and_then xs zs) old ≡ None
  behind_none no_bones zs old e = absurd (true≢false (sym (ap is_none e)))
    where
      is_none : Option (Bones B) → Bool
      is_none None = true
      is_none (Some ys) = false
  behind_none (bone x xs) zs no_bones e = refl
  behind_none (bone x xs) zs (bone y ys) e = step (same_bone g x y) (behind_none xs zs ys) e
    where
      step : (b : Bool) → (behind g xs ys ≡ None → behind g (and_then xs zs) ys ≡ None) → (if b then behind g xs ys else None) ≡ None → (if b then behind g (and_then xs zs) ys else None) ≡ None
      step true more e = more e
      step false more e = refl

  -- ---- to the end

  ends : Option (Bones B) → Bool
  ends None = false
  ends (Some no_bones) = true
  ends (Some (bone y ys)) = false

  same_behind : (xs : Bones A) (ys : Bones B) → same_bones g xs ys ≡ ends (behind g xs ys)
  unfolding ends
  same_behind no_bones no_bones = refl
  same_behind no_bones (bone y ys) = refl
  same_behind (bone x xs) no_bones = refl
  same_behind (bone x xs) (bone y ys) = step (same_bone g x y) (same_behind xs ys)
    where
      step : (b : Bool) → same_bones g xs ys ≡ ends (behind g xs ys) → b && same_bones g xs ys ≡ ends (if b then behind g xs ys else None)
      step true e = e
      step false e = refl

  pub same_none : (xs : Bones A) (ys old : Bones B) → old ≡ ys → behind g xs old ≡ None → false ≡ same_bones g xs ys
  unfolding ends
  same_none xs ys old same e = sym (same_behind xs ys ∙ ap ends (ap (behind g xs) (sym same) ∙ e))

  pub same_end : (xs : Bones A) (ys old new : Bones B) → old ≡ ys → behind g xs old ≡ Some new → new ≡ no_bones → true ≡ same_bones g xs ys
  unfolding ends
  same_end xs ys old new same e none = sym (same_behind xs ys ∙ ap ends (ap (behind g xs) (sym same) ∙ e ∙ ap Some none))

  pub same_more : (xs : Bones A) (ys old new : Bones B) (z : Bone B) (zs : Bones B) → old ≡ ys → behind g xs old ≡ Some new → new ≡ bone z zs → false ≡ same_bones g xs ys
  unfolding ends
  same_more xs ys old new z zs same e more = sym (same_behind xs ys ∙ ap ends (ap (behind g xs) (sym same) ∙ e ∙ ap Some more))
