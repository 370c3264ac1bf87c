-- Skeletons under a node and one after another.
use Rattle.std.proofs.Common.{◌≡◌, Bool, true, refl, sym, ap, subst, true≢false}
use Rattle.std.proofs.lemmas.Bool.{and_parts, and_from}
use Rattle.pq_tree.specs.Types.{Repetition, required, optional, repeated}
use Rattle.schema_fit.specs.Skeleton.{Bone, Bones, no_bones, bone, one, under_optional, under_repeated, and_then, under, same_bone, same_bones}
use Rattle.schema_map.specs.Rows.{all_bone, all_bones}

module _ {A : Type 0} where
  pub and_then_nothing : (xs : Bones A) → and_then xs no_bones ≡ xs
  and_then_nothing no_bones = refl
  and_then_nothing (bone x xs) = ap (bone x) (and_then_nothing xs)

module _ {A : Type 0} (p : A → Bool) where
  -- each of what stands under a node is so
  pub all_beneath : (r : Repetition) (xs : Bones A) → all_bones p (under r xs) ≡ true → all_bones p xs ≡ true
  all_beneath r no_bones h = refl
  all_beneath required (bone x xs) h = h
  all_beneath optional (bone x xs) h = (and_parts _ _ h).0
  all_beneath repeated (bone x xs) h = (and_parts _ _ h).0

  pub all_parts : (xs ys : Bones A) → all_bones p (and_then xs ys) ≡ true → (all_bones p xs ≡ true) × (all_bones p ys ≡ true)
  all_parts no_bones ys h = (refl, h)
  all_parts (bone x xs) ys h =
      let first = and_parts (all_bone p x) (all_bones p (and_then xs ys)) h in
      let more = all_parts xs ys first.1 in
      (and_from _ _ first.0 more.0, more.1)

module _ {A B : Type 0} (g : A → B → Bool) where
  pub same_under : (r : Repetition) (xs : Bones A) (ys : Bones B) → same_bones g xs ys ≡ true → same_bones g (under r xs) (under r ys) ≡ true
  same_under r no_bones no_bones h = refl
  same_under r no_bones (bone y ys) h = absurd (true≢false (sym h))
  same_under r (bone x xs) no_bones h = absurd (true≢false (sym h))
  same_under required (bone x xs) (bone y ys) h = h
  same_under optional (bone x xs) (bone y ys) h = and_from _ _ h refl
  same_under repeated (bone x xs) (bone y ys) h = and_from _ _ h refl

  pub same_and_then : (xs : Bones A) (ys : Bones B) (vs : Bones A) (ws : Bones B) → same_bones g xs ys ≡ true → same_bones g vs ws ≡ true
      → same_bones g (and_then xs vs) (and_then ys ws) ≡ true
  same_and_then no_bones no_bones vs ws h k = k
  same_and_then no_bones (bone y ys) vs ws h k = absurd (true≢false (sym h))
  same_and_then (bone x xs) no_bones vs ws h k = absurd (true≢false (sym h))
  same_and_then (bone x xs) (bone y ys) vs ws h k =
      let parts = and_parts (same_bone g x y) (same_bones g xs ys) h in
      and_from _ _ parts.0 (same_and_then xs ys vs ws parts.1 k)

  pub same_alone : (xs : Bones A) (ys : Bones B) → same_bones g xs ys ≡ true → same_bones g xs (and_then ys no_bones) ≡ true
  same_alone xs ys h = subst (λ zs. same_bones g xs zs ≡ true) (sym (and_then_nothing ys)) h

-- where leaves go together only if the first is so
module _ {A B : Type 0} (g : A → B → Bool) (p : A → Bool) (each : (a : A) (b : B) → g a b ≡ true → p a ≡ true) where
  mutual
    all_of_bone : (x : Bone A) (y : Bone B) → same_bone g x y ≡ true → all_bone p x ≡ true
    all_of_bone (one a) (one b) h = each a b h
    all_of_bone (under_optional xs) (under_optional ys) h = all_of_same xs ys h
    all_of_bone (under_repeated xs) (under_repeated ys) h = all_of_same xs ys h
    all_of_bone x y h = absurd (true≢false (sym h))

    pub all_of_same : (xs : Bones A) (ys : Bones B) → same_bones g xs ys ≡ true → all_bones p xs ≡ true
    all_of_same no_bones no_bones h = refl
    all_of_same (bone x xs) (bone y ys) h =
        let parts = and_parts (same_bone g x y) (same_bones g xs ys) h in
        and_from _ _ (all_of_bone x y parts.0) (all_of_same xs ys parts.1)
    all_of_same xs ys h = absurd (true≢false (sym h))

-- where leaves that go together by the first test do so by the second
module _ {A B : Type 0} (g h : A → B → Bool) (each : (a : A) (b : B) → g a b ≡ true → h a b ≡ true) where
  mutual
    same_of_bone : (x : Bone A) (y : Bone B) → same_bone g x y ≡ true → same_bone h x y ≡ true
    same_of_bone (one a) (one b) k = each a b k
    same_of_bone (under_optional xs) (under_optional ys) k = same_of_same xs ys k
    same_of_bone (under_repeated xs) (under_repeated ys) k = same_of_same xs ys k
    same_of_bone x y k = absurd (true≢false (sym k))

    pub same_of_same : (xs : Bones A) (ys : Bones B) → same_bones g xs ys ≡ true → same_bones h xs ys ≡ true
    same_of_same no_bones no_bones k = refl
    same_of_same (bone x xs) (bone y ys) k =
        let parts = and_parts (same_bone g x y) (same_bones g xs ys) k in
        and_from _ _ (same_of_bone x y parts.0) (same_of_same xs ys parts.1)
    same_of_same xs ys k = absurd (true≢false (sym k))
