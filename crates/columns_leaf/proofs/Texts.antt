-- Texts one after another.
use Rattle.std.proofs.Common.{◌≡◌, ℕ, zero, suc, ◌+◌, ◌-◌, ◌≤◌, ◌<◌, List, [], ◌∷◌, length, take, drop, get_or, All, IsUtf8, ◌↔◌, Bool, true, false, true≢false, add-one, refl, sym, ◌∙◌, arith}
use Rattle.std.specs.Bool.{Decides}
use Rattle.columns_slots.specs.Slots.{IsPlaces, AreUpTo}
use Rattle.columns_slots.specs.Bytes.{pieces}
use Rattle.columns_slots.proofs.Strings.{pieces_at}
use Rattle.columns_leaf.specs.Texts.{IsText, AreTexts}

-- of the texts from a place on: the first, and the others
pub first_text : (ss : List (List ℕ)) (i : ℕ) → i < length ss → AreTexts (drop i ss) → IsText (get_or ss i []) × AreTexts (drop (i + 1) ss)
first_text [] i h t = absurd (omega (arith, h))
first_text (s ∷ ss) zero h t = t
first_text (s ∷ ss) (suc i) h t =
    let e : suc i + 1 ≡ suc (i + 1) = omega arith in
    rw e (first_text ss i (omega (arith, h)) t)

pub join_texts : (ss : List (List ℕ)) (i : ℕ) → i < length ss → IsText (get_or ss i []) → AreTexts (drop (i + 1) ss) → AreTexts (drop i ss)
join_texts [] i h a t = absurd (omega (arith, h))
join_texts (s ∷ ss) zero h a t = (a, t)
join_texts (s ∷ ss) (suc i) h a t =
    let e : suc i + 1 ≡ suc (i + 1) = omega arith in
    join_texts ss i (omega (arith, h)) a (rw e at t)

pub texts_from : (ss : List (List ℕ)) (o : ℕ) → AreTexts ss → AreTexts (drop o ss)
texts_from ss zero t = t
texts_from [] (suc o) t = tt
texts_from (s ∷ ss) (suc o) t = texts_from ss o t.1

pub texts_front : (ss : List (List ℕ)) (n : ℕ) → AreTexts ss → AreTexts (take n ss)
texts_front ss zero t = tt
texts_front [] (suc n) t = tt
texts_front (s ∷ ss) (suc n) t = (t.0, texts_front ss n t.1)

pub text_at : (ss : List (List ℕ)) (k : ℕ) (d : List ℕ) → AreTexts ss → k < length ss → IsUtf8 (get_or ss k d)
unfolding IsText
text_at [] k d t h = absurd (omega (arith, h))
text_at (s ∷ ss) zero d t h = t.0
text_at (s ∷ ss) (suc k) d t h = text_at ss k d t.1 (omega (arith, h))

pub all_texts : (ss : List (List ℕ)) → AreTexts ss → All IsUtf8 ss
all_texts ss t = λ k d h. text_at ss k d t h

-- ---- the test of one text after another
pub texts_step : (ss : List (List ℕ)) (i : ℕ) → i < length ss → IsText (get_or ss i []) → AreTexts ss ↔ AreTexts (drop i ss) → AreTexts ss ↔ AreTexts (drop (i + 1) ss)
texts_step ss i h a v = (λ t. (first_text ss i h (v.0 t)).1, λ t. v.1 (join_texts ss i h a t))

pub texts_no : (ss : List (List ℕ)) (i : ℕ) (r : Bool) → i < length ss → r ≡ false → Decides r (IsText (get_or ss i [])) → AreTexts ss ↔ AreTexts (drop i ss) → Decides false (AreTexts ss)
texts_no ss i r h f d v = (λ e. absurd (true≢false (sym e)), λ t. absurd (true≢false (sym (d.1 (first_text ss i h (v.0 t)).0) ∙ f)))

pub texts_yes : (ss : List (List ℕ)) (i : ℕ) → length ss ≤ i → AreTexts ss ↔ AreTexts (drop i ss) → Decides true (AreTexts ss)
texts_yes ss i h v = (λ e. v.1 (past ss i h), λ t. refl)
  where
    past : (ss : List (List ℕ)) (i : ℕ) → length ss ≤ i → AreTexts (drop i ss)
    past [] zero h = tt
    past [] (suc i) h = tt
    past (s ∷ ss) zero h = absurd (omega (arith, h))
    past (s ∷ ss) (suc i) h = past ss i (omega (arith, h))

-- ---- where a text lies
up_step : (o : ℕ) (os : List ℕ) (u i : ℕ) → AreUpTo o os u → i < length os → (get_or (o ∷ os) i 0 ≤ get_or os i 0) × (get_or os i 0 ≤ u)
up_step o [] u i p h = absurd (omega (arith, h))
up_step o (q ∷ []) u zero p h = (p.0, p.1)
up_step o (q ∷ r ∷ os) u zero p h = (p.0, omega (arith, (up_step q (r ∷ os) u 0 p.1 (omega arith)).0, (up_step q (r ∷ os) u 0 p.1 (omega arith)).1))
up_step o (q ∷ os) u (suc i) p h = up_step q os u i p.1 (omega (arith, h))

pub step_of_places : (os : List ℕ) (u i : ℕ) → IsPlaces os u → i + 1 < length os → (get_or os i 0 ≤ get_or os (i + 1) 0) × (get_or os (i + 1) 0 ≤ u)
step_of_places [] u i p h = absurd (omega (arith, h))
step_of_places (o ∷ os) u i p h = rw (add-one i) (up_step o os u i p (omega (arith, h)))

pub text_told : (os bs : List ℕ) (i a b : ℕ) (r : Bool) → i + 1 < length os → a ≡ get_or os i 0 → b ≡ get_or os (i + 1) 0 → Decides r (IsText (take (b - a) (drop a bs))) → Decides r (IsText (get_or (pieces os bs) i []))
text_told os bs i a b r h ea eb d = rw (pieces_at os bs i [] h, ← ea, ← eb) d
