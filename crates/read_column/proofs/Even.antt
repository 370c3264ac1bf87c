-- Entries that all have the same size, and zeros behind a body.
use Rattle.std.proofs.Common.{◌≡◌, ℕ, zero, suc, ◌+◌, ◌-◌, ◌*◌, ◌<◌, ◌≤◌, Some, List, [], ◌∷◌, ◌++◌, map, length, take, drop, All, refl, ap, subst, ◌∙◌, arith}
use Rattle.std.specs.Prelude.{slice_get}
use Rattle.std.proofs.lemmas.List.{length-append, drop-append-le, take-append-le, length-drop}
use Rattle.std.proofs.lemmas.List.Elements.{All-nil, All-cons, All-head, All-tail}
use Rattle.read_column.specs.Dictionary.{IsPlaceIn, text_at}
use Rattle.read_column.specs.Entries.{AreEven, AreInRow, IsPadded}
use Rattle.read_column.specs.declared.entries.Place.{Place}

-- ---- sizes

text_is : (n start : ℕ) (body : List ℕ) (p : Place) → p.start ≡ start → p.end ≡ start + n → text_at body p ≡ take n (drop start body)
text_is n start body p e f =
    let size : p.end - p.start ≡ n = omega (arith, e, f) in
    ap (λ (k : ℕ). take k (drop p.start body)) size ∙ ap (λ (k : ℕ). take n (drop k body)) e

even_from : (n start : ℕ) (body : List ℕ) (ps : List Place) → AreInRow n start ps → All (IsPadded (length body)) ps → (i : ℕ) → i < length (map (text_at body) ps) → (start + n * i + n ≤ length body) × (slice_get (map (text_at body) ps) i ≡ Some (take n (drop (start + n * i) body)))
even_from n start body [] row inside i lt = absurd (omega (arith, lt))
even_from n start body (p ∷ ps) row inside zero lt =
    let h = All-head (IsPadded (length body)) p ps inside in
    (omega (arith, h.1, row.1), ap Some (text_is n start body p row.0 row.1 ∙ ap (λ (k : ℕ). take n (drop k body)) (omega arith)))
even_from n start body (p ∷ ps) row inside (suc i) lt =
    let h = even_from n (start + n) body ps row.2 (All-tail (IsPadded (length body)) p ps inside) i (omega (arith, lt)) in
    let e : start + n + n * i ≡ start + n * suc i = omega arith in
    (subst (λ (k : ℕ). k + n ≤ length body) e h.0, h.1 ∙ ap (λ (k : ℕ). Some (take n (drop k body))) e)

pub are_even : (n : ℕ) (body : List ℕ) (ps : List Place) → AreInRow n 0 ps → All (IsPadded (length body)) ps → AreEven n body (map (text_at body) ps)
are_even n body ps row inside = λ i lt. (
    let h = even_from n 0 body ps row inside i lt in
    let e : 0 + n * i ≡ n * i = omega arith in
    (subst (λ (k : ℕ). k + n ≤ length body) e h.0, h.1 ∙ ap (λ (k : ℕ). Some (take n (drop k body))) e))

-- ---- zeros behind

pub padded : (body behind : List ℕ) (ps : List Place) → length behind ≡ 32 → All (IsPlaceIn (length body)) ps → All (IsPadded (length (body ++ behind))) ps
padded body behind [] is inside = All-nil (IsPadded (length (body ++ behind)))
padded body behind (p ∷ ps) is inside =
    let h = All-head (IsPlaceIn (length body)) p ps inside in
    All-cons (IsPadded (length (body ++ behind))) p ps (h.0, omega (arith, h.1, is, length-append body behind)) (padded body behind ps is (All-tail (IsPlaceIn (length body)) p ps inside))

same_text : (body behind : List ℕ) (p : Place) → IsPlaceIn (length body) p → text_at (body ++ behind) p ≡ text_at body p
same_text body behind p inside =
    ap (take (p.end - p.start)) (drop-append-le p.start body behind (omega (arith, inside))) ∙ take-append-le (p.end - p.start) (drop p.start body) behind (omega (arith, inside, length-drop p.start body))

pub same_texts : (body behind : List ℕ) (ps : List Place) → All (IsPlaceIn (length body)) ps → map (text_at (body ++ behind)) ps ≡ map (text_at body) ps
same_texts body behind [] inside = refl
same_texts body behind (p ∷ ps) inside =
    let rest = same_texts body behind ps (All-tail (IsPlaceIn (length body)) p ps inside) in
    ap (λ (t : List ℕ). t ∷ map (text_at (body ++ behind)) ps) (same_text body behind p (All-head (IsPlaceIn (length body)) p ps inside)) ∙ ap (λ (ts : List (List ℕ)). text_at body p ∷ ts) rest
