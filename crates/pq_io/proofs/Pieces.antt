-- Lemmas on vectors whose bytes are joined, and on texts that are pushed in parts.
use Rattle.std.proofs.Common.{◌≡◌, ◌+◌, ◌-◌, ◌≤◌, ℕ, List, Option, Vec, [], ◌∷◌, ◌++◌, length, take, drop, slice_index_or, refl, sym, ap, ◌∙◌, subst, arith, append_assoc, append-nil}
use Rattle.std.specs.declared.alloc.Global.{Global}
use Rattle.std.specs.Io.KnownBytes.{Appends}
use Rattle.std.proofs.KnownBytes.{Appends-trans}
use Rattle.std.proofs.Math.Seq.{take-append-add}
use Rattle.std.proofs.lemmas.List.{length-append, take_all, take-append-le}
use Rattle.pq_io.specs.Ends.{AppendsFront}
use Rattle.pq_io.specs.PieceSinks.{joined}

pub joined_snoc : (xs : List (Vec ℕ Global)) (x : Vec ℕ Global) → joined (xs ++ x ∷ []) ≡ joined xs ++ x.items
unfolding joined
joined_snoc [] x = append-nil x.items
joined_snoc (y ∷ ys) x = ap (λ (t : List ℕ). y.items ++ t) (joined_snoc ys x) ∙ sym (append_assoc y.items (joined ys) x.items)

pub joined_none : joined [] ≡ []
unfolding joined
joined_none = refl

-- the first vector, and the others
pub joined_first : (xs : List (Vec ℕ Global)) (x : Vec ℕ Global) → 1 ≤ length xs → x ≡ slice_index_or xs 0 x → joined xs ≡ x.items ++ joined (take (length xs - 1) (drop 1 xs))
unfolding joined
joined_first [] x some is = absurd (omega (arith, some))
joined_first (y ∷ ys) x some is = ap (λ (v : Vec ℕ Global). v.items ++ joined ys) (sym is) ∙ ap (λ (rest : List (Vec ℕ Global)). x.items ++ joined rest) (sym (take_all _ ys (omega arith)))

-- a whole text, and then a front part of what stands behind it
pub front_behind : (a b c : Option (List ℕ)) (all text piece rest : List ℕ) → all ≡ text ++ (piece ++ rest) → Appends a b text → AppendsFront b c piece → AppendsFront a c all
front_behind a b c all text piece rest parts before (k, few, now) =
    let is : take (length text + k) all ≡ text ++ take k piece = ap (take (length text + k)) parts ∙ take-append-add text (piece ++ rest) k ∙ ap (λ (t : List ℕ). text ++ t) (take-append-le k piece rest few) in (
      length text + k,
      omega (arith, few, ap length parts, length-append text (piece ++ rest), length-append piece rest),
      subst (Appends a c) (sym is) (Appends-trans a b c text (take k piece) before now),
    )

-- no vector is left
pub joined_end : (xs : List (Vec ℕ Global)) → length xs ≤ 0 → joined xs ≡ []
unfolding joined
joined_end [] none = refl
joined_end (x ∷ xs) none = absurd (omega (arith, none))

-- the whole text is a front part
pub front_of_all : (a c : Option (List ℕ)) (all : List ℕ) → Appends a c all → AppendsFront a c all
front_of_all a c all p = (length all, omega arith, subst (Appends a c) (sym (take_all (length all) all (omega arith))) p)
