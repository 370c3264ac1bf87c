-- Names with an ending.
use Rattle.std.proofs.Common.{◌≡◌, ℕ, ◌+◌, ◌-◌, Bool, true, false, List, ◌++◌, length, take, drop, refl, sym, ◌∙◌, ap, arith, length-append}
use Rattle.std.specs.Str.{bytes_eq}
use Rattle.std.specs.Bool.{Decides}
use Rattle.std.proofs.lemmas.Slice.Eq.{bytes_eq-Decides}
use Rattle.std.proofs.lemmas.Bool.Decides.{Decides-like, same_from_decides}
use Rattle.std.proofs.lemmas.List.{append_cancel_right, take-append-drop}
use Rattle.std.proofs.Math.Seq.{drop-append_seam}
use Rattle.std.specs.Prelude.{codes}
use Rattle.schema_from_tree.specs.FromTree.{names_an_item}

-- what stands before the ending is the parent's name
pub stem_tells : (name parent ending : List ℕ) (n : ℕ) → bytes_eq (drop n name) ending ≡ true → bytes_eq (take n name) parent ≡ bytes_eq name (parent ++ ending)
stem_tells name parent ending n e =
    let tail = (bytes_eq-Decides (drop n name) ending).0 e in
    let whole : take n name ++ ending ≡ name = ap (λ t. take n name ++ t) (sym tail) ∙ take-append-drop n name in
    same_from_decides _ _ (Decides-like _ (λ h. sym whole ∙ ap (λ t. t ++ ending) h) (λ h. append_cancel_right _ _ ending (whole ∙ h)) (bytes_eq-Decides (take n name) parent)) (bytes_eq-Decides name (parent ++ ending))

-- a name without the ending is not the parent's with it
pub no_stem : (name parent ending : List ℕ) → bytes_eq (drop (length name - length ending) name) ending ≡ false → bytes_eq name (parent ++ ending) ≡ false
no_stem name parent ending e = by (bytes_eq name (parent ++ ending)) refl
  where
    by : (b : Bool) → bytes_eq name (parent ++ ending) ≡ b → b ≡ false
    by false h = refl
    by true h =
        let same = (bytes_eq-Decides name (parent ++ ending)).0 h in
        let long : length name ≡ length parent + length ending = ap length same ∙ length-append parent ending in
        let at : length name - length ending ≡ length parent = omega (arith, long) in
        let ends : drop (length name - length ending) name ≡ ending = rw at (rw same (drop-append_seam parent ending)) in
        sym ((bytes_eq-Decides _ ending).1 ends) ∙ e

no_array : (name parent : List ℕ) → bytes_eq name (codes "array") ≡ false → names_an_item parent name ≡ bytes_eq name (parent ++ codes "_tuple")
no_array name parent e = rw e refl

pub ends_in_tuple : (name parent bytes stem parent_bytes : List ℕ) (r : Bool) → bytes ≡ name → parent_bytes ≡ parent → bytes_eq name (codes "array") ≡ false
    → bytes_eq (drop (length bytes - 6) bytes) (codes "_tuple") ≡ true → stem ≡ take (length bytes - 6) bytes → r ≡ bytes_eq stem parent_bytes → r ≡ names_an_item parent name
ends_in_tuple name parent bytes stem parent_bytes r eb ep other ends es er =
    let n = length bytes - 6 in
    let whole : bytes_eq (take n name) parent ≡ bytes_eq name (parent ++ codes "_tuple") = stem_tells name parent (codes "_tuple") n (ap (λ b. bytes_eq (drop n b) (codes "_tuple")) (sym eb) ∙ ends) in
    er ∙ ap (λ s. bytes_eq s parent_bytes) (es ∙ ap (λ b. take n b) eb) ∙ ap (bytes_eq (take n name)) ep ∙ whole ∙ sym (no_array name parent other)

pub no_tuple : (name parent bytes : List ℕ) → bytes ≡ name → bytes_eq name (codes "array") ≡ false → bytes_eq (drop (length bytes - 6) bytes) (codes "_tuple") ≡ false → false ≡ names_an_item parent name
no_tuple name parent bytes eb other ends =
    sym (no_array name parent other ∙ no_stem name parent (codes "_tuple") (ap (λ b. bytes_eq (drop (length b - 6) b) (codes "_tuple")) (sym eb) ∙ ends))
