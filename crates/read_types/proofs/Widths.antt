-- Byte strings of a type's size fit into an array of the type.
use Rattle.std.proofs.Common.{◌≡◌, inl, inr, ℕ, ◌*◌, ◌/◌, ◌%◌, ◌<◌, ◌==◌, List, length, true, true≢false, nat_le, arith, sym, ◌∙◌}
use Rattle.std.proofs.Math.Nat.{mul-mod_right, mul-div_cancel_left}
use Rattle.std.proofs.lemmas.Bool.{and_parts}
use Rattle.std.proofs.lemmas.Bool.Decides.{leb_tells, eqb_tells}
use Rattle.columns_core.specs.Tree.{TypeTree, t_fixed_size_binary}
use Rattle.columns_leaf.specs.Fixed.{fixed_width, fixed_count, AreWhole}
use Rattle.read_types.specs.LeafTypes.{reads_chunks}
use Rattle.schema_fit.specs.PageTable.{is_stored_length}

same-size : (n m : ℕ) → (n == m) ≡ true → n ≡ m
same-size n m e = elim (eqb_tells n m) [ inl h ↦ h.1 | inr h ↦ absurd (true≢false (sym e ∙ h.0)) ]

some-size : (n : ℕ) → is_stored_length n ≡ true → 0 < n
some-size n e = elim (leb_tells 1 n) [ inl h ↦ omega (arith, h.1) | inr h ↦ absurd (true≢false (sym (and_parts (nat_le 1 n) (nat_le n 2147483647) e).0 ∙ h.0)) ]

chunk-width : (n : ℕ) (t : TypeTree) → reads_chunks n t ≡ true → (0 < n) × (fixed_width t ≡ n)
chunk-width n (t_fixed_size_binary m) e =
    let p = and_parts (n == m) (is_stored_length m) e in
    let same : n ≡ m = same-size n m p.0 in
    (omega (arith, same, some-size m p.1), sym same)
chunk-width n t e = absurd (true≢false (sym e))

-- they are whole, and as many as their bytes have room for
pub chunks-fit : (n count : ℕ) (t : TypeTree) (content : List ℕ) → reads_chunks n t ≡ true → length content ≡ n * count → AreWhole t content × (count ≡ fixed_count t content)
chunks-fit n count t content made even =
    let w = chunk-width n t made in
    let whole : length content % fixed_width t ≡ 0 = rw (w.1, even) (mul-mod_right n count) in
    let number : count ≡ length content / fixed_width t = rw (w.1, even) (sym (mul-div_cancel_left count w.0)) in
    ((rw w.1 w.0, whole), number)
