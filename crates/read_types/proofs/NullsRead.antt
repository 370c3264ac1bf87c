-- A column of nulls alone.
use Rattle.std.proofs.Common.{◌≡◌, ℕ, zero, suc, ◌+◌, ◌<◌, ◌≤◌, ℤ, true, true≢false, Some, None, List, [], ◌∷◌, length, replicate, refl, arith, ap, sym}
use Rattle.shredding.specs.Parts.{slots_from}
use Rattle.shredding.specs.Slot.{Slot, null}
use Rattle.columns_core.specs.Shapes.{leaf_type}
use Rattle.columns_core.specs.Tree.{TypeTree, t_null}
use Rattle.columns_slots.specs.Tree.{null_array}
use Rattle.columns_slots.specs.Types.{is_null_type}
use Rattle.pq_tree.specs.Physical.{int32}
use Rattle.pq_headline.specs.Columns.{ArrowColumn}
use Rattle.read_leaf.specs.Numbers.{stored_numbers}
use Rattle.read_leaf.specs.PlainValues.{spelled_32}
use Rattle.read_leaf.specs.Ranges.{LoadsStored}
use Rattle.read_pieces.specs.Leaves.{BeginsOutside, ReadsLeaf}
use Rattle.read_types.specs.Arrays.{IsLeafArray}
use Rattle.read_types.proofs.NumbersRead.{reads-32}
use Rattle.read_types.proofs.Sizes.{number-none, number-outside}

pub nothing_whole : (text : List ℕ) → length text < 4 → stored_numbers (λ z. None) spelled_32 4 text ≡ []
nothing_whole text h = number-none (λ z. None) spelled_32 4 text h

pub nothing_there : (text : List ℕ) → 4 ≤ length text → BeginsOutside (stored_numbers (λ z. None) spelled_32 4) text
nothing_there text h = number-outside (λ z. None) spelled_32 4 text (omega arith) h refl

nulls_from : (n place : ℕ) → slots_from (λ i. null) place n ≡ replicate n null
unfolding slots_from
nulls_from zero place = refl
nulls_from (suc n) place = ap (λ (ss : List Slot). null ∷ ss) (nulls_from n (place + 1))

pub null_leaf : (t : TypeTree) (n : ℕ) → IsLeafArray t (replicate n null) (null_array t n)
null_leaf t n = record { typed = refl; same = nulls_from n 0; entries = refl }

none-some : (v : ℤ) → None ≡ Some v → ⊥
none-some v e = cc

loads-null : (t : TypeTree) → is_null_type t ≡ true → LoadsStored (λ z. None) (leaf_type t) int32 32
loads-null t_null e = λ z v f. ((λ h. absurd (none-some v h)), (λ h. absurd h))
loads-null t e = absurd (true≢false (sym e))

pub nulls : (c : ArrowColumn) → is_null_type c.data_type ≡ true → ReadsLeaf c int32 (stored_numbers (λ z. None) spelled_32 4) 1
nulls c e = reads-32 c (λ z. None) (loads-null c.data_type e)
