-- Where a column is not read, by its type.
use Rattle.std.proofs.Common.{◌≡◌, ◌↔◌, Bool, true, false, List, refl, sym, subst, true≢false}
use Rattle.columns_core.specs.Tree.{TypeTree, t_dictionary}
use Rattle.dictionary_leaves.specs.Dictionaries.{is_dictionary_read}
use Rattle.pq_headline.specs.Columns.{is_dictionary}
use Rattle.pq_tree.specs.Physical.{Physical}
use Rattle.read_columns.specs.Columns.{is_column_read}
use Rattle.read_leaves.specs.Leaf.{is_read_along}
use Rattle.read_state.specs.declared.init.InitNested.{InitNested}

keyed_read : (parts : List InitNested) (t : TypeTree) (p : Physical) → is_dictionary t ≡ true → is_column_read parts t p ≡ is_dictionary_read parts t p
keyed_read parts (t_dictionary key t s) p e = refl
keyed_read parts t p e = absurd (true≢false (sym e))

direct_read : (parts : List InitNested) (t : TypeTree) (p : Physical) → is_dictionary t ≡ false → is_column_read parts t p ≡ is_read_along parts t p
direct_read parts (t_dictionary key t s) p e = absurd (true≢false e)
direct_read parts t p e = refl

pub keyed_unserved : (A : Type 0) (parts : List InitNested) (t : TypeTree) (p : Physical) → is_dictionary t ≡ true → (A ↔ (is_dictionary_read parts t p ≡ false)) → (A ↔ (is_column_read parts t p ≡ false))
keyed_unserved A parts t p e h = subst (λ (b : Bool). A ↔ (b ≡ false)) (sym (keyed_read parts t p e)) h

pub direct_unserved : (A : Type 0) (parts : List InitNested) (t : TypeTree) (p : Physical) → is_dictionary t ≡ false → (A ↔ (is_read_along parts t p ≡ false)) → (A ↔ (is_column_read parts t p ≡ false))
direct_unserved A parts t p e h = subst (λ (b : Bool). A ↔ (b ≡ false)) (sym (direct_read parts t p e)) h
