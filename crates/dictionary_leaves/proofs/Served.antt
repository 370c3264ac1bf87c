-- Which types are read as dictionaries.
use Rattle.std.proofs.Common.{◌≡◌, Some, None, false, List, refl, ap}
use Rattle.std.proofs.lemmas.Option.{same_Some}
use Rattle.columns_core.specs.Shapes.{base}
use Rattle.columns_core.specs.Tree.{TypeTree, t_dictionary}
use Rattle.columns_slots.specs.Types.{entry_type, key_type}
use Rattle.pq_tree.specs.Physical.{Physical}
use Rattle.read_state.specs.declared.init.InitNested.{InitNested}
use Rattle.dictionary_leaves.specs.Dictionaries.{is_dictionary_read, is_entry_read}

pub not_keyed : (parts : List InitNested) (t : TypeTree) (p : Physical) → key_type t ≡ None → is_dictionary_read parts t p ≡ false
not_keyed parts (t_dictionary k e s) p h = absurd (cc h)
not_keyed parts t p h = refl

pub not_entered : (parts : List InitNested) (t : TypeTree) (p : Physical) → entry_type t ≡ None → is_dictionary_read parts t p ≡ false
not_entered parts (t_dictionary k e s) p h = absurd (cc h)
not_entered parts t p h = refl

pub read_as : (parts : List InitNested) (t entry : TypeTree) (p : Physical) → entry_type t ≡ Some entry → is_dictionary_read parts t p ≡ is_entry_read parts (base entry) p
read_as parts (t_dictionary k e s) entry p h = ap (λ (x : TypeTree). is_entry_read parts (base x) p) (same_Some e entry h)
read_as parts t entry p h = absurd (cc h)
