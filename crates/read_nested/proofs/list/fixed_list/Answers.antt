use Rattle.std.proofs.Common.{◌≡◌, inr, refl, sym, ◌∙◌, ap, length, vec_len, arith}
use Rattle.std.proofs.lemmas.List.{length-map}
use Rattle.columns_core.specs.Shapes.{base}
use Rattle.columns_core.specs.View.{type_view}
use Rattle.columns_array.specs.Boxed.{boxed}
use Rattle.columns_slots.specs.Slots.{tree_len}
use Rattle.read_state.specs.Kinds.{start_of, starts_of}
use Rattle.read_nested.proofs.Places.{fixed-refused}
use Rattle.read_nested.proofs.list.fixed_list.Goals as goal

pub returns-then-len-clause-err : goal.returns-then-len-clause-err
returns-then-len-clause-err c =
    let count : vec_len c.in-Some.starts ≡ length c.in-Some.starts.items = omega (arith, c.in-Some.starts.ok.0) in
    inr (refl, fixed-refused (base (type_view c.args.data_type)) _ _ (starts_of c.in-Some.starts.items) (boxed c.args.values) (tree_len c.in_ok-array.array) (vec_len c.in-Some.starts) c.in-Some.ensures (ap tree_len c.in_ok-array.ensures.made) (count ∙ sym (length-map c.in-Some.starts.items start_of)) (λ q. c.if-len.true (c.len.ensures ∙ q ∙ sym c.len-2.ensures)))
