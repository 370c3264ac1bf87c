use Rattle.std.proofs.Common.{◌≡◌, List, [], ◌++◌, Bor, ap, sym, subst, ◌∙◌, rules}
use Rattle.std.proofs.lemmas.Result.{err_from_is_err_and}
use Rattle.columns_core.specs.Tree.{TypeTree}
use Rattle.columns_core.specs.View.{type_view}
use Rattle.columns_core.specs.declared.types.DataType.{DataType}
use Rattle.schema_to_tree.specs.Leaves.{shown, leaf_types, AnswersEach}
use Rattle.schema_to_tree.proofs.Ways.{refuses, has_leaves}
use Rattle.schema_to_tree.proofs.Leafy.{answer_step, answers_done}
use Rattle.schema_to_tree.proofs.leaves.transverse.Goals as goal

pub returns-in_err-push_leaves-clause-err : goal.returns-in_err-push_leaves-clause-err
returns-in_err-push_leaves-clause-err g c =
    search (rules, err_from_is_err_and, refuses [] [] [] (type_view c.args.data_type.now) c.in_err-push_leaves.field-0.0 c.in_err-push_leaves.ensures)

pub loop-leaf-preserved : goal.loop-leaf-preserved
loop-leaf-preserved g c =
    rw c.in_ok-push.ensures.items (answer_step g.F.Fn c.args.map c.deref-leaf-items.result.now c.loop-leaf.leaf-index c.loop-leaf.answers.items c.leaf-item.result c.map.result c.loop-leaf-test.true (sym c.leaf-item.is) c.loop-leaf.invariant c.map.ensures)

pub returns-clause-ok : goal.returns-clause-ok
returns-clause-ok g c =
    let t = type_view c.args.data_type.now in
    let e : shown c.deref-leaf-items.result.now ≡ leaf_types t =
    ap shown c.deref-leaf-items.ensures.value ∙ c.in_ok-push_leaves.ensures.0 ∙ ap (λ (v : List (Bor DataType)). shown v ++ leaf_types t) c.new-leaves.ensures.items in (
      subst (λ (ts : List TypeTree). AnswersEach g.F.Fn c.args.map ts c.loop-leaf.answers.items) e (answers_done g.F.Fn c.args.map c.deref-leaf-items.result.now c.loop-leaf.leaf-index c.loop-leaf.answers.items c.loop-leaf-test.false c.loop-leaf.invariant),
      has_leaves t c.in_ok-push_leaves.ensures.1,
    )
