use Rattle.std.proofs.Common.{◌≡◌, inl, inr, ◌<◌, [], List, ◌++◌, length, sym, ap, subst, ◌∙◌, append-nil, append_assoc, arith}
use Rattle.columns_array.specs.Boxed.{all_boxed, boxed}
use Rattle.pq_tree.specs.TreeViews.{tree_view, trees_view}
use Rattle.pq_tree.specs.declared.types.Encoding.{Encoding}
use Rattle.write_groups.proofs.Fields.{front, lists_of, none_more, one_more, refused_here, refused_later}
use Rattle.write_groups.specs.Columns.{AreFieldColumns, AreGroupColumns, RefusesField}
use Rattle.write_groups.specs.declared.column.ChunkColumn.{ChunkColumn}
use Rattle.write_groups.proofs.group.columns_of.Goals as goal

pub fields-preserved : goal.fields-preserved
fields-preserved c =
    let i = c.fields.i in
    let arrays = c.args.arrays.now in
    let trees = c.args.trees.now in
    let ess = c.args.encodings.now in
    let o = c.args.options in
    let a = c.index-arrays-i.result in
    let t = c.index-trees-i.result in
    let es = c.index-encodings-i.result in
    let h : i < length arrays = c.fields-test.true in
    let la = front arrays i a h c.index-arrays-i.is in
    let lt = front trees i t (omega (arith, c.requires.trees, h)) c.index-trees-i.is in
    let le = front ess i es (omega (arith, c.requires.encodings, h)) c.index-encodings-i.is in
    let p = c.in_default.ensures.ok in
    let mine = subst (λ (xs : List Encoding). AreFieldColumns o (boxed a) (tree_view t) xs p.0) c.deref.ensures.value p.2 in
    record {
      done = λ others g.
          let all = c.fields.invariant.done (p.0 ++ others) (one_more o arrays trees ess i a t es la lt le p.0 others mine g) in
          let parts : c.fields.columns.items ++ (p.0 ++ others) ≡ c.push_field.new.columns.items ++ others = sym (append_assoc c.fields.columns.items p.0 others) ∙ ap (λ (xs : List ChunkColumn). xs ++ others) (sym p.1) in
          subst (λ (xs : List ChunkColumn). AreGroupColumns o (all_boxed arrays) (trees_view trees) (lists_of ess) xs) parts all;
      refused = λ e g. c.fields.invariant.refused e (refused_later o arrays trees ess i a t es la lt le e g);
    }

pub returns-in-Err-clause-err : goal.returns-in-Err-clause-err
returns-in-Err-clause-err c =
    let i = c.fields.i in
    let arrays = c.args.arrays.now in
    let trees = c.args.trees.now in
    let ess = c.args.encodings.now in
    let o = c.args.options in
    let a = c.index-arrays-i.result in
    let t = c.index-trees-i.result in
    let es = c.index-encodings-i.result in
    let h : i < length arrays = c.fields-test.true in
    let la = front arrays i a h c.index-arrays-i.is in
    let lt = front trees i t (omega (arith, c.requires.trees, h)) c.index-trees-i.is in
    let le = front ess i es (omega (arith, c.requires.encodings, h)) c.index-encodings-i.is in
    elim c.in-Err.ensures.err [ inl m ↦ inl m | inr r ↦ inr (c.fields.invariant.refused c.in-Err.error (refused_here o arrays trees ess i a t es la lt le c.in-Err.error (subst (λ (xs : List Encoding). RefusesField o (boxed a) (tree_view t) xs c.in-Err.error) c.deref.ensures.value r))) ]

pub returns-clause-ok : goal.returns-clause-ok
returns-clause-ok c =
    subst (λ (xs : List ChunkColumn). AreGroupColumns c.args.options (all_boxed c.args.arrays.now) (trees_view c.args.trees.now) (lists_of c.args.encodings.now) xs) (append-nil c.fields.columns.items)
    (c.fields.invariant.done [] (none_more c.args.options c.args.arrays.now c.args.trees.now c.args.encodings.now c.fields.i c.fields-test.false c.requires.trees c.requires.encodings))
