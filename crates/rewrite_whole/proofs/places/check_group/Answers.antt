use Rattle.std.proofs.Common.{rules, ◌∙◌, get_or, ap, arith}
use Rattle.pq_tree.specs.Columns.{column_of}
use Rattle.pq_tree.specs.Described.{column_view}
use Rattle.pq_tree.specs.Views.{chunk_view}
use Rattle.pq_headline.specs.Opened.{ChunkIsPlaced}
use Rattle.rewrite_whole.proofs.Placing.{group_refused, whole}
use Rattle.rewrite_whole.proofs.Zips.{zip_on}
use Rattle.rewrite_whole.proofs.places.check_group.Goals as goal

pub returns-in-Err-clause-err : goal.returns-in-Err-clause-err
returns-in-Err-clause-err c = λ ls e.
    let is = c.chunk-item.is ∙ ap (λ xs. get_or xs c.loop-i.i c.chunk-item.result) c.deref-chunk-items.ensures.value in
    group_refused c.args.place c.args.group.now c.args.columns.now ls c.loop-i.i c.chunk-item.result c.index-columns-i.result c.in-Err.error e (omega (arith, c.deref-chunk-items.ensures.len)) (omega arith) is c.index-columns-i.is c.in-Err.ensures.err

pub loop-i-preserved : goal.loop-i-preserved
loop-i-preserved c = λ ls e.
    let is = c.chunk-item.is ∙ ap (λ xs. get_or xs c.loop-i.i c.chunk-item.result) c.deref-chunk-items.ensures.value in
    zip_on (ChunkIsPlaced c.args.place) chunk_view column_view column_of c.args.group.now.columns.items c.args.columns.now ls c.loop-i.i c.chunk-item.result c.index-columns-i.result e (omega (arith, c.deref-chunk-items.ensures.len)) (omega arith) is c.index-columns-i.is c.in_default.ensures.ok (c.loop-i.invariant ls e)

pub returns-clause-ok : goal.returns-clause-ok
returns-clause-ok c = λ ls e. whole c.args.place c.args.group.now c.args.columns.now ls c.loop-i.i e (omega (arith, c.deref-chunk-items.ensures.len)) (omega (arith, c.len.ensures)) (search rules) (c.loop-i.invariant ls e)
