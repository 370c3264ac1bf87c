use Rattle.std.proofs.Common.{◌∙◌, ◌∷◌, [], map, take, ap, refl, arith}
use Rattle.std.proofs.lemmas.List.{map-append}
use Rattle.pq_tree.specs.Views.{chunk_view}
use Rattle.pq_pages.specs.Sources.{Source}
use Rattle.rewrite_whole.proofs.Opens.{counted, leaf_at, take_back, opened_on, opens_more}
use Rattle.rewrite_whole.proofs.Zips.{taken_on}
use Rattle.rewrite_whole.proofs.open.open_columns.Goals as goal

pub open_chunk-requires : goal.open_chunk-requires
open_chunk-requires c =
    let l = leaf_at c.args.job.now.place c.args.chunks.now c.requires.chunks.0 c.loop-chunk.chunk-index c.chunk-item.result c.requires.chunks.1 (omega arith) c.chunk-item.is in
    (c.args.job.now.place, l.0, c.requires.within, l.1)

pub leaf_type-requires : goal.leaf_type-requires
leaf_type-requires c =
    let l = leaf_at c.args.job.now.place c.args.chunks.now c.requires.chunks.0 c.loop-chunk.chunk-index c.chunk-item.result c.requires.chunks.1 (omega arith) c.chunk-item.is in
    (l.0, l.1.described)

pub loop-chunk-preserved : goal.loop-chunk-preserved
loop-chunk-preserved c = λ ls a.
    let i = c.loop-chunk.chunk-index in
    let l = leaf_at c.args.job.now.place c.args.chunks.now ls i c.chunk-item.result a (omega arith) c.chunk-item.is in
    opened_on c.args.job.now.input.now c.args.job.now.place _ _ _ _ _ _ _ _
    (taken_on chunk_view c.args.chunks.now i c.chunk-item.result (omega arith) c.chunk-item.is) l.2
    (ap (map (λ (r : Source). r.outcomes)) c.in_ok-push.ensures.items ∙ map-append (λ (r : Source). r.outcomes) c.loop-chunk.readers.items (c.in_ok-open_chunk.field-0 ∷ [])) c.in_ok-push-2.ensures.items
    (opens_more c.args.job.now.input.now c.args.job.now.place (map chunk_view (take i c.args.chunks.now)) (take i ls) (map (λ (r : Source). r.outcomes) c.loop-chunk.readers.items) c.loop-chunk.types.items (chunk_view c.chunk-item.result) l.0 c.in_ok-open_chunk.field-0.outcomes c.in_ok-leaf_type.field-0
    (c.loop-chunk.invariant ls a) (c.in_ok-open_chunk.ensures.ok c.args.job.now.place l.0 l.1) (c.in_ok-leaf_type.ensures.ok l.0 l.1.described))

pub returns-clause-ok : goal.returns-clause-ok
returns-clause-ok c = λ ls a.
    let i = c.loop-chunk.chunk-index in
    opened_on c.args.job.now.input.now c.args.job.now.place _ _ _ _ _ _ _ _
    (ap (map chunk_view) (take_back i c.args.chunks.now (omega arith))) (take_back i ls (omega (arith, counted c.args.job.now.place c.args.chunks.now ls a))) refl refl (c.loop-chunk.invariant ls a)
