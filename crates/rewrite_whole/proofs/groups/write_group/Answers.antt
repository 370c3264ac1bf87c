use Rattle.std.proofs.Common.{◌++◌, ◌-◌, [], ◌∷◌, map, sym, subst, arith}
use Rattle.pq_tree.specs.Views.{group_view}
use Rattle.pq_headline.specs.Arrays.{seen_in}
use Rattle.pq_headline.specs.Opened.{AreAssembled}
use Rattle.rewrite_whole.specs.Groups.{RefusesAny}
use Rattle.rewrite_whole.specs.Ready.{AtPiece, Did, RefusesGroup}
use Rattle.rewrite_whole.specs.Views.{Sees}
use Rattle.rewrite_whole.proofs.Middles.{nothing_shown, sees_more, begun, piece_is, piece_fits, piece_some, gone_on, done, refuses, on_ok, if_err}
use Rattle.rewrite_whole.proofs.groups.write_group.Goals as goal

pub pieces-init : goal.pieces-init
pieces-init g c = begun c.args.job.now c.rows_of-rows.result (group_view c.args.group.now) c.in_ok-iters.iters.items (g.V.View.seen c.args.view.now) c.args.output.now c.in_ok-iters.ensures.ok

pub encode_piece-requires-clause-piece : goal.encode_piece-requires-clause-piece
encode_piece-requires-clause-piece g c =
    let a = c.pieces.invariant in
    piece_is c.args.job.now c.rows_of-rows.result (group_view c.args.group.now) c.pieces.iters.items c.next_chunk.new.iters.items c.pieces.left (g.V.View.seen c.args.view.now) (g.V.View.seen c.pieces.view) c.args.output.now c.pieces.output c.in_ok-chunk.chunk
    a (c.in_ok-chunk.ensures.ok c.rows_of-rows.result c.args.job.now.options.now.chunk_size a.openings a.chunks a.under_way (omega (arith, a.total)))

pub overflow_sub-left : goal.overflow_sub-left
overflow_sub-left g c =
    let a = c.pieces.invariant in
    let fits = piece_fits c.args.job.now c.rows_of-rows.result (group_view c.args.group.now) c.pieces.iters.items c.next_chunk.new.iters.items c.pieces.left (g.V.View.seen c.args.view.now) (g.V.View.seen c.pieces.view) c.args.output.now c.pieces.output c.in_ok-chunk.chunk
    a (c.in_ok-chunk.ensures.ok c.rows_of-rows.result c.args.job.now.options.now.chunk_size a.openings a.chunks a.under_way (omega (arith, a.total))) in
    omega (arith, fits, c.row_count-count.ensures)

pub pieces-smaller : goal.pieces-smaller
pieces-smaller g c =
    let a = c.pieces.invariant in
    let some = piece_some c.args.job.now c.rows_of-rows.result (group_view c.args.group.now) c.pieces.iters.items c.next_chunk.new.iters.items c.pieces.left (g.V.View.seen c.args.view.now) (g.V.View.seen c.pieces.view) c.args.output.now c.pieces.output c.in_ok-chunk.chunk
    a (c.in_ok-chunk.ensures.ok c.rows_of-rows.result c.args.job.now.options.now.chunk_size a.openings a.chunks a.under_way (omega (arith, a.total))) in
    omega (arith, some, c.row_count-count.ensures)

pub pieces-preserved : goal.pieces-preserved
pieces-preserved g c =
    let a = c.pieces.invariant in
    subst (λ k. AtPiece c.args.job.now c.rows_of-rows.result (group_view c.args.group.now) c.next_chunk.new.iters.items (c.pieces.left - k) (g.V.View.seen c.args.view.now) (g.V.View.seen c.see.new.self) c.args.output.now c.encode_piece.new.output) (sym c.row_count-count.ensures)
    (gone_on c.args.job.now c.rows_of-rows.result (group_view c.args.group.now) c.pieces.iters.items c.next_chunk.new.iters.items c.pieces.left (g.V.View.seen c.args.view.now) (g.V.View.seen c.pieces.view) (g.V.View.seen c.see.new.self) c.args.output.now c.pieces.output c.encode_piece.new.output c.in_ok-chunk.chunk
    a (c.in_ok-chunk.ensures.ok c.rows_of-rows.result c.args.job.now.options.now.chunk_size a.openings a.chunks a.under_way (omega (arith, a.total)))
    c.in_ok-see.ensures.ok c.in_ok-encode_piece.ensures.ok)

pub returns-clause-ok : goal.returns-clause-ok
returns-clause-ok g c =
    let a = c.pieces.invariant in
    on_ok c.expect_ends.result (AreAssembled 0 a.openings a.chunks) (Did c.args.job.now (group_view c.args.group.now) (g.V.View.seen c.args.view.now) (g.V.View.seen c.pieces.view) c.args.output.now c.pieces.output)
    (λ all. done c.args.job.now c.rows_of-rows.result (group_view c.args.group.now) c.pieces.iters.items c.pieces.left (g.V.View.seen c.args.view.now) (g.V.View.seen c.pieces.view) c.args.output.now c.pieces.output a (omega arith) c.rows_of-rows.ensures all)
    (c.expect_ends.ensures.ok c.rows_of-rows.result c.args.job.now.options.now.chunk_size a.openings a.chunks a.under_way (omega (arith, a.total)))

pub returns-clause-err : goal.returns-clause-err
returns-clause-err g c =
    let a = c.pieces.invariant in
    if_err c.expect_ends.result (RefusesAny a.openings) (RefusesGroup c.args.job.now (group_view c.args.group.now))
    (λ e f. refuses c.args.job.now c.rows_of-rows.result (group_view c.args.group.now) a.openings e c.rows_of-rows.ensures a.opened f)
    (c.expect_ends.ensures.err c.rows_of-rows.result c.args.job.now.options.now.chunk_size a.openings a.chunks a.under_way (omega (arith, a.total)))

pub encode_piece-requires-clause-output : goal.encode_piece-requires-clause-output
encode_piece-requires-clause-output g c = (c.requires.output.0 ++ c.pieces.invariant.chunks, c.pieces.invariant.output_is c.requires.output.0 c.requires.output.1)

pub returns-in_err-iters-clause-grows : goal.returns-in_err-iters-clause-grows
returns-in_err-iters-clause-grows g c = nothing_shown (g.V.View.seen c.args.view.now)

pub returns-in_err-chunk-clause-grows : goal.returns-in_err-chunk-clause-grows
returns-in_err-chunk-clause-grows g c = (map seen_in c.pieces.invariant.chunks, c.pieces.invariant.sees)

pub returns-in_err-see-clause-grows : goal.returns-in_err-see-clause-grows
returns-in_err-see-clause-grows g c =
    let a = c.pieces.invariant in
    (map seen_in a.chunks, subst (λ now. Sees (g.V.View.seen c.args.view.now) now (map seen_in a.chunks)) (sym c.in_err-see.ensures.err.1) a.sees)

pub returns-in_err-encode_piece-clause-grows : goal.returns-in_err-encode_piece-clause-grows
returns-in_err-encode_piece-clause-grows g c =
    let a = c.pieces.invariant in
    (map seen_in a.chunks ++ seen_in c.in_ok-chunk.chunk ∷ [], sees_more (g.V.View.seen c.args.view.now) (g.V.View.seen c.pieces.view) (g.V.View.seen c.see.new.self) (map seen_in a.chunks) (seen_in c.in_ok-chunk.chunk) a.sees c.in_ok-see.ensures.ok)

pub returns-clause-grows : goal.returns-clause-grows
returns-clause-grows g c = (map seen_in c.pieces.invariant.chunks, c.pieces.invariant.sees)
