use Rattle.std.proofs.Common.{inl, inr, arith, ◌<◌, ◌≤◌, ◌≡◌, [], sym, ap, ◌∙◌}
use Rattle.read_laws.specs.State.{count}
use Rattle.read_column.specs.Queues.{Waiting}
use Rattle.read_column.proofs.Suited.{kept-width, same-width}
use Rattle.read_column.proofs.Taking.{le-fails, le-holds, lt-fails, lt-holds, piece-few, start-takes, step-close, step-ended, step-extend}
use Rattle.read_column.proofs.take.take_pairs.Goals as goal

pub pieces-init : goal.pieces-init
pieces-init g c = (λ w before whole last k b. start-takes w before whole last _ _ _ k b, c.requires.suits)

pub returns-in-Err-clause-err : goal.returns-in-Err-clause-err
returns-in-Err-clause-err g c w before whole last k b = inr (record {
  queue = c.pieces.queue;
  page' = c.pieces.page;
  left' = _;
  takes = c.pieces.invariant.0 w before whole last k b;
  why = inl (lt-holds 0 c.pieces.queue.rows (sym c.is_wanting.ensures ∙ c.pieces-test.true), c.in-Err.ensures.err);
})

pub returns-then-not-is_full-clause-ok : goal.returns-then-not-is_full-clause-ok
returns-then-not-is_full-clause-ok g c w before whole last k b =
    let less : count c.in-Ok.queue.state < c.in-Ok.queue.rows = le-fails c.in-Ok.queue.rows (count c.in-Ok.queue.state) (sym c.is_full.ensures ∙ c.if-not-is_full.true) in
    let ended : c.extend.new.page ≡ [] = step-ended c.pieces.queue c.in-Ok.queue c.pieces.page c.extend.new.page _ _ c.in-Ok.ensures.ok less in
    let takes = step-extend _ w before _ c.pieces.queue c.in-Ok.queue _ c.pieces.page c.extend.new.page _ _ _ (c.pieces.invariant.0 w before whole last k b) c.in-Ok.ensures.ok in
    (_, rw ended at takes, inr less)

pub returns-then-not-is_full-clause-suits : goal.returns-then-not-is_full-clause-suits
returns-then-not-is_full-clause-suits g c = same-width (λ n. g.L.LeafReader.suits c.args.leaf.now n) c.pieces.queue c.in-Ok.queue _ _ _ _ c.in-Ok.ensures.ok c.pieces.invariant.1

pub pieces-smaller : goal.pieces-smaller
pieces-smaller g c =
    let some : 0 < c.pieces.queue.rows = lt-holds 0 c.pieces.queue.rows (sym c.is_wanting.ensures ∙ c.pieces-test.true) in
    let same = c.in-Ok.ensures.ok.same in
    let closed = c.in-Ok-close.ensures.ok in
    omega (arith, some, ap (λ (v : Waiting). v.rows) same, ap (λ (v : Waiting). v.left) same, ap (λ (v : Waiting). v.rows) closed, ap (λ (v : Waiting). v.left) closed, piece-few c.in-Ok.queue.chunk_size c.in-Ok.queue.left)

pub pieces-preserved : goal.pieces-preserved
pieces-preserved g c = (
  λ w before whole last k b. (
      let some : 0 < c.pieces.queue.rows = lt-holds 0 c.pieces.queue.rows (sym c.is_wanting.ensures ∙ c.pieces-test.true) in
      let still : 0 < c.in-Ok.queue.rows = omega (arith, some, ap (λ (v : Waiting). v.rows) c.in-Ok.ensures.ok.same) in
      let full : c.in-Ok.queue.rows ≤ count c.in-Ok.queue.state = le-holds c.in-Ok.queue.rows (count c.in-Ok.queue.state) (sym c.is_full.ensures ∙ c.if-not-is_full.false) in
      let takes = step-extend _ w before _ c.pieces.queue c.in-Ok.queue _ c.pieces.page c.extend.new.page _ _ _ (c.pieces.invariant.0 w before whole last k b) c.in-Ok.ensures.ok in
      let closed = step-close _ w before _ c.in-Ok.queue _ c.extend.new.page _ _ takes full still in
      rw c.in-Ok-close.ensures.ok closed),
  kept-width (λ n. g.L.LeafReader.suits c.args.leaf.now n) c.pieces.queue c.in-Ok.queue c.in-Ok-close.queue _ _ _ _ c.in-Ok.ensures.ok c.in-Ok-close.ensures.ok c.pieces.invariant.1,
)

pub returns-in-Ok-no_more-clause-ok : goal.returns-in-Ok-no_more-clause-ok
returns-in-Ok-no_more-clause-ok g c w before whole last k b =
    let none : c.pieces.queue.rows ≤ 0 = lt-fails 0 c.pieces.queue.rows (sym c.is_wanting.ensures ∙ c.pieces-test.false) in
    (_, rw c.in-Ok-no_more.ensures at (c.pieces.invariant.0 w before whole last k b), inl (omega (arith, none)))

pub returns-in-Err-no_more-clause-err : goal.returns-in-Err-no_more-clause-err
returns-in-Err-no_more-clause-err g c w before whole last k b = inr (record {
  queue = c.pieces.queue;
  page' = c.pieces.page;
  left' = _;
  takes = c.pieces.invariant.0 w before whole last k b;
  why = inr (omega (arith, lt-fails 0 c.pieces.queue.rows (sym c.is_wanting.ensures ∙ c.pieces-test.false)), c.in-Err-no_more.ensures);
})
