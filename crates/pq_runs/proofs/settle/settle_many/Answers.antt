use Rattle.std.proofs.Common.{◌<◌, ◌≤◌, ◌^◌, ◌-◌, ◌+◌, ◌*◌, ◌%◌, ◌++◌, ℕ, inl, inr, length, replicate, arith, sym, ap, subst, ◌∙◌, ◌≡◌}
use Rattle.std.proofs.lemmas.Bool.{false≢true, lt-ltb}
use Rattle.std.proofs.lemmas.List.{length-append, length-replicate}
use Rattle.std.proofs.lemmas.List.Elements.{All-append, All-replicate}
use Rattle.pq_numbers.specs.Bits.{bytes_for}
use Rattle.pq_numbers.specs.Varint.{varint}
use Rattle.pq_runs.proofs.Packs.{kept_then}
use Rattle.pq_runs.proofs.Steps.{wrote_some, wrote_left}
use Rattle.pq_runs.proofs.Tight.{tight_pushed, tight_flushed, tight_copied, tight_same, copies_short, copies_length, times_more}
use Rattle.pq_runs.proofs.Settling.{IsFilling, some_pending, none_pending, taken_pushed, taken_flushed, filling_on, run_taken, packed_taken}
use Rattle.pq_runs.proofs.settle.settle_many.Goals as goal
use Rattle.pq_runs.proofs.settle.settle_many.Goals.{then-loop-left-test+else-len-ne0, then-left-many, else-left-many, else-loop-left-test}

pub loop-left-preserved-in-Continue-1 : goal.loop-left-preserved-in-Continue-1
loop-left-preserved-in-Continue-1 c =
    let f = c.in_ok-flush.ensures.ok in
    let n : length c.push_few.new.self ≡ 504 = omega arith in
    let filling : IsFilling c.fewest-many.result (length c.args.block.now) c.args.count (c.loop-left.left - c.min-some.result) =
    filling_on c.args.width c.fewest-many.result c.args.out.now.items c.args.block.now c.loop-left.out.items c.loop-left.block c.args.count c.loop-left.left c.min-some.result (omega (arith, c.min-some.ensures)) c.loop-left.invariant.most (omega (arith, c.min-some.ensures, c.len-in-loop-left.ensures.value))
    (elim c.if-left-many.branch [ then-left-many w ↦ inl w.if-left-many.true | else-left-many w ↦ inr (subst (λ (k : ℕ). 0 < k % 8) w.len.ensures.value (some_pending c.if-left-many.value (w.len.result % 8) c.if-len-ne0.true w.value-is)) ]) c.loop-left.invariant.taken c.loop-left.invariant.filling in
    record {
      most = omega arith;
      taken =
          rw f.0 (taken_flushed c.args.width c.fewest-many.result c.args.out.now.items c.args.block.now c.loop-left.out.items c.push_few.new.self c.flush.new.out.items c.args.count (c.loop-left.left - c.min-some.result) c.fewest-many.ensures.most (omega arith) c.requires.room n c.in_ok-flush.ensures.size filling
          (rw c.push_few.ensures (taken_pushed c.args.width c.args.out.now.items c.args.block.now c.loop-left.out.items c.loop-left.block c.args.number c.args.count c.loop-left.left c.min-some.result (omega (arith, c.min-some.ensures)) c.loop-left.invariant.most c.loop-left.invariant.taken)));
      filling = filling;
      room = rw f.0 (omega arith);
      kept = kept_then c.args.out.now.items c.loop-left.out.items c.flush.new.out.items c.loop-left.invariant.kept c.in_ok-flush.ensures.kept;
      below = rw f.0 (λ k d lt. absurd (omega (arith, lt)));
      wrote = λ start xs s. rw f.0 (f.1 start _ (rw c.push_few.ensures (wrote_some c.args.width start c.loop-left.out.items c.loop-left.block xs c.args.number c.args.count c.loop-left.left c.min-some.result (omega (arith, c.min-some.ensures)) c.loop-left.invariant.most (c.loop-left.invariant.wrote start xs s))));
      tight = λ start done t. tight_flushed c.args.width start (length c.loop-left.out.items) (length c.flush.new.out.items) (length c.push_few.new.self) _ c.flush.new.block n f.0 c.in_ok-flush.ensures.size (tight_pushed c.args.width start (length c.loop-left.out.items) c.loop-left.block c.push_few.new.self c.args.number (done + length c.args.block.now) c.args.count c.loop-left.left c.min-some.result (omega (arith, c.min-some.ensures)) c.loop-left.invariant.most c.push_few.ensures (c.loop-left.invariant.tight start done t));
    }

pub loop-left-preserved : goal.loop-left-preserved
loop-left-preserved c = record {
  most = omega arith;
  taken = rw c.push_few.ensures (taken_pushed c.args.width c.args.out.now.items c.args.block.now c.loop-left.out.items c.loop-left.block c.args.number c.args.count c.loop-left.left c.min-some.result (omega (arith, c.min-some.ensures)) c.loop-left.invariant.most c.loop-left.invariant.taken);
  filling =
      filling_on c.args.width c.fewest-many.result c.args.out.now.items c.args.block.now c.loop-left.out.items c.loop-left.block c.args.count c.loop-left.left c.min-some.result (omega (arith, c.min-some.ensures)) c.loop-left.invariant.most (omega (arith, c.min-some.ensures, c.len-in-loop-left.ensures.value))
      (elim c.if-left-many.branch [ then-left-many w ↦ inl w.if-left-many.true | else-left-many w ↦ inr (subst (λ (k : ℕ). 0 < k % 8) w.len.ensures.value (some_pending c.if-left-many.value (w.len.result % 8) c.if-len-ne0.true w.value-is)) ]) c.loop-left.invariant.taken c.loop-left.invariant.filling;
  kept = c.loop-left.invariant.kept;
  room = rw c.push_few.ensures (omega (arith, c.if-len-eq504.false, c.len-in-loop-left-2.ensures.value, c.loop-left.invariant.room, ap length c.push_few.ensures, length-append c.loop-left.block (replicate c.min-some.result c.args.number), length-replicate c.min-some.result c.args.number));
  below = rw c.push_few.ensures (All-append (λ v. v < 2 ^ c.args.width) c.loop-left.block (replicate c.min-some.result c.args.number) c.loop-left.invariant.below (All-replicate (λ v. v < 2 ^ c.args.width) c.min-some.result c.args.number c.requires.number));
  wrote = λ start xs s. rw c.push_few.ensures (wrote_some c.args.width start c.loop-left.out.items c.loop-left.block xs c.args.number c.args.count c.loop-left.left c.min-some.result (omega (arith, c.min-some.ensures)) c.loop-left.invariant.most (c.loop-left.invariant.wrote start xs s));
  tight = λ start done t. tight_pushed c.args.width start (length c.loop-left.out.items) c.loop-left.block c.push_few.new.self c.args.number (done + length c.args.block.now) c.args.count c.loop-left.left c.min-some.result (omega (arith, c.min-some.ensures)) c.loop-left.invariant.most c.push_few.ensures (c.loop-left.invariant.tight start done t);
}

pub returns-in_ok-push_copies-clause-wrote : goal.returns-in_ok-push_copies-clause-wrote
returns-in_ok-push_copies-clause-wrote c =
    let f = c.in_ok-flush-2.ensures.ok in
    let e = c.in_ok-push_copies.ensures.ok in
    λ start xs s. rw f.0 (wrote_left c.args.width start c.flush-then-left-gt0.new.out.items c.push_copies.new.out.items xs e.0 c.args.number c.args.count c.loop-left.left (omega arith) c.requires.number (omega arith) c.loop-left.invariant.most c.requires.few e.2 e.1 (f.1 start (xs ++ replicate (c.args.count - c.loop-left.left) c.args.number) (c.loop-left.invariant.wrote start xs s)))

pub returns-in_ok-push_copies-clause-tight : goal.returns-in_ok-push_copies-clause-tight
returns-in_ok-push_copies-clause-tight c =
    let f = c.in_ok-flush-2.ensures.ok in
    let e = c.in_ok-push_copies.ensures.ok in
    let some : c.fewest-many.result ≤ c.loop-left.left = elim c.loop-left-test.branch [
      | then-loop-left-test+else-len-ne0 w ↦ elim w.if-left-many.branch [ then-left-many w' ↦ absurd (false≢true (sym w.if-len-ne0.false ∙ w'.value-is ∙ lt-ltb c.loop-left.left c.fewest-many.result w'.if-left-many.true)) | else-left-many w' ↦ omega arith ]
      | else-loop-left-test w ↦ absurd (omega arith)
    ] in
    let short = copies_short c.args.width c.loop-left.left c.requires.some (omega (arith, some)) (times_more c.args.width c.fewest-many.result c.loop-left.left c.fewest-many.ensures.low some) in
    let size = copies_length c.args.width c.loop-left.left c.args.number c.flush-then-left-gt0.new.out.items c.push_copies.new.out.items e.0 e.2 e.1 in
    λ start done t. tight_same c.args.width start (length c.push_copies.new.out.items) (length c.flush-then-left-gt0.new.block) _ _ (omega arith)
    (tight_copied c.args.width start (length c.loop-left.out.items) (length c.flush-then-left-gt0.new.out.items) (length c.push_copies.new.out.items) (length (varint (2 * c.loop-left.left))) (bytes_for c.args.width) (length c.loop-left.block) (done + length c.args.block.now + (c.args.count - c.loop-left.left)) c.loop-left.left c.flush-then-left-gt0.new.block f.0 c.in_ok-flush-2.ensures.size size short (c.loop-left.invariant.tight start done t))

pub returns-else-left-gt0-clause-tight : goal.returns-else-left-gt0-clause-tight
returns-else-left-gt0-clause-tight c =
    λ start done t. tight_same c.args.width start (length c.loop-left.out.items) (length c.loop-left.block) _ _ (omega arith) (c.loop-left.invariant.tight start done t)

pub returns-in_ok-push_copies-clause-short : goal.returns-in_ok-push_copies-clause-short
returns-in_ok-push_copies-clause-short c =
    let f = c.in_ok-flush-2.ensures.ok in
    let e = c.in_ok-push_copies.ensures.ok in
    let over : (c.fewest-many.result ≤ c.loop-left.left) × (length c.loop-left.block % 8 ≡ 0) = elim c.loop-left-test.branch [
      | then-loop-left-test+else-len-ne0 w ↦ elim w.if-left-many.branch [ then-left-many w' ↦ absurd (false≢true (sym w.if-len-ne0.false ∙ w'.value-is ∙ lt-ltb c.loop-left.left c.fewest-many.result w'.if-left-many.true)) | else-left-many w' ↦ (omega arith, ap (λ (k : ℕ). k % 8) (sym w'.len.ensures.value) ∙ none_pending w.if-left-many.value (w'.len.result % 8) w.if-len-ne0.false w'.value-is) ]
      | else-loop-left-test w ↦ absurd (omega arith)
    ] in
    let size = copies_length c.args.width c.loop-left.left c.args.number c.flush-then-left-gt0.new.out.items c.push_copies.new.out.items e.0 e.2 e.1 in
    rw f.0 (run_taken c.args.width c.fewest-many.result c.args.count c.loop-left.left c.args.out.now.items c.args.block.now c.loop-left.out.items c.loop-left.block c.flush-then-left-gt0.new.out.items c.push_copies.new.out.items over.0 c.loop-left.invariant.most (omega arith) c.requires.few over.1 c.loop-left.invariant.filling c.loop-left.invariant.taken c.in_ok-flush-2.ensures.size size)

pub returns-else-left-gt0-clause-short : goal.returns-else-left-gt0-clause-short
returns-else-left-gt0-clause-short c =
    packed_taken c.args.width c.fewest-many.result c.args.count c.loop-left.left c.args.out.now.items c.args.block.now c.loop-left.out.items c.loop-left.block (omega arith) c.fewest-many.ensures.high c.requires.room c.loop-left.invariant.filling c.loop-left.invariant.taken
