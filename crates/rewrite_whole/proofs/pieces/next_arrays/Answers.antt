use Rattle.std.proofs.Common.{◌≡◌, ◌∙◌, ◌++◌, ◌∷◌, [], List, Some, length, map, slice_set, ◌+◌, ap, sym, subst, arith}
use Rattle.std.proofs.lemmas.List.{length-map, map-append, length-append}
use Rattle.columns_array.specs.Boxed.{boxed, all_boxed}
use Rattle.columns_slots.specs.Tree.{ArrayTree}
use Rattle.pq_headline.specs.Opened.{rows_in_chunks}
use Rattle.pq_headline.specs.Openings.{Opening}
use Rattle.assembly.specs.Giving.{IsGiving, Gives}
use Rattle.rewrite_whole.specs.Groups.{AreStepped, TakesPiece}
use Rattle.rewrite_whole.proofs.Stepping.{stepped, taken, refused, still_open, whole_back}
use Rattle.rewrite_whole.proofs.pieces.next_arrays.Goals as goal

pub returns-in-Some-Err-clause-err : goal.returns-in-Some-Err-clause-err
returns-in-Some-Err-clause-err g c = λ rows n os chunks u less.
    let told = λ (o : Opening) (arrays : List ArrayTree) (h : IsGiving o arrays c.iter-item.result). subst (λ r. Gives o arrays (Some r) c.next.new.self) c.in-Some-Err.field-0-is (c.in-Some-Err.ensures o arrays (subst (λ x. IsGiving o arrays x) c.iter-item.is h)) in
    refused rows n os c.loop-iter.iter-items (map boxed c.loop-iter.arrays.items) chunks c.loop-iter.iter-index c.iter-item.result c.in-Some-Err.error
    (c.loop-iter.invariant.stepped rows n os chunks u less) (sym (length-map c.loop-iter.arrays.items boxed ∙ c.loop-iter.invariant.counted)) (omega arith) c.iter-item.is told

pub returns-in-None-clause-err : goal.returns-in-None-clause-err
returns-in-None-clause-err g c = λ rows n os chunks u less.
    absurd (still_open rows n os c.args.iters.now.items c.loop-iter.iter-items (map boxed c.loop-iter.arrays.items) chunks c.loop-iter.iter-index c.iter-item.result
    u (c.loop-iter.invariant.stepped rows n os chunks u less) (sym (length-map c.loop-iter.arrays.items boxed ∙ c.loop-iter.invariant.counted)) (omega arith) c.iter-item.is less (λ o arrays h. c.in-None.ensures o arrays (subst (λ x. IsGiving o arrays x) c.iter-item.is h)))

pub loop-iter-preserved : goal.loop-iter-preserved
loop-iter-preserved g c = record {
  counted = ap length c.in_ok-push-in-Some-Ok.ensures.items ∙ length-append c.loop-iter.arrays.items (c.in-Some-Ok.array ∷ []) ∙ ap (λ k. k + 1) c.loop-iter.invariant.counted;
  stepped = λ rows n os chunks u less.
      let told = λ (o : Opening) (arrays : List ArrayTree) (h : IsGiving o arrays c.iter-item.result). subst (λ r. Gives o arrays (Some r) c.next.new.self) c.in-Some-Ok.field-0-is (c.in-Some-Ok.ensures o arrays (subst (λ x. IsGiving o arrays x) c.iter-item.is h)) in
      let list : map boxed c.push.new.self.items ≡ map boxed c.loop-iter.arrays.items ++ boxed c.in-Some-Ok.array ∷ [] =
      ap (map boxed) c.in_ok-push-in-Some-Ok.ensures.items ∙ map-append boxed c.loop-iter.arrays.items (c.in-Some-Ok.array ∷ []) in
      subst (λ xs. AreStepped 0 (rows_in_chunks chunks) os (slice_set c.loop-iter.iter-items c.loop-iter.iter-index c.next.new.self) xs chunks) (sym list)
      (stepped rows n os c.args.iters.now.items c.loop-iter.iter-items (map boxed c.loop-iter.arrays.items) chunks c.loop-iter.iter-index c.iter-item.result c.next.new.self (boxed c.in-Some-Ok.array)
      u (c.loop-iter.invariant.stepped rows n os chunks u less) (sym (length-map c.loop-iter.arrays.items boxed ∙ c.loop-iter.invariant.counted)) (omega arith) c.iter-item.is told);
}

pub returns-clause-ok : goal.returns-clause-ok
returns-clause-ok g c = λ rows n os chunks u less.
    subst (λ xs. TakesPiece rows n os xs chunks (all_boxed c.loop-iter.arrays.items)) (sym (whole_back c.args.iters.now.len c.loop-iter.iter-items c.args.iters.now.items (omega arith) (omega arith)))
    (taken rows n os c.args.iters.now.items c.loop-iter.iter-items c.loop-iter.arrays.items chunks u (c.loop-iter.invariant.stepped rows n os chunks u less) (omega (arith, c.loop-iter.invariant.counted)))
