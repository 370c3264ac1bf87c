use Rattle.std.proofs.Common.{◌≡◌, ◌∙◌, inr, ◌∷◌, [], ◌++◌, length, Some, None, refl, sym, ap, subst, arith}
use Rattle.std.proofs.lemmas.List.{take_all}
use Rattle.assembly.proofs.Stepping.{whole_back}
use Rattle.struct_iters.specs.Progress.{Progress, AreAt, AreGone, AreTaken, IsAt}
use Rattle.struct_iters.proofs.Taken.{gave, ended, refused, gone-at, gone-set, gone-more, longer, some-more}
use Rattle.struct_iters.proofs.pieces.take_pieces.Goals as goal
use Rattle.struct_iters.proofs.pieces.take_pieces.Goals.{in-None, in-Some-Ok+in_ok-push-in-Some-Ok}

pub returns-in_err-push-in-Some-Ok-clause-ended : goal.returns-in_err-push-in-Some-Ok-clause-ended
returns-in_err-push-in-Some-Ok-clause-ended g c = λ gone.
    let was = (c.loop-column.invariant.ended gone).1 in
    let none = gone-at c.loop-column.column-items c.loop-column.column-index c.column-item.result was (omega arith) c.column-item.is in
    let end = (c.next_of.ensures.ended (sym c.column-item.is ∙ none)).0 in
    absurd (cc (end, c.in-Some-Ok.is))

pub returns-in-Some-Err-clause-err : goal.returns-in-Some-Err-clause-err
returns-in-Some-Err-clause-err g c = λ xs at.
    let t = c.loop-column.invariant.taken xs at in
    inr (refused t.0 xs c.loop-column.column-items c.loop-column.pieces.items c.loop-column.column-index c.column-item.result _ t.2 (sym t.1) (omega arith) c.column-item.is
    (λ (x : Progress) (h : IsAt x c.column-item.result). rw (c.in-Some-Err.is, c.in-Some-Err.field-0-is) at c.next_of.ensures.gives x (subst (IsAt x) c.column-item.is h)))

pub returns-in-Some-Err-clause-ended : goal.returns-in-Some-Err-clause-ended
returns-in-Some-Err-clause-ended g c = λ gone.
    let was = (c.loop-column.invariant.ended gone).1 in
    let none = gone-at c.loop-column.column-items c.loop-column.column-index c.column-item.result was (omega arith) c.column-item.is in
    let end = (c.next_of.ensures.ended (sym c.column-item.is ∙ none)).0 in
    absurd (cc (end, c.in-Some-Err.is))

pub loop-column-preserved : goal.loop-column-preserved
loop-column-preserved g c = elim c.match-next_of.branch [
  | in-None w ↦ record {
    taken = λ xs at.
        let t = c.loop-column.invariant.taken xs at in (
          t.0 ++ None ∷ [],
          longer t.0 None c.loop-column.column-index t.1,
          rw w.pieces-is (ended t.0 xs c.loop-column.column-items c.loop-column.pieces.items c.loop-column.column-index c.column-item.result c.next_of.new.column t.2 (sym t.1) (omega arith) c.column-item.is
              (λ (x : Progress) (h : IsAt x c.column-item.result). rw w.in-None.is at c.next_of.ensures.gives x (subst (IsAt x) c.column-item.is h))),
        );
    ended = λ gone.
        let was = c.loop-column.invariant.ended gone in
        let none = gone-at c.loop-column.column-items c.loop-column.column-index c.column-item.result was.1 (omega arith) c.column-item.is in
        (rw w.pieces-is was.0, gone-set c.loop-column.column-items c.loop-column.column-index c.next_of.new.column was.1 (c.next_of.ensures.ended (sym c.column-item.is ∙ none)).1);
    gone = λ none. gone-more c.loop-column.column-items c.loop-column.column-index c.next_of.new.column (omega arith) (c.loop-column.invariant.gone (rw w.pieces-is at none)) (c.next_of.ensures.gone w.in-None.is);
  }
  | in-Some-Ok+in_ok-push-in-Some-Ok w ↦ record {
    taken = λ xs at.
        let t = c.loop-column.invariant.taken xs at in
        let more = gave t.0 xs c.loop-column.column-items c.loop-column.pieces.items c.loop-column.column-index c.column-item.result c.next_of.new.column w.in-Some-Ok.piece t.2 (sym t.1) (omega arith) c.column-item.is
        (λ (x : Progress) (h : IsAt x c.column-item.result). rw (w.in-Some-Ok.is, w.in-Some-Ok.field-0-is) at c.next_of.ensures.gives x (subst (IsAt x) c.column-item.is h)) in
        (t.0 ++ Some more.0 ∷ [], longer t.0 (Some more.0) c.loop-column.column-index t.1, rw (w.pieces-is, w.in_ok-push-in-Some-Ok.ensures.items) more.1);
    ended = λ gone.
        let was = c.loop-column.invariant.ended gone in
        let none = gone-at c.loop-column.column-items c.loop-column.column-index c.column-item.result was.1 (omega arith) c.column-item.is in
        let end = (c.next_of.ensures.ended (sym c.column-item.is ∙ none)).0 in
        absurd (cc (end, w.in-Some-Ok.is));
    gone = λ none. absurd (some-more c.loop-column.pieces.items w.in-Some-Ok.piece (rw (w.pieces-is, w.in_ok-push-in-Some-Ok.ensures.items) at none));
  }
]

pub loop-column-init : goal.loop-column-init
loop-column-init g c = record {
  taken = λ xs at. ([], refl, (c.new-pieces.ensures.items, subst (AreAt xs) (sym c.deref_mut-column-items.ensures.value) at));
  ended = λ gone. (c.new-pieces.ensures.items, subst AreGone (sym c.deref_mut-column-items.ensures.value) gone);
  gone = λ none. tt;
}

pub returns-clause-ok : goal.returns-clause-ok
returns-clause-ok g c = λ xs at.
    let t = c.loop-column.invariant.taken xs at in
    let back = whole_back c.args.columns.now.len c.loop-column.column-items c.args.columns.now.items (omega arith) (omega arith) in
    let full : c.loop-column.column-index ≡ length c.loop-column.column-items = omega arith in
    (t.0, t.1 ∙ full ∙ ap length (sym back), subst (λ rs. AreTaken t.0 xs rs c.loop-column.pieces.items) (sym back) t.2)

pub returns-clause-ended : goal.returns-clause-ended
returns-clause-ended g c = λ gone.
    let w = c.loop-column.invariant.ended gone in
    let back = whole_back c.args.columns.now.len c.loop-column.column-items c.args.columns.now.items (omega arith) (omega arith) in
    (w.0, subst AreGone (sym back) w.1)

pub returns-clause-gone : goal.returns-clause-gone
returns-clause-gone g c = λ none.
    let back = whole_back c.args.columns.now.len c.loop-column.column-items c.args.columns.now.items (omega arith) (omega arith) in
    subst AreGone (sym back) (subst AreGone (take_all c.loop-column.column-index c.loop-column.column-items (omega arith)) (c.loop-column.invariant.gone none))
