use Rattle.std.proofs.Common.{◌≡◌, ◌+◌, ℕ, Bool, true, false, cond, None, get_or, arith, ap, sym, ◌∙◌, refl}
use Rattle.read_laws.specs.State.{Kept, kept_list}
use Rattle.read_laws.specs.Step.{bit, pushed, growth, is_there, pushes}
use Rattle.read_laws.specs.Block.{marks_part, grows_by, pushed_all}
use Rattle.read_laws.proofs.Steps.{rising-one}
use Rattle.read_state.specs.Kinds.{starts_of}
use Rattle.read_state.specs.Marks.{marks_of}
use Rattle.read_state.proofs.Blocks.{part-step, mark_at, weight-one, and-none}
use Rattle.read_state.proofs.block.valid_each.Goals as goal
use Rattle.read_state.proofs.block.valid_each.Goals.{then-pushes+in_ok-push_length, else-pushes}

pub loop-j-preserved : goal.loop-j-preserved
loop-j-preserved c =
    let i = c.loop-j.invariant in
    let k : Kept = kept_list None (starts_of c.loop-j.lengths.items) in
    let k' : Kept = kept_list None (starts_of c.if-pushes.lengths.items) in
    let rep = get_or c.args.reps.now c.loop-j.j 0 in
    let level = get_or c.args.defs.now c.loop-j.j 0 in
    let depth = c.args.depth in
    let def = c.args.def in
    let place = c.loop-j.place in
    let m = mark_at c.args.reps.now c.args.defs.now c.args.hidden.now c.loop-j.j in
    let none = and-none (marks_part depth def m) true in
    let grew : c.bit-place.result ≡ grows_by k depth def m = c.bit-place.ensures ∙ (ap bit c.pushes-in-loop-j.ensures ∙ ap (λ (b : Bool). bit (pushes rep level b (depth + 1) (def + 1))) (sym none)) in
    let new : k' ≡ cond (marks_part depth def m) (pushed k place (growth rep level k depth def) (is_there k level def) 1) k = elim c.if-pushes.branch [
      | then-pushes+in_ok-push_length w ↦
          let p : marks_part depth def m ≡ true = sym c.pushes.ensures ∙ w.if-pushes.true in
          rw (p, w.lengths-is, w.in_ok-push_length.ensures.ok, rising-one place (growth rep level k depth def)) refl
      | else-pushes w ↦
          let p : marks_part depth def m ≡ false = sym c.pushes.ensures ∙ w.if-pushes.false in
          rw (p, w.lengths-is) refl
    ] in
    record {
      place = omega (arith, i.place, c.bit-place.ensures, weight-one c.pushes-in-loop-j.result);
      all = part-step k k' place (place + c.bit-place.result) depth def c.args.reps.now c.args.defs.now c.args.hidden.now c.loop-j.j (pushed_all (kept_list None (starts_of c.args.lengths.now.items)) c.args.first depth def (marks_of c.args.reps.now c.args.defs.now c.args.hidden.now)) (omega (arith, c.loop-j-test.true)) c.requires.defs c.requires.hidden i.all new (ap (λ (n : ℕ). place + n) grew);
    }
