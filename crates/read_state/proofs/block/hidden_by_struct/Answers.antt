use Rattle.std.proofs.Common.{◌≡◌, false, true, refl, arith, ◌∙◌, inl, inr}
use Rattle.std.proofs.lemmas.Bool.{cases_lt}
use Rattle.std.proofs.lemmas.List.{length-set, get_or-set_other, get_or-set_same}
use Rattle.read_state.specs.Marks.{hides_at}
use Rattle.read_state.proofs.block.hidden_by_struct.Goals as goal

pub loop-j-preserved : goal.loop-j-preserved
loop-j-preserved c =
    let j = c.loop-j.j in
    let v = c.both.result in
    let xs = c.loop-j.beneath in
    let here : v ≡ hides_at c.args.reps.now c.args.defs.now c.args.hidden.now c.args.depth c.args.def c.args.nullable true j = rw (c.both.ensures, c.pushes-pushed.ensures, c.both-there.ensures) refl in
    record {
      size = length-set xs j v ∙ c.loop-j.invariant.size;
      flags = λ k less. elim (cases_lt k j) [
        | inl e ↦ get_or-set_other xs j k v false (λ same. omega (arith, same, e)) ∙ c.loop-j.invariant.flags k e
        | inr e ↦
            let same : k ≡ j = omega (arith, less, e) in
            rw same (get_or-set_same xs j v false (omega (arith, c.loop-j.invariant.size, c.loop-j-test.true, c.requires.reps)) ∙ here)
      ];
    }
