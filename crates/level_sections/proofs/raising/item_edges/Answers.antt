use Rattle.std.proofs.Common.{◌≡◌, ℕ, ◌+◌, ◌-◌, ◌<◌, ◌∙◌, ap, arith, inl, inr, length, slice_set, sym}
use Rattle.std.proofs.lemmas.Bool.{cases_lt}
use Rattle.std.proofs.lemmas.Grind.{get_or-set_at}
use Rattle.std.proofs.lemmas.List.{get_or-set_other, length-set}
use Rattle.shredding.specs.Parts.{item_start}
use Rattle.level_sections.proofs.SlotLevels.{items-rise, offsets-apart}
use Rattle.level_sections.proofs.raising.item_edges.Goals as goal

pub overflow_cast-edges : goal.overflow_cast-edges
overflow_cast-edges g c =
    let os = c.args.offsets.now in
    let place = c.args.place + c.loop-k.k in
    let is = offsets-apart os c.args.from place (c.place.result - c.place-begin.result) c.know.ensures (omega (arith, c.requires.after)) (omega (arith, c.loop-k-test.true, c.requires.within)) (omega (arith, c.place.ensures, c.place-begin.ensures)) in
    let rise = items-rise os place (c.args.place + c.args.count) c.know.ensures (omega (arith, c.loop-k-test.true)) c.requires.within in
    omega (arith, is, rise, c.requires.small)

pub loop-k-preserved : goal.loop-k-preserved
loop-k-preserved g c =
    let os = c.args.offsets.now in
    let k = c.loop-k.k in
    let edges = c.loop-k.edges in
    let new = slice_set edges k (c.place.result - c.place-begin.result) in
    let is = offsets-apart os c.args.from (c.args.place + k) (c.place.result - c.place-begin.result) c.know.ensures (omega (arith, c.requires.after)) (omega (arith, c.loop-k-test.true, c.requires.within)) (omega (arith, c.place.ensures, c.place-begin.ensures)) in
    let within : k < length edges = omega (arith, c.loop-k.invariant.len, c.loop-k-test.true, c.requires.few) in
    record {
      len = length-set edges k (c.place.result - c.place-begin.result) ∙ c.loop-k.invariant.len;
      each = λ j h. elim (cases_lt j k) [
        | inl below ↦ get_or-set_other edges k j (c.place.result - c.place-begin.result) 0 (omega (arith, below)) ∙ c.loop-k.invariant.each j below
        | inr last ↦
            let same : j ≡ k = omega (arith, h, last) in
            get_or-set_at edges k j (c.place.result - c.place-begin.result) 0 same within
            ∙ (is ∙ ap (λ (m : ℕ). item_start os (c.args.place + m) - item_start os c.args.from) (sym same))
      ];
    }
