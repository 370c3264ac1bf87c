use Rattle.std.proofs.Common.{◌∙◌, ap, arith, not, sym}
use Rattle.std.proofs.lemmas.Bool.{and_parts, eq-eqb, true≢false}
use Rattle.levels.proofs.ItemEnds.{items_more}
use Rattle.levels.proofs.items.have_items.Goals as goal

pub loop-i-preserved : goal.loop-i-preserved
loop-i-preserved g c = λ is.
    let both = and_parts _ _ is in
    items_more c.args.offsets.now c.args.place c.loop-i.i c.place.result c.place-in-loop-i.result c.know.ensures c.place.ensures c.place-in-loop-i.ensures (λ e. true≢false (sym both.1 ∙ ap not (eq-eqb _ _ e))) (omega (arith, c.loop-i-test.true, c.requires)) (c.loop-i.invariant both.0)
