use Rattle.std.proofs.Common.{◌≡◌, ◌+◌, ◌<◌, Bool, map, length, refl, arith, ap, ◌∙◌}
use Rattle.read_laws.specs.Step.{bit, is_list, gain}
use Rattle.read_laws.specs.Block.{beneath}
use Rattle.read_state.specs.Kinds.{kept_box}
use Rattle.read_state.proofs.Blocks.{block-more}
use Rattle.read_state.proofs.Marked.{not-last, list-lasts}
use Rattle.read_state.proofs.plain.+push_parts.Goals as goal

pub returns-clause-ok : goal.returns-clause-ok
returns-clause-ok g t c ms is all =
    let part = c.in-Some.part.now in
    let reps = c.args.reps.now in
    let defs = c.args.defs.now in
    let some : 0 < length c.args.parts.now = rw c.in-Some.ensures.cases.0 (omega arith) in
    let depth : c.args.depth + c.bit.result ≡ c.args.depth + bit (is_list (kept_box part)) = rw (c.bit.ensures, c.is_repeated-repeated.ensures) refl in
    let def : c.args.def + (c.bit-2.result + c.bit-3.result) ≡ c.args.def + gain (kept_box part) = rw (c.bit-2.ensures, c.is_nullable-nullable.ensures, c.bit-3.ensures, c.is_repeated-repeated.ensures) refl in
    let marked = c.beneath_word-grown.ensures (kept_box part) ms c.args.depth c.args.def (is some) c.is_required-required.ensures depth def in
    let here = c.push_part.ensures ms reps c.args.depth (is some) (λ l.
    let one : c.args.depth + c.bit.result ≡ c.args.depth + 1 = depth ∙ ap (λ (b : Bool). c.args.depth + bit b) l in
    rw (one, def) at (marked (λ r. c.both-last.ensures ∙ list-lasts c.is_repeated-repeated.result (length c.in-Some.rest.now) (c.is_repeated-repeated.ensures ∙ l)))) in
    block-more c.args.parts.now c.in-Some.rest.now c.push_parts.new.parts part c.push_part.new.part c.args.depth c.args.def c.first_len-first.result (c.args.depth + c.bit.result) (c.args.def + (c.bit-2.result + c.bit-3.result)) ms (map (beneath (kept_box part) c.args.depth c.args.def) ms)
    c.in-Some.ensures.cases.0
    c.first_len-first.ensures
    (here c.if-not-push_part.false)
    refl
    depth
    def
    (c.push_parts.ensures.ok (map (beneath (kept_box part) c.args.depth c.args.def) ms) (λ more. marked (λ r. c.both-last.ensures ∙ not-last c.is_repeated-repeated.result (length c.in-Some.rest.now) more)) all)
