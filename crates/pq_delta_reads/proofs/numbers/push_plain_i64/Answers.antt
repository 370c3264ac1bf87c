use Rattle.std.proofs.Common.{◌≡◌, ◌⊎◌, ◌∙◌, refl, sym, inr, take}
use Rattle.std.specs.Int.{w64}
use Rattle.columns_base.specs.declared.error.Error.{Error}
use Rattle.columns_base.specs.declared.error.Error.TheVariants.{Memory}
use Rattle.pq_files.specs.Delta.{AreDeltas}
use Rattle.pq_runs.specs.Hybrid.{fault}
use Rattle.pq_runs.proofs.Decoding.{passed_on}
use Rattle.pq_tree.specs.Physical.{int64}
use Rattle.pq_delta_reads.specs.Sections.{SpellsNone}
use Rattle.pq_delta_reads.proofs.Adding.{filling_block}
use Rattle.pq_delta_reads.proofs.Filling.{filling_begin, filled, spells_none, other_count, no_head, plain_64}
use Rattle.pq_delta_reads.proofs.Narrow.{narrow_64}
use Rattle.pq_delta_reads.proofs.numbers.push_plain_i64.Goals as goal

pub returns-in_err-decoder-clause-err : goal.returns-in_err-decoder-clause-err
returns-in_err-decoder-clause-err c =
    let P : Error → Type 0 = λ e. (e ≡ Memory) ⊎ ((e ≡ fault) × SpellsNone (AreDeltas w64) c.args.count c.args.section.now) in
    let e = c.in_err-decoder.ensures in
    passed_on P c.from_residual.result c.in_err-decoder.field-0.0 c.from_residual.ensures.1 (inr (e.0, no_head w64 narrow_64 c.args.count c.args.section.now e.1))

pub returns-then-len-count-clause-err : goal.returns-then-len-count-clause-err
returns-then-len-count-clause-err c =
    let d = c.in_ok-decoder.ensures in
    inr (refl, other_count w64 narrow_64 c.args.count c.args.section.now d.0 d.1 (λ e. c.if-len-count.true (c.len.ensures ∙ d.2.left ∙ e)))

pub loop-item-init : goal.loop-item-init
loop-item-init c = rw c.expect_room.ensures (filling_begin w64 int64 c.args.out.now.items c.in_ok-decoder.decoder.items)

pub loop-item-preserved : goal.loop-item-preserved
loop-item-preserved c =
    let steps = rw c.in-Ok.is at c.in-Some.ensures in
    let o = c.in_ok-push_whole-in-Ok.ensures.ok in
    filling_block w64 int64 c.args.out.now.items c.loop-item.out.items c.push_whole.new.out.items o.0 c.in_ok-decoder.decoder.items c.loop-item.decoder.items c.next_block.new.self.items (take c.in-Ok.count c.next_block.new.numbers) steps.2 o.1 o.2 c.loop-item.invariant

pub returns-in-Err-clause-err : goal.returns-in-Err-clause-err
returns-in-Err-clause-err c =
    let steps = rw c.in-Err.is at c.in-Some.ensures in
    let d = c.in_ok-decoder.ensures in
    inr (steps.0, spells_none w64 int64 narrow_64 c.args.count c.args.section.now c.args.out.now.items c.loop-item.out.items d.0 c.in_ok-decoder.decoder.items c.loop-item.decoder.items c.in-Err.error d.1 d.2.items steps.1 c.loop-item.invariant)

pub returns-clause-ok : goal.returns-clause-ok
returns-clause-ok c =
    let d = c.in_ok-decoder.ensures in
    filled w64 int64 narrow_64 plain_64 c.args.count c.args.section.now c.args.out.now.items c.loop-item.out.items d.0 c.in_ok-decoder.decoder.items c.loop-item.decoder.items d.1 d.2.items (sym d.2.left ∙ sym c.len.ensures ∙ c.if-len-count.false) c.in_default.ensures.0 c.loop-item.invariant
