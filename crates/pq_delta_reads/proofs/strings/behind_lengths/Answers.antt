use Rattle.std.proofs.Common.{◌≡◌, ◌∙◌, refl, sym, ap}
use Rattle.columns_base.specs.declared.error.Error.{Error}
use Rattle.pq_files.specs.Delta.{AreDeltaLengths}
use Rattle.pq_runs.specs.Hybrid.{fault}
use Rattle.pq_runs.proofs.Decoding.{passed_on}
use Rattle.pq_delta_reads.specs.Decoding.{Decoding}
use Rattle.pq_delta_reads.specs.Sections.{SpellsNone}
use Rattle.pq_delta_reads.proofs.Copying.{lengths_none, lengths_other, lengths_fail, lengths_cut, lengths_done}
use Rattle.pq_delta_reads.proofs.Passing.{passed_all, passed_up_to, passing_begin, passing_more}
use Rattle.pq_delta_reads.proofs.strings.behind_lengths.Goals as goal

pub returns-in_err-decoder-clause-err : goal.returns-in_err-decoder-clause-err
returns-in_err-decoder-clause-err c =
    let P : Error → Type 0 = λ e. (e ≡ fault) × SpellsNone AreDeltaLengths c.args.count c.args.section.now in
    let e = c.in_err-decoder.ensures in
    passed_on P c.from_residual.result c.in_err-decoder.field-0.0 c.from_residual.ensures.1 (e.0, lengths_none c.args.count c.args.section.now e.1)

pub returns-then-len-count-clause-err : goal.returns-then-len-count-clause-err
returns-then-len-count-clause-err c =
    let d = c.in_ok-decoder.ensures in
    (refl, lengths_other c.args.count c.args.section.now d.0 d.1 (λ e. c.if-len-count.true (c.len.ensures ∙ d.2.left ∙ e)))

pub returns-in-Err-clause-err : goal.returns-in-Err-clause-err
returns-in-Err-clause-err c =
    let steps = rw c.in-Err.is at c.in-Some.ensures in
    let d = c.in_ok-decoder.ensures in
    (steps.0, lengths_fail c.args.count c.args.section.now d.0 c.in_ok-decoder.decoder c.loop-item.decoder c.in-Err.error d.1 d.2.items steps.1 (passed_up_to c.in_ok-decoder.decoder c.loop-item.decoder c.in-Err.error steps.1 c.loop-item.invariant))

pub loop-item-init : goal.loop-item-init
loop-item-init c = passing_begin c.in_ok-decoder.decoder

pub loop-item-preserved : goal.loop-item-preserved
loop-item-preserved c =
    let steps = rw c.in_default-item.is at c.in-Some.ensures in
    passing_more c.in_ok-decoder.decoder c.loop-item.decoder c.pass_block.new.self c.in_default-item.field-0 steps.1 steps.3 c.loop-item.invariant

pub returns-in-Some-behind-clause-ok : goal.returns-in-Some-behind-clause-ok
returns-in-Some-behind-clause-ok c =
    let steps = c.in_default.ensures in
    let d = c.in_ok-decoder.ensures in
    let b = c.in-Some-behind.ensures in
    lengths_done c.args.count c.pass_block.new.self.taken c.args.section.now c.in-Some-behind.behind.now d.0 c.in_ok-decoder.decoder c.loop-item.decoder d.1 d.2.items d.2.total (sym d.2.left ∙ sym c.len.ensures ∙ c.if-len-count.false) steps.0 (ap (λ (x : Decoding). x.taken) steps.3 ∙ steps.2) b.0 b.1 (passed_all c.in_ok-decoder.decoder c.loop-item.decoder steps.0 c.loop-item.invariant)

pub returns-in-None-clause-err : goal.returns-in-None-clause-err
returns-in-None-clause-err c =
    let steps = c.in_default.ensures in
    let d = c.in_ok-decoder.ensures in
    (refl, lengths_cut c.args.count c.args.section.now d.0 c.pass_block.new.self.taken d.1 (ap (λ (x : Decoding). x.taken) steps.3 ∙ steps.2 ∙ c.loop-item.invariant.total ∙ d.2.total) c.in-None.ensures)
