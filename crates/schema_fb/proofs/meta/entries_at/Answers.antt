use Rattle.std.proofs.Common.{string_bytes}
use Rattle.std.proofs.lemmas.Result.{err_from_is_err_and}
use Rattle.columns_core.specs.Meta.{texts}
use Rattle.schema_codec.proofs.Turns.{texts_more}
use Rattle.schema_fb.specs.Reading.{entry_at}
use Rattle.schema_fb.proofs.Loops.{items_begin, items_go_on, items_fail, items_end}
use Rattle.schema_fb.proofs.meta.entries_at.Goals as goal

pub entries-init : goal.entries-init
entries-init c = rw c.new-entries.ensures.items (items_begin (entry_at c.args.bytes.now) c.args.bytes.now c.args.count c.args.place c.args.left)

pub returns-in_err-entry : goal.returns-in_err-entry
returns-in_err-entry c =
    let p = err_from_is_err_and c.from_residual.result c.from_residual.ensures.1 in
    rw (p.1, p.2) (items_fail c.in_err-entry.field-0.0 (entry_at c.args.bytes.now) c.args.bytes.now (texts c.entries.entries.items) c.args.count c.entries.counter c.entries.at c.entries.rest _ c.entries-test.true c.in_err-entry.ensures.gives c.entries.invariant)

pub entries-preserved : goal.entries-preserved
entries-preserved c =
    let e = c.in_ok-entry.entry in
    let went_on = items_go_on (entry_at c.args.bytes.now) c.args.bytes.now (texts c.entries.entries.items) c.args.count c.entries.counter c.entries.at c.entries.rest (string_bytes e.0, string_bytes e.1) c.in_ok-entry.after _ c.entries-test.true c.in_ok-entry.ensures.gives c.entries.invariant in
    rw (c.in_ok-push.ensures.items, texts_more c.entries.entries.items e) went_on

pub returns : goal.returns
returns c = items_end (entry_at c.args.bytes.now) c.args.bytes.now (texts c.entries.entries.items) c.args.count c.entries.counter c.entries.at c.entries.rest _ c.entries-test.false c.entries.invariant
