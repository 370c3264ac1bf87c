use Rattle.std.proofs.Common.{◌≡◌, ◌⊎◌, inl, inr, drop}
use Rattle.columns_base.specs.declared.error.Error.{Error}
use Rattle.columns_base.specs.declared.error.Error.TheVariants.{Memory}
use Rattle.pq_files.specs.Delta.{AreDeltaLengths}
use Rattle.pq_runs.specs.Hybrid.{fault}
use Rattle.pq_runs.proofs.Decoding.{passed_on}
use Rattle.pq_runs.proofs.Packs.{kept_more, kept_then}
use Rattle.pq_delta_reads.specs.Sections.{SpellsNone}
use Rattle.pq_delta_reads.proofs.Copying.{block_stops, copying_begin, copying_block, copied, no_item}
use Rattle.pq_delta_reads.proofs.strings.push_plain_strings.Goals as goal

pub loop-item-init : goal.loop-item-init
loop-item-init c = λ size zs r. (
    let b = c.in_ok-bytes.ensures.ok in
    let d = c.in_ok-decoder.ensures in
    rw c.expect_room.ensures (copying_begin c.args.out.now.items c.args.section.now c.in_ok-bytes.bytes.now d.0 c.in_ok-decoder.decoder.items size b.0 zs b.1 d.1 d.2.items r b.2 b.5))

pub returns-in-Err-clause-err : goal.returns-in-Err-clause-err
returns-in-Err-clause-err c =
    let steps = rw c.in-Err.is at c.in-Some.ensures in
    let b = c.in_ok-bytes.ensures.ok in
    absurd (no_item c.args.out.now.items c.loop-item.out.items b.1 (drop b.0 c.args.section.now) c.loop-item.decoder.items c.loop-item.bytes.now c.in-Err.error steps.1 (c.loop-item.invariant b.0 b.1 b.2))

pub returns-in-Err-clause-kept : goal.returns-in-Err-clause-kept
returns-in-Err-clause-kept c =
    let b = c.in_ok-bytes.ensures.ok in
    let k = c.loop-item.invariant b.0 b.1 b.2 in
    kept_more c.args.out.now.items c.loop-item.out.items k.text k.parts

pub returns-in_err-bytes-2-clause-err : goal.returns-in_err-bytes-2-clause-err
returns-in_err-bytes-2-clause-err c =
    let steps = rw c.in-Ok.is at c.in-Some.ensures in
    let b = c.in_ok-bytes.ensures.ok in
    let P : Error → Type 0 = λ e. (e ≡ Memory) ⊎ ((e ≡ fault) × SpellsNone AreDeltaLengths c.args.count c.args.section.now) in
    let p : P c.in_err-bytes-2.field-0.0 = elim c.in_err-bytes-2.ensures.err [
      | inl memory ↦ inl memory
      | inr f ↦ inr (f.0, block_stops c.args.count c.args.section.now c.args.out.now.items c.loop-item.out.items b.0 b.1 _ c.loop-item.decoder.items c.next_block.new.self.items c.loop-item.bytes.now b.2 steps.2 f.1 (c.loop-item.invariant b.0 b.1 b.2))
    ] in
    passed_on P c.from_residual-in_err-bytes-2.result c.in_err-bytes-2.field-0.0 c.from_residual-in_err-bytes-2.ensures.1 p

pub returns-in_err-bytes-2-clause-kept : goal.returns-in_err-bytes-2-clause-kept
returns-in_err-bytes-2-clause-kept c =
    let b = c.in_ok-bytes.ensures.ok in
    let k = c.loop-item.invariant b.0 b.1 b.2 in
    kept_then c.args.out.now.items c.loop-item.out.items c.push_strings.new.out.items (kept_more c.args.out.now.items c.loop-item.out.items k.text k.parts) c.in_err-bytes-2.ensures.kept

pub loop-item-preserved : goal.loop-item-preserved
loop-item-preserved c = λ size zs r. (
    let steps = rw c.in-Ok.is at c.in-Some.ensures in
    copying_block _ c.args.out.now.items c.loop-item.out.items c.push_strings.new.out.items zs (drop size c.args.section.now) c.loop-item.decoder.items c.next_block.new.self.items c.loop-item.bytes.now c.in_ok-bytes-2.bytes.now steps.2 c.in_ok-bytes-2.ensures.ok (c.loop-item.invariant size zs r))

pub returns-clause-ok : goal.returns-clause-ok
returns-clause-ok c =
    let b = c.in_ok-bytes.ensures.ok in
    copied c.args.count c.args.section.now c.args.out.now.items c.loop-item.out.items b.0 b.1 c.loop-item.decoder.items c.loop-item.bytes.now b.2 b.3 b.4 c.in_default.ensures.0 (c.loop-item.invariant b.0 b.1 b.2)

pub returns-clause-kept : goal.returns-clause-kept
returns-clause-kept c =
    let b = c.in_ok-bytes.ensures.ok in
    let k = c.loop-item.invariant b.0 b.1 b.2 in
    kept_more c.args.out.now.items c.loop-item.out.items k.text k.parts
