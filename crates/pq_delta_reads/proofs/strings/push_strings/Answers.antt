use Rattle.std.proofs.Common.{◌≡◌, ◌⊎◌, refl, inl, inr, rules, arith, SFits, take, ◌<◌, length}
use Rattle.std.proofs.lemmas.Int.{to_z-of_z}
use Rattle.std.specs.Int.{w64}
use Rattle.columns_base.specs.declared.error.Error.{Error}
use Rattle.columns_base.specs.declared.error.Error.TheVariants.{Memory}
use Rattle.pq_runs.specs.Hybrid.{fault}
use Rattle.pq_runs.proofs.Decoding.{passed_on}
use Rattle.pq_runs.proofs.Packs.{kept_then}
use Rattle.pq_delta_reads.specs.Blocks.{StopsStrings, signed}
use Rattle.pq_delta_reads.proofs.Copying.{stops_at, takes_appended, takes_kept, takes_next}
use Rattle.pq_delta_reads.proofs.strings.push_strings.Goals as goal

pub returns-in_default-clause-err : goal.returns-in_default-clause-err
returns-in_default-clause-err c =
    let fits : SFits w64 c.cast_signed.result = search rules in
    let within : c.loop-i.i < length c.args.lengths.now = omega (arith, c.loop-i-test.true, c.requires) in
    inr (refl, stops_at c.args.count c.loop-i.i c.args.lengths.now c.args.bytes.now c.loop-i.rest.now c.args.out.now.items c.loop-i.out.items c.cast_signed.result c.loop-i-test.true within c.cast_signed.ensures c.loop-i.invariant (inl (rw (to_z-of_z w64 c.cast_signed.result fits) at c.in_default.ensures)))

pub returns-in_default-clause-kept : goal.returns-in_default-clause-kept
returns-in_default-clause-kept c = takes_kept (signed (take c.loop-i.i c.args.lengths.now)) c.args.bytes.now c.loop-i.rest.now c.args.out.now.items c.loop-i.out.items c.loop-i.invariant

pub returns-in_err-rest-clause-err : goal.returns-in_err-rest-clause-err
returns-in_err-rest-clause-err c =
    let fits : SFits w64 c.cast_signed.result = search rules in
    let within : c.loop-i.i < length c.args.lengths.now = omega (arith, c.loop-i-test.true, c.requires) in
    let size = rw (to_z-of_z w64 c.cast_signed.result fits) at c.in-Some.ensures in
    let P : Error → Type 0 = λ e. (e ≡ Memory) ⊎ ((e ≡ fault) × StopsStrings (signed (take c.args.count c.args.lengths.now)) c.args.bytes.now c.args.out.now.items) in
    let p : P c.in_err-rest.field-0.0 = elim c.in_err-rest.ensures.err [
      | inl memory ↦ inl memory
      | inr f ↦ inr (f.0, stops_at c.args.count c.loop-i.i c.args.lengths.now c.args.bytes.now c.loop-i.rest.now c.args.out.now.items c.loop-i.out.items c.cast_signed.result c.loop-i-test.true within c.cast_signed.ensures c.loop-i.invariant (inr (c.in-Some.size, size.0, f.1)))
    ] in
    passed_on P c.from_residual-in_err-rest.result c.in_err-rest.field-0.0 c.from_residual-in_err-rest.ensures.1 p

pub returns-in_err-rest-clause-kept : goal.returns-in_err-rest-clause-kept
returns-in_err-rest-clause-kept c = kept_then c.args.out.now.items c.loop-i.out.items c.push_string.new.out.items (takes_kept (signed (take c.loop-i.i c.args.lengths.now)) c.args.bytes.now c.loop-i.rest.now c.args.out.now.items c.loop-i.out.items c.loop-i.invariant) c.in_err-rest.ensures.kept

pub loop-i-init : goal.loop-i-init
loop-i-init c = takes_appended (signed (take c.put_strings-first.result.0 c.args.lengths.now)) c.args.bytes.now _ c.args.out.now.items c.extend_from_slice.new.self.items _ c.put_strings-first.ensures.takes c.in_ok-extend_from_slice.ensures.items

pub loop-i-preserved : goal.loop-i-preserved
loop-i-preserved c =
    let fits : SFits w64 c.cast_signed.result = search rules in
    let within : c.loop-i.i < length c.args.lengths.now = omega (arith, c.loop-i-test.true, c.requires) in
    let size = rw (to_z-of_z w64 c.cast_signed.result fits) at c.in-Some.ensures in
    takes_next c.loop-i.i c.args.lengths.now c.args.bytes.now c.loop-i.rest.now c.in_ok-rest.rest.now c.args.out.now.items c.loop-i.out.items c.push_string.new.out.items c.cast_signed.result c.in-Some.size within c.cast_signed.ensures c.loop-i.invariant size.0 size.1 c.in_ok-rest.ensures.ok

pub returns-clause-kept : goal.returns-clause-kept
returns-clause-kept c = takes_kept (signed (take c.loop-i.i c.args.lengths.now)) c.args.bytes.now c.loop-i.rest.now c.args.out.now.items c.loop-i.out.items c.loop-i.invariant
