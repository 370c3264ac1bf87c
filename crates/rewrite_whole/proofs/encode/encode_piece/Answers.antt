use Rattle.std.proofs.Common.{◌≡◌, ◌≢◌, ◌++◌, ◌∷◌, [], Some}
use Rattle.columns_base.specs.declared.error.Error.TheVariants.{Memory}
use Rattle.columns_core.specs.View.{schema_view}
use Rattle.rewrite_whole.specs.Groups.{IsOutput}
use Rattle.rewrite_whole.specs.Ready.{asked_of}
use Rattle.rewrite_whole.proofs.Encodes.{went_by, kept, refused_now, on_ok}
use Rattle.rewrite_whole.proofs.encode.encode_piece.Goals as goal

pub returns-in_default-clause-ok : goal.returns-in_default-clause-ok
returns-in_default-clause-ok c = λ chunks h. went_by c.args.job.now c.args.chunk chunks c.args.output.now c.in_default.field-0 c.in_default.is h

pub returns-in-Ok-clause-ok : goal.returns-in-Ok-clause-ok
returns-in-Ok-clause-ok c = λ chunks h. kept c.args.job.now c.args.chunk chunks c.args.output.now c.put.new.writer h c.in-None.is c.in-Ok.ensures.schema c.in-Ok.ensures.options c.in-Ok.ensures.ok

pub returns-in-Err-clause-ok : goal.returns-in-Err-clause-ok
returns-in-Err-clause-ok c = λ chunks h.
    on_ok c.keep.result ((c.keep.new.refusal ≡ Some c.in-Err.error) × (c.in-Err.error ≢ Memory)) (IsOutput (schema_view c.args.job.now.plan.now.schema) (asked_of c.args.job.now) (record { writer = c.put.new.writer; refusal = c.keep.new.refusal }) (chunks ++ c.args.chunk ∷ []))
    (λ k. refused_now c.args.job.now c.args.chunk chunks c.args.output.now c.put.new.writer c.keep.new.refusal c.in-Err.error h c.in-None.is c.in-Err.ensures.schema c.in-Err.ensures.options c.in-Err.ensures.err k) c.keep.ensures.ok
