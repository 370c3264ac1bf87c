use Rattle.std.proofs.Common.{◌≡◌, [], ◌∷◌, inl, refl}
use Rattle.columns_base.specs.declared.error.Error.TheVariants.{Memory}
use Rattle.pq_io.specs.PlainSinks.{plain_taken}
use Rattle.pq_tree.specs.declared.version.Version.TheVariants.{V1}
use Rattle.rewrite_whole.specs.Asks.{Gives}
use Rattle.sample_rows.specs.Rows.{sample_rows}
use Rattle.sample_run.proofs.Anew.{sample_rewritten, then, then_err}
use Rattle.sample_run.proofs.Sized.{memory_alone}
use Rattle.sample_run.proofs.call.rewrite_rows.Goals as goal
use Rattle.sample_run.specs.Files.{IsMade, plain_codec, sample_asked}
use Rattle.sample_run.specs.Refused.{IsNotRewritten}

pub returns-clause-ok : goal.returns-clause-ok
returns-clause-ok g c =
    let old = g.V.View.seen c.args.view.now in
    let new = g.V.View.seen c.rewrite_file.new.view in
    then (λ made. Gives plain_codec sample_asked old new c.args.input.items (plain_taken made.1) made.0) (λ made. IsMade c.args.count (plain_taken made.1) made.0 old new) c.rewrite_file.result (λ made given. sample_rewritten c.args.count c.args.input.items (plain_taken made.1) made.0 old new c.requires.few c.requires.file given) c.rewrite_file.ensures.ok

pub returns-clause-err : goal.returns-clause-err
returns-clause-err g c =
    then_err (IsNotRewritten c.args.input.items) (λ e. e ≡ Memory) c.rewrite_file.result
    (λ e h. memory_alone c.files_are_refused_for_size_alone.ensures c.samples_pass_no_size.ensures V1 (sample_rows c.args.count ∷ []) c.args.input.items e (record { count = c.args.count; few = c.requires.few; is = inl refl }) c.requires.file h) c.rewrite_file.ensures.err
