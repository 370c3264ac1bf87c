-- The whole output of a whole input.
use Rattle.std.proofs.Common.{◌≡◌, ℕ, List, Option, map, Result, Ok, Err, sym, subst}
use Rattle.std.specs.Prelude.{IfOk}
use Rattle.columns_base.specs.declared.error.Error.{Error}
use Rattle.columns_core.specs.View.{schema_view}
use Rattle.pq_metadata.specs.Frame.{HasFrame, FramesAreTold, footer_place, footer_of, IsFramed}
use Rattle.pq_metadata.specs.Metadata.{IsFooterText}
use Rattle.pq_tree.specs.TreeViews.{metadata_view}
use Rattle.pq_metadata.specs.Footer.{Footer}
use Rattle.pq_numbers.specs.Texts.{Begins}
use Rattle.rewrite_notes.specs.declared.report.Report.{Report}
use Rattle.pq_headline.specs.Rewrites.{Codec, HasFooterAt}
use Rattle.pq_headline.specs.Stages.{Passes6}
use Rattle.pq_headline.specs.Arrays.{seen_in}
use Rattle.pq_headline.specs.Laws.{WrittenIsConverted}
use Rattle.pq_headline.specs.Rows.{Seen}
use Rattle.rewrite_whole.specs.Asks.{Gives}
use Rattle.rewrite_whole.specs.Ready.{DidAll, Finishes, asked_of, fields_in, tree_in}
use Rattle.rewrite_whole.specs.declared.job.Job.{Job}
use Rattle.rewrite_whole.specs.declared.output.Output.{Output}

pub footer_at : (input : List ℕ) (place : ℕ) (f : Footer) → FramesAreTold → HasFrame input → place ≡ footer_place input → Begins IsFooterText (footer_of input) f → HasFooterAt input place f
footer_at input place f law h e said = record {
  footer = footer_of input;
  framed = subst (λ k. IsFramed input k (footer_of input)) (sym e) (law.framed input h);
  said = said;
}

pub whole :
    (codec : Codec) (job : Job) (before now : Option (List (List Seen))) (output : Output) (file : List ℕ) (report : Report)
    → WrittenIsConverted → (d : DidAll job (metadata_view job.metadata.now).groups before now output)
    → Passes6 codec (asked_of job) job.input.now job.place (metadata_view job.metadata.now) (schema_view job.plan.now.schema)
    → Finishes codec job d.chunks file report
    → Gives codec (asked_of job) before now job.input.now file report
unfolding Gives
whole codec job before now output file report law d s p = (
  map seen_in d.chunks,
  record {
    place = job.place;
    footer = metadata_view job.metadata.now;
    has_footer = s.fifth.fourth.third.footer;
    schema = schema_view job.plan.now.schema;
    inferred = s.infers;
    outs = p.0;
    converts = law (asked_of job) (fields_in job) (tree_in job) job.input.now job.place (metadata_view job.metadata.now).groups d.chunks p.0 d.read p.1;
    packed = p.2.0;
    counted = p.2.1;
  },
  s,
  d.sees,
)

pub on_both : {A : Type 0} (r : Result A Error) (P Q : A → Type 0) → ((x : A) → P x → Q x) → IfOk r P → IfOk r Q
on_both (Ok x) P Q f h = f x h
on_both (Err e) P Q f h = tt
