use Rattle.std.proofs.Common.{◌≡◌}
use Rattle.pq_numbers.specs.Texts.{Begins}
use Rattle.pq_metadata.specs.FlatFooter.{flat_form}
use Rattle.pq_metadata.specs.Metadata.{IsFooterText}
use Rattle.pq_tree.specs.TreeViews.{metadata_view}
use Rattle.pq_tree.specs.Views.{flat_view}
use Rattle.pq_container.proofs.MetadataReads.{begins_footer}
use Rattle.pq_tree.proofs.Refusals.{if_ok_more}
use Rattle.pq_container.proofs.metadata.straight_metadata.Goals as goal

pub returns-clause-found : goal.returns-clause-found
returns-clause-found c =
    let flat = flat_view c.in_ok-footer.footer in
    if_ok_more c.metadata_of.result (λ m. flat_form (metadata_view m) ≡ flat) (λ m. Begins IsFooterText c.args.bytes.now (metadata_view m)) (λ m h. begins_footer c.args.bytes.now (metadata_view m) flat c.in_ok-footer.ensures.found h) c.metadata_of.ensures.found
