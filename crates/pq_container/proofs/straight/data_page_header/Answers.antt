use Rattle.pq_tree.specs.Views.{v1_view}
use Rattle.pq_container.proofs.Fronts.{header_stands}
use Rattle.pq_container.proofs.straight.data_page_header.Goals as goal

pub returns-clause-found : goal.returns-clause-found
returns-clause-found c =
    header_stands
    (v1_view c.in_ok-header.header)
    c.in_ok-rest-3.field-0-0
    c.in_ok-compressed_page_size.compressed_page_size
    c.args.bytes.now
    c.in_ok-rest.rest.now
    c.in_ok-rest-2.rest.now
    c.in_ok-rest-3.rest.now
    c.in_ok-compressed_page_size.rest.now
    c.in_ok-rest-4.rest.now
    c.in_ok-header.rest.now
    c.in_ok-rest-5.rest.now
    c.in_ok-rest.ensures
    c.in_ok-rest-2.ensures
    c.in_ok-rest-3.ensures
    c.in_ok-compressed_page_size.ensures
    c.in_ok-rest-4.ensures
    c.in_ok-header.ensures.found
    c.in_ok-rest-5.ensures
