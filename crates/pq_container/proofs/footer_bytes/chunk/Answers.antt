use Rattle.std.proofs.Common.{rules, SFits, w32, w64, to_z-of_z}
use Rattle.pq_container.proofs.FooterFronts.{chunk_stands}
use Rattle.pq_container.proofs.footer_bytes.chunk.Goals as goal

pub returns-clause-found : goal.returns-clause-found
returns-clause-found c =
    let column = c.in_ok-column.column in
    let physical_fits : SFits w32 c.in_ok-column.column.physical_type = search rules in
    let codec_fits : SFits w32 c.in_ok-column.column.codec = search rules in
    let values_fit : SFits w64 c.in_ok-column.column.num_values = search rules in
    let size_fits : SFits w64 c.in_ok-column.column.total_compressed_size = search rules in
    let page_fits : SFits w64 c.in_ok-column.column.data_page_offset = search rules in
    simp to_z-of_z
    (chunk_stands
    c.in_ok-rest.field-0-0
    column
    c.args.bytes.now
    c.in_ok-rest.rest.now
    c.in_ok-rest-2.rest.now
    c.in_ok-column.rest.now
    c.in_ok-rest-3.rest.now
    c.in_ok-rest.ensures
    c.in_ok-rest-2.ensures
    c.in_ok-column.ensures
    c.in_ok-rest-3.ensures)
