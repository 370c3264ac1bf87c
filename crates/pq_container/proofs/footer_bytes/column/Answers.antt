use Rattle.std.proofs.Common.{rules, SFits, w32, w64, to_z-of_z}
use Rattle.pq_container.proofs.FooterFronts.{column_stands}
use Rattle.pq_container.proofs.footer_bytes.column.Goals as goal

pub returns : goal.returns
returns c =
    let physical_fits : SFits w32 c.in_ok-physical_type.physical_type = search rules in
    let codec_fits : SFits w32 c.in_ok-codec.codec = search rules in
    let values_fit : SFits w64 c.in_ok-num_values.num_values = search rules in
    let size_fits : SFits w64 c.in_ok-total_compressed_size.total_compressed_size = search rules in
    let page_fits : SFits w64 c.in_ok-data_page_offset.data_page_offset = search rules in
    let encodings = c.in_ok-rest.ensures in
    let names = c.in_ok-rest-2.ensures in
    simp to_z-of_z
    (column_stands
    c.in_ok-physical_type.physical_type
    c.in_ok-codec.codec
    c.in_ok-num_values.num_values
    c.in_ok-rest-3.field-0-0
    c.in_ok-total_compressed_size.total_compressed_size
    c.in_ok-data_page_offset.data_page_offset
    c.in_ok-dictionary_page_offset.dictionary_page_offset
    c.in_ok-encodings.encodings
    c.in_ok-names.names
    encodings.0
    names.0
    c.args.bytes.now
    c.in_ok-physical_type.rest.now
    c.in_ok-encodings.rest.now
    c.in_ok-rest.rest.now
    c.in_ok-names.rest.now
    c.in_ok-rest-2.rest.now
    c.in_ok-codec.rest.now
    c.in_ok-num_values.rest.now
    c.in_ok-rest-3.rest.now
    c.in_ok-total_compressed_size.rest.now
    c.in_ok-data_page_offset.rest.now
    c.in_ok-dictionary_page_offset.rest.now
    c.in_ok-physical_type.ensures
    c.in_ok-encodings.ensures
    encodings.1
    c.in_ok-names.ensures
    names.1
    c.in_ok-codec.ensures
    c.in_ok-num_values.ensures
    c.in_ok-rest-3.ensures
    c.in_ok-total_compressed_size.ensures
    c.in_ok-data_page_offset.ensures
    c.in_ok-dictionary_page_offset.ensures)
