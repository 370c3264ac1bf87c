use Rattle.std.proofs.Common.{rules, SFits, w64, to_z-of_z}
use Rattle.pq_container.proofs.FooterFronts.{rows_stand}
use Rattle.pq_container.proofs.footer_bytes.rows.Goals as goal

pub returns : goal.returns
returns c =
    let size = c.in_ok-rest.field-0-0 in
    let fits : SFits w64 c.in_ok-num_rows.num_rows = search rules in
    (size, simp to_z-of_z (rows_stand size c.in_ok-num_rows.num_rows c.args.bytes.now c.in_ok-rest.rest.now c.in_ok-num_rows.rest.now c.in_ok-rest-2.rest.now c.in_ok-rest.ensures c.in_ok-num_rows.ensures c.in_ok-rest-2.ensures))
