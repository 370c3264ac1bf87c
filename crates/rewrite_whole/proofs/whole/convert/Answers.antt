use Rattle.columns_core.specs.View.{schema_view}
use Rattle.pq_tree.specs.TreeViews.{metadata_view}
use Rattle.pq_io.specs.PieceSinks.{pieces_taken}
use Rattle.rewrite_whole.specs.Asks.{asked_by, codec_of}
use Rattle.rewrite_whole.proofs.Middles.{nothing_shown}
use Rattle.rewrite_whole.proofs.Reasons.{from_file, from_schema, from_pages, from_finish, if_err}
use Rattle.rewrite_whole.proofs.Wholes.{footer_at, on_both, whole}
use Rattle.rewrite_whole.proofs.whole.convert.Goals as goal

pub returns-clause-ok : goal.returns-clause-ok
returns-clause-ok g c =
    let d = c.in_default-write_groups.ensures.ok in
    let f = footer_at c.args.input.now c.in_ok-place.place _ c.frames_are_told.ensures c.in-Ok.ensures.framed c.in_ok-place.ensures.ok c.in-Ok.ensures.found in
    on_both c.finish_output.result _ _
    (λ made p. whole (codec_of (g.C.SchemaCodec.bytes_of c.args.codec.now) (g.C.SchemaCodec.reads c.args.codec.now)) _ _ _ _ (pieces_taken made.0) made.1 c.written_is_converted.ensures d
    (record { fifth = record { fourth = record { third = record { footer = f; shallow = c.in-Ok.ensures.shallow }; few = c.in_ok-check_pairs.ensures.ok }; placed = c.in_default.ensures.ok }; infers = c.in-Ok-plan_schema.ensures.ok.infers; fits = c.in-Ok-plan_schema.ensures.ok.fits })
    p)
    (c.finish_output.ensures.ok d.chunks d.output_is)

pub returns-in-Err-clause-err : goal.returns-in-Err-clause-err
returns-in-Err-clause-err g c = from_file (codec_of (g.C.SchemaCodec.bytes_of c.args.codec.now) (g.C.SchemaCodec.reads c.args.codec.now)) (asked_by c.args.options.now) c.args.input.now c.in-Err.error c.in-Err.ensures.refused

pub returns-in-Err-plan_schema-clause-err : goal.returns-in-Err-plan_schema-clause-err
returns-in-Err-plan_schema-clause-err g c =
    let f = footer_at c.args.input.now c.in_ok-place.place (metadata_view c.in-Ok.metadata) c.frames_are_told.ensures c.in-Ok.ensures.framed c.in_ok-place.ensures.ok c.in-Ok.ensures.found in
    from_schema (codec_of (g.C.SchemaCodec.bytes_of c.args.codec.now) (g.C.SchemaCodec.reads c.args.codec.now)) (asked_by c.args.options.now) c.args.input.now c.in_ok-place.place (metadata_view c.in-Ok.metadata) c.in-Err-plan_schema.error
    (record { fourth = record { third = record { footer = f; shallow = c.in-Ok.ensures.shallow }; few = c.in_ok-check_pairs.ensures.ok }; placed = c.in_default.ensures.ok }) c.in-Err-plan_schema.ensures.refused

pub returns-in-Err-write_groups-clause-err : goal.returns-in-Err-write_groups-clause-err
returns-in-Err-write_groups-clause-err g c =
    let f = footer_at c.args.input.now c.in_ok-place.place (metadata_view c.in-Ok.metadata) c.frames_are_told.ensures c.in-Ok.ensures.framed c.in_ok-place.ensures.ok c.in-Ok.ensures.found in
    from_pages (codec_of (g.C.SchemaCodec.bytes_of c.args.codec.now) (g.C.SchemaCodec.reads c.args.codec.now)) (asked_by c.args.options.now) c.args.input.now c.in_ok-place.place (metadata_view c.in-Ok.metadata) (schema_view c.in-Ok-plan_schema.plan.schema) c.in-Err-write_groups.error
    (record { fifth = record { fourth = record { third = record { footer = f; shallow = c.in-Ok.ensures.shallow }; few = c.in_ok-check_pairs.ensures.ok }; placed = c.in_default.ensures.ok }; infers = c.in-Ok-plan_schema.ensures.ok.infers; fits = c.in-Ok-plan_schema.ensures.ok.fits }) c.in-Err-write_groups.ensures.err

pub returns-clause-err : goal.returns-clause-err
returns-clause-err g c =
    let d = c.in_default-write_groups.ensures.ok in
    let codec = codec_of (g.C.SchemaCodec.bytes_of c.args.codec.now) (g.C.SchemaCodec.reads c.args.codec.now) in
    let f = footer_at c.args.input.now c.in_ok-place.place _ c.frames_are_told.ensures c.in-Ok.ensures.framed c.in_ok-place.ensures.ok c.in-Ok.ensures.found in
    if_err c.finish_output.result _ _
    (λ e r. from_finish codec _ _ _ _ e c.outputs_are_refused.ensures d
    (record { fifth = record { fourth = record { third = record { footer = f; shallow = c.in-Ok.ensures.shallow }; few = c.in_ok-check_pairs.ensures.ok }; placed = c.in_default.ensures.ok }; infers = c.in-Ok-plan_schema.ensures.ok.infers; fits = c.in-Ok-plan_schema.ensures.ok.fits })
    r)
    (c.finish_output.ensures.err d.chunks d.output_is)

pub returns-in-Err-clause-grows : goal.returns-in-Err-clause-grows
returns-in-Err-clause-grows g c = nothing_shown (g.V.View.seen c.args.view.now)

pub returns-in_err-check_pairs-clause-grows : goal.returns-in_err-check_pairs-clause-grows
returns-in_err-check_pairs-clause-grows g c = nothing_shown (g.V.View.seen c.args.view.now)

pub returns-in_err-place-clause-grows : goal.returns-in_err-place-clause-grows
returns-in_err-place-clause-grows g c = nothing_shown (g.V.View.seen c.args.view.now)

pub returns-in-Err-check_groups-clause-grows : goal.returns-in-Err-check_groups-clause-grows
returns-in-Err-check_groups-clause-grows g c = nothing_shown (g.V.View.seen c.args.view.now)

pub returns-in-Err-plan_schema-clause-grows : goal.returns-in-Err-plan_schema-clause-grows
returns-in-Err-plan_schema-clause-grows g c = nothing_shown (g.V.View.seen c.args.view.now)

pub returns-in_err-output-clause-grows : goal.returns-in_err-output-clause-grows
returns-in_err-output-clause-grows g c = nothing_shown (g.V.View.seen c.args.view.now)
