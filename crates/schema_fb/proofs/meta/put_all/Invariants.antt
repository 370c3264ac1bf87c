use Rattle.std.proofs.Common.{◌≡◌, []}
use Rattle.columns_core.specs.Meta.{texts}
use Rattle.schema_fb.specs.Reading.{put_all}
use Rattle.schema_fb.proofs.meta.put_all.Given as goal

abbrev pub invariant-loop-key : goal.invariant-loop-key
invariant-loop-key l = put_all l.metadata (texts l.key-iterator.rest.items) ≡ put_all [] (texts l.fn.entries.items)
