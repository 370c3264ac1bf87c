use Rattle.std.proofs.Common.{◌≡◌, List, sym, ap, ◌∙◌}
use Rattle.columns_core.specs.Meta.{texts}
use Rattle.schema_codec.specs.Ascending.{is_ascending, ascending_is}
use Rattle.schema_codec.proofs.Turns.{Entry}
use Rattle.schema_codec.proofs.meta.take_metadata.Goals as goal

pub metadata_from-requires : goal.metadata_from-requires
metadata_from-requires c =
    let same : is_ascending (texts c.in_ok-entries.entries.items) ≡ is_ascending (texts c.deref.result.now) = ap (λ (es : List Entry). is_ascending (texts es)) (sym c.deref.ensures.value) in
    ascending_is (texts c.in_ok-entries.entries.items) (same ∙ sym c.keys_ascend.ensures ∙ c.if-not-keys_ascend.false)
