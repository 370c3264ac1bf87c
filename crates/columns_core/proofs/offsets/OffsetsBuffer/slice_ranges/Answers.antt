use Rattle.columns_core.specs.Rising.{whole}
use Rattle.columns_core.proofs.Cuts.{places_seen}
use Rattle.columns_core.proofs.offsets.OffsetsBuffer.slice_ranges.Goals as goal

pub returns : goal.returns
returns g c = places_seen (λ o. whole (g.O.Offset.number o)) c.self.inside.values.value.items c.self.inside.start c.self.inside.size _ _ _ c.self.view_is c.requires
