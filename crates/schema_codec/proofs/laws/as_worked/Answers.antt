use Rattle.std.proofs.Common.{refl}
use Rattle.schema_codec.specs.Spelling.{count_bytes, size_bytes}
use Rattle.schema_codec.specs.Reading.{truth_at, unit_at, interval_unit_at, key_type_at, tag_at, type_at}
use Rattle.schema_codec.proofs.laws.as_worked.Goals as goal

pub returns : goal.returns
unfolding count_bytes size_bytes truth_at unit_at interval_unit_at key_type_at tag_at type_at
returns c = record { schema = refl; zone = refl; size = refl; ids = refl; dictionary = refl; units = (refl, refl); interval = refl; decimal = refl; map = refl; no_truth = refl; no_unit = refl; no_interval = refl; no_key_type = refl; no_tag = refl; too_deep = refl; not_too_deep = refl; ascending = refl; descending = refl; twice = refl }
