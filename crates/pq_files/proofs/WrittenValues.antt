-- What the Thrift values of written pages say.
use Rattle.std.proofs.Common.{◌≡◌, ℕ, ◌≤◌, pos, Option, Some, None, refl, arith}
use Rattle.std.specs.Prelude.{option_map}
use Rattle.pq_thrift.specs.Grammar.{depth}
use Rattle.pq_tree.specs.declared.version.Version.{Version}
use Rattle.pq_tree.specs.declared.version.Version.TheVariants.{V1, V2}
use Rattle.pq_metadata.specs.Header.{dictionary_page, SpellsHeader}
use Rattle.pq_files.specs.Layout.{OutPage}
use Rattle.pq_files.specs.Packed.{header_of, header_value}
use Rattle.pq_files.specs.Statistics.{Statistics}
use Rattle.pq_files.specs.Written.{statistics_of, dictionary_value}
use Rattle.pq_files.proofs.FooterNests.{some_statistics_nest}

header_says : (version : Version) (s : Option Statistics) (p : OutPage) (definition repetition size : ℕ) → p.statistics ≡ s →
    SpellsHeader (header_value version (record p { statistics = s }) definition repetition size) (record { header = header_of version p definition repetition; size = size })
header_says V1 None p definition repetition size e = record { header = (refl, _, refl, record { num_values = refl; encoding = refl; definition_encoding = refl; repetition_encoding = refl }); uncompressed = (Some (pos size), refl); size = refl }
header_says V1 (Some s) p definition repetition size e = record { header = (refl, _, refl, record { num_values = refl; encoding = refl; definition_encoding = refl; repetition_encoding = refl }); uncompressed = (Some (pos size), refl); size = refl }
header_says V2 None p definition repetition size e = record { header = (refl, _, refl, record { num_values = refl; num_nulls = (Some _, refl); num_rows = refl; encoding = refl; definition_length = refl; repetition_length = refl }); uncompressed = (Some (pos size), refl); size = refl }
header_says V2 (Some s) p definition repetition size e = record { header = (refl, _, refl, record { num_values = refl; num_nulls = (Some _, refl); num_rows = refl; encoding = refl; definition_length = refl; repetition_length = refl }); uncompressed = (Some (pos size), refl); size = refl }

pub header_is : (version : Version) (p : OutPage) (definition repetition size : ℕ) → SpellsHeader (header_value version p definition repetition size) (record { header = header_of version p definition repetition; size = size })
header_is version p definition repetition size = header_says version p.statistics p definition repetition size refl

pub dictionary_is : (n size : ℕ) → SpellsHeader (dictionary_value n size) (record { header = dictionary_page (record { num_values = n; encoding = pos 0 }); size = size })
dictionary_is n size = record { header = (refl, _, refl, record { num_values = refl; encoding = refl }); uncompressed = (Some (pos size), refl); size = refl }

-- ---- how deep they nest

pub header_nests : (version : Version) (p : OutPage) (definition repetition size : ℕ) → depth (header_value version p definition repetition size) ≤ 128
header_nests V1 p definition repetition size = omega (arith, some_statistics_nest 5 (option_map statistics_of p.statistics))
header_nests V2 p definition repetition size = omega (arith, some_statistics_nest 8 (option_map statistics_of p.statistics))

pub dictionary_nests : (n size : ℕ) → depth (dictionary_value n size) ≤ 128
dictionary_nests n size = omega arith
